-- The input of a tile is the part of its own column.
use Rattle.std.proofs.Common.{◌≡◌, ◌≤◌, zero, suc, Bool, true, List, [], ◌∷◌, filter, refl, ap, arith}
use Rattle.std.specs.Prelude.{All}
use Rattle.overlay_terms.specs.Column.{touches}
use Rattle.overlay_terms.specs.Layers.{Marked}
use Rattle.overlay_terms.specs.Tiles.{Input}
use Rattle.overlay_terms.specs.TileLaws.{IsInput}
use Rattle.crossing_sweep.specs.StripInput.{part, strip_of, IsStripInput}

-- where all pass a test, all are kept
kept_all : {X : Type 0} (p : X → Bool) (xs : List X) → All (λ x. p x ≡ true) xs → filter p xs ≡ xs
kept_all p [] all = refl
kept_all p (x ∷ xs) all = rw (all zero x (omega arith)) (ap (λ ys. x ∷ ys) (kept_all p xs (λ k d l. all (suc k) d (omega (arith, l)))))

pub own_part : (input : Input) → IsInput input → part (strip_of input) input.column ≡ input
own_part input is = λ i. record { column = input.column; marked = kept_all (λ (m : Marked). touches input.column m.segment) input.marked is.touch i; steps = input.steps }

pub own_strip : (input : Input) → IsInput input → IsStripInput (strip_of input)
own_strip input is = record {
  in_order = omega arith;
  known = is.column;
  few = is.few;
  known_layers = is.known_layers;
  proper = is.proper;
  even = is.even;
}
