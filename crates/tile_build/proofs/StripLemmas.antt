-- What a pass over a strip has found, as the tiles of its columns.
use Rattle.std.proofs.Common.{◌≡◌, ℕ, ◌+◌, ◌<◌, ◌≤◌, Bool, List, [], ◌∷◌, ◌++◌, filter, length, get_or, refl, sym, subst, ap, ◌∙◌, inl, inr, ◌⊎◌, arith}
use Rattle.std.specs.Prelude.{IsTrue, All, not}
use Rattle.std.proofs.lemmas.List.{get_or_append_left, get_or_push}
use Rattle.std.proofs.lemmas.List.Filters.{length-filter_both}
use Rattle.std.proofs.lemmas.List.Elements.{All-weaker}
use Rattle.std.proofs.Math.ListN.{length-append}
use Rattle.overlay_terms.specs.Plane.{Point}
use Rattle.overlay_terms.specs.Column.{is_in_column}
use Rattle.overlay_terms.specs.Histories.{Tile, pieces, IsTileAt}
use Rattle.overlay_terms.specs.Tiles.{Input}
use Rattle.crossing_sweep.specs.StripInput.{is_in_strip, StripInput, part, IsStripInput, IsStripBoundary, IsStripTile}
use Rattle.crossing_sweep.proofs.StripParts.{strip_parts}
use Rattle.tile_build.specs.StripTiles.{AreUpTo}
use Rattle.tile_build.proofs.StripSplit.{which}

-- fewer pass a test
kept_few : {X : Type 0} (p : X → Bool) (xs : List X) → length (filter p xs) ≤ length xs
kept_few p xs = omega (arith, length-filter_both p (λ x. not (p x)) (λ x. refl) xs)

-- each piece in a strip begins there
pub all_within : (input : StripInput) (ends : List (Point × Point)) → IsStripTile input ends → All (λ a. IsTrue (is_in_strip input.strip a.0)) ends
all_within input ends tile =
    All-weaker (λ (a : Point × Point). IsStripBoundary input.marked input.steps input.strip a.0 a.1) (λ (a : Point × Point). IsTrue (is_in_strip input.strip a.0)) (λ a b. b.begins) ends tile.are_some.sound

-- of all pieces in a strip those that begin in a column are its tile
pub own_tile : (cap : ℕ) (input : StripInput) (ends some : List (Point × Point)) (k : ℕ) → IsStripInput input → IsStripTile input ends → length ends ≤ cap → input.strip.first ≤ k → k ≤ input.strip.last
    → some ≡ filter (λ a. is_in_column k a.0) ends → IsTileAt cap (part input k) (pieces some)
own_tile cap input ends some k valid tile few from to are =
    subst (λ (es : List (Point × Point)). IsTileAt cap (part input k) (pieces es)) (sym are) (
      omega (arith, few, kept_few (λ (a : Point × Point). is_in_column k a.0) ends),
      strip_parts input ends k valid tile from to,
    )

-- ---- tiles of the first columns
pub none_up_to : (input : StripInput) (number : ℕ) (built : List (Input × Tile)) → number ≡ input.strip.first → built ≡ [] → AreUpTo input number built
none_up_to input number built first none = record { each = counted; inputs = λ i d l. absurd (omega (arith, l, empty)) }
  where
    empty : length built ≡ 0
    empty = ap length none

    counted : length built + input.strip.first ≡ number
    counted = omega (arith, first, empty)

pub more_up_to : (input : StripInput) (number : ℕ) (built more : List (Input × Tile)) (one : Input × Tile) → AreUpTo input number built → one.0 ≡ part input number → more ≡ built ++ one ∷ [] → AreUpTo input (number + 1) more
more_up_to input number built more one are is added = subst (AreUpTo input (number + 1)) (sym added) pushed
  where
    by : (i : ℕ) (d : Input × Tile) → (i < length built) ⊎ (length built ≡ i) → (get_or (built ++ one ∷ []) i d).0 ≡ part input (input.strip.first + i)
    by i d (inl m) = ap (λ (b : Input × Tile). b.0) (get_or_append_left built (one ∷ []) d i m) ∙ are.inputs i d m
    by i d (inr e) =
        let there : number ≡ input.strip.first + i = omega (arith, are.each, e) in
        ap (λ (b : Input × Tile). b.0) (get_or_push built one d i e) ∙ is ∙ ap (part input) there

    pushed : AreUpTo input (number + 1) (built ++ one ∷ [])
    pushed = record {
      each = omega (arith, are.each, length-append built (one ∷ []));
      inputs = λ i d l. by i d (which i (length built) (omega (arith, l, length-append built (one ∷ []))));
    }
