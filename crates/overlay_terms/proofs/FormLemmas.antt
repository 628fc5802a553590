-- The tile of an input has its form.
use Rattle.std.specs.Prelude.{◌≡◌, nat_le, true, ◌&&◌, List, [], ◌∷◌, length}
use Rattle.std.specs.List.{list_all, AllPairs}
use Rattle.std.specs.Ordering.{is_lt}
use Rattle.std.specs.declared.cmp.Ordering.TheVariants.{Less}
use Rattle.std.proofs.Common.{zero, suc, refl, ap, arith}
use Rattle.std.proofs.lemmas.Bool.{and_from, le-leb}
use Rattle.std.proofs.lemmas.List.Elements.{All-weaker}
use Rattle.std.proofs.lemmas.List.Sums.{list_all-from_AllPass}
use Rattle.overlay_terms.specs.Plane.{Point}
use Rattle.overlay_terms.specs.Column.{is_in_column}
use Rattle.overlay_terms.specs.Tiles.{Input, IsBoundary, pair_cmp}
use Rattle.overlay_terms.specs.Histories.{Tile, pieces, oversize, pieces_max, IsTileAt, is_rising_from, is_rising, is_formed}

-- pieces in order rise
rising_from : (a : Point × Point) (bs : List (Point × Point)) → AllPairs (λ p r. pair_cmp p r ≡ Less) (a ∷ bs) → is_rising_from a bs ≡ true
rising_from a [] ordered = refl
rising_from a (b ∷ bs) ordered =
    and_from (is_lt (pair_cmp a b)) (is_rising_from b bs) (ap is_lt (ordered zero (suc zero) a (omega arith) (omega arith)))
    (rising_from b bs (λ i j d less there. ordered (suc i) (suc j) d (omega arith) (omega arith)))

rising : (ends : List (Point × Point)) → AllPairs (λ p r. pair_cmp p r ≡ Less) ends → is_rising ends ≡ true
rising [] ordered = refl
rising (a ∷ bs) ordered = rising_from a bs ordered

-- the tile of an input has the form of one of its column
pub formed_at : (input : Input) (tile : Tile) → IsTileAt pieces_max input tile → is_formed tile input.column ≡ true
formed_at input (pieces ends) (few, is) =
    and_from (nat_le (length ends) pieces_max && list_all (λ e. is_in_column input.column e.0) ends) (is_rising ends)
    (and_from (nat_le (length ends) pieces_max) (list_all (λ e. is_in_column input.column e.0) ends) (le-leb (length ends) pieces_max few)
    (list_all-from_AllPass (λ (e : Point × Point). is_in_column input.column e.0) ends
    (All-weaker (λ (e : Point × Point). IsBoundary input.marked input.steps input.column e.0 e.1) (λ e. is_in_column input.column e.0 ≡ true) (λ e b. b.column) ends is.sound)))
    (rising ends is.ordered)
formed_at input oversize is = refl
