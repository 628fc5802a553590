-- What a pass has found as a tile with its counts.
use Rattle.std.proofs.Common.{◌≡◌, ℕ, ◌≤◌, Bool, true, List, map, length, sym, subst, ◌∙◌}
use Rattle.std.proofs.lemmas.List.{length-map}
use Rattle.overlay_terms.specs.Plane.{Point, Segment}
use Rattle.overlay_terms.specs.Histories.{IsTileAt, pieces}
use Rattle.overlay_terms.specs.Tiles.{Input}
use Rattle.exact_point.specs.PlaceOf.{place_of}
use Rattle.crossing_sweep.specs.Crossed.{IsInner, IsCrossingAmong, AreCounted, HasFound}
use Rattle.crossing_sweep.specs.NodeNames.{named_ends}
use Rattle.crossing_sweep.specs.declared.node_name.NodeName.{NodeName}
use Rattle.crossing_sweep.specs.declared.row.Row.{Row}

module _ (input : Input) (cap : ℕ) (listed : Bool) (rows : List Row) (names : List NodeName) (nodes : ℕ) (tests : List (Segment × Segment)) (found : HasFound input cap listed rows names nodes tests) where
  pub counted_for : (P : Type 0) → (P → length rows ≤ cap) → AreCounted input P nodes
  counted_for P few = record {
    places = map place_of found.all;
    counted = found.counted ∙ sym (length-map found.all place_of);
    are_nodes = record { ordered = found.are_nodes.ordered; nodes = found.are_nodes.nodes; all = λ h. found.are_nodes.all (few h) };
  }

  pub crossings_for : listed ≡ true → (P : Type 0) → (P → length rows ≤ cap) → P → (p : Point) → IsInner input p → IsCrossingAmong tests p
  crossings_for yes_listed P few h = found.crossings yes_listed (few h)

  pub tile_for : length rows ≤ cap → (ends : List (Point × Point)) → ends ≡ map (named_ends names) rows → IsTileAt cap input (pieces ends)
  tile_for few ends e =
      subst (λ (es : List (Point × Point)). IsTileAt cap input (pieces es)) (sym e)
      (subst (λ j. j ≤ cap) (sym (length-map rows (named_ends names))) few, found.tile few)
