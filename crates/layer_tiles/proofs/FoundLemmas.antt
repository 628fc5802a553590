-- What is found after a command, and with a tile more, is of derived layers and has its form.
use Rattle.std.specs.Prelude.{◌≡◌, ℕ, ◌<◌, ◌==◌, Bool, true, false, IsTrue, List, ◌&&◌, bytes_eq, Option, Some, None, if◌then◌else◌}
use Rattle.std.proofs.Common.{refl, subst}
use Rattle.std.proofs.lemmas.Bool.{and_parts, eqb-true}
use Rattle.overlay_terms.specs.Column.{column_count}
use Rattle.overlay_terms.specs.Layers.{Name, Layer}
use Rattle.overlay_terms.specs.Commands.{Command, applied, stands_as_derived}
use Rattle.overlay_terms.specs.Touched.{is_touched}
use Rattle.overlay_terms.specs.Histories.{Tile, tile_at, is_formed}
use Rattle.overlay_terms.proofs.NameLemmas.{same_name}
use Rattle.overlay_terms.proofs.KeptCommands.{untouched_input_stays}
use Rattle.layer_tiles.specs.Table.{left_at, Laid, IsLaid}
use Rattle.layer_tiles.proofs.Tables.{found_with, IsFound}

-- the tiles that a command leaves are of derived layers that there are
fit_left : (layers : List Layer) (command : Command) (name : Name) (k : ℕ) (before : Option Tile) (tile : Tile) (b : Bool) → is_touched layers command name k ≡ b → (before ≡ Some tile → IsTrue (stands_as_derived layers name) × (k < column_count)) → (if b then None else before) ≡ Some tile → IsTrue (stands_as_derived (applied layers command) name) × (k < column_count)
fit_left layers command name k before tile true touched fit there = absurd (cc)
fit_left layers command name k before tile false out fit there =
    let old = fit there in
    (((untouched_input_stays layers command name k old.0).0 out).still_derived, old.1)

-- and have their form
formed_left : (b : Bool) (before : Option Tile) (tile : Tile) (k : ℕ) → (before ≡ Some tile → IsTrue (is_formed tile k)) → (if b then None else before) ≡ Some tile → IsTrue (is_formed tile k)
formed_left true before tile k valid there = absurd (cc)
formed_left false before tile k valid there = valid there

pub left_found : (laid : Laid) (command : Command) → IsLaid laid → IsFound (applied laid.layers command) (left_at laid command)
left_found laid command valid = record {
  fit = λ name k tile e. fit_left laid.layers command name k (tile_at laid.tiles name k) tile (is_touched laid.layers command name k) refl (valid.fit name k tile) e;
  formed = λ name k tile e. formed_left (is_touched laid.layers command name k) (tile_at laid.tiles name k) tile k (valid.formed name k tile) e;
}

-- one tile more, or in the place of another, of a derived layer and of its form
pub with_found : (laid : Laid) (name : Name) (column : ℕ) (tile : Tile) → IsLaid laid → stands_as_derived laid.layers name ≡ true → column < column_count → IsTrue (is_formed tile column) → IsFound laid.layers (found_with (tile_at laid.tiles) name column (Some tile))
with_found laid name column tile valid derived_layer known formed = record {
  fit = λ other k found e. fit_more other k found (bytes_eq name other && (column == k)) refl e;
  formed = λ other k found e. formed_more other k found (bytes_eq name other && (column == k)) refl e;
} where
  fit_more : (other : Name) (k : ℕ) (found : Tile) (b : Bool) → (bytes_eq name other && (column == k)) ≡ b → (if b then Some tile else tile_at laid.tiles other k) ≡ Some found → IsTrue (stands_as_derived laid.layers other) × (k < column_count)
  fit_more other k found true here e =
      let parts = and_parts (bytes_eq name other) (column == k) here in
      (subst (λ n. IsTrue (stands_as_derived laid.layers n)) (same_name name other parts.0) derived_layer, subst (λ j. j < column_count) (eqb-true column k parts.1) known)
  fit_more other k found false away e = valid.fit other k found e

  formed_more : (other : Name) (k : ℕ) (found : Tile) (b : Bool) → (bytes_eq name other && (column == k)) ≡ b → (if b then Some tile else tile_at laid.tiles other k) ≡ Some found → IsTrue (is_formed found k)
  formed_more other k found true here e =
      let same : tile ≡ found = cc in
      subst (λ t. IsTrue (is_formed t k)) same
      (subst (λ j. IsTrue (is_formed tile j)) (eqb-true column k (and_parts (bytes_eq name other) (column == k) here).1) formed)
  formed_more other k found false away e = valid.formed other k found e
