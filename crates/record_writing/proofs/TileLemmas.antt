-- What is written of a tile is its record.
use Rattle.std.proofs.Common.{◌≡◌, ℕ, ◌<◌, true, ◌&&◌, List, [], ◌++◌, refl, ap, ◌∙◌}
use Rattle.std.specs.Prelude.{nat_lt, IsTrue}
use Rattle.std.proofs.lemmas.Bool.{and_from, lt-ltb}
use Rattle.overlay_terms.specs.Column.{column_count}
use Rattle.overlay_terms.specs.Histories.{is_formed}
use Rattle.tile_build.specs.declared.tile.Tile.{Tile}
use Rattle.tile_build.specs.declared.tile.Tile.TheVariants.{Pieces, Oversize}
use Rattle.tile_build.specs.Tile as code
use Rattle.store_terms.specs.TileRecord.{column_of_tile, tile_by_places, IsTileRecord}
use Rattle.record_writing.specs.Putting.{IsPut}
use Rattle.record_writing.specs.Tiles.{named_by, unsieved}

pub its_number : (k : ℕ) (tile : Tile) → column_of_tile (named_by k tile) ≡ k
its_number k (Pieces list) = refl
its_number k Oversize = refl

pub its_tile : (k : ℕ) (tile : Tile) → tile_by_places (named_by k tile) ≡ code.tile_of tile
its_tile k (Pieces list) = refl
its_tile k Oversize = refl

-- what is written of a tile of its form is its record
pub written_is_record : (k : ℕ) (tile : Tile) (old new : List ℕ) → k < column_count
    → IsTrue (is_formed (code.tile_of tile) k) → old ≡ [] → IsPut unsieved (named_by k tile) old new
    → IsTileRecord k (code.tile_of tile) new
written_is_record k tile old new known form none put =
    let t = named_by k tile in
    let formed_so : is_formed (tile_by_places t) (column_of_tile t) ≡ true =
    (λ i. is_formed (its_tile k tile i) (its_number k tile i)) ∙ form in
    let known_so : nat_lt (column_of_tile t) column_count ≡ true =
    ap (λ (n : ℕ). nat_lt n column_count) (its_number k tile) ∙ lt-ltb k column_count known in
    record {
      named = t;
      fits = and_from (unsieved.fits t)
          (nat_lt (column_of_tile t) column_count && is_formed (tile_by_places t) (column_of_tile t)) put.fits
          (and_from (nat_lt (column_of_tile t) column_count)
          (is_formed (tile_by_places t) (column_of_tile t)) known_so formed_so);
      column = its_number k tile;
      is = its_tile k tile;
      spelled = put.spelled ∙ ap (λ (l : List ℕ). l ++ unsieved.text t) none;
    }
