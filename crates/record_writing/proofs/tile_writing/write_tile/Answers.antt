use Rattle.std.proofs.Common.{◌≡◌, ◌<◌, ℕ, List, [], sym, subst}
use Rattle.std.specs.Prelude.{IsTrue}
use Rattle.store_terms.proofs.RecordLemmas.{tile_again}
use Rattle.overlay_terms.specs.Column.{column_count}
use Rattle.overlay_terms.specs.Histories.{is_formed}
use Rattle.store_terms.specs.TileRecord.{IsTileRecord}
use Rattle.tile_build.specs.declared.tile.Tile.{Tile}
use Rattle.tile_build.specs.Tile.{tile_of}
use Rattle.record_writing.specs.Putting.{IsPut}
use Rattle.record_writing.specs.Tiles.{named_by, unsieved}
use Rattle.record_writing.proofs.TileLemmas.{written_is_record}
use Rattle.record_writing.proofs.tile_writing.write_tile.Goals as goal

-- what is written under the number of a column is the record of a tile of the column
numbered : (k n : ℕ) (tile : Tile) (old new : List ℕ) → n ≡ k → n < column_count → IsTrue (is_formed (tile_of tile) k)
    → old ≡ [] → IsPut unsieved (named_by n tile) old new → IsTileRecord k (tile_of tile) new
numbered k n tile old new is known formed none put =
    subst (λ m. IsTileRecord m (tile_of tile) new) is
    (written_is_record n tile old new known (subst (λ m. IsTrue (is_formed (tile_of tile) m)) (sym is) formed) none put)

pub returns-clause-is_record : goal.returns-clause-is_record
returns-clause-is_record c =
    numbered c.args.column c.number.result c.args.tile.now c.new-out.result.items c.put_parts.new.out.items
    c.number.ensures.value c.number.ensures.small c.requires c.new-out.ensures.items c.in_ok-put_parts.ensures

pub returns-clause-reads_back : goal.returns-clause-reads_back
returns-clause-reads_back c =
    tile_again c.args.column c.put_parts.new.out.items (tile_of c.args.tile.now)
    (numbered c.args.column c.number.result c.args.tile.now c.new-out.result.items c.put_parts.new.out.items
    c.number.ensures.value c.number.ensures.small c.requires c.new-out.ensures.items c.in_ok-put_parts.ensures)
