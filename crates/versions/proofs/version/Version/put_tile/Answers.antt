use Rattle.overlay_terms.specs.Tiles.{input_of}
use Rattle.overlay_terms.proofs.FormLemmas.{formed_at}
use Rattle.tile_build.specs.Tile.{tile_of}
use Rattle.versions.proofs.version.Version.put_tile.Goals as goal

pub put_in_table-requires-clause-formed : goal.put_in_table-requires-clause-formed
put_in_table-requires-clause-formed c = formed_at (input_of c.args.self.now.layers c.args.name.now c.args.column) (tile_of c.args.tile.value) c.requires.right
