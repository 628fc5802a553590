use Rattle.std.proofs.Common.{◌≡◌, Ok, sym, ◌∙◌, subst, rules}
use Rattle.store_terms.specs.declared.damage.Damage.TheVariants.{RecordPlace, TileForm}
use Rattle.store_terms.specs.Image.{or_fault}
use Rattle.store_terms.specs.TileRecord.{tile_of_record}
use Rattle.tile_build.specs.Tile.{tile_of}
use Rattle.root_reading.specs.Looking.{Gives}
use Rattle.root_reading.proofs.Fronts.{read_front}
use Rattle.root_reading.proofs.RecordLengths.{tile_cut}
use Rattle.root_reading.proofs.tiles.tile_at.Goals as goal

pub returns-in_default-clause-gives : goal.returns-in_default-clause-gives
returns-in_default-clause-gives g c honest =
    let items = c.in_ok-bytes.bytes.items in
    read_front 5373958 RecordPlace (g.D.Disk.seen c.args.disk.now) c.args.extent items TileForm
    (tile_of_record c.args.column) (λ bytes e. tile_cut c.args.column bytes items e) (c.in_ok-bytes.ensures.gives honest)
    ∙ (search rules)

pub returns-in_err-tile-clause-gives : goal.returns-in_err-tile-clause-gives
returns-in_err-tile-clause-gives g c honest =
    let items = c.in_ok-bytes.bytes.items in
    let same =
    read_front 5373958 RecordPlace (g.D.Disk.seen c.args.disk.now) c.args.extent items TileForm
    (tile_of_record c.args.column) (λ bytes e. tile_cut c.args.column bytes items e) (c.in_ok-bytes.ensures.gives honest) in
    subst (λ read. Gives (λ x. tile_of x.1) c.from_residual-in_err-tile.result read) (sym same) (search rules)

pub returns-clause-gives : goal.returns-clause-gives
returns-clause-gives g c honest =
    let items = c.in_ok-bytes.bytes.items in
    let same : c.in-Some.known ≡ c.args.column = search rules in
    read_front 5373958 RecordPlace (g.D.Disk.seen c.args.disk.now) c.args.extent items TileForm
    (tile_of_record c.args.column) (λ bytes e. tile_cut c.args.column bytes items e) (c.in_ok-bytes.ensures.gives honest)
    ∙ subst (λ k. or_fault TileForm (tile_of_record k items) ≡ Ok (tile_of c.in_ok-tile.tile)) same
    (rw c.deref.ensures.value at c.in_ok-tile.ensures)
