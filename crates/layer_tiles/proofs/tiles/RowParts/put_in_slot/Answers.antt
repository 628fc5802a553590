use Rattle.std.proofs.Common.{◌≡◌, Some, length, nat_eq, refl, sym, arith}
use Rattle.std.proofs.lemmas.Bool.{eqb-true}
use Rattle.tile_build.specs.Tile.{named_pieces}
use Rattle.layer_tiles.proofs.LateLemmas.{none_weaker, put_beside}
use Rattle.layer_tiles.proofs.tiles.RowParts.put_in_slot.Goals as goal

pub returns-then-is_empty-clause-put : goal.returns-then-is_empty-clause-put
returns-then-is_empty-clause-put c =
    let late = c.args.self.now.late in
    let empty : late.len ≡ 0 = eqb-true late.len 0 (sym c.if-is_empty.ensures) in
    let none : length late.items ≡ 0 = omega (arith, empty, late.ok) in
    none_weaker c.put_in_slots.result
    (λ is. put_beside c.args.self.now.late.items c.args.self.now.slots.value.items c.put_in_slots.new.slots.value.items c.args.column (record { tile = Some c.args.tile }) (named_pieces c.args.tile.value) none is refl)
    c.put_in_slots.ensures.put
