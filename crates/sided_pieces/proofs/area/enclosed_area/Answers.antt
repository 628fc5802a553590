use Rattle.std.proofs.Common.{map, sym, subst}
use Rattle.std.proofs.lemmas.Option.{IfSome_then}
use Rattle.swept_area.specs.Pieces.{sided_from}
use Rattle.sided_pieces.specs.Sided.{IsNearArea}
use Rattle.sided_pieces.proofs.Supports.{supports_there}
use Rattle.sided_pieces.proofs.area.enclosed_area.Goals as goal

pub returns-clause-near : goal.returns-clause-near
returns-clause-near c =
    let pieces = map (sided_from c.args.by.now) c.args.pieces.now in
    let near = c.area_is_near.ensures pieces (supports_there c.args.by.now c.args.pieces.now c.requires) in
    IfSome_then c.swept_area.result c.swept_area.ensures.value (λ total is. subst (IsNearArea pieces) (sym is) near)
