use Rattle.map_window.proofs.Maps.{told, told_as, told_few}
use Rattle.map_window.proofs.window.layer_of.Goals as goal

pub returns-in-Err-clause-err : goal.returns-in-Err-clause-err
returns-in-Err-clause-err c =
    told_as c.in-Err.fault c.from.result c.args.drawn.items c.from.ensures
    (told c.new.result c.in-Err.fault c.args.drawn.items c.in-Err.is c.requires c.new.ensures.refused c.new.ensures.accepted)

pub returns-in-Err-clause-few : goal.returns-in-Err-clause-few
returns-in-Err-clause-few c =
    told_few c.in-Err.fault c.from.result c.args.drawn.items c.from.ensures
    (told c.new.result c.in-Err.fault c.args.drawn.items c.in-Err.is c.requires c.new.ensures.refused c.new.ensures.accepted)
