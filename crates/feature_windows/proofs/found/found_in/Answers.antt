use Rattle.std.proofs.Common.{[], refl, w64}
use Rattle.std.proofs.lemmas.Int.{to_z-of_z}
use Rattle.feature_windows.proofs.SumLemmas.{windows_more, windows_all}
use Rattle.feature_windows.proofs.found.found_in.Goals as goal

pub loop-window-init : goal.loop-window-init
loop-window-init c = record { parts = []; each = tt; twice = refl }

pub loop-window-preserved : goal.loop-window-preserved
loop-window-preserved c =
    windows_more c.args.windows.now c.args.steps.now _ _ c.loop-window.window-index c.window-item.result c.loop-window.all c.in_ok-one.one _ c.loop-window-test.true
    c.window-item.is c.loop-window.invariant c.in_ok-one.ensures c.in_ok-all.ensures

pub returns : goal.returns
returns c =
    windows_all c.args.windows.now c.args.steps.now c.loop-window.window-index _ _ c.args.x c.args.y c.loop-window.all c.loop-window-test.false
    (to_z-of_z w64 c.args.x c.ranges.x) (to_z-of_z w64 c.args.y c.ranges.y) c.loop-window.invariant
