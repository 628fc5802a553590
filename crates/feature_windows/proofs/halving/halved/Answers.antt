use Rattle.feature_windows.proofs.WindowLemmas.{halves_are}
use Rattle.feature_windows.proofs.halving.halved.Goals as goal

pub returns : goal.returns
returns c =
    halves_are c.args.part.now c.in_ok-first.first c.in_ok-second.second c.halves-low.result.0 c.halves-low.result.1 c.inner-own.result.now c.in_ok-lows.lows.items c.in_ok-highs.highs.items
    c.inner-own.ensures c.halves-low.ensures c.in_ok-lows.ensures c.in_ok-highs.ensures c.in_ok-first.ensures.core c.in_ok-first.ensures.layers c.in_ok-second.ensures.core c.in_ok-second.ensures.layers
