use Rattle.std.proofs.Common.{◌≡◌, ◌<◌, ◌+◌, ◌∷◌, [], ◌++◌, take, length, sym, ◌∙◌, ap, rules}
use Rattle.std.proofs.lemmas.List.{take_more}
use Rattle.disk_model.specs.declared.mem_disk.Call.{Call}
use Rattle.disk_model.proofs.PlayedLemmas.{plays_more}
use Rattle.disk_model.proofs.image.image_of.Goals as goal

pub loop-call-preserved : goal.loop-call-preserved
loop-call-preserved c =
    let calls = c.args.calls.now in
    let i = c.loop-call.call-index in
    let call = c.call-item.result in
    let inside : i < length calls = search rules in
    let front : take (i + 1) calls ≡ take i calls ++ call ∷ [] = take_more calls i call inside ∙ ap (λ (x : Call). take i calls ++ x ∷ []) (sym c.call-item.is) in
    plays_more _ c.args.first.now calls i call _ front (c.in_ok-play.ensures _ c.loop-call.invariant)
