use Rattle.std.proofs.Common.{refl}
use Rattle.std.proofs.lemmas.Result.{IfOk-from_err, MatchResult-from_err}
use Rattle.version_book.proofs.held_tiles.HeldTiles.hand_out.Goals as goal

pub returns-in_err-clone : goal.returns-in_err-clone
returns-in_err-clone c =
    let bad = c.from_residual.ensures.0 in record { ok = IfOk-from_err _ _ bad; err = MatchResult-from_err _ _ _ bad (λ _. refl) }

pub returns-in_err-push : goal.returns-in_err-push
returns-in_err-push c =
    let bad = c.from_residual-in_err-push.ensures.0 in
    record { ok = IfOk-from_err _ _ bad; err = MatchResult-from_err _ _ _ bad (λ _. c.in_err-push.ensures.items) }
