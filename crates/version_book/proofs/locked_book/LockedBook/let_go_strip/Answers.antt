use Rattle.std.proofs.Common.{refl, rules}
use Rattle.version_book.proofs.locked_book.LockedBook.let_go_strip.Goals as goal

pub returns : goal.returns
returns g c =
    let e = c.strip_taken_in.ensures in
    record { log = refl; state = record { held = search rules; fault = e.fault; resting = e.resting; closing = e.closing; news = e.news } }
