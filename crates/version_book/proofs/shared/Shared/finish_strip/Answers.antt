use Rattle.std.proofs.Common.{ap}
use Rattle.version_book.specs.Strips.{HandedStrip}
use Rattle.version_book.proofs.shared.Shared.finish_strip.Goals as goal

pub returns-in-Err : goal.returns-in-Err
returns-in-Err g c =
    let e = c.in-Err.ensures.err in
    record { finished = tt; log = tt; err = e.0; refused = c.in-Err.ensures.refused; same = ap (λ (s : HandedStrip). s.book) e.0 }
