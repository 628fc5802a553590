-- How many batches sessions made.
use Rattle.std.specs.Prelude.{ℕ, List, length}
use Rattle.std.specs.List.{sum_by}
use Rattle.book_history.specs.Known.{Known}

abbrev pub made_in : List Known → ℕ
made_in sessions = sum_by (λ (session : Known). length session.made) sessions
