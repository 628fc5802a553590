-- What a shared book shows of itself.
use Rattle.std.specs.Prelude.{Bool}
use Rattle.book_history.specs.declared.seen_log.BookName.{Ghosts}
use Rattle.version_book.specs.declared.shared.Shared.{Shared}

module _ {J R : Type 0} {g : Ghosts J} where
  -- whether it has a store
  abbrev pub has_store : Shared J R g → Bool
  has_store shared = shared.store
