-- What a book answered as it was to be opened, and the number that a server reports of it.
use Rattle.std.specs.Prelude.{ℕ, Option, Some, None, Result, Ok, Err}
use Rattle.book_history.specs.Fault.{code_of}
use Rattle.book_history.specs.declared.fault.BookFault.{BookFault}
use Rattle.overlay_server.specs.declared.opening.BookAnswer.{BookAnswer}

-- why a book was not opened, if it was not
abbrev pub fault_of : {B : Type 0} → Result B BookFault → Option BookFault
fault_of (Ok begun) = None
fault_of (Err fault) = Some fault

-- what a book answered: why it was not opened, if it was not
abbrev pub answer_in : BookAnswer → Option BookFault
answer_in answer = answer.fault

-- the number by which a server says why it did not run: the book's refusal's, or 40 where memory or a thread was refused
abbrev pub refusal_code : Option BookFault → ℕ
refusal_code None = 40
refusal_code (Some fault) = code_of fault
