-- What a server that could not run owes: its number, what is left of its book, and its store.
use Rattle.std.proofs.Common.{◌≡◌, ◌⊎◌, ◌∙◌, ◌<◌, inl, inr, ⊎_elim, refl, ℕ, Option, Some, None, IfSome, Result, Ok, Err, List, [], All, length, ap, sym, subst}
use Rattle.std.specs.Prelude.{IfErr, IsErrAnd}
use Rattle.disk_model.specs.declared.disk.Disk.{Ghosts}
use Rattle.std.proofs.lemmas.List.Elements.{All-nil}
use Rattle.overlay_terms.specs.Batches.{Batch}
use Rattle.overlay_terms.specs.Histories.{Entry, Version, commands_in}
use Rattle.flush_core.specs.declared.flusher.Flusher.{Flusher}
use Rattle.book_history.specs.Fault.{code_of, no_memory}
use Rattle.book_history.specs.declared.fault.BookFault.{BookFault}
use Rattle.book_history.specs.declared.fault.BookFault.TheVariants.{Gone}
use Rattle.overlay_server.specs.Answering.{answer_in, fault_of, refusal_code}
use Rattle.book_history.specs.Logs.{history_of, IsLog}
use Rattle.store_flushing.specs.ReportNote.{notes_in}
use Rattle.store_flushing.specs.declared.keeper.report_log.ReportNote.{ReportNote}
use Rattle.overlay_server.specs.Given.{Given}
use Rattle.overlay_server.specs.Refusing.{AreStopped, IsRefusedFrom, StoreComesBack}
use Rattle.overlay_server.specs.Serving.{first_log, store_from}
use Rattle.overlay_server.specs.declared.opening.BookAnswer.{BookAnswer}
use Rattle.overlay_server.specs.declared.outcome.ServerFault.{ServerFault}
use Rattle.overlay_server.proofs.StoppedParts.{none_stopped}

-- what a book may answer
abbrev pub MayAnswer : Option BookFault → Type 0
MayAnswer o = IfSome o (λ fault. (fault ≡ no_memory) ⊎ (fault ≡ Gone))

code_by : (o : Option BookFault) → MayAnswer o → (refusal_code o ≡ 40) ⊎ (refusal_code o ≡ 44)
code_by None may = inl refl
code_by (Some fault) may = ⊎_elim (λ is. inl (ap code_of is)) (λ is. inr (ap code_of is)) may

pub may_answer : {B : Type 0} (begun : Result B BookFault) (o : Option BookFault) → o ≡ fault_of begun → IfErr begun (λ fault. (fault ≡ no_memory) ⊎ (fault ≡ Gone)) → MayAnswer o
may_answer (Ok b) o is may = subst MayAnswer (sym is) tt
may_answer (Err fault) o is may = subst MayAnswer (sym is) may

-- what is said of an error holds of it as it is passed on
pub passed_on : {T E : Type 0} (P : E → Type 0) (r : Result T E) (x : E) → IsErrAnd r (λ (e : E). e ≡ x) → P x → IfErr r P
passed_on P (Ok y) x same is = tt
passed_on P (Err y) x same is = subst P (sym same) is

-- the number and the answer of a fault
pub record IsAnswered {D : Type 0} (fault : ServerFault D) (answer : BookAnswer) : Type 0 where
  pub code : fault.code ≡ refusal_code (answer_in answer)
  pub same : fault.answer ≡ answer
  pub may : MayAnswer (answer_in answer)

module _ {D : Type 0} (g : Ghosts D) (start : Version) (store : Option (Flusher D g)) (all : List Given) (fault : ServerFault D) where
  -- what is left of its book
  pub record IsHistoryLeft : Type 0 where
    pub log : IsLog fault.seen_log.log
    pub begins : (history_of fault.seen_log.log).start ≡ start
    pub only : All (λ (c : ℕ × Batch). c.0 < length fault.sessions.items) (commands_in (history_of fault.seen_log.log).entries)
    pub none : fault.sessions.items ≡ [] → commands_in (history_of fault.seen_log.log).entries ≡ []
    pub sessions : AreStopped (store_from g start store) start fault.seen_log.log all fault.sessions.items

  pub refused_from : (answer : BookAnswer) → IsAnswered fault answer → IsHistoryLeft → StoreComesBack g start fault.seen_log.log (notes_in fault.notes) store fault.disk
      → IsRefusedFrom g start store all fault
  refused_from answer answered left back = record {
    code = ⊎_elim (λ is. inl (answered.code ∙ is)) (λ is. inr (answered.code ∙ is)) (code_by (answer_in answer) answered.may);
    exactly = answered.code ∙ ap (λ (a : BookAnswer). refusal_code (answer_in a)) (sym answered.same);
    log = left.log;
    begins = left.begins;
    only = left.only;
    none = left.none;
    sessions = left.sessions;
    back = back;
  }

  -- no session was begun, and the history is the first version alone
  nothing_left : fault.seen_log.log ≡ first_log start → fault.sessions.items ≡ [] → IsHistoryLeft
  nothing_left first none = record {
    log = subst IsLog (sym first) (refl, tt);
    begins = ap (λ (es : List Entry). (history_of es).start) first;
    only = subst (λ (es : List Entry). All (λ (c : ℕ × Batch). c.0 < length fault.sessions.items) (commands_in (history_of es).entries)) (sym first)
        (All-nil (λ (c : ℕ × Batch). c.0 < length fault.sessions.items));
    none = λ _. ap (λ (es : List Entry). commands_in (history_of es).entries) first;
    sessions = none_stopped (store_from g start store) start fault.seen_log.log all fault.sessions.items fault.seen_log.book none;
  }

  pub refused_at_once : (answer : BookAnswer) → IsAnswered fault answer → fault.seen_log.log ≡ first_log start → notes_in fault.notes ≡ [] → fault.sessions.items ≡ []
      → StoreComesBack g start (first_log start) [] store fault.disk → IsRefusedFrom g start store all fault
  refused_at_once answer answered first unreported none back =
      refused_from answer answered (nothing_left first none)
      (subst (λ (ts : List ReportNote). StoreComesBack g start fault.seen_log.log ts store fault.disk) (sym unreported)
      (subst (λ (es : List Entry). StoreComesBack g start es [] store fault.disk) (sym first) back))
