-- From what the lock's methods say of the log to what a call says of histories.
use Rattle.std.proofs.Common.{◌≡◌, ◌⊎◌, inl, inr, ℕ, ◌<◌, ◌≤◌, Bool, true, List, [], ◌∷◌, ◌++◌, length, refl, ap, sym, ◌∙◌, subst, arith, append_assoc, Option, Some, None, IfSome, IfNone, Result, Ok, Err, IfOk, IfErr}
use Rattle.std.specs.Prelude.{IsErrAnd}
use mathlib.Core.List.{IsPrefix}
use Rattle.std.specs.Option.{option_map}
use Rattle.overlay_terms.specs.Commands.{Command, Refusal, unknown_layer, not_base, not_derived, later_layer, in_use, too_many_layers, version_limit}
use Rattle.overlay_terms.specs.Batches.{Batch, BatchRefusal, at, whole as wholly, batch_refusal_at}
use Rattle.overlay_terms.specs.Layers.{Name}
use Rattle.overlay_terms.specs.Histories.{Version, Entry, accepted, newest, BeginsWith, IsHistory}
use Rattle.book_history.specs.Logs.{entry, newest_in, history_of, IsAccepted, IsLog}
use Rattle.layer_book.specs.BatchFault.{batch_fault_of, code_for, code_of as batch_code}
use Rattle.layer_book.specs.declared.batch_fault.BatchFault.{BatchFault}
use Rattle.versions.specs.declared.fault.VersionFault.{VersionFault}
use Rattle.book_history.specs.Fault.{IsBatchRefused, IsCommandRefused, RefusesBatch, RefusesCommand, whole}
use Rattle.book_history.specs.Known.{Known, seen, IsOwn, LeavesSession}
use Rattle.book_lock.specs.Refused.{batch_fault, command_fault}
use Rattle.book_lock.specs.declared.refused.Refused.{Refused}
use Rattle.book_lock.specs.declared.refused.Refused.TheVariants.{Gone, Closing, Version as Refuses}
use Rattle.book_lock.specs.Steps.{HasLooked, IsAcceptedIn, IsRefusedIn, IsReportedIn}
use Rattle.book_lock.specs.Heard.{Heard, HasHeard, IsReportedBy}
use Rattle.version_book.specs.Waits.{IsSyncRefused, IsSyncRefusedAt, IsWaitRefused, Looks}
use Rattle.version_book.specs.declared.book_state.BookState.{BookState}
use Rattle.book_history.specs.declared.fault.BookFault.{BookFault}
use Rattle.book_history.specs.declared.fault.BookFault.TheVariants as fault
use Rattle.book_history.proofs.Chains.{begins_with, commands_in_log, is_history}
use Rattle.book_history.proofs.Fronts.{prefix_self, prefix_trans}
use Rattle.book_lock.proofs.Growing.{report_longer, report_reaches}

-- a log that goes on by some entries is that of a history that does
history_more : (was old new : List Entry) (e : Entry) (p : IsPrefix was old) → 0 < length was → new ≡ old ++ e ∷ []
    → history_of new ≡ record { start = (history_of was).start; entries = (history_of was).entries ++ (p.0 ++ e ∷ []) }
history_more [] old new e p long is = absurd (omega arith)
history_more (x ∷ xs) old new e p long is =
    ap history_of (is ∙ ap (λ l. l ++ e ∷ []) (sym p.1) ∙ append_assoc (x ∷ xs) p.0 (e ∷ []))

-- a session that has looked goes on from what it saw, and keeps what it made
looked_goes : (was now : Known) (log : List Entry) → 0 < length was.log → HasLooked was log now → BeginsWith (seen now) (seen was)
looked_goes was now log long h = begins_with was.log now.log long (subst (λ (k : Known). IsPrefix was.log k.log) (sym h.knows) h.longer)

same_goes : (was now : Known) → 0 < length was.log → now ≡ was → BeginsWith (seen now) (seen was)
same_goes was now long same = begins_with was.log now.log long (subst (λ (k : Known). IsPrefix was.log k.log) (sym same) (prefix_self was.log))

looked_history : (was now : Known) (log : List Entry) → HasLooked was log now → IsHistory (seen now)
looked_history was now log h = subst (λ (k : Known). IsHistory (seen k)) (sym h.knows) (is_history log h.valid)

same_history : (was now : Known) → IsLog was.log → now ≡ was → IsHistory (seen now)
same_history was now valid same = subst (λ (k : Known). IsHistory (seen k)) (sym same) (is_history was.log valid)

pub looked_own : (was now : Known) (log : List Entry) → HasLooked was log now → IsOwn now
looked_own was now log h = subst IsOwn (sym h.knows) (sym (commands_in_log was.session log h.valid) ∙ h.own)

looked_at : (was now : Known) (log : List Entry) → HasLooked was log now → newest (seen now) ≡ newest_in log
looked_at was now log h = ap (λ (k : Known). newest (seen k)) h.knows

looked_same : (was now : Known) (log : List Entry) → HasLooked was log now
    → (now.book ≡ was.book) × (now.session ≡ was.session) × (now.made ≡ was.made)
looked_same was now log h = (ap (λ k. k.book) h.knows, ap (λ k. k.session) h.knows, ap (λ k. k.made) h.knows)

looked_leaves : {F : Type 0} (gone f : F) (was now : Known) (log : List Entry) → ¬ (f ≡ gone) → HasLooked was log now
    → LeavesSession gone was now f
looked_leaves gone f was now log other h = inr (other, ap (λ k. k.made) h.knows, looked_own was now log h)

-- the fault is one at the newest version that was seen
at_fault : (f : BookFault) (was now : Known) (log : List Entry) (Q : Version → BookFault → Type 0)
    → ((v : Version) → Q v fault.Gone) → Q (newest_in log) f → Looks (Err f) was log now → Q (newest (seen now)) f
at_fault f was now log Q gone q (inl there) = subst (Q (newest (seen now))) (sym there.0) (gone _)
at_fault f was now log Q gone q (inr there) = subst (λ v. Q v f) (sym (looked_at was now log there.1)) q

-- ---- of a call that only looks
module _ (was now : Known) (log : List Entry) where
  pub looks_goes : (r : Result ℕ BookFault) → 0 < length was.log → Looks r was log now → BeginsWith (seen now) (seen was)
  looks_goes (Ok n) long h = looked_goes was now log long h
  looks_goes (Err f) long (inl h) = same_goes was now long h.1
  looks_goes (Err f) long (inr h) = looked_goes was now log long h.1

  pub looks_same : (r : Result ℕ BookFault) → Looks r was log now → (now.book ≡ was.book) × (now.session ≡ was.session) × (now.made ≡ was.made)
  looks_same (Ok n) h = looked_same was now log h
  looks_same (Err f) (inl h) = (ap (λ k. k.book) h.1, ap (λ k. k.session) h.1, ap (λ k. k.made) h.1)
  looks_same (Err f) (inr h) = looked_same was now log h.1

  pub looks_own : (r : Result ℕ BookFault) → Looks r was log now → IfOk r (λ _. IsOwn now)
  looks_own (Ok n) h = looked_own was now log h
  looks_own (Err f) h = tt

  pub looks_reported : (r : Result ℕ BookFault) (P : List Entry → Type 0) → Looks r was log now → IfOk r (λ _. P log) → IfOk r (λ _. P now.log)
  looks_reported (Ok n) P h reported = subst (λ (k : Known). P k.log) (sym h.knows) reported
  looks_reported (Err f) P h reported = tt

  pub looks_failed : (r : Result ℕ BookFault) (P : List Entry → BookFault → Type 0) → ((l : List Entry) → P l fault.Gone) → Looks r was log now → IfErr r (P log) → IfErr r (P now.log)
  looks_failed (Ok n) P gone h failed = tt
  looks_failed (Err f) P gone (inl h) failed = subst (P now.log) (sym h.0) (gone now.log)
  looks_failed (Err f) P gone (inr h) failed = subst (λ (k : Known). P k.log f) (sym h.1.knows) failed

  pub looks_history : (r : Result ℕ BookFault) → IsLog was.log → Looks r was log now → IsHistory (seen now)
  looks_history (Ok n) valid h = looked_history was now log h
  looks_history (Err f) valid (inl h) = same_history was now valid h.1
  looks_history (Err f) valid (inr h) = looked_history was now log h.1

  pub looks_err : (r : Result ℕ BookFault) → Looks r was log now → IfErr r (LeavesSession fault.Gone was now)
  looks_err (Ok n) h = tt
  looks_err (Err f) (inl h) = inl h
  looks_err (Err f) (inr h) = looked_leaves fault.Gone f was now log h.0 h.1

  pub looks_ok : (r : Result ℕ BookFault) (P : Version → ℕ → Type 0) → Looks r was log now → IfOk r (λ n. P (newest_in log) n) → IfOk r (λ n. P (newest (seen now)) n)
  looks_ok (Ok n) P h p = subst (λ v. P v n) (sym (looked_at was now log h)) p
  looks_ok (Err f) P h p = tt

  pub looks_refused : (r : Result ℕ BookFault) (Q : Version → BookFault → Type 0) → ((v : Version) → Q v fault.Gone)
      → Looks r was log now → IfErr r (λ f. Q (newest_in log) f) → IfErr r (λ f. Q (newest (seen now)) f)
  looks_refused (Ok n) Q gone h q = tt
  looks_refused (Err f) Q gone h q = at_fault f was now log Q gone q h

-- ---- of the numbers of a batch's faults
closing_other : whole fault.Closing ≡ whole fault.Gone → ⊥
closing_other is = let n : 43 ≡ 44 = ap batch_code is in absurd (omega (arith, n))

reason_other : (reason : Refusal) → code_for reason ≡ 44 → ⊥
reason_other unknown_layer e = let n : 10 ≡ 44 = e in absurd (omega (arith, n))
reason_other not_base e = let n : 11 ≡ 44 = e in absurd (omega (arith, n))
reason_other not_derived e = let n : 12 ≡ 44 = e in absurd (omega (arith, n))
reason_other later_layer e = let n : 13 ≡ 44 = e in absurd (omega (arith, n))
reason_other in_use e = let n : 14 ≡ 44 = e in absurd (omega (arith, n))
reason_other too_many_layers e = let n : 15 ≡ 44 = e in absurd (omega (arith, n))
reason_other version_limit e = let n : 16 ≡ 44 = e in absurd (omega (arith, n))

refusal_other : (refusal : BatchRefusal) → batch_code (batch_fault_of refusal) ≡ 44 → ⊥
refusal_other (at place reason) e = reason_other reason e
refusal_other (wholly reason) e = reason_other reason e

refused_as : (o : Option BatchRefusal) (f : BatchFault) → option_map batch_fault_of o ≡ Some f
    → (refusal : BatchRefusal) × (f ≡ batch_fault_of refusal)
refused_as None f e = absurd (cc)
refused_as (Some refusal) f e = (refusal, cc)

-- a version does not refuse a batch by the fault of a book that is gone
not_gone : (v : Version) (b : Batch) (f : BatchFault) → RefusesBatch v b f → f ≡ whole fault.Gone → ⊥
not_gone v b f (inl memory) gone =
    let n : 40 ≡ 44 = sym (ap batch_code memory.0) ∙ ap batch_code gone in
    absurd (omega (arith, n))
not_gone v b f (inr by) gone =
    let r = refused_as (batch_refusal_at v.number v.layers b) f by in
    refusal_other r.0 (sym (ap batch_code r.1) ∙ ap batch_code gone)

-- ---- of what a session submits
module _ (was now : Known) (log after : List Entry) (batch : Batch) (n : ℕ) (a : IsAcceptedIn log was batch after now n) where
  abbrev last : Entry
  last = entry (accepted was.session batch) (newest_in after)

  abbrev end : now.log ≡ after
  end = ap (λ k. k.log) a.knows

  pub accepted_goes : 0 < length was.log → BeginsWith (seen now) (seen was)
  accepted_goes long =
      let more = prefix_trans was.log log (log ++ last ∷ []) a.longer (last ∷ [], refl) in
      begins_with was.log now.log long (subst (IsPrefix was.log) (sym (end ∙ a.added)) more)

  pub accepted_history : IsHistory (seen now)
  accepted_history = subst (λ l. IsHistory (history_of l)) (sym end) (is_history after a.valid)

  pub accepted_last : 0 < length was.log → IsAccepted was.session (seen was) batch (seen now) n
  accepted_last long = record {
    between = a.longer.0;
    version = newest_in after;
    goes_on = history_more was.log log now.log last a.longer long (end ∙ a.added);
    numbered = a.numbered;
  }

  pub accepted_own : IsOwn now
  accepted_own = subst IsOwn (sym a.knows) (sym (commands_in_log was.session after a.valid) ∙ a.own)

-- a session that is refused has looked, or is as it was
abbrev Ended : Known → Known → List Entry → Type 0
Ended was now log = (now ≡ was) ⊎ HasLooked was log now

module _ (was now : Known) (log : List Entry) where
  refused_ended : {F : Type 0} (refuses : Version → F → Type 0) (r : Refused F) → IsRefusedIn log was refuses true r now
      → Ended was now log
  refused_ended refuses Gone same = inl same
  refused_ended refuses Closing h = inr h.1
  refused_ended refuses (Refuses f) h = inr h.1

  ended_goes : 0 < length was.log → Ended was now log → BeginsWith (seen now) (seen was)
  ended_goes long (inl same) = same_goes was now long same
  ended_goes long (inr looked) = looked_goes was now log long looked

  ended_history : IsLog was.log → Ended was now log → IsHistory (seen now)
  ended_history valid (inl same) = same_history was now valid same
  ended_history valid (inr looked) = looked_history was now log looked

  ended_same : Ended was now log → (now.book ≡ was.book) × (now.session ≡ was.session)
  ended_same (inl same) = (ap (λ k. k.book) same, ap (λ k. k.session) same)
  ended_same (inr looked) = (ap (λ k. k.book) looked.knows, ap (λ k. k.session) looked.knows)

  pub refused_goes : {F : Type 0} (refuses : Version → F → Type 0) (r : Refused F) → 0 < length was.log
      → IsRefusedIn log was refuses true r now → BeginsWith (seen now) (seen was)
  refused_goes refuses r long h = ended_goes long (refused_ended refuses r h)

  pub refused_history : {F : Type 0} (refuses : Version → F → Type 0) (r : Refused F) → IsLog was.log
      → IsRefusedIn log was refuses true r now → IsHistory (seen now)
  refused_history refuses r valid h = ended_history valid (refused_ended refuses r h)

  pub refused_same : {F : Type 0} (refuses : Version → F → Type 0) (r : Refused F) → IsRefusedIn log was refuses true r now
      → (now.book ≡ was.book) × (now.session ≡ was.session)
  refused_same refuses r h = ended_same (refused_ended refuses r h)

  pub command_leaves : (refuses : Version → VersionFault → Type 0) (r : Refused VersionFault) → IsRefusedIn log was refuses true r now
      → LeavesSession fault.Gone was now (command_fault r)
  command_leaves refuses Gone same = inl (refl, same)
  command_leaves refuses Closing h = looked_leaves fault.Gone fault.Closing was now log (λ is. absurd (cc)) h.1
  command_leaves refuses (Refuses f) h = looked_leaves fault.Gone (fault.Version f) was now log (λ is. absurd (cc)) h.1

  pub command_refused : (c : Command) (r : Refused VersionFault) → IsRefusedIn log was (λ v. RefusesCommand v c) true r now
      → IsCommandRefused true (newest (seen now)) c (command_fault r)
  command_refused c Gone same = tt
  command_refused c Closing h = refl
  command_refused c (Refuses f) h = subst (λ v. RefusesCommand v c f) (sym (looked_at was now log h.1)) h.0

  pub batch_leaves : (b : Batch) (r : Refused BatchFault) → IsRefusedIn log was (λ v. RefusesBatch v b) true r now
      → LeavesSession (whole fault.Gone) was now (batch_fault r)
  batch_leaves b Gone same = inl (refl, same)
  batch_leaves b Closing h = looked_leaves (whole fault.Gone) (whole fault.Closing) was now log closing_other h.1
  batch_leaves b (Refuses f) h = looked_leaves (whole fault.Gone) f was now log (not_gone (newest_in log) b f h.0) h.1

  pub batch_refused : (b : Batch) (r : Refused BatchFault) → IsRefusedIn log was (λ v. RefusesBatch v b) true r now
      → IsBatchRefused true (newest (seen now)) b (batch_fault r)
  batch_refused b Gone same = inl refl
  batch_refused b Closing h = inr (inl (refl, refl))
  batch_refused b (Refuses f) h = inr (inr (subst (λ v. RefusesBatch v b f) (sym (looked_at was now log h.1)) h.0))

-- a reporter that is as it was has seen a history
unheard_history : (was now : Heard) → IsLog was.log → now ≡ was → IsHistory (history_of now.log)
unheard_history was now valid same = subst (λ (t : Heard). IsHistory (history_of t.log)) (sym same) (is_history was.log valid)

-- ---- of a report
module _ (was now : Heard) (log after : List Entry) (n : ℕ) where
  pub report_goes : (r : Result ℕ BookFault) (A : ℕ → Type 0) (B : BookFault → Type 0) → 0 < length was.log
      → IfOk r (λ m. IsReportedIn log n after × A m)
      → IfOk r (λ _. HasHeard log was × (now ≡ record { book = was.book; log = after; given = was.given }) × IsLog after)
      → IfErr r (λ f. (after ≡ log) × (now ≡ was) × B f) → BeginsWith (history_of now.log) (history_of was.log)
  report_goes (Ok m) A B long a b d =
      let whole = prefix_trans was.log log after b.0.longer (report_longer log after n a.0) in
      begins_with was.log now.log long (subst (λ (t : Heard). IsPrefix was.log t.log) (sym b.1) whole)
  report_goes (Err f) A B long a b d = begins_with was.log now.log long (subst (λ (t : Heard). IsPrefix was.log t.log) (sym d.1) (prefix_self was.log))

  pub report_reached : (r : Result ℕ BookFault) (K : Type 0) → 0 < length was.log
      → IfOk r (λ m. IsReportedIn log n after × ((newest_in after).durable ≡ m))
      → IfOk r (λ _. HasHeard log was × K × IsLog after) → IfOk r (λ m. n ≤ (newest_in was.log).number → n ≤ m)
  report_reached (Ok m) K long a b = report_reaches was.log log after n m long b.2 b.0.longer a.0 a.1
  report_reached (Err f) K long a b = tt

  pub report_ok : (r : Result ℕ BookFault) (A B C : Type 0) → IfOk r (λ m. A × ((newest_in after).durable ≡ m))
      → IfOk r (λ _. B × (now ≡ record { book = was.book; log = after; given = was.given }) × C)
      → IfOk r (λ m. (newest_in now.log).durable ≡ m)
  report_ok (Ok m) A B C a b = ap (λ (t : Heard). (newest_in t.log).durable) b.1 ∙ a.1
  report_ok (Err f) A B C a b = tt

  pub report_by : (r : Result ℕ BookFault) (A : ℕ → Type 0) (C : Type 0) → IfOk r (λ m. IsReportedIn log n after × A m)
      → IfOk r (λ _. HasHeard log was × (now ≡ record { book = was.book; log = after; given = was.given }) × C)
      → IfOk r (λ _. IsReportedBy was n now.log)
  report_by (Ok m) A C a b =
      let there : IsReportedBy was n after = record { log = log; heard = b.0; reported = a.0 } in
      subst (λ (t : Heard). IsReportedBy was n t.log) (sym b.1) there
  report_by (Err f) A C a b = tt

  pub report_history : (r : Result ℕ BookFault) (A B : Type 0) (D : BookFault → Type 0) → IsLog was.log
      → IfOk r (λ _. B × (now ≡ record { book = was.book; log = after; given = was.given }) × IsLog after)
      → IfErr r (λ f. A × (now ≡ was) × D f) → IsHistory (history_of now.log)
  report_history (Ok m) A B D valid b d = subst (λ (t : Heard). IsHistory (history_of t.log)) (sym b.1) (is_history after b.2)
  report_history (Err f) A B D valid b d = unheard_history was now valid d.1

  pub report_err : (r : Result ℕ BookFault) (A : Type 0) (B : BookFault → Type 0) → IfErr r (λ f. A × (now ≡ was) × B f)
      → IfErr r (λ f. (now ≡ was) × B f)
  report_err (Ok m) A B d = tt
  report_err (Err f) A B d = (d.1, d.2)

  pub report_same : (r : Result ℕ BookFault) (A B C : Type 0) (D : BookFault → Type 0)
      → IfOk r (λ _. B × (now ≡ record { book = was.book; log = after; given = was.given }) × C)
      → IfErr r (λ f. A × (now ≡ was) × D f) → (now.book ≡ was.book) × (now.given ≡ was.given)
  report_same (Ok m) A B C D b d = (ap (λ (t : Heard). t.book) b.1, ap (λ (t : Heard). t.given) b.1)
  report_same (Err f) A B C D b d = (ap (λ (t : Heard). t.book) d.1, ap (λ (t : Heard). t.given) d.1)

-- ---- of the waits
-- a book that may close refuses no less
wait_more : (f : BookFault) (closing : Bool) (v : Version) (name : Name) → IsWaitRefused closing v name f → IsWaitRefused true v name f
wait_more (fault.Version r) closing v name q = q
wait_more fault.Closing closing v name q = (refl, q.1, q.2)
wait_more fault.Gone closing v name q = q
wait_more fault.NoStore closing v name q = q
wait_more (fault.Store r) closing v name q = q

pub wait_refused : (r : Result ℕ BookFault) (closing : Bool) (v : Version) (name : Name) → IfErr r (λ f. IsWaitRefused closing v name f) → IfErr r (λ f. IsWaitRefused true v name f)
wait_refused (Ok n) closing v name q = tt
wait_refused (Err f) closing v name q = wait_more f closing v name q

abbrev no_store : Result ℕ BookFault
no_store = Err fault.NoStore

sync_at : (f : BookFault) (s : BookState) (v : Version) (n : ℕ) → IsSyncRefusedAt s v n f → IsSyncRefused n v f
sync_at (fault.Version r) s v n q = q
sync_at fault.Closing s v n q = q.0
sync_at fault.Gone s v n q = tt
sync_at fault.NoStore s v n q = absurd q
sync_at (fault.Store r) s v n q = q.0

-- a wait without a store is refused as such, or the book is behind
pub without_store : (r : Result ℕ BookFault) (v : Version) (n : ℕ) → IsErrAnd r (λ f. (f ≡ fault.NoStore) ⊎ (f ≡ fault.Gone))
    → IfErr r (λ f. IsSyncRefused n v f)
without_store (Ok m) v n q = tt
without_store (Err f) v n (inl is) = subst (λ f. IsSyncRefused n v f) (sym is) tt
without_store (Err f) v n (inr is) = subst (λ f. IsSyncRefused n v f) (sym is) tt

pub never_ok : (r : Result ℕ BookFault) (Q : BookFault → Type 0) (P : ℕ → Type 0) → IsErrAnd r Q → IfOk r P
never_ok (Ok m) Q P q = absurd q
never_ok (Err f) Q P q = tt

-- a wait with a store is not refused for want of one
pub with_store : (r : Result ℕ BookFault) (s : BookState) (v : Version) (n : ℕ) → IfErr r (λ f. IsSyncRefusedAt s v n f)
    → r ≡ no_store → ⊥
with_store r s v n q is = subst (λ r. IfErr r (λ f. IsSyncRefusedAt s v n f)) is q

pub sync_refused : (r : Result ℕ BookFault) (s : BookState) (v : Version) (n : ℕ) → IfErr r (λ f. IsSyncRefusedAt s v n f) → IfErr r (λ f. IsSyncRefused n v f)
sync_refused (Ok m) s v n q = tt
sync_refused (Err f) s v n q = sync_at f s v n q

-- ---- of news
module _ {V : Type 0} (was now : Heard) (log : List Entry) (news : ℕ) where
  pub news_goes : (r : Result (Option V) BookFault) (A : V → Type 0) (N P Q : Type 0) (E : BookFault → Type 0) → 0 < length was.log
      → IfOk r (λ o. IfSome o (λ v. A v × HasHeard log was × IsLog log))
      → IfOk r (λ o. IfSome o (λ _. N × (now ≡ record { book = was.book; log = log; given = news })))
      → IfOk r (λ o. IfNone o (P × Q × (now ≡ was))) → IfErr r (λ f. (now ≡ was) × E f) → BeginsWith (history_of now.log) (history_of was.log)
  news_goes (Ok (Some v)) A N P Q E long a b n d =
      begins_with was.log now.log long (subst (λ (t : Heard). IsPrefix was.log t.log) (sym b.1) a.1.longer)
  news_goes (Ok None) A N P Q E long a b n d = begins_with was.log now.log long (subst (λ (t : Heard). IsPrefix was.log t.log) (sym n.2) (prefix_self was.log))
  news_goes (Err f) A N P Q E long a b n d = begins_with was.log now.log long (subst (λ (t : Heard). IsPrefix was.log t.log) (sym d.0) (prefix_self was.log))

  pub news_newest : (r : Result (Option V) BookFault) (of : V → Version) (B C N : Type 0)
      → IfOk r (λ o. IfSome o (λ v. (of v ≡ newest_in log) × B × C))
      → IfOk r (λ o. IfSome o (λ _. N × (now ≡ record { book = was.book; log = log; given = news })))
      → IfOk r (λ o. IfSome o (λ v. of v ≡ newest_in now.log))
  news_newest (Ok (Some v)) of B C N a b = a.0 ∙ ap (λ (t : Heard). newest_in t.log) (sym b.1)
  news_newest (Ok None) of B C N a b = tt
  news_newest (Err f) of B C N a b = tt

  pub news_history : (r : Result (Option V) BookFault) (A : V → Type 0) (B N P Q : Type 0) (E : BookFault → Type 0) → IsLog was.log
      → IfOk r (λ o. IfSome o (λ v. A v × B × IsLog log))
      → IfOk r (λ o. IfSome o (λ _. N × (now ≡ record { book = was.book; log = log; given = news })))
      → IfOk r (λ o. IfNone o (P × Q × (now ≡ was))) → IfErr r (λ f. (now ≡ was) × E f) → IsHistory (history_of now.log)
  news_history (Ok (Some v)) A B N P Q E valid a b n d = subst (λ (t : Heard). IsHistory (history_of t.log)) (sym b.1) (is_history log a.2)
  news_history (Ok None) A B N P Q E valid a b n d = unheard_history was now valid n.2
  news_history (Err f) A B N P Q E valid a b n d = unheard_history was now valid d.0

  pub news_given : (r : Result (Option V) BookFault)
      → IfOk r (λ o. IfSome o (λ _. ¬ (news ≡ was.given) × (now ≡ record { book = was.book; log = log; given = news })))
      → IfOk r (λ o. IfSome o (λ _. ¬ (now.given ≡ was.given)))
  news_given (Ok (Some v)) b = λ e. b.0 (sym (ap (λ (t : Heard). t.given) b.1) ∙ e)
  news_given (Ok None) b = tt
  news_given (Err f) b = tt

  pub news_none : (r : Result (Option V) BookFault) (P Q : Type 0) → IfOk r (λ o. IfNone o (P × Q × (now ≡ was))) → IfOk r (λ o. IfNone o (now ≡ was))
  news_none (Ok (Some v)) P Q n = tt
  news_none (Ok None) P Q n = n.2
  news_none (Err f) P Q n = tt

  pub news_durable : (r : Result (Option V) BookFault) (A : V → Type 0) (C N P Q : Type 0) (E : BookFault → Type 0)
      → IfOk r (λ o. IfSome o (λ v. A v × HasHeard log was × C))
      → IfOk r (λ o. IfSome o (λ _. N × (now ≡ record { book = was.book; log = log; given = news })))
      → IfOk r (λ o. IfNone o (P × Q × (now ≡ was))) → IfErr r (λ f. (now ≡ was) × E f)
      → (newest_in now.log).durable ≡ (newest_in was.log).durable
  news_durable (Ok (Some v)) A C N P Q E a b n d = ap (λ (t : Heard). (newest_in t.log).durable) b.1 ∙ a.1.durable
  news_durable (Ok None) A C N P Q E a b n d = ap (λ (t : Heard). (newest_in t.log).durable) n.2
  news_durable (Err f) A C N P Q E a b n d = ap (λ (t : Heard). (newest_in t.log).durable) d.0

  pub news_book : (r : Result (Option V) BookFault) (N P Q : Type 0) (E : BookFault → Type 0)
      → IfOk r (λ o. IfSome o (λ _. N × (now ≡ record { book = was.book; log = log; given = news })))
      → IfOk r (λ o. IfNone o (P × Q × (now ≡ was))) → IfErr r (λ f. (now ≡ was) × E f) → now.book ≡ was.book
  news_book (Ok (Some v)) N P Q E b n d = ap (λ (t : Heard). t.book) b.1
  news_book (Ok None) N P Q E b n d = ap (λ (t : Heard). t.book) n.2
  news_book (Err f) N P Q E b n d = ap (λ (t : Heard). t.book) d.0
