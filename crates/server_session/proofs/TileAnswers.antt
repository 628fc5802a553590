-- What is answered to questions about tiles and about the store.
use Rattle.std.specs.Prelude.{IsErrAnd}
use Rattle.std.proofs.Common.{◌≡◌, ◌≤◌, ℕ, ℤ, Bool, true, false, IsTrue, List, [], codes, Option, Some, None, Result, Ok, Err, refl, sym, ap, subst, ◌∙◌, ◌⊎◌, inl, inr, ⊎_elim}
use Rattle.overlay_terms.specs.Histories as versions
use Rattle.overlay_terms.specs.Histories.{Entry, History, BeginsWith, newest}
use Rattle.layer_expr.specs.Name.{is_name}
use Rattle.layer_book.specs.Fault.{RefusedBy}
use Rattle.layer_book.specs.declared.fault.LayerFault.TheVariants as layer_fault
use Rattle.versions.specs.declared.fault.VersionFault.{VersionFault}
use Rattle.versions.specs.declared.fault.VersionFault.TheVariants.{Layer}
use Rattle.version_core.specs.declared.verifying.Verdict.{Verdict}
use Rattle.version_core.specs.Verdict.{IsVerdict}
use Rattle.version_core.specs.Edges.{edges_refusal, finished_refusal, AreEdges}
use Rattle.book_history.specs.Known.{Known, seen}
use Rattle.book_history.specs.declared.fault.BookFault.{BookFault}
use Rattle.book_history.specs.declared.fault.BookFault.TheVariants as book
use Rattle.book_history.specs.declared.fault.ReportedFault.{ReportedFault}
use Rattle.book_history.specs.declared.fault.ReportedFault.TheVariants as store
use Rattle.version_book.specs.Failing.{IsReportedFault}
use Rattle.version_book.specs.Waits.{IsBuiltAt, IsSyncRefused, IsWaitRefused}
use Rattle.script_form.specs.declared.fault.CommandFault.{CommandFault}
use Rattle.script_form.specs.declared.fault.CommandFault.TheVariants.{Version, Closing, Gone, NoStore}
use Rattle.script_form.specs.Reading.{IsNoName}
use Rattle.script_form.specs.Replies.{error_line, numbered_line, verdict_line}
use Rattle.script_form.specs.Requests.{edges, wait, verify, sync}
use Rattle.script_form.specs.Transcript.{BookStore, StoreReport, of_number, of_fault, store_by, asked_column, IsOutOfMemory, IsAnswered, IsOfStore}
use Rattle.server_session.specs.Answering.{Answers}
use Rattle.server_session.specs.Fault.{command_fault_of, store_fault_of}
use Rattle.server_session.specs.Session.{Stays}
use Rattle.server_session.specs.Stores.{MayBeReportedAt}
use Rattle.server_session.proofs.AnswerLemmas.{answers_so, answers_there, asked_none, asked_some, unnamed, refused_so}

-- what holds of a version, a name and a column holds of the newest version, of the name as it was read and of the column as it was asked for
moved : (P : versions.Version → List ℕ → Option ℕ → Type 0) (version new : versions.Version) (known name : List ℕ) (n k : Option ℕ)
    → version ≡ new → known ≡ name → n ≡ k → P version known n → P new name k
moved P version new known name n k is same number h =
    subst (λ v. P v name k) is (subst (λ m. P version m k) same (subst (λ m. P version known m) number h))

-- ==== Lines whose name is none

pub edges_unnamed : (stored : BookStore) (me : Known) (name : List ℕ) (k : ℤ) (fault : CommandFault) → IsNoName name fault → Answers stored me (edges name k) me (error_line fault)
edges_unnamed stored me name k fault refused = answers_there stored me (edges name k) (error_line fault) (inr (refl, unnamed name fault _ refused))

pub verify_unnamed : (stored : BookStore) (me : Known) (name : List ℕ) (k : ℤ) (fault : CommandFault) → IsNoName name fault → Answers stored me (verify name k) me (error_line fault)
verify_unnamed stored me name k fault refused = answers_there stored me (verify name k) (error_line fault) (inr (refl, unnamed name fault _ refused))

pub wait_unnamed : (stored : BookStore) (me : Known) (name : List ℕ) (fault : CommandFault) → IsNoName name fault → Answers stored me (wait name) me (error_line fault)
wait_unnamed stored me name fault refused = answers_there stored me (wait name) (error_line fault) (inr (refl, unnamed name fault _ refused))

module _ (was now : Known) (stays : Stays was now) (made : now.made ≡ was.made) where
  -- ==== EDGES

  pub edges_gone : (stored : BookStore) (name : List ℕ) (k : ℤ) (fault : CommandFault) → IsTrue (is_name name) → fault ≡ Gone → Answers stored was (edges name k) now (error_line fault)
  edges_gone stored name k fault named gone = answers_so was now stays made stored (edges name k) (error_line fault) (inr (refl, inr (named, inl (ap error_line gone))))

  pub edges_refused : (stored : BookStore) (name known : List ℕ) (k : ℤ) (n : Option ℕ) (version : versions.Version) (wrong : VersionFault) → version ≡ newest (seen now)
      → known ≡ name → n ≡ asked_column k → IsTrue (is_name name) → RefusedBy (Layer layer_fault.OutOfMemory) (edges_refusal version known n) wrong
      → Answers stored was (edges name k) now (error_line (Version wrong))
  edges_refused stored name known k n version wrong is same number named refused =
      answers_so was now stays made stored (edges name k) (error_line (Version wrong))
      (elim refused [
        | inl memory ↦ inl (named, record { nothing_made = refl; says = ap (λ f. error_line (Version f)) memory.0 })
        | inr by ↦
            inr (refl, inr (named, inr (asked_some Version _ wrong _ (moved (λ v m c. edges_refusal v m c ≡ Some wrong) version (newest (seen now)) known name n (asked_column k) is same number by))))
      ])

  pub edges_reported : (stored : BookStore) (name known : List ℕ) (k : ℤ) (n : Option ℕ) (version : versions.Version) (reply : List ℕ) → version ≡ newest (seen now)
      → known ≡ name → n ≡ asked_column k → IsTrue (is_name name) → edges_refusal version known n ≡ None → AreEdges version known n reply → Answers stored was (edges name k) now reply
  edges_reported stored name known k n version reply is same number named free reported =
      answers_so was now stays made stored (edges name k) reply
      (inr (
        refl,
        inr (
          named,
          inr (asked_none Version _ reply _ (moved (λ v m c. edges_refusal v m c ≡ None) version (newest (seen now)) known name n (asked_column k) is same number free)
              (moved (λ v m c. AreEdges v m c reply) version (newest (seen now)) known name n (asked_column k) is same number reported)),
        ),
      ))

  -- ==== VERIFY

  pub verify_gone : (stored : BookStore) (name : List ℕ) (k : ℤ) (fault : CommandFault) → IsTrue (is_name name) → fault ≡ Gone → Answers stored was (verify name k) now (error_line fault)
  verify_gone stored name k fault named gone = answers_so was now stays made stored (verify name k) (error_line fault) (inr (refl, inr (named, inl (ap error_line gone))))

  pub verify_refused : (stored : BookStore) (name known : List ℕ) (k : ℤ) (n : Option ℕ) (version : versions.Version) (wrong : VersionFault) → version ≡ newest (seen now)
      → known ≡ name → n ≡ asked_column k → IsTrue (is_name name) → RefusedBy (Layer layer_fault.OutOfMemory) (finished_refusal version known n) wrong
      → Answers stored was (verify name k) now (error_line (Version wrong))
  verify_refused stored name known k n version wrong is same number named refused =
      answers_so was now stays made stored (verify name k) (error_line (Version wrong))
      (elim refused [
        | inl memory ↦ inl (named, record { nothing_made = refl; says = ap (λ f. error_line (Version f)) memory.0 })
        | inr by ↦
            inr (refl, inr (named, inr (asked_some Version _ wrong _ (moved (λ v m c. finished_refusal v m c ≡ Some wrong) version (newest (seen now)) known name n (asked_column k) is same number by))))
      ])

  pub verify_reported : (stored : BookStore) (name known : List ℕ) (k : ℤ) (n : Option ℕ) (version : versions.Version) (verdict : Verdict) → version ≡ newest (seen now)
      → known ≡ name → n ≡ asked_column k → IsTrue (is_name name) → finished_refusal version known n ≡ None → IsVerdict version known n verdict
      → Answers stored was (verify name k) now (verdict_line verdict)
  verify_reported stored name known k n version verdict is same number named free right =
      answers_so was now stays made stored (verify name k) (verdict_line verdict)
      (inr (
        refl,
        inr (
          named,
          inr (asked_none Version _ (verdict_line verdict) _ (moved (λ v m c. finished_refusal v m c ≡ None) version (newest (seen now)) known name n (asked_column k) is same number free)
              (verdict, moved (λ v m c. IsVerdict v m c verdict) version (newest (seen now)) known name n (asked_column k) is same number right, refl)),
        ),
      ))

-- ==== WAIT

-- a session that waited
abbrev pub Waited : Known → Known → Type 0
Waited was now = (now.book ≡ was.book) × (now.session ≡ was.session) × (now.made ≡ was.made)

pub waited_stays : (was now : Known) → BeginsWith (seen now) (seen was) → Waited was now → Stays was now
waited_stays was now on same = record { book = same.0; session = same.1; goes_on = on }

wait_refused_so : (stored : BookStore) (was now : Known) (name : List ℕ) (fault : BookFault) → IsTrue (is_name name) → IsWaitRefused true (newest (seen now)) name fault
    → IsOutOfMemory (wait name) [] (error_line (command_fault_of fault)) ⊎ IsAnswered stored was.session (seen was) (wait name) (seen now) [] (error_line (command_fault_of fault))
wait_refused_so stored was now name (book.Version wrong) named (inl by) = inr (refl, inr (named, inr (asked_some Version _ wrong _ by)))
wait_refused_so stored was now name (book.Version wrong) named (inr memory) = inl (named, record { nothing_made = refl; says = ap (λ f. error_line (Version f)) memory.0 })
wait_refused_so stored was now name book.Closing named refused =
    inr (refl, inr (named, inr (asked_none Version _ _ _ refused.1 (inr (refused.2, refl)))))
wait_refused_so stored was now name book.Gone named refused = inr (refl, inr (named, inl refl))
wait_refused_so stored was now name book.NoStore named refused = absurd refused
wait_refused_so stored was now name (book.Store fault) named refused = absurd refused

pub wait_refused : (stored : BookStore) (was now : Known) (name known : List ℕ) (fault : BookFault) → BeginsWith (seen now) (seen was) → Waited was now → known ≡ name → IsTrue (is_name name)
    → IsWaitRefused true (newest (seen now)) known fault → (reported : CommandFault) → reported ≡ command_fault_of fault → Answers stored was (wait name) now (error_line reported)
wait_refused stored was now name known fault on same is named refused reported same_reported =
    subst (λ (f : CommandFault). Answers stored was (wait name) now (error_line f)) (sym same_reported)
    (answers_so was now (waited_stays was now on same) same.2 stored (wait name) (error_line (command_fault_of fault))
    (wait_refused_so stored was now name fault named (subst (λ n. IsWaitRefused true (newest (seen now)) n fault) is refused)))

pub wait_reported : (stored : BookStore) (was now : Known) (name known : List ℕ) (number : ℕ) → BeginsWith (seen now) (seen was) → Waited was now → known ≡ name → IsTrue (is_name name)
    → IsBuiltAt (newest (seen now)) known number → Answers stored was (wait name) now (numbered_line (codes "built ") number)
wait_reported stored was now name known number on same is named built =
    let there = subst (λ n. IsBuiltAt (newest (seen now)) n number) is built in
    answers_so was now (waited_stays was now on same) same.2 stored (wait name) (numbered_line (codes "built ") number)
    (inr (refl, inr (named, inr (asked_none Version _ (numbered_line (codes "built ") number) _ there.derived (inl (there.built, ap (numbered_line (codes "built ")) (sym there.numbered)))))))

-- ==== SYNC

of_store : (fault : ReportedFault) → IsOfStore (store_fault_of fault)
of_store store.Device = inl refl
of_store store.Full = inr (inl refl)
of_store store.Failed = inr (inr (inl refl))
of_store store.SequenceLimit = inr (inr (inr (inl refl)))
of_store store.OutOfMemory = inr (inr (inr (inr (inl refl))))

-- a refusal by a store's fault may be reported
abbrev pub MayReportFault : (History → StoreReport → Type 0) → History → BookFault → Type 0
MayReportFault reported history (book.Store fault) = reported history (of_fault (store_fault_of fault))
MayReportFault reported history fault = Unit {0}

-- what the book says of it is said of what the session has seen
pub may_report_fault : (stored : List Entry → ℕ → Type 0) (failed : List Entry → ReportedFault → Type 0) (now : Known) (fault : BookFault)
    → IsReportedFault failed now.log fault → MayReportFault (MayBeReportedAt stored failed) (seen now) fault
may_report_fault stored failed now (book.Version wrong) is = tt
may_report_fault stored failed now book.Closing is = tt
may_report_fault stored failed now book.Gone is = tt
may_report_fault stored failed now book.NoStore is = tt
may_report_fault stored failed now (book.Store fault) is = record { log = now.log; of = refl; reported = fault; same = refl; failed_so = is }

-- why a wait for a durable number is refused, and what that says of the store
sync_refused_so : (reported : History → StoreReport → Type 0) (there : Bool) (was now : Known) (fault : BookFault) → IsSyncRefused (newest (seen was)).number (newest (seen now)) fault
    → MayReportFault reported (seen now) fault → (fault ≡ book.NoStore → there ≡ false) → (there ≡ false → (fault ≡ book.NoStore) ⊎ (fault ≡ book.Gone))
    → IsOutOfMemory sync [] (error_line (command_fault_of fault)) ⊎ IsAnswered (store_by reported there) was.session (seen was) sync (seen now) [] (error_line (command_fault_of fault))
sync_refused_so reported there was now (book.Version wrong) refused may only without = absurd refused
sync_refused_so reported true was now book.Closing refused may only without =
    inr (inr (inr (inr (refl, record { behind = refused; fault = Closing; of_store = inr (inr (inr (inr (inr refl)))); may = inl refl; refused = refused_so Closing }))))
sync_refused_so reported false was now book.Closing refused may only without = absurd (⊎_elim (λ e. absurd (cc)) (λ e. absurd (cc)) (without refl))
sync_refused_so reported there was now book.Gone refused may only without = inr (inr (inl (refused_so Gone)))
sync_refused_so reported there was now book.NoStore refused may only without = inr (inl (only refl, refused_so NoStore))
sync_refused_so reported true was now (book.Store fault) refused may only without =
    inr (inr (inr (inr (refl, record { behind = refused; fault = store_fault_of fault; of_store = of_store fault; may = inr may; refused = refused_so (store_fault_of fault) }))))
sync_refused_so reported false was now (book.Store fault) refused may only without = absurd (⊎_elim (λ e. absurd (cc)) (λ e. absurd (cc)) (without refl))

pub sync_refused : (stored : BookStore) (was now : Known) (result : Result ℕ BookFault) (fault : BookFault) → result ≡ Err fault → BeginsWith (seen now) (seen was) → Waited was now
    → IsSyncRefused (newest (seen was)).number (newest (seen now)) fault → MayReportFault stored.reported (seen now) fault → (result ≡ Err book.NoStore → stored.there ≡ false)
    → (stored.there ≡ false → IsErrAnd result (λ f. (f ≡ book.NoStore) ⊎ (f ≡ book.Gone)))
    → (reported : CommandFault) → reported ≡ command_fault_of fault → Answers stored was sync now (error_line reported)
sync_refused stored was now result fault is on same refused may only without reported same_reported =
    let P : BookFault → Type 0 = λ f. (f ≡ book.NoStore) ⊎ (f ≡ book.Gone) in
    subst (λ (f : CommandFault). Answers stored was sync now (error_line f)) (sym same_reported)
    (answers_so was now (waited_stays was now on same) same.2 stored sync (error_line (command_fault_of fault))
    (sync_refused_so stored.reported stored.there was now fault refused may (λ e. only (is ∙ ap Err e)) (λ none. subst (λ (r : Result ℕ BookFault). IsErrAnd r P) is (without none))))

-- a book that reports a durable number has a store
has_one : (there : Bool) (result : Result ℕ BookFault) (number : ℕ) → result ≡ Ok number
    → (there ≡ false → IsErrAnd result (λ f. (f ≡ book.NoStore) ⊎ (f ≡ book.Gone))) → IsTrue there
has_one true result number is without = refl
has_one false result number is without =
    let P : BookFault → Type 0 = λ f. (f ≡ book.NoStore) ⊎ (f ≡ book.Gone) in
    absurd (subst (λ (r : Result ℕ BookFault). IsErrAnd r P) is (without refl))

pub sync_reported : (stored : BookStore) (was now : Known) (result : Result ℕ BookFault) (number : ℕ) → result ≡ Ok number → BeginsWith (seen now) (seen was) → Waited was now
    → (stored.there ≡ false → IsErrAnd result (λ f. (f ≡ book.NoStore) ⊎ (f ≡ book.Gone)))
    → ((newest (seen now)).durable ≡ number) × ((newest (seen was)).number ≤ number) → stored.reported (seen now) of_number → Answers stored was sync now (numbered_line (codes "durable ") number)
sync_reported stored was now result number is on same without reached may =
    answers_so was now (waited_stays was now on same) same.2 stored sync (numbered_line (codes "durable ") number)
    (inr (inr (inr (inl (
      has_one stored.there result number is without,
      record {
        nothing_made = refl;
        reached = subst (λ n. (newest (seen was)).number ≤ n) (sym reached.0) reached.1;
        may = may;
        says = ap (numbered_line (codes "durable ")) (sym reached.0);
      },
    )))))
