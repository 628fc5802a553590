-- A script that is not begun is run as where its session has no memory; and one that ended so made nothing.
use Rattle.std.proofs.Common.{◌≡◌, ⊎_elim, ◌<◌, ℕ, Bool, false, not, List, Option, length, ap, sym, subst, ◌∙◌, arith}
use Rattle.std.proofs.lemmas.Bool.{true≢false}
use Rattle.std.proofs.lemmas.Bool.Decides.{eqb_tells}
use Rattle.logbook.specs.Pages.{Book}
use Rattle.overlay_terms.specs.Histories.{BeginsWith}
use Rattle.book_history.specs.Known.{Known, seen}
use Rattle.script_form.specs.Transcript.{BookStore}
use Rattle.script_form.specs.declared.session_end.SessionEnd.{SessionEnd}
use Rattle.script_form.specs.declared.session_end.SessionEnd.TheVariants.{End, Failed}
use Rattle.server_session.specs.Session.{EndsSo, IsSessionWithin}
use Rattle.server_session.proofs.Endings.{begins_not}
use Rattle.server_session.proofs.Turns.{stays_self}
use Rattle.session_threads.specs.Running.{IsNotBegunOf, IsRunOf, was_begun}
use Rattle.session_threads.specs.declared.port.Port.{Port}
use Rattle.session_threads.specs.declared.running.Script.{Script}
use Rattle.session_threads.specs.declared.running.Ended.{Ended}

module _ {R W : Type 0} (book : Book) (stored : BookStore) (remaining : R → Option (List ℕ)) (contents : W → Option (List ℕ)) (script : Script R W) (ended : Ended R W) where
  pub not_begun_run : script.session.book ≡ book → IsNotBegunOf script ended → IsRunOf book stored remaining contents script ended
  not_begun_run of not_begun =
      let most = script.port.most in
      let was = script.session in
      let input = remaining script.port.reader in
      let output = contents script.port.writer in
      record {
        of = ap (λ (k : Known). k.book) not_begun.session ∙ of;
        same = ap (λ (k : Known). k.session) not_begun.session;
        begun = subst (λ (k : Known). 0 < length k.log) (sym not_begun.session) not_begun.seen_some;
        goes_on = subst (λ (k : Known). BeginsWith (seen k) (seen was)) (sym not_begun.session) (stays_self was).goes_on;
        ran =
            subst (λ (e : SessionEnd). IsSessionWithin most stored e was ended.session input (remaining ended.port.reader) output (contents ended.port.writer)) (sym not_begun.end)
            (subst (λ (k : Known). IsSessionWithin most stored (Failed 40) was k input (remaining ended.port.reader) output (contents ended.port.writer)) (sym not_begun.session)
            (subst (λ (p : Port R W). IsSessionWithin most stored (Failed 40) was was input (remaining p.reader) output (contents p.writer)) (sym not_begun.port)
            (begins_not most stored was input output)));
      }

-- the number of one that was not begun
code_then : (code : ℕ) → was_begun (Failed code) ≡ false → code ≡ 40
code_then code not_run = ⊎_elim (λ is. is.1) (λ other. absurd (true≢false (ap not (sym other.0) ∙ not_run))) (eqb_tells code 40)

nothing_seen : (most : ℕ) (stored : BookStore) (end : SessionEnd) (was now : Known) (taken : List ℕ) (left : Option (List ℕ)) (written : List ℕ)
    → EndsSo most stored end was now taken left written → was_begun end ≡ false → now ≡ was
nothing_seen most stored End was now taken left written ends not_run = absurd (true≢false not_run)
nothing_seen most stored (Failed code) was now taken left written ends not_run =
    let is = code_then code not_run in
    ⊎_elim (λ (h : _). absurd (omega (arith, is, h.0)))
    (λ more. ⊎_elim (λ (h : _). absurd (omega (arith, is, h.0)))
    (λ others. ⊎_elim (λ (h : _). absurd (omega (arith, is, h.0))) (λ last. last.3) others) more) ends

-- a session that was not begun is as it was
pub unbegun_same : {R W : Type 0} (book : Book) (stored : BookStore) (remaining : R → Option (List ℕ)) (contents : W → Option (List ℕ)) (script : Script R W) (ended : Ended R W)
    → IsRunOf book stored remaining contents script ended → was_begun ended.end ≡ false → ended.session ≡ script.session
unbegun_same book stored remaining contents script ended ran not_run =
    nothing_seen script.port.most stored ended.end script.session ended.session ran.ran.taken (remaining ended.port.reader) ran.ran.written ran.ran.ended not_run
