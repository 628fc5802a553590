-- The script of each place asks for what the session of that place may be asked for.
use Rattle.std.proofs.Common.{◌≡◌, ℕ, zero, suc, ◌+◌, List, [], ◌∷◌, ◌++◌, Option, length, subst, sym, arith}
use Rattle.std.specs.List.{AllZip}
use Rattle.overlay_terms.specs.Batches.{Batch}
use Rattle.book_history.specs.BookLogs.{BookLog}
use Rattle.book_history.specs.Known.{Known}
use Rattle.book_lock.specs.Steps.{beginners}
use Rattle.book_lock.proofs.Beginning.{count_of}
use Rattle.server_session.specs.Asking.{MayAskAll}
use Rattle.session_threads.specs.declared.port.Port.{Port}
use Rattle.overlay_server.specs.Asking.{IsAsked, IsAskedAt}
use Rattle.overlay_server.specs.Given.{given_to}

-- sessions are numbered in their order, from this number on
abbrev AreNumbered : ℕ → List Known → Type 0
AreNumbered n [] = Unit {0}
AreNumbered n (k ∷ ks) = (k.session ≡ n) × AreNumbered (suc n) ks

numbered_on : (n : ℕ) (ks more : List Known) → AreNumbered n ks → AreNumbered (n + length ks) more → AreNumbered n (ks ++ more)
numbered_on n [] more these those =
    let at : n + 0 ≡ n = omega arith in
    subst (λ m. AreNumbered m more) at those
numbered_on n (k ∷ ks) more these those =
    let at : n + suc (length ks) ≡ suc n + length ks = omega arith in
    (these.0, numbered_on (suc n) ks more these.1 (subst (λ m. AreNumbered m more) at those))

-- those that a book begins with, from 0 on
are_numbered : (book_log : BookLog) (count : ℕ) → AreNumbered 0 (beginners book_log count)
are_numbered book_log zero = tt
are_numbered book_log (suc count) =
    numbered_on 0 (beginners book_log count) (record { book = book_log.book; session = count; log = book_log.log; made = [] } ∷ []) (are_numbered book_log count)
    (omega (arith, count_of book_log count), tt)

module _ {R W : Type 0} (remaining : R → Option (List ℕ)) (contents : W → Option (List ℕ)) (asked : ℕ → Batch → Type 0) where
  each_asks : (n : ℕ) (ports : List (Port R W)) (ks : List Known) → length ports ≡ length ks → AreNumbered n ks
      → ((place : ℕ) (commands : Batch) → IsAskedAt (given_to remaining contents ports) place commands → asked (n + place) commands)
      → AllZip (λ (port : Port R W) (me : Known). MayAskAll (asked me.session) (remaining port.reader)) ports ks
  each_asks n [] [] same numbered may = tt
  each_asks n [] (k ∷ ks) same numbered may = absurd (omega (arith, same))
  each_asks n (port ∷ ports) [] same numbered may = absurd (omega (arith, same))
  each_asks n (port ∷ ports) (k ∷ ks) same numbered may =
      let first : n + 0 ≡ k.session = omega (arith, numbered.0) in (
        λ commands asks. subst (λ m. asked m commands) first (may 0 commands asks),
        each_asks (suc n) ports ks (omega (arith, same)) numbered.1 (λ place commands asks.
            let later : n + suc place ≡ suc n + place = omega arith in
            subst (λ m. asked m commands) later (may (suc place) commands asks)),
      )

  pub all_ask : (ports : List (Port R W)) (book_log : BookLog) (sessions : List Known) → sessions ≡ beginners book_log (length ports) → IsAsked asked (given_to remaining contents ports)
      → AllZip (λ (port : Port R W) (me : Known). MayAskAll (asked me.session) (remaining port.reader)) ports sessions
  all_ask ports book_log sessions are is =
      subst (AllZip (λ (port : Port R W) (me : Known). MayAskAll (asked me.session) (remaining port.reader)) ports) (sym are)
      (each_asks 0 ports (beginners book_log (length ports)) (sym (count_of book_log (length ports))) (are_numbered book_log (length ports)) (λ place commands asks.
      let from : place ≡ 0 + place = omega arith in
      subst (λ m. asked m commands) from ((is place commands).1 asks)))
