use Rattle.std.proofs.Common.{All, ◌≡◌, ◌++◌, IfSome, MatchResult, Ok, Err, ap, sym, subst, arith, ◌∙◌}
use Rattle.std.specs.List.{AllZip}
use Rattle.std.specs.Vec.{vec_len, vec_capacity}
use Rattle.std.specs.Vec.Iter.{into_iter_items}
use Rattle.overlay_terms.proofs.Lists.{in_middle}
use Rattle.version_book.specs.Store.{has_store}
use Rattle.session_threads.specs.Rooms.{IsReserved}
use Rattle.server_session.specs.Asking.{MayAskAll}
use Rattle.server_session.specs.Replying.{IsAtStart, IsPastMost, MayReport}
use Rattle.server_session.specs.Stores.{store_of}
use Rattle.session_threads.specs.declared.running.Script.{Script}
use Rattle.session_threads.specs.Running.{IsRunOf}
use Rattle.session_threads.proofs.Lists.{beside_length, beside_pushed, beside_through, gone_by_count, one_less, one_longer, one_on, room_left}
use Rattle.session_threads.proofs.running.run_sessions.Goals as goal

pub start_session-requires-clause-book : goal.start_session-requires-clause-book
start_session-requires-clause-book g c κs within =
    let at = c.loop-script in
    let rest = into_iter_items c.next.new.self in
    let parts = ap (λ ss. at.yielded ++ ss) (sym c.in-Some.ensures.steps.0) ∙ at.invariant.all ∙ c.into_iter-script-iterator.ensures.into_iter_gives.0 in
    in_middle (λ script. script.session.book ≡ g.J.BookName.book) at.yielded c.in-Some.script rest
    (subst (All (λ script. script.session.book ≡ g.J.BookName.book)) (sym parts) c.requires.scripts)

pub start_session-requires-clause-reported : goal.start_session-requires-clause-reported
start_session-requires-clause-reported g c κs within =
    let at = c.loop-script in
    let rest = into_iter_items c.next.new.self in
    let parts = ap (λ ss. at.yielded ++ ss) (sym c.in-Some.ensures.steps.0) ∙ at.invariant.all ∙ c.into_iter-script-iterator.ensures.into_iter_gives.0 in
    let may : Script _ _ → Type 0 = λ script. MayReport g.J.BookName.stored g.J.BookName.failed (has_store c.args.shared.now) script.session g.W.ReplyWriter.may_report in
    in_middle may at.yielded c.in-Some.script rest (subst (All may) (sym parts) c.requires.reported)

pub start_session-requires-clause-own : goal.start_session-requires-clause-own
start_session-requires-clause-own g c κs within =
    let at = c.loop-script in
    let rest = into_iter_items c.next.new.self in
    let parts = ap (λ ss. at.yielded ++ ss) (sym c.in-Some.ensures.steps.0) ∙ at.invariant.all ∙ c.into_iter-script-iterator.ensures.into_iter_gives.0 in
    let so : Script _ _ → Type 0 = λ script. IfSome (g.W.ReplyWriter.left script.port.writer) (IsAtStart (g.R.Read.remaining script.port.reader)) in
    in_middle so at.yielded c.in-Some.script rest (subst (All so) (sym parts) c.requires.own)

pub start_session-requires-clause-asked : goal.start_session-requires-clause-asked
start_session-requires-clause-asked g c κs within =
    let at = c.loop-script in
    let rest = into_iter_items c.next.new.self in
    let parts = ap (λ ss. at.yielded ++ ss) (sym c.in-Some.ensures.steps.0) ∙ at.invariant.all ∙ c.into_iter-script-iterator.ensures.into_iter_gives.0 in
    let so : Script _ _ → Type 0 = λ script. MayAskAll (g.J.BookName.asked script.session.session) (g.R.Read.remaining script.port.reader) in
    in_middle so at.yielded c.in-Some.script rest (subst (All so) (sym parts) c.requires.asked)

pub start_session-requires-clause-limit : goal.start_session-requires-clause-limit
start_session-requires-clause-limit g c κs within =
    let at = c.loop-script in
    let rest = into_iter_items c.next.new.self in
    let parts = ap (λ ss. at.yielded ++ ss) (sym c.in-Some.ensures.steps.0) ∙ at.invariant.all ∙ c.into_iter-script-iterator.ensures.into_iter_gives.0 in
    let so : Script _ _ → Type 0 = λ script. IsPastMost script.port.most (g.R.Read.remaining script.port.reader) → g.W.ReplyWriter.may_pass_limit script.port.writer in
    in_middle so at.yielded c.in-Some.script rest (subst (All so) (sym parts) c.requires.limit)

pub start_session-requires-clause-from : goal.start_session-requires-clause-from
start_session-requires-clause-from g c κs within =
    let at = c.loop-script in
    let rest = into_iter_items c.next.new.self in
    let parts = ap (λ ss. at.yielded ++ ss) (sym c.in-Some.ensures.steps.0) ∙ at.invariant.all ∙ c.into_iter-script-iterator.ensures.into_iter_gives.0 in
    let so : Script _ _ → Type 0 = λ script. g.W.ReplyWriter.from script.port.writer (has_store c.args.shared.now) script.session in
    in_middle so at.yielded c.in-Some.script rest (subst (All so) (sym parts) c.requires.from)

pub push_reserved-requires : goal.push_reserved-requires
push_reserved-requires g c =
    let at = c.loop-script in
    room_left _ at.yielded _ _ c.in-Some.script (vec_len at.running) (vec_capacity at.running) at.invariant.all c.in-Some.ensures.steps.0
    at.invariant.grown at.invariant.room

pub loop-script-preserved : goal.loop-script-preserved
loop-script-preserved g c =
    let at = c.loop-script in
    let script = c.in-Some.script in
    record {
      all = one_on _ at.yielded _ _ script at.invariant.all c.in-Some.ensures.steps.0;
      left = one_less _ _ script _ _ c.in-Some.ensures.steps.0 c.in-Some.ensures.steps.1 at.invariant.left;
      grown = one_longer at.yielded script _ _ c.push_reserved.ensures.len at.invariant.grown;
      room = omega (arith, at.invariant.room, c.push_reserved.ensures.capacity);
      begun = beside_pushed (λ script begun. MatchResult begun (λ h. (h.promise.begun.value ≡ script) × (h.promise.stored ≡ has_store c.args.shared.now)) (λ back. IsRunOf g.J.BookName.book (store_of g.J.BookName.stored g.J.BookName.failed (has_store c.args.shared.now)) g.R.Read.remaining g.W.ReplyWriter.contents script back))
          at.yielded at.running.items _ script c.start_session.result c.push_reserved.ensures.items at.invariant.begun c.start_session.ensures;
    }

pub join_sessions-requires : goal.join_sessions-requires
join_sessions-requires g c =
    let at = c.loop-script in
    let scripts = c.args.seats.scripts.items in
    let running = at.running in
    let stored = has_store c.args.shared.now in
    let all = gone_by_count _ scripts at.yielded (into_iter_items at.script-iterator) _ at.invariant.all
    c.into_iter-script-iterator.ensures.into_iter_gives.0 at.invariant.left c.in-None.ensures.steps.0 in
    let begun = subst (λ ss. AllZip (λ script begun. MatchResult begun (λ h. (h.promise.begun.value ≡ script) × (h.promise.stored ≡ stored)) (λ back. IsRunOf g.J.BookName.book (store_of g.J.BookName.stored g.J.BookName.failed stored) g.R.Read.remaining g.W.ReplyWriter.contents script back)) ss running.items) all at.invariant.begun in
    subst (λ n. IsReserved c.args.seats.sessions n × IsReserved c.args.seats.finished n)
    (beside_length (λ script begun. MatchResult begun (λ h. (h.promise.begun.value ≡ script) × (h.promise.stored ≡ stored)) (λ back. IsRunOf g.J.BookName.book (store_of g.J.BookName.stored g.J.BookName.failed stored) g.R.Read.remaining g.W.ReplyWriter.contents script back)) scripts running.items begun)
    (c.requires.room.sessions, c.requires.room.finished)

pub returns : goal.returns
returns g c =
    let at = c.loop-script in
    let scripts = c.args.seats.scripts.items in
    let running = at.running in
    let stored = has_store c.args.shared.now in
    let all = gone_by_count _ scripts at.yielded (into_iter_items at.script-iterator) _ at.invariant.all
    c.into_iter-script-iterator.ensures.into_iter_gives.0 at.invariant.left c.in-None.ensures.steps.0 in
    let begun = subst (λ ss. AllZip (λ script begun. MatchResult begun (λ h. (h.promise.begun.value ≡ script) × (h.promise.stored ≡ stored)) (λ back. IsRunOf g.J.BookName.book (store_of g.J.BookName.stored g.J.BookName.failed stored) g.R.Read.remaining g.W.ReplyWriter.contents script back)) ss running.items) all at.invariant.begun in
    let joined = c.join_sessions.ensures in
    record {
      ended = joined.ended;
      each =
          beside_through (λ script begun. MatchResult begun (λ h. (h.promise.begun.value ≡ script) × (h.promise.stored ≡ stored)) (λ back. IsRunOf g.J.BookName.book (store_of g.J.BookName.stored g.J.BookName.failed stored) g.R.Read.remaining g.W.ReplyWriter.contents script back))
          (λ begun ended. MatchResult begun (λ h. IsRunOf g.J.BookName.book (store_of g.J.BookName.stored g.J.BookName.failed h.promise.stored) g.R.Read.remaining g.W.ReplyWriter.contents h.promise.begun.value ended) (λ back. ended ≡ back))
          (λ script ended. IsRunOf g.J.BookName.book (store_of g.J.BookName.stored g.J.BookName.failed stored) g.R.Read.remaining g.W.ReplyWriter.contents script ended)
          (λ script begun ended. elim begun as (λ b. MatchResult b (λ h. (h.promise.begun.value ≡ script) × (h.promise.stored ≡ stored)) (λ back. IsRunOf g.J.BookName.book (store_of g.J.BookName.stored g.J.BookName.failed stored) g.R.Read.remaining g.W.ReplyWriter.contents script back)
          → MatchResult b (λ h. IsRunOf g.J.BookName.book (store_of g.J.BookName.stored g.J.BookName.failed h.promise.stored) g.R.Read.remaining g.W.ReplyWriter.contents h.promise.begun.value ended) (λ back. ended ≡ back)
          → IsRunOf g.J.BookName.book (store_of g.J.BookName.stored g.J.BookName.failed stored) g.R.Read.remaining g.W.ReplyWriter.contents script ended) [
            | Ok h ↦ λ same ran. subst (λ b. IsRunOf g.J.BookName.book (store_of g.J.BookName.stored g.J.BookName.failed b) g.R.Read.remaining g.W.ReplyWriter.contents script ended) same.1
                (subst (λ s. IsRunOf g.J.BookName.book (store_of g.J.BookName.stored g.J.BookName.failed h.promise.stored) g.R.Read.remaining g.W.ReplyWriter.contents s ended) same.0 ran)
            | Err back ↦ λ ran is. subst (λ e. IsRunOf g.J.BookName.book (store_of g.J.BookName.stored g.J.BookName.failed stored) g.R.Read.remaining g.W.ReplyWriter.contents script e) (sym is) ran
          ])
          scripts running.items joined.ended begun joined.each;
      sessions_are = joined.sessions_are;
      finished_are = joined.finished_are;
    }
