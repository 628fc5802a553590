use Rattle.std.proofs.Common.{arith, rules}
use Rattle.std.specs.Vec.{vec_len, vec_capacity}
use Rattle.std.specs.Vec.Iter.{into_iter_items}
use Rattle.session_threads.proofs.Lists.{gone_by_count, leave_more, leave_none, leave_same, one_less, one_longer, one_on, room_left}
use Rattle.session_threads.proofs.running.join_sessions.Goals as goal

pub loop-begun-init : goal.loop-begun-init
loop-begun-init g c = record {
  all = search rules;
  left = search rules;
  sessions_grown = c.requires.0.none;
  sessions_room = search rules;
  finished_grown = c.requires.1.none;
  finished_room = search rules;
  leave = leave_none c.args.sessions.items c.args.finished.items c.requires.0.empty c.requires.1.empty;
}

pub push_reserved-requires : goal.push_reserved-requires
push_reserved-requires g c =
    let at = c.loop-begun in
    room_left _ at.yielded _ _ c.in-Some.begun (vec_len at.sessions) (vec_capacity at.sessions) at.invariant.all c.in-Some.ensures.steps.0
    at.invariant.sessions_grown at.invariant.sessions_room

pub push_reserved-requires-in-loop-begun : goal.push_reserved-requires-in-loop-begun
push_reserved-requires-in-loop-begun g c =
    let at = c.loop-begun in
    room_left _ at.yielded _ _ c.in-Some.begun (vec_len at.finished) (vec_capacity at.finished) at.invariant.all c.in-Some.ensures.steps.0
    at.invariant.finished_grown at.invariant.finished_room

pub loop-begun-preserved : goal.loop-begun-preserved
loop-begun-preserved g c =
    let at = c.loop-begun in
    let begun = c.in-Some.begun in
    record {
      all = one_on _ at.yielded _ _ begun at.invariant.all c.in-Some.ensures.steps.0;
      left = one_less _ _ begun _ _ c.in-Some.ensures.steps.0 c.in-Some.ensures.steps.1 at.invariant.left;
      sessions_grown = one_longer at.yielded begun _ _ c.push_reserved.ensures.len at.invariant.sessions_grown;
      sessions_room = omega (arith, at.invariant.sessions_room, c.push_reserved.ensures.capacity);
      finished_grown = one_longer at.yielded begun _ _ c.push_reserved-in-loop-begun.ensures.len at.invariant.finished_grown;
      finished_room = omega (arith, at.invariant.finished_room, c.push_reserved-in-loop-begun.ensures.capacity);
      leave = leave_more at.yielded at.sessions.items _ at.finished.items _ begun c.join_session-session.result
          c.push_reserved.ensures.items c.push_reserved-in-loop-begun.ensures.items at.invariant.leave c.join_session-session.ensures;
    }

pub returns : goal.returns
returns g c =
    let at = c.loop-begun in
    leave_same
    (gone_by_count _ c.args.running.items at.yielded (into_iter_items at.begun-iterator) _ at.invariant.all c.into_iter-begun-iterator.ensures.into_iter_gives.0
    at.invariant.left c.in-None.ensures.steps.0) at.invariant.leave
