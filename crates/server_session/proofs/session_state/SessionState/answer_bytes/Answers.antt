use Rattle.std.proofs.Common.{[], ◌∷◌, ◌+◌, ◌-◌, ◌<◌, ◌++◌, length, length-take, take, drop, refl, ap, sym, subst, ◌∙◌, append_assoc, arith}
use Rattle.std.proofs.lemmas.List.{take_rest}
use Rattle.server_session.specs.Asking.{MayAskNext}
use Rattle.server_session.proofs.Asked.{asks_next}
use Rattle.server_session.proofs.Feeds.{around, none_at_all, none_before}
use Rattle.server_session.proofs.Steps.{takes_none, takes_part, answers_nothing, answers_part, takes_more, answers_more, stops_there, at_err}
use Rattle.server_session.proofs.Left.{away_both, away_none, may_report-on, part_away, part_next}
use Rattle.server_session.proofs.Turns.{stays_self, stays_trans}
use Rattle.server_session.proofs.session_state.SessionState.answer_bytes.Goals as goal

pub loop-at-init : goal.loop-at-init
loop-at-init g c = record {
  past = [];
  parts = refl;
  takes = takes_none _;
  answers = λ taken has. answers_nothing _ _ _ taken;
  going = c.requires.going;
  stays = stays_self _;
  from = c.requires.from;
  limit = λ may. may;
  left = away_none c.args.self.now (g.W.ReplyWriter.left c.args.writer.now);
}

pub end_line-requires-clause-reported : goal.end_line-requires-clause-reported
end_line-requires-clause-reported g c κs within = may_report-on _ _ _ _ c.args.me.now c.loop-at.me c.loop-at.invariant.stays c.requires.reported

pub end_line-requires-clause-no_feed : goal.end_line-requires-clause-no_feed
end_line-requires-clause-no_feed g c κs within = none_before c.loop-at.rest.now c.in-Some.at c.in-Some.ensures.0.before

pub end_line-requires-clause-own : goal.end_line-requires-clause-own
end_line-requires-clause-own g c κs within =
    let rest = c.loop-at.rest.now in
    let at = c.in-Some.at in
    let here = c.loop-at.invariant in
    part_next c.args.self.now c.loop-at.self here.past (take at rest ++ 10 ∷ []) (drop (at + 1) rest) c.args.bytes.now
    (ap (λ l. here.past ++ l) (around rest at c.in-Some.ensures.0.high c.in-Some.ensures.1) ∙ here.parts) here.takes
    (g.W.ReplyWriter.left c.args.writer.now) (g.W.ReplyWriter.left c.loop-at.writer) here.left c.requires.own

pub loop-at-smaller : goal.loop-at-smaller
loop-at-smaller g c =
    let rest = c.loop-at.rest.now in
    let next = c.in-Some.at + 1 in
    let less : length (take (length rest - next) (drop next rest)) < length rest = omega (arith, c.in-Some.ensures.0.high, length-take (length rest - next) (drop next rest)) in
    less

pub loop-at-preserved : goal.loop-at-preserved
loop-at-preserved g c =
    let rest = c.loop-at.rest.now in
    let at = c.in-Some.at in
    let line = take at rest ++ 10 ∷ [] in
    let here = c.loop-at.invariant in
    let next = c.in_ok-end_line.ensures in
    record {
      past = here.past ++ line;
      parts = ap (λ l. (here.past ++ line) ++ l) (take_rest rest (at + 1)) ∙ append_assoc here.past line (drop (at + 1) rest)
          ∙ ap (λ l. here.past ++ l) (around rest at c.in-Some.ensures.0.high c.in-Some.ensures.1) ∙ here.parts;
      takes = takes_more _ c.args.self.now c.loop-at.self _ _ c.end_line.new.me here.past line (here.past ++ line) _ _ (g.W.ReplyWriter.contents c.end_line.new.writer) refl here.stays here.takes here.answers c.end_line.new.self next.takes;
      answers = answers_more _ c.args.self.now c.loop-at.self _ _ c.end_line.new.me here.past line (here.past ++ line) _ _ (g.W.ReplyWriter.contents c.end_line.new.writer) refl here.stays here.takes here.answers next.answers;
      going = next.ended;
      stays = stays_trans _ _ _ here.stays next.stays;
      from = next.from;
      limit = λ may. next.limit (here.limit may);
      left = away_both c.args.self.now c.loop-at.self here.past here.takes line (here.past ++ line) (g.W.ReplyWriter.left c.args.writer.now) (g.W.ReplyWriter.left c.loop-at.writer) (g.W.ReplyWriter.left c.end_line.new.writer)
          refl here.left next.left;
    }

pub returns-in_err-end_line-clause-stops : goal.returns-in_err-end_line-clause-stops
returns-in_err-end_line-clause-stops g c =
    let rest = c.loop-at.rest.now in
    let at = c.in-Some.at in
    let line = take at rest ++ 10 ∷ [] in
    let here = c.loop-at.invariant in
    at_err _ _ _ c.from_residual.ensures.0
    (stops_there _ c.args.self.now c.loop-at.self _ _ _ here.past line (drop (at + 1) rest) c.args.bytes.now _ _ _
    (append_assoc here.past line (drop (at + 1) rest) ∙ ap (λ l. here.past ++ l) (around rest at c.in-Some.ensures.0.high c.in-Some.ensures.1) ∙ here.parts)
    here.stays here.takes here.answers c.in_err-end_line.ensures.stops)

pub returns-clause-takes : goal.returns-clause-takes
returns-clause-takes g c =
    let rest = c.loop-at.rest.now in
    let here = c.loop-at.invariant in
    takes_more _ c.args.self.now c.loop-at.self _ _ c.loop-at.me here.past rest c.args.bytes.now _ _ (g.W.ReplyWriter.contents c.loop-at.writer) here.parts here.stays here.takes here.answers _
    (takes_part c.loop-at.self _ rest (none_at_all rest c.in_default.ensures) c.push_all.ensures refl)

pub returns-clause-answers : goal.returns-clause-answers
returns-clause-answers g c =
    let rest = c.loop-at.rest.now in
    let here = c.loop-at.invariant in
    answers_more _ c.args.self.now c.loop-at.self _ _ c.loop-at.me here.past rest c.args.bytes.now _ _ (g.W.ReplyWriter.contents c.loop-at.writer) here.parts here.stays here.takes here.answers
    (λ taken has. answers_part _ _ rest _ (none_at_all rest c.in_default.ensures) taken)

pub returns-clause-left : goal.returns-clause-left
returns-clause-left g c =
    let rest = c.loop-at.rest.now in
    let here = c.loop-at.invariant in
    away_both c.args.self.now c.loop-at.self here.past here.takes rest c.args.bytes.now (g.W.ReplyWriter.left c.args.writer.now) (g.W.ReplyWriter.left c.loop-at.writer) (g.W.ReplyWriter.left c.loop-at.writer)
    here.parts here.left (part_away c.loop-at.self rest (none_at_all rest c.in_default.ensures) (g.W.ReplyWriter.left c.loop-at.writer))

pub end_line-requires-clause-asked : goal.end_line-requires-clause-asked
end_line-requires-clause-asked g c κs within =
    let rest = c.loop-at.rest.now in
    let at = c.in-Some.at in
    let line = take at rest ++ 10 ∷ [] in
    let here = c.loop-at.invariant in
    subst (λ s. MayAskNext (g.J.BookName.asked s) c.loop-at.self line) (sym here.stays.session)
    (asks_next (g.J.BookName.asked c.args.me.now.session) c.args.self.now c.loop-at.self here.past line (drop (at + 1) rest) c.args.bytes.now
    (ap (λ l. here.past ++ l) (around rest at c.in-Some.ensures.0.high c.in-Some.ensures.1) ∙ here.parts) here.takes c.requires.asked)
