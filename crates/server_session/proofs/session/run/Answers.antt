use Rattle.std.proofs.Common.{◌≡◌, ◌+◌, ◌≤◌, inr, refl, sym, subst, take, arith, rules, ◌∙◌}
use Rattle.version_book.specs.Store.{has_store}
use Rattle.server_session.specs.Asking.{MayAskLast, MayAskNext}
use Rattle.server_session.proofs.Asked.{asks_read, asks_rest}
use Rattle.server_session.proofs.Endings.{begins, goes_on, ends-finished, ends-at_read, ends-past_limit, ends-stopped, past_most, reads_none, when_err, when_ok}
use Rattle.server_session.proofs.Left.{may_report-on, reads_first, reads_last, reads_next, reads_on, some_then}
use Rattle.server_session.proofs.Turns.{stays_self, stays_trans}
use Rattle.server_session.proofs.session.run.Goals as goal

pub loop-taken-init : goal.loop-taken-init
loop-taken-init g c = record {
  limited = omega arith;
  room = refl;
  going = c.requires.going;
  stays = stays_self _;
  from = c.requires.from;
  limit = c.requires.limit;
  own = some_then _ (reads_first c.args.most _ _ c.requires.begun) c.requires.own;
  way = begins _ _ _ _ _ _ c.requires.begun;
}

pub returns-in-Err-clause-run : goal.returns-in-Err-clause-run
returns-in-Err-clause-run g c =
    let within : c.loop-taken.taken ≤ c.args.most = c.loop-taken-test.true in
    ends-at_read c.args.most _ c.args.me.now c.end_by.result _ _ _ _ (g.W.ReplyWriter.contents c.loop-taken.writer) (g.W.ReplyWriter.contents c.end_by.new.writer) _ c.loop-taken.state c.loop-taken.me
    c.loop-taken.invariant.way within c.in-Err.ensures.err c.end_by.ensures.ends

pub returns-in-Err-clause-stays : goal.returns-in-Err-clause-stays
returns-in-Err-clause-stays g c = c.loop-taken.invariant.stays

pub finish-requires-clause-reported : goal.finish-requires-clause-reported
finish-requires-clause-reported g c κs within = may_report-on _ _ _ _ c.args.me.now c.loop-taken.me c.loop-taken.invariant.stays c.requires.reported

pub take-reported-requires-clause-reported : goal.take-reported-requires-clause-reported
take-reported-requires-clause-reported g c κs within = may_report-on _ _ _ _ c.args.me.now c.loop-taken.me c.loop-taken.invariant.stays c.requires.reported

pub returns-in-Ok-eq0-clause-run : goal.returns-in-Ok-eq0-clause-run
returns-in-Ok-eq0-clause-run g c =
    let within : c.loop-taken.taken ≤ c.args.most = c.loop-taken-test.true in
    ends-finished c.args.most _ c.args.me.now c.finish.result _ (g.R.Read.remaining c.loop-taken.reader) (g.R.Read.remaining c.read_chunk.new.reader) _ (g.W.ReplyWriter.contents c.loop-taken.writer) (g.W.ReplyWriter.contents c.finish.new.writer) _ c.loop-taken.state c.loop-taken.me c.finish.new.me
    c.loop-taken.invariant.way c.loop-taken.invariant.stays within
    (reads_none _ _ c.in-Ok-eq0.field-0 c.read_chunk.new.chunk c.in-Ok-eq0.field-0-test c.in-Ok-eq0.ensures.bytes)
    (c.in-Ok-eq0.ensures.at_end c.in-Ok-eq0.field-0-test) c.finish.ensures.finishes

pub returns-in-Ok-eq0-clause-stays : goal.returns-in-Ok-eq0-clause-stays
returns-in-Ok-eq0-clause-stays g c = stays_trans _ _ _ c.loop-taken.invariant.stays c.finish.ensures.stays

pub returns-then-is_err-clause-run : goal.returns-then-is_err-clause-run
returns-then-is_err-clause-run g c =
    let within : c.loop-taken.taken ≤ c.args.most = c.loop-taken-test.true in
    let stops = when_err _ c.take-reported.result (sym c.if-is_err.ensures.value) c.take-reported.ensures.stops in
    ends-stopped c.args.most _ c.args.me.now _ (g.R.Read.remaining c.loop-taken.reader) (g.R.Read.remaining c.read_chunk.new.reader) _ (g.W.ReplyWriter.contents c.loop-taken.writer) (g.W.ReplyWriter.contents c.take-reported.new.writer)
    _ c.in-Ok.count c.min-allowed.result c.read_chunk.new.chunk c.loop-taken.state c.loop-taken.me c.take-reported.new.me
    c.loop-taken.invariant.way c.loop-taken.invariant.stays within c.min-allowed.ensures c.in-Ok.ensures.bytes stops

pub returns-then-is_err-clause-stays : goal.returns-then-is_err-clause-stays
returns-then-is_err-clause-stays g c = stays_trans _ _ _ c.loop-taken.invariant.stays c.take-reported.ensures.stays

pub loop-taken-preserved : goal.loop-taken-preserved
loop-taken-preserved g c =
    let within : c.loop-taken.taken ≤ c.args.most = c.loop-taken-test.true in
    let works = sym c.if-is_err.ensures.value in
    let takes = when_ok _ c.take-reported.result works c.take-reported.ensures.takes in
    let answers = when_ok _ c.take-reported.result works c.take-reported.ensures.answers in
    record {
      limited = c.in-Ok.ensures.in_limit;
      room = search rules;
      going = c.take-reported.ensures.ended ∙ works;
      stays = stays_trans _ _ _ c.loop-taken.invariant.stays c.take-reported.ensures.stays;
      from = when_ok _ c.take-reported.result works c.take-reported.ensures.from;
      limit = λ past. when_ok _ c.take-reported.result works c.take-reported.ensures.limit (c.loop-taken.invariant.limit past);
      own = reads_on c.args.most c.loop-taken.taken c.in-Ok.count c.min-allowed.result c.read_chunk.new.chunk _ _ within c.min-allowed.ensures c.in-Ok.ensures.bytes c.loop-taken.state c.take-reported.new.self takes
          (g.W.ReplyWriter.left c.loop-taken.writer) (g.W.ReplyWriter.left c.take-reported.new.writer) (when_ok _ c.take-reported.result works c.take-reported.ensures.left) c.loop-taken.invariant.own;
      way =
          goes_on c.args.most _ c.args.me.now _ (g.R.Read.remaining c.loop-taken.reader) (g.R.Read.remaining c.read_chunk.new.reader) _ (g.W.ReplyWriter.contents c.loop-taken.writer) (g.W.ReplyWriter.contents c.take-reported.new.writer)
          c.loop-taken.taken c.in-Ok.count c.min-allowed.result c.read_chunk.new.chunk c.loop-taken.state c.take-reported.new.self c.loop-taken.me c.take-reported.new.me
          c.loop-taken.invariant.way c.loop-taken.invariant.stays within c.in-Ok.ensures.within c.min-allowed.ensures c.in-Ok.ensures.bytes takes answers;
    }

pub returns-clause-run : goal.returns-clause-run
returns-clause-run g c =
    let past : c.loop-taken.taken ≡ c.args.most + 1 = omega arith in
    ends-past_limit c.args.most _ c.args.me.now c.end_by-2.result _ _ _ (g.W.ReplyWriter.contents c.loop-taken.writer) (g.W.ReplyWriter.contents c.end_by-2.new.writer) _ c.loop-taken.state c.loop-taken.me
    c.loop-taken.invariant.way past c.end_by-2.ensures.ends

pub returns-clause-stays : goal.returns-clause-stays
returns-clause-stays g c = c.loop-taken.invariant.stays

pub end_by-requires-clause-from : goal.end_by-requires-clause-from
end_by-requires-clause-from g c = (has_store c.args.shared.now, c.loop-taken.invariant.from)

pub end_by-requires-2-clause-fault : goal.end_by-requires-2-clause-fault
end_by-requires-2-clause-fault g c =
    let past : c.loop-taken.taken ≡ c.args.most + 1 = omega arith in
    inr (refl, c.loop-taken.invariant.limit (past_most c.args.most _ c.args.me.now _ _ _ _ _ c.loop-taken.state c.loop-taken.me c.loop-taken.invariant.way past))

pub end_by-requires-2-clause-from : goal.end_by-requires-2-clause-from
end_by-requires-2-clause-from g c = (has_store c.args.shared.now, c.loop-taken.invariant.from)

pub finish-requires-clause-own : goal.finish-requires-clause-own
finish-requires-clause-own g c κs within =
    let short : c.loop-taken.taken ≤ c.args.most = c.loop-taken-test.true in
    some_then _ (reads_last c.args.most c.loop-taken.taken _ _ c.loop-taken.state short
    (reads_none _ _ c.in-Ok-eq0.field-0 c.read_chunk.new.chunk c.in-Ok-eq0.field-0-test c.in-Ok-eq0.ensures.bytes)
    (c.in-Ok-eq0.ensures.at_end c.in-Ok-eq0.field-0-test)) c.loop-taken.invariant.own

pub take-reported-requires-clause-own : goal.take-reported-requires-clause-own
take-reported-requires-clause-own g c κs within =
    let short : c.loop-taken.taken ≤ c.args.most = c.loop-taken-test.true in
    some_then _ (reads_next c.args.most c.loop-taken.taken c.in-Ok.count c.min-allowed.result c.read_chunk.new.chunk _ _ short c.min-allowed.ensures c.in-Ok.ensures.bytes c.loop-taken.state) c.loop-taken.invariant.own

pub take-reported-requires-clause-asked : goal.take-reported-requires-clause-asked
take-reported-requires-clause-asked g c κs within =
    let short : c.loop-taken.taken ≤ c.args.most = c.loop-taken-test.true in
    subst (λ s. MayAskNext (g.J.BookName.asked s) c.loop-taken.state (take c.min-allowed.result c.read_chunk.new.chunk)) (sym c.loop-taken.invariant.stays.session)
    (asks_read (g.J.BookName.asked c.args.me.now.session) c.args.most _ c.args.me.now _ (g.R.Read.remaining c.loop-taken.reader) _ (g.W.ReplyWriter.contents c.loop-taken.writer) c.loop-taken.taken c.loop-taken.state c.loop-taken.me
    c.loop-taken.invariant.way short (g.R.Read.remaining c.read_chunk.new.reader) c.in-Ok.count c.min-allowed.result c.read_chunk.new.chunk c.min-allowed.ensures c.in-Ok.ensures.bytes c.requires.asked)

pub finish-requires-clause-asked : goal.finish-requires-clause-asked
finish-requires-clause-asked g c κs within =
    let short : c.loop-taken.taken ≤ c.args.most = c.loop-taken-test.true in
    subst (λ s. MayAskLast (g.J.BookName.asked s) c.loop-taken.state) (sym c.loop-taken.invariant.stays.session)
    (asks_rest (g.J.BookName.asked c.args.me.now.session) c.args.most _ c.args.me.now _ (g.R.Read.remaining c.loop-taken.reader) _ (g.W.ReplyWriter.contents c.loop-taken.writer) c.loop-taken.taken c.loop-taken.state c.loop-taken.me
    c.loop-taken.invariant.way short (g.R.Read.remaining c.read_chunk.new.reader)
    (reads_none _ _ c.in-Ok-eq0.field-0 c.read_chunk.new.chunk c.in-Ok-eq0.field-0-test c.in-Ok-eq0.ensures.bytes) (c.in-Ok-eq0.ensures.at_end c.in-Ok-eq0.field-0-test) c.requires.asked)
