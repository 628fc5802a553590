use Rattle.std.proofs.Common.{◌≡◌, ◌+◌, ◌∙◌, ℕ, List, All, None, Some, IfSome, MatchOption, length, map, ap, sym, subst}
use Rattle.std.specs.List.{AllZip}
use Rattle.std.specs.declared.alloc.Global.{Global}
use Rattle.std.specs.declared.vec.Vec.{Vec}
use Rattle.book_history.specs.BookLogs.{BookLog}
use Rattle.book_history.specs.Known.{Known}
use Rattle.book_lock.specs.Steps.{HasAllOf}
use Rattle.book_lock.proofs.Beginning.{count_of}
use Rattle.overlay_terms.specs.Histories.{Version}
use Rattle.version_book.specs.Store.{has_store}
use Rattle.store_flushing.specs.Stores.{flusher_in}
use Rattle.session_threads.specs.Counting.{made_in}
use Rattle.session_threads.specs.Rooms.{HasRoom}
use Rattle.session_threads.specs.Running.{IsRunOf}
use Rattle.session_threads.specs.Seats.{ended_session}
use Rattle.session_threads.specs.declared.port.Port.{Port}
use Rattle.server_session.specs.Asking.{MayAskAll}
use Rattle.server_session.specs.Replying.{IsAtStart, IsPastMost}
use Rattle.server_session.specs.Stores.{store_of}
use Rattle.overlay_server.specs.Given.{Given, given_to}
use Rattle.overlay_server.specs.Serving.{first_log}
use Rattle.overlay_server.proofs.Asked.{all_ask}
use Rattle.overlay_server.proofs.Held.{runs_held}
use Rattle.overlay_server.proofs.Refusals.{MayAnswer, refused_at_once}
use Rattle.overlay_server.proofs.Reporting.{goes_of, may_report_all, own_of}
use Rattle.overlay_server.proofs.Parts.{AreSeated, all_of_book, as_many, begin_there, of_ended}
use Rattle.overlay_server.proofs.Stopping.{any_of, come_to, stopped_of}
use Rattle.overlay_server.proofs.StoreParts.{holds_first, holds_on, kept_twice, stopped_at_once}
use Rattle.overlay_server.proofs.ServedParts.{served_from}
use Rattle.overlay_server.proofs.hosted.Hosted.run.Goals as goal

pub seated-requires : goal.seated-requires
seated-requires g c =
    ap (λ (ks : List Known). length ks) c.requires.hosted.sessions ∙ count_of (record { book = g.J.BookName.book; log = first_log c.args.self.version.value }) (length c.args.ports.items)

pub returns-in-Err-clause-refused : goal.returns-in-Err-clause-refused
returns-in-Err-clause-refused g c =
    let self = c.args.self in
    let fault = c.refused.result in
    let given : List (Port _ _) → List Given = given_to g.R.Read.remaining g.W.ReplyWriter.contents in
    record {
      fault =
          refused_at_once g.D.Disk self.version.value (flusher_in self.store) (given c.args.ports.items) fault self.answer
          (record { code = c.refused.ensures.code; same = c.refused.ensures.answer; may = subst MayAnswer (sym c.requires.hosted.answer) tt })
          (ap (λ (l : BookLog). l.log) c.refused.ensures.seen_log ∙ c.requires.hosted.first) c.refused.ensures.notes c.refused.ensures.sessions
          (stopped_at_once g.D.Disk self.version.value (flusher_in self.store) fault.disk c.requires.hosted.now
          (subst (λ o. MatchOption (flusher_in self.store) (o ≡ None) (λ f. o ≡ Some f.commit.disk)) (sym c.refused.ensures.disk) c.into_disk.ensures));
      ports = (ap (λ (ps : Vec (Port _ _) Global). given ps.items) c.in-Err.ensures.refused, c.refused.ensures.sessions);
    }

pub run_threads-worked-requires-clause-stored : goal.run_threads-worked-requires-clause-stored
run_threads-worked-requires-clause-stored g c κs within =
    holds_first g.D.Disk g.J.BookName.store g.J.BookName.stored g.J.BookName.failed c.args.self.version.value c.args.self.store c.requires.hosted.begun c.requires.mine c.requires.meant c.requires.failed

pub run_threads-worked-requires-clause-ready : goal.run_threads-worked-requires-clause-ready
run_threads-worked-requires-clause-ready g c κs within =
    let self = c.args.self in
    let start = self.version.value in
    let ports = c.args.ports.items in
    let seats = c.in-Ok.seats in
    let seated : AreSeated g.J.BookName.book start ports seats.scripts.items = record { sessions = c.in-Ok.ensures.sessions ∙ c.requires.hosted.sessions; ports_are = c.in-Ok.ensures.ports } in
    record {
      scripts = all_of_book g.J.BookName.book start ports seats.scripts.items seated;
      reported = may_report_all g.D.Disk c.requires.hosted.now start g.J.BookName.stored g.J.BookName.failed (flusher_in self.store)
          (record { stored_is = λ log number. (c.requires.meant log number).0; failed_is = λ log fault. (c.requires.failed log fault).0 })
          g.W.ReplyWriter.may_report c.requires.reported _ c.requires.hosted.stored seats.scripts.items (begin_there g.J.BookName.book start ports seats.scripts.items seated);
      goes_on = goes_of (λ port me. g.W.ReplyWriter.from port.writer (has_store self.shared) me) ports self.sessions.items seats.scripts.items c.in-Ok.ensures.ports c.in-Ok.ensures.sessions c.requires.from;
      asked_for = goes_of (λ port me. MayAskAll (g.J.BookName.asked me.session) (g.R.Read.remaining port.reader)) ports self.sessions.items seats.scripts.items c.in-Ok.ensures.ports c.in-Ok.ensures.sessions
          (all_ask g.R.Read.remaining g.W.ReplyWriter.contents g.J.BookName.asked ports _ self.sessions.items c.requires.hosted.sessions c.requires.asked);
      own = own_of (λ port. IfSome (g.W.ReplyWriter.left port.writer) (IsAtStart (g.R.Read.remaining port.reader))) ports seats.scripts.items c.in-Ok.ensures.ports c.requires.own;
      limit = own_of (λ port. IsPastMost port.most (g.R.Read.remaining port.reader) → g.W.ReplyWriter.may_pass_limit port.writer) ports seats.scripts.items c.in-Ok.ensures.ports c.requires.limit;
      room = subst (HasRoom seats) (sym (as_many g.J.BookName.book start ports seats.scripts.items seated)) c.in-Ok.ensures.room;
    }

pub keep_store-requires-clause-stored : goal.keep_store-requires-clause-stored
keep_store-requires-clause-stored g c =
    let old = c.args.self.store in
    let work = c.run_threads-worked in
    holds_on g.D.Disk g.J.BookName.store g.J.BookName.stored g.J.BookName.failed old work.new.store work.ensures.store.flushed
    (holds_first g.D.Disk g.J.BookName.store g.J.BookName.stored g.J.BookName.failed c.args.self.version.value old c.requires.hosted.begun c.requires.mine c.requires.meant c.requires.failed)

pub close-closed-requires-clause-sessions : goal.close-closed-requires-clause-sessions
close-closed-requires-clause-sessions g c =
    let left = c.run_threads-worked.ensures.left in
    subst (All (λ (k : Known). k.book ≡ g.J.BookName.book)) (sym (c.deref-2.ensures.value ∙ left.sessions_are))
    (of_ended g.J.BookName.book (store_of g.J.BookName.stored g.J.BookName.failed (has_store c.args.self.shared)) g.R.Read.remaining g.W.ReplyWriter.contents c.in-Ok.seats.scripts.items left.ended left.each)

pub returns-then-is_set-clause-refused : goal.returns-then-is_set-clause-refused
returns-then-is_set-clause-refused g c =
    let self = c.args.self in
    let start = self.version.value in
    let ports = c.args.ports.items in
    let scripts = c.in-Ok.seats.scripts.items in
    let work = c.run_threads-worked in
    let left = work.ensures.left in
    let after = c.keep_store.new.store in
    let closed = c.close-closed in
    let these : work.result.sessions.items ≡ map ended_session left.ended = left.sessions_are in
    let seated : AreSeated g.J.BookName.book start ports scripts = record { sessions = c.in-Ok.ensures.sessions ∙ c.requires.hosted.sessions; ports_are = c.in-Ok.ensures.ports } in
    let there = subst (λ b. AllZip (IsRunOf g.J.BookName.book (store_of g.J.BookName.stored g.J.BookName.failed b) g.R.Read.remaining g.W.ReplyWriter.contents) scripts left.ended) c.requires.hosted.stored left.each in
    let held =
    runs_held g.D.Disk c.requires.hosted.now start g.J.BookName.stored g.J.BookName.failed g.J.BookName.book (flusher_in self.store) g.R.Read.remaining g.W.ReplyWriter.contents
    (record { stored_is = λ log number. (c.requires.meant log number).0; failed_is = λ log fault. (c.requires.failed log fault).0 }) scripts left.ended (begin_there g.J.BookName.book start ports scripts seated) there in
    let refused = c.stopped in
    stopped_of g.D.Disk g.J.BookName.book g.R.Read.remaining g.W.ReplyWriter.contents start ports self.store after scripts left.ended refused.result
    (record { log = c.requires.hosted.begun; none_reported = c.requires.hosted.unreported; some = c.requires.ports; seated = seated })
    (record { sessions = held; kept = kept_twice g.D.Disk g.J.BookName.book self.store work.new.store after work.ensures.store c.keep_store.ensures })
    self.answer closed.result
    (record { code = refused.ensures.code; same = refused.ensures.answer; may = subst MayAnswer (sym c.requires.hosted.answer) tt })
    (record {
      version = closed.ensures.version;
      sessions = subst (All (HasAllOf closed.result.seen_log.log)) (c.deref-2.ensures.value ∙ these) closed.ensures.sessions;
      number =
          ap (λ (v : Version). v.number) (sym closed.ensures.version) ∙ ap (λ (v : Version). v.number) (sym c.deref-3.ensures) ∙ c.await_number.ensures
          ∙ ap (λ (n : ℕ). n + c.made_by_all-made.result) c.requires.hosted.number
          ∙ ap (λ (n : ℕ). start.number + n) (c.made_by_all-made.ensures ∙ ap (λ (ks : List Known). made_in ks) (c.deref.ensures.value ∙ these));
      store = record {
        log = closed.ensures.log;
        begun = closed.ensures.begun;
        heard = closed.ensures.reporter;
        durable = closed.ensures.durable;
        store = closed.ensures.store;
        fault = closed.ensures.fault;
        notes = closed.ensures.notes;
      };
    })
    refused.ensures.closed work.result.finished left.finished_are refused.ensures.back
    (come_to (any_of work.result.finished.items) refused.result.fault.sessions.items work.result.sessions.items (map ended_session left.ended) refused.ensures.sessions these)

pub returns-clause-left : goal.returns-clause-left
returns-clause-left g c =
    let self = c.args.self in
    let start = self.version.value in
    let ports = c.args.ports.items in
    let scripts = c.in-Ok.seats.scripts.items in
    let work = c.run_threads-worked in
    let left = work.ensures.left in
    let after = c.keep_store.new.store in
    let closed = c.close-closed in
    let these : work.result.sessions.items ≡ map ended_session left.ended = left.sessions_are in
    let seated : AreSeated g.J.BookName.book start ports scripts = record { sessions = c.in-Ok.ensures.sessions ∙ c.requires.hosted.sessions; ports_are = c.in-Ok.ensures.ports } in
    let there = subst (λ b. AllZip (IsRunOf g.J.BookName.book (store_of g.J.BookName.stored g.J.BookName.failed b) g.R.Read.remaining g.W.ReplyWriter.contents) scripts left.ended) c.requires.hosted.stored left.each in
    let held =
    runs_held g.D.Disk c.requires.hosted.now start g.J.BookName.stored g.J.BookName.failed g.J.BookName.book (flusher_in self.store) g.R.Read.remaining g.W.ReplyWriter.contents
    (record { stored_is = λ log number. (c.requires.meant log number).0; failed_is = λ log fault. (c.requires.failed log fault).0 }) scripts left.ended (begin_there g.J.BookName.book start ports scripts seated) there in
    served_from g.D.Disk g.J.BookName.book g.R.Read.remaining g.W.ReplyWriter.contents start ports self.store after scripts left.ended
    (record { sessions = work.result.finished; closed = closed.result })
    (record { log = c.requires.hosted.begun; none_reported = c.requires.hosted.unreported; some = c.requires.ports; seated = seated })
    (record { sessions = held; kept = kept_twice g.D.Disk g.J.BookName.book self.store work.new.store after work.ensures.store c.keep_store.ensures })
    (record {
      version = closed.ensures.version;
      sessions = subst (All (HasAllOf closed.result.seen_log.log)) (c.deref-2.ensures.value ∙ these) closed.ensures.sessions;
      number =
          ap (λ (v : Version). v.number) (sym closed.ensures.version) ∙ ap (λ (v : Version). v.number) (sym c.deref-3.ensures) ∙ c.await_number.ensures
          ∙ ap (λ (n : ℕ). n + c.made_by_all-made.result) c.requires.hosted.number
          ∙ ap (λ (n : ℕ). start.number + n) (c.made_by_all-made.ensures ∙ ap (λ (ks : List Known). made_in ks) (c.deref.ensures.value ∙ these));
      store = record {
        log = closed.ensures.log;
        begun = closed.ensures.begun;
        heard = closed.ensures.reporter;
        durable = closed.ensures.durable;
        store = closed.ensures.store;
        fault = closed.ensures.fault;
        notes = closed.ensures.notes;
      };
    })
    left.finished_are
