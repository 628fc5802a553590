use Rattle.std.proofs.Common.{◌≡◌, ◌⊎◌, ◌++◌, ◌∷◌, [], length, ap, sym, ◌∙◌, subst, arith, refl, rules}
use Rattle.overlay_terms.specs.Histories.{Follows}
use Rattle.book_history.specs.Causes.{event_of}
use Rattle.book_history.specs.Logs.{entry, newest_in}
use Rattle.book_history.specs.Reporting.{MayBeReported}
use Rattle.book_history.specs.BookLogs.{BookLog}
use Rattle.book_history.proofs.Chains.{newest_more}
use Rattle.book_history.proofs.Owned.{own_le, counts_more}
use Rattle.book_lock.proofs.Reportings.{reported_more}
use Rattle.book_lock.proofs.locked_log.LockedLog.add.Goals as goal

-- what is said of the log's copy is found by search, as it holds of a copy of that too
pub add-requires : goal.add-requires
add-requires g c =
    let event = event_of c.args.cause in
    let follows = subst (λ v. Follows (newest_in c.args.self.now) event v) (sym c.deref.ensures) c.requires.follows in
    let stored = g.J.BookName.stored in
    let reported = subst (λ v. (v.durable ≡ (newest_in c.args.self.now).durable) ⊎ MayBeReported stored c.args.self.now v.durable) (sym c.deref.ensures) c.requires.reported in
    record {
      head = search rules;
      room = search (rules, arith);
      follows = subst (λ l. Follows l event c.deref.result.now) (search rules) follows;
      reported = subst (λ l. (c.deref.result.now.durable ≡ (newest_in l).durable) ⊎ MayBeReported stored l c.deref.result.now.durable) (search rules) reported;
      asked = c.requires.asked;
      own = c.requires.own;
    }

pub returns-then-at-ge-MOST : goal.returns-then-at-ge-MOST
returns-then-at-ge-MOST g c = record { ok = tt; room = tt; err = (refl, refl) }

pub invariant_of-next : goal.invariant_of-next
invariant_of-next g c =
    let e = entry (event_of c.args.cause) c.deref.result.now in
    record { last = sym (ap (λ (t : BookLog). newest_in t.log) c.if-not-add.ensures ∙ newest_more c.again-seen_log.result.log e ∙ c.deref.ensures) }

pub put_out-requires : goal.put_out-requires
put_out-requires g c =
    let was = c.self.inside.publisher.desk.shown.value.seen_log in
    let e = entry (event_of c.args.cause) c.deref.result.now in
    let same : c.again-seen_log.result ≡ was = c.again-seen_log.ensures ∙ ap (λ p. p.seen_log) c.published.ensures in
    let added = c.if-not-add.ensures in
    record {
      pending = c.self.invariant.2;
      longer = (
        omega (arith, c.at.ensures.length, ap (λ (t : BookLog). length t.log) same),
        sym (ap (λ (t : BookLog). t.book) added ∙ ap (λ (t : BookLog). t.book) same),
        (e ∷ [], sym (ap (λ (t : BookLog). t.log) added ∙ ap (λ (t : BookLog). t.log ++ e ∷ []) same)),
      );
    }

pub counted-self-inside-requires : goal.counted-self-inside-requires
counted-self-inside-requires g c =
    let was = c.self.inside.publisher.desk.shown.value.seen_log in
    let same : c.again-seen_log.result ≡ was = c.again-seen_log.ensures ∙ ap (λ p. p.seen_log) c.published.ensures in
    let long = ap (λ (t : BookLog). length t.log) same in
    record {
      seat = c.requires.seat;
      room = λ k low. omega (arith, own_le k was.log, long, c.self.invariant.3 k low, c.at.ensures.length, c.if-at-ge-MOST.false);
    }

pub invariant_of-self : goal.invariant_of-self
invariant_of-self g c =
    let was = c.self.inside.publisher.desk.shown.value.seen_log in
    let e = entry (event_of c.args.cause) c.deref.result.now in
    let same : c.again-seen_log.result ≡ was = c.again-seen_log.ensures ∙ ap (λ p. p.seen_log) c.published.ensures in
    let shown : c.put_out.new.publisher.desk.shown.value.seen_log ≡ c.add.new.self = c.put_out.ensures.shown in
    let i = c.self.invariant in
    let added = c.if-not-add.ensures in (
      i.0,
      ap (λ (t : BookLog). t.book) (shown ∙ added) ∙ ap (λ (t : BookLog). t.book) same ∙ i.1,
      c.put_out.ensures.pending,
      (λ k low. counts_more k was.log c.put_out.new.publisher.desk.shown.value.seen_log.log e _ _
          (ap (λ (t : BookLog). t.log) (shown ∙ added) ∙ ap (λ (t : BookLog). t.log ++ e ∷ []) same) (i.3 k low) (c.counted-self-inside.ensures k low)),
      reported_more g.J.BookName.stored was.log c.put_out.new.publisher.desk.shown.value.seen_log.log e
          (ap (λ (t : BookLog). t.log) (shown ∙ added) ∙ ap (λ (t : BookLog). t.log ++ e ∷ []) same)
          (omega (arith, c.at.ensures.length, ap (λ (t : BookLog). length t.log) same)) i.4
          (subst (λ l. (e.version.durable ≡ (newest_in l).durable) ⊎ MayBeReported g.J.BookName.stored l e.version.durable) (sym c.self.view_is)
          (subst (λ v. (v.durable ≡ (newest_in c.args.self.now).durable) ⊎ MayBeReported g.J.BookName.stored c.args.self.now v.durable) (sym c.deref.ensures) c.requires.reported)),
    )

pub returns : goal.returns
returns g c =
    let same = c.again-seen_log.ensures ∙ ap (λ p. p.seen_log) c.published.ensures in
    let log = ap (λ (t : BookLog). t.log) same ∙ c.self.view_is in
    let shown : c.put_out.new.publisher.desk.shown.value.seen_log ≡ c.add.new.self = c.put_out.ensures.shown in
    let added = ap (λ (t : BookLog). t.log) (shown ∙ c.if-not-add.ensures) in
    record {
      ok = added ∙ (λ i. log i ++ entry (event_of c.args.cause) (c.deref.ensures i) ∷ []);
      room = omega (arith, ap length log, c.at.ensures.length, c.if-at-ge-MOST.false);
      err = tt;
    }
