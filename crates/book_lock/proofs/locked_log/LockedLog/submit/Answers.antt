use Rattle.std.proofs.Common.{length, map, ap, sym, ◌∙◌, subst, refl, arith, inl, rules, false}
use Rattle.std.specs.Arc.{arc_value}
use Rattle.overlay_terms.specs.Histories.{accepted, commands_of, FollowsBatch}
use Rattle.layer_book.specs.Command.{command}
use Rattle.book_history.specs.Logs.{newest_in}
use Rattle.book_history.proofs.Owned.{own_le, own_then}
use Rattle.book_lock.proofs.Growing.{newest_of, entry_by}
use Rattle.book_lock.proofs.Turning.{refused_by}
use Rattle.book_lock.proofs.locked_log.LockedLog.submit.Goals as goal

pub returns-then-not-is_level : goal.returns-then-not-is_level
returns-then-not-is_level g c = record { ok = tt; err = (refl, refl) }

pub returns-in-Err : goal.returns-in-Err
returns-in-Err g c =
    let old = c.deref.ensures ∙ c.last.ensures.version in
    let refuses = g.C.Change.refuses c.args.change.now in
    let why = subst (λ v. refuses v c.in-Err.fault) old c.in-Err.ensures.refused in
    record {
      ok = tt;
      err = (refl, refused_by c.args.self.now c.args.me.now _ refuses false _ _ c.turn_away.ensures (λ looked. (why, looked)));
    }

pub add-requires : goal.add-requires
add-requires g c =
    let old = c.deref.ensures ∙ c.last.ensures.version in
    let batch = g.C.Change.batch c.args.change.now in
    let follows : FollowsBatch (newest_in c.args.self.now) batch (arc_value c.in-Ok.version) = subst (λ v. FollowsBatch v batch (arc_value c.in-Ok.version)) old c.in-Ok.ensures.ok in
    let asked = subst (λ b. g.J.BookName.asked c.args.me.now.session b) (sym c.commands.ensures) c.requires.asked in
    record {
      follows = search rules;
      seat = search rules;
      reported = inl follows.durable;
      asked = subst (λ by. g.J.BookName.asked by (map command c.commands.result.now)) (sym c.number-by.ensures.value) asked;
      own = tt;
    }

pub made_one-requires-clause-own : goal.made_one-requires-clause-own
made_one-requires-clause-own g c =
    let me = c.args.me.now in
    let old = c.args.self.now in
    let now = ap (λ t. t.log) c.last-last.ensures.seen_log ∙ c.in-Ok-add.ensures.ok in
    let own = c.if-not-is_level.ensures.own refl in
    (_, own_then me.session _ old c.last-last.result.now.seen_log.log me.made _ _ c.number-by.ensures.value now own)

pub made_one-requires-clause-room : goal.made_one-requires-clause-room
made_one-requires-clause-room g c =
    let me = c.args.me.now in
    omega (arith, own_le me.session c.args.self.now, ap length (c.if-not-is_level.ensures.own refl), c.in-Ok-add.ensures.room)

pub returns-clause-ok : goal.returns-clause-ok
returns-clause-ok g c =
    let me = c.args.me.now in
    let old = c.args.self.now in
    let after = c.add.new.self in
    let batch = g.C.Change.batch c.args.change.now in
    let follows = subst (λ v. FollowsBatch v batch (arc_value c.in-Ok.version)) (c.deref.ensures ∙ c.last.ensures.version) c.in-Ok.ensures.ok in
    let is = c.in-Ok-add.ensures.ok in
    let level = c.if-not-is_level.ensures in
    let log = ap (λ t. t.log) c.last-last.ensures.seen_log in
    let cause = ap (accepted c.number-by.result) c.commands.ensures ∙ ap (λ s. accepted s batch) c.number-by.ensures.value in
    let added = entry_by old after _ _ _ cause is in
    let own = own_then me.session me.session old after me.made batch (newest_in after) refl added (level.own refl) in
    let made = ap (commands_of me.session) log ∙ own in
    record {
      longer = level.longer refl;
      follows = subst (FollowsBatch (newest_in old) batch) (sym (newest_of old after _ is)) follows;
      added = added;
      numbered = sym (c.number-accepted.ensures.value ∙ ap (λ v. v.number) (c.deref-2.ensures ∙ c.last-last.ensures.version));
      knows = c.made_one.ensures ∙ (λ i. record { book = me.book; session = me.session; log = log i; made = made i });
      own = own;
      valid = c.last-last.ensures.log;
    }
