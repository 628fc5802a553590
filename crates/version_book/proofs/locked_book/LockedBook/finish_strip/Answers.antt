use Rattle.std.proofs.Common.{length, take, refl, rules, ap, sym, ◌∙◌, subst, arith, eqb-true}
use mathlib.Core.List.{IsPrefix}
use Rattle.overlay_terms.specs.Histories.{Version}
use Rattle.book_history.specs.BookLogs.{BookLog}
use Rattle.book_history.proofs.Fronts.{prefix_length}
use Rattle.book_lock.specs.Steps.{AreFinishedIn}
use Rattle.book_lock.proofs.Finishing.{all_stay}
use Rattle.version_book.proofs.Failures.{still_failed}
use Rattle.version_book.proofs.StripLemmas.{all_present}
use Rattle.version_book.proofs.locked_book.LockedBook.finish_strip.Goals as goal

pub keep_each-requires : goal.keep_each-requires
keep_each-requires g c =
    let strip = c.args.strip.now in
    let old = c.args.self.now.log in
    let longer = subst (λ l. IsPrefix l old) c.seen_log.ensures.1 (c.has.ensures.0 c.if-not-has.false) in
    let newest = c.deref.ensures ∙ c.last-last.ensures.version in
    record {
      present = λ same.
          let number = ap (λ (v : Version). v.number) (sym newest) ∙ sym c.number.ensures.value ∙ eqb-true _ _ same ∙ c.number-2.ensures.value in
          all_present strip c.args.built.now old c.name.result.now c.number-2.ensures.strip c.requires.tiles c.name.ensures c.last-last.ensures.log longer number;
    }

pub returns-in-Err : goal.returns-in-Err
returns-in-Err g c =
    let e = c.in-Err.ensures.err in
    record { finished = tt; state = tt; err = (refl, e.0, refl); refused = e.1 }

pub overflow_sub-kept : goal.overflow_sub-kept
overflow_sub-kept g c =
    let old = c.args.self.now.log in
    let new = c.keep_each.new.self in
    let stays = all_stay g.J.BookName.stored old new c.name.result.now (take c.in-Ok.count c.args.built.now) c.in-Ok.ensures.finished in
    let longer = prefix_length old new stays.longer in
    omega (
      arith,
      longer,
      c.at-before.ensures.length,
      c.at.ensures.length,
      ap (λ (t : BookLog). length t.log) c.last-last.ensures.seen_log,
      ap (λ (t : BookLog). length t.log) c.last.ensures.seen_log,
    )

pub go_on-requires : goal.go_on-requires
go_on-requires g c = omega (arith, c.requires.tiles.few, c.in-Ok.ensures.few)

pub returns : goal.returns
returns g c =
    let strip = c.args.strip.now in
    let built = c.args.built.now in
    let old = c.args.self.now.log in
    let new = c.keep_each.new.self in
    let made = c.in-Ok.ensures in
    let finished = subst (λ n. AreFinishedIn old n (take c.in-Ok.count built) new) c.name.ensures made.finished in
    let stays = all_stay g.J.BookName.stored old new strip.name (take c.in-Ok.count built) finished in
    let longer = prefix_length old new stays.longer in
    record {
      finished = record {
        count = c.in-Ok.count;
        few = made.few;
        some = made.some;
        goes_on = subst (λ l. IsPrefix l old) c.seen_log.ensures.1 (c.has.ensures.0 c.if-not-has.false);
        finished = finished;
        entries = omega (
          arith,
          longer,
          c.at-before.ensures.length,
          c.at.ensures.length,
          ap (λ (t : BookLog). length t.log) c.last-last.ensures.seen_log,
          ap (λ (t : BookLog). length t.log) c.last.ensures.seen_log,
        );
        spent = c.go_on.ensures;
      };
      state = search rules;
      err = tt;
      refused = tt;
    }

pub invariant_of-self-2 : goal.invariant_of-self-2
invariant_of-self-2 g c =
    let old = c.args.self.now in
    let new = c.keep_each.new.self in
    let stays = all_stay g.J.BookName.stored old.log new c.name.result.now (take c.in-Ok.count c.args.built.now) c.in-Ok.ensures.finished in
    record { failed = still_failed g.J.BookName.failed old.log new old.state.fault c.strip_taken_in.new.self.fault stays.longer c.strip_taken_in.ensures.fault old.failed }
