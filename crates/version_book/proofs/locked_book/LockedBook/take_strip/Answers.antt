use Rattle.std.proofs.Common.{◌≡◌, false, rules, refl, ap, sym, ◌∙◌, subst}
use mathlib.Core.Bool.{true≢false}
use Rattle.overlay_terms.specs.Histories.{Version}
use Rattle.book_history.specs.Logs.{newest_in}
use Rattle.version_book.specs.HeldTiles.{strip_handed_out}
use Rattle.version_book.specs.Strips.{HandedStrip, IsStripJob}
use Rattle.version_book.proofs.Answered.{on_err, on_ok}
use Rattle.version_book.proofs.StripLemmas.{strip_handed, strip_of_free}
use Rattle.version_book.proofs.locked_book.LockedBook.take_strip.Goals as goal

pub returns-in_default : goal.returns-in_default
returns-in_default g c = record {
  log = refl;
  strip = tt;
  at = tt;
  state = tt;
  closing = λ _. refl;
  none = absurd (c.requires.ready (record { not_closing = c.if-self.false; held = c.in_default.ensures.none }));
  err = tt;
}

pub new-strip-requires : goal.new-strip-requires
new-strip-requires g c =
    let log = ap (λ t. t.log) (c.again.ensures ∙ c.last-last.ensures.seen_log) in
    let number = ap (λ l. (newest_in l).number) log ∙ ap (λ (v : Version). v.number) (sym (c.deref.ensures ∙ c.last-last.ensures.version)) ∙ sym c.number.ensures.value in
    record {
      number = number;
      job = strip_of_free c.again.result.book c.args.self.now.log c.again.result.log c.args.self.now.state.held.list.items c.in-Ok.name c.in-Some.tile.0.now c.in-Ok.input log c.in-Ok.ensures.name c.in-Ok.ensures.each
          c.last-last.ensures.log c.strip-columns.ensures.valid.in_order;
    }

pub returns-in_default-strip_parts : goal.returns-in_default-strip_parts
returns-in_default-strip_parts g c = record {
  log = refl;
  strip = tt;
  at = tt;
  state = tt;
  closing = λ is. absurd (true≢false (sym is ∙ c.if-self.false));
  none = tt;
  err = (refl, record { held = refl; fault = refl; resting = refl; closing = refl; news = refl });
}

pub returns-then-is_err : goal.returns-then-is_err
returns-then-is_err g c =
    let held = on_err c.hand_out_strip.result _ _ c.is_err.ensures.value c.if-is_err.true c.hand_out_strip.ensures.err in
    record {
      log = refl;
      strip = tt;
      at = tt;
      state = tt;
      closing = λ is. absurd (true≢false (sym is ∙ c.if-self.false));
      none = tt;
      err = (refl, record { held = held; fault = refl; resting = refl; closing = refl; news = refl });
    }

pub returns : goal.returns
returns g c =
    let is_open : c.args.self.now.state.closing ≡ false = search rules in
    let log = ap (λ t. t.log) (c.again.ensures ∙ c.last-last.ensures.seen_log) in
    let old = c.args.self.now.state.held.list.items in
    let whole =
    strip_of_free c.again.result.book c.args.self.now.log c.again.result.log old c.in-Ok.name c.in-Some.tile.0.now c.in-Ok.input log c.in-Ok.ensures.name c.in-Ok.ensures.each
    c.last-last.ensures.log c.strip-columns.ensures.valid.in_order in
    let columns = c.strip-columns.ensures.value ∙ sym (ap (λ (s : HandedStrip). s.input.strip) c.new-strip.ensures) in
    let held = on_ok c.hand_out_strip.result _ _ c.is_err.ensures.value c.if-is_err.false c.hand_out_strip.ensures.ok
    ∙ ap (λ n. strip_handed_out n c.strip-columns.result old) c.name.ensures
    ∙ ap (λ s. strip_handed_out c.new-strip.result.name s old) columns in
    record {
      log = refl;
      strip = strip_handed c.again.result.book c.args.self.now.log c.again.result.log old c.in-Ok.name c.in-Some.tile.0.now c.in-Ok.input log c.in-Ok.ensures.name c.in-Ok.ensures.each
          c.new-strip.result c.new-strip.ensures;
      at = (
        ap (λ (s : HandedStrip). s.book) c.new-strip.ensures ∙ ap (λ t. t.book) (c.again.ensures ∙ c.last-last.ensures.seen_log),
        ap (λ (s : HandedStrip). s.log) c.new-strip.ensures ∙ log,
        subst IsStripJob (sym c.new-strip.ensures) whole,
      );
      state = record { held = held; fault = refl; resting = refl; closing = refl; news = refl };
      closing = λ is. absurd (true≢false (sym is ∙ is_open));
      none = tt;
      err = tt;
    }
