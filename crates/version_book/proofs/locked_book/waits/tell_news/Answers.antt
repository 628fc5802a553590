use Rattle.std.proofs.Common.{inl, inr, rules, refl, ap, sym, ◌∙◌, subst}
use mathlib.Core.Bool.{true≢false}
use Rattle.version_book.proofs.locked_book.waits.tell_news.Goals as goal

pub returns-then-not-has_heard : goal.returns-then-not-has_heard
returns-then-not-has_heard g c = record {
  some = tt;
  news = tt;
  none = tt;
  err = (refl, inr refl);
  gone = λ _ p. true≢false (sym (c.has_heard.ensures.1 p) ∙ c.if-not-has_heard.true);
  heard = λ is. absurd (cc);
}

pub show_to_reporter-requires : goal.show_to_reporter-requires
show_to_reporter-requires g c = record { book = c.requires.book; heard = c.if-not-has_heard.ensures.0 refl }

pub returns-in_default : goal.returns-in_default
returns-in_default g c = record {
  some = tt;
  news = tt;
  none = tt;
  err = (refl, inl refl);
  gone = λ is. absurd (cc);
  heard = λ _. c.if-not-has_heard.ensures.0 refl;
}

pub returns : goal.returns
returns g c = record {
  some = (c.in-Ok.ensures ∙ c.last.ensures.version, c.if-not-has_heard.ensures.0 refl, c.last.ensures.log);
  news = (search rules, c.show_to_reporter.ensures);
  none = tt;
  err = tt;
  gone = λ is. absurd (cc);
  heard = λ is. absurd (cc);
}
