use Rattle.std.proofs.Common.{◌≡◌, length, refl, ap, sym, ◌∙◌, subst}
use Rattle.std.specs.List.{All}
use Rattle.book_history.specs.Known.{Known}
use Rattle.book_lock.proofs.Beginning.{all_begin, count_of}
use Rattle.book_history.proofs.Gone.{passed}
use Rattle.version_book.proofs.Answered.{gone_ok}
use Rattle.version_book.proofs.shared.Shared.start.Goals as goal

pub returns-in_err-log : goal.returns-in_err-log
returns-in_err-log g c =
    let r = c.from_residual.result in
    let is = c.from_residual.ensures.1 in
    record {
      reporter = gone_ok r _ _ is;
      sessions = gone_ok r _ _ is;
      of_book = gone_ok r _ _ is;
      reporter_of_book = gone_ok r _ _ is;
      count = gone_ok r _ _ is;
      store = gone_ok r _ _ is;
      err = passed _ r _ is c.in_err-log.ensures.err;
    }

pub returns : goal.returns
returns g c =
    let all = c.in_ok-log.ensures.sessions in
    let begun = c.in_ok-log.ensures.reporter in
    record {
      reporter = begun;
      sessions = all;
      of_book = subst (All (λ (session : Known). session.book ≡ g.J.BookName.book)) (sym all)
          (all_begin c.args.seen_log g.J.BookName.book c.args.sessions c.requires.seen_log.0);
      reporter_of_book = ap (λ h. h.book) begun ∙ c.requires.seen_log.0;
      count = ap length all ∙ count_of c.args.seen_log c.args.sessions;
      store = refl;
      err = tt;
    }
