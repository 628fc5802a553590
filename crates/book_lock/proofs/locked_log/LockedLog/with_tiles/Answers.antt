use Rattle.std.proofs.Common.{◌≡◌, take, inl, ap, sym, ◌∙◌, subst}
use Rattle.std.specs.List.{All}
use Rattle.std.proofs.lemmas.Result.{IfOk-from_err}
use Rattle.overlay_terms.specs.Tiles.{Input, input_of}
use Rattle.overlay_terms.specs.Histories.{Tile, Version}
use Rattle.book_history.specs.BookLogs.{BookLog}
use Rattle.book_history.specs.Logs.{newest_in}
use Rattle.book_history.proofs.Gone.{passed}
use Rattle.book_lock.specs.Steps.{AreFinishedIn}
use Rattle.book_lock.proofs.locked_log.LockedLog.with_tiles.Goals as goal

pub returns-in_err-version : goal.returns-in_err-version
returns-in_err-version g c =
    let failed = c.from_residual.ensures in
    record { begun = c.last-now.ensures.log; book = IfOk-from_err _ _ failed.0; few = IfOk-from_err _ _ failed.0; some = IfOk-from_err _ _ failed.0; finished = IfOk-from_err _ _ failed.0; err = passed _ _ _ failed.1 (inl c.in_err-version.ensures.err) }

pub add_tiles-requires : goal.add_tiles-requires
add_tiles-requires g c =
    let is = c.again-seen_log.ensures ∙ c.last-now.ensures.seen_log in
    let old = c.in-Some.ensures.value ∙ c.in_ok-version.ensures.ok ∙ c.in-Ok.ensures ∙ c.deref.ensures ∙ c.last-now.ensures.version in
    record {
      last = old ∙ ap (λ (t : BookLog). newest_in t.log) (sym is);
      book = ap (λ (t : BookLog). t.book) is;
      present = λ are. subst (λ (v : Version). All (λ (b : Input × Tile). b.0 ≡ input_of v.layers c.args.name.now b.0.column) c.args.tiles.now) (sym old) (c.requires.present are);
    }

pub returns-in_err-count : goal.returns-in_err-count
returns-in_err-count g c =
    let failed = c.from_residual-in_err-count.ensures in
    record { begun = c.last-now.ensures.log; book = IfOk-from_err _ _ failed.0; few = IfOk-from_err _ _ failed.0; some = IfOk-from_err _ _ failed.0; finished = IfOk-from_err _ _ failed.0; err = passed _ _ _ failed.1 c.in_err-count.ensures.err }

pub returns : goal.returns
returns g c =
    let is = c.again-seen_log.ensures ∙ c.last-now.ensures.seen_log in
    let made = c.in_ok-count.ensures in
    record {
      begun = c.last-now.ensures.log;
      book = made.book;
      few = made.few;
      some = made.some;
      finished = subst (λ (t : BookLog). AreFinishedIn t.log c.args.name.now (take c.in_ok-count.count c.args.tiles.now) c.add_tiles.new.seen_log.log) is made.finished;
      err = tt;
    }
