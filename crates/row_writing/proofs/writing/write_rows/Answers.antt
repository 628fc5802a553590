use Rattle.std.proofs.Common.{◌≡◌, ℕ, ◌+◌, List, [], ◌∷◌, ◌++◌, take, length, get_or, subst, sym, ap, ◌∙◌}
use Rattle.std.specs.List.{AllZip, concat}
use Rattle.std.specs.Io.KnownBytes.{Appends}
use Rattle.std.proofs.KnownBytes.{Appends-nil, Appends-trans}
use Rattle.std.proofs.lemmas.Result.{err_from_is_err_and}
use Rattle.std.proofs.lemmas.List.{append-nil, take_all, take_more}
use Rattle.row_writing.proofs.RowLemmas.{zip_more}
use Rattle.std.proofs.lemmas.List.Folds.{concat-append}
use Rattle.row_writing.specs.Rows.{AreWritten, AreWrittenOfSome}
use Rattle.row_writing.proofs.writing.write_rows.Goals as goal

one_more : (rows : List (List ℕ)) (row : List ℕ) → concat (rows ++ row ∷ []) ≡ concat rows ++ row
one_more rows row = concat-append rows (row ∷ []) ∙ ap (λ xs. concat rows ++ xs) (append-nil row)

pub loop-job-init : goal.loop-job-init
loop-job-init g c = ([], tt, Appends-nil (g.W.Write.contents c.args.to.now))

pub returns-in_err-write_row-clause-memory : goal.returns-in_err-write_row-clause-memory
returns-in_err-write_row-clause-memory g c =
    let p = err_from_is_err_and c.from_residual.result c.from_residual.ensures.1 in
    rw (p.1, p.2)
    (λ e. (
      c.loop-job.job-index,
      c.loop-job-test.true,
      subst (λ t. AreWritten (g.A.Answering.answers c.args.answering.now) (take c.loop-job.job-index c.args.jobs.now) (g.W.Write.contents c.args.to.now) (g.W.Write.contents t))
          (sym (c.in_err-write_row.ensures.memory e)) c.loop-job.invariant,
    ))

pub loop-job-preserved : goal.loop-job-preserved
loop-job-preserved g c =
    let so_far = c.loop-job.invariant in
    let row = c.in_ok-write_row.ensures.ok in
    let answers = g.A.Answering.answers c.args.answering.now in
    let item = subst (λ job. g.A.Answering.answers c.args.answering.now job row.0) c.job-item.is row.1 in (
      so_far.0 ++ row.0 ∷ [],
      subst (λ jobs. AllZip (g.A.Answering.answers c.args.answering.now) jobs (so_far.0 ++ row.0 ∷ []))
          (sym (take_more c.args.jobs.now c.loop-job.job-index c.job-item.result c.loop-job-test.true))
          (zip_more (g.A.Answering.answers c.args.answering.now) (take c.loop-job.job-index c.args.jobs.now) so_far.0 (get_or c.args.jobs.now c.loop-job.job-index c.job-item.result) row.0 so_far.1 item),
      subst (λ bytes. Appends (g.W.Write.contents c.args.to.now) (g.W.Write.contents c.write_row.new.to) bytes) (sym (one_more so_far.0 row.0))
          (Appends-trans (g.W.Write.contents c.args.to.now) (g.W.Write.contents c.loop-job.to) (g.W.Write.contents c.write_row.new.to) (concat so_far.0) row.0 so_far.2 row.2),
    )

pub returns-clause-ok : goal.returns-clause-ok
returns-clause-ok g c =
    subst (λ jobs. AreWritten (g.A.Answering.answers c.args.answering.now) jobs (g.W.Write.contents c.args.to.now) (g.W.Write.contents c.loop-job.to))
    (take_all c.loop-job.job-index c.args.jobs.now c.loop-job-test.false) c.loop-job.invariant
