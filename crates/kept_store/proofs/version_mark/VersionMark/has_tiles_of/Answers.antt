-- As few entries lie between two versions as their numbers say, so no tile was kept between.
use Rattle.std.proofs.Common.{◌≤◌, length, ap, ◌∙◌, subst, arith}
use Rattle.std.proofs.lemmas.Bool.{leb-true, le-leb}
use mathlib.Core.List.{IsPrefix}
use Rattle.book_history.specs.BookLogs.{BookLog}
use Rattle.book_history.specs.Logs.{IsLog, newest_in}
use Rattle.kept_store.proofs.SinceLemmas.{known_by_numbers, reported_by_numbers}
use Rattle.kept_store.proofs.version_mark.VersionMark.has_tiles_of.Goals as goal

pub returns-clause-known : goal.returns-clause-known
returns-clause-known c is =
    let was = c.args.self.now in
    let now = c.args.later.now in
    let prefix =
    subst (λ (t : BookLog). length t.log ≤ length now.log → IsPrefix t.log now.log) c.self.view_is
    (subst (λ (t : BookLog). length c.self.inside.seen_log.log ≤ length t.log → IsPrefix c.self.inside.seen_log.log t.log) c.later.view_is c.compare.ensures.there) in
    known_by_numbers was.log now.log
    (subst (λ (t : BookLog). IsLog t.log) c.self.view_is c.at-first.ensures.chain)
    (subst (λ (t : BookLog). IsLog t.log) c.later.view_is c.at-last.ensures.chain)
    c.at-first.result c.at-last.result c.reports_until.result
    (c.at-first.ensures.length ∙ ap (λ (t : BookLog). length t.log) c.self.view_is)
    (c.at-last.ensures.length ∙ ap (λ (t : BookLog). length t.log) c.later.view_is)
    c.reports_until.ensures (omega (arith, c.if-last-first.false)) prefix
    (omega (
      arith,
      leb-true c.saturating_sub-others.result c.saturating_sub.result is,
      c.saturating_sub-others.ensures,
      c.saturating_sub.ensures,
      c.self.invariant.0,
      c.later.invariant.0,
      ap (λ (t : BookLog). (newest_in t.log).number) c.self.view_is,
      ap (λ (t : BookLog). (newest_in t.log).number) c.later.view_is,
    ))

pub returns-clause-reported : goal.returns-clause-reported
returns-clause-reported c since is none one =
    let few =
    reported_by_numbers c.args.self.now.log c.args.later.now.log
    (subst (λ (t : BookLog). IsLog t.log) c.self.view_is c.at-first.ensures.chain)
    (subst (λ (t : BookLog). IsLog t.log) c.later.view_is c.at-last.ensures.chain)
    c.at-first.result c.at-last.result c.reports_until.result
    (c.at-first.ensures.length ∙ ap (λ (t : BookLog). length t.log) c.self.view_is)
    (c.at-last.ensures.length ∙ ap (λ (t : BookLog). length t.log) c.later.view_is)
    c.reports_until.ensures since is none one in
    le-leb c.saturating_sub-others.result c.saturating_sub.result
    (omega (
      arith,
      few,
      c.saturating_sub-others.ensures,
      c.saturating_sub.ensures,
      c.self.invariant.0,
      c.later.invariant.0,
      ap (λ (t : BookLog). (newest_in t.log).number) c.self.view_is,
      ap (λ (t : BookLog). (newest_in t.log).number) c.later.view_is,
    ))
