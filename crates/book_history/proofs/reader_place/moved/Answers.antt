use Rattle.std.proofs.Common.{ap, sym, ◌∙◌}
use Rattle.std.proofs.lemmas.Option.{MatchOption-from_none, MatchOption-at_some}
use Rattle.book_history.proofs.Publishing.{at_taken, same_book, begins_level}
use Rattle.book_history.proofs.BookLogLemmas.{looks}
use Rattle.book_history.proofs.reader_place.moved.Goals as goal

pub enter_as-requires : goal.enter_as-requires
enter_as-requires c x = looks (λ p. p.seen_log) _ _ x

pub returns-in_err-place : goal.returns-in_err-place
returns-in_err-place c = MatchOption-from_none _ _ c.from_residual.ensures

pub returns-in_err-reading : goal.returns-in_err-reading
returns-in_err-reading c = MatchOption-from_none _ _ c.from_residual-in_err-reading.ensures

pub compare-requires : goal.compare-requires
compare-requires c =
    let seen = at_taken _ _ _ _ _ c.ok.ensures.value c.in_ok-reading.was c.enter_as.ensures in
    let of = MatchOption-at_some _ _ _ c.in_ok-place.was c.requires in
    ap (λ p. p.seen_log.book) c.get.ensures ∙ same_book _ _ _ of seen.1.0

pub returns-then-level : goal.returns-then-level
returns-then-level c =
    let seen = at_taken _ _ _ _ _ c.ok.ensures.value c.in_ok-reading.was c.enter_as.ensures in
    let of = MatchOption-at_some _ _ _ c.in_ok-place.was c.requires in
    let there = ap (λ p. p.seen_log) c.get.ensures in
    let same = ap (λ t. t.book) there ∙ same_book _ _ _ of seen.1.0 in
    begins_level _ _ _ _ _ c.at-2.ensures.length c.at.ensures.length c.if-level.true same c.compare.ensures.there (c.leave-place.ensures.1 ∙ seen.1.1 ∙ sym there)
