use Rattle.std.proofs.Common.{refl, ◌∙◌, rules}
use Rattle.std.proofs.lemmas.Option.{MatchOption-from_none}
use Rattle.book_history.proofs.BookLogLemmas.{admits, forks, merges}
use Rattle.book_history.proofs.publisher.new_place.Goals as goal

pub reader-requires : goal.reader-requires
reader-requires c = admits (λ p. p.seen_log)

pub tell-requires : goal.tell-requires
tell-requires c = forks (λ p. p.seen_log) _ _

pub learn-requires : goal.learn-requires
learn-requires c = record { own = search rules; rule = merges (λ p. p.seen_log) _ _ _ _ }

pub returns-in_err-place : goal.returns-in_err-place
returns-in_err-place c = record { kept = (refl, refl, refl, refl); given = MatchOption-from_none _ _ c.from_residual.ensures }

pub returns : goal.returns
returns c = record { kept = c.tell.ensures.kept; given = c.learn.ensures.1 ∙ c.tell.ensures.given.1 }
