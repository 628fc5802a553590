use Rattle.std.proofs.Common.{◌≤◌, ap, subst, length, List}
use mathlib.Core.List.{IsPrefix}
use Rattle.overlay_terms.specs.Histories.{Entry}
use Rattle.book_history.proofs.Fronts.{prefix_shorter}
use Rattle.book_history.proofs.seen_log.SeenLog.compare.Goals as goal

pub returns-clause-there : goal.returns-clause-there
returns-clause-there c le =
    let both = c.learn.new.self.log in
    let this : IsPrefix c.self.inside.seen.log both = subst (λ (l : List Entry). IsPrefix l both) (ap (λ s. s.log) c.again-both.ensures) c.learn.ensures.2 in
    let le' : length c.self.inside.seen.log ≤ length c.other.inside.seen.log = rw (ap (λ t. t.log) c.self.view_is, ap (λ t. t.log) c.other.view_is) le in
    rw (← ap (λ t. t.log) c.self.view_is, ← ap (λ t. t.log) c.other.view_is) (prefix_shorter c.self.inside.seen.log c.other.inside.seen.log both this c.learn.ensures.3 le')

pub returns-clause-back : goal.returns-clause-back
returns-clause-back c le =
    let both = c.learn.new.self.log in
    let this : IsPrefix c.self.inside.seen.log both = subst (λ (l : List Entry). IsPrefix l both) (ap (λ s. s.log) c.again-both.ensures) c.learn.ensures.2 in
    let le' : length c.other.inside.seen.log ≤ length c.self.inside.seen.log = rw (ap (λ t. t.log) c.self.view_is, ap (λ t. t.log) c.other.view_is) le in
    rw (← ap (λ t. t.log) c.self.view_is, ← ap (λ t. t.log) c.other.view_is) (prefix_shorter c.other.inside.seen.log c.self.inside.seen.log both c.learn.ensures.3 this le')
