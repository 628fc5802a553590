use Rattle.std.proofs.Common.{rules, of_calls, ◌≡◌, ◌<◌, List, length, filter, refl, ap, sym, subst, ◌∙◌}
use Rattle.std.proofs.lemmas.Fn.{filter_same}
use Rattle.exact_point.specs.Place.{place}
use Rattle.exact_point.specs.declared.point.HPoint.{HPoint}
use Rattle.sweep_line.specs.Status.{goes_on, HasEndsFor}
use Rattle.sweep_line.specs.declared.status.StatusEntry.{StatusEntry}
use Rattle.sweep_line.proofs.EndLemmas.{all_go_on, lost, lost_goes, lost_shorter, fewer_pieces}
use Rattle.sweep_line.proofs.status.Status.take_out_next.Goals as goal
use Rattle.arrange.proofs.FoundLemmas.{place_positive}

pub returns-in_default-clause-done : goal.returns-in_default-clause-done
returns-in_default-clause-done c =
    let q = place c.args.at.now in
    λ h. sym (subst (λ (es : List StatusEntry). filter (goes_on q) es ≡ es) c.self.view_is (all_go_on q c.self.inside.entries.items c.self.inside.ends (place_positive c.args.at.now) c.self.invariant (c.in_default.ensures.none refl)))

pub invariant_of-self : goal.invariant_of-self
invariant_of-self c =
    subst (λ (us : List HPoint). HasEndsFor c.take_out_at.new.entries.items us) (sym c.drop_next.ensures)
    (lost c.self.inside.entries.items c.take_out_at.new.entries.items c.self.inside.ends c.in-Some.end c.self.invariant c.in-Some.ensures.last (c.take_out_at.ensures.yes c.if-take_out_at.true))

pub returns-then-take_out_at-clause-more : goal.returns-then-take_out_at-clause-more
returns-then-take_out_at-clause-more c =
    let q = place c.args.at.now in
    λ h.
    lost_goes q c.in-Some.end c.self.inside.entries.items c.take_out_at.new.entries.items (place_positive c.args.at.now) c.in-Some.ensures.up_to (c.take_out_at.ensures.yes c.if-take_out_at.true)
    ∙ ap (filter (goes_on q)) c.self.view_is

pub returns-then-take_out_at-clause-fewer : goal.returns-then-take_out_at-clause-fewer
returns-then-take_out_at-clause-fewer c =
    λ h.
    subst (λ (es : List StatusEntry). length c.take_out_at.new.entries.items < length es) c.self.view_is
    (lost_shorter (place c.in-Some.end) c.self.inside.entries.items c.take_out_at.new.entries.items (c.take_out_at.ensures.yes c.if-take_out_at.true))

pub invariant_of-self-2 : goal.invariant_of-self-2
invariant_of-self-2 c =
    let q = place c.args.at.now in
    let kept : c.retain.new.self.items ≡ filter (goes_on q) c.take_out_at.new.entries.items =
    filter_same _ (goes_on q) _ (λ x b f' k. search (rules, of_calls)) _ _ c.retain.ensures.filtered in
    subst (λ (es : List StatusEntry). HasEndsFor es c.self.inside.ends) (sym (kept ∙ ap (filter (goes_on q)) (c.take_out_at.ensures.no c.if-take_out_at.false)))
    (fewer_pieces q c.self.inside.entries.items c.self.inside.ends c.self.invariant)

pub returns-clause-done : goal.returns-clause-done
returns-clause-done c =
    let q = place c.args.at.now in
    λ h.
    filter_same _ (goes_on q) _ (λ x b f' k. search (rules, of_calls)) _ _ c.retain.ensures.filtered
    ∙ ap (filter (goes_on q)) (c.take_out_at.ensures.no c.if-take_out_at.false ∙ c.self.view_is)
