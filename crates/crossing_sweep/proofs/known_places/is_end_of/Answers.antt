use Rattle.std.proofs.Common.{◌≡◌, subst, sym, ◌∙◌}
use Rattle.std.specs.Prelude.{Contains}
use Rattle.overlay_terms.specs.Plane.{WholePoint}
use Rattle.overlay_terms.proofs.PointOrder.{same_points}
use Rattle.exact_point.specs.declared.point_name.PointName.TheVariants.{Vertex}
use Rattle.crossing_sweep.specs.Ahead.{HasEnds}
use Rattle.crossing_sweep.proofs.known_places.is_end_of.Goals as goal

pub returns-then-eq : goal.returns-then-eq
returns-then-eq c = λ yes names ends.
    let v = c.args.vertex in
    let is : c.in-Some.seg.left ≡ v = sym c.left.ensures.value ∙ same_points c.left.result v (sym c.eq.ensures ∙ c.if-eq.true) in
    subst (λ (p : WholePoint). Contains names (Vertex p)) is (subst (HasEnds names) c.in-Some.is ends).0

pub returns : goal.returns
returns c = λ yes names ends.
    let v = c.args.vertex in
    let is : c.in-Some.seg.right ≡ v = sym c.right.ensures.value ∙ same_points c.right.result v (sym c.eq-2.ensures ∙ yes) in
    subst (λ (p : WholePoint). Contains names (Vertex p)) is (subst (HasEnds names) c.in-Some.is ends).1
