use Rattle.std.proofs.Common.{rules, ◌≡◌, ℤ, ◌-ℤ◌, IsTrue, refl, subst, to_z, of_z}
use Rattle.std.specs.Int.{w64}
use Rattle.overlay_terms.specs.Column.{border}
use Rattle.overlay_terms.specs.Plane.{same_place}
use Rattle.exact_point.specs.Place.{place}
use Rattle.exact_point.specs.PlaceOf.{part_way}
use Rattle.exact_point.specs.declared.point_name.PointName.{PointName}
use Rattle.exact_point.specs.declared.point_name.PointName.TheVariants.{Border}
use Rattle.version_core.specs.Edges.{point_text}
use Rattle.version_core.proofs.EdgeLemmas.{end_before}
use Rattle.version_core.proofs.edges_reply.put_cut.Goals as goal

pub returns : goal.returns
returns c =
    let s = c.args.seg.now in
    let name : PointName = Border s c.args.number in
    let low = c.reduced_cut.result in
    let put = c.put_near in
    let at : to_z w64 (of_z w64 c.border.result) ≡ border c.args.number = search rules in
    end_before name name low c.args.line.now put.new.self (point_text (place low)) refl (subst (λ (x : ℤ). IsTrue (same_place (place low) (part_way s (x -ℤ s.left.x) (s.right.x -ℤ s.left.x)))) at c.reduced_cut.ensures.same)
    c.reduced_cut.ensures.lowest refl put.ensures.text put.ensures.short
