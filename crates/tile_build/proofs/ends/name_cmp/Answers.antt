use Rattle.std.proofs.Common.{sym, ◌∙◌}
use Rattle.overlay_terms.specs.Plane.{point_cmp}
use Rattle.exact_point.specs.PlaceOf.{place_of}
use Rattle.arrange.proofs.UnitLineLemmas as lines
use Rattle.tile_build.proofs.ends.name_cmp.Goals as goal

pub returns-in-Vertex-Vertex : goal.returns-in-Vertex-Vertex
returns-in-Vertex-Vertex c =
    c.cmp.ensures ∙ lines.whole_order c.in-Vertex-Vertex.vertex c.in-Vertex-Vertex.next
    ∙ (λ i. point_cmp (place_of (sym c.in-Vertex-Vertex.is-0 i)) (place_of (sym c.in-Vertex-Vertex.is-1 i)))
