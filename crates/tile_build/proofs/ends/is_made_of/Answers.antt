use Rattle.tile_build.proofs.EndLemmas.{vertex_on, first_on, second_on, cut_on}
use Rattle.tile_build.proofs.ends.is_made_of.Goals as goal

pub returns-in-Vertex : goal.returns-in-Vertex
returns-in-Vertex c = vertex_on c.args.support.now c.args.name.now c.in-Vertex.vertex c.is_end.result c.in-Vertex.is c.is_end.ensures

pub returns-then-is_same : goal.returns-then-is_same
returns-then-is_same c =
    first_on c.args.support.now c.in-Cross.first c.in-Cross.second c.args.name.now c.is_same.result c.in-Cross.is c.is_same.ensures

pub returns-else-is_same : goal.returns-else-is_same
returns-else-is_same c =
    second_on c.args.support.now c.in-Cross.first c.in-Cross.second c.args.name.now c.is_same-else-is_same.result c.in-Cross.is
    c.is_same-else-is_same.ensures

pub returns-in-Border : goal.returns-in-Border
returns-in-Border c =
    cut_on c.args.support.now c.in-Border.cut c.in-Border.field-1 c.args.name.now c.is_same-in-Border.result c.in-Border.is
    c.is_same-in-Border.ensures
