use Rattle.std.proofs.Common.{◌≡◌, ◌<◌, ◌≤◌, false, IfSome, List, map, length, subst, sym, ap, ◌∙◌, arith}
use Rattle.std.specs.Prelude.{All}
use Rattle.crossing_sweep.specs.Crossed.{IsCrossed, IsRowSpan}
use Rattle.crossing_sweep.specs.NodeNames.{named_ends, AreNumbered}
use Rattle.crossing_sweep.specs.declared.node_name.NodeName.{NodeName}
use Rattle.crossing_sweep.specs.declared.pass.Crossed.{Crossed}
use Rattle.crossing_sweep.specs.declared.row.Row.{Row}
use Rattle.exact_point.specs.NamedPiece.{ends_of}
use Rattle.tile_build.proofs.CountedLemmas.{tile_for}
use Rattle.tile_build.proofs.building.tile_while.Goals as goal

pub returns-then-len-cap-clause-tile : goal.returns-then-len-cap-clause-tile
returns-then-len-cap-clause-tile g c =
    let is = subst (λ o. IfSome o (λ (f : Crossed). IsCrossed c.args.input.now c.args.cap false f)) c.in-Some.is c.in_ok-done.ensures.found in
    let more : c.args.cap < length c.in-Some.found.rows.items = omega arith in
    is.too_many more

pub pieces_of-requires-clause-spans : goal.pieces_of-requires-clause-spans
pieces_of-requires-clause-spans g c =
    let is = subst (λ o. IfSome o (λ (f : Crossed). IsCrossed c.args.input.now c.args.cap false f)) c.in-Some.is c.in_ok-done.ensures.found in
    let names : List NodeName = c.in-Some.found.names.items in
    subst (λ (ns : List NodeName). All (IsRowSpan ns) c.deref-2.result.now) (sym c.deref.ensures.value)
    (subst (λ (rs : List Row). All (IsRowSpan names) rs) (sym c.deref-2.ensures.value) is.spans)

pub pieces_of-requires-clause-numbered : goal.pieces_of-requires-clause-numbered
pieces_of-requires-clause-numbered g c =
    let is = subst (λ o. IfSome o (λ (f : Crossed). IsCrossed c.args.input.now c.args.cap false f)) c.in-Some.is c.in_ok-done.ensures.found in
    subst AreNumbered (sym c.deref.ensures.value) is.numbered

pub returns-clause-tile : goal.returns-clause-tile
returns-clause-tile g c =
    let is = subst (λ o. IfSome o (λ (f : Crossed). IsCrossed c.args.input.now c.args.cap false f)) c.in-Some.is c.in_ok-done.ensures.found in
    let rows : List Row = c.in-Some.found.rows.items in
    let names : List NodeName = c.in-Some.found.names.items in
    let few : length rows ≤ c.args.cap = omega arith in
    let ends : map ends_of c.in_ok-pieces.pieces.items ≡ map (named_ends names) rows =
    c.in_ok-pieces.ensures ∙ ap (λ (ns : List NodeName). map (named_ends ns) c.deref-2.result.now) c.deref.ensures.value ∙ ap (map (named_ends names)) c.deref-2.ensures.value in
    tile_for c.args.input.now c.args.cap false rows names c.in-Some.found.nodes c.in-Some.found.tests.items is few (map ends_of c.in_ok-pieces.pieces.items) ends
