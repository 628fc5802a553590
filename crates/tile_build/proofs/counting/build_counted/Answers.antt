use Rattle.std.proofs.Common.{◌<◌, ◌≤◌, ◌≡◌, List, map, length, true, refl, subst, sym, ap, ◌∙◌, arith}
use Rattle.std.specs.Prelude.{All}
use Rattle.crossing_sweep.specs.NodeNames.{named_ends, AreNumbered}
use Rattle.crossing_sweep.specs.declared.node_name.NodeName.{NodeName}
use Rattle.crossing_sweep.specs.declared.row.Row.{Row}
use Rattle.exact_point.specs.NamedPiece.{ends_of}
use Rattle.crossing_sweep.specs.Crossed.{IsRowSpan}
use Rattle.tile_build.proofs.CountedLemmas.{counted_for, crossings_for, tile_for}
use Rattle.tile_build.proofs.counting.build_counted.Goals as goal

pub returns-then-len-cap : goal.returns-then-len-cap
returns-then-len-cap c =
    let found = c.in_ok-found.ensures in
    let more : c.args.cap < length c.in_ok-found.found.rows.items = omega arith in
    record {
      tile = found.too_many more;
      nodes = counted_for c.args.input.now c.args.cap true c.in_ok-found.found.rows.items c.in_ok-found.found.names.items c.in_ok-found.found.nodes c.in_ok-found.found.tests.items found ⊥ (λ h. absurd h);
      few = found.few;
      pairs = found.pairs;
      crossings = λ h. absurd h;
    }

pub pieces_of-requires-clause-spans : goal.pieces_of-requires-clause-spans
pieces_of-requires-clause-spans c =
    let rows : List Row = c.in_ok-found.found.rows.items in
    let names : List NodeName = c.in_ok-found.found.names.items in
    subst (λ (ns : List NodeName). All (IsRowSpan ns) c.deref-2.result.now) (sym c.deref.ensures.value)
    (subst (λ (rs : List Row). All (IsRowSpan names) rs) (sym c.deref-2.ensures.value) c.in_ok-found.ensures.spans)

pub pieces_of-requires-clause-numbered : goal.pieces_of-requires-clause-numbered
pieces_of-requires-clause-numbered c = subst AreNumbered (sym c.deref.ensures.value) c.in_ok-found.ensures.numbered

pub returns : goal.returns
returns c =
    let found = c.in_ok-found.ensures in
    let rows : List Row = c.in_ok-found.found.rows.items in
    let names : List NodeName = c.in_ok-found.found.names.items in
    let few : length rows ≤ c.args.cap = omega arith in
    let ends : map ends_of c.in_ok-pieces.pieces.items ≡ map (named_ends names) rows =
    c.in_ok-pieces.ensures ∙ ap (λ (ns : List NodeName). map (named_ends ns) c.deref-2.result.now) c.deref.ensures.value ∙ ap (map (named_ends names)) c.deref-2.ensures.value in
    record {
      tile = tile_for c.args.input.now c.args.cap true rows names c.in_ok-found.found.nodes c.in_ok-found.found.tests.items found few (map ends_of c.in_ok-pieces.pieces.items) ends;
      nodes = counted_for c.args.input.now c.args.cap true rows names c.in_ok-found.found.nodes c.in_ok-found.found.tests.items found (Unit {0}) (λ h. few);
      few = found.few;
      pairs = found.pairs;
      crossings = crossings_for c.args.input.now c.args.cap true rows names c.in_ok-found.found.nodes c.in_ok-found.found.tests.items found refl (Unit {0}) (λ h. few);
    }
