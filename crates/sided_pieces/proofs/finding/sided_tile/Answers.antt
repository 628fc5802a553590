use Rattle.std.proofs.Common.{◌≡◌, ◌<◌, ◌≤◌, false, IfSome, List, map, length, ap, sym, subst, ◌∙◌, arith}
use Rattle.std.specs.Prelude.{All}
use Rattle.std.proofs.lemmas.List.{length-map}
use Rattle.crossing_sweep.specs.Crossed.{IsRowSpan}
use Rattle.crossing_sweep.specs.NodeNames.{named_ends, AreNumbered}
use Rattle.crossing_sweep.specs.StripCrossed.{IsStripCrossed}
use Rattle.crossing_sweep.specs.declared.node_name.NodeName.{NodeName}
use Rattle.crossing_sweep.specs.declared.pass.Crossed.{Crossed}
use Rattle.crossing_sweep.specs.declared.row.Row.{Row}
use Rattle.sided_pieces.specs.Sided.{sided_of, named}
use Rattle.sided_pieces.proofs.Oversize.{are_more}
use Rattle.sided_pieces.proofs.RowLemmas.{sided_rows}
use Rattle.sided_pieces.proofs.finding.sided_tile.Goals as goal

pub returns-then-len-cap : goal.returns-then-len-cap
returns-then-len-cap c =
    let is = subst (λ o. IfSome o (λ (f : Crossed). IsStripCrossed c.args.input.now c.args.cap false f)) c.in-Some.is c.in_ok-done.ensures.found in
    let rows : List Row = c.in-Some.found.rows.items in
    let names : List NodeName = c.in-Some.found.names.items in
    let more : c.args.cap < length (map (named_ends names) rows) = omega (arith, length-map rows (named_ends names)) in
    are_more c.args.cap c.args.input.now (map (named_ends names) rows) is.are_some more

pub pieces_of-requires-clause-spans : goal.pieces_of-requires-clause-spans
pieces_of-requires-clause-spans c =
    let is = subst (λ o. IfSome o (λ (f : Crossed). IsStripCrossed c.args.input.now c.args.cap false f)) c.in-Some.is c.in_ok-done.ensures.found in
    let names : List NodeName = c.in-Some.found.names.items in
    subst (λ (ns : List NodeName). All (IsRowSpan ns) c.deref-2.result.now) (sym c.deref.ensures.value)
    (subst (λ (rs : List Row). All (IsRowSpan names) rs) (sym c.deref-2.ensures.value) is.spans)

pub pieces_of-requires-clause-numbered : goal.pieces_of-requires-clause-numbered
pieces_of-requires-clause-numbered c =
    let is = subst (λ o. IfSome o (λ (f : Crossed). IsStripCrossed c.args.input.now c.args.cap false f)) c.in-Some.is c.in_ok-done.ensures.found in
    subst AreNumbered (sym c.deref.ensures.value) is.numbered

pub returns : goal.returns
returns c =
    let is = subst (λ o. IfSome o (λ (f : Crossed). IsStripCrossed c.args.input.now c.args.cap false f)) c.in-Some.is c.in_ok-done.ensures.found in
    let rows : List Row = c.in-Some.found.rows.items in
    let names : List NodeName = c.in-Some.found.names.items in
    let few : length rows ≤ c.args.cap = omega arith in
    let same : map sided_of c.in_ok-pieces.pieces.items ≡ map (named names) rows =
    c.in_ok-pieces.ensures.rows ∙ ap (λ (ns : List NodeName). map (named ns) c.deref-2.result.now) c.deref.ensures.value ∙ ap (map (named names)) c.deref-2.ensures.value in
    let long : length c.in_ok-pieces.pieces.items ≡ length rows =
    sym (length-map c.in_ok-pieces.pieces.items sided_of) ∙ ap length same ∙ length-map rows (named names) in
    (omega (arith, few, long), sided_rows c.args.input.now c.args.cap false c.in-Some.found c.in_ok-pieces.pieces.items is few same c.in_ok-pieces.ensures.segments)
