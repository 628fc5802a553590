use Rattle.std.proofs.Common.{◌≡◌, true, List, map, sym, ◌∙◌, subst, rules}
use Rattle.std.specs.Prelude.{IsTrue, Contains}
use Rattle.std.specs.List.{list_any}
use Rattle.std.proofs.lemmas.List.Folds.{Any-from_list_any}
use Rattle.overlay_terms.specs.Plane.{Segment}
use Rattle.overlay_terms.specs.SameInput.{same_segment, same_segment-Decides}
use Rattle.overlay_terms.proofs.Lists.{any_contains, contains_map}
use Rattle.arrange.specs.declared.marked_seg.MarkedSeg.{MarkedSeg}
use Rattle.arrange.proofs.PlacedLemmas.{listed_already}
use Rattle.arrange.proofs.finding_pieces.add_pieces_along.Goals as goal

-- a segment that equals one of the list is in it
among_from : (marked : List MarkedSeg) (s : Segment) → IsTrue (list_any (λ m. same_segment m.seg s) marked) → Contains (map (λ (m : MarkedSeg). m.seg) marked) s
among_from marked s e =
    let which = Any-from_list_any (λ m. same_segment m.seg s) marked e in
    let Q : Segment → Type 0 = λ t. Contains (map (λ (m : MarkedSeg). m.seg) marked) t in
    subst Q ((same_segment-Decides which.1.seg s).0 which.4) (contains_map (λ (m : MarkedSeg). m.seg) marked which.1 (any_contains (λ m. same_segment m.seg s ≡ true) marked which))

pub returns-then-is_among : goal.returns-then-is_among
returns-then-is_among c =
    listed_already c.args.input.now (map (λ (m : MarkedSeg). m.seg) c.args.earlier.now) c.args.seg.now c.args.placed.now.items
    (among_from c.args.earlier.now c.args.seg.now (sym c.is_among.ensures ∙ c.if-is_among.true))

pub returns : goal.returns
returns c = c.in_ok-add_along.ensures (map (λ (m : MarkedSeg). m.seg) c.args.earlier.now)

-- found by search alone: it is written here so that a wrong body is refused without working out what to write
pub add_along-requires-clause-along : goal.add_along-requires-clause-along
add_along-requires-clause-along c = search rules
