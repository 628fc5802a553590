use Rattle.std.proofs.Common.{◌≡◌, List, length, map, sym, ◌∙◌, arith}
use Rattle.std.proofs.lemmas.List.{length-map}
use Rattle.exact_point.specs.declared.point.HPoint.{HPoint}
use Rattle.exact_point.specs.declared.point_name.PointName.{PointName}
use Rattle.crossing_sweep.specs.RankedPlace.{ranked_entry}
use Rattle.crossing_sweep.proofs.TakeLemmas.{differ, none_if, some_left}
use Rattle.crossing_sweep.proofs.ahead.Ahead.is_empty.Goals as goal

pub returns-then-self-len : goal.returns-then-self-len
returns-then-self-len c = (
  λ yes. absurd (differ yes),
  λ no. absurd (some_left c.self.inside.known.items c.self.inside.taken (map ranked_entry c.self.inside.found.keys) c.args.self.now (omega (arith, c.if-self-len.true, c.len.ensures)) c.self.view_is no),
)

pub returns : goal.returns
returns c =
    let es : List (HPoint × PointName) = map ranked_entry c.self.inside.found.keys in
    let as_many : length es ≡ length c.self.inside.found.keys = length-map c.self.inside.found.keys ranked_entry in
    none_if c.self.inside.known.items c.self.inside.taken es c.args.self.now c.is_empty.result (omega (arith, c.if-self-len.false, c.len.ensures)) c.self.view_is
    (λ yes. as_many ∙ c.is_empty.ensures.0 yes, λ no. c.is_empty.ensures.1 (sym as_many ∙ no))
