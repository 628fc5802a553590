use Rattle.std.proofs.Common.{rules, ◌≡◌, ℤ, pos, ◌+◌, ◌&&◌, ◌*ℤ◌, ◌-ℤ◌, int_le, int_lt, to_z, of_z, ap, ◌∙◌, arith}
use Rattle.std.specs.Int.{w64}
use Rattle.std.proofs.Math.Logic.{∥∥₁_elim}
use Rattle.std.proofs.lemmas.Int.{ints, to_z-of_z}
use mathlib.Core.Bool.{Bool-set}
use Rattle.overlay_terms.specs.Column.{border}
use Rattle.overlay_terms.specs.Plane.{Point}
use Rattle.exact_point.specs.Place.{place}
use Rattle.exact_point.proofs.Readings.{whole_is}
use Rattle.arrange.proofs.FoundLemmas.{place_positive}
use Rattle.crossing_sweep.proofs.RankLemmas.{from_border, before_border}
use Rattle.crossing_sweep.proofs.strip.Strip.holds.Goals as goal

pub returns : goal.returns
returns c =
    let at = c.args.node.now.at in
    let p : Point = place c.args.node.now.at in
    let rank : ℤ = c.args.node.now.rank in
    let first : ℤ = border c.args.self.first in
    let end : ℤ = border (c.args.self.last + 1) in
    let read : to_z w64 (of_z w64 c.args.node.now.rank) ≡ c.args.node.now.rank = first_of (search rules, grind (arith, ints, to_z-of_z)) in
    let left : to_z w64 (of_z w64 c.border.result) ≡ border c.args.self.first = whole_is c.border.ensures.in_range c.border.ensures.value in
    let right : to_z w64 (of_z w64 c.end.result) ≡ border (c.args.self.last + 1) = search rules in
    let from : to_z w64 (of_z w64 c.first_rank.result) ≡ c.first_rank.result = first_of (search rules, grind (arith, ints, to_z-of_z)) in
    let to : to_z w64 (of_z w64 c.first_rank-2.result) ≡ c.first_rank-2.result = first_of (search rules, grind (arith, ints, to_z-of_z)) in
    let low : int_le ((pos 4194304 *ℤ first) -ℤ pos 1048576) rank ≡ int_le (first *ℤ p.w) p.x = ∥∥₁_elim c.args.node.now.ranked (Bool-set _ _) (λ is. from_border rank first p (place_positive at) is) in
    let high : int_lt rank ((pos 4194304 *ℤ end) -ℤ pos 1048576) ≡ int_lt p.x (end *ℤ p.w) = ∥∥₁_elim c.args.node.now.ranked (Bool-set _ _) (λ is. before_border rank end p (place_positive at) is) in
    c.is_ranked_within.ensures ∙ ap (λ z. int_le (to_z w64 (of_z w64 c.first_rank.result)) z && int_lt z (to_z w64 (of_z w64 c.first_rank-2.result))) read
    ∙ ap (λ z. int_le z rank && int_lt rank (to_z w64 (of_z w64 c.first_rank-2.result))) (from ∙ c.first_rank.ensures ∙ ap (λ z. (pos 4194304 *ℤ z) -ℤ pos 1048576) left)
    ∙ ap (λ z. int_le ((pos 4194304 *ℤ first) -ℤ pos 1048576) rank && int_lt rank z) (to ∙ c.first_rank-2.ensures ∙ ap (λ z. (pos 4194304 *ℤ z) -ℤ pos 1048576) right)
    ∙ ap (λ b. b && int_lt rank ((pos 4194304 *ℤ end) -ℤ pos 1048576)) low ∙ ap (λ b. int_le (first *ℤ p.w) p.x && b) high
