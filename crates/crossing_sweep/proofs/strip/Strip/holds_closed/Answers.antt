use Rattle.std.proofs.Common.{◌≡◌, ℕ, ℤ, ◌+◌, ap, sym, ◌∙◌, ◌&&◌, ◌*ℤ◌, ◌<ℤ◌, int_le}
use Rattle.std.specs.Cmp.{int_ranks}
use Rattle.std.specs.Ordering.{int_cmp, is_ge, MatchOrdering}
use Rattle.std.specs.declared.cmp.Ordering.{Ordering}
use Rattle.std.specs.declared.cmp.Ordering.TheVariants.{Less, Equal, Greater}
use Rattle.overlay_terms.specs.Column.{border}
use Rattle.overlay_terms.proofs.Whole.{more_is_not_most, same_is_most, less_is_most}
use Rattle.crossing_sweep.proofs.strip.Strip.holds_closed.Goals as goal

by_order : (x y : ℤ) (o : Ordering) → MatchOrdering o (x <ℤ y) (x ≡ y) (y <ℤ x) → is_ge o ≡ int_le y x
by_order x y Less h = sym (more_is_not_most y x h)
by_order x y Equal h = sym (same_is_most y x (sym h))
by_order x y Greater h = sym (less_is_most y x h)

pub returns : goal.returns
returns c =
    let x : ℤ = c.args.p.now.x in
    let w : ℤ = c.args.p.now.w in
    let edge : ℤ = border c.first.result *ℤ c.args.p.now.w in
    ap (λ b. b && c.is_up_to-to_right.result) (c.is_ge.ensures ∙ ap is_ge c.border_side-from_left.ensures ∙ by_order c.args.p.now.x edge (int_cmp c.args.p.now.x edge) (int_ranks c.args.p.now.x edge))
    ∙ ap (λ b. int_le edge c.args.p.now.x && b) c.is_up_to-to_right.ensures
    ∙ ap (λ (k : ℕ). int_le (border k *ℤ w) x && int_le x (border (c.last.result + 1) *ℤ w)) c.first.ensures.value
    ∙ ap (λ (k : ℕ). int_le (border c.args.self.first *ℤ w) x && int_le x (border (k + 1) *ℤ w)) c.last.ensures.value
