use Rattle.std.proofs.Common.{◌<ℤ◌, ◌≤ℤ◌, sym, subst, ap, ◌∙◌, arith}
use Rattle.std.proofs.lemmas.Int.{ints, to_z-of_z}
use Rattle.overlay_terms.specs.Plane.{Point, whole}
use Rattle.overlay_terms.specs.Column.{border}
use Rattle.crossing_sweep.specs.Passing.{IsEntry}
use Rattle.crossing_sweep.proofs.StartLemmas.{entry_left, entry_right}
use Rattle.crossing_sweep.proofs.starts.first_place.Goals as goal

pub returns-then-border-x : goal.returns-then-border-x
returns-then-border-x c =
    let s = c.args.seg.now in
    let low : c.border.result ≤ℤ c.x.result = grind (arith, ints, to_z-of_z) in
    let here : border c.args.strip.first ≤ℤ s.left.x = rw (← c.border.ensures.value, ← c.left.ensures.value, ← c.x.ensures.value) low in
    subst (λ (z : Point). IsEntry c.args.strip s z) (ap whole (sym c.left-then-border-x.ensures.value) ∙ sym c.whole.ensures) (entry_left c.args.strip s c.requires.ahead here)

pub returns-then-x-border : goal.returns-then-x-border
returns-then-x-border c =
    let s = c.args.seg.now in
    let begun : c.x.result <ℤ c.border.result = grind (arith, ints, to_z-of_z) in
    let ends : c.x-2.result ≤ℤ c.border-2.result = grind (arith, ints, to_z-of_z) in
    let first : s.left.x <ℤ border c.args.strip.first = rw (← c.border.ensures.value, ← c.left.ensures.value, ← c.x.ensures.value) begun in
    let last : s.right.x ≤ℤ border c.args.strip.first = rw (← c.border-2.ensures.value, ← c.right.ensures.value, ← c.x-2.ensures.value) ends in
    subst (λ (z : Point). IsEntry c.args.strip s z) (ap whole (sym c.right-then-x-border.ensures.value) ∙ sym c.whole-then-x-border.ensures) (entry_right c.args.strip s c.requires.ahead first last c.requires.met)
