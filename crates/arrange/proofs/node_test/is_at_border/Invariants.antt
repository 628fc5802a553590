use Rattle.std.proofs.Common.{◌≡◌, ◌*ℤ◌, take, false}
use Rattle.std.specs.List.{list_any}
use Rattle.std.specs.Ordering.{int_eq}
use Rattle.overlay_terms.specs.Column.{border, columns}
use Rattle.arrange.proofs.node_test.is_at_border.Given as goal

-- none of the columns so far has a border there
abbrev pub invariant-loop-number : goal.invariant-loop-number
invariant-loop-number l = list_any (λ k. int_eq l.p.x (border k *ℤ l.p.w)) (take l.number columns) ≡ false
