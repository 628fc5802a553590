-- A segment below points one above the other: only where its ends enclose their x, and then from one of them on.
use Rattle.std.specs.Prelude.{◌≡◌, ℕ, ℤ, pos, ◌+◌, ◌<◌, ◌≤◌, ◌*ℤ◌, ◌<ℤ◌, ◌≤ℤ◌, ◌==◌, ◌&&◌, Bool, true, false, not, int_le, int_lt, nat_le, List, length, slice_set, slice_index, if◌then◌else◌}
use Rattle.std.proofs.Common.{◌∙◌, refl, arith, inl, inr}
use Rattle.std.proofs.lemmas.Int.{ints}
use Rattle.std.proofs.lemmas.Bool.Decides.{leb_tells}
use Rattle.overlay_terms.specs.Plane.{Segment, height_over, is_below}
use Rattle.overlay_terms.specs.Trees.{mask_bits}
use Rattle.overlay_terms.proofs.InputNumbers.{times_one}
use Rattle.overlay_grid.specs.declared.rising.Rise.{Rise}
use Rattle.overlay_grid.specs.Rising.{point_at}
use Rattle.overlay_grid.specs.Turning.{turned}
use Rattle.overlay_grid.proofs.Turned.{turned_inside, turned_outside}

first_fails : (x y z : Bool) → x ≡ false → (x && y && z) ≡ false
first_fails true y z e = cc
first_fails false y z e = refl

second_fails : (x y z : Bool) → y ≡ false → (x && y && z) ≡ false
second_fails true true z e = cc
second_fails true false z e = refl
second_fails false y z e = refl

last_tells : (x y z : Bool) → x ≡ true → y ≡ true → (x && y && z) ≡ z
last_tells true true z e f = refl
last_tells true false z e f = cc
last_tells false y z e f = cc

pub right_of : (s : Segment) (r : Rise) (j : ℕ) → r.x <ℤ s.left.x → is_below s (point_at r j) ≡ false
right_of s r j h =
    let one = times_one s.left.x in
    let no : int_le (s.left.x *ℤ pos 1) r.x ≡ false = grind (arith, ints) in
    first_fails _ (int_lt r.x (s.right.x *ℤ pos 1)) (int_lt (pos 0) (height_over s (point_at r j))) no

pub left_of : (s : Segment) (r : Rise) (j : ℕ) → s.right.x ≤ℤ r.x → is_below s (point_at r j) ≡ false
left_of s r j h =
    let one = times_one s.right.x in
    let no : int_lt r.x (s.right.x *ℤ pos 1) ≡ false = grind (arith, ints) in
    second_fails (int_le (s.left.x *ℤ pos 1) r.x) _ (int_lt (pos 0) (height_over s (point_at r j))) no

-- between its ends its height alone decides
pub between : (s : Segment) (r : Rise) (j : ℕ) → s.left.x ≤ℤ r.x → r.x <ℤ s.right.x → is_below s (point_at r j) ≡ int_lt (pos 0) (height_over s (point_at r j))
between s r j low high =
    let left = times_one s.left.x in
    let right = times_one s.right.x in
    let a : int_le (s.left.x *ℤ pos 1) r.x ≡ true = grind (arith, ints) in
    let b : int_lt r.x (s.right.x *ℤ pos 1) ≡ true = grind (arith, ints) in
    last_tells _ _ (int_lt (pos 0) (height_over s (point_at r j))) a b

-- ---- what a change of one bit does
pub unchanged : (s b t : Bool) → b ≡ false → t ≡ (if s && b then not t else t)
unchanged true true t e = cc
unchanged true false t e = refl
unchanged false b t e = refl

changed : (s b t u : Bool) → b ≡ true → u ≡ (if s then not t else t) → u ≡ (if s && b then not t else t)
changed true true t u e f = f
changed true false t u e f = cc
changed false b t u e f = f

-- a mask changed at the first point above changes the bit of its layer from there on
pub turns_on : (masks : List ℕ) (first y layer k j : ℕ) (below : Bool) → first < length masks → below ≡ nat_le first j
    → mask_bits y k ≡ (if layer == k then not (mask_bits (slice_index masks first) k) else mask_bits (slice_index masks first) k)
    → turned (slice_set masks first y) (j + 1) k ≡ (if (layer == k) && below then not (turned masks (j + 1) k) else turned masks (j + 1) k)
turns_on masks first y layer k j below h is bit =
    elim (leb_tells first j) [
      | inl t ↦ changed (layer == k) below (turned masks (j + 1) k) (turned (slice_set masks first y) (j + 1) k) (is ∙ t.0)
          (turned_inside masks first (j + 1) y layer k h (omega (arith, t.1)) bit)
      | inr t ↦ turned_outside masks first (j + 1) y k (omega (arith, t.1)) ∙ unchanged (layer == k) below (turned masks (j + 1) k) (is ∙ t.0)
    ]

-- where the first point above is past the last one, nothing changes
pub turns_behind : (masks : List ℕ) (first layer k j : ℕ) (below : Bool) → j < length masks → length masks ≤ first → below ≡ nat_le first j
    → turned masks (j + 1) k ≡ (if (layer == k) && below then not (turned masks (j + 1) k) else turned masks (j + 1) k)
turns_behind masks first layer k j below h far is =
    elim (leb_tells first j) [
      | inl t ↦ absurd (omega (arith, h, far, t.1))
      | inr t ↦ unchanged (layer == k) below (turned masks (j + 1) k) (is ∙ t.0)
    ]
