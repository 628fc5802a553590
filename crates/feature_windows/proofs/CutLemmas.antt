-- Boxes cut in two, in place of one of those that make up another.
use Rattle.std.proofs.Common.{◌≡◌, ℤ, pos, ◌+◌, ◌+ℤ◌, ◌-ℤ◌, ◌*ℤ◌, ◌≤ℤ◌, ◌<ℤ◌, ◌&&◌, ◌||◌, refl, ap, sym, ◌∙◌, arith, zero-add, true, false, Bool, List, [], ◌∷◌, ◌++◌, count_by, if◌then◌else◌}
use Rattle.std.specs.Prelude.{int_le, int_lt, All}
use Rattle.std.specs.List.{list_any}
use Rattle.std.proofs.lemmas.Int.{ints, by_lt_z}
use Rattle.std.proofs.lemmas.List.Elements.{All-nil, All-cons, All-head, All-tail}
use Rattle.std.proofs.lemmas.List.Folds.{list_any-append}
use Rattle.overlay_terms.specs.Plane.{Point}
use Rattle.overlay_terms.proofs.ClosedRings.{bit, count-cons, count-append}
use Rattle.overlay_terms.proofs.Difference.{split, differences, same}
use Rattle.overlay_terms.proofs.InputNumbers.{true_le, true_lt, most_times}
use Rattle.block_reading.specs.Terms.{Core}
use Rattle.exact_point.proofs.Tests.{lt_no, le_no}
use Rattle.map_window.specs.Window.{Box}
use Rattle.near_steps.specs.Cores.{box_of, IsPart}
use Rattle.feature_windows.specs.Parts.{is_in, holds, area_of, areas_of, MakeUp, IsCutUpright, IsCutLevel, IsCut, upright, level}

-- ---- numbers between two others, cut at a third
true_and : (a b : Bool) → a ≡ true → b ≡ true → (a && b) ≡ true
true_and true true e f = refl
true_and true false e f = f
true_and false b e f = e

and_false : (a : Bool) → (a && false) ≡ false
and_false true = refl
and_false false = refl

closed_cut : (l m h x : ℤ) → l ≤ℤ m → m ≤ℤ h → (int_le l x && int_le x h) ≡ ((int_le l x && int_le x m) || (int_le m x && int_le x h))
closed_cut l m h x lm mh =
    by_lt_z x l (λ a. rw (le_no l x a, le_no m x (omega (arith, ints))) refl)
    (λ a. by_lt_z m x
    (λ b. rw (true_le l x a, le_no x m b, true_le m x (omega (arith, ints))) refl)
    (λ b. rw (true_le l x a, true_le x m b, true_le x h (omega (arith, ints))) refl))

from_cut : (l m h x : ℤ) → l ≤ℤ m → m ≤ℤ h → bit (int_le l x && int_lt x h) ≡ bit (int_le l x && int_lt x m) + bit (int_le m x && int_lt x h)
from_cut l m h x lm mh =
    by_lt_z x l (λ a. rw (le_no l x a, le_no m x (omega (arith, ints))) refl)
    (λ a. by_lt_z x m
    (λ b. rw (true_le l x a, true_lt x m b, true_lt x h (omega (arith, ints)), le_no m x b) refl)
    (λ b. rw (true_le l x a, lt_no x m b, true_le m x b) (sym (zero-add (bit (int_lt x h))))))

after_cut : (l m h x : ℤ) → l ≤ℤ m → m ≤ℤ h → bit (int_lt l x && int_le x h) ≡ bit (int_lt l x && int_le x m) + bit (int_lt m x && int_le x h)
after_cut l m h x lm mh =
    by_lt_z l x
    (λ a. by_lt_z m x
    (λ b. rw (true_lt l x a, le_no x m b, true_lt m x b) (sym (zero-add (bit (int_le x h)))))
    (λ b. rw (true_lt l x a, true_le x m b, true_le x h (omega (arith, ints)), lt_no m x b) refl))
    (λ a. rw (lt_no l x a, lt_no m x (omega (arith, ints))) refl)

-- ---- tests of the other coordinate beside them
shared : (p a b y : Bool) → p ≡ (a || b) → (p && y) ≡ ((a && y) || (b && y))
shared p true true true e = rw e refl
shared p true true false e = rw e refl
shared p true false true e = rw e refl
shared p true false false e = rw e refl
shared p false true true e = rw e refl
shared p false true false e = rw e refl
shared p false false true e = rw e refl
shared p false false false e = rw e refl

shared_left : (p a b y : Bool) → p ≡ (a || b) → (y && p) ≡ ((y && a) || (y && b))
shared_left p a b true e = e
shared_left p a b false e = refl

counted : (p a b y : Bool) → bit p ≡ bit a + bit b → bit (p && y) ≡ bit (a && y) + bit (b && y)
counted p a b true e = let p_is : (p && true) ≡ p = with_true p in let a_is : (a && true) ≡ a = with_true a in let b_is : (b && true) ≡ b = with_true b in rw (p_is, a_is, b_is) e where
  with_true : (c : Bool) → (c && true) ≡ c
  with_true true = refl
  with_true false = refl
counted p a b false e = rw (and_false p, and_false a, and_false b) refl

counted_left : (p a b y : Bool) → bit p ≡ bit a + bit b → bit (y && p) ≡ bit (y && a) + bit (y && b)
counted_left p a b true e = e
counted_left p a b false e = refl

-- ---- one box cut in two
-- whoever lies in one lies in the other, and is counted once, and the areas add up
pub record IsSum (whole first second : Box) : Type 0 where
  pub cover : (q : Point) → pos 0 <ℤ q.w → is_in whole q ≡ (is_in first q || is_in second q)
  pub once : (q : Point) → pos 0 <ℤ q.w → bit (holds whole q) ≡ bit (holds first q) + bit (holds second q)
  pub area : area_of whole ≡ area_of first +ℤ area_of second
  pub left : IsPart first whole
  pub right : IsPart second whole

parted : (l m h k : ℤ) → (h -ℤ l) *ℤ k ≡ ((m -ℤ l) *ℤ k) +ℤ ((h -ℤ m) *ℤ k)
parted l m h k = rw (split l, split m, split h, split k) (simp differences (same _ _ _ _ (omega arith)))

parted_left : (l m h k : ℤ) → k *ℤ (h -ℤ l) ≡ (k *ℤ (m -ℤ l)) +ℤ (k *ℤ (h -ℤ m))
parted_left l m h k = rw (split l, split m, split h, split k) (simp differences (same _ _ _ _ (omega arith)))

least : (a : ℤ) → a ≤ℤ a
least a = omega (arith, ints)

sum_upright : (at : ℤ) (whole first second : Box) → IsCutUpright at whole first second → IsSum whole first second
sum_upright at whole first second c =
    rw (c.first_is, c.second_is) (record {
      cover = λ q positive.
          let a = most_times whole.low_x at q.w positive c.after in let b = most_times at whole.high_x q.w positive c.before in
          shared _ _ _ (int_le (whole.low_y *ℤ q.w) q.y && int_le q.y (whole.high_y *ℤ q.w)) (closed_cut (whole.low_x *ℤ q.w) (at *ℤ q.w) (whole.high_x *ℤ q.w) q.x a b);
      once = λ q positive.
          let a = most_times whole.low_x at q.w positive c.after in let b = most_times at whole.high_x q.w positive c.before in
          counted _ _ _ (int_lt (whole.low_y *ℤ q.w) q.y && int_le q.y (whole.high_y *ℤ q.w)) (from_cut (whole.low_x *ℤ q.w) (at *ℤ q.w) (whole.high_x *ℤ q.w) q.x a b);
      area = parted whole.low_x at whole.high_x (whole.high_y -ℤ whole.low_y);
      left = record { left = least whole.low_x; right = c.before; low = least whole.low_y; high = least whole.high_y };
      right = record { left = c.after; right = least whole.high_x; low = least whole.low_y; high = least whole.high_y };
    })

sum_level : (at : ℤ) (whole first second : Box) → IsCutLevel at whole first second → IsSum whole first second
sum_level at whole first second c =
    rw (c.first_is, c.second_is) (record {
      cover = λ q positive.
          let a = most_times whole.low_y at q.w positive c.after in let b = most_times at whole.high_y q.w positive c.before in
          shared_left _ _ _ (int_le (whole.low_x *ℤ q.w) q.x && int_le q.x (whole.high_x *ℤ q.w)) (closed_cut (whole.low_y *ℤ q.w) (at *ℤ q.w) (whole.high_y *ℤ q.w) q.y a b);
      once = λ q positive.
          let a = most_times whole.low_y at q.w positive c.after in let b = most_times at whole.high_y q.w positive c.before in
          counted_left _ _ _ (int_le (whole.low_x *ℤ q.w) q.x && int_lt q.x (whole.high_x *ℤ q.w)) (after_cut (whole.low_y *ℤ q.w) (at *ℤ q.w) (whole.high_y *ℤ q.w) q.y a b);
      area = parted_left whole.low_y at whole.high_y (whole.high_x -ℤ whole.low_x);
      left = record { left = least whole.low_x; right = least whole.high_x; low = least whole.low_y; high = c.before };
      right = record { left = least whole.low_x; right = least whole.high_x; low = c.after; high = least whole.high_y };
    })

pub sum_of_cut : (whole first second : Box) → IsCut whole first second → IsSum whole first second
sum_of_cut whole first second (upright at c) = sum_upright at whole first second c
sum_of_cut whole first second (level at c) = sum_level at whole first second c

-- ---- in place of one of several boxes
part_through : (a b c : Box) → IsPart a b → IsPart b c → IsPart a c
part_through a b c h k =
    let l = h.left in let r = h.right in let d = h.low in let u = h.high in
    let m = k.left in let s = k.right in let e = k.low in let v = k.high in
    record { left = omega (arith, ints); right = omega (arith, ints); low = omega (arith, ints); high = omega (arith, ints) }

regrouped : (a b c : ℤ) → (a +ℤ b) +ℤ c ≡ a +ℤ (b +ℤ c)
regrouped a b c = omega (arith, ints)

areas-append : (xs ys : List Box) → areas_of (xs ++ ys) ≡ areas_of xs +ℤ areas_of ys
areas-append [] ys = let t : ℤ = areas_of ys in let e : t ≡ pos 0 +ℤ t = omega (arith, ints) in e
areas-append (x ∷ xs) ys = ap (λ (z : ℤ). area_of x +ℤ z) (areas-append xs ys) ∙ sym (regrouped (area_of x) (areas_of xs) (areas_of ys))

any_cut : (f : Box → Bool) (xs ys : List Box) (p a b : Box) → f p ≡ (f a || f b) → list_any f (xs ++ a ∷ b ∷ ys) ≡ list_any f (xs ++ p ∷ ys)
any_cut f xs ys p a b e =
    list_any-append f xs (a ∷ b ∷ ys) ∙ ap (λ t. list_any f xs || t) (grouped (f a) (f b) (list_any f ys) ∙ ap (λ t. t || list_any f ys) (sym e)) ∙ sym (list_any-append f xs (p ∷ ys)) where
      grouped : (r s t : Bool) → (r || (s || t)) ≡ ((r || s) || t)
      grouped true s t = refl
      grouped false s t = refl

count_cut : (f : Box → Bool) (xs ys : List Box) (p a b : Box) → bit (f p) ≡ bit (f a) + bit (f b) → count_by f (xs ++ a ∷ b ∷ ys) ≡ count_by f (xs ++ p ∷ ys)
count_cut f xs ys p a b e =
    let one : count_by f (xs ++ a ∷ b ∷ ys) ≡ count_by f xs + count_by f (a ∷ b ∷ ys) = count-append f xs (a ∷ b ∷ ys) in
    let two : count_by f (xs ++ p ∷ ys) ≡ count_by f xs + count_by f (p ∷ ys) = count-append f xs (p ∷ ys) in
    let three : count_by f (a ∷ b ∷ ys) ≡ bit (f a) + count_by f (b ∷ ys) = count-cons f a (b ∷ ys) in
    let four : count_by f (b ∷ ys) ≡ bit (f b) + count_by f ys = count-cons f b ys in
    let five : count_by f (p ∷ ys) ≡ bit (f p) + count_by f ys = count-cons f p ys in
    omega arith

area_cut : (xs ys : List Box) (p a b : Box) → area_of p ≡ area_of a +ℤ area_of b → areas_of (xs ++ a ∷ b ∷ ys) ≡ areas_of (xs ++ p ∷ ys)
area_cut xs ys p a b e =
    areas-append xs (a ∷ b ∷ ys) ∙ ap (λ (z : ℤ). areas_of xs +ℤ z) (sym (regrouped (area_of a) (area_of b) (areas_of ys)) ∙ ap (λ (z : ℤ). z +ℤ areas_of ys) (sym e)) ∙ sym (areas-append xs (p ∷ ys))

pub whole_made_up : (whole : Box) → MakeUp whole (whole ∷ [])
whole_made_up whole = record {
  cover = λ q positive. or_false (is_in whole q);
  once = λ q positive. count-cons (λ part. holds part q) whole [] ∙ one (holds whole q);
  area = let a : ℤ = area_of whole in let e : a +ℤ pos 0 ≡ a = omega (arith, ints) in e;
  within = All-cons (λ part. IsPart part whole) whole [] (record { left = least whole.low_x; right = least whole.high_x; low = least whole.low_y; high = least whole.high_y }) (All-nil (λ part. IsPart part whole));
} where
  or_false : (b : Bool) → (b || false) ≡ b
  or_false true = refl
  or_false false = refl

  one : (b : Bool) → bit b + 0 ≡ (if b then 1 else 0)
  one true = refl
  one false = refl

pub within_cut : {A : Type 0} (P : A → Type 0) (xs ys : List A) (p a b : A) → (P p → P a) → (P p → P b) → All P (xs ++ p ∷ ys) → All P (xs ++ a ∷ b ∷ ys)
within_cut P [] ys p a b f g h = All-cons P a (b ∷ ys) (f (All-head P p ys h)) (All-cons P b ys (g (All-head P p ys h)) (All-tail P p ys h))
within_cut P (x ∷ xs) ys p a b f g h = All-cons P x (xs ++ a ∷ b ∷ ys) (All-head P x (xs ++ p ∷ ys) h) (within_cut P xs ys p a b f g (All-tail P x (xs ++ p ∷ ys) h))

pub cut_made_up : (whole : Box) (xs ys : List Box) (p a b : Box) → IsCut p a b → MakeUp whole (xs ++ p ∷ ys) → MakeUp whole (xs ++ a ∷ b ∷ ys)
cut_made_up whole xs ys p a b c h =
    let s = sum_of_cut p a b c in
    record {
      cover = λ q positive. any_cut (λ part. is_in part q) xs ys p a b (s.cover q positive) ∙ h.cover q positive;
      once = λ q positive. count_cut (λ part. holds part q) xs ys p a b (s.once q positive) ∙ h.once q positive;
      area = area_cut xs ys p a b s.area ∙ h.area;
      within = within_cut (λ part. IsPart part whole) xs ys p a b (λ k. part_through a p whole s.left k) (λ k. part_through b p whole s.right k) h.within;
    }

-- a cut whose numbers are read from a core
pub upright_read : (core : Core) (lx hx ly hy m n : ℤ) → lx ≡ core.low_x → hx ≡ core.high_x → ly ≡ core.low_y → hy ≡ core.high_y → n ≡ m → lx ≤ℤ m → m ≤ℤ hx
    → IsCut (box_of core) (record { low_x = lx; high_x = n; low_y = ly; high_y = hy }) (record { low_x = n; high_x = hx; low_y = ly; high_y = hy })
upright_read core lx hx ly hy m n e f g h same after before =
    upright m (record {
      after = omega (arith, ints, e, after);
      before = omega (arith, ints, f, before);
      first_is = λ i. record { low_x = e i; high_x = same i; low_y = g i; high_y = h i };
      second_is = λ i. record { low_x = same i; high_x = f i; low_y = g i; high_y = h i };
    })

pub level_read : (core : Core) (lx hx ly hy m n : ℤ) → lx ≡ core.low_x → hx ≡ core.high_x → ly ≡ core.low_y → hy ≡ core.high_y → n ≡ m → ly ≤ℤ m → m ≤ℤ hy
    → IsCut (box_of core) (record { low_x = lx; high_x = hx; low_y = ly; high_y = n }) (record { low_x = lx; high_x = hx; low_y = n; high_y = hy })
level_read core lx hx ly hy m n e f g h same after before =
    level m (record {
      after = omega (arith, ints, g, after);
      before = omega (arith, ints, h, before);
      first_is = λ i. record { low_x = e i; high_x = f i; low_y = g i; high_y = same i };
      second_is = λ i. record { low_x = e i; high_x = f i; low_y = same i; high_y = h i };
    })
