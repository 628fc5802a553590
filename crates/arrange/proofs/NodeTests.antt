-- The tests of nodes over marked segments, and those over the segments alone.
use Rattle.std.specs.Prelude.{◌≡◌, ℕ, pos, ◌+◌, ◌<◌, Bool, true, false, not, ◌&&◌, ◌||◌, ◌*ℤ◌, List, [], ◌∷◌, map}
use Rattle.std.specs.List.{list_any}
use Rattle.std.specs.Cmp.{both_ways}
use Rattle.std.specs.Ordering.{int_eq, int_cmp, is_eq}
use Rattle.std.proofs.Common.{refl, ap, sym, ◌∙◌, get_or, take}
use Rattle.std.proofs.lemmas.Bool.{or_left, or_right}
use Rattle.std.proofs.lemmas.List.Folds.{list_any_at, list_any_more}
use Rattle.std.proofs.lemmas.List.FromFn.{get_or-range_with_len, length-range_with_len}
use Rattle.std.proofs.Math.Nat.{zero-add}
use Rattle.overlay_terms.specs.Plane.{Point, Segment, whole, point_cmp, same_place, is_on}
use Rattle.overlay_terms.specs.Tiles.{is_parallel, is_vertical, is_end, is_crossing, is_on_border, is_node}
use Rattle.overlay_terms.proofs.Functions.{fun_ext}
use Rattle.overlay_terms.specs.Column.{border, columns, column_count}
use Rattle.overlay_terms.proofs.PointOrder.{is_eq_then}
use Rattle.exact_point.proofs.PlaceOrder.{level_from, level_test}
use Rattle.exact_point.specs.Crossing.{turn_of}
use Rattle.exact_point.proofs.OnLine.{parallel_from_turn, turn_from_parallel}
use Rattle.arrange.specs.declared.marked_seg.MarkedSeg.{MarkedSeg}

any-map : {X Y : Type 0} (f : Y → Bool) (g : X → Y) (xs : List X) → list_any f (map g xs) ≡ list_any (λ x. f (g x)) xs
any-map f g [] = refl
any-map f g (x ∷ xs) = ap (λ b. f (g x) || b) (any-map f g xs)

-- the segments without their layers
abbrev segs : List MarkedSeg → List Segment
segs marked = map (λ (m : MarkedSeg). m.seg) marked

pub end_is : (marked : List MarkedSeg) (p : Point) → list_any (λ (m : MarkedSeg). same_place p (whole m.seg.left) || same_place p (whole m.seg.right)) marked ≡ is_end (map (λ (m : MarkedSeg). m.seg) marked) p
end_is marked p = sym (any-map (λ s. same_place p (whole s.left) || same_place p (whole s.right)) (λ (m : MarkedSeg). m.seg) marked)

pub crossing_is : (marked : List MarkedSeg) (p : Point) → list_any (λ (m : MarkedSeg). is_on m.seg p && list_any (λ (t : MarkedSeg). is_on t.seg p && not (is_parallel m.seg t.seg)) marked) marked ≡ is_crossing (map (λ (m : MarkedSeg). m.seg) marked) p
crossing_is marked p =
    ap (λ (f : MarkedSeg → Bool). list_any f marked)
    (fun_ext (λ (m : MarkedSeg). ap (λ b. is_on m.seg p && b) (sym (any-map (λ t. is_on t p && not (is_parallel m.seg t)) (λ (t : MarkedSeg). t.seg) marked))))
    ∙ sym (any-map (λ s. is_on s p && list_any (λ t. is_on t p && not (is_parallel s t)) (segs marked)) (λ (m : MarkedSeg). m.seg) marked)

pub slanted_is : (marked : List MarkedSeg) (p : Point) → list_any (λ (m : MarkedSeg). is_on m.seg p && not (is_vertical m.seg)) marked ≡ list_any (λ s. is_on s p && not (is_vertical s)) (map (λ (m : MarkedSeg). m.seg) marked)
slanted_is marked p = sym (any-map (λ s. is_on s p && not (is_vertical s)) (λ (m : MarkedSeg). m.seg) marked)

-- a direction is level with another exactly where they are parallel
pub parallel_is : (s t : Segment) → is_eq (int_cmp (pos 0) (turn_of s t)) ≡ is_parallel s t
parallel_is s t =
    both_ways (is_eq (int_cmp (pos 0) (turn_of s t))) (is_parallel s t)
    (λ h. parallel_from_turn s t (sym (level_from (pos 0) (turn_of s t) h)))
    (λ h. level_test (pos 0) (turn_of s t) (sym (turn_from_parallel s t h)))

-- points of which neither comes first are at one place
pub vertex_is : (p q : Point) → is_eq (point_cmp p q) ≡ same_place p q
vertex_is p q = is_eq_then (int_cmp (p.x *ℤ q.w) (q.x *ℤ p.w)) (int_cmp (p.y *ℤ q.w) (q.y *ℤ p.w))

-- a node by an end
pub node_by_end : (marked : List MarkedSeg) (p : Point) (a : Bool) → a ≡ list_any (λ (m : MarkedSeg). same_place p (whole m.seg.left) || same_place p (whole m.seg.right)) marked → a ≡ true → true ≡ is_node (map (λ (m : MarkedSeg). m.seg) marked) p
node_by_end marked p a e t =
    sym (ap (λ b. (b || is_crossing (segs marked) p) || is_on_border (segs marked) p) (sym (end_is marked p) ∙ sym e ∙ t))

-- a node by a crossing
pub node_by_crossing : (marked : List MarkedSeg) (p : Point) (a : Bool) → a ≡ list_any (λ (m : MarkedSeg). is_on m.seg p && list_any (λ (t : MarkedSeg). is_on t.seg p && not (is_parallel m.seg t.seg)) marked) marked → a ≡ true → true ≡ is_node (map (λ (m : MarkedSeg). m.seg) marked) p
node_by_crossing marked p a e t =
    sym (or_left (is_end (segs marked) p || is_crossing (segs marked) p) (is_on_border (segs marked) p) (or_right (is_end (segs marked) p) (is_crossing (segs marked) p) (sym (crossing_is marked p) ∙ sym e ∙ t)))

-- what is no end and no crossing is a node by a border alone
pub node_by_border : (marked : List MarkedSeg) (p : Point) (a b r : Bool) → a ≡ list_any (λ (m : MarkedSeg). same_place p (whole m.seg.left) || same_place p (whole m.seg.right)) marked → a ≡ false
    → b ≡ list_any (λ (m : MarkedSeg). is_on m.seg p && list_any (λ (t : MarkedSeg). is_on t.seg p && not (is_parallel m.seg t.seg)) marked) marked → b ≡ false
    → r ≡ is_on_border (map (λ (m : MarkedSeg). m.seg) marked) p → r ≡ is_node (map (λ (m : MarkedSeg). m.seg) marked) p
node_by_border marked p a b r e f g h k =
    k ∙ sym (ap (λ c. (c || is_crossing (segs marked) p) || is_on_border (segs marked) p) (sym (end_is marked p) ∙ sym e ∙ f) ∙ ap (λ c. (false || c) || is_on_border (segs marked) p) (sym (crossing_is marked p) ∙ sym g ∙ h))

-- on a border where a column has it and a slanted segment holds the point
pub on_border_by : (marked : List MarkedSeg) (p : Point) (a r : Bool) → a ≡ list_any (λ k. int_eq p.x (border k *ℤ p.w)) columns → a ≡ true
    → r ≡ list_any (λ (m : MarkedSeg). is_on m.seg p && not (is_vertical m.seg)) marked → r ≡ is_on_border (map (λ (m : MarkedSeg). m.seg) marked) p
on_border_by marked p a r e t k =
    k ∙ slanted_is marked p ∙ sym (ap (λ b. b && list_any (λ s. is_on s p && not (is_vertical s)) (segs marked)) (sym e ∙ t))

-- the number of a column is in its place among the columns
column_at : (k : ℕ) → k < column_count → get_or columns k 0 ≡ k
column_at k h = get_or-range_with_len 0 column_count k 0 h ∙ zero-add k

-- a column with the test is among the columns
pub column_found : (f : ℕ → Bool) (k : ℕ) → k < column_count → f k ≡ true → list_any f columns ≡ true
column_found f k h t = list_any_at f columns k 0 (rw (length-range_with_len 0 column_count) h) (ap f (column_at k h) ∙ t)

-- one column more without the test
pub none_more : (f : ℕ → Bool) (k : ℕ) → k < column_count → f k ≡ false → list_any f (take k columns) ≡ false → list_any f (take (k + 1) columns) ≡ false
none_more f k h t was =
    list_any_more f columns k 0 (rw (length-range_with_len 0 column_count) h) ∙ ap (λ b. b || f (get_or columns k 0)) was ∙ ap f (column_at k h) ∙ t
