-- What is a node at one of two points at one place is a node at the other.
use Rattle.std.specs.Prelude.{◌≡◌, ℕ, ℤ, pos, ◌*ℤ◌, ◌≤ℤ◌, ◌<ℤ◌, Bool, not, ◌&&◌, ◌||◌, IsTrue, List}
use Rattle.std.specs.List.{list_any}
use Rattle.std.specs.Cmp.{both_ways}
use Rattle.std.specs.Ordering.{int_eq}
use Rattle.std.proofs.Common.{ap, sym, ◌∙◌, arith}
use Rattle.std.proofs.lemmas.Int.{ints}
use Rattle.overlay_terms.specs.Plane.{WholePoint, Point, Segment, whole, same_place, is_on}
use Rattle.overlay_terms.specs.Column.{border, columns}
use Rattle.overlay_terms.specs.Tiles.{is_parallel, is_vertical, is_end, is_crossing, is_on_border, is_node}
use Rattle.overlay_terms.proofs.Functions.{fun_ext}
use Rattle.overlay_terms.proofs.InputNumbers.{last_turned, most_back}
use Rattle.overlay_terms.proofs.PlaceLemmas.{IsSamePlace, places_alike}
use Rattle.exact_point.proofs.PlaceOrder.{one_positive, level_from, level_test, same_turned, same_through, on_same}

-- a positive factor may be dropped from an equation
pub same_back : (a b w : ℤ) → pos 0 <ℤ w → a *ℤ w ≡ b *ℤ w → a ≡ b
same_back a b w h e =
    let low : a ≤ℤ b = most_back a b w h (omega (arith, ints)) in
    let high : b ≤ℤ a = most_back b a w h (omega (arith, ints)) in
    omega (arith, ints)

-- an x that is a whole number over one denominator is it over the other
level_through : (b x w y v : ℤ) → pos 0 <ℤ w → x *ℤ v ≡ y *ℤ w → x ≡ b *ℤ w → y ≡ b *ℤ v
level_through b x w y v h e at = same_back y (b *ℤ v) w h (sym e ∙ ap (λ z. z *ℤ v) at ∙ last_turned b w v)

module _ (p q : Point) (hp : pos 0 <ℤ p.w) (hq : pos 0 <ℤ q.w) (e : IsTrue (same_place p q)) where
  alike : IsSamePlace p q
  alike = places_alike p q hp hq e

  -- both are at a whole point, or neither
  whole_alike : (v : WholePoint) → same_place p (whole v) ≡ same_place q (whole v)
  whole_alike v =
      both_ways (same_place p (whole v)) (same_place q (whole v))
      (λ h. same_through q p (whole v) hq hp one_positive (same_turned p q e) h)
      (λ h. same_through p q (whole v) hp hq one_positive e h)

  -- both have the x of a border, or neither
  border_alike : (k : ℕ) → int_eq p.x (border k *ℤ p.w) ≡ int_eq q.x (border k *ℤ q.w)
  border_alike k =
      both_ways (int_eq p.x (border k *ℤ p.w)) (int_eq q.x (border k *ℤ q.w))
      (λ h. level_test q.x (border k *ℤ q.w) (level_through (border k) p.x p.w q.x q.w hp alike.x_level (level_from p.x (border k *ℤ p.w) h)))
      (λ h. level_test p.x (border k *ℤ p.w) (level_through (border k) q.x q.w p.x p.w hq (sym alike.x_level) (level_from q.x (border k *ℤ q.w) h)))

  -- a segment holds both, or neither
  on_both : (s : Segment) → is_on s p ≡ is_on s q
  on_both s = on_same s p q hp hq e

  module _ (segments : List Segment) where
    -- both are at an end, or neither
    end_alike : is_end segments p ≡ is_end segments q
    end_alike =
        ap (λ (f : Segment → Bool). list_any f segments)
        (fun_ext (λ s. ap (λ b. b || same_place p (whole s.right)) (whole_alike s.left) ∙ ap (λ b. same_place q (whole s.left) || b) (whole_alike s.right)))

    -- the segments through the points that are not parallel to one
    others_alike : (s : Segment) → list_any (λ t. is_on t p && not (is_parallel s t)) segments ≡ list_any (λ t. is_on t q && not (is_parallel s t)) segments
    others_alike s = ap (λ (f : Segment → Bool). list_any f segments) (fun_ext (λ t. ap (λ b. b && not (is_parallel s t)) (on_both t)))

    -- both are at a crossing, or neither
    crossing_alike : is_crossing segments p ≡ is_crossing segments q
    crossing_alike =
        ap (λ (f : Segment → Bool). list_any f segments)
        (fun_ext (λ s. ap (λ b. b && list_any (λ t. is_on t p && not (is_parallel s t)) segments) (on_both s) ∙ ap (λ b. is_on s q && b) (others_alike s)))

    -- both are on a border, or neither
    on_border_alike : is_on_border segments p ≡ is_on_border segments q
    on_border_alike =
        ap (λ (f : ℕ → Bool). list_any f columns && list_any (λ s. is_on s p && not (is_vertical s)) segments) (fun_ext border_alike)
        ∙ ap (λ (f : Segment → Bool). list_any (λ k. int_eq q.x (border k *ℤ q.w)) columns && list_any f segments) (fun_ext (λ s. ap (λ b. b && not (is_vertical s)) (on_both s)))

    -- both are nodes, or neither
    pub node_alike : is_node segments p ≡ is_node segments q
    node_alike =
        ap (λ b. (b || is_crossing segments p) || is_on_border segments p) end_alike
        ∙ ap (λ b. (is_end segments q || b) || is_on_border segments p) crossing_alike
        ∙ ap (λ b. (is_end segments q || is_crossing segments q) || b) on_border_alike
