-- Lines without the middle one of three points on one side.
use Rattle.std.proofs.Common.{◌≡◌, ℤ, pos, ◌≤◌, ◌<ℤ◌, refl, ap, sym, ◌∙◌, arith, true, false, Bool, ◌&&◌, ◌||◌, List, [], ◌∷◌, length}
use Rattle.std.specs.Prelude.{int_lt, All}
use Rattle.std.proofs.lemmas.Bool.{and_from}
use Rattle.std.proofs.lemmas.List.Elements.{All-nil, All-cons, All-head, All-tail}
use Rattle.overlay_terms.specs.Plane.{WholePoint, Point, ring_segments}
use Rattle.overlay_terms.proofs.InputNumbers.{true_lt}
use Rattle.map_window.specs.Window.{Box, Side, left_of, right_of, under, over, IsIn, Lies, AreAlike}
use Rattle.map_window.specs.Drawn.{share_side, is_held, is_short, are_short}
use Rattle.map_window.proofs.Steps.{step, ring_segments-cons, alike_self, alike_through, alike-append, last_of}
use Rattle.map_window.proofs.Frames.{aside}
use Rattle.map_window.proofs.Lines.{shared_side, tail_spared}
use Rattle.near_steps.specs.Cores.{IsPart}
use Rattle.near_steps.specs.Thinned.{rest_of}
use Rattle.near_steps.proofs.CoreLemmas.{off_part}

-- what is so of both is so of what follows
pub by_thinned : (P : List WholePoint → Type 0) (core : Box) (a b c : WholePoint) (rest : List WholePoint) (t : Bool) → share_side core a b c ≡ t
    → (t ≡ true → P (rest_of core a c rest)) → (t ≡ false → P (b ∷ rest_of core b c rest)) → P (rest_of core a b (c ∷ rest))
by_thinned P core a b c rest true e f g = rw e (f refl)
by_thinned P core a b c rest false e f g = rw e (g refl)

-- ---- it looks the same
module _ (core : Box) (q : Point) (positive : pos 0 <ℤ q.w) (here : IsIn core q) where
  pub thin_alike : (a b : WholePoint) (rest : List WholePoint) → AreAlike (ring_segments (a ∷ rest_of core a b rest)) q (ring_segments (a ∷ b ∷ rest)) q
  thin_alike a b [] = alike_self (ring_segments (a ∷ b ∷ [])) q
  thin_alike a b (c ∷ rest) =
      by_thinned (λ xs. AreAlike (ring_segments (a ∷ xs)) q (ring_segments (a ∷ b ∷ c ∷ rest)) q) core a b c rest (share_side core a b c) refl
      (λ e. alike_through (ring_segments (a ∷ rest_of core a c rest)) (ring_segments (a ∷ c ∷ rest)) (ring_segments (a ∷ b ∷ c ∷ rest)) q q q
      (thin_alike a c rest)
      (tail_spared core q positive (λ side p l. aside core side q p positive here l) a b c rest (shared_side core a b c e)))
      (λ e. rw (ring_segments-cons a b (rest_of core b c rest), ring_segments-cons a b (c ∷ rest))
      (alike-append (step a b) (step a b) (ring_segments (b ∷ rest_of core b c rest)) (ring_segments (b ∷ c ∷ rest)) q q (alike_self (step a b) q) (thin_alike b c rest)))

-- ---- its steps are as long
or_left : (x y : Bool) → x ≡ true → (x || y) ≡ true
or_left true y e = refl
or_left false y e = absurd (cc)

or_right : (x y : Bool) → y ≡ true → (x || y) ≡ true
or_right true y e = refl
or_right false y e = e

three : (a b c d e f : ℤ) → a <ℤ b → c <ℤ d → e <ℤ f → (int_lt a b && int_lt c d && int_lt e f) ≡ true
three a b c d e f h k l = and_from (int_lt a b && int_lt c d) (int_lt e f) (and_from (int_lt a b) (int_lt c d) (true_lt a b h) (true_lt c d k)) (true_lt e f l)

-- three points on one side share it
pub sharing : (box : Box) (side : Side) (a b c : WholePoint) → Lies box side a → Lies box side b → Lies box side c → share_side box a b c ≡ true
sharing box left_of a b c h k l = or_left _ _ (or_left _ _ (three a.x box.low_x b.x box.low_x c.x box.low_x h k l))
sharing box right_of a b c h k l = or_left _ _ (or_right _ _ (three box.high_x a.x box.high_x b.x box.high_x c.x h k l))
sharing box under a b c h k l = or_right _ _ (or_left _ _ (three a.y box.low_y b.y box.low_y c.y box.low_y h k l))
sharing box over a b c h k l = or_right _ _ (or_right _ _ (three box.high_y a.y box.high_y b.y box.high_y c.y h k l))

both_true : (x y z t : Bool) → x ≡ true → y ≡ true → z ≡ true → (x && (y && t)) ≡ (z && t)
both_true x y z t e f g = rw (e, f, g) refl

module _ (part core frame : Box) (inside : IsPart part core) where
  -- a step on one side of the core may be drawn for its part
  side_short : (side : Side) (a b : WholePoint) → Lies core side a → Lies core side b → is_short part frame a b ≡ true
  side_short side a b h k =
      or_left (share_side part a b b) (is_held frame a && is_held frame b)
      (sharing part side a b b (off_part part core inside side a h) (off_part part core inside side b k) (off_part part core inside side b k))

  -- whether the steps of three points on one side may be drawn is not changed by the middle one
  pub short_spared : (a b c : WholePoint) (rest : List WholePoint) → share_side core a b c ≡ true → are_short part frame (a ∷ b ∷ c ∷ rest) ≡ are_short part frame (a ∷ c ∷ rest)
  short_spared a b c rest e =
      let s = shared_side core a b c e in
      both_true (is_short part frame a b) (is_short part frame b c) (is_short part frame a c) (are_short part frame (c ∷ rest))
      (side_short s.side a b s.first s.second) (side_short s.side b c s.second s.third) (side_short s.side a c s.first s.third)

  pub thin_short : (a b : WholePoint) (rest : List WholePoint) → are_short part frame (a ∷ rest_of core a b rest) ≡ are_short part frame (a ∷ b ∷ rest)
  thin_short a b [] = refl
  thin_short a b (c ∷ rest) =
      by_thinned (λ xs. are_short part frame (a ∷ xs) ≡ are_short part frame (a ∷ b ∷ c ∷ rest)) core a b c rest (share_side core a b c) refl
      (λ e. thin_short a c rest ∙ sym (short_spared a b c rest e))
      (λ e. ap (λ t. is_short part frame a b && t) (thin_short b c rest))

-- ---- its points
module _ (core : Box) where
  pub thin_each : (P : WholePoint → Type 0) (a b : WholePoint) (rest : List WholePoint) → P b → All P rest → All P (rest_of core a b rest)
  thin_each P a b [] h k = All-cons P b [] h (All-nil P)
  thin_each P a b (c ∷ rest) h k =
      let hc : P c = All-head P c rest k in
      let kc : All P rest = All-tail P c rest k in
      by_thinned (All P) core a b c rest (share_side core a b c) refl
      (λ e. thin_each P a c rest hc kc)
      (λ e. All-cons P b (rest_of core b c rest) h (thin_each P b c rest hc kc))

  pub thin_last : (x a b : WholePoint) (rest : List WholePoint) → last_of x (rest_of core a b rest) ≡ last_of b rest
  thin_last x a b [] = refl
  thin_last x a b (c ∷ rest) =
      by_thinned (λ xs. last_of x xs ≡ last_of c rest) core a b c rest (share_side core a b c) refl
      (λ e. thin_last x a c rest) (λ e. thin_last b b c rest)

  pub thin_few : (a b : WholePoint) (rest : List WholePoint) → length (rest_of core a b rest) ≤ length (b ∷ rest)
  thin_few a b [] = omega arith
  thin_few a b (c ∷ rest) =
      by_thinned (λ xs. length xs ≤ length (b ∷ c ∷ rest)) core a b c rest (share_side core a b c) refl
      (λ e. let k = thin_few a c rest in omega (arith, k)) (λ e. let k = thin_few b c rest in omega (arith, k))

  -- off the core on one side the last one alone is left
  pub thin_off : (side : Side) (a b : WholePoint) (rest : List WholePoint) → Lies core side a → Lies core side b → All (Lies core side) rest → rest_of core a b rest ≡ last_of b rest ∷ []
  thin_off side a b [] h k l = refl
  thin_off side a b (c ∷ rest) h k l =
      let lc : Lies core side c = All-head (Lies core side) c rest l in
      by_thinned (λ xs. xs ≡ last_of c rest ∷ []) core a b c rest (share_side core a b c) refl
      (λ e. thin_off side a c rest h lc (All-tail (Lies core side) c rest l))
      (λ e. absurd (never (share_side core a b c) (sharing core side a b c h k lc) e)) where
        never : (t : Bool) → t ≡ true → t ≡ false → ⊥
        never true e f = cc
        never false e f = cc
