-- What is left of a line, and what is drawn of it.
use Rattle.std.proofs.Common.{◌≡◌, pos, ◌<ℤ◌, refl, ap, sym, ◌∙◌, arith, true, List, [], ◌∷◌, length, map}
use Rattle.std.specs.Prelude.{All, Contains}
use Rattle.std.specs.Ordering.{ordering_reverse}
use Rattle.std.specs.declared.cmp.Ordering.{Ordering}
use Rattle.std.specs.declared.cmp.Ordering.TheVariants.{Less, Equal, Greater}
use Rattle.std.proofs.lemmas.List.Elements.{All-nil, All-cons, All-head, All-tail, All-same, All-append, All-weaker, All-contains_itself}
use Rattle.overlay_terms.specs.Plane.{WholePoint, Point, InRange, is_closed, is_inside, same_whole, whole_cmp, ring_segments}
use Rattle.overlay_terms.specs.TileLaws.{IsProper}
use Rattle.overlay_terms.specs.Laws.{is_on_any}
use Rattle.overlay_terms.proofs.PointOrder.{same_points, whole_cmp_total}
use Rattle.map_window.specs.Window.{Box, Side, IsIn, IsOff, Lies, StaysWithin, AreAlike, moved, whole_moved}
use Rattle.map_window.specs.Drawn.{are_short, clamped, into, placed}
use Rattle.map_window.proofs.Sides.{Aside}
use Rattle.map_window.proofs.Steps.{SeesNothing, step, ring_segments-cons, last_of, line_seen}
use Rattle.map_window.proofs.Moves.{line_moved}
use Rattle.map_window.proofs.Lines.{closed_is, same_self, nowhere, ends_meet}
use Rattle.map_window.proofs.Frames.{IsFramed, stays_still, across, seen_across}
use Rattle.map_window.proofs.Maps.{line_clamped, map_twice}
use Rattle.near_steps.specs.Cores.{fits, low_of, plane_of}
use Rattle.near_steps.specs.Thinned.{rest_of, thinned, IsReduced}
use Rattle.near_steps.specs.Drawn.{IsClosed, LiesOff, line_drawn}
use Rattle.near_steps.proofs.CoreLemmas.{clamped_reach, framed_core, whole_part}
use Rattle.near_steps.proofs.ThinLemmas.{thin_alike, thin_short, thin_each, thin_last, thin_few, thin_off}

-- a closed ring ends where it begins
meets : (a b : WholePoint) (rest : List WholePoint) → is_closed (a ∷ b ∷ rest) ≡ true → a ≡ last_of b rest
meets a b rest e = same_points a (last_of b rest) (sym (closed_is a (b ∷ rest)) ∙ e)

closed_still : (core : Box) (a b : WholePoint) (rest : List WholePoint) → is_closed (a ∷ b ∷ rest) ≡ true → is_closed (a ∷ rest_of core a b rest) ≡ true
closed_still core a b rest e =
    closed_is a (rest_of core a b rest) ∙ ap (λ p. same_whole a p) (thin_last core a a b rest ∙ sym (meets a b rest e)) ∙ same_self a

-- ---- what is left of a line
pub reduced : (core : Box) (points : List WholePoint) → IsReduced core points (thinned core points)
reduced core [] = record {
  shows = λ q positive here. record { inside = refl; edge = refl };
  short = λ part inside. refl;
  closed = λ e. e;
  among = All-contains_itself [];
  few = omega arith;
  off = λ side all. omega arith;
}
reduced core (a ∷ []) = record {
  shows = λ q positive here. record { inside = refl; edge = refl };
  short = λ part inside. refl;
  closed = λ e. e;
  among = All-contains_itself (a ∷ []);
  few = omega arith;
  off = λ side all. omega arith;
}
reduced core (a ∷ b ∷ rest) = record {
  shows = λ q positive here. thin_alike core q positive here a b rest;
  short = λ part inside. thin_short part core (plane_of part) inside a b rest;
  closed = closed_still core a b rest;
  among =
      let own = All-contains_itself (a ∷ b ∷ rest) in
      let others = All-tail (Contains (a ∷ b ∷ rest)) a (b ∷ rest) own in
      All-cons (Contains (a ∷ b ∷ rest)) a (rest_of core a b rest) (All-head (Contains (a ∷ b ∷ rest)) a (b ∷ rest) own)
      (thin_each core (Contains (a ∷ b ∷ rest)) a b rest (All-head (Contains (a ∷ b ∷ rest)) b rest others) (All-tail (Contains (a ∷ b ∷ rest)) b rest others));
  few = let k = thin_few core a b rest in omega (arith, k);
  off = λ side all.
      let others = All-tail (Lies core side) a (b ∷ rest) all in
      let k : length (rest_of core a b rest) ≡ 1 =
      ap length (thin_off core side a b rest (All-head (Lies core side) a (b ∷ rest) all) (All-head (Lies core side) b rest others) (All-tail (Lies core side) b rest others)) in
      omega (arith, k);
}

-- ---- what is drawn of it
map_each : (f : WholePoint → WholePoint) (P : WholePoint → Type 0) (xs : List WholePoint) → All (λ a. P (f a)) xs → All P (map f xs)
map_each f P [] all = All-nil P
map_each f P (x ∷ xs) all = All-cons P (f x) (map f xs) (All-head (λ a. P (f a)) x xs all) (map_each f P xs (All-tail (λ a. P (f a)) x xs all))

last_made : (f : WholePoint → WholePoint) (a : WholePoint) (xs : List WholePoint) → last_of (f a) (map f xs) ≡ f (last_of a xs)
last_made f a [] = refl
last_made f a (x ∷ xs) = last_made f x xs

-- ---- segments of points in the plane
abbrev pub IsPlaced : WholePoint → Type 0
IsPlaced p = InRange p.x × InRange p.y

step_proper : (a b : WholePoint) (o : Ordering) → whole_cmp a b ≡ o → IsPlaced a → IsPlaced b → All IsProper (step a b)
step_proper a b Less e h k =
    let same : step a b ≡ record { left = a; right = b } ∷ [] = rw e refl in
    All-same IsProper _ _ same (All-cons IsProper (record { left = a; right = b }) [] (record { first = e; left_x = h.0; left_y = h.1; right_x = k.0; right_y = k.1 }) (All-nil IsProper))
step_proper a b Equal e h k =
    let same : step a b ≡ [] = rw e refl in
    All-same IsProper _ _ same (All-nil IsProper)
step_proper a b Greater e h k =
    let same : step a b ≡ record { left = b; right = a } ∷ [] = rw e refl in
    let back : whole_cmp b a ≡ Less = whole_cmp_total.antisymm b a ∙ ap ordering_reverse e in
    All-same IsProper _ _ same (All-cons IsProper (record { left = b; right = a }) [] (record { first = back; left_x = k.0; left_y = k.1; right_x = h.0; right_y = h.1 }) (All-nil IsProper))

pub line_proper : (points : List WholePoint) → All IsPlaced points → All IsProper (ring_segments points)
line_proper [] all = All-nil IsProper
line_proper (a ∷ []) all = All-nil IsProper
line_proper (a ∷ b ∷ rest) all =
    let others : All IsPlaced (b ∷ rest) = All-tail IsPlaced a (b ∷ rest) all in
    All-same IsProper _ _ (ring_segments-cons a b rest)
    (All-append IsProper (step a b) (ring_segments (b ∷ rest)) (step_proper a b (whole_cmp a b) refl (All-head IsPlaced a (b ∷ rest) all) (All-head IsPlaced b rest others)) (line_proper (b ∷ rest) others))

module _ (core : Box) (fit : fits core ≡ true) where
  abbrev made : WholePoint → WholePoint
  made = placed (plane_of core) (low_of core)

  framed : IsFramed core (plane_of core)
  framed = framed_core core fit

  line_shown : (a b : WholePoint) (rest : List WholePoint) → are_short core (plane_of core) (a ∷ b ∷ rest) ≡ true → (q : Point) → pos 0 <ℤ q.w → IsIn core q
      → AreAlike (line_drawn core (a ∷ rest_of core a b rest)) (moved (low_of core) q) (ring_segments (a ∷ b ∷ rest)) q
  line_shown a b rest short q positive here =
      let line : List WholePoint = a ∷ rest_of core a b rest in
      let same : line_drawn core line ≡ ring_segments (map (whole_moved (low_of core)) (map (into (plane_of core)) line)) =
      ap ring_segments (map_twice (into (plane_of core)) (whole_moved (low_of core)) line) in
      let one = line_moved (low_of core) (map (into (plane_of core)) line) q in
      let two = line_clamped core (plane_of core) framed q positive here a (rest_of core a b rest) (thin_short core core (plane_of core) (whole_part core) a b rest ∙ short) in
      let three = thin_alike core q positive here a b rest in
      record {
        inside = ap (λ z. is_inside z (moved (low_of core) q)) same ∙ one.inside ∙ two.inside ∙ three.inside;
        edge = ap (λ z. is_on_any z (moved (low_of core) q)) same ∙ one.edge ∙ two.edge ∙ three.edge;
      }

  -- what is drawn of a closed ring ends where it begins
  still_meets : (a b : WholePoint) (rest : List WholePoint) → is_closed (a ∷ b ∷ rest) ≡ true → made a ≡ last_of (made a) (map made (rest_of core a b rest))
  still_meets a b rest closed =
      ap made (meets a b rest closed ∙ sym (thin_last core a a b rest)) ∙ sym (last_made made a (rest_of core a b rest))

  line_nothing : (a b : WholePoint) (rest : List WholePoint) (side : Side) (q : Point) → pos 0 <ℤ q.w → is_closed (a ∷ b ∷ rest) ≡ true → All (StaysWithin core side) (a ∷ b ∷ rest) → IsOff core side q
      → SeesNothing (line_drawn core (a ∷ rest_of core a b rest)) (moved (low_of core) q)
  line_nothing a b rest side q positive closed all off =
      let P : WholePoint → Type 0 = StaysWithin core side in
      let A : WholePoint → Type 0 = Aside (across side) (moved (low_of core) q) in
      let others = All-tail P a (b ∷ rest) all in
      let there : (p : WholePoint) → P p → A (made p) =
      λ p s. seen_across core side (low_of core) q (into (plane_of core) p) positive (stays_still core (plane_of core) framed side p s) off in
      let kept : All P (rest_of core a b rest) = thin_each core P a b rest (All-head P b rest others) (All-tail P b rest others) in
      let seen = line_seen (across side) (moved (low_of core) q) positive (made a) (map made (rest_of core a b rest)) (there a (All-head P a (b ∷ rest) all))
      (map_each made A (rest_of core a b rest) (All-weaker P (λ p. A (made p)) there (rest_of core a b rest) kept)) in
      ends_meet (across side) (moved (low_of core) q) (made a) (last_of (made a) (map made (rest_of core a b rest))) (line_drawn core (a ∷ rest_of core a b rest)) (still_meets a b rest closed) seen

  line_off : (a b : WholePoint) (rest : List WholePoint) (side : Side) → is_closed (a ∷ b ∷ rest) ≡ true → All (Lies core side) (a ∷ b ∷ rest) → line_drawn core (a ∷ rest_of core a b rest) ≡ []
  line_off a b rest side closed all =
      let others = All-tail (Lies core side) a (b ∷ rest) all in
      let alone = thin_off core side a b rest (All-head (Lies core side) a (b ∷ rest) all) (All-head (Lies core side) b rest others) (All-tail (Lies core side) b rest others) in
      ap (λ xs. line_drawn core (a ∷ xs)) alone ∙ ap (λ p. step (made a) (made p)) (sym (meets a b rest closed)) ∙ nowhere (made a)

  -- ---- any line
  pub shown : (points : List WholePoint) → are_short core (plane_of core) points ≡ true → (q : Point) → pos 0 <ℤ q.w → IsIn core q
      → AreAlike (line_drawn core (thinned core points)) (moved (low_of core) q) (ring_segments points) q
  shown [] short q positive here = record { inside = refl; edge = refl }
  shown (a ∷ []) short q positive here = record { inside = refl; edge = refl }
  shown (a ∷ b ∷ rest) short q positive here = line_shown a b rest short q positive here

  pub nothing : (points : List WholePoint) (side : Side) (q : Point) → pos 0 <ℤ q.w → IsClosed points → All (StaysWithin core side) points → IsOff core side q
      → SeesNothing (line_drawn core (thinned core points)) (moved (low_of core) q)
  nothing [] side q positive closed all off = record { inside = refl; edge = refl }
  nothing (a ∷ []) side q positive closed all off = record { inside = refl; edge = refl }
  nothing (a ∷ b ∷ rest) side q positive closed all off = line_nothing a b rest side q positive closed all off

  pub none : (points : List WholePoint) → IsClosed points → LiesOff core points → line_drawn core (thinned core points) ≡ []
  none [] closed off = refl
  none (a ∷ []) closed off = refl
  none (a ∷ b ∷ rest) closed off = line_off a b rest off.side closed off.points

  pub still_closed : (points : List WholePoint) → IsClosed points → IsClosed (map made (thinned core points))
  still_closed [] closed = closed
  still_closed (a ∷ []) closed = closed_is (made a) [] ∙ same_self (made a)
  still_closed (a ∷ b ∷ rest) closed =
      closed_is (made a) (map made (rest_of core a b rest)) ∙ ap (λ p. same_whole (made a) p) (sym (still_meets a b rest closed)) ∙ same_self (made a)

  -- ---- its segments are proper
  made_placed : (a : WholePoint) → IsPlaced (made a)
  made_placed a =
      let plane = plane_of core in
      (clamped_reach core.low_x a.x (clamped plane.low_x plane.high_x a.x) refl, clamped_reach core.low_y a.y (clamped plane.low_y plane.high_y a.y) refl)

  all_placed : (points : List WholePoint) → All IsPlaced (map made points)
  all_placed [] = All-nil IsPlaced
  all_placed (a ∷ points) = All-cons IsPlaced (made a) (map made points) (made_placed a) (all_placed points)

  pub proper_line : (points : List WholePoint) → All IsProper (line_drawn core points)
  proper_line points = line_proper (map made points) (all_placed points)
