-- The line that is drawn of a ring: it looks like all points clamped, and has their ends.
use Rattle.std.proofs.Common.{◌≡◌, ◌⊎◌, inl, inr, ℕ, suc, ℤ, pos, ◌+◌, ◌-◌, ◌≤◌, ◌<ℤ◌, refl, ap, sym, ◌∙◌, arith, true, false, Bool, ◌&&◌, ◌||◌, List, [], ◌∷◌, ◌++◌, length, append_assoc, map}
use Rattle.std.specs.Prelude.{int_lt, fold, Option, Some, None, All, slice_get}
use Rattle.std.specs.Ordering.{int_eq, ordering_reverse}
use Rattle.std.specs.declared.cmp.Ordering.{Ordering}
use Rattle.std.specs.declared.cmp.Ordering.TheVariants.{Less, Equal, Greater}
use Rattle.std.proofs.lemmas.Bool.{and_parts, and_from}
use Rattle.std.proofs.lemmas.Bool.Decides.{Decides-int_eq}
use Rattle.std.proofs.lemmas.List.{length-append, append-nil}
use Rattle.std.proofs.lemmas.List.Elements.{All-nil, All-cons, All-head, All-tail, All-append}
use Rattle.overlay_terms.specs.Plane.{WholePoint, Point, Segment, whole_cmp, same_whole, is_closed, ring_segments}
use Rattle.overlay_terms.proofs.InputNumbers.{lt_true}
use Rattle.overlay_terms.proofs.PointOrder.{whole_cmp_total}
use Rattle.map_window.specs.Window.{Box, Side, left_of, right_of, under, over, Lies, AreAlike}
use Rattle.map_window.specs.Drawn.{are_less, are_more, share_side, Line, points_of, added, ring_of}
use Rattle.map_window.proofs.Sides.{differ, differ_self, Aside, mark}
use Rattle.map_window.proofs.Steps.{SeesNothing, step, ring_segments-cons, parted, alike_self, alike_same, alike_through, alike-append, Seen, spared, last_of, line_seen}

-- ---- points that share a side
-- three points lie off a box on one side
pub record ShareSide (box : Box) (a b c : WholePoint) : Type 0 where
  pub side : Side
  pub first : Lies box side a
  pub second : Lies box side b
  pub third : Lies box side c

pub either : (x y : Bool) → (x || y) ≡ true → (x ≡ true) ⊎ (y ≡ true)
either true y e = inl refl
either false y e = inr e

three : (a b c d e f : ℤ) → (int_lt a b && int_lt c d && int_lt e f) ≡ true → (a <ℤ b) × (c <ℤ d) × (e <ℤ f)
three a b c d e f h =
    let outer = and_parts (int_lt a b && int_lt c d) (int_lt e f) h in
    let inner = and_parts (int_lt a b) (int_lt c d) outer.0 in
    (lt_true a b inner.0, lt_true c d inner.1, lt_true e f outer.1)

pub shared_side : (box : Box) (a b c : WholePoint) → share_side box a b c ≡ true → ShareSide box a b c
shared_side box a b c h = outer (either (l || r) (u || o) h) where
  l : Bool
  l = are_less a.x b.x c.x box.low_x

  r : Bool
  r = are_more box.high_x a.x b.x c.x

  u : Bool
  u = are_less a.y b.y c.y box.low_y

  o : Bool
  o = are_more box.high_y a.y b.y c.y

  first : (l ≡ true) ⊎ (r ≡ true) → ShareSide box a b c
  first (inl e) = let k = three a.x box.low_x b.x box.low_x c.x box.low_x e in record { side = left_of; first = k.0; second = k.1; third = k.2 }
  first (inr e) = let k = three box.high_x a.x box.high_x b.x box.high_x c.x e in record { side = right_of; first = k.0; second = k.1; third = k.2 }

  second : (u ≡ true) ⊎ (o ≡ true) → ShareSide box a b c
  second (inl e) = let k = three a.y box.low_y b.y box.low_y c.y box.low_y e in record { side = under; first = k.0; second = k.1; third = k.2 }
  second (inr e) = let k = three box.high_y a.y box.high_y b.y box.high_y c.y e in record { side = over; first = k.0; second = k.1; third = k.2 }

  outer : ((l || r) ≡ true) ⊎ ((u || o) ≡ true) → ShareSide box a b c
  outer (inl e) = first (either l r e)
  outer (inr e) = second (either u o e)

-- ---- one more point
-- what is so of both is so of the line with a point added
by_added : (P : Line → Type 0) (box : Box) (line : Line) (p : WholePoint) (b : Bool) → share_side box line.before line.last p ≡ b →
    (b ≡ true → P (record { done = line.done; before = line.before; last = p })) → P (record { done = line.done ++ line.before ∷ []; before = line.last; last = p }) → P (added box line p)
by_added P box line p true e f g = rw e (f refl)
by_added P box line p false e f g = rw e g

-- the points of the line with one kept, and what comes after it
kept_points : (line : Line) (p : WholePoint) (rest : List WholePoint) → ((line.done ++ line.before ∷ []) ++ line.last ∷ p ∷ []) ++ rest ≡ (line.done ++ line.before ∷ line.last ∷ []) ++ p ∷ rest
kept_points line p rest =
    append_assoc (line.done ++ line.before ∷ []) (line.last ∷ p ∷ []) rest ∙ append_assoc line.done (line.before ∷ []) (line.last ∷ p ∷ rest)
    ∙ sym (append_assoc line.done (line.before ∷ line.last ∷ []) (p ∷ rest))

module _ (box : Box) (q : Point) (positive : pos 0 <ℤ q.w) (aside : (side : Side) (a : WholePoint) → Lies box side a → Aside side q a) where
  -- a step in the place of two
  step_spared : (a b c : WholePoint) → ShareSide box a b c → AreAlike (step a c) q (step a b ++ step b c) q
  step_spared a b c s = spared s.side q positive a b c (aside s.side a s.first) (aside s.side b s.second) (aside s.side c s.third)

  pub tail_spared : (a b c : WholePoint) (rest : List WholePoint) → ShareSide box a b c → AreAlike (ring_segments (a ∷ c ∷ rest)) q (ring_segments (a ∷ b ∷ c ∷ rest)) q
  tail_spared a b c rest s =
      let long : ring_segments (a ∷ b ∷ c ∷ rest) ≡ (step a b ++ step b c) ++ ring_segments (c ∷ rest) =
      ring_segments-cons a b (c ∷ rest) ∙ ap (λ z. step a b ++ z) (ring_segments-cons b c rest) ∙ sym (append_assoc (step a b) (step b c) (ring_segments (c ∷ rest))) in
      rw (ring_segments-cons a c rest, long)
      (alike-append (step a c) (step a b ++ step b c) (ring_segments (c ∷ rest)) (ring_segments (c ∷ rest)) q q (step_spared a b c s) (alike_self (ring_segments (c ∷ rest)) q))

  line_spared : (done : List WholePoint) (a b c : WholePoint) (rest : List WholePoint) → ShareSide box a b c → AreAlike (ring_segments ((done ++ a ∷ c ∷ []) ++ rest)) q (ring_segments ((done ++ a ∷ b ∷ []) ++ c ∷ rest)) q
  line_spared done a b c rest s =
      let short : ring_segments ((done ++ a ∷ c ∷ []) ++ rest) ≡ ring_segments (done ++ a ∷ []) ++ ring_segments (a ∷ c ∷ rest) =
      ap ring_segments (append_assoc done (a ∷ c ∷ []) rest) ∙ parted done a (c ∷ rest) in
      let long : ring_segments ((done ++ a ∷ b ∷ []) ++ c ∷ rest) ≡ ring_segments (done ++ a ∷ []) ++ ring_segments (a ∷ b ∷ c ∷ rest) =
      ap ring_segments (append_assoc done (a ∷ b ∷ []) (c ∷ rest)) ∙ parted done a (b ∷ c ∷ rest) in
      rw (short, long)
      (alike-append (ring_segments (done ++ a ∷ [])) (ring_segments (done ++ a ∷ [])) (ring_segments (a ∷ c ∷ rest)) (ring_segments (a ∷ b ∷ c ∷ rest)) q q (alike_self (ring_segments (done ++ a ∷ [])) q) (tail_spared a b c rest s))

  added_alike : (line : Line) (p : WholePoint) (rest : List WholePoint) → AreAlike (ring_segments (points_of (added box line p) ++ rest)) q (ring_segments (points_of line ++ p ∷ rest)) q
  added_alike line p rest =
      by_added (λ z. AreAlike (ring_segments (points_of z ++ rest)) q (ring_segments (points_of line ++ p ∷ rest)) q) box line p (share_side box line.before line.last p) refl
      (λ e. line_spared line.done line.before line.last p rest (shared_side box line.before line.last p e))
      (alike_same (ring_segments (((line.done ++ line.before ∷ []) ++ line.last ∷ p ∷ []) ++ rest)) (ring_segments (points_of line ++ p ∷ rest)) q (ap ring_segments (kept_points line p rest)))

  -- a line with points added one by one looks like the line with all of them at its end
  pub all_added_alike : (f : WholePoint → WholePoint) (line : Line) (rest : List WholePoint) → AreAlike (ring_segments (points_of (fold (λ l a. added box l (f a)) line rest))) q (ring_segments (points_of line ++ map f rest)) q
  all_added_alike f line [] = alike_same (ring_segments (points_of line)) (ring_segments (points_of line ++ [])) q (ap ring_segments (sym (append-nil (points_of line))))
  all_added_alike f line (a ∷ rest) =
      alike_through (ring_segments (points_of (fold (λ l b. added box l (f b)) (added box line (f a)) rest))) (ring_segments (points_of (added box line (f a)) ++ map f rest)) (ring_segments (points_of line ++ f a ∷ map f rest)) q q q
      (all_added_alike f (added box line (f a)) rest) (added_alike line (f a) (map f rest))

-- ---- the ends
-- the first point of a line
abbrev pub first_of : Line → WholePoint
first_of line = head line.done where
  head : List WholePoint → WholePoint
  head [] = line.before
  head (a ∷ rest) = a

first_kept : (done : List WholePoint) (before last p : WholePoint) → first_of (record { done = done ++ before ∷ []; before = last; last = p }) ≡ first_of (record { done = done; before = before; last = last })
first_kept [] before last p = refl
first_kept (a ∷ rest) before last p = refl

first_spared : (done : List WholePoint) (before last p : WholePoint) → first_of (record { done = done; before = before; last = p }) ≡ first_of (record { done = done; before = before; last = last })
first_spared [] before last p = refl
first_spared (a ∷ rest) before last p = refl

module _ (box : Box) (f : WholePoint → WholePoint) where
  pub first_added : (line : Line) (rest : List WholePoint) → first_of (fold (λ l a. added box l (f a)) line rest) ≡ first_of line
  first_added line [] = refl
  first_added line (a ∷ rest) =
      first_added (added box line (f a)) rest
      ∙ by_added (λ z. first_of z ≡ first_of line) box line (f a) (share_side box line.before line.last (f a)) refl (λ e. first_spared line.done line.before line.last (f a)) (first_kept line.done line.before line.last (f a))

  pub last_added : (line : Line) (b : WholePoint) (rest : List WholePoint) → line.last ≡ f b → (fold (λ l a. added box l (f a)) line rest).last ≡ f (last_of b rest)
  last_added line b [] e = e
  last_added line b (a ∷ rest) e =
      last_added (added box line (f a)) a rest (by_added (λ z. z.last ≡ f a) box line (f a) (share_side box line.before line.last (f a)) refl (λ e. refl) refl)

  -- as many points as there were, at most
  pub length_added : (line : Line) (rest : List WholePoint) → length (points_of (fold (λ l a. added box l (f a)) line rest)) ≤ length (points_of line) + length rest
  length_added line [] = omega arith
  length_added line (a ∷ rest) =
      let more : length (points_of (added box line (f a))) ≤ length (points_of line) + 1 =
      by_added (λ z. length (points_of z) ≤ length (points_of line) + 1) box line (f a) (share_side box line.before line.last (f a)) refl (λ e. simp length-append (omega arith)) (simp length-append (omega arith)) in
      let rest_of = length_added (added box line (f a)) rest in
      omega arith

-- each point of a line has a property
pub record EachPoint (P : WholePoint → Type 0) (line : Line) : Type 0 where
  pub done : All P line.done
  pub before : P line.before
  pub last : P line.last

pub each_added : (P : WholePoint → Type 0) (box : Box) (f : WholePoint → WholePoint) (line : Line) (rest : List WholePoint) → EachPoint P line → All (λ a. P (f a)) rest → EachPoint P (fold (λ l a. added box l (f a)) line rest)
each_added P box f line [] h k = h
each_added P box f line (a ∷ rest) h k =
    let here : P (f a) = All-head (λ b. P (f b)) a rest k in
    each_added P box f (added box line (f a)) rest
    (by_added (EachPoint P) box line (f a) (share_side box line.before line.last (f a)) refl
    (λ e. record { done = h.done; before = h.before; last = here })
    (record { done = All-append P line.done (line.before ∷ []) h.done (All-cons P line.before [] h.before (All-nil P)); before = h.last; last = here }))
    (All-tail (λ b. P (f b)) a rest k)

-- ---- the ring of a line
-- the segments of a ring, if there is one
abbrev pub segments_if : Option (List WholePoint) → List Segment
segments_if None = []
segments_if (Some ring) = ring_segments ring

nowhere_by : (a : WholePoint) (o : Ordering) → whole_cmp a a ≡ o → o ≡ ordering_reverse o → step a a ≡ []
nowhere_by a Less e g = absurd (cc)
nowhere_by a Equal e g = rw e refl
nowhere_by a Greater e g = absurd (cc)

-- a step from a point to itself has no segment
pub nowhere : (a : WholePoint) → step a a ≡ []
nowhere a = nowhere_by a (whole_cmp a a) refl (whole_cmp_total.antisymm a a)

-- the last point of a line twice
twice_last : (xs : List WholePoint) (a : WholePoint) → ring_segments (xs ++ a ∷ a ∷ []) ≡ ring_segments (xs ++ a ∷ [])
twice_last xs a = parted xs a (a ∷ []) ∙ ap (λ z. ring_segments (xs ++ a ∷ []) ++ z) (nowhere a) ∙ append-nil (ring_segments (xs ++ a ∷ []))

-- the ring of a line whose ends are one looks like the line
pub ring_alike : (done : List WholePoint) (before last : WholePoint) (q : Point) → first_of (record { done = done; before = before; last = last }) ≡ last → AreAlike (segments_if (ring_of done before last)) q (ring_segments (done ++ before ∷ last ∷ [])) q
ring_alike [] before last q e = alike_same [] (step before last) q (sym (ap (λ a. step a last) e ∙ nowhere last))
ring_alike (a ∷ []) before last q e = alike_same (ring_segments (a ∷ before ∷ last ∷ last ∷ [])) (ring_segments (a ∷ before ∷ last ∷ [])) q (twice_last (a ∷ before ∷ []) last)
ring_alike (a ∷ b ∷ done) before last q e = alike_self (ring_segments (a ∷ b ∷ done ++ before ∷ last ∷ [])) q

-- ---- lines on one side of a point, and rings
last_at_end : (a b c : WholePoint) (xs : List WholePoint) → last_of a (xs ++ b ∷ c ∷ []) ≡ c
last_at_end a b c [] = refl
last_at_end a b c (x ∷ xs) = last_at_end x b c xs

-- what is seen of a line whose ends are one
pub ends_meet : (side : Side) (q : Point) (a b : WholePoint) (xs : List Segment) → a ≡ b → Seen side q a b xs → SeesNothing xs q
ends_meet side q a b xs e s = record { inside = s.inside ∙ ap (λ p. differ (mark side q p) (mark side q b)) e ∙ differ_self (mark side q b); edge = s.edge }

-- nothing is seen of a line on one side whose ends are one
pub nothing_of_line : (side : Side) (q : Point) → pos 0 <ℤ q.w → (done : List WholePoint) (before last : WholePoint) → EachPoint (Aside side q) (record { done = done; before = before; last = last })
    → first_of (record { done = done; before = before; last = last }) ≡ last → SeesNothing (ring_segments (done ++ before ∷ last ∷ [])) q
nothing_of_line side q positive [] before last each e =
    ends_meet side q before last (ring_segments (before ∷ last ∷ [])) e
    (line_seen side q positive before (last ∷ []) each.before (All-cons (Aside side q) last [] each.last (All-nil (Aside side q))))
nothing_of_line side q positive (a ∷ done) before last each e =
    ends_meet side q a (last_of a (done ++ before ∷ last ∷ [])) (ring_segments (a ∷ done ++ before ∷ last ∷ [])) (e ∙ sym (last_at_end a before last done))
    (line_seen side q positive a (done ++ before ∷ last ∷ []) (All-head (Aside side q) a done each.done)
    (All-append (Aside side q) done (before ∷ last ∷ []) (All-tail (Aside side q) a done each.done)
    (All-cons (Aside side q) before (last ∷ []) each.before (All-cons (Aside side q) last [] each.last (All-nil (Aside side q))))))

-- the last of some points is where their number says
last_is : (a : WholePoint) (rest : List WholePoint) → slice_get (a ∷ rest) (length rest) ≡ Some (last_of a rest)
last_is a [] = refl
last_is a (b ∷ rest) = last_is b rest

one_less : (n : ℕ) → suc n - 1 ≡ n
one_less n = omega arith

-- what the test of a closed ring compares
pub closed_is : (a : WholePoint) (rest : List WholePoint) → is_closed (a ∷ rest) ≡ same_whole a (last_of a rest)
closed_is a rest = rw (one_less (length rest), last_is a rest) refl

pub same_self : (a : WholePoint) → same_whole a a ≡ true
same_self a = and_from (int_eq a.x a.x) (int_eq a.y a.y) ((Decides-int_eq a.x a.x).1 refl) ((Decides-int_eq a.y a.y).1 refl)

closed_by : (a : WholePoint) (rest : List WholePoint) → a ≡ last_of a rest → is_closed (a ∷ rest) ≡ true
closed_by a rest e = closed_is a rest ∙ ap (λ p. same_whole p (last_of a rest)) e ∙ same_self (last_of a rest)

-- a ring as a base layer may have it, with no more points than so many
pub record IsSound (most : ℕ) (ring : List WholePoint) : Type 0 where
  pub closed : is_closed ring ≡ true
  pub long : 4 ≤ length ring
  pub few : length ring ≤ most

-- each ring that there is is so
abbrev pub SoundIf : ℕ → Option (List WholePoint) → Type 0
SoundIf most None = Unit {0}
SoundIf most (Some ring) = IsSound most ring

pub ring_sound : (most : ℕ) (done : List WholePoint) (before last : WholePoint) → 4 ≤ most → length (done ++ before ∷ last ∷ []) ≤ most
    → first_of (record { done = done; before = before; last = last }) ≡ last → SoundIf most (ring_of done before last)
ring_sound most [] before last m n e = tt
ring_sound most (a ∷ []) before last m n e = record { closed = closed_by a (before ∷ last ∷ last ∷ []) e; long = omega arith; few = m }
ring_sound most (a ∷ b ∷ done) before last m n e = record {
  closed = closed_by a (b ∷ done ++ before ∷ last ∷ []) (e ∙ sym (last_at_end b before last done));
  long = simp length-append (omega arith);
  few = n;
}
