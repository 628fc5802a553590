-- What is drawn of a map: each ring, and all rings together.
use Rattle.std.proofs.Common.{◌≡◌, ◌⊎◌, inl, inr, ℕ, ℤ, pos, ◌+◌, ◌-◌, ◌≤◌, ◌<ℤ◌, refl, ap, sym, ◌∙◌, arith, true, false, Bool, ◌&&◌, List, [], ◌∷◌, ◌++◌, length, map, Option, Some, None}
use Rattle.std.specs.Prelude.{fold, All, nat_lt, nat_le, if◌then◌else◌, Result, Err, IfSome, IsNone, IsErrOf, IsOkUnless}
use Rattle.std.specs.List.{cons_option}
use Rattle.std.specs.Option.{option_or, option_map}
use Rattle.std.proofs.lemmas.Bool.{and_parts, ltb-false}
use Rattle.std.proofs.lemmas.Bool.Decides.{nat_tests}
use Rattle.std.proofs.lemmas.List.Elements.{All-nil, All-cons, All-head, All-tail, All-weaker}
use Rattle.std.proofs.lemmas.List.Sums.{sum_by-cons}
use Rattle.overlay_terms.specs.Plane.{WholePoint, Point, is_closed, ring_segments, segments_of, ring_step_count, steps_max, is_inside}
use Rattle.overlay_terms.specs.Laws.{is_on_any}
use Rattle.overlay_terms.proofs.Options.{both_absent}
use Rattle.overlay_terms.proofs.PointOrder.{same_points}
use Rattle.plane_base.specs.BaseLayer.{ring_fault, first_ring_fault, rings_fault}
use Rattle.plane_base.specs.declared.fault.PlaneFault.{PlaneFault}
use Rattle.plane_base.specs.declared.fault.PlaneFault.TheVariants.{RingOpen, RingShort, TooManySegments, OutOfMemory}
use Rattle.map_window.specs.Window.{Box, IsIn, Side, AreAlike, StaysWithin, Shows, NothingBeyond, NothingOff, whole_moved, moved}
use Rattle.map_window.specs.Drawn.{is_framed, lies_in_plane, share_side, is_held, is_short, are_short, into, placed, box_moved, Line, points_of, extended, ring_drawn, rings_drawn}
use Rattle.map_window.specs.Fault.{first_long_ring, window_fault, of_plane}
use Rattle.map_window.specs.declared.fault.WindowFault.TheVariants as window
use Rattle.map_window.specs.declared.fault.WindowFault.{WindowFault}
use Rattle.map_window.specs.declared.fault.WindowFault.TheVariants.{CoreOffFrame, FrameOffPlane, StepTooLong, Plane}
use Rattle.map_window.proofs.Sides.{Aside, differ, mark}
use Rattle.map_window.proofs.Steps.{SeesNothing, step, ring_segments-cons, alike_same, alike-append, nothing-append, nothing_alike, seen, last_of}
use Rattle.map_window.proofs.Moves.{line_moved}
use Rattle.map_window.proofs.Lines.{ShareSide, shared_side, either, all_added_alike, first_of, first_added, last_added, length_added, EachPoint, each_added, segments_if, ring_alike, nothing_of_line, closed_is, IsSound, SoundIf, ring_sound}
use Rattle.map_window.proofs.Frames.{IsFramed, framed, held, lies_still, stays_still, stays_framed, aside, in_moved, across, seen_across, mark_still}

-- ---- clamped lines
module _ (core frame : Box) (f : IsFramed core frame) (q : Point) (positive : pos 0 <ℤ q.w) (here : IsIn core q) where
  beside_clamped : (a b : WholePoint) → ShareSide core a b b → AreAlike (step (into frame a) (into frame b)) q (step a b) q
  beside_clamped a b s =
      let new = seen s.side q positive (into frame a) (into frame b) (aside core s.side q (into frame a) positive here (lies_still core frame f s.side a s.first)) (aside core s.side q (into frame b) positive here (lies_still core frame f s.side b s.second)) in
      let old = seen s.side q positive a b (aside core s.side q a positive here s.first) (aside core s.side q b positive here s.second) in
      record {
        inside =
            new.inside ∙ ap (λ m. differ m (mark s.side q (into frame b))) (mark_still core frame f q positive here s.side a)
            ∙ ap (λ m. differ (mark s.side q a) m) (mark_still core frame f q positive here s.side b) ∙ sym old.inside;
        edge = new.edge ∙ sym old.edge;
      }

  step_by : (a b : WholePoint) → (share_side core a b b ≡ true) ⊎ ((is_held frame a && is_held frame b) ≡ true) → AreAlike (step (into frame a) (into frame b)) q (step a b) q
  step_by a b (inl e) = beside_clamped a b (shared_side core a b b e)
  step_by a b (inr e) =
      let k = and_parts (is_held frame a) (is_held frame b) e in
      alike_same (step (into frame a) (into frame b)) (step a b) q (λ i. step (held frame a k.0 i) (held frame b k.1 i))

  -- a line of short steps, clamped
  pub line_clamped : (a : WholePoint) (rest : List WholePoint) → are_short core frame (a ∷ rest) ≡ true → AreAlike (ring_segments (map (into frame) (a ∷ rest))) q (ring_segments (a ∷ rest)) q
  line_clamped a [] e = record { inside = refl; edge = refl }
  line_clamped a (b ∷ rest) e =
      let k = and_parts (is_short core frame a b) (are_short core frame (b ∷ rest)) e in
      rw (ring_segments-cons a b rest, ring_segments-cons (into frame a) (into frame b) (map (into frame) rest))
      (alike-append (step (into frame a) (into frame b)) (step a b) (ring_segments (map (into frame) (b ∷ rest))) (ring_segments (b ∷ rest)) q q
      (step_by a b (either (share_side core a b b) (is_held frame a && is_held frame b) k.0)) (line_clamped b rest k.1))

-- ---- one ring
pub map_twice : (f g : WholePoint → WholePoint) (xs : List WholePoint) → map (λ a. g (f a)) xs ≡ map g (map f xs)
map_twice f g [] = refl
map_twice f g (x ∷ xs) = ap (λ ys. g (f x) ∷ ys) (map_twice f g xs)

-- what is drawn of a ring of the map
pub record IsDrawn (core frame : Box) (o : WholePoint) (ring : List WholePoint) (drawn : Option (List WholePoint)) : Type 0 where
  pub shows : (q : Point) → pos 0 <ℤ q.w → IsIn core q → AreAlike (segments_if drawn) (moved o q) (ring_segments ring) q
  pub nothing : (side : Side) (q : Point) → pos 0 <ℤ q.w → All (λ a. Aside side (moved o q) (placed frame o a)) ring → SeesNothing (segments_if drawn) (moved o q)
  pub sound : SoundIf (length ring) drawn

-- the line that is drawn of a ring of two points at least
abbrev line_drawn : Box → Box → WholePoint → WholePoint → WholePoint → List WholePoint → Line
line_drawn core frame o a b rest = fold (extended (box_moved o core) frame o) (record { done = []; before = placed frame o a; last = placed frame o b }) rest

module _ (core frame : Box) (o : WholePoint) (f : IsFramed core frame) (a b : WholePoint) (rest : List WholePoint) (closed : is_closed (a ∷ b ∷ rest) ≡ true) where
  -- a ring ends where it begins, and so does what is drawn of it
  meets : a ≡ last_of b rest
  meets = same_points a (last_of b rest) (sym (closed_is a (b ∷ rest)) ∙ closed)

  ends : first_of (line_drawn core frame o a b rest) ≡ (line_drawn core frame o a b rest).last
  ends =
      first_added (box_moved o core) (placed frame o) (record { done = []; before = placed frame o a; last = placed frame o b }) rest ∙ ap (placed frame o) meets
      ∙ sym (last_added (box_moved o core) (placed frame o) (record { done = []; before = placed frame o a; last = placed frame o b }) b rest refl)

  drawn_alike : (q : Point) → AreAlike (segments_if (ring_drawn (box_moved o core) frame o (a ∷ b ∷ rest))) q (ring_segments (points_of (line_drawn core frame o a b rest))) q
  drawn_alike q = let l = line_drawn core frame o a b rest in ring_alike l.done l.before l.last q ends

  ring_shown : are_short core frame (a ∷ b ∷ rest) ≡ true → (q : Point) → pos 0 <ℤ q.w → IsIn core q → AreAlike (segments_if (ring_drawn (box_moved o core) frame o (a ∷ b ∷ rest))) (moved o q) (ring_segments (a ∷ b ∷ rest)) q
  ring_shown short q positive here =
      let one = drawn_alike (moved o q) in
      let two = all_added_alike (box_moved o core) (moved o q) positive (λ side p l. aside (box_moved o core) side (moved o q) p positive (in_moved core o q here) l) (placed frame o) (record { done = []; before = placed frame o a; last = placed frame o b }) rest in
      let same : ring_segments (placed frame o a ∷ placed frame o b ∷ map (placed frame o) rest) ≡ ring_segments (map (whole_moved o) (map (into frame) (a ∷ b ∷ rest))) =
      ap (λ xs. ring_segments (placed frame o a ∷ placed frame o b ∷ xs)) (map_twice (into frame) (whole_moved o) rest) in
      let three = line_moved o (map (into frame) (a ∷ b ∷ rest)) q in
      let four = line_clamped core frame f q positive here a (b ∷ rest) short in
      record {
        inside = one.inside ∙ two.inside ∙ ap (λ z. is_inside z (moved o q)) same ∙ three.inside ∙ four.inside;
        edge = one.edge ∙ two.edge ∙ ap (λ z. is_on_any z (moved o q)) same ∙ three.edge ∙ four.edge;
      }

  ring_nothing : (side : Side) (q : Point) → pos 0 <ℤ q.w → All (λ p. Aside side (moved o q) (placed frame o p)) (a ∷ b ∷ rest) → SeesNothing (segments_if (ring_drawn (box_moved o core) frame o (a ∷ b ∷ rest))) (moved o q)
  ring_nothing side q positive all =
      let l = line_drawn core frame o a b rest in
      let others = All-tail (λ p. Aside side (moved o q) (placed frame o p)) a (b ∷ rest) all in
      let each : EachPoint (Aside side (moved o q)) l =
      each_added (Aside side (moved o q)) (box_moved o core) (placed frame o) (record { done = []; before = placed frame o a; last = placed frame o b }) rest
      (record { done = All-nil (Aside side (moved o q)); before = All-head (λ p. Aside side (moved o q) (placed frame o p)) a (b ∷ rest) all; last = All-head (λ p. Aside side (moved o q) (placed frame o p)) b rest others })
      (All-tail (λ p. Aside side (moved o q) (placed frame o p)) b rest others) in
      nothing_alike (segments_if (ring_drawn (box_moved o core) frame o (a ∷ b ∷ rest))) (ring_segments (points_of l)) (moved o q) (moved o q) (drawn_alike (moved o q))
      (nothing_of_line side (moved o q) positive l.done l.before l.last each ends)

  ring_valid : 4 ≤ length (a ∷ b ∷ rest) → SoundIf (length (a ∷ b ∷ rest)) (ring_drawn (box_moved o core) frame o (a ∷ b ∷ rest))
  ring_valid long =
      let l = line_drawn core frame o a b rest in
      let few = length_added (box_moved o core) (placed frame o) (record { done = []; before = placed frame o a; last = placed frame o b }) rest in
      ring_sound (length (a ∷ b ∷ rest)) l.done l.before l.last long (omega (arith, few)) ends

each_ring : (core frame : Box) (o : WholePoint) (ring : List WholePoint) → IsFramed core frame → 4 ≤ length ring → is_closed ring ≡ true → are_short core frame ring ≡ true → IsDrawn core frame o ring (ring_drawn (box_moved o core) frame o ring)
each_ring core frame o [] f long closed short = absurd (omega arith)
each_ring core frame o (a ∷ []) f long closed short = absurd (omega arith)
each_ring core frame o (a ∷ b ∷ rest) f long closed short = record {
  shows = ring_shown core frame o f a b rest closed short;
  nothing = ring_nothing core frame o f a b rest closed;
  sound = ring_valid core frame o f a b rest closed long;
}

-- ---- all rings
-- what is drawn of a map
pub record IsMapDrawn (core frame : Box) (o : WholePoint) (rings layer : List (List WholePoint)) : Type 0 where
  pub shows : Shows core o rings layer
  pub nothing : (side : Side) (q : Point) → pos 0 <ℤ q.w → All (All (λ a. Aside side (moved o q) (placed frame o a))) rings → SeesNothing (segments_of layer) (moved o q)
  pub valid : (at : ℕ) → first_ring_fault at layer ≡ None
  pub few : ring_step_count layer ≤ ring_step_count rings

segments_kept : (drawn : Option (List WholePoint)) (layer : List (List WholePoint)) → segments_of (cons_option drawn layer) ≡ segments_if drawn ++ segments_of layer
segments_kept None layer = refl
segments_kept (Some ring) layer = refl

not_few : (n : ℕ) → 4 ≤ n → nat_lt n 4 ≡ false
not_few n h = grind (arith, nat_tests)

no_fault : (at most : ℕ) (ring : List WholePoint) → IsSound most ring → ring_fault at ring ≡ None
no_fault at most ring h = rw (not_few (length ring) h.long, h.closed) refl

valid_kept : (at most : ℕ) (drawn : Option (List WholePoint)) (layer : List (List WholePoint)) → SoundIf most drawn → ((at : ℕ) → first_ring_fault at layer ≡ None) → first_ring_fault at (cons_option drawn layer) ≡ None
valid_kept at most None layer h k = k at
valid_kept at most (Some ring) layer h k = rw (no_fault at most ring h, k (at + 1)) refl

few_kept : (ring : List WholePoint) (drawn : Option (List WholePoint)) (rings layer : List (List WholePoint)) → SoundIf (length ring) drawn → ring_step_count layer ≤ ring_step_count rings → ring_step_count (cons_option drawn layer) ≤ ring_step_count (ring ∷ rings)
few_kept ring None rings layer h k = let more = sum_by-cons (λ (r : List WholePoint). length r - 1) ring rings in omega (arith, more)
few_kept ring (Some made) rings layer h k =
    let more = sum_by-cons (λ (r : List WholePoint). length r - 1) ring rings in
    let mine = sum_by-cons (λ (r : List WholePoint). length r - 1) made layer in
    let most = h.few in
    omega (arith, more, mine)

-- a ring without a fault
good_by : (ring : List WholePoint) (at : ℕ) (short closed : Bool) → nat_lt (length ring) 4 ≡ short → is_closed ring ≡ closed → (if short then Some (RingShort at) else (if closed then None else Some (RingOpen at))) ≡ None → (4 ≤ length ring) × (is_closed ring ≡ true)
good_by ring at true closed few ends e = absurd (cc)
good_by ring at false false many ends e = absurd (cc)
good_by ring at false true many ends e = (ltb-false (length ring) 4 many, ends)

good : (at : ℕ) (ring : List WholePoint) → ring_fault at ring ≡ None → (4 ≤ length ring) × (is_closed ring ≡ true)
good at ring e = good_by ring at (nat_lt (length ring) 4) (is_closed ring) refl refl e

-- a map without a long step begins with such a ring
short_by : (b : Bool) (x : WindowFault) (more : Option WindowFault) → (if b then more else Some x) ≡ None → (b ≡ true) × (more ≡ None)
short_by true x more e = (refl, e)
short_by false x more e = absurd (cc)

pub map_drawn : (core frame : Box) (o : WholePoint) (at : ℕ) (rings : List (List WholePoint)) → IsFramed core frame → first_ring_fault at rings ≡ None → first_long_ring core frame at rings ≡ None → IsMapDrawn core frame o rings (rings_drawn core frame o rings)
map_drawn core frame o at [] f e s = record { shows = λ q positive here. record { inside = refl; edge = refl }; nothing = λ side q positive all. record { inside = refl; edge = refl }; valid = λ at. refl; few = omega arith }
map_drawn core frame o at (ring ∷ rings) f e s =
    let parts = both_absent (ring_fault at ring) (first_ring_fault (at + 1) rings) e in
    let fine = good at ring parts.first in
    let short = short_by (are_short core frame ring) (StepTooLong at) (first_long_ring core frame (at + 1) rings) s in
    let made = ring_drawn (box_moved o core) frame o ring in
    let layer = rings_drawn core frame o rings in
    let one = each_ring core frame o ring f fine.0 fine.1 short.0 in
    let rest = map_drawn core frame o (at + 1) rings f parts.second short.1 in
    record {
      shows = λ q positive here. rw (segments_kept made layer)
          (alike-append (segments_if made) (ring_segments ring) (segments_of layer) (segments_of rings) (moved o q) q (one.shows q positive here) (rest.shows q positive here));
      nothing = λ side q positive all. rw (segments_kept made layer)
          (nothing-append (segments_if made) (segments_of layer) (moved o q) (one.nothing side q positive (All-head (All (λ a. Aside side (moved o q) (placed frame o a))) ring rings all))
          (rest.nothing side q positive (All-tail (All (λ a. Aside side (moved o q) (placed frame o a))) ring rings all)));
      valid = λ at. valid_kept at (length ring) made layer one.sound rest.valid;
      few = few_kept ring made rings layer one.sound rest.few;
    }

-- ---- what no refusal says
if_none : (b : Bool) (x : WindowFault) → (if b then None else Some x) ≡ None → b ≡ true
if_none true x e = refl
if_none false x e = absurd (cc)

none_of : (o : Option PlaneFault) → option_map Plane o ≡ None → o ≡ None
none_of None e = refl
none_of (Some x) e = absurd (cc)

-- a window that is not refused
pub record IsFit (core frame : Box) (o : WholePoint) (rings : List (List WholePoint)) : Type 0 where
  pub within : is_framed core frame ≡ true
  pub in_plane : lies_in_plane frame o ≡ true
  pub valid : first_ring_fault 0 rings ≡ None
  pub short : first_long_ring core frame 0 rings ≡ None

pub fit : (core frame : Box) (o : WholePoint) (rings : List (List WholePoint)) → window_fault core frame o rings ≡ None → IsFit core frame o rings
fit core frame o rings e =
    let short = first_long_ring core frame 0 rings in
    let third = option_or (option_map Plane (first_ring_fault 0 rings)) short in
    let second = option_or (if lies_in_plane frame o then None else Some FrameOffPlane) third in
    let a = both_absent (if is_framed core frame then None else Some CoreOffFrame) second e in
    let b = both_absent (if lies_in_plane frame o then None else Some FrameOffPlane) third a.second in
    let c = both_absent (option_map Plane (first_ring_fault 0 rings)) short b.second in
    record { within = if_none (is_framed core frame) CoreOffFrame a.first; in_plane = if_none (lies_in_plane frame o) FrameOffPlane b.first; valid = none_of (first_ring_fault 0 rings) c.first; short = c.second }

each_so : {X : Type 0} (P : X → Type 0) → ((x : X) → P x) → (xs : List X) → All P xs
each_so P f [] = All-nil P
each_so P f (x ∷ xs) = All-cons P x xs (f x) (each_so P f xs)

module _ (core frame : Box) (o : WholePoint) (rings : List (List WholePoint)) (h : IsFit core frame o rings) where
  -- what is drawn of it is all that the clauses say
  pub whole_drawn : IsMapDrawn core frame o rings (rings_drawn core frame o rings)
  whole_drawn = map_drawn core frame o 0 rings (framed core frame h.within) h.valid h.short

  pub shown : Shows core o rings (rings_drawn core frame o rings)
  shown = whole_drawn.shows

  pub nothing_beyond : NothingBeyond core o rings (rings_drawn core frame o rings)
  nothing_beyond side q positive all off =
      whole_drawn.nothing (across side) q positive
      (All-weaker (All (StaysWithin core side)) (All (λ a. Aside (across side) (moved o q) (placed frame o a)))
      (λ ring. All-weaker (StaysWithin core side) (λ a. Aside (across side) (moved o q) (placed frame o a))
      (λ a s. seen_across core side o q (into frame a) positive (stays_still core frame (framed core frame h.within) side a s) off) ring) rings all)

  pub nothing_off : NothingOff frame o (rings_drawn core frame o rings)
  nothing_off side q positive off =
      whole_drawn.nothing (across side) q positive
      (each_so (All (λ a. Aside (across side) (moved o q) (placed frame o a)))
      (each_so (λ a. Aside (across side) (moved o q) (placed frame o a))
      (λ a. seen_across frame side o q (into frame a) positive (stays_framed core frame (framed core frame h.within) side a) off)) rings)

-- ---- what a base layer of valid rings is refused for
only_steps : (layer : List (List WholePoint)) → first_ring_fault 0 layer ≡ None → rings_fault layer ≡ (if nat_le (ring_step_count layer) steps_max then None else Some TooManySegments)
only_steps layer e = rw e refl

by_steps : {T : Type 0} (r : Result T PlaneFault) (fault : PlaneFault) (layer : List (List WholePoint)) (b : Bool) → r ≡ Err fault → rings_fault layer ≡ (if b then None else Some TooManySegments)
    → IfSome (rings_fault layer) (IsErrOf r) → (IsNone (rings_fault layer) → IsOkUnless r OutOfMemory) → (fault ≡ OutOfMemory) ⊎ ((b ≡ false) × (fault ≡ TooManySegments))
by_steps r fault layer true is e refused accepted = inl (rw is at (accepted (rw e refl)))
by_steps r fault layer false is e refused accepted = let told : r ≡ Err TooManySegments = rw e at refused in inr (refl, cc)

-- too many steps, or want of memory
pub told : {T : Type 0} (r : Result T PlaneFault) (fault : PlaneFault) (layer : List (List WholePoint)) → r ≡ Err fault → first_ring_fault 0 layer ≡ None
    → IfSome (rings_fault layer) (IsErrOf r) → (IsNone (rings_fault layer) → IsOkUnless r OutOfMemory)
    → (fault ≡ OutOfMemory) ⊎ ((nat_le (ring_step_count layer) steps_max ≡ false) × (fault ≡ TooManySegments))
told r fault layer is valid refused accepted = by_steps r fault layer (nat_le (ring_step_count layer) steps_max) is (only_steps layer valid) refused accepted

-- the same as the window reports it
pub told_as : (fault : PlaneFault) (e : WindowFault) (layer : List (List WholePoint)) → e ≡ of_plane fault → (fault ≡ OutOfMemory) ⊎ ((nat_le (ring_step_count layer) steps_max ≡ false) × (fault ≡ TooManySegments))
    → (e ≡ window.OutOfMemory) ⊎ (e ≡ Plane TooManySegments)
told_as fault e layer is (inl f) = inl (is ∙ ap of_plane f)
told_as fault e layer is (inr f) = inr (is ∙ ap of_plane f.1)

-- and not for its steps where they are few
pub told_few : (fault : PlaneFault) (e : WindowFault) (layer : List (List WholePoint)) → e ≡ of_plane fault → (fault ≡ OutOfMemory) ⊎ ((nat_le (ring_step_count layer) steps_max ≡ false) × (fault ≡ TooManySegments))
    → ring_step_count layer ≤ steps_max → e ≡ window.OutOfMemory
told_few fault e layer is (inl f) few = is ∙ ap of_plane f
told_few fault e layer is (inr f) few = absurd (many (ring_step_count layer) few f.0) where
  many : (n : ℕ) → n ≤ steps_max → nat_le n steps_max ≡ false → ⊥
  many n h k = grind (arith, nat_tests)
