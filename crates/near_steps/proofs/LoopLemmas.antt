-- Drawing a line and a feature, point by point and ring by ring.
use Rattle.std.proofs.Common.{◌≡◌, ℕ, ℤ, pos, ◌-ℤ◌, refl, ap, sym, ◌∙◌, true, false, Bool, ◌&&◌, List, [], ◌∷◌, ◌++◌, append_assoc, map}
use Rattle.std.specs.Prelude.{Result, Ok, Err, IfOk, OnOk}
use Rattle.std.proofs.lemmas.List.{append-nil, map-append}
use Rattle.overlay_terms.specs.Plane.{WholePoint, Segment, ring_segments}
use Rattle.arrange.specs.declared.marked_seg.MarkedSeg.{MarkedSeg}
use Rattle.map_window.specs.Window.{Box}
use Rattle.map_window.specs.Drawn.{share_side, is_short, are_short, placed}
use Rattle.map_window.proofs.Steps.{ring_segments-cons, parted}
use Rattle.near_steps.specs.Cores.{fits, low_of, plane_of}
use Rattle.near_steps.specs.Thinned.{common, kept_after, rest_of, sides_of, stepped, thinned}
use Rattle.near_steps.specs.Drawn.{are_drawable, border_of, drawing_of, drawn, marks, HasDrawn, HasMore, line_drawn, all_drawn, is_line_short, IsSided, GoesOn}
use Rattle.near_steps.specs.declared.drawing.Drawing.{Drawing}
use Rattle.near_steps.specs.declared.drawing.Drawing.TheVariants.{Whole, StepTooLong}
use Rattle.near_steps.specs.declared.sides.Sides.{Sides}
use Rattle.near_steps.specs.declared.step.Spot.{Spot}
use Rattle.near_steps.specs.declared.step.Step.{Step}
use Rattle.near_steps.proofs.CoreLemmas.{whole_part}
use Rattle.near_steps.proofs.ThinLemmas.{short_spared}
use Rattle.near_steps.proofs.DrawnLemmas.{rings_drawn}

-- what their sides say
pub common_is : (core : Box) (a b c : WholePoint) (x y z : Sides) → x ≡ sides_of core a → y ≡ sides_of core b → z ≡ sides_of core c → common x y z ≡ share_side core a b c
common_is core a b c x y z e f g = rw (e, f, g) refl

-- ---- more at the end
pub more_through : (a b c : List MarkedSeg) → HasMore a b → HasMore b c → HasMore a c
more_through a b c h k = record { more = h.more ++ k.more; added = k.added ∙ ap (λ xs. xs ++ k.more) h.added ∙ append_assoc a h.more k.more }

-- ---- what is drawn
pub marks-append : (layer : ℕ) (xs ys : List Segment) → marks layer (xs ++ ys) ≡ marks layer xs ++ marks layer ys
marks-append layer xs ys = map-append (λ (s : Segment). record { layer = layer; seg = s }) xs ys

line_drawn-cons : (core : Box) (a b : WholePoint) (rest : List WholePoint) → line_drawn core (a ∷ b ∷ rest) ≡ line_drawn core (a ∷ b ∷ []) ++ line_drawn core (b ∷ rest)
line_drawn-cons core a b rest =
    ring_segments-cons (placed (plane_of core) (low_of core) a) (placed (plane_of core) (low_of core) b) (map (placed (plane_of core) (low_of core)) rest)

module _ (core : Box) (layer : ℕ) where
  -- a step, and what comes after it
  one_drawn : (old new : List MarkedSeg) (a b : WholePoint) (rest : List WholePoint) → new ≡ old ++ marks layer (line_drawn core (a ∷ b ∷ []))
      → new ++ marks layer (line_drawn core (b ∷ rest)) ≡ old ++ marks layer (line_drawn core (a ∷ b ∷ rest))
  one_drawn old new a b rest e =
      ap (λ xs. xs ++ marks layer (line_drawn core (b ∷ rest))) e
      ∙ append_assoc old (marks layer (line_drawn core (a ∷ b ∷ []))) (marks layer (line_drawn core (b ∷ rest)))
      ∙ ap (λ xs. old ++ xs) (sym (marks-append layer (line_drawn core (a ∷ b ∷ [])) (line_drawn core (b ∷ rest))) ∙ ap (marks layer) (sym (line_drawn-cons core a b rest)))

  -- a point in the place of the last one
  pub goes_spared : (old new : List MarkedSeg) (before after : Step) (p : WholePoint) → share_side core before.from.at before.to.at p ≡ true → after.from.at ≡ before.from.at → after.to.at ≡ p → new ≡ old
      → GoesOn core layer old new before after p Whole
  goes_spared old new before after p shared from to same =
      let spared : (rest : List WholePoint) → rest_of core before.from.at before.to.at (p ∷ rest) ≡ rest_of core before.from.at p rest = λ rest. rw shared refl in
      record {
        drawn = λ w rest. rw (same, from, to, spared rest) refl;
        short = λ w rest.
            (λ i. are_short core (plane_of core) (from i ∷ to i ∷ rest)) ∙ sym (short_spared core core (plane_of core) (whole_part core) before.from.at before.to.at p rest shared);
        long = λ w rest. absurd (cc);
      }

  whole_by : (b : Bool) → Whole ≡ drawing_of b → b ≡ true
  whole_by true e = refl
  whole_by false e = absurd (cc)

  long_by : (b : Bool) → StepTooLong ≡ drawing_of b → b ≡ false
  long_by true e = absurd (cc)
  long_by false e = refl

  -- a point after the last one, and the step before it drawn
  pub goes_drawn : (old new : List MarkedSeg) (before after : Step) (p : WholePoint) (drawing : Drawing) → share_side core before.from.at before.to.at p ≡ false → after.from.at ≡ before.to.at → after.to.at ≡ p
      → drawing ≡ drawing_of (is_short core (plane_of core) before.from.at before.to.at)
      → (drawing ≡ Whole → new ≡ old ++ marks layer (line_drawn core (before.from.at ∷ before.to.at ∷ []))) → GoesOn core layer old new before after p drawing
  goes_drawn old new before after p drawing apart from to told added =
      let kept : (rest : List WholePoint) → rest_of core before.from.at before.to.at (p ∷ rest) ≡ before.to.at ∷ rest_of core before.to.at p rest = λ rest. rw apart refl in
      record {
        drawn = λ w rest. rw (from, to, kept rest) (one_drawn old new before.from.at before.to.at (rest_of core before.to.at p rest) (added w));
        short = λ w rest.
            (λ i. are_short core (plane_of core) (from i ∷ to i ∷ rest))
            ∙ sym (ap (λ b. b && are_short core (plane_of core) (before.to.at ∷ p ∷ rest)) (whole_by (is_short core (plane_of core) before.from.at before.to.at) (sym w ∙ told)));
        long = λ w rest. ap (λ b. b && are_short core (plane_of core) (before.to.at ∷ p ∷ rest)) (long_by (is_short core (plane_of core) before.from.at before.to.at) (sym w ∙ told));
      }

  -- ---- a line under way: what was added, with what is still drawn, is all; and so of its steps
  pub record IsUnderWay (old added : List MarkedSeg) (points : List WholePoint) (last : Step) (rest : List WholePoint) : Type 0 where
    pub sided : IsSided core last
    pub drawn : all_drawn core layer added last rest ≡ old ++ marks layer (line_drawn core (thinned core points))
    pub short : is_line_short core last rest ≡ are_short core (plane_of core) points
    pub more : HasMore old added

  pub goes : (old added new : List MarkedSeg) (points : List WholePoint) (before after : Step) (p : WholePoint) (rest : List WholePoint) → IsUnderWay old added points before (p ∷ rest) → GoesOn core layer added new before after p Whole
      → IsSided core after → HasMore added new → IsUnderWay old new points after rest
  goes old added new points before after p rest h k sided more = record {
    sided = sided;
    drawn = k.drawn refl rest ∙ h.drawn;
    short = k.short refl rest ∙ h.short;
    more = more_through old added new h.more more;
  }

  and_true : (b : Bool) → (b && true) ≡ b
  and_true true = refl
  and_true false = refl

  -- after the last point the last step is drawn
  pub ends_told : (old added : List MarkedSeg) (points : List WholePoint) (last : Step) (rest : List WholePoint) (drawing : Drawing) → IsUnderWay old added points last rest → rest ≡ []
      → drawing ≡ drawing_of (is_short core (plane_of core) last.from.at last.to.at) → drawing ≡ drawing_of (are_short core (plane_of core) points)
  ends_told old added points last rest drawing h none told =
      told ∙ ap drawing_of (sym (and_true (is_short core (plane_of core) last.from.at last.to.at)) ∙ sym (ap (is_line_short core last) none) ∙ h.short)

  -- ---- rings under way
  pub record AreUnderWay (old added : List MarkedSeg) (rings rest : List (List WholePoint)) : Type 0 where
    pub drawn : added ++ marks layer (drawn core rest) ≡ old ++ marks layer (drawn core rings)
    pub short : are_drawable core rest ≡ are_drawable core rings
    pub more : HasMore old added

  pub rings_go : (old added new : List MarkedSeg) (rings : List (List WholePoint)) (ring : List WholePoint) (rest : List (List WholePoint)) → AreUnderWay old added rings (ring ∷ rest)
      → Whole ≡ drawing_of (are_short core (plane_of core) ring) → new ≡ added ++ marks layer (line_drawn core (thinned core ring)) → HasMore added new → AreUnderWay old new rings rest
  rings_go old added new rings ring rest h told is more =
      let mine : List Segment = line_drawn core (thinned core ring) in
      record {
        drawn =
            ap (λ xs. xs ++ marks layer (drawn core rest)) is ∙ append_assoc added (marks layer mine) (marks layer (drawn core rest))
            ∙ ap (λ xs. added ++ xs) (sym (marks-append layer mine (drawn core rest))) ∙ h.drawn;
        short = ap (λ b. b && are_drawable core rest) (sym (whole_by (are_short core (plane_of core) ring) told)) ∙ h.short;
        more = more_through old added new h.more more;
      }

  pub rings_stop : (old added : List MarkedSeg) (rings : List (List WholePoint)) (ring : List WholePoint) (rest : List (List WholePoint)) → AreUnderWay old added rings (ring ∷ rest)
      → StepTooLong ≡ drawing_of (are_short core (plane_of core) ring) → StepTooLong ≡ drawing_of (are_drawable core rings)
  rings_stop old added rings ring rest h told =
      ap drawing_of (ap (λ b. b && are_drawable core rest) (sym (long_by (are_short core (plane_of core) ring) told)) ∙ h.short)

  pub rings_end : (old added : List MarkedSeg) (rings rest : List (List WholePoint)) → fits core ≡ true → AreUnderWay old added rings rest → rest ≡ [] → HasDrawn core layer rings old added
  rings_end old added rings rest fit h none = record {
    segments = drawn core rings;
    are = rings_drawn core rings fit (sym h.short ∙ ap (are_drawable core) none);
    added = sym (append-nil added) ∙ sym (ap (λ rs. added ++ marks layer (drawn core rs)) none) ∙ h.drawn;
  }

  -- ---- one ring
  pub one_ring : (old new : List MarkedSeg) (points : List WholePoint) → fits core ≡ true → Whole ≡ drawing_of (are_short core (plane_of core) points)
      → new ≡ old ++ marks layer (line_drawn core (thinned core points)) → HasDrawn core layer (points ∷ []) old new
  one_ring old new points fit told is = record {
    segments = drawn core (points ∷ []);
    are = rings_drawn core (points ∷ []) fit (and_true (are_short core (plane_of core) points) ∙ whole_by (are_short core (plane_of core) points) told);
    added = is ∙ ap (λ xs. old ++ marks layer xs) (sym (append-nil (line_drawn core (thinned core points))));
  }

  pub one_result : {E : Type 0} (r : Result Drawing E) (old new : List MarkedSeg) (points : List WholePoint) → fits core ≡ true → IfOk r (λ drawing. drawing ≡ drawing_of (are_short core (plane_of core) points))
      → IfOk r (λ drawing. drawing ≡ Whole → new ≡ old ++ marks layer (line_drawn core (thinned core points))) → IfOk r (λ drawing. drawing ≡ Whole → HasDrawn core layer (points ∷ []) old new)
  one_result (Ok drawing) old new points fit told drawn = λ w. one_ring old new points fit (sym w ∙ told) (drawn w)
  one_result (Err e) old new points fit told drawn = told

-- ---- a line of which points are left out: what is kept, with what is left of those that follow, is all
pub record IsThinning (core : Box) (kept points : List WholePoint) (last : Step) (rest : List WholePoint) : Type 0 where
  pub sided : IsSided core last
  pub left : kept ++ rest_of core last.from.at last.to.at rest ≡ thinned core points

module _ (core : Box) where
  thins_by : (kept points : List WholePoint) (last : Step) (next : Spot) (rest : List WholePoint) (b : Bool) → common last.from.off last.to.off next.off ≡ b → IsSided core last → next.off ≡ sides_of core next.at
      → kept ++ rest_of core last.from.at last.to.at (next.at ∷ rest) ≡ thinned core points → IsThinning core (kept_after kept last next) points (stepped last next) rest
  thins_by kept points last next rest true e sided off left =
      let shared : share_side core last.from.at last.to.at next.at ≡ true = sym (common_is core last.from.at last.to.at next.at last.from.off last.to.off next.off sided.from sided.to off) ∙ e in
      let spared : rest_of core last.from.at last.to.at (next.at ∷ rest) ≡ rest_of core last.from.at next.at rest = rw shared refl in
      rw e (record { sided = record { from = sided.from; to = off }; left = ap (λ xs. kept ++ xs) (sym spared) ∙ left })
  thins_by kept points last next rest false e sided off left =
      let apart : share_side core last.from.at last.to.at next.at ≡ false = sym (common_is core last.from.at last.to.at next.at last.from.off last.to.off next.off sided.from sided.to off) ∙ e in
      let held : rest_of core last.from.at last.to.at (next.at ∷ rest) ≡ last.to.at ∷ rest_of core last.to.at next.at rest = rw apart refl in
      rw e (record {
        sided = record { from = sided.to; to = off };
        left = append_assoc kept (last.to.at ∷ []) (rest_of core last.to.at next.at rest) ∙ ap (λ xs. kept ++ xs) (sym held) ∙ left;
      })

  pub thins_on : (kept new points : List WholePoint) (last after : Step) (next : Spot) (rest : List WholePoint) → IsThinning core kept points last (next.at ∷ rest) → next.off ≡ sides_of core next.at
      → new ≡ kept_after kept last next → after ≡ stepped last next → IsThinning core new points after rest
  thins_on kept new points last after next rest h off is stands =
      rw (is, stands) (thins_by kept points last next rest (common last.from.off last.to.off next.off) refl h.sided off h.left)

-- ---- the border
on_ok : {T E : Type 0} (r : Result T E) (P Q : Type 0) → (P → Q) → OnOk r P → OnOk r Q
on_ok (Ok x) P Q f h = f h
on_ok (Err e) P Q f h = h

pub any_ok : {T E : Type 0} (r : Result T E) (P : Type 0) → P → OnOk r P
any_ok (Ok x) P h = h
any_ok (Err e) P h = tt

pub border_is : (core : Box) (low right far over : WholePoint) (w h : ℤ) → low ≡ record { x = pos 0; y = pos 0 } → right ≡ record { x = w; y = pos 0 } → far ≡ record { x = w; y = h } → over ≡ record { x = pos 0; y = h }
    → w ≡ core.high_x -ℤ core.low_x → h ≡ core.high_y -ℤ core.low_y → low ∷ right ∷ far ∷ over ∷ low ∷ [] ≡ border_of core
border_is core low right far over w h a b c d e f =
    (λ i. a i ∷ b i ∷ c i ∷ d i ∷ a i ∷ []) ∙ (λ i. record { x = pos 0; y = pos 0 } ∷ record { x = e i; y = pos 0 } ∷ record { x = e i; y = f i } ∷ record { x = pos 0; y = f i } ∷ record { x = pos 0; y = pos 0 } ∷ [])

module _ (layer : ℕ) where
  joined : (old a b : List MarkedSeg) (xs : List WholePoint) (p q : WholePoint) → a ≡ old ++ marks layer (ring_segments (xs ++ p ∷ [])) → b ≡ a ++ marks layer (ring_segments (p ∷ q ∷ []))
      → b ≡ old ++ marks layer (ring_segments (xs ++ p ∷ q ∷ []))
  joined old a b xs p q e f =
      f ∙ ap (λ z. z ++ marks layer (ring_segments (p ∷ q ∷ []))) e ∙ append_assoc old (marks layer (ring_segments (xs ++ p ∷ []))) (marks layer (ring_segments (p ∷ q ∷ [])))
      ∙ ap (λ z. old ++ z) (sym (marks-append layer (ring_segments (xs ++ p ∷ [])) (ring_segments (p ∷ q ∷ []))) ∙ ap (marks layer) (sym (parted xs p (q ∷ []))))

  pub border_drawn : {T E : Type 0} (r : Result T E) (old a b c d : List MarkedSeg) (p q s t : WholePoint) (border : List WholePoint) → p ∷ q ∷ s ∷ t ∷ p ∷ [] ≡ border
      → a ≡ old ++ marks layer (ring_segments (p ∷ q ∷ [])) → b ≡ a ++ marks layer (ring_segments (q ∷ s ∷ [])) → c ≡ b ++ marks layer (ring_segments (s ∷ t ∷ []))
      → OnOk r (d ≡ c ++ marks layer (ring_segments (t ∷ p ∷ []))) → OnOk r (d ≡ old ++ marks layer (ring_segments border))
  border_drawn r old a b c d p q s t border is e f g h =
      on_ok r (d ≡ c ++ marks layer (ring_segments (t ∷ p ∷ []))) (d ≡ old ++ marks layer (ring_segments border))
      (λ k. joined old c d (p ∷ q ∷ s ∷ []) t p (joined old b c (p ∷ q ∷ []) s t (joined old a b (p ∷ []) q s e f) g) k ∙ ap (λ xs. old ++ marks layer (ring_segments xs)) is) h
