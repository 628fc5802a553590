-- The members of a bundle begin at a node over what the member under them carries: each carries what lies up to it there.
use Rattle.std.proofs.Common.{◌≡◌, ℕ, ℤ, zero, suc, pos, ◌+◌, ◌<◌, ◌*ℤ◌, ◌<ℤ◌, ◌≤ℤ◌, false, ◌&&◌, List, [], ◌∷◌, ◌++◌, length, get_or, refl, ap, sym, subst, ◌∙◌, arith, append_assoc}
use Rattle.std.specs.Prelude.{IsTrue, All, Contains, map, int_le, int_lt}
use Rattle.std.proofs.lemmas.Int.{ints}
use Rattle.std.proofs.lemmas.Bool.{both_ways, and_parts, and_from}
use Rattle.std.proofs.lemmas.List.{get_or_append_left, get_or-append-add, length-map, get_or-map}
use Rattle.std.proofs.lemmas.List.Elements.{All-nil, All-cons, All-head, All-tail, All-contains}
use Rattle.std.proofs.Math.ListN.{length-append}
use Rattle.std.specs.declared.cmp.Ordering.TheVariants.{Less}
use Rattle.overlay_terms.specs.Plane.{Point, Segment, whole, point_cmp, is_on}
use Rattle.overlay_terms.specs.Column.{border}
use Rattle.overlay_terms.specs.Layers.{layers_max}
use Rattle.overlay_terms.specs.Tiles.{is_node}
use Rattle.overlay_terms.specs.Trees.{steps_value, mask_bits}
use Rattle.overlay_terms.proofs.InputNumbers.{x_in_order, less_times, less_back, last_turned, lt_true, true_lt, true_le}
use Rattle.overlay_terms.proofs.BitLemmas.{mask_bits-zero}
use Rattle.arrange.specs.Units.{IsUnit, AreUnits, cover_bits}
use Rattle.arrange.specs.declared.unit.Unit.{Unit}
use Rattle.crossing_sweep.specs.StripInput.{Span, StripInput, IsStripInput, is_in_strip, segments_in}
use Rattle.crossing_sweep.specs.Leaning.{IsSteep}
use Rattle.crossing_sweep.specs.Status.{IsStretchOf}
use Rattle.crossing_sweep.specs.Queue.{GoesOn, IsStatusAt}
use Rattle.crossing_sweep.specs.Sides.{IsNodal}
use Rattle.crossing_sweep.specs.Masks.{MasksGoUp}
use Rattle.crossing_sweep.specs.Rows.{place_at, is_one_of, HasBits, under_unit, up_to_unit, sides_differ, IsCarriedFrom, IsCarried, mask_over, IsBegun, AreBegun}
use Rattle.crossing_sweep.specs.Member.{seg_of}
use Rattle.crossing_sweep.specs.declared.member.Member.{Member}
use Rattle.crossing_sweep.proofs.KeptLemmas.{masks_are_kept}
use Rattle.crossing_sweep.proofs.LastNodeLemmas.{last_node_is_new}
use Rattle.crossing_sweep.proofs.UnitStretchLemmas.{proper_unit}
use Rattle.crossing_sweep.proofs.UnitBits.{begun_bits}

-- ---- masks of lists
-- what holds over some members holds over the last of them
pub last_over : (under : ℕ) (ms : List Member) (j : ℕ) (d : Member) → length ms ≡ suc j → mask_over under ms ≡ (get_or ms j d).over
last_over under [] j d e = absurd (omega (arith, e))
last_over under (m ∷ []) zero d e = refl
last_over under (m ∷ []) (suc j) d e = absurd (omega (arith, e))
last_over under (m ∷ m2 ∷ ms) zero d e = absurd (omega (arith, e))
last_over under (m ∷ m2 ∷ ms) (suc j) d e = last_over m.over (m2 ∷ ms) j d (omega (arith, e))

-- ---- what lies before a place of the strip, from its border on, lies in the strip
pub before_in_strip : (strip : Span) (p r : Point) → pos 0 <ℤ p.w → pos 0 <ℤ r.w → (border strip.first *ℤ p.w) ≤ℤ p.x → point_cmp p r ≡ Less → IsTrue (is_in_strip strip r) → IsTrue (is_in_strip strip p)
before_in_strip strip p r hp hr from less within =
    let high : r.x <ℤ (border (strip.last + 1) *ℤ r.w) = lt_true r.x (border (strip.last + 1) *ℤ r.w) (and_parts (int_le (border strip.first *ℤ r.w) r.x) (int_lt r.x (border (strip.last + 1) *ℤ r.w)) within).1 in
    and_from (int_le (border strip.first *ℤ p.w) p.x) (int_lt p.x (border (strip.last + 1) *ℤ p.w)) (true_le (border strip.first *ℤ p.w) p.x from)
    (true_lt p.x (border (strip.last + 1) *ℤ p.w) (below p.x r.x p.w r.w (border (strip.last + 1)) hp hr (x_in_order p r less) high))
  where
    below : (x y w v b : ℤ) → pos 0 <ℤ w → pos 0 <ℤ v → (x *ℤ v) ≤ℤ (y *ℤ w) → y <ℤ (b *ℤ v) → x <ℤ (b *ℤ w)
    below x y w v b hw hv h l = less_back x (b *ℤ w) v hv (omega (arith, ints, h, less_times y (b *ℤ v) w hw l, last_turned b v w))

module _ (n : ℤ) (input : StripInput) (units : List Unit) (r : Point) (passed : List Point) (steep : IsSteep n) (valid : IsStripInput input) (are : AreUnits input.marked units) (nodal : IsNodal r)
    (node : IsTrue (is_node (segments_in input) r)) (end : ℕ) (end_known : end < length passed) (at : place_at passed end ≡ r) where
  hr : pos 0 <ℤ r.w
  hr = nodal.small.positive

  -- a member that begins there
  begins_there : (m : Member) → m.begin ≡ end → IsCarriedFrom n input r r m → IsCarried n input passed r m
  begins_there m e carried = record {
    known = let P : ℕ → Type 0 = λ b. b < length passed in subst P (sym e) end_known;
    carried = let P : Point → Type 0 = λ p. IsCarriedFrom n input p r m in subst P (sym (ap (λ (b : ℕ). place_at passed b) e ∙ at)) carried;
  }

  -- ---- on the right border
  module _ (out : is_in_strip input.strip r ≡ false) where
    one_out : (under : ℕ) (m : Member) → IsTrue (is_on (seg_of m) r) → IsBegun input.steps under end (is_in_strip input.strip r) m → IsCarried n input passed r m
    one_out under m on begun =
        begins_there m begun.begins
        (record {
          on = on;
          last = λ h. absurd (both_ways (is_in_strip input.strip r) out h);
          over = λ h. absurd (both_ways (is_in_strip input.strip r) out h);
          value = begun.value;
          differs = begun.differs (mask_bits under) (mask_bits m.over) (λ k few. refl) (λ k few. refl) ∙ ap (λ b. b && is_one_of (steps_value input.steps (mask_bits under)) (steps_value input.steps (mask_bits m.over))) out ∙ sym (ap (λ b. b && sides_differ n input (seg_of m) r) out);
        })

    pub all_out : (under : ℕ) (ms : List Member) → All (λ m. IsTrue (is_on (seg_of m) r)) ms → AreBegun input.steps under end (is_in_strip input.strip r) ms → All (IsCarried n input passed r) ms
    all_out under [] on begun = All-nil (IsCarried n input passed r)
    all_out under (m ∷ ms) on begun =
        All-cons (IsCarried n input passed r) m ms (one_out under m (All-head (λ (m : Member). IsTrue (is_on (seg_of m) r)) m ms on) begun.0)
        (all_out m.over ms (All-tail (λ (m : Member). IsTrue (is_on (seg_of m) r)) m ms on) begun.1)

  -- ---- in the strip
  module _ (full others : List Segment) (status : IsStatusAt n (segments_in input) r full) (go_up : MasksGoUp n input r full) where
    -- a mask is what lies under the member after some
    abbrev IsUnderNext : List Segment → ℕ → Type 0
    IsUnderNext done mask = (d : Segment) → length done < length full → HasBits mask (under_unit n input (get_or full (length done) d) r)

    module _ (done : List Segment) (m : Member) (rest : List Segment) (split : full ≡ done ++ (seg_of m ∷ rest)) (among : Contains units m.unit) (on_r : IsTrue (is_on (seg_of m) r)) (mask : ℕ) (under_next : IsUnderNext done mask)
        (begun : IsBegun input.steps mask end (is_in_strip input.strip r) m) where
      abbrev u : Segment
      u = m.unit.seg

      inside : length done < length full
      inside = let e : length full ≡ length done + suc (length rest) = ap length split ∙ length-append done (seg_of m ∷ rest) in omega (arith, e)

      here : (d : Segment) → get_or full (length done) d ≡ m.unit.seg
      here d = ap (λ l. get_or l (length done) d) split ∙ ap (λ i. get_or (done ++ (seg_of m ∷ rest)) i d) (plus_zero (length done)) ∙ get_or-append-add done (seg_of m ∷ rest) 0 d
        where
          plus_zero : (i : ℕ) → i ≡ i + 0
          plus_zero i = omega arith

      unit : IsUnit input.marked m.unit.seg
      unit = All-contains (λ (u : Unit). IsUnit input.marked u.seg) units m.unit are.sound among

      goes : GoesOn m.unit.seg r
      goes = let P : Segment → Type 0 = λ s. GoesOn s r in subst P (here m.unit.seg) (status.go_on (length done) m.unit.seg inside)

      low : HasBits mask (under_unit n input m.unit.seg r)
      low k few = under_next m.unit.seg inside k few ∙ ap (λ s. under_unit n input s r k) (here m.unit.seg)

      pub high : HasBits m.over (up_to_unit n input m.unit.seg r)
      high k few =
          ap (λ x. mask_bits x k) begun.over
          ∙ begun_bits n input m.unit.seg r steep valid unit (proper_unit input valid m.unit.seg unit) nodal.small goes mask m.unit.mask low (All-contains (λ (u : Unit). (k : ℕ) → k < layers_max → mask_bits u.mask k ≡ cover_bits input.marked u.seg k) units m.unit are.masks among) k few

      pub one_carried : IsCarried n input passed r m
      one_carried =
          begins_there m begun.begins
          (record {
            on = on_r;
            last = λ within. last_node_is_new input m.unit.seg r nodal node within on_r;
            over = λ within. high;
            value = begun.value;
            differs = begun.differs (under_unit n input m.unit.seg r) (up_to_unit n input m.unit.seg r) low high;
          })

      -- and what is up to it is under the next one
      pub next_under : IsUnderNext (done ++ (seg_of m ∷ [])) m.over
      next_under d l k few =
          let long : length (done ++ (seg_of m ∷ [])) ≡ length done + 1 = length-append done (seg_of m ∷ []) in
          high k few ∙ ap (λ s. up_to_unit n input s r k) (sym (here d)) ∙ sym (go_up.next (length done) d k (omega (arith, l, long))) ∙ ap (λ i. under_unit n input (get_or full i d) r k) (sym long)

    pub all_in : (done : List Segment) (ms : List Member) (mask : ℕ) → full ≡ done ++ (map seg_of ms ++ others) → All (λ m. Contains units m.unit) ms → All (λ m. IsTrue (is_on (seg_of m) r)) ms → IsUnderNext done mask
        → AreBegun input.steps mask end (is_in_strip input.strip r) ms → All (IsCarried n input passed r) ms
    all_in done [] mask split among on under_next begun = All-nil (IsCarried n input passed r)
    all_in done (m ∷ ms) mask split among on under_next begun =
        let c = All-head (λ (m : Member). Contains units m.unit) m ms among in
        let h = All-head (λ (m : Member). IsTrue (is_on (seg_of m) r)) m ms on in
        All-cons (IsCarried n input passed r) m ms (one_carried done m (map seg_of ms ++ others) split c h mask under_next begun.0)
        (all_in (done ++ (seg_of m ∷ [])) ms m.over (split ∙ sym (append_assoc done (seg_of m ∷ []) (map seg_of ms ++ others))) (All-tail (λ (m : Member). Contains units m.unit) m ms among)
        (All-tail (λ (m : Member). IsTrue (is_on (seg_of m) r)) m ms on) (next_under done m (map seg_of ms ++ others) split c h mask under_next begun.0) begun.1)

    -- what the highest member under the node carries is what lies under the first that begins there
    module _ (within : IsTrue (is_in_strip input.strip r)) (under : List Member) (rest : List Segment) (split : full ≡ map seg_of under ++ rest) (carried : All (IsCarried n input passed r) under)
        (in_strip : All (λ m. IsTrue (is_in_strip input.strip (place_at passed m.begin))) under) where
      long : length (map seg_of under) ≡ length under
      long = length-map under seg_of

      module _ (j : ℕ) (last : length under ≡ suc j) (d : Member) where
        abbrev l : Member
        l = get_or under j d

        known : j < length under
        known = omega (arith, last)

        at_l : (e : Segment) → get_or full j e ≡ seg_of (get_or under j d)
        at_l e = ap (λ l. get_or l j e) split ∙ get_or_append_left (map seg_of under) rest e j (omega (arith, known, long)) ∙ get_or-map seg_of under j d e known

        carry : IsCarried n input passed r (get_or under j d)
        carry = carried j d known

        in_full : j < length full
        in_full = let e : length full ≡ length (map seg_of under) + length rest = ap length split ∙ length-append (map seg_of under) rest in omega (arith, e, long, known)

        stretch : IsStretchOf (segments_in input) (seg_of (get_or under j d))
        stretch = let P : Segment → Type 0 = λ s. IsStretchOf (segments_in input) s in subst P (at_l (seg_of (get_or under j d))) (status.stretches j (seg_of (get_or under j d)) in_full)

        lasts : GoesOn (seg_of (get_or under j d)) r
        lasts = let P : Segment → Type 0 = λ s. GoesOn s r in subst P (at_l (seg_of (get_or under j d))) (status.go_on j (seg_of (get_or under j d)) in_full)

        ends : IsTrue (is_node (segments_in input) (whole (seg_of (get_or under j d)).right))
        ends = let P : Segment → Type 0 = λ s. IsTrue (is_node (segments_in input) (whole s.right)) in subst P (at_l (seg_of (get_or under j d))) (status.end_at_nodes j (seg_of (get_or under j d)) in_full)

        up_there : HasBits (get_or under j d).over (up_to_unit n input (seg_of (get_or under j d)) r)
        up_there k few =
            let c = in_strip j d known in
            carry.carried.over c k few ∙ (masks_are_kept n input (seg_of (get_or under j d)) (place_at passed (get_or under j d).begin) r k steep valid stretch lasts nodal.small within (carry.carried.last c) ends).1

        some : IsUnderNext (map seg_of under) (mask_over 0 under)
        some e m k few =
            let at_next : length (map seg_of under) ≡ j + 1 = long ∙ last ∙ plus j in
            ap (λ x. mask_bits x k) (last_over 0 under j d last) ∙ up_there k few ∙ ap (λ s. up_to_unit n input s r k) (sym (at_l e)) ∙ sym (go_up.next j e k (omega (arith, m, at_next))) ∙ ap (λ i. under_unit n input (get_or full i e) r k) (sym at_next)
          where
            plus : (i : ℕ) → suc i ≡ i + 1
            plus i = omega arith

      pub first_under : (us : List Member) → us ≡ under → IsUnderNext (map seg_of under) (mask_over 0 under)
      first_under [] e = λ d m k few.
          ap (λ (us : List Member). mask_bits (mask_over 0 us) k) (sym e) ∙ mask_bits-zero k
          ∙ sym (go_up.lowest d k (omega (arith, m))) ∙ ap (λ (us : List Member). under_unit n input (get_or full (length (map seg_of us)) d) r k) e
      first_under (m ∷ ms) e = some (length ms) (ap length (sym e)) m
