-- What passing a piece does, from what each of its parts does.
use Rattle.std.proofs.Common.{◌≡◌, ℕ, ℤ, suc, pos, ◌+◌, ◌≤◌, ◌-ℤ◌, ◌*ℤ◌, ◌<ℤ◌, ◌≤ℤ◌, Bool, true, false, List, [], length, filter, take, get_or, inl, inr, refl, ap, sym, subst, ◌∙◌, arith}
use Rattle.std.specs.Prelude.{int_le, int_lt}
use Rattle.std.specs.Int.RustNames.{bit_xor}
use Rattle.std.specs.List.Sorted.{IsPartitionedBy, IsPartitionPoint}
use Rattle.std.proofs.lemmas.Int.{ints}
use Rattle.std.proofs.lemmas.Bool.{and_parts, not-true}
use Rattle.std.proofs.lemmas.Bool.Decides.{Decides-int_eq}
use Rattle.overlay_terms.specs.Plane.{Point, Segment}
use Rattle.overlay_terms.specs.Column.{border}
use Rattle.overlay_terms.specs.Tiles.{Input}
use Rattle.overlay_terms.specs.Trees.{mask_bits}
use Rattle.overlay_terms.proofs.InputNumbers.{le_true, false_eq}
use Rattle.overlay_terms.proofs.Whole.{less_by}
use Rattle.exact_point.specs.PlaceOf.{place_of}
use Rattle.exact_point.proofs.Lexical.{Forward}
use Rattle.exact_point.proofs.OnSegment.{leads}
use Rattle.arrange.specs.Arrangement.{IsElementary}
use Rattle.arrange.specs.declared.piece.Elementary.{Elementary}
use Rattle.exact_point.proofs.Lines.{width, rise}
use Rattle.sweep_line.specs.Label.{IsLabelled}
use Rattle.sweep_line.specs.Status.{goes_on, is_passed}
use Rattle.sweep_line.specs.Sweep.{IsEntryOf, IsSwept, IsStatus, Begins, Passes}
use Rattle.sweep_line.specs.declared.labelled.Labelled.{Labelled}
use Rattle.sweep_line.specs.declared.status.StatusEntry.{StatusEntry}
use Rattle.sweep_line.proofs.InputLemmas.{labelled}
use Rattle.sweep_line.proofs.SideTests.{IsTestFor, slanted_test, upright_test, goes_nowhere}
use Rattle.sweep_line.proofs.Sweeping.{IsTurnOf, partitioned, under_is, passed_upright, passed_slanted}

-- before the first piece
pub starts : (input : Input) (pieces : List Elementary) → IsStatus input (take 0 pieces) []
starts input pieces = (
  record { x = border input.column; y = pos 0; w = pos 1 },
  record {
    positive = omega (arith, ints);
    entries = λ j d l. absurd (omega (arith, l));
    begun = λ j d l. absurd (omega (arith, l));
    ahead = λ e is all. first (place_of e.from) (and_parts (int_le (border input.column *ℤ (place_of e.from).w) (place_of e.from).x) (int_lt (place_of e.from).x (border (input.column + 1) *ℤ (place_of e.from).w)) is.begins).0;
    members = λ p c right. absurd (omega (arith, c.1));
    ordered = λ j k d l m. absurd (omega (arith, m));
  },
)
  where
    once : (a x : ℤ) → a ≤ℤ x → a ≤ℤ (x *ℤ pos 1)
    once a x h = omega (arith, ints)

    first : (p : Point) → int_le (border input.column *ℤ p.w) p.x ≡ true → (border input.column *ℤ p.w) ≤ℤ (p.x *ℤ pos 1)
    first p h = once (border input.column *ℤ p.w) p.x (le_true (border input.column *ℤ p.w) p.x h)

-- what the status says at a place: how many entries stand under a piece, and what lies under it
pub record Learned (e : Elementary) (q : Point) (status : List StatusEntry) (k under : ℕ) : Type 0 where
  pub bound : k ≤ length status
  pub point : IsPartitionedBy (is_passed q e.support) status → IsPartitionPoint (λ a. is_passed q e.support a ≡ true) (λ a. is_passed q e.support a ≡ false) status k
  pub lowest : k ≡ 0 → under ≡ 0
  pub above : (n : ℕ) (d : StatusEntry) → k ≡ suc n → under ≡ (get_or status n d).over

-- the label of a piece
abbrev pub label_of : Elementary → ℕ → Labelled
label_of e under = record { piece = e; under = under; over = bit_xor under e.mask }

module _ (e : Elementary) (old new : List StatusEntry) (k under : ℕ) (learned : Learned e (place_of e.from) (filter (goes_on (place_of e.from)) old) k under) (begins : Begins k (label_of e under) (filter (goes_on (place_of e.from)) old) new) where
  abbrev on : List StatusEntry
  on = filter (goes_on (place_of e.from)) old

  module _ (input : Input) (pieces : List Elementary) (i : ℕ) (from : Point) (is_turn : IsTurnOf input pieces i e from old) where
    is_e : IsElementary input e
    is_e = subst (IsElementary input) is_turn.here (is_turn.are.sound i e is_turn.inside)

    labels : (test : Segment → Bool) → IsTestFor input e test → IsLabelled input (label_of e under)
    labels test is_test =
        labelled input e under input.marked is_e refl
        (under_is input pieces i e from old is_turn test is_test k learned.bound (learned.point (partitioned input pieces i e from old is_turn test is_test)) under learned.lowest learned.above)

    abbrev Done : Type 0
    Done = (e ≡ e) × IsLabelled input (label_of e under) × IsStatus input (take (i + 1) pieces) new

    slanted : pos 0 <ℤ width e.support → Done
    slanted wide =
        let test = slanted_test input is_turn.valid e is_e wide in
        let is_label : IsLabelled input (label_of e under) = labels _ test in
        let entered = begins.slanted (not-true _ (false_eq e.support.left.x e.support.right.x (less_by e.support.left.x e.support.right.x wide))) in
        let of_e : IsEntryOf input e entered.0 = record { to = entered.1; support = entered.2; over = λ j few. ap (λ m. mask_bits m j) entered.3 ∙ is_label.over j few } in
        let there = passed_slanted input pieces i e from old is_turn wide entered.0 of_e k learned.bound (learned.point (partitioned input pieces i e from old is_turn _ test)) in
        (refl, is_label, (place_of e.from, subst (λ es. IsSwept input (take (i + 1) pieces) (place_of e.from) es) (sym entered.4) there))

    upright : width e.support ≡ pos 0 → pos 0 <ℤ rise e.support → Done
    upright none up =
        let test = upright_test input is_turn.valid e is_e none up in
        let stays : new ≡ on = begins.upright ((Decides-int_eq e.support.left.x e.support.right.x).1 (level e.support.left.x e.support.right.x none)) in
        (refl, labels _ test, (place_of e.from, subst (λ es. IsSwept input (take (i + 1) pieces) (place_of e.from) es) (sym stays) (passed_upright input pieces i e from old is_turn (goes_nowhere input is_turn.valid e is_e none up))))
      where
        level : (a b : ℤ) → b -ℤ a ≡ pos 0 → a ≡ b
        level a b h = omega (arith, ints)

    by_direction : Forward (width e.support) (rise e.support) → Done
    by_direction (inl wide) = slanted wide
    by_direction (inr h) = upright h.0 h.1

  passes_there : Passes e (label_of e under) old new
  passes_there input pieces i valid are inside here status =
      by_direction input pieces i status.0 (record { valid = valid; are = are; inside = inside; here = here; swept = status.1 }) (leads e.support begins.ahead)

-- passing a piece, in its parts
pub passes : (e : Elementary) (old on new : List StatusEntry) (q : Point) (k under : ℕ) (l : Labelled) → q ≡ place_of e.from → on ≡ filter (goes_on q) old → Learned e q on k under → l ≡ label_of e under → Begins k l on new → Passes e l old new
passes e old on new q k under l at left learned is begins =
    let one : Learned e (place_of e.from) on k under = subst (λ p. Learned e p on k under) at learned in
    let there : on ≡ filter (goes_on (place_of e.from)) old = left ∙ ap (λ p. filter (goes_on p) old) at in
    let two : Learned e (place_of e.from) (filter (goes_on (place_of e.from)) old) k under = subst (λ x. Learned e (place_of e.from) x k under) there one in
    let three : Begins k (label_of e under) on new = subst (λ x. Begins k x on new) is begins in
    let four : Begins k (label_of e under) (filter (goes_on (place_of e.from)) old) new = subst (λ x. Begins k (label_of e under) x new) there three in
    subst (λ x. Passes e x old new) (sym is) (passes_there e old new k under two four)
