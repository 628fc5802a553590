-- Windows add up to their core, and what is found in each is of the features.
use Rattle.std.proofs.Common.{◌≡◌, ℕ, zero, suc, pos, ◌<◌, ◌≤◌, ◌==◌, ◌<ℤ◌, ◌≤ℤ◌, ◌&&◌, refl, ap, sym, ◌∙◌, arith, true, false, Bool, List, [], ◌∷◌, length, count_by, if◌then◌else◌}
use Rattle.std.specs.Prelude.{nat_lt}
use Rattle.std.proofs.lemmas.Bool.Decides.{Decides-eqb, nat_tests}
use Rattle.std.proofs.lemmas.Int.{ints}
use Rattle.overlay_terms.specs.Plane.{WholePoint, Point, is_inside, segments_of}
use Rattle.overlay_terms.specs.Trees.{Steps, steps_value}
use Rattle.overlay_terms.proofs.ClosedLayers.{count-map}
use Rattle.overlay_terms.proofs.InputNumbers.{most_back}
use Rattle.map_window.specs.Window.{Box, IsIn}
use Rattle.near_steps.specs.Cores.{box_of}
use Rattle.feature_windows.specs.Shown.{rings_at}
use Rattle.feature_windows.specs.Layers.{corners_of, layer_rings, HasLayers}
use Rattle.feature_windows.specs.Parts.{holds}
use Rattle.feature_windows.specs.Laws.{layer_bits, IsWithinCore, PiecesAreOfFeatures, WindowsAddUp}
use Rattle.feature_windows.specs.declared.window.Window.{Window}
use Rattle.feature_windows.proofs.BorderLemmas.{border_is}
use Rattle.feature_windows.proofs.ShownLemmas.{at_push, none}

-- ---- what the layers of a window are at a point of its core
true_false : {A : Type 0} (b : Bool) → b ≡ true → b ≡ false → A
true_false true e f = absurd (cc)
true_false false e f = absurd (cc)

not_less : (k n : ℕ) → n ≤ k → nat_lt k n ≡ false
not_less k n h = grind (arith, nat_tests)

is_less : (k n : ℕ) → k < n → nat_lt k n ≡ true
is_less k n h = grind (arith, nat_tests)

less_is : (k n : ℕ) → nat_lt k n ≡ true → k < n
less_is k n h = grind (arith, nat_tests)

rings_past : (k : ℕ) (layers : List (List (List WholePoint))) → length layers ≤ k → rings_at k layers ≡ []
rings_past k [] h = refl
rings_past zero (one ∷ layers) h = absurd (omega (arith, h))
rings_past (suc k) (one ∷ layers) h = rings_past k layers (omega (arith, h))

module _ (core : Box) (count : ℕ) (rings : ℕ → List (List WholePoint)) (layers : List (List (List WholePoint))) (has : HasLayers core count rings layers) (q : Point) (positive : pos 0 <ℤ q.w) (here : IsIn core q) where
  wide : core.low_x ≤ℤ core.high_x
  wide = let l = here.left in let r = here.right in most_back core.low_x core.high_x q.w positive (omega (arith, ints))

  tall : core.low_y ≤ℤ core.high_y
  tall = let l = here.low in let r = here.high in most_back core.low_y core.high_y q.w positive (omega (arith, ints))

  own : (k : ℕ) (e f : Bool) → (length has.kept == k) ≡ e → nat_lt k count ≡ f
      → is_inside (segments_of (if e then corners_of core ∷ [] else rings_at k has.kept)) q ≡ (if f then is_inside (segments_of (rings k)) q else ((k == count) && holds core q))
  own k true true e f =
      let same : length has.kept ≡ k = (Decides-eqb (length has.kept) k).0 e in
      let lt : k < count = less_is k count f in
      absurd (omega (arith, same, lt, has.count_is))
  own k true false e f =
      let same : length has.kept ≡ k = (Decides-eqb (length has.kept) k).0 e in
      let yes : (k == count) ≡ true = (Decides-eqb k count).1 (sym same ∙ has.count_is) in
      border_is core q wide tall positive ∙ sym (ap (λ b. b && holds core q) yes)
  own k false true e f = ((has.each k (less_is k count f)).shows q positive here).inside
  own k false false e f =
      let past : length has.kept ≤ k = at_least f in
      let other : (k == count) ≡ false = differs (k == count) refl in
      ap (λ rs. is_inside (segments_of rs) q) (rings_past k has.kept past) ∙ sym (ap (λ b. b && holds core q) other) where
        at_least : nat_lt k count ≡ false → length has.kept ≤ k
        at_least h = let n : length has.kept ≡ count = has.count_is in let m : count ≤ k = grind (arith, nat_tests) in omega (arith, n, m)

        differs : (b : Bool) → (k == count) ≡ b → b ≡ false
        differs true g =
            let is : k ≡ count = (Decides-eqb k count).0 g in
            true_false (length has.kept == k) ((Decides-eqb (length has.kept) k).1 (has.count_is ∙ sym is)) e
        differs false g = refl

  pub bits_are : (k : ℕ) → is_inside (segments_of (rings_at k layers)) q ≡ layer_bits core count rings q k
  bits_are k =
      ap (λ ls. is_inside (segments_of (rings_at k ls)) q) has.all ∙ ap (λ rs. is_inside (segments_of rs) q) (at_push k has.kept (corners_of core ∷ []))
      ∙ own k (length has.kept == k) (nat_lt k count) refl refl

pub of_features : PiecesAreOfFeatures
of_features features members count window steps pieces has are = record {
  strip = are.strip;
  first = are.first;
  last = are.last;
  marked = are.marked;
  sided = are.sided;
  shows = λ q positive here.
      are.shows q positive here
      ∙ ap (steps_value steps) (λ i k. bits_are (box_of window.core) count (layer_rings features members) window.layers.items has q positive here k i);
}

-- ---- an expression within a core
module _ (count : ℕ) (rings : ℕ → List (List WholePoint)) (steps : Steps) (within : IsWithinCore steps count) (q : Point) where
  -- what it is where the core has the point, or has not
  abbrev value : Bool → Bool
  value b = steps_value steps (λ k. if nat_lt k count then is_inside (segments_of (rings k)) q else ((k == count) && b))

  no_last : (if nat_lt count count then is_inside (segments_of (rings count)) q else ((count == count) && false)) ≡ false
  no_last = rw (not_less count count (omega arith)) (and_false (count == count)) where
    and_false : (b : Bool) → (b && false) ≡ false
    and_false true = refl
    and_false false = refl

  held : (b : Bool) → value b ≡ (b && value true)
  held true = refl
  held false = within (λ k. if nat_lt k count then is_inside (segments_of (rings k)) q else ((k == count) && false)) no_last

  windows_counted : (t : Bool) → value true ≡ t → (ws : List Window)
      → count_by (λ (w : Window). value (holds (box_of w.core) q)) ws ≡ (if t then count_by (λ (w : Window). holds (box_of w.core) q) ws else 0)
  windows_counted true e ws =
      let same : (b : Bool) → value b ≡ b = λ b. held b ∙ ap (λ v. b && v) e ∙ with_true b in
      ap (λ (f : Window → Bool). count_by f ws) (λ i w. same (holds (box_of w.core) q) i) where
        with_true : (b : Bool) → (b && true) ≡ b
        with_true true = refl
        with_true false = refl
  windows_counted false e ws =
      let never : (b : Bool) → value b ≡ false = λ b. held b ∙ ap (λ v. b && v) e ∙ with_false b in
      ap (λ (f : Window → Bool). count_by f ws) (λ i w. never (holds (box_of w.core) q) i) ∙ none ws where
        with_false : (b : Bool) → (b && false) ≡ false
        with_false true = refl
        with_false false = refl

  abbrev once_if : Bool → ℕ
  once_if b = if b then 1 else 0

  both_ways : (h t : Bool) → value true ≡ t → (if t then once_if h else 0) ≡ once_if (value h)
  both_ways true true e = ap once_if (sym e)
  both_ways true false e = ap once_if (sym e)
  both_ways false true e = ap once_if (sym (held false))
  both_ways false false e = ap once_if (sym (held false))

pub add_up : WindowsAddUp
add_up features members count core windows steps q are within positive =
    let rings : ℕ → List (List WholePoint) = layer_rings features members in
    let t : Bool = value count rings steps within q true in
    windows_counted count rings steps within q t refl windows
    ∙ ap (λ (n : ℕ). if t then n else 0) (sym (count-map (λ part. holds part q) (λ (w : Window). box_of w.core) windows) ∙ are.made_up.once q positive)
    ∙ both_ways count rings steps within q (holds (box_of core) q) t refl
