-- Marked segments, compared with those of one base layer after another.
use Rattle.std.proofs.Common.{◌≡◌, ℕ, zero, suc, ◌+◌, ◌<◌, ◌≤◌, Bool, true, false, cond, ◌&&◌, List, [], ◌∷◌, ◌++◌, length, map, drop, get_or, nat_le, slice_get, All, Option, Some, None, refl, ap, sym, ◌∙◌, arith, add-one, leb-false, if◌then◌else◌, IsTrue}
use borrow.Author.Tests.{leb-true}
use Rattle.std.specs.Prelude.{◌↔◌}
use Rattle.std.specs.Cmp.Lexicographic.{pointwise}
use Rattle.std.proofs.lemmas.Bool.Decides.{Decides-eqb}
use Rattle.overlay_terms.specs.Plane.{WholePoint, Segment, segments_of}
use Rattle.overlay_terms.specs.Column.{touches}
use Rattle.overlay_terms.specs.Layers.{Name, base, derived, Layer, Marked, layers_in_reach, steps_in_reach}
use Rattle.overlay_terms.specs.Tiles.{Input, input_of}
use Rattle.overlay_terms.specs.TileLaws.{IsInput}
use Rattle.overlay_terms.specs.Trees.{Steps}
use Rattle.overlay_terms.specs.SameInput.{same_marked, same_steps, same_input, same_input-Decides}
use Rattle.overlay_terms.proofs.Lists.{drop_there}
use Rattle.arrange.specs.declared.marked_seg.MarkedSeg.{MarkedSeg}
use Rattle.arrange.specs.Marked.{kept_in, marked_of}
use Rattle.layer_book.specs.Having.{marks_in, part_in, past}
use Rattle.layer_book.specs.Question.{at_index, marked_layers}
use Rattle.layer_book.specs.Touching.{marked_in}
use Rattle.layer_book.proofs.MarkedLayers.{rings_of, marked_layers-nil}
use Rattle.layer_book.proofs.SameMarks.{mark, marked_from, first_and_rest, next_kept, next_skipped, none_left, read_is, read_there}

-- whether what is left of marked segments is the rest of the expected ones
abbrev tells : Option (List Marked) → List Marked → Bool
tells None rest = false
tells (Some left) rest = pointwise same_marked left rest

-- expected segments are compared apart from those after them
past_tells : (expected marked rest : List Marked) → pointwise same_marked marked (expected ++ rest) ≡ tells (past expected marked) rest
past_tells [] marked rest = refl
past_tells (e ∷ expected) [] rest = refl
past_tells (e ∷ expected) (m ∷ marked) rest = split (same_marked m e) (past_tells expected marked rest) where
  split : (b : Bool) → pointwise same_marked marked (expected ++ rest) ≡ tells (past expected marked) rest → (b && pointwise same_marked marked (expected ++ rest)) ≡ tells (if b then past expected marked else None) rest
  split true e = e
  split false e = refl

-- what is left in a column of marked segments from an index on
abbrev pub left_in : ℕ → List MarkedSeg → ℕ → List Marked
left_in column marked next = kept_in column (map marked_of (drop next marked))

left_there : (column : ℕ) (marked : List MarkedSeg) (at : ℕ) (m : MarkedSeg) → at < length marked → m ≡ get_or marked at m → touches column m.seg ≡ true
    → left_in column marked at ≡ marked_of m ∷ left_in column marked (at + 1)
left_there column marked at m k f t =
    ap (λ ms. kept_in column (map marked_of ms)) (drop_there marked at m k f)
    ∙ ap (λ b. cond b (marked_of m ∷ left_in column marked (at + 1)) (left_in column marked (at + 1))) t

pub left_skipped : (column : ℕ) (marked : List MarkedSeg) (at : ℕ) (m : MarkedSeg) → at < length marked → m ≡ get_or marked at m → touches column m.seg ≡ false
    → left_in column marked at ≡ left_in column marked (at + 1)
left_skipped column marked at m k f t =
    ap (λ ms. kept_in column (map marked_of ms)) (drop_there marked at m k f)
    ∙ ap (λ b. cond b (marked_of m ∷ left_in column marked (at + 1)) (left_in column marked (at + 1))) t

pub left_none : (column : ℕ) (marked : List MarkedSeg) (at : ℕ) → length marked ≤ at → left_in column marked at ≡ []
left_none column marked at h = ap (λ ms. kept_in column (map marked_of ms)) (none_left marked at h)

-- segments of a base layer in a column, and marked segments: what is left of both
module _ (column number : ℕ) (segs : List Segment) (marked : List MarkedSeg) (whole : Option (List Marked)) (i next : ℕ) (told : whole ≡ past (marks_in column number (drop i segs)) (left_in column marked next)) where
  pub past_skipped : (s : Segment) → i < length segs → s ≡ get_or segs i s → touches column s ≡ false
      → whole ≡ past (marks_in column number (drop (i + 1) segs)) (left_in column marked next)
  past_skipped s h e t = told ∙ ap (λ ss. past (map (mark number) ss) (left_in column marked next)) (next_skipped column segs i s h e t)

  expected : (s : Segment) → i < length segs → s ≡ get_or segs i s → touches column s ≡ true
      → whole ≡ past (mark number s ∷ marks_in column number (drop (i + 1) segs)) (left_in column marked next)
  expected s h e t = told ∙ ap (λ ss. past (map (mark number) ss) (left_in column marked next)) (next_kept column segs i s h e t)

  module _ (at : ℕ) (same : left_in column marked next ≡ left_in column marked at) (there : (m : MarkedSeg) → slice_get marked at ≡ Some m → touches column m.seg ≡ true) where
    both : (s : Segment) (m : MarkedSeg) (r : Bool) → i < length segs → s ≡ get_or segs i s → touches column s ≡ true → at < length marked
        → m ≡ get_or marked at m → r ≡ same_marked (marked_of m) (mark number s)
        → whole ≡ (if r then past (marks_in column number (drop (i + 1) segs)) (left_in column marked (at + 1)) else None)
    both s m r h e t k f is =
        expected s h e t ∙ ap (λ ms. past (mark number s ∷ marks_in column number (drop (i + 1) segs)) ms) (same ∙ left_there column marked at m k f (there m (read_is marked at m k f)))
        ∙ ap (λ b. if b then past (marks_in column number (drop (i + 1) segs)) (left_in column marked (at + 1)) else None) (sym is)

    pub past_more : (s : Segment) (m : MarkedSeg) (r : Bool) → i < length segs → s ≡ get_or segs i s → touches column s ≡ true → at < length marked
        → m ≡ get_or marked at m → r ≡ same_marked (marked_of m) (mark number s) → r ≡ true
        → whole ≡ past (marks_in column number (drop (i + 1) segs)) (left_in column marked (at + 1))
    past_more s m r h e t k f is holds =
        both s m r h e t k f is ∙ ap (λ b. if b then past (marks_in column number (drop (i + 1) segs)) (left_in column marked (at + 1)) else None) holds

    pub past_other : (s : Segment) (m : MarkedSeg) (r : Bool) → i < length segs → s ≡ get_or segs i s → touches column s ≡ true → at < length marked
        → m ≡ get_or marked at m → r ≡ same_marked (marked_of m) (mark number s) → r ≡ false → None ≡ whole
    past_other s m r h e t k f is fails =
        sym (both s m r h e t k f is ∙ ap (λ b. if b then past (marks_in column number (drop (i + 1) segs)) (left_in column marked (at + 1)) else None) fails)

    pub past_short : (s : Segment) → i < length segs → s ≡ get_or segs i s → touches column s ≡ true → length marked ≤ at → None ≡ whole
    past_short s h e t k =
        sym (expected s h e t ∙ ap (λ ms. past (mark number s ∷ marks_in column number (drop (i + 1) segs)) ms) (same ∙ left_none column marked at k))

  pub past_all : length segs ≤ i → Some (left_in column marked next) ≡ whole
  past_all h = sym (told ∙ ap (λ ss. past (marks_in column number ss) (left_in column marked next)) (none_left segs i h))

-- the wanted layers from an index on
marked_drop : (ws : List Bool) (layers : List Layer) (i : ℕ) (layer : Layer) → slice_get layers i ≡ Some layer
    → marked_layers (drop i ws) (drop i layers) ≡ cond (at_index ws i) (layer ∷ marked_layers (drop (suc i) ws) (drop (suc i) layers)) (marked_layers (drop (suc i) ws) (drop (suc i) layers))
marked_drop [] layers zero layer e = refl
marked_drop [] layers (suc i) layer e = refl
marked_drop (w ∷ ws) [] i layer e = cc
marked_drop (w ∷ ws) (l ∷ layers) zero layer e =
    let same : l ≡ layer = cc in
    ap (λ (m : Layer). cond w (m ∷ marked_layers ws layers) (marked_layers ws layers)) same
marked_drop (w ∷ ws) (l ∷ layers) (suc i) layer e = marked_drop ws layers i layer e

-- the wanted layers from an index on, by what is wanted there
abbrev pub from_index : List Bool → List Layer → ℕ → List Layer
from_index ws layers i = marked_layers (drop i ws) (drop i layers)

marked_here : (ws : List Bool) (layers : List Layer) (i : ℕ) (layer : Layer) (b : Bool) → slice_get layers i ≡ Some layer → at_index ws i ≡ b
    → from_index ws layers i ≡ cond b (layer ∷ from_index ws layers (i + 1)) (from_index ws layers (i + 1))
marked_here ws layers i layer b e w =
    marked_drop ws layers i layer e
    ∙ (λ k. cond (w k) (layer ∷ from_index ws layers (sym (add-one i) k)) (from_index ws layers (sym (add-one i) k)))

-- base layers and marked segments: what is left of both
module _ (column : ℕ) (ws : List Bool) (layers : List Layer) (marked : List MarkedSeg) (whole : Bool) (i number next : ℕ) (told : whole ≡ pointwise same_marked (left_in column marked next) (marked_from column number (rings_of (from_index ws layers i)))) where
  pub unwanted_passed : (layer : Layer) → slice_get layers i ≡ Some layer → at_index ws i ≡ false
      → whole ≡ pointwise same_marked (left_in column marked next) (marked_from column number (rings_of (from_index ws layers (i + 1))))
  unwanted_passed layer e w =
      told ∙ ap (λ ls. pointwise same_marked (left_in column marked next) (marked_from column number (rings_of ls))) (marked_here ws layers i layer false e w)

  wanted : (layer : Layer) → slice_get layers i ≡ Some layer → at_index ws i ≡ true
      → whole ≡ pointwise same_marked (left_in column marked next) (marked_from column number (rings_of (layer ∷ from_index ws layers (i + 1))))
  wanted layer e w =
      told ∙ ap (λ ls. pointwise same_marked (left_in column marked next) (marked_from column number (rings_of ls))) (marked_here ws layers i layer true e w)

  pub derived_passed : (layer : Layer) (expression : _) → slice_get layers i ≡ Some layer → at_index ws i ≡ true → layer.content ≡ derived expression
      → whole ≡ pointwise same_marked (left_in column marked next) (marked_from column number (rings_of (from_index ws layers (i + 1))))
  derived_passed layer expression e w is =
      wanted layer e w
      ∙ ap (λ c. pointwise same_marked (left_in column marked next) (marked_from column number (rings_of (record { name = layer.name; content = c } ∷ from_index ws layers (i + 1))))) is

  base_told : (layer : Layer) (rings : List (List WholePoint)) → slice_get layers i ≡ Some layer → at_index ws i ≡ true → layer.content ≡ base rings
      → whole ≡ tells (past (marks_in column number (segments_of rings)) (left_in column marked next)) (marked_from column (number + 1) (rings_of (from_index ws layers (i + 1))))
  base_told layer rings e w is =
      wanted layer e w
      ∙ ap (λ c. pointwise same_marked (left_in column marked next) (marked_from column number (rings_of (record { name = layer.name; content = c } ∷ from_index ws layers (i + 1))))) is
      ∙ ap (pointwise same_marked (left_in column marked next)) (first_and_rest column number rings (rings_of (from_index ws layers (i + 1))))
      ∙ past_tells (marks_in column number (segments_of rings)) (left_in column marked next) (marked_from column (number + 1) (rings_of (from_index ws layers (i + 1))))

  pub base_passed : (layer : Layer) (rings : List (List WholePoint)) (end : ℕ) → slice_get layers i ≡ Some layer → at_index ws i ≡ true → layer.content ≡ base rings
      → Some (left_in column marked end) ≡ past (marks_in column number (segments_of rings)) (left_in column marked next)
      → whole ≡ pointwise same_marked (left_in column marked end) (marked_from column (number + 1) (rings_of (from_index ws layers (i + 1))))
  base_passed layer rings end e w is there =
      base_told layer rings e w is ∙ ap (λ o. tells o (marked_from column (number + 1) (rings_of (from_index ws layers (i + 1))))) (sym there)

  pub base_other : (layer : Layer) (rings : List (List WholePoint)) → slice_get layers i ≡ Some layer → at_index ws i ≡ true → layer.content ≡ base rings
      → None ≡ past (marks_in column number (segments_of rings)) (left_in column marked next) → false ≡ whole
  base_other layer rings e w is none =
      sym (base_told layer rings e w is ∙ ap (λ o. tells o (marked_from column (number + 1) (rings_of (from_index ws layers (i + 1))))) (sym none))

  pub all_passed : (at : ℕ) → left_in column marked next ≡ left_in column marked at → ((m : MarkedSeg) → slice_get marked at ≡ Some m → touches column m.seg ≡ true)
      → length layers ≤ i → nat_le (length marked) at ≡ whole
  all_passed at same there h = split (nat_le (length marked) at) refl where
    ended : whole ≡ pointwise same_marked (left_in column marked at) []
    ended =
        told ∙ ap (λ ls. pointwise same_marked (left_in column marked next) (marked_from column number (rings_of ls)))
        (ap (marked_layers (drop i ws)) (none_left layers i h) ∙ marked_layers-nil (drop i ws))
        ∙ ap (λ ms. pointwise same_marked ms []) same

    split : (b : Bool) → nat_le (length marked) at ≡ b → b ≡ whole
    split true e = sym (ended ∙ ap (λ ms. pointwise same_marked ms []) (left_none column marked at (leb-true (length marked) at e)))
    split false e =
        let k : at < length marked = leb-false (length marked) at e in
        let m = read_there marked at k in
        sym (ended ∙ ap (λ ms. pointwise same_marked ms []) (left_there column marked at m.0 k m.2 (there m.0 m.1)))

-- an input is the present one of its column where its parts are
pub present_told : (layers : List Layer) (name : Name) (input : Input) (s m : Bool) → s ≡ same_steps input.steps (steps_in_reach layers name)
    → m ≡ pointwise same_marked input.marked (marked_in input.column (rings_of (layers_in_reach layers name))) → IsTrue (s && m) ↔ (input ≡ input_of layers name input.column)
present_told layers name input s m steps marks = (
  λ h. (same_input-Decides input present).0 (sym same ∙ h),
  λ e. same ∙ (same_input-Decides input present).1 e,
) where
  present : Input
  present = input_of layers name input.column

  turned : (a b : Bool) → (a && b) ≡ ((true && b) && a)
  turned true true = refl
  turned true false = refl
  turned false true = refl
  turned false false = refl

  same : (s && m) ≡ same_input input present
  same = turned s m ∙ (λ k. (sym ((Decides-eqb input.column input.column).1 refl) k && marks k) && steps k)

-- an input is the part in its column of its own segments
kept_all : (column : ℕ) (marked : List Marked) → All (λ m. IsTrue (touches column m.segment)) marked → kept_in column marked ≡ marked
kept_all column [] h = refl
kept_all column (m ∷ marked) h =
    ap (λ b. cond b (m ∷ kept_in column marked) (kept_in column marked)) (h 0 m (omega arith))
    ∙ ap (λ ms. m ∷ ms) (kept_all column marked (λ k d less. h (suc k) d (omega (arith, less))))

pub own_part : (input : Input) (k : ℕ) (marked : List Marked) (steps : Steps) → k ≡ input.column → marked ≡ input.marked → steps ≡ input.steps → IsInput input
    → part_in k marked steps ≡ input
own_part input k marked steps ek em es valid =
    (λ i. part_in (ek i) (em i) (es i)) ∙ ap (λ ms. record { column = input.column; marked = ms; steps = input.steps }) (kept_all input.column input.marked valid.touch)
