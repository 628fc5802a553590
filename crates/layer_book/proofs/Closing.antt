-- How marks spread from a layer to what it names.
use Rattle.std.proofs.Common.{◌≡◌, ℕ, zero, suc, ◌+◌, ◌<◌, ◌≤◌, inl, inr, Bool, true, false, cond, ◌||◌, nat_lt, List, [], ◌∷◌, ◌++◌, length, slice_get, slice_set, Some, refl, ap, sym, ◌∙◌, subst, arith, ltb-true, bytes_eq}
use Rattle.std.specs.List.{list_all}
use Rattle.std.specs.Option.{option_map_or}
use Rattle.std.proofs.lemmas.Bool.{both_ways, and_parts, and_from, or_left, cases_order}
use Rattle.std.proofs.lemmas.Bool.Decides.{nat_tests}
use Rattle.overlay_terms.specs.Layers.{Name, base, Layer}
use Rattle.overlay_terms.specs.Commands.{index_of, stands}
use Rattle.overlay_terms.specs.Orderly.{used_names, is_among, is_orderly_after}
use Rattle.layer_book.specs.Question.{content_at, at_index, is_wanted, marked}
use Rattle.layer_book.proofs.Names.{stands_is}
use Rattle.layer_book.proofs.Order.{head_of}
use Rattle.overlay_terms.proofs.NameLemmas.{list_all_so, is_among-push}
use Rattle.layer_book.proofs.Answering.{layer_there}

set_keeps : (ws : List Bool) (i k : ℕ) → at_index ws k ≡ true → at_index (slice_set ws i true) k ≡ true
set_keeps [] i k h = h
set_keeps (w ∷ ws) zero zero h = refl
set_keeps (w ∷ ws) zero (suc k) h = h
set_keeps (w ∷ ws) (suc i) zero h = h
set_keeps (w ∷ ws) (suc i) (suc k) h = set_keeps ws i k h

set_marks : (ws : List Bool) (i : ℕ) → i < length ws → at_index (slice_set ws i true) i ≡ true
set_marks [] i h = absurd (omega arith)
set_marks (w ∷ ws) zero h = refl
set_marks (w ∷ ws) (suc i) h = set_marks ws i (omega arith)

set_beyond : (ws : List Bool) (i k : ℕ) → i < k → at_index (slice_set ws i true) k ≡ at_index ws k
set_beyond [] i k h = refl
set_beyond (w ∷ ws) zero zero h = absurd (omega arith)
set_beyond (w ∷ ws) zero (suc k) h = refl
set_beyond (w ∷ ws) (suc i) zero h = absurd (omega arith)
set_beyond (w ∷ ws) (suc i) (suc k) h = set_beyond ws i k (omega arith)

set_length : (ws : List Bool) (i : ℕ) → length (slice_set ws i true) ≡ length ws
set_length [] i = refl
set_length (w ∷ ws) zero = refl
set_length (w ∷ ws) (suc i) = ap suc (set_length ws i)

marked_keeps : (layers : List Layer) (ws : List Bool) (us : List Name) (k : ℕ) → at_index ws k ≡ true → at_index (marked layers ws us) k ≡ true
marked_keeps layers ws [] k h = h
marked_keeps layers ws (u ∷ us) k h = marked_keeps layers (slice_set ws (index_of layers u) true) us k (set_keeps ws (index_of layers u) k h)

abbrev pub before : List Layer → ℕ → Name → Bool
before layers i used = nat_lt (index_of layers used) i

marked_beyond : (layers : List Layer) (ws : List Bool) (us : List Name) (i k : ℕ) → i ≤ k → list_all (before layers i) us ≡ true → at_index (marked layers ws us) k ≡ at_index ws k
marked_beyond layers ws [] i k h a = refl
marked_beyond layers ws (u ∷ us) i k h a =
    let both = and_parts (before layers i u) (list_all (before layers i) us) a in
    let near : index_of layers u < k = omega (arith, ltb-true _ _ both.0) in
    marked_beyond layers (slice_set ws (index_of layers u) true) us i k h both.1 ∙ set_beyond ws (index_of layers u) k near

marked_all : (layers : List Layer) (ws : List Bool) (us : List Name) (i : ℕ) → i ≤ length ws → list_all (before layers i) us ≡ true → list_all (is_wanted layers (marked layers ws us)) us ≡ true
marked_all layers ws [] i h a = refl
marked_all layers ws (u ∷ us) i h a =
    let both = and_parts (before layers i u) (list_all (before layers i) us) a in
    let near : index_of layers u < length ws = omega (arith, ltb-true _ _ both.0) in
    let same : length (slice_set ws (index_of layers u) true) ≡ length ws = set_length ws (index_of layers u) in
    and_from _ _ (marked_keeps layers (slice_set ws (index_of layers u) true) us (index_of layers u) (set_marks ws (index_of layers u) near))
    (marked_all layers (slice_set ws (index_of layers u) true) us i (omega arith) both.1)

by_indices : (a b : Bool) (u j : ℕ) → ((a || b) || nat_lt u j) ≡ true → (a || nat_lt (cond b 0 (u + 1)) (suc j)) ≡ true
by_indices true b u j h = refl
by_indices false true u j h = grind (arith, nat_tests)
by_indices false false u j h = grind (arith, nat_tests)

used_before : (known : List Name) (layers : List Layer) (i : ℕ) (layer : Layer) → is_orderly_after known layers ≡ true → slice_get layers i ≡ Some layer → list_all (λ u. is_among known u || before layers i u) (used_names layer.content) ≡ true
used_before known [] i layer h e = cc
used_before known (l ∷ layers) zero layer h e =
    let same : l ≡ layer = cc in
    subst (λ (m : Layer). list_all (λ u. is_among known u || before (l ∷ layers) 0 u) (used_names m.content) ≡ true) same
    (list_all_so (is_among known) (λ u. is_among known u || before (l ∷ layers) 0 u) (λ u k. or_left _ _ k) (used_names l.content) (head_of known l layers h).earlier)
used_before known (l ∷ layers) (suc i) layer h e =
    list_all_so (λ u. is_among (known ++ l.name ∷ []) u || before layers i u) (λ u. is_among known u || before (l ∷ layers) (suc i) u)
    (λ u k. by_indices (is_among known u) (bytes_eq l.name u) (index_of layers u) i (sym (ap (λ b. b || before layers i u) (is_among-push known l.name u)) ∙ k))
    (used_names layer.content) (used_before (known ++ l.name ∷ []) layers i layer (head_of known l layers h).behind e)

-- what marked layers from an index on name is marked
abbrev pub IsClosedFrom : List Layer → List Bool → ℕ → Type 0
IsClosedFrom layers ws from =
    (i : ℕ) (layer : Layer) → from ≤ i → slice_get layers i ≡ Some layer → at_index ws i ≡ true → list_all (is_wanted layers ws) (used_names layer.content) ≡ true

some_same : (l m : Layer) → Some l ≡ Some m → l ≡ m
some_same l m e = cc

past_end : (layers : List Layer) (i : ℕ) (layer : Layer) → length layers ≤ i → slice_get layers i ≡ Some layer → ⊥
past_end [] i layer h e = cc
past_end (l ∷ layers) zero layer h e = omega arith
past_end (l ∷ layers) (suc i) layer h e = past_end layers i layer (omega arith) e

-- there is no layer there
pub closed_at_end : (layers : List Layer) (ws : List Bool) → IsClosedFrom layers ws (length layers)
closed_at_end layers ws i layer h e m = absurd (past_end layers i layer h e)

-- one layer more, from the last to the first
closed_on : (layers : List Layer) (ws : List Bool) (k : ℕ) (l : Layer) (b : Bool) → k < length ws → at_index ws k ≡ b → slice_get layers k ≡ Some l → list_all (before layers k) (used_names l.content) ≡ true → IsClosedFrom layers ws (suc k) → IsClosedFrom layers (cond b (marked layers ws (used_names l.content)) ws) k
closed_on layers ws k l true n at ek near closed i layer from e m =
    elim (cases_order k i) [
      | inl here ↦
          let same : l ≡ layer = some_same l layer (sym ek ∙ ap (slice_get layers) here ∙ e) in
          subst (λ (one : Layer). list_all (is_wanted layers (marked layers ws (used_names l.content))) (used_names one.content) ≡ true) same (marked_all layers ws (used_names l.content) k (omega arith) near)
      | inr other ↦ elim other [
        | inl later ↦
            list_all_so (is_wanted layers ws) (is_wanted layers (marked layers ws (used_names l.content))) (λ u w. marked_keeps layers ws (used_names l.content) (index_of layers u) w) (used_names layer.content)
            (closed i layer (omega arith) e (sym (marked_beyond layers ws (used_names l.content) k i from near) ∙ m))
        | inr earlier ↦ absurd (omega arith)
      ]
    ]
closed_on layers ws k l false n at ek near closed i layer from e m =
    elim (cases_order k i) [
      | inl here ↦ absurd (both_ways (at_index ws k) at (ap (at_index ws) here ∙ m))
      | inr other ↦ elim other [ inl later ↦ closed i layer (omega arith) e m | inr earlier ↦ absurd (omega arith) ]
    ]

pub closed_more : (layers : List Layer) (ws : List Bool) (k : ℕ) → is_orderly_after [] layers ≡ true → k < length layers → length layers ≤ length ws → IsClosedFrom layers ws (suc k) → IsClosedFrom layers (cond (at_index ws k) (marked layers ws (used_names (content_at layers k))) ws) k
closed_more layers ws k h hk n closed =
    let there = layer_there layers k hk in
    let made : content_at layers k ≡ there.0.content = ap (λ o. option_map_or (λ (l : Layer). l.content) o (base [])) there.1 in
    subst (λ c. IsClosedFrom layers (cond (at_index ws k) (marked layers ws (used_names c)) ws) k) (sym made)
    (closed_on layers ws k there.0 (at_index ws k) (omega arith) refl there.1 (used_before [] layers k there.0 h there.1) closed)

-- the marks keep the asked one, and their length
pub kept_marks : (layers : List Layer) (ws : List Bool) (k i : ℕ) → at_index ws i ≡ true → at_index (cond (at_index ws k) (marked layers ws (used_names (content_at layers k))) ws) i ≡ true
kept_marks layers ws k i h = split (at_index ws k) where
  split : (b : Bool) → at_index (cond b (marked layers ws (used_names (content_at layers k))) ws) i ≡ true
  split true = marked_keeps layers ws (used_names (content_at layers k)) i h
  split false = h

pub first_mark : (ws made : List Bool) (i k : ℕ) → made ≡ slice_set ws i true → i ≡ k → k < length made → at_index made k ≡ true
first_mark ws made i k e same h =
    let room : k < length ws = omega (arith, ap length e, set_length ws i) in
    ap (λ marks. at_index marks k) e ∙ ap (λ n. at_index (slice_set ws n true) k) same ∙ set_marks ws k room

pub near_index : (layers : List Layer) (name : Name) → stands layers name ≡ true → index_of layers name < length layers
near_index layers name h = ltb-true _ _ (sym (stands_is layers name) ∙ h)
