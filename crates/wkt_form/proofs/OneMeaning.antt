-- A text has one meaning, and other bytes have one first fault.
use Rattle.std.proofs.Common.{◌≡◌, ℕ, ◌+◌, ◌<◌, ◌≤◌, inl, inr, List, [], ◌++◌, length, take, drop, refl, sym, ap, ◌∙◌, Option, Some, None, append_assoc, subst, arith}
use Rattle.std.specs.List.{All, slice_get}
use Rattle.std.proofs.lemmas.Bool.{cases_lt, cases_order}
use Rattle.std.proofs.lemmas.List.{append-nil, take-take, take-append-drop, get_or-take, length-take}
use Rattle.std.proofs.lemmas.List.Elements.{All-get_or}
use Rattle.std.proofs.lemmas.Option.{slice_get_within, slice_get-get_or, get_or_from_slice_get}
use Rattle.overlay_terms.specs.Plane.{WholePoint}
use Rattle.plane_base.specs.BaseLayer.{rings_fault}
use Rattle.plane_base.specs.declared.fault.PlaneFault.{PlaneFault}
use Rattle.wkt_form.specs.declared.fault.WktFault.{WktFault}
use Rattle.wkt_form.specs.declared.fault.WktFault.TheVariants as faults
use Rattle.wkt_form.specs.Fault.{of_rings}
use Rattle.wkt_form.specs.Token.{Token, tokens_of}
use Rattle.wkt_form.specs.Grammar.{WrittenText, text_rings, IsText, IsBegun, number_fault, IsGoodSoFar, IsFaultAt, IsFirstFault, IsWktOf}
use Rattle.wkt_form.specs.Laws.{SpellsOneLayer, HasOneFault, NeverBoth}
use Rattle.wkt_form.proofs.Progress.{Progress, whole}
use Rattle.wkt_form.proofs.FirstFault.{text_walks}

wkt_once : (bytes : List ℕ) (x y : List (List WholePoint)) → IsWktOf bytes x → IsWktOf bytes y → x ≡ y
wkt_once bytes x y a b =
    a.3 ∙ ap text_rings (same_text (sym (text_walks (tokens_of bytes) a.0 a.1) ∙ text_walks (tokens_of bytes) b.0 b.1)) ∙ sym b.3 where
      same_text : {s t : WrittenText} → ◌≡◌ {A = Option Progress} (Some (whole s)) (Some (whole t)) → s ≡ t
      same_text e = cc

pub spells_one_layer : SpellsOneLayer
spells_one_layer bytes x y a b = wkt_once bytes x y a.0 b.0

-- ==== Fronts of what begins a text

begun_front : (tokens : List Token) (n : ℕ) → IsBegun tokens → IsBegun (take n tokens)
begun_front tokens n begun = (
  drop n tokens ++ begun.0,
  subst IsText (sym (sym (append_assoc (take n tokens) (drop n tokens) begun.0) ∙ ap (λ ts. ts ++ begun.0) (take-append-drop n tokens))) begun.1,
)

begun_text : (tokens : List Token) → IsText tokens → IsBegun tokens
begun_text tokens text = ([], subst IsText (sym (append-nil tokens)) text)

-- a token within tokens that are no fault as numbers is none
good_at : (tokens : List Token) (i : ℕ) (t : Token) → All (λ u. number_fault u ≡ None) tokens → slice_get tokens i ≡ Some t → number_fault t ≡ None
good_at tokens i t good here =
    subst (λ u. number_fault u ≡ None) (get_or_from_slice_get tokens i t t here) (All-get_or (λ u. number_fault u ≡ None) tokens i t (slice_get_within tokens i t here) good)

slice_get-take : (tokens : List Token) (i j : ℕ) (t : Token) → i < j → slice_get tokens i ≡ Some t → slice_get (take j tokens) i ≡ Some t
slice_get-take tokens i j t before here =
    let within : i < length (take j tokens) = omega (arith, slice_get_within tokens i t here, length-take j tokens) in
    slice_get-get_or (take j tokens) i t within ∙ ap Some (get_or-take j tokens i t before ∙ get_or_from_slice_get tokens i t t here)

past_from_none : (tokens : List Token) (i : ℕ) (d : Token) → slice_get tokens i ≡ None → length tokens ≤ i
past_from_none tokens i d e =
    elim (cases_lt i (length tokens)) [ inl within ↦ absurd (clash (sym e ∙ slice_get-get_or tokens i d within)) | inr past ↦ past ] where
      clash : {t : Token} → ◌≡◌ {A = Option Token} None (Some t) → ⊥
      clash e = cc

number_clash : (t : Token) (f : WktFault) → number_fault t ≡ None → number_fault t ≡ Some f → ⊥
number_clash t f none some = cc

-- ==== Faults

-- a text has no first fault
no_fault_of_text : (bytes : List ℕ) (layer : List (List WholePoint)) (fault : WktFault) → IsWktOf bytes layer → IsFirstFault bytes fault → ⊥
no_fault_of_text bytes layer fault text (first) =
    by_token (slice_get (tokens_of bytes) first.0) refl first.2 where
      by_token : (o : Option Token) → slice_get (tokens_of bytes) first.0 ≡ o → IsFaultAt bytes first.0 o fault → ⊥
      by_token None e at = at.0 (text.0, text.1)
      by_token (Some t) e (inl stuck) = stuck.0 (begun_front (tokens_of bytes) (first.0 + 1) (begun_text (tokens_of bytes) (text.0, text.1)))
      by_token (Some t) e (inr wrong) = number_clash t fault (good_at (tokens_of bytes) first.0 t text.2 e) wrong.1

-- two faults at one position are one
fault_at_place : (bytes : List ℕ) (i : ℕ) (o : Option Token) (f g : WktFault) → IsFaultAt bytes i o f → IsFaultAt bytes i o g → f ≡ g
fault_at_place bytes i None f g a b = a.1 ∙ sym b.1
fault_at_place bytes i (Some t) f g (inl a) (inl b) = a.1 ∙ sym b.1
fault_at_place bytes i (Some t) f g (inl a) (inr b) = absurd (a.0 b.0)
fault_at_place bytes i (Some t) f g (inr a) (inl b) = absurd (b.0 a.0)
fault_at_place bytes i (Some t) f g (inr a) (inr b) = same_some (sym a.1 ∙ b.1) where
  same_some : Some f ≡ Some g → f ≡ g
  same_some e = cc

-- a fault at a position, and tokens that are good beyond it, leave only the end of the tokens
earlier : (bytes : List ℕ) (i j : ℕ) (o : Option Token) (f g : WktFault) → i < j → slice_get (tokens_of bytes) i ≡ o → IsFaultAt bytes i o f → IsGoodSoFar (take j (tokens_of bytes)) → IsFaultAt bytes j (slice_get (tokens_of bytes) j) g → f ≡ g
earlier bytes i j None f g before e a good b =
    a.1 ∙ sym (end_fault (slice_get (tokens_of bytes) j) refl b) where
      end_fault : (o : Option Token) → slice_get (tokens_of bytes) j ≡ o → IsFaultAt bytes j o g → g ≡ faults.Syntax (length bytes)
      end_fault None here b = b.1
      end_fault (Some t) here b = absurd (omega (arith, slice_get_within (tokens_of bytes) j t here, past_from_none (tokens_of bytes) i t e))
earlier bytes i j (Some t) f g before e (inl stuck) good b =
    absurd (stuck.0 (subst IsBegun (take-take (i + 1) j (tokens_of bytes) (omega arith)) (begun_front (take j (tokens_of bytes)) (i + 1) good.begun)))
earlier bytes i j (Some t) f g before e (inr wrong) good b =
    absurd (number_clash t f (good_at (take j (tokens_of bytes)) i t good.numbers (slice_get-take (tokens_of bytes) i j t before e)) wrong.1)

first_fault_once : (bytes : List ℕ) (f g : WktFault) → IsFirstFault bytes f → IsFirstFault bytes g → f ≡ g
first_fault_once bytes f g a b =
    elim (cases_order a.0 b.0) [
      | inl same ↦
          let there : IsFaultAt bytes b.0 (slice_get (tokens_of bytes) b.0) f = subst (λ i. IsFaultAt bytes i (slice_get (tokens_of bytes) i) f) same a.2 in
          fault_at_place bytes b.0 (slice_get (tokens_of bytes) b.0) f g there b.2
      | inr apart ↦
          elim apart [
            | inl before ↦ earlier bytes a.0 b.0 (slice_get (tokens_of bytes) a.0) f g before refl a.2 b.1 b.2
            | inr after ↦ sym (earlier bytes b.0 a.0 (slice_get (tokens_of bytes) b.0) g f after refl b.2 a.1 a.2)
          ]
    ]

pub has_one_fault : HasOneFault
has_one_fault bytes f g (inl a) (inl b) = first_fault_once bytes f g a b
has_one_fault bytes f g (inl a) (inr b) = absurd (no_fault_of_text bytes b.0 f b.2 a)
has_one_fault bytes f g (inr a) (inl b) = absurd (no_fault_of_text bytes a.0 g a.2 b)
has_one_fault bytes f g (inr a) (inr b) =
    a.4 ∙ ap of_rings (same_some (sym a.3 ∙ ap rings_fault (wkt_once bytes a.0 b.0 a.2 b.2) ∙ b.3)) ∙ sym b.4 where
      same_some : {v w : PlaneFault} → Some v ≡ Some w → v ≡ w
      same_some e = cc

pub never_both : NeverBoth
never_both bytes layer fault reads (inl first) = no_fault_of_text bytes layer fault reads.0 first
never_both bytes layer fault reads (inr wrong) =
    clash (sym reads.1 ∙ ap rings_fault (wkt_once bytes layer wrong.0 reads.0 wrong.2) ∙ wrong.3) where
      clash : {v : PlaneFault} → ◌≡◌ {A = Option PlaneFault} None (Some v) → ⊥
      clash e = cc
