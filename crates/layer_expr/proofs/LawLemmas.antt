-- A text has one tree or one first fault, and never both.
use Rattle.std.proofs.Common.{◌≡◌, ℕ, zero, suc, ◌+◌, ◌<◌, ◌≤◌, ◌⊎◌, inl, inr, Bool, true, false, List, [], ◌∷◌, ◌++◌, length, take, refl, ap, sym, subst, ◌∙◌, append_assoc, arith}
use Rattle.std.specs.Prelude.{IsTrue, Option, Some, None, All, slice_get, is_some}
use Rattle.std.proofs.lemmas.List.{length-map}
use Rattle.std.proofs.lemmas.Option.{slice_get_within, get_or_from_slice_get}
use Rattle.overlay_terms.specs.Trees.{Tree}
use Rattle.layer_expr.specs.declared.fault.ExprFault.{ExprFault}
use Rattle.layer_expr.specs.declared.fault.ExprFault.TheVariants.{ExprSyntax, ExprTooLong, BadName}
use Rattle.layer_expr.specs.Token.{Token, tokens_of}
use Rattle.layer_expr.specs.Grammar.{written_tree, IsSum, IsBegun, is_name_short, IsGoodSoFar, IsFaultAt, IsRefusedBy, ReadsAs}
use Rattle.layer_expr.specs.ReaderState.{ReaderState, moved, finished, at_start}
use Rattle.layer_expr.specs.Spelling.{canonical, expression_text}
use Rattle.layer_expr.specs.Reader.{is_good}
use Rattle.layer_expr.proofs.ReaderStateLemmas.{T, one_spelling, false_is_true}
use Rattle.layer_expr.proofs.SpellingLemmas.{size, shortest, text_size, read_is_expression}
use Rattle.layer_expr.proofs.ReadingLemmas.{IsAt, is_at_start, goes_on, too_long, cannot_stand, long_name, ends_early, ends_whole}

pub one_tree : (bytes : List ℕ) (t u : Tree (List ℕ)) → ReadsAs bytes t → ReadsAs bytes u → t ≡ u
one_tree bytes t u h k =
    h.3 ∙ ap written_tree (one_spelling h.0 k.0 h.1.grouped k.1.grouped (sym h.1.spelled ∙ k.1.spelled)) ∙ sym k.3

pub fewest : (bytes : List ℕ) (tree : Tree (List ℕ)) → ReadsAs bytes tree → length (tokens_of (expression_text tree)) ≤ length (tokens_of bytes)
fewest bytes tree h =
    let w = h.0 in
    let sized : length (tokens_of bytes) ≡ size w = sym (length-map (tokens_of bytes) (λ (u : Token). u.kind)) ∙ ap length h.1.spelled in
    let few : size (canonical tree) ≤ size w = subst (λ t. size (canonical t) ≤ size w) (sym h.3) (shortest w h.1.grouped).few in
    omega (arith, text_size tree (read_is_expression bytes tree h), sized, few)

-- the first tokens among the first of more
more_taken : (ts : List Token) (i j : ℕ) → i < j → (rest : List Token) × (take j ts ≡ take (suc i) ts ++ rest)
more_taken [] zero (suc j) h = ([], refl)
more_taken [] (suc i) (suc j) h = ([], refl)
more_taken [] zero zero h = absurd (omega arith)
more_taken [] (suc i) zero h = absurd (omega arith)
more_taken (t ∷ ts) zero (suc j) h = (take j ts, refl)
more_taken (t ∷ ts) (suc i) (suc j) h =
    let ih = more_taken ts i j (omega arith) in
    (ih.0, ap (λ s. t ∷ s) ih.1)
more_taken (t ∷ ts) zero zero h = absurd (omega arith)
more_taken (t ∷ ts) (suc i) zero h = absurd (omega arith)

begun_front : (ts front rest : List Token) → ts ≡ front ++ rest → IsBegun ts → IsBegun front
begun_front ts front rest e b =
    (rest ++ b.0, subst IsSum (ap (λ us. us ++ b.0) e ∙ append_assoc front rest b.0) b.1)

taken_at : (ts : List Token) (i j : ℕ) (t : Token) → i < j → slice_get ts i ≡ Some t → slice_get (take j ts) i ≡ Some t
taken_at [] i j t h e = absurd (cc)
taken_at (u ∷ ts) zero zero t h e = absurd (omega arith)
taken_at (u ∷ ts) zero (suc j) t h e = e
taken_at (u ∷ ts) (suc i) zero t h e = absurd (omega arith)
taken_at (u ∷ ts) (suc i) (suc j) t h e = taken_at ts i j t (omega arith) e

short_at : (ts : List Token) (i : ℕ) (t : Token) → slice_get ts i ≡ Some t → All (λ token. IsTrue (is_name_short token)) ts → IsTrue (is_name_short t)
short_at ts i t e h = subst (λ u. IsTrue (is_name_short u)) (get_or_from_slice_get ts i t t e) (h i t (slice_get_within ts i t e))

-- a token among tokens that are all good is not at fault
pub no_fault : (bytes : List ℕ) (i j : ℕ) (t : Token) (f : ExprFault) → IsGoodSoFar (take j (tokens_of bytes)) → i < j → slice_get (tokens_of bytes) i ≡ Some t → IsFaultAt bytes i (Some t) f → ⊥
no_fault bytes i j t f good h e (inl full) =
    let there = slice_get_within (take j (tokens_of bytes)) i t (taken_at (tokens_of bytes) i j t h e) in
    omega (arith, full.0, there, good.few)
no_fault bytes i j t f good h e (inr (inl dead)) =
    let more = more_taken (tokens_of bytes) i j h in
    let next : suc i ≡ i + 1 = omega arith in
    dead.1 (begun_front (take j (tokens_of bytes)) (take (i + 1) (tokens_of bytes)) more.0 (more.1 ∙ ap (λ n. take n (tokens_of bytes) ++ more.0) next) good.begun)
no_fault bytes i j t f good h e (inr (inr long)) =
    let short = short_at (take j (tokens_of bytes)) i t (taken_at (tokens_of bytes) i j t h e) good.names in
    false_is_true (sym long.2 ∙ short)

-- the fault at a place
same_at : (bytes : List ℕ) (i : ℕ) (o : Option Token) (f g : ExprFault) → IsFaultAt bytes i o f → IsFaultAt bytes i o g → f ≡ g
same_at bytes i None f g h k = h.1 ∙ sym k.1
same_at bytes i (Some t) f g (inl h) (inl k) = h.1 ∙ sym k.1
same_at bytes i (Some t) f g (inl h) (inr (inl k)) = absurd (omega (arith, h.0, k.0))
same_at bytes i (Some t) f g (inl h) (inr (inr k)) = absurd (omega (arith, h.0, k.0))
same_at bytes i (Some t) f g (inr (inl h)) (inl k) = absurd (omega (arith, h.0, k.0))
same_at bytes i (Some t) f g (inr (inr h)) (inl k) = absurd (omega (arith, h.0, k.0))
same_at bytes i (Some t) f g (inr (inl h)) (inr (inl k)) = h.2 ∙ sym k.2
same_at bytes i (Some t) f g (inr (inl h)) (inr (inr k)) = absurd (h.1 k.1)
same_at bytes i (Some t) f g (inr (inr h)) (inr (inl k)) = absurd (k.1 h.1)
same_at bytes i (Some t) f g (inr (inr h)) (inr (inr k)) = h.3 ∙ sym k.3

none_past : (ts : List Token) (i j : ℕ) → i < j → slice_get ts i ≡ None → slice_get ts j ≡ None
none_past [] i j h e = refl
none_past (t ∷ ts) zero j h e = absurd (cc)
none_past (t ∷ ts) (suc i) zero h e = absurd (omega arith)
none_past (t ∷ ts) (suc i) (suc j) h e = none_past ts i j (omega arith) e

-- an earlier fault beside a later one: both are at the end
earlier_by : (bytes : List ℕ) (i j : ℕ) (o : Option Token) (f g : ExprFault) → i < j → slice_get (tokens_of bytes) i ≡ o → IsFaultAt bytes i o f → IsGoodSoFar (take j (tokens_of bytes)) → IsFaultAt bytes j (slice_get (tokens_of bytes) j) g → f ≡ g
earlier_by bytes i j (Some t) f g h e fault good other = absurd (no_fault bytes i j t f good h e fault)
earlier_by bytes i j None f g h e fault good other =
    let end : IsFaultAt bytes j None g = subst (λ o. IsFaultAt bytes j o g) (none_past (tokens_of bytes) i j h e) other in
    fault.1 ∙ sym end.1

three_ways : (i j : ℕ) → (i < j) ⊎ (i ≡ j) ⊎ (j < i)
three_ways zero zero = inr (inl refl)
three_ways zero (suc j) = inl (omega arith)
three_ways (suc i) zero = inr (inr (omega arith))
three_ways (suc i) (suc j) = one_more (three_ways i j) where
  one_more : (i < j) ⊎ (i ≡ j) ⊎ (j < i) → (suc i < suc j) ⊎ (suc i ≡ suc j) ⊎ (suc j < suc i)
  one_more (inl h) = inl (omega arith)
  one_more (inr (inl h)) = inr (inl (ap suc h))
  one_more (inr (inr h)) = inr (inr (omega arith))

faults_by : (bytes : List ℕ) (f g : ExprFault) (h : IsRefusedBy bytes f) (k : IsRefusedBy bytes g) → (h.0 < k.0) ⊎ (h.0 ≡ k.0) ⊎ (k.0 < h.0) → f ≡ g
faults_by bytes f g h k (inl less) = earlier_by bytes h.0 k.0 (slice_get (tokens_of bytes) h.0) f g less refl h.2 k.1 k.2
faults_by bytes f g h k (inr (inl same)) = same_at bytes k.0 (slice_get (tokens_of bytes) k.0) f g (subst (λ i. IsFaultAt bytes i (slice_get (tokens_of bytes) i) f) same h.2) k.2
faults_by bytes f g h k (inr (inr more)) = sym (earlier_by bytes k.0 h.0 (slice_get (tokens_of bytes) k.0) g f more refl k.2 h.1 h.2)

pub one_fault : (bytes : List ℕ) (f g : ExprFault) → IsRefusedBy bytes f → IsRefusedBy bytes g → f ≡ g
one_fault bytes f g h k = faults_by bytes f g h k (three_ways h.0 k.0)

-- read and refused
read_by : (bytes : List ℕ) (t : Tree (List ℕ)) (i : ℕ) (o : Option Token) (f : ExprFault) → ReadsAs bytes t → slice_get (tokens_of bytes) i ≡ o → IsFaultAt bytes i o f → ⊥
read_by bytes t i None f h e fault = fault.0 (h.0, h.1)
read_by bytes t i (Some u) f h e fault =
    let ts = tokens_of bytes in
    let inside = slice_get_within ts i u e in
    let good = subst IsGoodSoFar (sym (all_of ts)) h.2 in
    no_fault bytes i (length ts) u f good inside e fault where
      all_of : (ts : List Token) → take (length ts) ts ≡ ts
      all_of [] = refl
      all_of (t ∷ ts) = ap (λ s. t ∷ s) (all_of ts)

pub never_both : (bytes : List ℕ) (t : Tree (List ℕ)) (f : ExprFault) → ReadsAs bytes t → ¬ (IsRefusedBy bytes f)
never_both bytes t f h k = read_by bytes t k.0 (slice_get (tokens_of bytes) k.0) f h refl k.2

-- read or refused
abbrev Decided : List ℕ → Type 0
Decided bytes = ((t : Tree (List ℕ)) × ReadsAs bytes t) ⊎ ((f : ExprFault) × IsRefusedBy bytes f)

ended : (bytes : List ℕ) (count : ℕ) (s : ReaderState (Tree (List ℕ))) (o : Option (Tree (List ℕ))) → IsAt bytes count [] s → finished T s ≡ o → Decided bytes
ended bytes count s None h e = inr (ExprSyntax (length bytes), ends_early bytes count [] s h refl e)
ended bytes count s (Some tree) h e = inl (tree, ends_whole bytes count [] s tree h refl e)

-- at a token, if the rest is decided wherever the reader is after it
abbrev Later : List ℕ → List Token → Type 0
Later bytes more = (count : ℕ) (u : ReaderState (Tree (List ℕ))) → IsAt bytes count more u → Decided bytes

module _ (bytes : List ℕ) (count : ℕ) (s : ReaderState (Tree (List ℕ))) (t : Token) (more : List Token) (h : IsAt bytes count (t ∷ more) s) (later : Later bytes more) where
  by_name : count < 64 → (u : ReaderState (Tree (List ℕ))) (b : Bool) → moved T t.kind s ≡ Some u → is_good t.kind ≡ b → Decided bytes
  by_name few u true e g = later (count + 1) u (goes_on bytes count (t ∷ more) more s u t h few refl e g)
  by_name few u false e g = inr (BadName, long_name bytes count (t ∷ more) s t more h refl few g (ap is_some e))

  by_step : count < 64 → (o : Option (ReaderState (Tree (List ℕ)))) → moved T t.kind s ≡ o → Decided bytes
  by_step few None e = inr (ExprSyntax t.at, cannot_stand bytes count (t ∷ more) s t more h refl few e)
  by_step few (Some u) e = by_name few u (is_good t.kind) e refl

  by_count : (count < 64) ⊎ (count ≡ 64) ⊎ (64 < count) → Decided bytes
  by_count (inl few) = by_step few (moved T t.kind s) refl
  by_count (inr (inl full)) = inr (ExprTooLong, too_long bytes count (t ∷ more) s t more h refl full)
  by_count (inr (inr over)) = absurd (omega (arith, h.few))

decided : (left : List Token) (bytes : List ℕ) (count : ℕ) (s : ReaderState (Tree (List ℕ))) → IsAt bytes count left s → Decided bytes
decided [] bytes count s h = ended bytes count s (finished T s) h refl
decided (t ∷ more) bytes count s h = by_count bytes count s t more h (λ n u at. decided more bytes n u at) (three_ways count 64)

pub read_or_refused : (bytes : List ℕ) → ((t : Tree (List ℕ)) × ReadsAs bytes t) ⊎ ((f : ExprFault) × IsRefusedBy bytes f)
read_or_refused bytes = decided (tokens_of bytes) bytes 0 at_start (is_at_start bytes)
