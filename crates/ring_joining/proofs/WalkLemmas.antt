-- A walk along next pieces comes back to where it began, without a piece passed twice.
use Rattle.std.proofs.Common.{◌≡◌, ◌⊎◌, ℕ, zero, suc, ◌+◌, ◌<◌, ◌≤◌, Bool, true, false, List, [], ◌∷◌, length, get_or, set, inl, inr, refl, sym, subst, ◌∙◌, arith}
use Rattle.std.proofs.lemmas.List.{get_or-set_same, get_or-set_other}
use Rattle.std.proofs.lemmas.Bool.{cases_eq}
use Rattle.ring_joining.specs.declared.piece.NumberedPiece.{NumberedPiece}
use Rattle.ring_joining.specs.Following.{next_of, AreNexts, IsWhole}

-- how many flags are not set
abbrev pub clear : List Bool → ℕ
clear [] = 0
clear (true ∷ bs) = clear bs
clear (false ∷ bs) = 1 + clear bs

clear_all : (bs : List Bool) → clear bs ≤ length bs
clear_all [] = omega arith
clear_all (true ∷ bs) =
    let one : clear (true ∷ bs) ≡ clear bs = refl in
    omega (arith, one, clear_all bs)
clear_all (false ∷ bs) =
    let one : clear (false ∷ bs) ≡ 1 + clear bs = refl in
    omega (arith, one, clear_all bs)

clear_set : (bs : List Bool) (i : ℕ) → i < length bs → get_or bs i true ≡ false → clear (set bs i true) + 1 ≡ clear bs
clear_set [] i h off = absurd (omega (arith, h))
clear_set (true ∷ bs) zero h off = absurd (cc)
clear_set (false ∷ bs) zero h off =
    let new : clear (set (false ∷ bs) zero true) ≡ clear bs = refl in
    let old : clear (false ∷ bs) ≡ 1 + clear bs = refl in
    omega (arith, new, old)
clear_set (true ∷ bs) (suc i) h off = clear_set bs i (omega (arith, h)) off
clear_set (false ∷ bs) (suc i) h off =
    let new : clear (set (false ∷ bs) (suc i) true) ≡ 1 + clear (set bs i true) = refl in
    let old : clear (false ∷ bs) ≡ 1 + clear bs = refl in
    omega (arith, new, old, clear_set bs i (omega (arith, h)) off)

-- after k pieces of a ring, before the one at a place
pub record IsWalking (pieces : List NumberedPiece) (nexts : List ℕ) (start at k : ℕ) (passed : List Bool) : Type 0 where
  pub off : (d : Bool) → get_or passed at d ≡ false
  pub before : (at ≡ start) ⊎ ((j : ℕ) × (j < length pieces) × ((d : Bool) → get_or passed j d ≡ true) × (next_of nexts j ≡ at))
  pub back : (i : ℕ) (d : Bool) → i < length pieces → get_or passed (next_of nexts i) d ≡ true → (get_or passed i d ≡ true) ⊎ (next_of nexts i ≡ start)
  pub few : clear passed + k ≤ length pieces

pub walk_starts : (pieces : List NumberedPiece) (nexts : List ℕ) (start : ℕ) (passed : List Bool) → IsWhole pieces nexts passed → ((d : Bool) → get_or passed start d ≡ false)
    → length passed ≡ length pieces → IsWalking pieces nexts start start 0 passed
walk_starts pieces nexts start passed whole off l = record {
  off = off;
  before = inl refl;
  back = λ i d m on. inl (whole i d m on);
  few = omega (arith, clear_all passed, l);
}

both : (b : Bool) → b ≡ true → b ≡ false → ⊥
both true e f = absurd (cc)
both false e f = absurd (cc)

-- a flag after another was set
kept : (passed : List Bool) (at i : ℕ) (d : Bool) → at < length passed → get_or passed i d ≡ true → get_or (set passed at true) i d ≡ true
kept passed at i d h on = by (cases_eq i at)
  where
    by : (i ≡ at) ⊎ (i ≡ at → ⊥) → get_or (set passed at true) i d ≡ true
    by (inl e) = subst (λ j. get_or (set passed at true) j d ≡ true) (sym e) (get_or-set_same passed at true d h)
    by (inr o) = get_or-set_other passed at i true d o ∙ on

was : (passed : List Bool) (at i : ℕ) (d : Bool) → get_or (set passed at true) i d ≡ true → (i ≡ at) ⊎ (get_or passed i d ≡ true)
was passed at i d on = by (cases_eq i at)
  where
    by : (i ≡ at) ⊎ (i ≡ at → ⊥) → (i ≡ at) ⊎ (get_or passed i d ≡ true)
    by (inl e) = inl e
    by (inr o) = inr (sym (get_or-set_other passed at i true d o) ∙ on)

-- the piece before the one at a place was passed
from_before : (pieces : List NumberedPiece) (nexts : List ℕ) (start at k i : ℕ) (passed : List Bool) → AreNexts pieces nexts → IsWalking pieces nexts start at k passed
    → i < length pieces → next_of nexts i ≡ at → (at ≡ start) ⊎ ((d : Bool) → get_or passed i d ≡ true)
from_before pieces nexts start at k i passed n w m e = by w.before
  where
    by : (at ≡ start) ⊎ ((j : ℕ) × (j < length pieces) × ((d : Bool) → get_or passed j d ≡ true) × (next_of nexts j ≡ at)) → (at ≡ start) ⊎ ((d : Bool) → get_or passed i d ≡ true)
    by (inl s) = inl s
    by (inr (j, l, on, f)) = inr (λ d. subst (λ x. get_or passed x d ≡ true) (n.once j i l m (f ∙ sym e)) (on d))

-- the piece after it was not, unless the ring is closed
fresh : (pieces : List NumberedPiece) (nexts : List ℕ) (start at k : ℕ) (passed : List Bool) → AreNexts pieces nexts → IsWalking pieces nexts start at k passed
    → at < length pieces → (next_of nexts at ≡ start → ⊥) → (d : Bool) → get_or (set passed at true) (next_of nexts at) d ≡ false
fresh pieces nexts start at k passed n w m away d = by (get_or (set passed at true) (next_of nexts at) d) refl
  where
    old : (get_or passed at d ≡ true) ⊎ (next_of nexts at ≡ start) → ⊥
    old (inl on) = both (get_or passed at d) on (w.off d)
    old (inr s) = away s

    own : next_of nexts at ≡ at → (at ≡ start) ⊎ ((d : Bool) → get_or passed at d ≡ true) → ⊥
    own e (inl s) = away (e ∙ s)
    own e (inr on) = both (get_or passed at d) (on d) (w.off d)

    no : (next_of nexts at ≡ at) ⊎ (get_or passed (next_of nexts at) d ≡ true) → ⊥
    no (inl e) = own e (from_before pieces nexts start at k at passed n w m e)
    no (inr on) = old (w.back at d m on)

    by : (b : Bool) → get_or (set passed at true) (next_of nexts at) d ≡ b → get_or (set passed at true) (next_of nexts at) d ≡ false
    by true e = absurd (no (was passed at (next_of nexts at) d e))
    by false e = e

back_more : (pieces : List NumberedPiece) (nexts : List ℕ) (start at k : ℕ) (passed : List Bool) → AreNexts pieces nexts → IsWalking pieces nexts start at k passed → at < length passed
    → (i : ℕ) (d : Bool) → i < length pieces → get_or (set passed at true) (next_of nexts i) d ≡ true → (get_or (set passed at true) i d ≡ true) ⊎ (next_of nexts i ≡ start)
back_more pieces nexts start at k passed n w h i d m on = by (was passed at (next_of nexts i) d on)
  where
    old : (get_or passed i d ≡ true) ⊎ (next_of nexts i ≡ start) → (get_or (set passed at true) i d ≡ true) ⊎ (next_of nexts i ≡ start)
    old (inl o) = inl (kept passed at i d h o)
    old (inr s) = inr s

    own : next_of nexts i ≡ at → (at ≡ start) ⊎ ((d : Bool) → get_or passed i d ≡ true) → (get_or (set passed at true) i d ≡ true) ⊎ (next_of nexts i ≡ start)
    own e (inl s) = inr (e ∙ s)
    own e (inr o) = inl (kept passed at i d h (o d))

    by : (next_of nexts i ≡ at) ⊎ (get_or passed (next_of nexts i) d ≡ true) → (get_or (set passed at true) i d ≡ true) ⊎ (next_of nexts i ≡ start)
    by (inl e) = own e (from_before pieces nexts start at k i passed n w m e)
    by (inr o) = old (w.back i d m o)

pub walk_goes : (pieces : List NumberedPiece) (nexts : List ℕ) (start at k next : ℕ) (passed : List Bool) → AreNexts pieces nexts → IsWalking pieces nexts start at k passed
    → at < length pieces → at < length passed → next ≡ next_of nexts at → (next ≡ start → ⊥) → IsWalking pieces nexts start next (k + 1) (set passed at true)
walk_goes pieces nexts start at k next passed n w m h e away =
    subst (λ x. IsWalking pieces nexts start x (k + 1) (set passed at true)) (sym e) (record {
      off = fresh pieces nexts start at k passed n w m (λ s. away (e ∙ s));
      before = inr (at, m, λ d. get_or-set_same passed at true d h, refl);
      back = back_more pieces nexts start at k passed n w h;
      few = omega (arith, w.few, clear_set passed at h (w.off true));
    })

pub walk_closes : (pieces : List NumberedPiece) (nexts : List ℕ) (start at k next : ℕ) (passed : List Bool) → AreNexts pieces nexts → IsWalking pieces nexts start at k passed
    → at < length pieces → at < length passed → next ≡ next_of nexts at → next ≡ start → IsWhole pieces nexts (set passed at true)
walk_closes pieces nexts start at k next passed n w m h e close i d l on = by (back_more pieces nexts start at k passed n w h i d l on)
  where
    by : (get_or (set passed at true) i d ≡ true) ⊎ (next_of nexts i ≡ start) → get_or (set passed at true) i d ≡ true
    by (inl o) = o
    by (inr s) =
        let same : at ≡ i = n.once at i m l (sym e ∙ close ∙ sym s) in
        subst (λ j. get_or (set passed at true) j d ≡ true) same (get_or-set_same passed at true d h)

-- so many steps are not without a way back
pub walk_ends : (pieces : List NumberedPiece) (nexts : List ℕ) (start at k : ℕ) (passed : List Bool) → IsWalking pieces nexts start at k passed → at < length passed → length pieces ≤ k → ⊥
walk_ends pieces nexts start at k passed w h l = omega (arith, w.few, clear_set passed at h (w.off true))

-- no step of it is refused
pub walk_unpassed : (pieces : List NumberedPiece) (nexts : List ℕ) (start at k : ℕ) (passed : List Bool) → IsWalking pieces nexts start at k passed → (d : Bool) → get_or passed at d ≡ true → ⊥
walk_unpassed pieces nexts start at k passed w d on = both (get_or passed at d) on (w.off d)

pub none_whole : (pieces : List NumberedPiece) (nexts : List ℕ) (passed : List Bool) → ((i : ℕ) → i < length pieces → get_or passed i true ≡ false) → length passed ≡ length pieces
    → AreNexts pieces nexts → IsWhole pieces nexts passed
none_whole pieces nexts passed off l n i d m on =
    absurd (both (get_or passed (next_of nexts i) d) on (rw (at_d (next_of nexts i) (n.known i m)) (off (next_of nexts i) (n.known i m))))
  where
    at_d : (j : ℕ) → j < length pieces → get_or passed j d ≡ get_or passed j true
    at_d j k = default passed j (omega (arith, k, l))
      where
        default : (bs : List Bool) (j : ℕ) → j < length bs → get_or bs j d ≡ get_or bs j true
        default [] j k = absurd (omega (arith, k))
        default (b ∷ bs) zero k = refl
        default (b ∷ bs) (suc j) k = default bs j (omega (arith, k))
