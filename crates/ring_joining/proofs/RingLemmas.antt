-- A ring under way, one piece at a time.
use Rattle.std.proofs.Common.{◌≡◌, ◌⊎◌, ℕ, zero, suc, ◌+◌, ◌-◌, ◌<◌, ◌≤◌, ◌==◌, Bool, true, false, List, [], ◌∷◌, ◌++◌, length, get_or, set, inl, inr, refl, sym, ap, subst, ◌∙◌, arith, length-append, fold, cond, replicate}
use Rattle.std.specs.Prelude.{All, count_by, flat_map}
use Rattle.std.proofs.lemmas.List.{get_or_append_left, get_or_push, get_or-set_same, get_or-set_other, length-set, length-replicate, get_or-replicate, flat_map_more}
use Rattle.std.proofs.lemmas.List.Sums.{fold-append}
use Rattle.std.proofs.lemmas.Bool.{cases_eq, ne_eqb}
use Rattle.std.proofs.lemmas.Bool.Decides.{Decides-eqb}
use Rattle.std.proofs.lemmas.List.Elements.{All-push}
use Rattle.ring_joining.specs.declared.piece.NumberedPiece.{NumberedPiece}
use Rattle.ring_joining.specs.Outline.{piece_at, in_ring, bit, times_in, IsRing, IsOutline, AreSet, IsJoined}

-- pieces passed from the start on, and the one that comes next
pub record IsGoing (pieces : List NumberedPiece) (start at : ℕ) (ring : List ℕ) : Type 0 where
  pub here : at < length pieces
  pub known : All (λ i. i < length pieces) ring
  pub meet : (k : ℕ) → k + 1 < length ring → (piece_at pieces (in_ring ring k)).to ≡ (piece_at pieces (in_ring ring (k + 1))).from
  pub first : 0 < length ring → in_ring ring 0 ≡ start
  pub none : length ring ≡ 0 → at ≡ start
  pub link : 0 < length ring → (piece_at pieces (in_ring ring (length ring - 1))).to ≡ (piece_at pieces at).from

pub longer : (ring : List ℕ) (at : ℕ) → length (ring ++ at ∷ []) ≡ length ring + 1
longer ring at = length-append ring (at ∷ [])

-- a piece in its place, and the last one
pub old_place : (ring : List ℕ) (at k : ℕ) → k < length ring → in_ring (ring ++ at ∷ []) k ≡ in_ring ring k
old_place ring at k h = get_or_append_left ring (at ∷ []) 0 k h

pub last_place : (ring : List ℕ) (at k : ℕ) → length ring ≡ k → in_ring (ring ++ at ∷ []) k ≡ at
last_place ring at k h = get_or_push ring at 0 k h

pub end_place : (ring : List ℕ) (at : ℕ) → in_ring (ring ++ at ∷ []) (length (ring ++ at ∷ []) - 1) ≡ at
end_place ring at = last_place ring at (length (ring ++ at ∷ []) - 1) (omega (arith, longer ring at))

pub begins : (pieces : List NumberedPiece) (start at : ℕ) (ring : List ℕ) → IsGoing pieces start at ring → in_ring (ring ++ at ∷ []) 0 ≡ start
begins pieces start at [] h = h.none refl
begins pieces start at (i ∷ ring) h = old_place (i ∷ ring) at 0 (omega arith) ∙ h.first (omega arith)

meet_by : (pieces : List NumberedPiece) (start at : ℕ) (ring : List ℕ) → IsGoing pieces start at ring → (k : ℕ) → (k + 1 < length ring) ⊎ (k + 1 ≡ length ring)
    → (piece_at pieces (in_ring (ring ++ at ∷ []) k)).to ≡ (piece_at pieces (in_ring (ring ++ at ∷ []) (k + 1))).from
meet_by pieces start at ring h k (inl l) =
    rw (old_place ring at k (omega arith), old_place ring at (k + 1) l) (h.meet k l)
meet_by pieces start at ring h k (inr e) =
    let is : k ≡ length ring - 1 = omega arith in
    rw (old_place ring at k (omega arith), last_place ring at (k + 1) (sym e))
    (subst (λ j. (piece_at pieces (in_ring ring j)).to ≡ (piece_at pieces at).from) (sym is) (h.link (omega arith)))

pub which : (k n : ℕ) → k + 1 < n + 1 → (k + 1 < n) ⊎ (k + 1 ≡ n)
which k zero h = absurd (omega arith)
which zero (suc zero) h = inr refl
which zero (suc (suc n)) h = inl (omega arith)
which (suc k) (suc n) h = lift (which k n (omega arith))
  where
    lift : (k + 1 < n) ⊎ (k + 1 ≡ n) → (suc k + 1 < suc n) ⊎ (suc k + 1 ≡ suc n)
    lift (inl l) = inl (omega arith)
    lift (inr e) = inr (omega arith)

meet_all : (pieces : List NumberedPiece) (start at : ℕ) (ring : List ℕ) → IsGoing pieces start at ring → (k : ℕ) → k + 1 < length (ring ++ at ∷ [])
    → (piece_at pieces (in_ring (ring ++ at ∷ []) k)).to ≡ (piece_at pieces (in_ring (ring ++ at ∷ []) (k + 1))).from
meet_all pieces start at ring h k l = meet_by pieces start at ring h k (which k (length ring) (omega (arith, l, longer ring at)))

known_all : (pieces : List NumberedPiece) (start at : ℕ) (ring : List ℕ) → IsGoing pieces start at ring → All (λ i. i < length pieces) (ring ++ at ∷ [])
known_all pieces start at ring h = All-push (λ i. i < length pieces) ring at h.known h.here

pub goes_on : (pieces : List NumberedPiece) (start at next : ℕ) (ring : List ℕ) → IsGoing pieces start at ring → next < length pieces
    → (piece_at pieces at).to ≡ (piece_at pieces next).from → IsGoing pieces start next (ring ++ at ∷ [])
goes_on pieces start at next ring h l e =
    record {
      here = l;
      known = known_all pieces start at ring h;
      meet = meet_all pieces start at ring h;
      first = λ _. begins pieces start at ring h;
      none = λ n. absurd (omega (arith, n, longer ring at));
      link = λ _. ap (λ i. (piece_at pieces i).to) (end_place ring at) ∙ e;
    }

pub closes : (pieces : List NumberedPiece) (start at next : ℕ) (ring : List ℕ) → IsGoing pieces start at ring → next ≡ start
    → (piece_at pieces at).to ≡ (piece_at pieces next).from → IsRing pieces (ring ++ at ∷ [])
closes pieces start at next ring h same e =
    record {
      some = omega (arith, longer ring at);
      known = known_all pieces start at ring h;
      meet = meet_all pieces start at ring h;
      closed = ap (λ i. (piece_at pieces i).to) (end_place ring at) ∙ e ∙ ap (λ i. (piece_at pieces i).from) (same ∙ sym (begins pieces start at ring h));
    }

pub starts : (pieces : List NumberedPiece) (start : ℕ) (ring : List ℕ) → start < length pieces → ring ≡ [] → IsGoing pieces start start ring
starts pieces start [] h e = record {
  here = h;
  known = λ k d l. absurd (omega arith);
  meet = λ k l. absurd (omega arith);
  first = λ l. absurd (omega arith);
  none = λ _. refl;
  link = λ l. absurd (omega arith);
}
starts pieces start (i ∷ ring) h e = absurd (omega (arith, ap length e))

-- ---- flags
count_push : (p : ℕ → Bool) (xs : List ℕ) (x : ℕ) → count_by p (xs ++ x ∷ []) ≡ count_by p xs + bit (p x)
count_push p xs x = fold-append (λ a y. a + cond (p y) 1 0) 0 xs (x ∷ [])

sets_by : (passed : List Bool) (ring : List ℕ) (at i : ℕ) (d : Bool) (before : ℕ) → at < length passed → get_or passed at d ≡ false → (at ≡ i) ⊎ (at ≡ i → ⊥)
    → bit (get_or passed i d) ≡ before + count_by (λ j. j == i) ring
    → bit (get_or (set passed at true) i d) ≡ before + count_by (λ j. j == i) (ring ++ at ∷ [])
sets_by passed ring at i d before h off (inl same) e =
    let test : (at == i) ≡ true = (Decides-eqb at i).1 same in
    let new : get_or (set passed at true) i d ≡ true = subst (λ j. get_or (set passed at true) j d ≡ true) same (get_or-set_same passed at true d h) in
    let old : get_or passed i d ≡ false = subst (λ j. get_or passed j d ≡ false) same off in
    let none : 0 ≡ before + count_by (λ j. j == i) ring = sym (ap bit old) ∙ e in
    let one : count_by (λ j. j == i) (ring ++ at ∷ []) ≡ count_by (λ j. j == i) ring + 1 = count_push (λ j. j == i) ring at ∙ ap (λ b. count_by (λ j. j == i) ring + bit b) test in
    ap bit new ∙ omega (arith, none, one)
sets_by passed ring at i d before h off (inr other) e =
    let test : (at == i) ≡ false = ne_eqb at i other in
    let new : get_or (set passed at true) i d ≡ get_or passed i d = get_or-set_other passed at i true d (λ s. other (sym s)) in
    let one : count_by (λ j. j == i) (ring ++ at ∷ []) ≡ count_by (λ j. j == i) ring + 0 = count_push (λ j. j == i) ring at ∙ ap (λ b. count_by (λ j. j == i) ring + bit b) test in
    ap bit new ∙ omega (arith, e, one)

pub sets : (old passed : List Bool) (ring : List ℕ) (at : ℕ) → AreSet old passed ring → at < length passed → ((d : Bool) → get_or passed at d ≡ false)
    → AreSet old (set passed at true) (ring ++ at ∷ [])
sets old passed ring at h l off =
    (length-set passed at true ∙ h.0, λ i d m. sets_by passed ring at i d (bit (get_or old i d)) l (off d) (cases_eq at i) (h.1 i d m))

pub none_set : (passed : List Bool) (ring : List ℕ) → ring ≡ [] → AreSet passed passed ring
none_set passed [] e = (refl, λ i d l. omega arith)
none_set passed (x ∷ ring) e = absurd (omega (arith, ap length e))

-- ---- all rings
times_push : (rings : List (List ℕ)) (ring : List ℕ) (i : ℕ) → times_in (rings ++ ring ∷ []) i ≡ times_in rings i + count_by (λ j. j == i) ring
times_push rings ring i =
    ap (count_by (λ j. j == i)) (sym (flat_map_more (λ r. r) [] rings ring)) ∙ count_append (λ j. j == i) (flat_map (λ r. r) rings) ring
  where
    shift : (p : ℕ → Bool) (a : ℕ) (ys : List ℕ) → fold (λ n y. n + cond (p y) 1 0) a ys ≡ a + count_by p ys
    shift p a [] = omega arith
    shift p a (y ∷ ys) =
        let one : count_by p (y ∷ ys) ≡ (0 + cond (p y) 1 0) + count_by p ys = shift p (0 + cond (p y) 1 0) ys in
        shift p (a + cond (p y) 1 0) ys ∙ omega (arith, one)

    count_append : (p : ℕ → Bool) (xs ys : List ℕ) → count_by p (xs ++ ys) ≡ count_by p xs + count_by p ys
    count_append p xs ys = fold-append (λ n y. n + cond (p y) 1 0) 0 xs ys ∙ shift p (count_by p xs) ys

-- the first of a ring is in it
first_counts : (ring : List ℕ) (i : ℕ) → 0 < length ring → in_ring ring 0 ≡ i → 1 ≤ count_by (λ j. j == i) ring
first_counts [] i h e = absurd (omega arith)
first_counts (x ∷ ring) i h e =
    let test : (x == i) ≡ true = (Decides-eqb x i).1 e in
    let here : count_by (λ j. j == i) (x ∷ ring) ≡ (0 + cond (x == i) 1 0) + count_by (λ j. j == i) ring = shift (λ j. j == i) (0 + cond (x == i) 1 0) ring in
    let one : cond {A = ℕ} (x == i) 1 0 ≡ 1 = ap (λ (b : Bool). cond {A = ℕ} b 1 0) test in
    omega (arith, here, one)
  where
    shift : (p : ℕ → Bool) (a : ℕ) (ys : List ℕ) → fold (λ n y. n + cond (p y) 1 0) a ys ≡ a + count_by p ys
    shift p a [] = omega arith
    shift p a (y ∷ ys) =
        let one : count_by p (y ∷ ys) ≡ (0 + cond (p y) 1 0) + count_by p ys = shift p (0 + cond (p y) 1 0) ys in
        shift p (a + cond (p y) 1 0) ys ∙ omega (arith, one)

set_from : (b : Bool) → 1 ≤ bit b → b ≡ true
set_from true h = refl
set_from false h = absurd (omega arith)

below : (pieces : List NumberedPiece) (old new : List Bool) (ring : List ℕ) (n : ℕ) → AreSet old new ring → n < length old → 0 < length ring → in_ring ring 0 ≡ n
    → ((i : ℕ) (d : Bool) → i < n → i < length pieces → get_or old i d ≡ true) → length old ≡ length pieces
    → (i : ℕ) (d : Bool) → i < n + 1 → i < length pieces → get_or new i d ≡ true
below pieces old new ring n set l some first before same i d m k = by (cases_eq i n)
  where
    by : (i ≡ n) ⊎ (i ≡ n → ⊥) → get_or new i d ≡ true
    by (inl e) = set_from (get_or new i d) (omega (arith, set.1 i d (omega (arith, same, k)), first_counts ring i some (first ∙ sym e)))
    by (inr e) = set_from (get_or new i d) (omega (arith, set.1 i d (omega (arith, same, k)), ap bit (before i d (other i n m e) k)))
      where
        other : (i n : ℕ) → i < n + 1 → (i ≡ n → ⊥) → i < n
        other i n m e = omega (arith, m, e)

pub joins : (pieces : List NumberedPiece) (old new : List Bool) (rings : List (List ℕ)) (ring : List ℕ) (n : ℕ) → n < length pieces → IsJoined pieces old rings n
    → IsRing pieces ring → in_ring ring 0 ≡ n → AreSet old new ring → IsJoined pieces new (rings ++ ring ∷ []) (n + 1)
joins pieces old new rings ring n l h r first set =
    record {
      flags = set.0 ∙ h.flags;
      each = All-push (IsRing pieces) rings ring h.each r;
      counted = λ i d k. set.1 i d (omega (arith, h.flags, k)) ∙ ap (λ m. m + count_by (λ j. j == i) ring) (h.counted i d k) ∙ sym (times_push rings ring i);
      before = below pieces old new ring n set (omega (arith, h.flags, l)) r.some first h.before h.flags;
    }

pub is_joined : (pieces : List NumberedPiece) (passed : List Bool) (rings : List (List ℕ)) (n : ℕ) → n < length pieces → IsJoined pieces passed rings n
    → ((d : Bool) → get_or passed n d ≡ true) → IsJoined pieces passed rings (n + 1)
is_joined pieces passed rings n l h on =
    record { flags = h.flags; each = h.each; counted = h.counted; before = λ i d m k. by i d m k (cases_eq i n) }
  where
    by : (i : ℕ) (d : Bool) → i < n + 1 → i < length pieces → (i ≡ n) ⊎ (i ≡ n → ⊥) → get_or passed i d ≡ true
    by i d m k (inl e) = subst (λ j. get_or passed j d ≡ true) (sym e) (on d)
    by i d m k (inr e) = h.before i d (omega (arith, m, e)) k

pub none_joined : (pieces : List NumberedPiece) (passed : List Bool) (rings : List (List ℕ)) → passed ≡ replicate (length pieces) false → rings ≡ [] → IsJoined pieces passed rings 0
none_joined pieces passed [] e f =
    record {
      flags = ap length e ∙ length-replicate (length pieces) false;
      each = λ k d l. absurd (omega arith);
      counted = λ i d k. ap (λ xs. bit (get_or xs i d)) e ∙ ap bit (get_or-replicate (length pieces) i false d k);
      before = λ i d m k. absurd (omega arith);
    }
none_joined pieces passed (r ∷ rings) e f = absurd (omega (arith, ap length f))

pub finished : (pieces : List NumberedPiece) (passed : List Bool) (rings : List (List ℕ)) (n : ℕ) → length pieces ≤ n → IsJoined pieces passed rings n → IsOutline pieces rings
finished pieces passed rings n h j =
    record { each = j.each; once = λ i l. sym (j.counted i false l) ∙ ap bit (j.before i false (omega arith) l) }
