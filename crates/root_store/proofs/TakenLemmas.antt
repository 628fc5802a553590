-- What opening knows of the root that a file has.
use Rattle.std.proofs.Common.{◌≡◌, ◌≢◌, ◌⊎◌, inl, inr, ⊎_elim, ℕ, ◌+◌, ◌*◌, ◌%◌, ◌<◌, ◌≤◌, ◌==◌, ◌&&◌, ◌||◌, not, nat_lt, nat_le, true, false, cond, Bool, List, length, Option, Some, None, Result, Ok, Err, refl, sym, ◌∙◌, ap, subst, arith}
use Rattle.std.proofs.lemmas.Bool.{cases_lt, cases_Bool, and_parts, or_parts, leb-true}
use Rattle.std.proofs.lemmas.Bool.Decides.{nat_tests}
use Rattle.store_terms.specs.declared.damage.Damage.{Damage}
use Rattle.store_terms.specs.declared.damage.Damage.TheVariants.{Format, Numbers}
use Rattle.store_terms.specs.declared.root.Root.{Root}
use Rattle.store_terms.specs.declared.root.Body.{Body}
use Rattle.store_terms.specs.Image.{◌>>=◌}
use Rattle.store_terms.specs.Places.{block_size}
use Rattle.store_terms.specs.Roots.{format_of, ours, sequence_max}
use Rattle.store_terms.specs.StandsFor.{gate, body, open_gate, fits_slot, is_foreign, slot, newer_root, root_of}
use Rattle.store_terms.proofs.HeldLemmas.{ok_bound}
use Rattle.overlay_terms.specs.Commands.{version_max}
use Rattle.commit_plan.specs.Kept.{other, Harmless}
use Rattle.root_store.specs.Healing.{IsTakenRoot, Found}
use Rattle.root_store.specs.Finding.{has_shut_gate}
use Rattle.root_store.proofs.FindingLemmas.{short_root, foreign_root, slots_root}

-- the tests that a slot has passed
slot_tests : (g f t : Bool) (root : Root) (r : Root)
    → cond g (cond f (cond t (Ok (Some root)) (Err Numbers)) (Err Format)) (Ok None) ≡ Ok (Some r)
    → (g ≡ true) × (f ≡ true) × (t ≡ true) × (root ≡ r)
slot_tests true true true root r e = (refl, refl, refl, cc e)
slot_tests true true false root r e = absurd (cc e)
slot_tests true false t root r e = absurd (cc e)
slot_tests false f t root r e = absurd (cc e)

slot_none : (g f t : Bool) (root : Root)
    → cond g (cond f (cond t (Ok (Some root)) (Err Numbers)) (Err Format)) (Ok None) ≡ Ok None → g ≡ false
slot_none true true true root e = absurd (cc e)
slot_none true true false root e = absurd (cc e)
slot_none true false t root e = absurd (cc e)
slot_none false f t root e = refl

-- an open slot with a root of ours
record IsOpen (file : List ℕ) (k : ℕ) (r : Root) : Type 0 where
  pub opened : gate file k ≡ open_gate
  pub spelt : body file k ≡ ours r
  pub bounded : r.sequence ≤ sequence_max
  pub numbered : r.version ≤ version_max
  pub parity : r.sequence % 2 ≡ k

is_open : (file : List ℕ) (k : ℕ) (r : Root) → is_foreign file k ≡ false → slot file k ≡ Ok (Some r) → IsOpen file k r
is_open file k r mine is =
    let b : Body = body file k in
    let t = slot_tests (gate file k == open_gate) (b.format == format_of b.root) (fits_slot k b.root) b.root r is in
    let own_magic : b.is_ours ≡ true = magic (gate file k == open_gate) b.is_ours t.0 mine in
    let fits : fits_slot k r ≡ true = ap (fits_slot k) (sym t.3) ∙ t.2 in
    let p = and_parts (nat_le r.sequence sequence_max && nat_le r.version version_max) (r.sequence % 2 == k) fits in
    let q = and_parts (nat_le r.sequence sequence_max) (nat_le r.version version_max) p.0 in
    let own_format : b.format ≡ format_of b.root = grind (arith, nat_tests) in
    let format : b.format ≡ format_of r = own_format ∙ ap format_of t.3 in
    record {
      opened = grind (arith, nat_tests);
      spelt = λ i. record { is_ours = own_magic i; format = format i; root = t.3 i };
      bounded = leb-true _ _ q.0;
      numbered = leb-true _ _ q.1;
      parity = grind (arith, nat_tests);
    }
  where
    magic : (g m : Bool) → g ≡ true → (g && not m) ≡ false → m ≡ true
    magic true true e f = refl
    magic true false e f = sym f
    magic false m e f = absurd (cc e)

is_shut : (file : List ℕ) (k : ℕ) → slot file k ≡ Ok None → gate file k ≢ open_gate
is_shut file k is opened =
    let shut : (gate file k == open_gate) ≡ false =
    slot_none (gate file k == open_gate) ((body file k).format == format_of (body file k).root) (fits_slot k (body file k).root)
    (body file k).root is in
    grind (arith, nat_tests)

bit : (n : ℕ) → (n % 2 ≡ 0) ⊎ (n % 2 ≡ 1)
bit n = search arith

parity_other : (n k j : ℕ) → n % 2 ≡ k → k + j ≡ 1 → (n + 1) % 2 ≡ j
parity_other n k j e sum = omega arith

taken : (file : List ℕ) (k : ℕ) (r : Root) → block_size * 2 ≤ length file → IsOpen file k r → IsTakenRoot file r
taken file k r long o = record {
  long = long;
  opened = ap (gate file) o.parity ∙ o.opened;
  spelt = ap (body file) o.parity ∙ o.spelt;
  bounded = o.bounded;
  numbered = o.numbered;
}

-- only one slot is open
one_open : (file : List ℕ) (k j : ℕ) (r : Root) → block_size * 2 ≤ length file → IsOpen file k r → (k + j ≡ 1)
    → gate file j ≢ open_gate → Found file r
one_open file k j r long o sum shut =
    let there : other r ≡ j = parity_other r.sequence k j o.parity sum in
    record { taken = taken file k r long o; beside = inl (subst (λ (n : ℕ). gate file n ≢ open_gate) (sym there) shut) }

-- both are open
harmless : (file : List ℕ) (k j : ℕ) (r q : Root) → IsOpen file k r → IsOpen file j q → (k + j ≡ 1)
    → q.sequence < r.sequence → Harmless (other r) r file
harmless file k j r q o p sum less =
    let there : other r ≡ j = parity_other r.sequence k j o.parity sum in
    record {
      root = q;
      spelt = ap (body file) there ∙ p.spelt;
      bounded = p.bounded;
      numbered = p.numbered;
      parity = p.parity ∙ sym there;
      older = inl less;
    }

abbrev pick : Bool → Root → Root → Result Root Damage
pick b p q = cond b (Ok p) (Ok q)

both_open : (file : List ℕ) (p q r : Root) → block_size * 2 ≤ length file → IsOpen file 0 p → IsOpen file 1 q
    → newer_root (Some p) (Some q) ≡ Ok r → Found file r
both_open file p q r long o_0 o_1 is =
    ⊎_elim
    (λ less.
    let t : nat_lt q.sequence p.sequence ≡ true = grind (arith, nat_tests) in
    let same : p ≡ r = ok_same p r (ap (λ b. pick b p q) (sym t) ∙ is) in
    subst (Found file) same
    (record { taken = taken file 0 p long o_0; beside = inr (harmless file 0 1 p q o_0 o_1 refl less) }))
    (λ more.
    let t : nat_lt q.sequence p.sequence ≡ false = grind (arith, nat_tests) in
    let same : q ≡ r = ok_same q r (ap (λ b. pick b p q) (sym t) ∙ is) in
    subst (Found file) same
    (record {
      taken = taken file 1 q long o_1;
      beside =
          inr (harmless file 1 0 q p o_1 o_0 refl (apart p.sequence q.sequence o_0.parity o_1.parity more));
    }))
    (cases_lt q.sequence p.sequence)
  where
    ok_same : (x y : Root) → newer_root (Some x) None ≡ Ok y → x ≡ y
    ok_same x y e = cc e

    apart : (m n : ℕ) → m % 2 ≡ 0 → n % 2 ≡ 1 → m ≤ n → m < n
    apart m n even odd le = omega arith

-- the newer of the roots of two slots
newest_found : (file : List ℕ) (a b : Option Root) (r : Root) → block_size * 2 ≤ length file → is_foreign file 0 ≡ false
    → is_foreign file 1 ≡ false
    → slot file 0 ≡ Ok a → slot file 1 ≡ Ok b → newer_root a b ≡ Ok r → Found file r
newest_found file None None r long ours_0 ours_1 first second is = absurd (cc is)
newest_found file (Some p) None r long ours_0 ours_1 first second is =
    let same : p ≡ r = cc is in
    one_open file 0 1 r long (is_open file 0 r ours_0 (first ∙ ap (λ (x : Root). Ok (Some x)) same)) refl
    (is_shut file 1 second)
newest_found file None (Some q) r long ours_0 ours_1 first second is =
    let same : q ≡ r = cc is in
    one_open file 1 0 r long (is_open file 1 r ours_1 (second ∙ ap (λ (x : Root). Ok (Some x)) same)) refl
    (is_shut file 0 first)
newest_found file (Some p) (Some q) r long ours_0 ours_1 first second is =
    both_open file p q r long (is_open file 0 p ours_0 first) (is_open file 1 q ours_1 second) is

pub root_found : (file : List ℕ) (r : Root) → root_of file ≡ Ok r → Found file r
root_found file r is =
    ⊎_elim
    (λ short. absurd (cc (short_root file short, is)))
    (λ long.
    ⊎_elim
    (λ foreign. absurd (cc (foreign_root file long foreign, is)))
    (λ mine.
    let own_both = or_parts (is_foreign file 0) (is_foreign file 1) mine in
    let a = ok_bound (slot file 0) (λ x. slot file 1 >>= λ y. newer_root x y) r (sym (slots_root file long mine) ∙ is) in
    let b = ok_bound (slot file 1) (λ y. newer_root a.0 y) r a.2 in
    newest_found file a.0 b.0 r long own_both.0 own_both.1 a.1 b.1 b.2)
    (cases_Bool (is_foreign file 0 || is_foreign file 1)))
    (cases_lt (length file) (block_size * 2))

-- where a gate is shut, it is that of the other slot
pub other_shut : (file : List ℕ) (r : Root) → IsTakenRoot file r → has_shut_gate file ≡ true
    → gate file (other r) ≢ open_gate
other_shut file r taken shut opened = ⊎_elim
    (λ zero. both (ap (gate file) (sym zero) ∙ taken.opened) (ap (gate file) (sym (one_more r.sequence zero)) ∙ opened))
    (λ one. both (ap (gate file) (sym (none_more r.sequence one)) ∙ opened) (ap (gate file) (sym one) ∙ taken.opened))
    (bit r.sequence)
  where
    both : gate file 0 ≡ open_gate → gate file 1 ≡ open_gate → ⊥
    both first second = grind (arith, nat_tests)

    one_more : (n : ℕ) → n % 2 ≡ 0 → (n + 1) % 2 ≡ 1
    one_more n e = omega arith

    none_more : (n : ℕ) → n % 2 ≡ 1 → (n + 1) % 2 ≡ 0
    none_more n e = omega arith

-- where none is shut, that one is open
pub other_open : (file : List ℕ) (r : Root) → has_shut_gate file ≡ false → gate file (other r) ≡ open_gate
other_open file r none = gate_of r.sequence (grind (arith, nat_tests)) (grind (arith, nat_tests))
  where
    gate_of : (n : ℕ) → gate file 0 ≡ open_gate → gate file 1 ≡ open_gate → gate file ((n + 1) % 2) ≡ open_gate
    gate_of n first second =
        ⊎_elim (λ zero. ap (gate file) zero ∙ first) (λ one. ap (gate file) one ∙ second) (bit (n + 1))

-- and a root is there that does no harm
pub other_harmless : (file : List ℕ) (r : Root) → Found file r → has_shut_gate file ≡ false → Harmless (other r) r file
other_harmless file r found none = ⊎_elim (λ shut. absurd (shut (other_open file r none))) (λ h. h) found.beside
