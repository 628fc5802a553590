-- What opening gives of a file with a live root.
use Rattle.std.proofs.Common.{◌≡◌, ◌≢◌, ◌⊎◌, inl, inr, ⊎_elim, ℕ, ◌-◌, ◌%◌, ◌^◌, ◌<◌, ◌≤◌, ◌==◌, ◌||◌, not, nat_lt, true, false, cond, List, length, Option, Some, None, Result, Ok, Err, refl, sym, ◌∙◌, ap, subst, arith}
use Rattle.std.proofs.lemmas.Bool.{cases_eq, and_left, and_right, or_from}
use Rattle.std.proofs.lemmas.Bool.Decides.{nat_tests}
use Rattle.store_terms.specs.declared.damage.Damage.{Damage}
use Rattle.store_terms.specs.declared.damage.Damage.TheVariants.{NotAStore, Format, Numbers}
use Rattle.store_terms.specs.Image.{◌>>=◌, listing_of, held_of}
use Rattle.store_terms.specs.declared.root.Root.{Root}
use Rattle.store_terms.specs.StandsFor.{gate, body, fits_slot, is_foreign, slot, newer_root, root_of, StandsFor}
use Rattle.store_terms.specs.declared.root.Body.{Body}
use Rattle.store_terms.specs.Roots.{format_of, ours}
use Rattle.commit_plan.specs.Kept.{Kept, own, other, IsWholeAt, Live, Rest, Shut, Calm, Ready, Either}

fits : (k : ℕ) (r : Root) → r.sequence ≤ 2 ^ 62 → r.version ≤ 2 ^ 62 → r.sequence % 2 ≡ k → fits_slot k r ≡ true
fits k r bounded numbered parity = grind (arith, nat_tests)

pub slot_open : (file : List ℕ) (k : ℕ) (r : Root) → gate file k ≡ 167 → body file k ≡ ours r → r.sequence ≤ 2 ^ 62
    → r.version ≤ 2 ^ 62 → r.sequence % 2 ≡ k → slot file k ≡ Ok (Some r)
slot_open file k r opened spelt bounded numbered parity =
    let o : (gate file k == 167) ≡ true = grind (arith, nat_tests) in
    let f : fits_slot k r ≡ true = fits k r bounded numbered parity in
    ap (λ b. cond b
    (cond ((body file k).format == format_of (body file k).root)
    (cond (fits_slot k (body file k).root) (Ok (Some (body file k).root)) (Err Numbers)) (Err Format))
    (Ok None)) o
    ∙ ap (λ (q : Body). cond (q.format == format_of q.root) (cond (fits_slot k q.root) (Ok (Some q.root)) (Err Numbers))
    (Err Format)) spelt
    ∙ ap (λ b. cond b (cond (fits_slot k r) (Ok (Some r)) (Err Numbers)) (Err Format)) (same (format_of r))
    ∙ ap (λ b. cond b (Ok (Some r)) (Err Numbers)) f
  where
    same : (n : ℕ) → (n == n) ≡ true
    same n = grind (arith, nat_tests)

pub slot_shut : (file : List ℕ) (k : ℕ) → gate file k ≢ 167 → slot file k ≡ Ok None
slot_shut file k shut =
    let o : (gate file k == 167) ≡ false = grind (arith, nat_tests) in
    ap (λ b. cond b
    (cond ((body file k).format == format_of (body file k).root)
    (cond (fits_slot k (body file k).root) (Ok (Some (body file k).root)) (Err Numbers)) (Err Format))
    (Ok None)) o

pub ours_not_foreign : (file : List ℕ) (k : ℕ) (r : Root) → body file k ≡ ours r → is_foreign file k ≡ false
ours_not_foreign file k r spelt =
    and_right (gate file k == 167) (not (body file k).is_ours) (ap (λ (q : Body). not q.is_ours) spelt)

pub shut_not_foreign : (file : List ℕ) (k : ℕ) → gate file k ≢ 167 → is_foreign file k ≡ false
shut_not_foreign file k shut = and_left (gate file k == 167) (not (body file k).is_ours) (grind (arith, nat_tests))

newer_first : (a b : Root) → b.sequence < a.sequence → newer_root (Some a) (Some b) ≡ Ok a
newer_first a b less =
    let t : nat_lt b.sequence a.sequence ≡ true = grind (arith, nat_tests) in ap (λ c. cond c (Ok a) (Ok b)) t

newer_second : (a b : Root) → a.sequence < b.sequence → newer_root (Some a) (Some b) ≡ Ok b
newer_second a b less =
    let t : nat_lt b.sequence a.sequence ≡ false = grind (arith, nat_tests) in ap (λ c. cond c (Ok a) (Ok b)) t

pub from_slots : (file : List ℕ) (a b : Option Root) → 8192 ≤ length file → is_foreign file 0 ≡ false
    → is_foreign file 1 ≡ false → slot file 0 ≡ Ok a → slot file 1 ≡ Ok b → root_of file ≡ newer_root a b
unfolding root_of
from_slots file a b long ours_0 ours_1 first second =
    let t : nat_lt (length file) 8192 ≡ false = grind (arith, nat_tests) in
    let none : (nat_lt (length file) 8192 || (is_foreign file 0 || is_foreign file 1)) ≡ false =
    or_from _ _ t (or_from _ _ ours_0 ours_1) in
    ap (λ b. cond b (Err NotAStore) (slot file 0 >>= λ a. slot file 1 >>= λ b. newer_root a b)) none
    ∙ ap (λ (x : Result (Option Root) Damage). x >>= λ a. slot file 1 >>= λ b. newer_root a b) first
    ∙ ap (λ (x : Result (Option Root) Damage). x >>= λ b. newer_root a b) second

-- of two open slots, or one
pub root_is : (file : List ℕ) (r : Root) (k : ℕ) → 8192 ≤ length file → (k ≡ 0) ⊎ (k ≡ 1) → is_foreign file k ≡ false
    → is_foreign file (1 - k) ≡ false → slot file k ≡ Ok (Some r)
    → (slot file (1 - k) ≡ Ok None) ⊎ ((q : Root) × (slot file (1 - k) ≡ Ok (Some q)) × (q.sequence < r.sequence))
    → root_of file ≡ Ok r
root_is file r k long (inl zero) f g here (inl none) =
    from_slots file (Some r) None long (subst (λ (n : ℕ). is_foreign file n ≡ false) zero f)
    (subst (λ (n : ℕ). is_foreign file (1 - n) ≡ false) zero g)
    (subst (λ (n : ℕ). slot file n ≡ Ok (Some r)) zero here) (subst (λ (n : ℕ). slot file (1 - n) ≡ Ok None) zero none)
root_is file r k long (inl zero) f g here (inr q) =
    from_slots file (Some r) (Some q.0) long (subst (λ (n : ℕ). is_foreign file n ≡ false) zero f)
    (subst (λ (n : ℕ). is_foreign file (1 - n) ≡ false) zero g)
    (subst (λ (n : ℕ). slot file n ≡ Ok (Some r)) zero here)
    (subst (λ (n : ℕ). slot file (1 - n) ≡ Ok (Some q.0)) zero q.1) ∙ newer_first r q.0 q.2
root_is file r k long (inr one) f g here (inl none) =
    from_slots file None (Some r) long (subst (λ (n : ℕ). is_foreign file (1 - n) ≡ false) one g)
    (subst (λ (n : ℕ). is_foreign file n ≡ false) one f)
    (subst (λ (n : ℕ). slot file (1 - n) ≡ Ok None) one none) (subst (λ (n : ℕ). slot file n ≡ Ok (Some r)) one here)
root_is file r k long (inr one) f g here (inr q) =
    from_slots file (Some q.0) (Some r) long (subst (λ (n : ℕ). is_foreign file (1 - n) ≡ false) one g)
    (subst (λ (n : ℕ). is_foreign file n ≡ false) one f)
    (subst (λ (n : ℕ). slot file (1 - n) ≡ Ok (Some q.0)) one q.1)
    (subst (λ (n : ℕ). slot file n ≡ Ok (Some r)) one here) ∙ newer_second q.0 r q.2

pub own_is : (r : Root) → (own r ≡ 0) ⊎ (own r ≡ 1)
own_is r = search arith

pub other_01 : (r : Root) → (other r ≡ 0) ⊎ (other r ≡ 1)
other_01 r = search arith

pub other_is : (r : Root) → other r ≡ 1 - own r
other_is r = omega arith

pub own_from : (r : Root) → own r ≡ 1 - other r
own_from r = omega arith

-- what a root holds rests on its number, its catalog and its format
same_names : (file : List ℕ) (q r : Root) → q.version ≡ r.version → q.catalog ≡ r.catalog → q.is_old ≡ r.is_old
    → held_of file q ≡ held_of file r
unfolding listing_of
same_names file q r version catalog format =
    λ i. held_of file (record { is_old = format i; sequence = q.sequence; version = version i; catalog = catalog i })

pub stands : (file : List ℕ) (q : Root) (x : Kept) (k : ℕ) → root_of file ≡ Ok q → q.version ≡ x.root.version
    → q.catalog ≡ x.root.catalog → q.is_old ≡ x.root.is_old → IsWholeAt k x file → StandsFor x.held file
stands file q x k root version catalog format named =
    ap (λ (o : Result Root Damage). o >>= λ r. held_of file r) root ∙ same_names file q x.root version catalog format
    ∙ named.holds

live_slot : (x : Kept) (file : List ℕ) → Live x file → slot file (own x.root) ≡ Ok (Some x.root)
live_slot x file live =
    slot_open file
    (own x.root) x.root live.opened live.named.spelt live.named.bounded live.named.numbered live.named.parity

live_ours : (x : Kept) (file : List ℕ) → Live x file → is_foreign file (own x.root) ≡ false
live_ours x file live = ours_not_foreign file (own x.root) x.root live.named.spelt

pub shut_stands : (x : Kept) (file : List ℕ) → Shut x file → StandsFor x.held file
shut_stands x file shut =
    let closed : slot file (1 - own x.root) ≡ Ok None =
    subst (λ (k : ℕ). slot file k ≡ Ok None) (other_is x.root) (slot_shut file (other x.root) shut.closed) in
    let beside : is_foreign file (1 - own x.root) ≡ false =
    subst (λ (k : ℕ). is_foreign file k ≡ false) (other_is x.root)
    (shut_not_foreign file (other x.root) shut.closed) in
    stands file x.root x (own x.root)
    (root_is file x.root (own x.root) shut.live.named.long (own_is x.root) (live_ours x file shut.live) beside
    (live_slot x file shut.live) (inl closed)) refl refl refl shut.live.named

-- beside an open root that is older
older_stands : (x : Kept) (q : Root) (file : List ℕ) → Live x file → is_foreign file (other x.root) ≡ false
    → slot file (other x.root) ≡ Ok (Some q) → q.sequence < x.root.sequence → StandsFor x.held file
older_stands x q file live foreign beside less =
    let open_slot : slot file (1 - own x.root) ≡ Ok (Some q) =
    subst (λ (k : ℕ). slot file k ≡ Ok (Some q)) (other_is x.root) beside in
    let no_foreign : is_foreign file (1 - own x.root) ≡ false =
    subst (λ (k : ℕ). is_foreign file k ≡ false) (other_is x.root) foreign in
    stands file x.root x (own x.root)
    (root_is file x.root (own x.root) live.named.long (own_is x.root) (live_ours x file live) no_foreign
    (live_slot x file live) (inr (q, open_slot, less))) refl refl refl live.named

pub rest_stands : (x : Kept) (file : List ℕ) → Rest x file → StandsFor x.held file
rest_stands x file rest = elim (cases_eq (gate file (other x.root)) 167) [
  | inl is_open ↦
      let h = rest.harmless in
      let q = h.root in
      let beside : slot file (other x.root) ≡ Ok (Some q) =
      slot_open file (other x.root) q is_open h.spelt h.bounded h.numbered h.parity in
      let foreign : is_foreign file (other x.root) ≡ false = ours_not_foreign file (other x.root) q h.spelt in
      ⊎_elim
      (λ less. older_stands x q file rest.live foreign beside less)
      (λ same. ⊎_elim
      (λ less. older_stands x q file rest.live foreign beside less)
      (λ more.
      let mine : slot file (1 - other x.root) ≡ Ok (Some x.root) =
      subst (λ (k : ℕ). slot file k ≡ Ok (Some x.root)) (own_from x.root) (live_slot x file rest.live) in
      let mine_ours : is_foreign file (1 - other x.root) ≡ false =
      subst (λ (k : ℕ). is_foreign file k ≡ false) (own_from x.root) (live_ours x file rest.live) in
      stands file q x (own x.root)
      (root_is file q (other x.root) rest.live.named.long (other_01 x.root) foreign mine_ours beside
      (inr (x.root, mine, more))) same.0 same.1 same.2 rest.live.named)
      (apart q x.root h.parity))
      h.older
  | inr shut ↦ shut_stands x file (record { live = rest.live; closed = shut })
]
  where
    apart : (q r : Root) → q.sequence % 2 ≡ other r → (q.sequence < r.sequence) ⊎ (r.sequence < q.sequence)
    apart q r parity = search arith

-- both roots are whole: the newer gate decides
pub opened_rest : (x y : Kept) (file : List ℕ) → Ready x y file → gate file (other x.root) ≡ 167 → Rest y file
opened_rest x y file ready opened =
    let here : own y.root ≡ other x.root = ap (λ (n : ℕ). n % 2) ready.after in
    let there : other y.root ≡ own x.root = omega (arith, ready.after) in
    record {
      live = record {
        opened = ap (λ (k : ℕ). gate file k) here ∙ opened;
        named =
            subst (λ (k : ℕ). IsWholeAt k y file) (sym here) ready.named;
      };
      harmless = record {
        root = x.root;
        spelt = ap (λ (k : ℕ). body file k) there ∙ ready.live.named.spelt;
        bounded = ready.live.named.bounded;
        numbered = ready.live.named.numbered;
        parity = sym there;
        older = inl (omega (arith, ready.after));
      };
    }

pub ready_either : (x y : Kept) (file : List ℕ) → Ready x y file → Either x y file
ready_either x y file ready = elim (cases_eq (gate file (other x.root)) 167) [
  | inl is_open ↦ inr (rest_stands y file (opened_rest x y file ready is_open))
  | inr shut ↦ inl (shut_stands x file (record { live = ready.live; closed = shut }))
]

pub calm_stands : (x : Kept) (file : List ℕ) → Calm x file → StandsFor x.held file
calm_stands x file (inl rest) = rest_stands x file rest
calm_stands x file (inr last) = shut_stands x file last.0
