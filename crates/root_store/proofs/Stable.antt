-- Facts that hold where it is only said that there is a proof of them.
use Rattle.std.proofs.Common.{◌≡◌, ◌⊎◌, inl, inr, ⊎_elim, ℕ, ◌<◌, ◌≤◌, List, [], ◌∷◌, Result, Ok, Err, refl, ap, Bool, arith}
use Rattle.std.proofs.Math.Logic.{∥∥₁_elim, ∥∥₁_map}
use Rattle.std.proofs.lemmas.Bool.{cases_lt}
use Rattle.std.specs.List.{AllByRecursion}
use Rattle.std.specs.Coded.{Coded, Coded-set, code_by, coded_ℕ, coded_bool, coded_list, coded×, coded⊎, coded_option, le_prop}
use Rattle.overlay_terms.specs.LayerCode.{layer_code}
use Rattle.overlay_terms.specs.InputCode.{tile_code}
use Rattle.overlay_terms.specs.Layers.{Name, Layer}
use Rattle.overlay_terms.specs.Histories.{Finished, Tile}
use Rattle.store_terms.specs.declared.root.RecordExtent.{RecordExtent}
use Rattle.store_terms.specs.declared.root.Root.{Root}
use Rattle.store_terms.specs.declared.root.Body.{Body}
use Rattle.store_terms.specs.Catalog.{Records, Listed}
use Rattle.store_terms.specs.Image.{Held}

abbrev pub IsStable : Type 0 → Type 0
IsStable P = ∥ P ∥₁ → P

pub of_prop : {P : Type 0} → IsProp P → IsStable P
of_prop prop there = ∥∥₁_elim there prop (λ p. p)

pub less : (m n : ℕ) → IsStable (m ≤ n)
less m n = of_prop le_prop

pub same : {A : Type 0} → Coded A → (x y : A) → IsStable (x ≡ y)
same code x y = of_prop (Coded-set code x y)

-- what is decided by its first case
pub either : {P Q : Type 0} → P ⊎ (P → ⊥) → IsStable Q → IsStable (P ⊎ Q)
either (inl p) q there = inl p
either (inr never) q there = inr (q (∥∥₁_map there (λ both. ⊎_elim (λ p. absurd (never p)) (λ x. x) both)))

pub decide_less : (m n : ℕ) → (m < n) ⊎ (m < n → ⊥)
decide_less m n = ⊎_elim (λ h. inl h) (λ h. inr (λ is. absurd (omega (arith, h, is)))) (cases_lt m n)

pub decide_le : (m n : ℕ) → (m ≤ n) ⊎ (m ≤ n → ⊥)
decide_le m n = ⊎_elim (λ h. inr (λ is. absurd (omega (arith, h, is)))) (λ h. inl h) (cases_lt n m)

pub each_of : {A : Type 0} (P : A → Type 0) → ((a : A) → IsStable (P a)) → (xs : List A)
    → IsStable (AllByRecursion P xs)
each_of P stable [] there = tt
each_of P stable (x ∷ xs) there =
    (stable x (∥∥₁_map there (λ all. all.0)), each_of P stable xs (∥∥₁_map there (λ all. all.1)))

-- the value of a result
abbrev value_or : {A E : Type 0} → A → Result A E → A
value_or a (Ok x) = x
value_or a (Err e) = a

pub is_ok : {A E : Type 0} → Coded A → (r : Result A E) (x : A) → IsStable (r ≡ Ok x)
is_ok code (Ok a) x there = ap Ok (same code a x (∥∥₁_map there (λ is. ap (value_or a) is)))
is_ok code (Err e) x there = absurd (∥∥₁_elim there (λ a b. absurd a) (λ is. absurd (cc is)))

-- ---- codes, by which two values are kept apart

abbrev pub extent_code : Coded RecordExtent
extent_code = code_by (ℕ × ℕ) (coded× coded_ℕ coded_ℕ) (λ e. (e.block, e.size)) (λ p. record { block = p.0; size = p.1 }) (λ _. refl)

abbrev pub root_code : Coded Root
root_code =
    code_by (Bool × (ℕ × (ℕ × RecordExtent))) (coded× coded_bool (coded× coded_ℕ (coded× coded_ℕ extent_code))) (λ r. (r.is_old, (r.sequence, (r.version, r.catalog)))) (λ p. record { is_old = p.0; sequence = p.1.0; version = p.1.1.0; catalog = p.1.1.1 }) (λ _. refl)

abbrev pub body_code : Coded Body
body_code =
    code_by (Bool × (ℕ × Root)) (coded× coded_bool (coded× coded_ℕ root_code)) (λ b. (b.is_ours, (b.format, b.root))) (λ p. record { is_ours = p.0; format = p.1.0; root = p.1.1 }) (λ _. refl)

abbrev pub listed_code : Coded Listed
listed_code =
    code_by (Name × Records) (coded× (coded_list coded_ℕ) (coded⊎ extent_code (coded× extent_code (coded_list (coded_option extent_code))))) (λ l. (l.name, l.records)) (λ p. record { name = p.0; records = p.1 }) (λ _. refl)

abbrev pub finished_code : Coded Finished
finished_code =
    code_by (Name × (ℕ × Tile)) (coded× (coded_list coded_ℕ) (coded× coded_ℕ tile_code)) (λ f. (f.name, (f.column, f.tile))) (λ p. record { name = p.0; column = p.1.0; tile = p.1.1 }) (λ _. refl)

abbrev pub held_code : Coded Held
held_code =
    code_by (ℕ × (List Layer × List Finished)) (coded× coded_ℕ (coded× (coded_list layer_code) (coded_list finished_code))) (λ h. (h.number, (h.layers, h.tiles))) (λ p. record { number = p.0; layers = p.1.0; tiles = p.1.1 }) (λ _. refl)
