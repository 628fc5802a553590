-- The laws of a disk that is claimed to be honest nowhere.
use Rattle.std.specs.Prelude.{ℕ, ◌≤◌, List}

pub none_now : {A : Type 0} → (disk : A) (t : ℕ) (c : List ℕ) → ⊥ → t ≤ 0 → ⊥ → ⊥
none_now disk t c bad le left = bad

pub none_only : {A : Type 0} → (disk : A) (c : List ℕ) → ⊥ → ⊥ → ⊥
none_only disk c bad left = bad

pub none_stays : {A : Type 0} → (disk : A) → ⊥ → ⊥
none_stays disk bad = bad
