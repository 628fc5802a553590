-- Values written after some bytes.
use Rattle.std.specs.Prelude.{◌≡◌, ℕ, true, List, ◌++◌, flat_map}
use Rattle.std.specs.List.{list_all}
use Rattle.store_terms.specs.Fields.{Field}

-- a value that the field has is spelled after some bytes
pub record IsPut {A : Type 0} (f : Field A) (x : A) (old new : List ℕ) : Type 0 where
  pub fits : f.fits x ≡ true
  pub spelled : new ≡ old ++ f.text x

-- the same of values, one after another
pub record ArePut {A : Type 0} (f : Field A) (xs : List A) (old new : List ℕ) : Type 0 where
  pub fits : list_all f.fits xs ≡ true
  pub spelled : new ≡ old ++ flat_map f.text xs
