-- Equality of inputs, with its laws.
use Rattle.std.specs.Prelude.{◌↔◌, IsTrue, ◌≡◌, refl}
use Rattle.std.proofs.Common.{sym, ap}
use Rattle.std.specs.Cmp.{IsEquivalence, IsPartialEquivalence, partial_equiv_from_equiv, both_ways}
use Rattle.overlay_terms.specs.Tiles.{Input}
use Rattle.overlay_terms.specs.SameInput.{same_input, same_input-Decides}

pub same_input-equiv : IsEquivalence same_input
same_input-equiv = record {
  refl = λ x. (same_input-Decides x x).1 refl;
  symm = λ x y. both_ways (same_input x y) (same_input y x) (λ h. (same_input-Decides y x).1 (sym ((same_input-Decides x y).0 h))) (λ h. (same_input-Decides x y).1 (sym ((same_input-Decides y x).0 h)));
  congr = λ x y z h. ap (λ w. same_input w z) ((same_input-Decides x y).0 h);
}

pub same_input-laws : IsPartialEquivalence same_input
same_input-laws = partial_equiv_from_equiv same_input-equiv

-- `==` of inputs holds exactly of equal values
abbrev pub SameInputsAreEqual : Type 0
SameInputsAreEqual = (a b : Input) → IsTrue (same_input a b) ↔ (a ≡ b)
