-- Truth values of tests: what two have in common, and what the test for less says.
use Rattle.std.specs.Prelude.{◌≡◌, Bool, true, false, ◌&&◌}
use Rattle.std.specs.Ordering.{is_lt}
use Rattle.std.specs.declared.cmp.Ordering.{Ordering}
use Rattle.std.specs.declared.cmp.Ordering.TheVariants.{Less, Equal, Greater}
use Rattle.std.proofs.Common.{refl, sym}

-- what the test for less says
pub less_told : (o : Ordering) → is_lt o ≡ true → o ≡ Less
less_told Less e = refl
less_told Equal e = absurd (cc)
less_told Greater e = absurd (cc)

-- two tests that follow from one another
pub same_tests : (b c : Bool) → (b ≡ true → c ≡ true) → (c ≡ true → b ≡ true) → b ≡ c
same_tests true c h k = sym (h refl)
same_tests false true h k = k refl
same_tests false false h k = refl

-- two tests after a third that agree where it passes
pub same_behind : (o f g : Bool) → (o ≡ true → f ≡ g) → (o && f) ≡ (o && g)
same_behind true f g h = h refl
same_behind false f g h = refl

-- three tests that agree with three others
pub three_tests : {a b c d e f : Bool} → a ≡ b → c ≡ d → e ≡ f → (a && c && e) ≡ (b && d && f)
three_tests p q r = cc
