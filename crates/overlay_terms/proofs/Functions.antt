-- Functions that agree at each argument are the same.
use Rattle.std.specs.Prelude.{◌≡◌}

pub fun_ext : {A B : Type 0} {f g : A → B} → ((x : A) → f x ≡ g x) → f ≡ g
fun_ext h = λ i x. h x i
