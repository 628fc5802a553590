-- What is known of a result in parts.
use Rattle.std.specs.Prelude.{Result, Ok, Err, IfOk}

-- three facts of what a call gave make one
pub all_of : {A E : Type 0} (r : Result A E) (P Q R S : A → Type 0) → ((x : A) → P x → Q x → R x → S x) → IfOk r P → IfOk r Q → IfOk r R → IfOk r S
all_of (Ok x) P Q R S f p q r = f x p q r
all_of (Err e) P Q R S f p q r = tt
