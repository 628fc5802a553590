-- What the sessions of a server are asked for.
use Rattle.std.specs.Prelude.{◌↔◌, ℕ, zero, suc, List, [], ◌∷◌}
use Rattle.overlay_terms.specs.Batches.{Batch}
use Rattle.server_session.specs.Asking.{ScriptAsksFor}
use Rattle.overlay_server.specs.Given.{Given}

-- the session of a place, counted from 0, is asked for these commands by the script that it is given (also past the
-- most bytes that its lines are read to)
abbrev pub IsAskedAt : List Given → ℕ → Batch → Type 0
IsAskedAt [] place commands = ⊥
IsAskedAt (given ∷ others) zero commands = ScriptAsksFor given.script commands
IsAskedAt (given ∷ others) (suc place) commands = IsAskedAt others place commands

-- what counts as asked of a session is what its script asks for, and nothing else
abbrev pub IsAsked : (ℕ → Batch → Type 0) → List Given → Type 0
IsAsked asked all = (session : ℕ) (commands : Batch) → asked session commands ↔ IsAskedAt all session commands
