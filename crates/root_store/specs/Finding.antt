-- What opening reads of the slots.
use Rattle.std.specs.Prelude.{◌≡◌, ℕ, ◌==◌, Bool, not, ◌&&◌, List}
use Rattle.store_terms.specs.StandsFor.{gate, body, open_gate}
use Rattle.root_store.specs.declared.finding.RootSlot.{RootSlot}

-- what is read of a slot: its gate, and its body whatever the gate
pub record IsSlot (file : List ℕ) (k : ℕ) (s : RootSlot) : Type 0 where
  pub gate : s.gate ≡ gate file k
  pub body : s.body ≡ body file k

-- whether one of the gates is shut
abbrev pub has_shut_gate : List ℕ → Bool
has_shut_gate file = not ((gate file 0 == open_gate) && (gate file 1 == open_gate))
