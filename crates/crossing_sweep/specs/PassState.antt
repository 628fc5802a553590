-- How far a pass over a strip is, as its callers see it.
use Rattle.std.specs.Prelude.{ℕ, ◌+◌, ◌*◌, Bool, length, refl}
use Rattle.std.specs.Coded.{Coded, code_by, coded×, coded_bool, coded_ℕ}
use Rattle.overlay_terms.specs.Column.{column_count}
use Rattle.crossing_sweep.specs.StripInput.{StripInput, strip_input_code}

-- the input, whether tests are listed, how many places are found ahead and rows made, and how
-- many rows end before the last node
pub record PassState : Type 0 where
  pub input : StripInput
  pub listed : Bool
  pub ahead : ℕ
  pub rows : ℕ
  pub settled : ℕ

-- as data that a model's value may hold
abbrev pub pass_state_code : Coded PassState
pass_state_code =
    code_by (StripInput × (Bool × (ℕ × (ℕ × ℕ)))) (coded× strip_input_code (coded× coded_bool (coded× coded_ℕ (coded× coded_ℕ coded_ℕ)))) (λ s. (s.input, (s.listed, (s.ahead, (s.rows, s.settled)))))
    (λ t. record { input = t.0; listed = t.1.0; ahead = t.1.1.0; rows = t.1.1.1.0; settled = t.1.1.1.1 }) (λ _. refl)

-- no pass over an input has more nodes: for each segment three by each, and one on each border
abbrev pub nodes_max : StripInput → ℕ
nodes_max input = length input.marked * (length input.marked * 3 + column_count)
