use Rattle.std.proofs.Common.{◌≡◌, ◌<◌, ◌^◌, take}
use Rattle.overlay_terms.specs.Bytes.{digits_value}
use Rattle.overlay_terms.proofs.digits.digits_value.Given as goal

-- what the digits so far are worth
abbrev pub invariant-loop-digit : goal.invariant-loop-digit
invariant-loop-digit l = (l.value ≡ digits_value (take l.digit-index l.digits)) × (l.value < 10 ^ l.digit-index)
