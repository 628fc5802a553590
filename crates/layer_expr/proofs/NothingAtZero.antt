-- A mask of no bits holds nothing.
use Rattle.std.proofs.Common.{◌≡◌, ℕ, false, ap, ◌∙◌}
use Rattle.overlay_terms.specs.Trees.{Steps, steps_value, mask_bits}
use Rattle.overlay_terms.proofs.StepLaws.{nothing_from_nothing}
use Rattle.overlay_terms.proofs.BitLemmas.{mask_bits-zero}

pub steps_value-zero : (steps : Steps) (mask : ℕ) → mask ≡ 0 → steps_value steps (mask_bits mask) ≡ false
steps_value-zero steps mask none =
    ap (λ m. steps_value steps (mask_bits m)) none ∙ ap (steps_value steps) (λ i k. mask_bits-zero k i) ∙ nothing_from_nothing steps
