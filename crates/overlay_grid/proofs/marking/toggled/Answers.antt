use Rattle.std.proofs.Common.{◌≡◌, ℕ, ◌*◌, ◌%◌, ◌<◌, ◌^◌, ap, ◌∙◌, arith}
use Rattle.std.proofs.Math.Pow.{pow-lt}
use Rattle.std.specs.Int.RustNames.{bit_xor}
use Rattle.overlay_terms.specs.Trees.{mask_bits}
use Rattle.overlay_grid.proofs.Turned.{toggled_bit}
use Rattle.overlay_grid.proofs.marking.toggled.Goals as goal

small : (x : ℕ) → x < 4294967296 → 1 * x % 4294967296 ≡ x
small x h = omega arith

pub returns : goal.returns
returns c k =
    let low : 2 ^ c.args.layer < 2 ^ 32 = pow-lt c.requires in
    ap (λ n. mask_bits (bit_xor c.args.mask n) k) (small (2 ^ c.args.layer) low) ∙ toggled_bit c.args.mask c.args.layer k
