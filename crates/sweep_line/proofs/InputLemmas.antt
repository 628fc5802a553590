-- The layers of an input's segments, for masks of 32 bits, and the masks of a piece.
use Rattle.std.proofs.Common.{◌≡◌, ℕ, ◌<◌, List, ap, ◌∙◌}
use Rattle.std.specs.Int.RustNames.{bit_xor}
use Rattle.overlay_terms.specs.Layers as terms
use Rattle.overlay_terms.specs.Tiles.{Input, midpoint, below_bits}
use Rattle.overlay_terms.specs.Trees.{mask_bits}
use Rattle.arrange.specs.declared.piece.Elementary.{Elementary}
use Rattle.arrange.specs.Arrangement.{IsElementary}
use Rattle.exact_point.specs.PlaceOf.{place_of}
use Rattle.sweep_line.specs.Label.{IsLabelled}
use Rattle.sweep_line.proofs.ParityLemmas.{over_bits_from}

-- a piece with the bits below it is labelled by them, and by those that its own mask changes
pub labelled : (input : Input) (e : Elementary) (under : ℕ) (marked : List terms.Marked) → IsElementary input e → marked ≡ input.marked
    → ((k : ℕ) → k < 32 → mask_bits under k ≡ below_bits marked (midpoint (place_of e.from) (place_of e.to)) k)
    → IsLabelled input (record { piece = e; under = under; over = bit_xor under e.mask })
labelled input e under marked h same below =
    let m = midpoint (place_of e.from) (place_of e.to) in
    let low : (k : ℕ) → k < 32 → mask_bits under k ≡ below_bits input.marked m k = λ k l. below k l ∙ ap (λ (ms : List terms.Marked). below_bits ms m k) same in
    record { under = low; over = λ k l. over_bits_from input.marked m k under e.mask (low k l) (h.mask k l) }
