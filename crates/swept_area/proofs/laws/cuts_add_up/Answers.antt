use Rattle.std.proofs.Common.{◌≡◌, ◌+ℤ◌, Bool, true, false, arith}
use Rattle.std.proofs.lemmas.Int.{ints}
use Rattle.overlay_terms.specs.Plane.{Point, Segment}
use Rattle.swept_area.specs.Swept.{signed_of}
use Rattle.swept_area.proofs.laws.cuts_add_up.Goals as goal

adds : (s : Segment) (p q r : Point) (over : Bool) →
    signed_of (record { support = s; from = p; to = q; over = over }) +ℤ signed_of (record { support = s; from = q; to = r; over = over })
    ≡ signed_of (record { support = s; from = p; to = r; over = over })
adds s p q r true = omega (arith, ints)
adds s p q r false = omega (arith, ints)

pub returns : goal.returns
returns c = adds
