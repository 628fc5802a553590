-- The laws of the leaned plane, put together.
use Rattle.exact_point.proofs.OnLine.{less_from_forward, forward_from_less}
use Rattle.crossing_sweep.specs.Leaning.{LeaningKeeps}
use Rattle.crossing_sweep.proofs.Lean.{lean_height, lean_turn, lean_left}
use Rattle.crossing_sweep.proofs.Meeting.{before_from_lean}
use Rattle.crossing_sweep.proofs.Inputs.{steep_positive, near, fits}

pub leaning_keeps : LeaningKeeps
leaning_keeps n steep = record {
  sides = lean_height n;
  turns = lean_turn n;
  order = λ p q sp sq less. lean_left n p q (steep_positive n steep) (near n p q steep sp sq) (forward_from_less p q less);
  order_back = λ p q sp sq left. less_from_forward p q (before_from_lean n p q (steep_positive n steep) (near n p q steep sp sq) left);
  slanted = λ s proper. (fits n s steep proper).wide;
}
