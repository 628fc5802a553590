use Rattle.std.proofs.Common.{refl, sym, ◌∙◌}
use Rattle.std.proofs.lemmas.Bool.{both_ways}
use Rattle.overlay_terms.specs.Tiles.{is_vertical}
use Rattle.sweep_line.proofs.labelling.begin.Goals as goal

pub returns-then-is_vertical : goal.returns-then-is_vertical
returns-then-is_vertical c = record {
  ahead = c.is_vertical.ensures.ahead;
  upright = λ h. refl;
  slanted = λ h. absurd (both_ways (is_vertical c.args.label.now.piece.support) h (sym c.is_vertical.ensures.value ∙ c.if-is_vertical.true));
}

pub returns : goal.returns
returns c = record {
  ahead = c.is_vertical.ensures.ahead;
  upright = λ h. absurd (both_ways (is_vertical c.args.label.now.piece.support) (sym c.is_vertical.ensures.value ∙ c.if-is_vertical.false) h);
  slanted = λ h. (record { to = c.known_point-to.result; support = c.args.label.now.piece.support; over = c.args.label.now.over }, c.known_point-to.ensures.value, refl, refl, c.in_ok-enter.ensures);
}
