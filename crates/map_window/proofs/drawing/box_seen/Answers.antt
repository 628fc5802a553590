use Rattle.std.proofs.Common.{sym, subst, ◌-ℤ◌}
use Rattle.overlay_terms.specs.Plane.{WholePoint, InRange}
use Rattle.map_window.proofs.Clamping.{box_in_range}
use Rattle.map_window.proofs.drawing.box_seen.Goals as goal

pub whole_seen-low-requires : goal.whole_seen-low-requires
whole_seen-low-requires c =
    let r = box_in_range c.args.core.now c.args.origin c.requires in
    record {
      across = subst (λ (p : WholePoint). InRange (p.x -ℤ c.args.origin.x)) (sym c.low.ensures) r.0.0;
      along = subst (λ (p : WholePoint). InRange (p.y -ℤ c.args.origin.y)) (sym c.low.ensures) r.1.0;
    }

pub whole_seen-high-requires : goal.whole_seen-high-requires
whole_seen-high-requires c =
    let r = box_in_range c.args.core.now c.args.origin c.requires in
    record {
      across = subst (λ (p : WholePoint). InRange (p.x -ℤ c.args.origin.x)) (sym c.high.ensures) r.0.1;
      along = subst (λ (p : WholePoint). InRange (p.y -ℤ c.args.origin.y)) (sym c.high.ensures) r.1.1;
    }
