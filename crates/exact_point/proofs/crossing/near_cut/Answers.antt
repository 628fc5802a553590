use Rattle.std.proofs.Common.{◌≡◌, ℤ, ◌-ℤ◌, ◌^◌, lit<, refl, ap, subst, ◌∙◌, to_z, of_z}
use Rattle.std.specs.Int.{w64}
use Rattle.overlay_terms.specs.Plane.{InRange}
use Rattle.exact_point.specs.CutOver.{IsCutOver, cut_over}
use Rattle.exact_point.proofs.CutLemmas.{cut_y_small, mean_is}
use Rattle.exact_point.proofs.NarrowBounds.{narrow_read}
use Rattle.exact_point.proofs.Readings.{way_is, whole_is}
use Rattle.exact_point.proofs.crossing.near_cut.Goals as goal

in_range : {r a : ℤ} → InRange r → r ≡ a → InRange a
in_range {r} {a} h e = subst (λ (z : ℤ). InRange z) e h

way : (c : goal.After-near_between) → to_z w64 (of_z w64 c.minus-w.result) ≡ c.args.seg.now.right.x -ℤ c.args.seg.now.left.x
way c =
    way_is c.minus-w.ensures.small c.minus-w.ensures.value (whole_is c.x.ensures.in_range (c.x.ensures.value ∙ ap (λ p. p.x) c.right-right.ensures.value))
    (whole_is c.x-2.ensures.in_range (c.x-2.ensures.value ∙ ap (λ p. p.x) c.left-left.ensures.value))

known : (c : goal.After-near_between) → IsCutOver c.args.seg.now c.args.x
known c = record {
  left_x = in_range c.x-2.ensures.in_range (c.x-2.ensures.value ∙ ap (λ p. p.x) c.left-left.ensures.value);
  left_y = in_range c.y.ensures.in_range (c.y.ensures.value ∙ ap (λ p. p.y) c.left-left.ensures.value);
  right_x = in_range c.x.ensures.in_range (c.x.ensures.value ∙ ap (λ p. p.x) c.right-right.ensures.value);
  right_y = in_range c.y-2.ensures.in_range (c.y-2.ensures.value ∙ ap (λ p. p.y) c.right-right.ensures.value);
  after_left = c.requires.after_left;
  before_right = c.requires.before_right;
}

along : (c : goal.After-near_between) → c.near_between.result ≡ (cut_over c.args.seg.now c.args.x).y
along c =
    mean_is c.near_between.result _ _ _ _ _ _ _ _ c.near_between.ensures.value (whole_is c.y.ensures.in_range (c.y.ensures.value ∙ ap (λ p. p.y) c.left-left.ensures.value))
    (whole_is c.y-2.ensures.in_range (c.y-2.ensures.value ∙ ap (λ p. p.y) c.right-right.ensures.value))
    (way_is c.minus.ensures.small c.minus.ensures.value (whole_is c.requires.in_range refl) (whole_is c.x-3.ensures.in_range (c.x-3.ensures.value ∙ ap (λ p. p.x) c.left-left.ensures.value)))
    (way c)

pub returns-clause-known : goal.returns-clause-known
returns-clause-known c = known c

pub returns-clause-over : goal.returns-clause-over
returns-clause-over c = way c

pub returns-clause-along : goal.returns-clause-along
returns-clause-along c = narrow_read (2 ^ 41) c.near_between.result (rw (along c) (cut_y_small c.args.seg.now c.args.x (known c))) (lit< tt) ∙ along c
