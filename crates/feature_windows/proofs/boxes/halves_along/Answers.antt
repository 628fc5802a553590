use Rattle.std.proofs.Common.{w64, to_z, of_z, ap, ◌∙◌, rules}
use Rattle.std.specs.Prelude.{FitsSigned}
use Rattle.std.proofs.lemmas.Int.{to_z-of_z}
use Rattle.block_reading.specs.Terms.{Core}
use Rattle.feature_windows.proofs.CutLemmas.{level_read}
use Rattle.feature_windows.proofs.boxes.halves_along.Goals as goal

pub returns : goal.returns
returns c =
    let own = c.core.inside in
    let fit_lx : FitsSigned w64 c.core.inside.low_x = search rules in
    let fit_hx : FitsSigned w64 c.core.inside.high_x = search rules in
    let fit_ly : FitsSigned w64 c.core.inside.low_y = search rules in
    let fit_hy : FitsSigned w64 c.core.inside.high_y = search rules in
    let fit_m : FitsSigned w64 c.middle-y.result = search rules in
    level_read c.args.core.now (to_z w64 (of_z w64 own.low_x)) (to_z w64 (of_z w64 own.high_x)) (to_z w64 (of_z w64 own.low_y)) (to_z w64 (of_z w64 own.high_y)) c.middle-y.result
    (to_z w64 (of_z w64 c.middle-y.result)) (to_z-of_z w64 own.low_x fit_lx ∙ ap (λ (v : Core). v.low_x) c.core.view_is) (to_z-of_z w64 own.high_x fit_hx ∙ ap (λ (v : Core). v.high_x) c.core.view_is)
    (to_z-of_z w64 own.low_y fit_ly ∙ ap (λ (v : Core). v.low_y) c.core.view_is) (to_z-of_z w64 own.high_y fit_hy ∙ ap (λ (v : Core). v.high_y) c.core.view_is)
    (to_z-of_z w64 c.middle-y.result fit_m) c.middle-y.ensures.after c.middle-y.ensures.before
