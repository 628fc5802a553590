use Rattle.std.proofs.Common.{◌≡◌, ◌∙◌, sym, ap, subst, arith}
use Rattle.std.proofs.lemmas.Result.{IfOk-weaker}
use Rattle.overlay_terms.specs.Plane.{ring_step_count}
use Rattle.plane_base.specs.BaseLayer.{first_ring_fault}
use Rattle.map_window.specs.Window.{Shows, NothingBeyond, NothingOff}
use Rattle.map_window.proofs.Frames.{core_placed}
use Rattle.map_window.proofs.Maps.{fit, whole_drawn, shown, nothing_beyond, nothing_off}
use Rattle.map_window.proofs.window.windowed.Goals as goal

pub rings_drawn-requires-clause-core_placed : goal.rings_drawn-requires-clause-core_placed
rings_drawn-requires-clause-core_placed c =
    let h = fit c.args.core.now c.args.frame.now c.args.origin c.args.rings.now (sym c.fault_of.ensures ∙ c.in_default.is) in
    core_placed c.args.core.now c.args.frame.now c.args.origin h.within h.in_plane

pub rings_drawn-requires-clause-frame_placed : goal.rings_drawn-requires-clause-frame_placed
rings_drawn-requires-clause-frame_placed c = (fit c.args.core.now c.args.frame.now c.args.origin c.args.rings.now (sym c.fault_of.ensures ∙ c.in_default.is)).in_plane

pub layer_of-requires : goal.layer_of-requires
layer_of-requires c =
    let h = fit c.args.core.now c.args.frame.now c.args.origin c.args.rings.now (sym c.fault_of.ensures ∙ c.in_default.is) in
    ap (first_ring_fault 0) c.in_ok-drawn.ensures.ok ∙ (whole_drawn c.args.core.now c.args.frame.now c.args.origin c.args.rings.now h).valid 0

pub returns-clause-shows : goal.returns-clause-shows
returns-clause-shows c =
    let h = fit c.args.core.now c.args.frame.now c.args.origin c.args.rings.now (sym c.fault_of.ensures ∙ c.in_default.is) in
    IfOk-weaker c.layer_of.result (λ layer. layer ≡ c.in_ok-drawn.drawn.items) (Shows c.args.core.now c.args.origin c.args.rings.now)
    (λ layer e. subst (Shows c.args.core.now c.args.origin c.args.rings.now) (sym (e ∙ c.in_ok-drawn.ensures.ok)) (shown c.args.core.now c.args.frame.now c.args.origin c.args.rings.now h))
    c.layer_of.ensures.ok

pub returns-clause-beyond : goal.returns-clause-beyond
returns-clause-beyond c =
    let h = fit c.args.core.now c.args.frame.now c.args.origin c.args.rings.now (sym c.fault_of.ensures ∙ c.in_default.is) in
    IfOk-weaker c.layer_of.result (λ layer. layer ≡ c.in_ok-drawn.drawn.items) (NothingBeyond c.args.core.now c.args.origin c.args.rings.now)
    (λ layer e. subst (NothingBeyond c.args.core.now c.args.origin c.args.rings.now) (sym (e ∙ c.in_ok-drawn.ensures.ok)) (nothing_beyond c.args.core.now c.args.frame.now c.args.origin c.args.rings.now h))
    c.layer_of.ensures.ok

pub returns-clause-off : goal.returns-clause-off
returns-clause-off c =
    let h = fit c.args.core.now c.args.frame.now c.args.origin c.args.rings.now (sym c.fault_of.ensures ∙ c.in_default.is) in
    IfOk-weaker c.layer_of.result (λ layer. layer ≡ c.in_ok-drawn.drawn.items) (NothingOff c.args.frame.now c.args.origin)
    (λ layer e. subst (NothingOff c.args.frame.now c.args.origin) (sym (e ∙ c.in_ok-drawn.ensures.ok)) (nothing_off c.args.core.now c.args.frame.now c.args.origin c.args.rings.now h))
    c.layer_of.ensures.ok

pub returns-clause-accepted : goal.returns-clause-accepted
returns-clause-accepted c =
    let h = fit c.args.core.now c.args.frame.now c.args.origin c.args.rings.now (sym c.fault_of.ensures ∙ c.in_default.is) in
    let few = (whole_drawn c.args.core.now c.args.frame.now c.args.origin c.args.rings.now h).few in
    λ e most. c.layer_of.ensures.few (omega (arith, few, ap ring_step_count c.in_ok-drawn.ensures.ok))
