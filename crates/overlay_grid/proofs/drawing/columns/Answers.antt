use Rattle.std.proofs.Common.{◌≡◌, ◌<◌, ◌-◌, ◌∙◌, ap, arith, sym}
use Rattle.std.specs.List.{range_with_len}
use Rattle.std.proofs.Crossing.{frees}
use Rattle.rayon.specs.Numbers.{nat_range}
use Rattle.rayon.proofs.ToStd.{nat_range-All}
use Rattle.overlay_terms.specs.Layers.{marked_segments}
use Rattle.overlay_grid.proofs.ManySegments.{rings_of}
use Rattle.overlay_grid.specs.Rows.{column_at}
use Rattle.overlay_grid.proofs.Collected.{collected}
use Rattle.overlay_grid.proofs.Sent.{shared}
use Rattle.overlay_grid.proofs.drawing.columns.Goals as goal

pub collect-requires : goal.collect-requires
collect-requires g c κs =
    let ends = c.into_par_iter.ensures in
    let inside = nat_range-All (λ i. i < c.args.grid.now.nx) 0 c.nx.result (λ i low high. omega (arith, c.nx.ensures.value)) in (
      search shared depth 40,
      (
        search shared depth 40,
        (
          search shared depth 40,
          (
            search shared depth 40,
            (
              search shared depth 40,
              (
                frees,
                rw (c.map.ensures.base, c.map.ensures.f, c.with_min_len.ensures.base, ends.0, ends.1) (λ k d lt. ((inside k d lt, (c.requires.few, c.requires.within)), λ y p. tt)),
              ),
            ),
          ),
        ),
      ),
    )

pub returns : goal.returns
returns g c =
    let ends = c.into_par_iter.ensures in
    let n = c.nx.result in
    let whole : n - 0 ≡ c.args.grid.now.nx = omega (arith, c.nx.ensures.value) in
    let h = c.in_ok-collect.ensures in
    let chain = rw (c.map.ensures.base, c.map.ensures.f, c.with_min_len.ensures.base) at h.1 in
    let places = chain.1 ∙ (λ i. nat_range (ends.0 i) (ends.1 i)) ∙ ap (range_with_len 0) whole in
    rw (sym places) (collected (λ v. v.items) (column_at (marked_segments (rings_of c.args.bases.now)) c.args.steps.now c.args.grid.now) (λ w. w.items) chain.0 c.in_ok-collect.field-0 h.0 chain.2 h.2)
