use Rattle.std.proofs.Common.{ℕ, ◌+◌, ◌-◌, ◌<◌, ◌/◌, length, ap, sym, ◌∙◌, arith}
use Rattle.overlay_terms.specs.Column.{is_in_column}
use Rattle.crossing_sweep.specs.NodeNames.{named_ends}
use Rattle.crossing_sweep.specs.declared.row.Row.{Row}
use Rattle.tile_build.proofs.StripSplit.{row_read, all_before, none_after}
use Rattle.tile_build.proofs.strip_tiles.part_end.Goals as goal

pub loop-low-init : goal.loop-low-init
loop-low-init c = record {
  from = omega arith;
  order = c.requires.known;
  to = omega arith;
  within = λ i d h l. absurd (omega (arith, h, l));
  beyond = λ i d h l. absurd (omega (arith, h, l));
}

pub loop-low-preserved-then-begins_in : goal.loop-low-preserved-then-begins_in
loop-low-preserved-then-begins_in c =
    let middle : ℕ = c.loop-low.low + (c.loop-low.high - c.loop-low.low) / 2 in
    let inside : middle < length c.args.rows.now = omega arith in
    record {
      from = omega arith;
      order = omega arith;
      to = c.loop-low.invariant.to;
      within = all_before (named_ends c.args.names.now) c.args.rows.now c.requires.ordered (λ i d l. (c.requires.spans i d l).from_positive) c.args.column c.args.start c.requires.after middle (omega arith) inside
          (λ d. ap (λ (row : Row). is_in_column c.args.column (named_ends c.args.names.now row).0) (row_read c.args.rows.now middle c.index-rows-middle.result inside c.index-rows-middle.is d) ∙ sym c.begins_in.ensures ∙ c.if-begins_in.true);
      beyond = c.loop-low.invariant.beyond;
    }

pub loop-low-preserved : goal.loop-low-preserved
loop-low-preserved c =
    let middle : ℕ = c.loop-low.low + (c.loop-low.high - c.loop-low.low) / 2 in
    let inside : middle < length c.args.rows.now = omega arith in
    record {
      from = c.loop-low.invariant.from;
      order = omega arith;
      to = omega arith;
      within = c.loop-low.invariant.within;
      beyond = none_after (named_ends c.args.names.now) c.args.rows.now c.requires.ordered (λ i d l. (c.requires.spans i d l).from_positive) c.args.column c.args.start c.requires.after middle (omega arith) inside
          (λ d. ap (λ (row : Row). is_in_column c.args.column (named_ends c.args.names.now row).0) (row_read c.args.rows.now middle c.index-rows-middle.result inside c.index-rows-middle.is d) ∙ sym c.begins_in.ensures ∙ c.if-begins_in.false);
    }
