use Rattle.std.proofs.Common.{◌≤◌, ◌+◌, ◌<◌, ◌-◌, ◌/◌, length, arith, rules}
use Rattle.extent_map.proofs.Gaps.{all_by, none_by}
use Rattle.extent_map.proofs.extents.count_before.Goals as goal

pub loop-low-preserved-then-is_before : goal.loop-low-preserved-then-is_before
loop-low-preserved-then-is_before c =
    let at = c.loop-low in
    let middle = at.low + (at.high - at.low) / 2 in
    let e = c.index-taken-middle.result in
    let inside : middle < length c.args.taken.now = omega (arith, at.invariant.within, c.loop-low-test.true) in
    let before : e.block + e.blocks ≤ c.args.extent.now.block = search rules in
    record {
      order = omega (arith, c.loop-low-test.true);
      within = at.invariant.within;
      before = all_by c.args.taken.now middle e c.args.extent.now.block inside c.index-taken-middle.is c.requires before;
      others = at.invariant.others;
    }

pub loop-low-preserved : goal.loop-low-preserved
loop-low-preserved c =
    let at = c.loop-low in
    let middle = at.low + (at.high - at.low) / 2 in
    let e = c.index-taken-middle.result in
    let inside : middle < length c.args.taken.now = omega (arith, at.invariant.within, c.loop-low-test.true) in
    let past : e.block + e.blocks ≤ c.args.extent.now.block → ⊥ = search rules in
    record {
      order = omega (arith, c.loop-low-test.true);
      within = omega (arith, inside);
      before = at.invariant.before;
      others = none_by c.args.taken.now middle e c.args.extent.now.block inside c.index-taken-middle.is c.requires past;
    }
