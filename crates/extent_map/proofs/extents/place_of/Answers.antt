use Rattle.std.proofs.Common.{◌≤◌, ◌+◌, ◌<◌, length, rules}
use Rattle.extent_map.proofs.Gaps.{behind_from}
use Rattle.extent_map.proofs.extents.place_of.Goals as goal

pub returns-then-is_before-clause-some : goal.returns-then-is_before-clause-some
returns-then-is_before-clause-some c =
    let e = c.args.extent.now in
    let place = c.count_before-place.result in
    let other = c.index-taken-place.result in
    let inside : place < length c.args.taken.now = search rules in
    let before : e.block + e.blocks ≤ other.block = search rules in
    record {
      within = c.count_before-place.ensures.within;
      before = c.count_before-place.ensures.before;
      behind = behind_from c.args.taken.now place other (e.block + e.blocks) inside c.index-taken-place.is c.requires before;
    }
