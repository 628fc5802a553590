use Rattle.std.proofs.Common.{◌≡◌, rules, sym, ◌∙◌}
use Rattle.std.specs.Ordering.{is_lt}
use Rattle.overlay_terms.specs.Plane.{whole_cmp}
use Rattle.tile_build.proofs.EndLemmas.{whole_ends}
use Rattle.tile_build.proofs.ends.are_whole_ends.Goals as goal

pub returns : goal.returns
returns c =
    let told : c.is_lt.result ≡ is_lt (whole_cmp c.args.left c.args.right) = search rules in
    whole_ends c.args.support.now c.args.left c.args.right c.is_lt.result
    (sym c.is_whole_on.ensures ∙ c.if-not-is_whole_on.false) (sym c.is_whole_on-2.ensures ∙ c.if-not-is_whole_on-2.false) told
