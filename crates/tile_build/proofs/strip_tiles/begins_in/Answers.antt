use Rattle.std.proofs.Common.{ap, ◌∙◌}
use Rattle.overlay_terms.specs.Column.{is_in_column}
use Rattle.exact_point.specs.PlaceOf.{place_of}
use Rattle.tile_build.proofs.strip_tiles.begins_in.Goals as goal

pub returns : goal.returns
returns c = c.is_name_in.ensures ∙ ap (λ n. is_in_column c.args.column (place_of n)) c.name_of.ensures
