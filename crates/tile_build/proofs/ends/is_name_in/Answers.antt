use Rattle.std.proofs.Common.{◌≡◌, ◌==◌, ℕ, ap, sym, subst, ◌∙◌, nat_eq, rules}
use Rattle.overlay_terms.specs.Column.{is_in_column}
use Rattle.exact_point.specs.PlaceOf.{place_of}
use Rattle.exact_point.specs.PointName.{HasPlace}
use Rattle.exact_point.specs.declared.point_name.PointName.{PointName}
use Rattle.tile_build.proofs.EndLemmas.{cut_in}
use Rattle.tile_build.proofs.ends.is_name_in.Goals as goal

pub returns-in-Border : goal.returns-in-Border
returns-in-Border c =
    let k : ℕ = c.args.column in
    let cut = subst HasPlace c.in-Border.is c.requires in
    let same : nat_eq c.number.result c.in-Border.number ≡ (k == c.in-Border.number) = search rules in
    same ∙ cut_in k c.in-Border.number c.in-Border.field-0 cut ∙ ap (λ (n : PointName). is_in_column k (place_of n)) (sym c.in-Border.is)
