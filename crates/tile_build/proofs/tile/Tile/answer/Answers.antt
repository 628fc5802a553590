use Rattle.std.proofs.Common.{◌≡◌, ◌%◌, ◌==◌, List, map, count_by, Some, Bool, ap, sym, ◌∙◌, rules}
use Rattle.overlay_terms.specs.Plane.{Point}
use Rattle.overlay_terms.specs.TileLaws.{is_pair_below}
use Rattle.exact_point.specs.NamedPiece.{NamedPiece, ends_of}
use Rattle.tile_build.specs.Tile.{tile_of, answer_of}
use Rattle.tile_build.specs.declared.tile.Tile.{Tile}
use Rattle.tile_build.proofs.tile.Tile.answer.Goals as goal

pub returns-in-Pieces : goal.returns-in-Pieces
returns-in-Pieces c =
    let q : Point = c.args.query.now in
    let odd : c.is_odd_below.result ≡ (count_by (is_pair_below q) (map ends_of c.in-Pieces.pieces.items) % 2 == 1) =
    c.is_odd_below.ensures
    ∙ ap (λ (p : Point). count_by (is_pair_below p) (map ends_of c.deref.result.now) % 2 == 1) c.point.ensures
    ∙ ap (λ (ps : List NamedPiece). count_by (is_pair_below q) (map ends_of ps) % 2 == 1) c.deref.ensures.value in
    ap (λ (b : Bool). Some b) odd ∙ ap (λ (t : Tile). answer_of (tile_of t) q) (sym c.in-Pieces.is)

-- found by search alone: it is written here so that a wrong body is refused without working out what to write
pub returns-in-Oversize : goal.returns-in-Oversize
returns-in-Oversize c = search rules
