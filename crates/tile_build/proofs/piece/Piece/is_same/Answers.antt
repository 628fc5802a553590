use Rattle.std.proofs.Common.{◌≡◌, ◌&&◌, ap, sym, ◌∙◌}
use Rattle.overlay_terms.specs.Plane.{Point, same_place}
use Rattle.exact_point.specs.PlaceOf.{place_of}
use Rattle.exact_point.specs.NamedPiece.{ends_of}
use Rattle.tile_laws.specs.SameTile.{same_pair}
use Rattle.tile_build.proofs.SameLemmas.{same_places}
use Rattle.tile_build.proofs.piece.Piece.is_same.Goals as goal

pub returns-then-from-clause-value : goal.returns-then-from-clause-value
returns-then-from-clause-value c =
    let p : Point = place_of c.self.inside.from in
    let q : Point = place_of c.other.inside.from in
    let r : Point = place_of c.self.inside.to in
    let s : Point = place_of c.other.inside.to in
    let from : c.eq-from.result ≡ same_place p q =
    same_places c.known_point.result c.known_point-2.result p q c.eq-from.result c.known_point.ensures.value c.known_point-2.ensures.value c.eq-from.ensures in
    let to : c.eq-to.result ≡ same_place r s =
    same_places c.known_point-3.result c.known_point-4.result r s c.eq-to.result c.known_point-3.ensures.value c.known_point-4.ensures.value c.eq-to.ensures in
    ap (λ b. b && c.eq-to.result) (sym c.if-from.true) ∙ (λ i. from i && to i)
    ∙ (λ i. same_pair (ends_of (c.self.view_is i)) (ends_of (c.other.view_is i)))

pub returns-else-from-clause-value : goal.returns-else-from-clause-value
returns-else-from-clause-value c =
    let p : Point = place_of c.self.inside.from in
    let q : Point = place_of c.other.inside.from in
    let r : Point = place_of c.self.inside.to in
    let s : Point = place_of c.other.inside.to in
    let from : c.eq-from.result ≡ same_place p q =
    same_places c.known_point.result c.known_point-2.result p q c.eq-from.result c.known_point.ensures.value c.known_point-2.ensures.value c.eq-from.ensures in
    c.if-from.false ∙ ap (λ b. b && same_place r s) (sym c.if-from.false ∙ from)
    ∙ (λ i. same_pair (ends_of (c.self.view_is i)) (ends_of (c.other.view_is i)))
