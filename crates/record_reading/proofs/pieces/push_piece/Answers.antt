use Rattle.std.proofs.Common.{rules, Some, drop, ap, sym, ◌∙◌}
use Rattle.std.proofs.lemmas.Bool.{false≢true}
use Rattle.overlay_terms.specs.Plane.{whole}
use Rattle.exact_point.proofs.PlaceOrder.{same_self}
use Rattle.exact_point.specs.declared.point_name.PointName.TheVariants.{Vertex}
use Rattle.record_reading.specs.Added.{before}
use Rattle.record_reading.proofs.NamedPieceLemmas.{is_one, is_none, piece_read, no_piece, part_from, name_in_part}
use Rattle.record_reading.proofs.pieces.push_piece.Goals as goal

pub returns-then-not-are_piece_ends-clause-err : goal.returns-then-not-are_piece_ends-clause-err
returns-then-not-are_piece_ends-clause-err c =
    let bytes = c.args.bytes.now in
    let support = c.segment_in.ensures ∙ ap (before (drop 16 bytes)) c.in-Some.is in
    let s = c.in-Some.support in
    let f = Vertex c.in-Some-vertex_in.from in
    let t = Vertex c.in-Some-vertex_in-2.to in
    no_piece bytes (drop 16 bytes) (drop 25 bytes) (drop 34 bytes) s f t support
    (name_in_part 16 bytes f c.in-Some-vertex_in.ensures) (name_in_part 25 bytes t c.in-Some-vertex_in-2.ensures)
    (is_none s f t (λ between. false≢true (sym c.if-not-are_piece_ends.true ∙ c.are_piece_ends.ensures.1 between)))

pub returns-in_ok-reserve-in-Some-vertex_in-2-clause-ok : goal.returns-in_ok-reserve-in-Some-vertex_in-2-clause-ok
returns-in_ok-reserve-in-Some-vertex_in-2-clause-ok c =
    let bytes = c.args.bytes.now in
    let support = c.segment_in.ensures ∙ ap (before (drop 16 bytes)) c.in-Some.is in
    let s = c.in-Some.support in
    let f = Vertex c.in-Some-vertex_in.from in
    let t = Vertex c.in-Some-vertex_in-2.to in (
      c.between.result,
      piece_read bytes (drop 16 bytes) (drop 25 bytes) (drop 34 bytes) s f t support
          (name_in_part 16 bytes f c.in-Some-vertex_in.ensures) (name_in_part 25 bytes t c.in-Some-vertex_in-2.ensures)
          (is_one s f t (c.are_piece_ends.ensures.0 c.if-not-are_piece_ends.false) (
            same_self (whole c.in-Some-vertex_in.from),
            same_self (whole c.in-Some-vertex_in-2.to),
          ))
          ∙ (λ i. Some (sym c.between.ensures i, sym (part_from 34 bytes) i)),
      search (rules, c.push_reserved.ensures.items, c.reserve.ensures.items),
    )

pub returns-in-None-vertex_in-2-clause-ok : goal.returns-in-None-vertex_in-2-clause-ok
returns-in-None-vertex_in-2-clause-ok c =
    let bytes = c.args.bytes.now in
    let support = c.segment_in.ensures ∙ ap (before (drop 16 bytes)) c.in-Some.is in
    let f = Vertex c.in-Some-vertex_in.from in
    c.push_from.ensures.ok bytes (drop 16 bytes) support
    (name_in_part 16 bytes f c.in-Some-vertex_in.ensures ∙ (λ i. Some (f, sym (part_from 25 bytes) i)))

pub returns-in-None-vertex_in-2-clause-err : goal.returns-in-None-vertex_in-2-clause-err
returns-in-None-vertex_in-2-clause-err c =
    let bytes = c.args.bytes.now in
    let support = c.segment_in.ensures ∙ ap (before (drop 16 bytes)) c.in-Some.is in
    let f = Vertex c.in-Some-vertex_in.from in
    c.push_from.ensures.err bytes (drop 16 bytes) support
    (name_in_part 16 bytes f c.in-Some-vertex_in.ensures ∙ (λ i. Some (f, sym (part_from 25 bytes) i)))

pub returns-in-None-vertex_in-clause-ok : goal.returns-in-None-vertex_in-clause-ok
returns-in-None-vertex_in-clause-ok c =
    let bytes = c.args.bytes.now in
    let support = c.segment_in.ensures ∙ ap (before (drop 16 bytes)) c.in-Some.is in
    c.push_named.ensures.ok bytes (support ∙ (λ i. Some (c.in-Some.support, sym (part_from 16 bytes) i)))

pub returns-in-None-vertex_in-clause-err : goal.returns-in-None-vertex_in-clause-err
returns-in-None-vertex_in-clause-err c =
    let bytes = c.args.bytes.now in
    let support = c.segment_in.ensures ∙ ap (before (drop 16 bytes)) c.in-Some.is in
    c.push_named.ensures.err bytes (support ∙ (λ i. Some (c.in-Some.support, sym (part_from 16 bytes) i)))
