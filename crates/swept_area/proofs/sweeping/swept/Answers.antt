use Rattle.std.proofs.Common.{◌≡◌, ℤ, ◌*ℤ◌, lit<, ap, sym, refl, ◌∙◌, true, false}
use Rattle.std.specs.Int.{int_div_euclid}
use Rattle.overlay_terms.specs.Plane.{Segment, Point}
use Rattle.overlay_terms.proofs.Bounds.{read, reads, sub_reads}
use Rattle.exact_point.specs.Place.{place}
use Rattle.exact_point.proofs.Readings.{differ}
use Rattle.swept_area.specs.Swept.{Sided, along, turn_of, length_of, mark_of, swept_of, signed_of}
use Rattle.swept_area.specs.Pieces.{point_from, segment_from, sided_from}
use Rattle.swept_area.proofs.sweeping.swept.Goals as goal

-- a share of a line's way, as the mark of a place
marked : (s : Segment) (p : Point) (share turn length v : ℤ) → share ≡ int_div_euclid (turn *ℤ v) length → turn ≡ turn_of s → length ≡ length_of s → v ≡ along s p → share ≡ mark_of s p
marked s p share turn length v is t l a =
    is ∙ ap (λ (z : ℤ). int_div_euclid (z *ℤ v) length) t ∙ ap (λ (z : ℤ). int_div_euclid (turn_of s *ℤ v) z) l ∙ ap (λ (z : ℤ). int_div_euclid (turn_of s *ℤ z) (length_of s)) a

over_is : (a : Sided) → a.over ≡ true → signed_of a ≡ swept_of a.support a.from a.to
over_is a e = rw e refl

under_is : (a : Sided) → a.over ≡ false → signed_of a ≡ swept_of a.support a.to a.from
under_is a e = rw e refl

pub returns-then-piece-clause-value : goal.returns-then-piece-clause-value
returns-then-piece-clause-value c =
    let line = c.line_from-line.ensures in
    let from = marked (segment_from c.args.by.now c.args.piece.now.support) (point_from c.args.by.now (place c.args.piece.now.from)) _ _ _ _ c.share-from.ensures.value line.turn line.length
    (read _ _ c.along_from.ensures.small (lit< tt) ∙ c.along_from.ensures.value (segment_from c.args.by.now c.args.piece.now.support) (sym line.flat)) in
    let to = marked (segment_from c.args.by.now c.args.piece.now.support) (point_from c.args.by.now (place c.args.piece.now.to)) _ _ _ _ c.share-to.ensures.value line.turn line.length
    (read _ _ c.along_from-2.ensures.small (lit< tt) ∙ c.along_from-2.ensures.value (segment_from c.args.by.now c.args.piece.now.support) (sym line.flat)) in
    (sub_reads (reads _ _ c.share-to.ensures.small (lit< tt)) (reads _ _ c.share-from.ensures.small (lit< tt)) (lit< tt)).is
    ∙ differ _ _ _ _ to from ∙ sym (over_is (sided_from c.args.by.now c.args.piece.now) c.if-piece.true)

pub returns-else-piece-clause-value : goal.returns-else-piece-clause-value
returns-else-piece-clause-value c =
    let line = c.line_from-line.ensures in
    let from = marked (segment_from c.args.by.now c.args.piece.now.support) (point_from c.args.by.now (place c.args.piece.now.from)) _ _ _ _ c.share-from.ensures.value line.turn line.length
    (read _ _ c.along_from.ensures.small (lit< tt) ∙ c.along_from.ensures.value (segment_from c.args.by.now c.args.piece.now.support) (sym line.flat)) in
    let to = marked (segment_from c.args.by.now c.args.piece.now.support) (point_from c.args.by.now (place c.args.piece.now.to)) _ _ _ _ c.share-to.ensures.value line.turn line.length
    (read _ _ c.along_from-2.ensures.small (lit< tt) ∙ c.along_from-2.ensures.value (segment_from c.args.by.now c.args.piece.now.support) (sym line.flat)) in
    (sub_reads (reads _ _ c.share-from.ensures.small (lit< tt)) (reads _ _ c.share-to.ensures.small (lit< tt)) (lit< tt)).is
    ∙ differ _ _ _ _ from to ∙ sym (under_is (sided_from c.args.by.now c.args.piece.now) c.if-piece.false)
