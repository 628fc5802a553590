use Rattle.std.proofs.Common.{◌≡◌, ℕ, ◌+◌, ◌<◌, List, [], ◌∷◌, ◌++◌, length, get_or, map, take, ap, sym, subst, ◌∙◌}
use Rattle.std.specs.Prelude.{All}
use Rattle.std.proofs.lemmas.List.{map_more, map-append}
use Rattle.std.proofs.lemmas.List.Elements.{All-push}
use Rattle.crossing_sweep.specs.declared.node_name.NodeName.{NodeName}
use Rattle.crossing_sweep.specs.declared.row.Row.{Row}
use Rattle.swept_area.specs.SweptLaws.{IsSegment}
use Rattle.swept_area.specs.declared.piece.SidedPiece.{SidedPiece}
use Rattle.sided_pieces.specs.Sided.{named, sided_of}
use Rattle.sided_pieces.proofs.finding.pieces_of.Goals as goal

one_more : (names : List NodeName) (rows : List Row) (list : List SidedPiece) (i : ℕ) (row : Row) (p : SidedPiece) → i < length rows → row ≡ get_or rows i row
    → map sided_of list ≡ map (named names) (take i rows) → sided_of p ≡ named names row → map sided_of (list ++ p ∷ []) ≡ map (named names) (take (i + 1) rows)
one_more names rows list i row p h is same one =
    map-append sided_of list (p ∷ []) ∙ ap (λ xs. xs ++ sided_of p ∷ []) same
    ∙ ap (λ a. map (named names) (take i rows) ++ a ∷ []) (one ∙ ap (named names) is) ∙ sym (map_more (named names) rows i row h)

pub loop-row-preserved : goal.loop-row-preserved
loop-row-preserved c =
    let names = c.args.names.now in
    let rows = c.args.rows.now in
    let list = c.loop-row.list.items in
    let piece = c.piece_of.result in
    record {
      rows = ap (map sided_of) c.in_ok-push.ensures.items ∙ one_more names rows list c.loop-row.row-index c.row-item.result piece c.loop-row-test.true c.row-item.is c.loop-row.invariant.rows c.piece_of.ensures.row;
      segments = subst (All (λ p. IsSegment p.support)) (sym c.in_ok-push.ensures.items) (All-push (λ (p : SidedPiece). IsSegment p.support) list piece c.loop-row.invariant.segments c.piece_of.ensures.segment);
    }
