-- The unit of a segment that is alone on its line.
use Rattle.std.proofs.Common.{◌≡◌, zero, suc, List, [], ◌∷◌, ◌++◌, refl, ap, sym, ◌∙◌, arith}
use Rattle.std.specs.Prelude.{Some, None}
use Rattle.std.specs.Ordering.{is_lt, ordering_reverse}
use Rattle.std.proofs.lemmas.List.{append-nil}
use Rattle.std.proofs.lemmas.List.Sorted.{IsPermutation-refl}
use Rattle.overlay_terms.specs.Layers.{Marked}
use Rattle.overlay_terms.proofs.PointOrder.{whole_cmp_total}
use Rattle.arrange.specs.LineEnds.{left_end, right_end, AreInOrder, AreOnOneLine, IsCounted, open_unit}
use Rattle.arrange.specs.Lines.{line_marked}
use Rattle.arrange.specs.AddedUnits.{HasAddedUnits}
use Rattle.arrange.specs.declared.line_end.LineEnd.{LineEnd}
use Rattle.arrange.specs.declared.line_seg.LineSeg.{LineSeg}
use Rattle.arrange.specs.declared.passed_ends.PassedEnds.{PassedEnds}
use Rattle.arrange.specs.declared.unit.Unit.{Unit}
use Rattle.arrange.proofs.EndStretches.{AreEndsAlong}
use Rattle.arrange.proofs.RunLemmas.{ends_along, pass_begins, pass_ends, pass_with, pass_without}

module _ (segment : LineSeg) (line : AreOnOneLine (segment ∷ [])) (before after : PassedEnds) (none : IsCounted [] before)
    (more : (xs : List LineEnd) → IsCounted xs before → IsCounted (xs ++ left_end (line_marked segment) ∷ []) after) where
  abbrev pub m : Marked
  m = line_marked segment

  abbrev pub ends : List LineEnd
  ends = left_end m ∷ right_end m ∷ []

  in_order : AreInOrder ends
  in_order zero d low l = ap is_lt (whole_cmp_total.antisymm m.segment.right m.segment.left ∙ ap ordering_reverse segment.proper.first)
  in_order (suc k) d low l = absurd (omega (arith, l))

  along : AreEndsAlong (m ∷ []) ends
  along = ends_along (segment ∷ []) ends line (IsPermutation-refl ends) in_order

  pub lone_with : (old : List Unit) (unit : Unit) → Some unit ≡ open_unit after m.segment.left m.segment.right → HasAddedUnits (m ∷ []) old (old ++ unit ∷ [])
  lone_with old unit e = record {
    more = unit ∷ [];
    are = pass_ends (m ∷ []) ends along 2 after (unit ∷ []) (omega arith)
        (pass_with (m ∷ []) ends along 1 (left_end m) (left_end m) (right_end m) (omega arith) (omega arith) refl refl refl before after [] (pass_begins (m ∷ []) ends before [] none refl) more unit e);
    added = refl;
  }

  pub lone_without : (old : List Unit) → None ≡ open_unit after m.segment.left m.segment.right → HasAddedUnits (m ∷ []) old old
  lone_without old e = record {
    more = [];
    are = pass_ends (m ∷ []) ends along 2 after [] (omega arith)
        (pass_without (m ∷ []) ends along 1 (left_end m) (left_end m) (right_end m) (omega arith) (omega arith) refl refl refl before after [] (pass_begins (m ∷ []) ends before [] none refl) more e);
    added = sym (append-nil old);
  }
