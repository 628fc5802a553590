-- The segments with a point in a column, one more at a time.
use Rattle.std.specs.Prelude.{◌≡◌, ℕ, ◌+◌, ◌<◌, true, false, List, [], ◌∷◌, ◌++◌, map, take, get_or, length, All}
use Rattle.std.proofs.Common.{ap, sym, ◌∙◌, cond, append_assoc, append-nil, subst}
use Rattle.std.proofs.lemmas.List.{map_more, map-append}
use Rattle.std.proofs.lemmas.List.Elements.{filter-append, All-more}
use Rattle.overlay_terms.specs.Plane.{Segment}
use Rattle.overlay_terms.specs.Column.{touches}
use Rattle.overlay_terms.specs.Layers.{Marked}
use Rattle.overlay_terms.specs.TileLaws.{IsProper}
use Rattle.arrange.specs.declared.marked_seg.MarkedSeg.{MarkedSeg}
use Rattle.arrange.specs.Marked.{marked_of, kept_in}

-- a segment with the number of its layer
abbrev pub mark : ℕ → Segment → Marked
mark layer s = record { layer = layer; segment = s }

-- what one more segment adds to those that are kept
kept_more : (column layer : ℕ) (segs : List Segment) (i : ℕ) (s : Segment) → i < length segs → s ≡ get_or segs i s → kept_in column (map (mark layer) (take (i + 1) segs)) ≡ kept_in column (map (mark layer) (take i segs)) ++ cond (touches column s) (mark layer s ∷ []) []
kept_more column layer segs i s h e =
    ap (kept_in column) (map_more (mark layer) segs i s h)
    ∙ filter-append (λ (m : Marked). touches column m.segment) (map (mark layer) (take i segs)) (mark layer (get_or segs i s) ∷ [])
    ∙ ap (λ t. kept_in column (map (mark layer) (take i segs)) ++ cond (touches column t) (mark layer t ∷ []) []) (sym e)

-- a segment that touches the column is added after those kept
pub kept_more_yes : (column layer : ℕ) (segs : List Segment) (i : ℕ) (s : Segment) (before : List Marked) (items new : List MarkedSeg) (m : MarkedSeg) →
    i < length segs → s ≡ get_or segs i s → touches column s ≡ true → marked_of m ≡ mark layer s → new ≡ items ++ m ∷ [] → map marked_of items ≡ before ++ kept_in column (map (mark layer) (take i segs)) →
    map marked_of new ≡ before ++ kept_in column (map (mark layer) (take (i + 1) segs))
kept_more_yes column layer segs i s before items new m h e touching is added was =
    let kept = kept_in column (map (mark layer) (take i segs)) in
    ap (map marked_of) added
    ∙ map-append marked_of items (m ∷ [])
    ∙ ap (λ xs. xs ++ marked_of m ∷ []) was
    ∙ ap (λ t. (before ++ kept) ++ t ∷ []) is
    ∙ append_assoc before kept (mark layer s ∷ [])
    ∙ ap (λ b. before ++ (kept ++ cond b (mark layer s ∷ []) [])) (sym touching)
    ∙ ap (λ xs. before ++ xs) (sym (kept_more column layer segs i s h e))

-- another changes nothing
pub kept_more_no : (column layer : ℕ) (segs : List Segment) (i : ℕ) (s : Segment) (before now : List Marked) →
    i < length segs → s ≡ get_or segs i s → touches column s ≡ false → now ≡ before ++ kept_in column (map (mark layer) (take i segs)) →
    now ≡ before ++ kept_in column (map (mark layer) (take (i + 1) segs))
kept_more_no column layer segs i s before now h e apart was =
    let kept = kept_in column (map (mark layer) (take i segs)) in
    was
    ∙ ap (λ xs. before ++ xs) (sym (append-nil kept))
    ∙ ap (λ b. before ++ (kept ++ cond b (mark layer s ∷ []) [])) (sym apart)
    ∙ ap (λ xs. before ++ xs) (sym (kept_more column layer segs i s h e))

-- one more proper segment
pub proper_more : (segs : List Segment) (i : ℕ) (s : Segment) → i < length segs → s ≡ get_or segs i s → IsProper s → All IsProper (take i segs) → All IsProper (take (i + 1) segs)
proper_more segs i s h e proper was = All-more IsProper segs i s h was (subst IsProper e proper)
