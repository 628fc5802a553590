-- Base layers one after another, and what they make of an input.
use Rattle.std.specs.Prelude.{◌≡◌, ℕ, ◌+◌, ◌*◌, ◌<◌, ◌≤◌, None, List, [], ◌∷◌, ◌++◌, length, map, get_or, take, All, Contains}
use Rattle.std.proofs.Common.{ap, sym, subst, ◌∙◌, arith, append_assoc, append-nil, take_all, Bor}
use Rattle.std.proofs.lemmas.List.{map_more, length-map, length-take-le}
use Rattle.std.proofs.lemmas.List.Elements.{All-append, All-push, All-map, All-contains, Contains-get_or, filter-append}
use Rattle.std.proofs.Math.ListN.{length-append}
use Rattle.overlay_terms.specs.Plane.{WholePoint, segments_of, steps_max}
use Rattle.overlay_terms.specs.Column.{column_count, touches}
use Rattle.overlay_terms.specs.Layers.{Marked, marked_segments}
use Rattle.overlay_terms.specs.Trees.{Steps}
use Rattle.overlay_terms.specs.Tiles.{Input}
use Rattle.overlay_terms.specs.TileLaws.{IsInput, IsProper}
use Rattle.overlay_terms.specs.InputLaws.{IsClosed}
use Rattle.overlay_terms.proofs.ClosedLayers.{marked_from, from_even}
use Rattle.overlay_terms.proofs.ClosedInputs.{closed_is_input}
use Rattle.overlay_terms.proofs.Lists.{contains_map}
use Rattle.plane_base.specs.BaseLayer.{rings_fault}
use Rattle.plane_base.proofs.RingLemmas.{are_closed}
use Rattle.arrange.specs.Marked.{marked_of, marked_by, kept_in, segments_max, AllProper}
use Rattle.arrange.specs.declared.marked_seg.MarkedSeg.{MarkedSeg}
use Rattle.arrange.proofs.KeptLemmas.{mark}
use Rattle.arrange.proofs.FewSegments.{kept_few}

-- one more base layer after others
from_push : (n : ℕ) (bases : List (List (List WholePoint))) (rings : List (List WholePoint)) → marked_from n (bases ++ rings ∷ []) ≡ marked_from n bases ++ marked_by (n + length bases) rings
from_push n [] rings = let same : n ≡ n + 0 = omega arith in append-nil (marked_by n rings) ∙ ap (λ k. marked_by k rings) same
from_push n (b ∷ bases) rings =
    let same : (n + 1) + length bases ≡ n + length (b ∷ bases) = omega arith in
    ap (λ ms. marked_by n b ++ ms) (from_push (n + 1) bases rings)
    ∙ sym (append_assoc (marked_by n b) (marked_from (n + 1) bases) (marked_by ((n + 1) + length bases) rings))
    ∙ ap (λ k. (marked_by n b ++ marked_from (n + 1) bases) ++ marked_by k rings) same

segments_push : (n : ℕ) (bases : List (List (List WholePoint))) (rings : List (List WholePoint)) → length bases ≡ n → marked_segments (bases ++ rings ∷ []) ≡ marked_segments bases ++ marked_by n rings
segments_push n bases rings e =
    let same : 0 + length bases ≡ n = omega arith in
    from_push 0 bases rings ∙ ap (λ k. marked_segments bases ++ marked_by k rings) same

-- the rings behind references
abbrev pub rings_of : List (Bor (List (List WholePoint))) → List (List (List WholePoint))
rings_of bases = map (λ b. b.now) bases

-- what the base layers so far have made: the marked segments that the column keeps, no more than so many layers can have
pub record IsMadeOf (column : ℕ) (bases : List (List (List WholePoint))) (marked : List Marked) : Type 0 where
  pub kept : marked ≡ kept_in column (marked_segments bases)
  pub proper : AllProper (marked_segments bases)
  pub closed : All (All IsClosed) bases
  pub few : length marked ≤ length bases * steps_max

-- one more base layer
made_push : (column n : ℕ) (bases : List (List (List WholePoint))) (rings : List (List WholePoint)) (now new : List Marked) → length bases ≡ n → IsMadeOf column bases now →
    new ≡ now ++ kept_in column (marked_by n rings) → All IsProper (segments_of rings) → rings_fault rings ≡ None → IsMadeOf column (bases ++ rings ∷ []) new
made_push column n bases rings now new count made added proper valid = record {
  kept = added ∙ ap (λ ms. ms ++ kept_in column (marked_by n rings)) made.kept
      ∙ sym (filter-append (λ (m : Marked). touches column m.segment) (marked_segments bases) (marked_by n rings))
      ∙ ap (kept_in column) (sym (segments_push n bases rings count));
  proper = subst AllProper (sym (segments_push n bases rings count))
      (All-append (λ (m : Marked). IsProper m.segment) (marked_segments bases) (marked_by n rings) made.proper (All-map (λ (m : Marked). IsProper m.segment) (mark n) (segments_of rings) proper));
  closed = All-push (All IsClosed) bases rings made.closed (are_closed rings valid);
  few = more (length bases) (length (kept_in column (marked_by n rings))) (length now) (length new) (length (bases ++ rings ∷ [])) made.few (kept_few column n rings valid)
      (ap length added ∙ length-append now (kept_in column (marked_by n rings))) (length-append bases (rings ∷ []));
}
  where
    more : (b k m l c : ℕ) → m ≤ b * 2048 → k ≤ 2048 → l ≡ m + k → c ≡ b + 1 → l ≤ c * 2048
    more b k m l c h g e f = omega (arith, h, g, e, f)

-- as many as are taken
taken : (bases : List (Bor (List (List WholePoint)))) (i : ℕ) → i ≤ length bases → length (rings_of (take i bases)) ≡ i
taken bases i h = length-map (take i bases) (λ (b : Bor (List (List WholePoint))). b.now) ∙ length-take-le i bases h

pub made_more : (column i j : ℕ) (bases : List (Bor (List (List WholePoint)))) (b : Bor (List (List WholePoint))) (now new : List Marked) → i < length bases → j ≡ i → b ≡ get_or bases j b →
    IsMadeOf column (rings_of (take i bases)) now → new ≡ now ++ kept_in column (marked_by i b.now) → All IsProper (segments_of b.now) → rings_fault b.now ≡ None →
    IsMadeOf column (rings_of (take (i + 1) bases)) new
made_more column i j bases b now new h same e made added proper valid =
    let is : b ≡ get_or bases i b = e ∙ ap (λ k. get_or bases k b) same in
    let count : length (rings_of (take i bases)) ≡ i = taken bases i (omega arith) in
    let more = map_more (λ (r : Bor (List (List WholePoint))). r.now) bases i b h ∙ ap (λ r. rings_of (take i bases) ++ r.now ∷ []) (sym is) in
    subst (λ bs. IsMadeOf column bs new) (sym more) (made_push column i (rings_of (take i bases)) b.now now new count made added proper valid)

-- all of them
pub made_whole : (column i : ℕ) (bases : List (Bor (List (List WholePoint)))) (marked : List Marked) → length bases ≤ i → IsMadeOf column (rings_of (take i bases)) marked → IsMadeOf column (rings_of bases) marked
made_whole column i bases marked h made = subst (λ bs. IsMadeOf column (rings_of bs) marked) (take_all i bases h) made

-- layers are numbered from n on
numbered : (n top : ℕ) (bases : List (List (List WholePoint))) → n + length bases ≤ top → All (λ m. m.layer < top) (marked_from n bases)
numbered n top [] h = λ k d l. absurd (omega arith)
numbered n top (b ∷ bases) h =
    All-append (λ (m : Marked). m.layer < top) (marked_by n b) (marked_from (n + 1) bases)
    (All-map (λ (m : Marked). m.layer < top) (mark n) (segments_of b) (λ k d l. omega arith))
    (numbered (n + 1) top bases (omega arith))

-- all base layers make an input
pub made_input : (column : ℕ) (bases : List (Bor (List (List WholePoint)))) (marked : List Marked) (steps : Steps) → column < column_count → steps.bases ≤ 32 → length bases ≡ steps.bases →
    IsMadeOf column (rings_of bases) marked → IsInput (record { column = column; marked = marked; steps = steps })
made_input column bases marked steps small few count made =
    let rings = rings_of bases in
    let all : 0 + length rings ≤ steps.bases = omega (arith, length-map bases (λ (b : Bor (List (List WholePoint))). b.now)) in
    rw made.kept (closed_is_input (marked_segments rings) steps column small few (numbered 0 steps.bases rings all) (record { proper = made.proper; even = λ k v. from_even 0 rings k v made.closed }))

-- and no more segments than an input can have
pub made_few : (column : ℕ) (bases : List (Bor (List (List WholePoint)))) (marked : List Marked) (n : ℕ) → n ≤ 32 → length bases ≡ n → IsMadeOf column (rings_of bases) marked → length marked ≤ segments_max
made_few column bases marked n few count made =
    let all : length (rings_of bases) ≡ n = length-map bases (λ (b : Bor (List (List WholePoint))). b.now) ∙ count in
    most (length marked) (length (rings_of bases)) n made.few all few
  where
    most : (m b n : ℕ) → m ≤ b * 2048 → b ≡ n → n ≤ 32 → m ≤ 65536
    most m b n h e k = omega (arith, h, e, k)

-- the layers of an input are below 32
pub few_layers : (input : Input) (items : List MarkedSeg) → IsInput input → map marked_of items ≡ input.marked → All (λ m. m.layer < 32) items
few_layers input items valid same = λ k d l.
    let m = get_or items k d in
    let there : Contains input.marked (marked_of m) = subst (λ ms. Contains ms (marked_of m)) same (contains_map marked_of items m (Contains-get_or items k d l)) in
    let known = All-contains (λ m. m.layer < input.steps.bases) input.marked (marked_of m) valid.known_layers there in
    omega (arith, known, valid.few)
