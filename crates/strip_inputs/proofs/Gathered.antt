-- The segments with a point in a strip, one more at a time, and those of one base layer after another.
use Rattle.std.specs.Prelude.{◌≡◌, ℕ, ◌+◌, ◌*◌, ◌<◌, ◌≤◌, None, true, false, Bool, List, [], ◌∷◌, ◌++◌, length, map, filter, get_or, take, All}
use Rattle.std.proofs.Common.{ap, sym, subst, ◌∙◌, arith, append_assoc, append-nil, take_all, cond, Bor}
use Rattle.std.proofs.lemmas.List.{map_more, map-append, length-map, length-take-le}
use Rattle.std.proofs.lemmas.List.Elements.{All-append, All-push, All-map, filter-append}
use Rattle.std.proofs.Math.ListN.{length-append}
use Rattle.overlay_terms.specs.Plane.{WholePoint, segments_of, steps_max}
use Rattle.overlay_terms.specs.Column.{column_count}
use Rattle.overlay_terms.specs.Layers.{Marked, marked_segments}
use Rattle.overlay_terms.specs.Trees.{Steps}
use Rattle.overlay_terms.specs.TileLaws.{IsProper}
use Rattle.overlay_terms.specs.InputLaws.{IsClosed}
use Rattle.overlay_terms.proofs.ClosedLayers.{marked_from, from_even}
use Rattle.plane_base.specs.BaseLayer.{rings_fault}
use Rattle.plane_base.proofs.RingLemmas.{are_closed}
use Rattle.arrange.specs.Marked.{marked_of, marked_by, segments_max, AllProper}
use Rattle.arrange.specs.declared.marked_seg.MarkedSeg.{MarkedSeg}
use Rattle.arrange.proofs.KeptLemmas.{mark}
use Rattle.arrange.proofs.BaseLemmas.{rings_of}
use Rattle.crossing_sweep.specs.StripInput.{Span, IsStripInput}
use Rattle.strip_inputs.specs.Strips.{meets, kept_in_strip}
use Rattle.strip_inputs.proofs.Few.{passing_few}
use Rattle.strip_inputs.proofs.Valid.{closed_valid}

-- ---- images of elements, of which some pass a test
module _ {X : Type 0} (p : Marked → Bool) (f : X → Marked) (xs : List X) (i : ℕ) (x : X) (h : i < length xs) (e : x ≡ get_or xs i x) where
  passing_more : filter p (map f (take (i + 1) xs)) ≡ filter p (map f (take i xs)) ++ cond (p (f x)) (f x ∷ []) []
  passing_more =
      ap (filter p) (map_more f xs i x h)
      ∙ filter-append p (map f (take i xs)) (f (get_or xs i x) ∷ [])
      ∙ ap (λ t. filter p (map f (take i xs)) ++ cond (p (f t)) (f t ∷ []) []) (sym e)

  -- one that passes is added after those kept
  pub passing_yes : (before now new : List Marked) → p (f x) ≡ true → new ≡ now ++ f x ∷ [] → now ≡ before ++ filter p (map f (take i xs)) → new ≡ before ++ filter p (map f (take (i + 1) xs))
  passing_yes before now new passes added was =
      added
      ∙ ap (λ ms. ms ++ f x ∷ []) was
      ∙ append_assoc before (filter p (map f (take i xs))) (f x ∷ [])
      ∙ ap (λ b. before ++ (filter p (map f (take i xs)) ++ cond b (f x ∷ []) [])) (sym passes)
      ∙ ap (λ ms. before ++ ms) (sym passing_more)

  -- another changes nothing
  pub passing_no : (before now : List Marked) → p (f x) ≡ false → now ≡ before ++ filter p (map f (take i xs)) → now ≡ before ++ filter p (map f (take (i + 1) xs))
  passing_no before now fails was =
      was
      ∙ ap (λ ms. before ++ ms) (sym (append-nil (filter p (map f (take i xs)))))
      ∙ ap (λ b. before ++ (filter p (map f (take i xs)) ++ cond b (f x ∷ []) [])) (sym fails)
      ∙ ap (λ ms. before ++ ms) (sym passing_more)

-- one more marked segment
pub pushed : (items new : List MarkedSeg) (m : MarkedSeg) → new ≡ items ++ m ∷ [] → map marked_of new ≡ map marked_of items ++ marked_of m ∷ []
pushed items new m added = ap (map marked_of) added ∙ map-append marked_of items (m ∷ [])

-- ---- base layers
-- one more after others
from_push : (n : ℕ) (bases : List (List (List WholePoint))) (rings : List (List WholePoint)) → marked_from n (bases ++ rings ∷ []) ≡ marked_from n bases ++ marked_by (n + length bases) rings
from_push n [] rings = let same : n ≡ n + 0 = omega arith in append-nil (marked_by n rings) ∙ ap (λ k. marked_by k rings) same
from_push n (b ∷ bases) rings =
    let same : (n + 1) + length bases ≡ n + length (b ∷ bases) = omega arith in
    ap (λ ms. marked_by n b ++ ms) (from_push (n + 1) bases rings)
    ∙ sym (append_assoc (marked_by n b) (marked_from (n + 1) bases) (marked_by ((n + 1) + length bases) rings))
    ∙ ap (λ k. (marked_by n b ++ marked_from (n + 1) bases) ++ marked_by k rings) same

segments_push : (n : ℕ) (bases : List (List (List WholePoint))) (rings : List (List WholePoint)) → length bases ≡ n → marked_segments (bases ++ rings ∷ []) ≡ marked_segments bases ++ marked_by n rings
segments_push n bases rings e =
    let same : 0 + length bases ≡ n = omega arith in
    from_push 0 bases rings ∙ ap (λ k. marked_segments bases ++ marked_by k rings) same

-- what the base layers so far have made: the marked segments that the strip keeps, no more than so many layers can have
pub record IsMadeOf (strip : Span) (bases : List (List (List WholePoint))) (marked : List Marked) : Type 0 where
  pub kept : marked ≡ kept_in_strip strip (marked_segments bases)
  pub proper : AllProper (marked_segments bases)
  pub closed : All (All IsClosed) bases
  pub few : length marked ≤ length bases * steps_max

made_push : (strip : Span) (n : ℕ) (bases : List (List (List WholePoint))) (rings : List (List WholePoint)) (now new : List Marked) → length bases ≡ n → IsMadeOf strip bases now →
    new ≡ now ++ kept_in_strip strip (marked_by n rings) → All IsProper (segments_of rings) → rings_fault rings ≡ None → IsMadeOf strip (bases ++ rings ∷ []) new
made_push strip n bases rings now new count made added proper valid = record {
  kept = added ∙ ap (λ ms. ms ++ kept_in_strip strip (marked_by n rings)) made.kept
      ∙ sym (filter-append (λ (m : Marked). meets strip m.segment) (marked_segments bases) (marked_by n rings))
      ∙ ap (kept_in_strip strip) (sym (segments_push n bases rings count));
  proper = subst AllProper (sym (segments_push n bases rings count))
      (All-append (λ (m : Marked). IsProper m.segment) (marked_segments bases) (marked_by n rings) made.proper (All-map (λ (m : Marked). IsProper m.segment) (mark n) (segments_of rings) proper));
  closed = All-push (All IsClosed) bases rings made.closed (are_closed rings valid);
  few = more (length bases) (length (kept_in_strip strip (marked_by n rings))) (length now) (length new) (length (bases ++ rings ∷ [])) made.few (passing_few (λ (m : Marked). meets strip m.segment) n rings valid)
      (ap length added ∙ length-append now (kept_in_strip strip (marked_by n rings))) (length-append bases (rings ∷ []));
}
  where
    more : (b k m l c : ℕ) → m ≤ b * 2048 → k ≤ 2048 → l ≡ m + k → c ≡ b + 1 → l ≤ c * 2048
    more b k m l c h g e f = omega (arith, h, g, e, f)

-- as many as are taken
rings_taken : (bases : List (Bor (List (List WholePoint)))) (i : ℕ) → i ≤ length bases → length (rings_of (take i bases)) ≡ i
rings_taken bases i h = length-map (take i bases) (λ (b : Bor (List (List WholePoint))). b.now) ∙ length-take-le i bases h

pub made_more : (strip : Span) (i j : ℕ) (bases : List (Bor (List (List WholePoint)))) (b : Bor (List (List WholePoint))) (now new : List Marked) → i < length bases → j ≡ i → b ≡ get_or bases j b →
    IsMadeOf strip (rings_of (take i bases)) now → new ≡ now ++ kept_in_strip strip (marked_by i b.now) → All IsProper (segments_of b.now) → rings_fault b.now ≡ None →
    IsMadeOf strip (rings_of (take (i + 1) bases)) new
made_more strip i j bases b now new h same e made added proper valid =
    let is : b ≡ get_or bases i b = e ∙ ap (λ k. get_or bases k b) same in
    let count : length (rings_of (take i bases)) ≡ i = rings_taken bases i (omega arith) in
    let more = map_more (λ (r : Bor (List (List WholePoint))). r.now) bases i b h ∙ ap (λ r. rings_of (take i bases) ++ r.now ∷ []) (sym is) in
    subst (λ bs. IsMadeOf strip bs new) (sym more) (made_push strip i (rings_of (take i bases)) b.now now new count made added proper valid)

-- all of them
pub made_whole : (strip : Span) (i : ℕ) (bases : List (Bor (List (List WholePoint)))) (marked : List Marked) → length bases ≤ i → IsMadeOf strip (rings_of (take i bases)) marked → IsMadeOf strip (rings_of bases) marked
made_whole strip i bases marked h made = subst (λ bs. IsMadeOf strip (rings_of bs) marked) (take_all i bases h) made

-- layers are numbered from n on
numbered : (n top : ℕ) (bases : List (List (List WholePoint))) → n + length bases ≤ top → All (λ m. m.layer < top) (marked_from n bases)
numbered n top [] h = λ k d l. absurd (omega arith)
numbered n top (b ∷ bases) h =
    All-append (λ (m : Marked). m.layer < top) (marked_by n b) (marked_from (n + 1) bases)
    (All-map (λ (m : Marked). m.layer < top) (mark n) (segments_of b) (λ k d l. omega arith))
    (numbered (n + 1) top bases (omega arith))

-- all base layers make an input
pub made_input : (strip : Span) (bases : List (Bor (List (List WholePoint)))) (marked : List Marked) (steps : Steps) → strip.first ≤ strip.last → strip.last < column_count → steps.bases ≤ 32 → length bases ≡ steps.bases →
    IsMadeOf strip (rings_of bases) marked → IsStripInput (record { strip = strip; marked = marked; steps = steps })
made_input strip bases marked steps in_order known few count made =
    let rings = rings_of bases in
    let all : 0 + length rings ≤ steps.bases = omega (arith, length-map bases (λ (b : Bor (List (List WholePoint))). b.now)) in
    rw made.kept (closed_valid strip (marked_segments rings) steps in_order known few (numbered 0 steps.bases rings all) (record { proper = made.proper; even = λ k v. from_even 0 rings k v made.closed }))

-- and no more segments than an input can have
pub made_few : (strip : Span) (bases : List (Bor (List (List WholePoint)))) (marked : List Marked) (n : ℕ) → n ≤ 32 → length bases ≡ n → IsMadeOf strip (rings_of bases) marked → length marked ≤ segments_max
made_few strip bases marked n few count made =
    let all : length (rings_of bases) ≡ n = length-map bases (λ (b : Bor (List (List WholePoint))). b.now) ∙ count in
    most (length marked) (length (rings_of bases)) n made.few all few
  where
    most : (m b n : ℕ) → m ≤ b * 2048 → b ≡ n → n ≤ 32 → m ≤ 65536
    most m b n h e k = omega (arith, h, e, k)
