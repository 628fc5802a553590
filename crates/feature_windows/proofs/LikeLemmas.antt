-- Rings that look like others from within a core.
use Rattle.std.proofs.Common.{◌≡◌, ◌≢◌, ℕ, zero, suc, ◌+◌, ◌<◌, ◌≤◌, ◌==◌, ℤ, pos, ◌<ℤ◌, not, refl, ap, sym, subst, ◌∙◌, arith, true, false, Bool, List, [], ◌∷◌, ◌++◌, length, take, drop, if◌then◌else◌}
use Rattle.std.specs.Prelude.{get_or, slice_get, Some, All}
use Rattle.std.proofs.lemmas.Bool.Decides.{Decides-eqb}
use Rattle.std.proofs.lemmas.Int.{ints}
use Rattle.std.proofs.lemmas.Grind.{flat_map-append}
use Rattle.std.proofs.lemmas.List.{append-nil, append_assoc, drop_all, take_all, take_more}
use Rattle.std.proofs.Math.ListN.{length-append}
use Rattle.std.proofs.lemmas.List.Elements.{All-head, All-tail, All-more, All-weaker}
use Rattle.overlay_terms.specs.Plane.{WholePoint, Point, ring_segments, segments_of, is_closed}
use Rattle.overlay_terms.proofs.InputNumbers.{lt_true, most_times}
use Rattle.overlay_terms.proofs.PointOrder.{same_points}
use Rattle.block_reading.specs.Block.{dealt}
use Rattle.block_reading.specs.Terms.{Core}
use Rattle.map_window.specs.Window.{Box, Side, IsIn, Lies}
use Rattle.map_window.proofs.Sides.{Aside}
use Rattle.map_window.proofs.Steps.{SeesNothing, alike_self, alike_through, alike-append, last_of, line_seen}
use Rattle.map_window.proofs.Lines.{closed_is, ends_meet}
use Rattle.map_window.proofs.Frames.{aside}
use Rattle.near_steps.specs.Cores.{box_of, IsPart}
use Rattle.near_steps.specs.Drawn.{LiesOff}
use Rattle.near_steps.specs.Thinned.{IsReduced}
use Rattle.feature_windows.specs.Shown.{rings_at}
use Rattle.feature_windows.specs.Layers.{corners_of, layer_rings, lies, rings_for, side_of, HasLayers, LookLike, AddsLike}
use Rattle.feature_windows.specs.declared.window.Near.{Near}
use Rattle.feature_windows.specs.declared.sides.CoreSide.{CoreSide}
use Rattle.feature_windows.specs.declared.sides.CoreSide.TheVariants.{Left, Right, Under, Over}
use Rattle.feature_windows.proofs.DealtLemmas.{dealt_next}
use Rattle.feature_windows.proofs.ShownLemmas.{at_push}

-- ---- lists of rings
segments-append : (xs ys : List (List WholePoint)) → segments_of (xs ++ ys) ≡ segments_of xs ++ segments_of ys
segments-append xs ys = flat_map-append ring_segments xs ys

one_ring : (ring : List WholePoint) → segments_of (ring ∷ []) ≡ ring_segments ring
one_ring ring = append-nil (ring_segments ring)

pub like_self : (core : Box) (rings : List (List WholePoint)) → LookLike core rings rings
like_self core rings = record { shows = λ q positive here. alike_self (segments_of rings) q }

pub like-append : (core : Box) (xs ys us vs : List (List WholePoint)) → LookLike core xs us → LookLike core ys vs → LookLike core (xs ++ ys) (us ++ vs)
like-append core xs ys us vs h k = record {
  shows = λ q positive here. rw (segments-append xs ys, segments-append us vs)
      (alike-append (segments_of us) (segments_of xs) (segments_of vs) (segments_of ys) q q (h.shows q positive here) (k.shows q positive here));
}

pub like_through : (core : Box) (xs ys zs : List (List WholePoint)) → LookLike core xs ys → LookLike core ys zs → LookLike core xs zs
like_through core xs ys zs h k = record {
  shows = λ q positive here. alike_through (segments_of zs) (segments_of ys) (segments_of xs) q q q (k.shows q positive here) (h.shows q positive here);
}

-- from within a part they look so as well
part_in : (part core : Box) (q : Point) → pos 0 <ℤ q.w → IsPart part core → IsIn part q → IsIn core q
part_in part core q positive p h =
    let a = most_times core.low_x part.low_x q.w positive p.left in
    let b = most_times part.high_x core.high_x q.w positive p.right in
    let c = most_times core.low_y part.low_y q.w positive p.low in
    let d = most_times part.high_y core.high_y q.w positive p.high in
    let l = h.left in let r = h.right in let e = h.low in let u = h.high in
    record { left = omega (arith, ints); right = omega (arith, ints); low = omega (arith, ints); high = omega (arith, ints) }

pub like_within : (part core : Box) (xs ys : List (List WholePoint)) → IsPart part core → LookLike core xs ys → LookLike part xs ys
like_within part core xs ys p h = record { shows = λ q positive here. h.shows q positive (part_in part core q positive p here) }

-- ---- what is added
pub adds_none : (core : Box) (old : List (List WholePoint)) → AddsLike core [] old old
adds_none core old = record { more = []; added = sym (append-nil old); like = like_self core [] }

pub adds_through : (core : Box) (xs ys us vs ws : List (List WholePoint)) → AddsLike core xs us vs → AddsLike core ys vs ws → AddsLike core (xs ++ ys) us ws
adds_through core xs ys us vs ws h k = record {
  more = h.more ++ k.more;
  added = k.added ∙ ap (λ rs. rs ++ k.more) h.added ∙ append_assoc us h.more k.more;
  like = like-append core xs ys h.more k.more h.like k.like;
}

pub like_added : (core : Box) (before xs old new : List (List WholePoint)) → LookLike core before old → AddsLike core xs old new → LookLike core (before ++ xs) new
like_added core before xs old new h k = subst (LookLike core (before ++ xs)) (sym k.added) (like-append core before xs old k.more h k.like)

pub adds_as_it_is : (core : Box) (ring : List WholePoint) (old new : List (List WholePoint)) → new ≡ old ++ ring ∷ [] → AddsLike core (ring ∷ []) old new
adds_as_it_is core ring old new e = record { more = ring ∷ []; added = e; like = like_self core (ring ∷ []) }

pub adds_as : (core : Box) (xs ys old new : List (List WholePoint)) → LookLike core xs ys → AddsLike core ys old new → AddsLike core xs old new
adds_as core xs ys old new h k = record { more = k.more; added = k.added; like = like_through core xs ys k.more h k.like }

pub like_reduced : (core : Box) (ring kept : List WholePoint) → IsReduced core ring kept → LookLike core (ring ∷ []) (kept ∷ [])
like_reduced core ring kept r = record { shows = λ q positive here. rw (one_ring ring, one_ring kept) (r.shows q positive here) }

-- ---- a ring that does not meet a core
true_false : {A : Type 0} (b : Bool) → b ≡ true → b ≡ false → A
true_false true e f = absurd (cc)
true_false false e f = absurd (cc)

all_aside : (core : Box) (side : Side) (q : Point) → pos 0 <ℤ q.w → IsIn core q → (points : List WholePoint) → All (Lies core side) points → All (Aside side q) points
all_aside core side q positive here points all = All-weaker (Lies core side) (Aside side q) (λ p h. aside core side q p positive here h) points all

unseen : (core : Box) (side : Side) (points : List WholePoint) → All (Lies core side) points → is_closed points ≡ true → (q : Point) → pos 0 <ℤ q.w → IsIn core q → SeesNothing (ring_segments points) q
unseen core side [] all closed q positive here = record { inside = refl; edge = refl }
unseen core side (a ∷ rest) all closed q positive here =
    let sides = all_aside core side q positive here (a ∷ rest) all in
    ends_meet side q a (last_of a rest) (ring_segments (a ∷ rest)) (same_points a (last_of a rest) (sym (closed_is a rest) ∙ closed))
    (line_seen side q positive a rest (All-head (Aside side q) a rest sides) (All-tail (Aside side q) a rest sides))

pub adds_nothing : (core : Box) (points : List WholePoint) (old : List (List WholePoint)) → LiesOff core points → is_closed points ≡ true → AddsLike core (points ∷ []) old old
adds_nothing core points old off closed = record {
  more = [];
  added = sym (append-nil old);
  like = record {
    shows = λ q positive here.
        let nothing = unseen core off.side points off.points closed q positive here in
        rw (one_ring points) (record { inside = sym nothing.inside; edge = sym nothing.edge });
  };
}

-- ---- the test of a point
pub lies_there : (core : Core) (side : CoreSide) (p : WholePoint) → lies core side p ≡ true → Lies (box_of core) (side_of side) p
lies_there core Left p e = lt_true p.x core.low_x e
lies_there core Right p e = lt_true core.high_x p.x e
lies_there core Under p e = lt_true p.y core.low_y e
lies_there core Over p e = lt_true core.high_y p.y e

pub lie_more : (core : Core) (side : CoreSide) (points : List WholePoint) (i : ℕ) (p : WholePoint) → i < length points → p ≡ get_or points i p → lies core side p ≡ true
    → All (Lies (box_of core) (side_of side)) (take i points) → All (Lies (box_of core) (side_of side)) (take (i + 1) points)
lie_more core side points i p lt is e before =
    All-more (Lies (box_of core) (side_of side)) points i p lt before (subst (Lies (box_of core) (side_of side)) is (lies_there core side p e))

pub lie_all : (core : Core) (side : CoreSide) (points : List WholePoint) (i : ℕ) → length points ≤ i → All (Lies (box_of core) (side_of side)) (take i points) → All (Lies (box_of core) (side_of side)) points
lie_all core side points i past h = subst (All (Lies (box_of core) (side_of side))) (take_all i points past) h

-- ---- rings of a row, one after another
pub adds_left : (core : Box) (counts : List ℕ) (i : ℕ) (rest own after : List WholePoint) (to now all start : List (List WholePoint)) → i < length counts → own ≡ take (get_or counts i 0) rest
    → after ≡ drop (get_or counts i 0) rest → AddsLike core (own ∷ []) to now
    → ((new : List (List WholePoint)) → AddsLike core (dealt (drop i counts) rest) to new → AddsLike core all start new)
    → (new : List (List WholePoint)) → AddsLike core (dealt (drop (i + 1) counts) after) now new → AddsLike core all start new
adds_left core counts i rest own after to now all start lt e f one so_far new more =
    so_far new (subst (λ rs. AddsLike core rs to new) (dealt_next counts i rest own after lt e f) (adds_through core (own ∷ []) (dealt (drop (i + 1) counts) after) to now new one more))

pub adds_all : (core : Box) (counts : List ℕ) (i : ℕ) (rest : List WholePoint) (to all start : List (List WholePoint)) → length counts ≤ i
    → ((new : List (List WholePoint)) → AddsLike core (dealt (drop i counts) rest) to new → AddsLike core all start new) → AddsLike core all start to
adds_all core counts i rest to all start past so_far =
    so_far to (subst (λ ks. AddsLike core (dealt ks rest) to to) (sym (drop_all i counts past)) (adds_none core to))

-- ---- one layer more
pub layers_step : (core : Box) (rings : ℕ → List (List WholePoint)) (list : List (List (List WholePoint))) (i : ℕ) (own : List (List WholePoint)) → length list ≡ i → LookLike core (rings i) own
    → ((k : ℕ) → k < i → LookLike core (rings k) (rings_at k list)) → (k : ℕ) → k < i + 1 → LookLike core (rings k) (rings_at k (list ++ own ∷ []))
layers_step core rings list i own count h before k lt = subst (LookLike core (rings k)) (sym (at_push k list own)) (pick (length list == k) refl) where
  pick : (b : Bool) → (length list == k) ≡ b → LookLike core (rings k) (if b then own else rings_at k list)
  pick true e =
      let same : length list ≡ k = (Decides-eqb (length list) k).0 e in
      subst (λ n. LookLike core (rings n) own) (sym count ∙ same) h
  pick false e =
      let apart : length list ≢ k = λ same. true_false (length list == k) ((Decides-eqb (length list) k).1 same) e in
      before k (omega (arith, apart, count, lt))

-- the layer with a number is that of the list
pub rings_at_is : (layers : List (List (List WholePoint))) (i : ℕ) (d : List (List WholePoint)) → i < length layers → rings_at i layers ≡ get_or layers i d
rings_at_is [] i d lt = absurd (omega (arith, lt))
rings_at_is (one ∷ layers) zero d lt = refl
rings_at_is (one ∷ layers) (suc i) d lt = rings_at_is layers i d (omega (arith, lt))

pub rings_at_some : (layers : List (List (List WholePoint))) (i : ℕ) (own : List (List WholePoint)) → slice_get layers i ≡ Some own → rings_at i layers ≡ own
rings_at_some [] i own e = absurd (cc)
rings_at_some (one ∷ layers) zero own e = cc
rings_at_some (one ∷ layers) (suc i) own e = rings_at_some layers i own e

pub rings_at_none : (layers : List (List (List WholePoint))) (i : ℕ) → length layers ≤ i → rings_at i layers ≡ []
rings_at_none [] i past = refl
rings_at_none (one ∷ layers) zero past = absurd (omega (arith, past))
rings_at_none (one ∷ layers) (suc i) past = rings_at_none layers i (omega (arith, past))

-- ---- one member more of a layer
pub adds_member : (core : Box) (features : List (List (List WholePoint))) (one : Near) (layer : ℕ) (own old new : List (List WholePoint)) → one.layer ≡ layer → rings_at one.feature features ≡ own
    → AddsLike core own old new → AddsLike core (rings_for features one layer) old new
adds_member core features one layer own old new e f h =
    subst (λ rs. AddsLike core rs old new) (sym (ap (λ b. if b then rings_at one.feature features else []) ((Decides-eqb one.layer layer).1 e) ∙ f)) h

pub adds_other : (core : Box) (features : List (List (List WholePoint))) (one : Near) (layer : ℕ) (old : List (List WholePoint)) → one.layer ≢ layer
    → AddsLike core (rings_for features one layer) old old
adds_other core features one layer old apart = by (one.layer == layer) refl where
  by : (b : Bool) → (one.layer == layer) ≡ b → AddsLike core (if b then rings_at one.feature features else []) old old
  by true e = absurd (apart ((Decides-eqb one.layer layer).0 e))
  by false e = adds_none core old

pub rings_for_is : (features : List (List (List WholePoint))) (one : Near) (layer : ℕ) (own : List (List WholePoint)) → one.layer ≡ layer → rings_at one.feature features ≡ own → rings_for features one layer ≡ own
rings_for_is features one layer own e f = ap (λ b. if b then rings_at one.feature features else []) ((Decides-eqb one.layer layer).1 e) ∙ f

pub members_more : (core : Box) (features : List (List (List WholePoint))) (members : List Near) (i : ℕ) (d : Near) (layer : ℕ) (old new : List (List WholePoint)) → i < length members
    → LookLike core (layer_rings features (take i members) layer) old → AddsLike core (rings_for features (get_or members i d) layer) old new
    → LookLike core (layer_rings features (take (i + 1) members) layer) new
members_more core features members i d layer old new lt before more =
    let one : Near = get_or members i d in
    let own : List (List WholePoint) = rings_for features one layer in
    let all : layer_rings features (take (i + 1) members) layer ≡ layer_rings features (take i members) layer ++ own =
    ap (λ ms. layer_rings features ms layer) (take_more members i d lt) ∙ flat_map-append (λ (m : Near). rings_for features m layer) (take i members) (one ∷ [])
    ∙ ap (λ rs. layer_rings features (take i members) layer ++ rs) (append-nil own) in
    subst (λ rs. LookLike core rs new) (sym all) (like_added core (layer_rings features (take i members) layer) own old new before more)

-- ---- the layers of a window
pub layer_near : (core : Box) (layers list new : List (List (List WholePoint))) (i : ℕ) (layer none own : List (List WholePoint)) → length list ≡ i → i < length layers → layer ≡ get_or layers i layer
    → none ≡ [] → AddsLike core layer none own → new ≡ list ++ own ∷ [] → ((k : ℕ) → k < i → LookLike core (rings_at k layers) (rings_at k list))
    → (length new ≡ i + 1) × ((k : ℕ) → k < i + 1 → LookLike core (rings_at k layers) (rings_at k new))
layer_near core layers list new i layer none own count lt is empty h grown before =
    let looks : LookLike core layer own = like_added core [] layer none own (subst (LookLike core []) (sym empty) (like_self core [])) h in
    let here : LookLike core (rings_at i layers) own = subst (λ rs. LookLike core rs own) (is ∙ sym (rings_at_is layers i layer lt)) looks in
    let longer : length (list ++ own ∷ []) ≡ length list + 1 = length-append list (own ∷ []) in
    let many : length new ≡ length (list ++ own ∷ []) = ap (λ ls. length ls) grown in (
      omega (arith, longer, many, count),
      λ k le. subst (λ ls. LookLike core (rings_at k layers) (rings_at k ls)) (sym grown) (layers_step core (λ n. rings_at n layers) list i own count here before k le),
    )

pub near_all : (core : Box) (layers list new : List (List (List WholePoint))) (i : ℕ) (border : List (List WholePoint)) → length list ≡ i → i ≤ length layers → length layers ≤ i
    → border ≡ corners_of core ∷ [] → new ≡ list ++ border ∷ [] → ((k : ℕ) → k < i → LookLike core (rings_at k layers) (rings_at k list))
    → HasLayers core (length layers) (λ k. rings_at k layers) new
near_all core layers list new i border count up past is grown each = record {
  kept = list;
  count_is = omega (arith, count, up, past);
  each = λ k lt. each k (omega (arith, lt, up, past));
  all = grown ∙ ap (λ b. list ++ b ∷ []) is;
}

pub own_more : (core : Box) (rings : ℕ → List (List WholePoint)) (list new : List (List (List WholePoint))) (i : ℕ) (own : List (List WholePoint)) → length list ≡ i → LookLike core (rings i) own
    → new ≡ list ++ own ∷ [] → ((k : ℕ) → k < i → LookLike core (rings k) (rings_at k list))
    → (length new ≡ i + 1) × ((k : ℕ) → k < i + 1 → LookLike core (rings k) (rings_at k new))
own_more core rings list new i own count here grown before =
    let longer : length (list ++ own ∷ []) ≡ length list + 1 = length-append list (own ∷ []) in
    let many : length new ≡ length (list ++ own ∷ []) = ap (λ ls. length ls) grown in (
      omega (arith, longer, many, count),
      λ k le. subst (λ ls. LookLike core (rings k) (rings_at k ls)) (sym grown) (layers_step core rings list i own count here before k le),
    )
