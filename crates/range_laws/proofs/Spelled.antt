-- The rings that texts spell are closed, in range and without a fault, and each such list of rings is spelled.
use Rattle.std.specs.Prelude.{◌≡◌, ℕ, true, false, Bool, List, [], ◌∷◌, ◌++◌, map, flat_map, Some, None, All, if◌then◌else◌}
use Rattle.std.proofs.Common.{refl, sym, subst}
use Rattle.std.proofs.lemmas.List.Elements.{All-nil, All-cons, All-head, All-tail, All-append, All-map, All-weaker}
use Rattle.overlay_terms.specs.Plane.{WholePoint, is_coordinate}
use Rattle.overlay_terms.specs.InputLaws.{IsRing}
use Rattle.plane_base.specs.BaseLayer.{IsInRange, PointsInRange}
use Rattle.plane_base.proofs.RingLemmas.{are_rings}
use Rattle.wkt_form.specs.declared.fault.WktFault.TheVariants.{CoordRange, NotWhole}
use Rattle.wkt_form.specs.Grammar.{WrittenPoint, WrittenPolygon, empty, rings, WrittenText, polygon, no_polygons, polygons, parted, bracketed, point_kinds, ring_kinds, polygon_kinds, text_kinds, point_of, polygon_rings, text_rings, in_upper_case, kinds_of, number_fault, ReadsAs}
use Rattle.wkt_form.specs.Number.{is_whole, number_value}
use Rattle.wkt_form.specs.Spelling.{wkt_text}
use Rattle.wkt_form.specs.Token.{Kind, word, run, open_bracket, close_bracket, comma, stray, Token}
use Rattle.wkt_form.proofs.RoundTrip.{reads_back}
use Rattle.range_laws.specs.Ranges.{AreRings, TextsSpellRings}
use Rattle.range_laws.proofs.Ranges.{one_range}

-- ==== Lists

front : {X : Type 0} (P : X → Type 0) (xs ys : List X) → All P (xs ++ ys) → All P xs
front P [] ys h = All-nil P
front P (x ∷ xs) ys h = All-cons P x xs (All-head P x (xs ++ ys) h) (front P xs ys (All-tail P x (xs ++ ys) h))

rest : {X : Type 0} (P : X → Type 0) (xs ys : List X) → All P (xs ++ ys) → All P ys
rest P [] ys h = h
rest P (x ∷ xs) ys h = rest P xs ys (All-tail P x (xs ++ ys) h)

of_map : {X Y : Type 0} (P : X → Type 0) (f : Y → X) (ys : List Y) → All P (map f ys) → All (λ y. P (f y)) ys
of_map P f [] h = All-nil (λ y. P (f y))
of_map P f (y ∷ ys) h = All-cons (λ y. P (f y)) y ys (All-head P (f y) (map f ys) h) (of_map P f ys (All-tail P (f y) (map f ys) h))

-- ==== Tokens without a fault

-- a run is a coordinate
IsGood : Kind → Type 0
IsGood (word bs) = Unit {0}
IsGood (run bs) = is_coordinate (number_value bs) ≡ true
IsGood open_bracket = Unit {0}
IsGood close_bracket = Unit {0}
IsGood comma = Unit {0}
IsGood stray = Unit {0}

by_tests : (at : ℕ) (whole coordinate : Bool) → (if whole then (if coordinate then None else Some (CoordRange at)) else Some (NotWhole at)) ≡ None → coordinate ≡ true
by_tests at true true e = refl
by_tests at true false e = absurd (cc)
by_tests at false coordinate e = absurd (cc)

good_kind : (at : ℕ) (kind : Kind) → number_fault (record { at = at; kind = kind }) ≡ None → IsGood (in_upper_case kind)
unfolding IsGood
good_kind at (word bs) e = tt
good_kind at (run bs) e = by_tests at (is_whole bs) (is_coordinate (number_value bs)) e
good_kind at open_bracket e = tt
good_kind at close_bracket e = tt
good_kind at comma e = tt
good_kind at stray e = tt

good_kinds : (tokens : List Token) → All (λ token. number_fault token ≡ None) tokens → All IsGood (kinds_of tokens)
good_kinds tokens h =
    All-map IsGood (λ (t : Token). in_upper_case t.kind) tokens
    (All-weaker (λ token. number_fault token ≡ None) (λ (t : Token). IsGood (in_upper_case t.kind)) (λ (t : Token) e. good_kind t.at t.kind e) tokens h)

-- ==== What is written of such tokens

of_parted : (members : List (List Kind)) → All IsGood (parted members) → All (All IsGood) members
of_parted [] h = All-nil (All IsGood)
of_parted (member ∷ []) h = All-cons (All IsGood) member [] h (All-nil (All IsGood))
of_parted (member ∷ next ∷ members) h =
    All-cons (All IsGood) member (next ∷ members) (front IsGood member (comma ∷ parted (next ∷ members)) h)
    (of_parted (next ∷ members) (All-tail IsGood comma (parted (next ∷ members)) (rest IsGood member (comma ∷ parted (next ∷ members)) h)))

of_bracketed : (members : List (List Kind)) → All IsGood (bracketed members) → All (All IsGood) members
of_bracketed members h =
    of_parted members (front IsGood (parted members) (close_bracket ∷ []) (All-tail IsGood open_bracket (parted members ++ close_bracket ∷ []) h))

of_point : (p : WrittenPoint) → All IsGood (point_kinds p) → IsInRange (point_of p)
unfolding IsGood
of_point p h = (
  (one_range.coordinates (number_value p.x)).0 (All-head IsGood (run p.x) (run p.y ∷ []) h),
  (one_range.coordinates (number_value p.y)).0 (All-head IsGood (run p.y) [] (All-tail IsGood (run p.x) (run p.y ∷ []) h)),
)

of_ring : (points : List WrittenPoint) → All IsGood (ring_kinds points) → All IsInRange (map point_of points)
of_ring points h =
    All-map IsInRange point_of points
    (All-weaker (λ p. All IsGood (point_kinds p)) (λ p. IsInRange (point_of p)) of_point points
    (of_map (All IsGood) point_kinds points (of_bracketed (map point_kinds points) h)))

of_polygon : (p : WrittenPolygon) → All IsGood (polygon_kinds p) → All (All IsInRange) (polygon_rings p)
of_polygon empty h = All-nil (All IsInRange)
of_polygon (rings members) h =
    All-map (All IsInRange) (map point_of) members
    (All-weaker (λ ring. All IsGood (ring_kinds ring)) (λ ring. All IsInRange (map point_of ring)) of_ring members
    (of_map (All IsGood) ring_kinds members (of_bracketed (map ring_kinds members) h)))

of_polygons : (ps : List WrittenPolygon) → All (λ p. All IsGood (polygon_kinds p)) ps → All (All IsInRange) (flat_map polygon_rings ps)
of_polygons [] h = All-nil (All IsInRange)
of_polygons (p ∷ ps) h =
    All-append (All IsInRange) (polygon_rings p) (flat_map polygon_rings ps)
    (of_polygon p (All-head (λ p. All IsGood (polygon_kinds p)) p ps h)) (of_polygons ps (All-tail (λ p. All IsGood (polygon_kinds p)) p ps h))

of_text : (text : WrittenText) → All IsGood (text_kinds text) → All (All IsInRange) (text_rings text)
of_text (polygon p) h = of_polygon p (All-tail IsGood _ (polygon_kinds p) h)
of_text no_polygons h = All-nil (All IsInRange)
of_text (polygons ps) h =
    of_polygons ps (of_map (All IsGood) polygon_kinds ps (of_bracketed (map polygon_kinds ps) (All-tail IsGood _ (bracketed (map polygon_kinds ps)) h)))

-- ==== Both ways

spelled_are_rings : (bytes : List ℕ) (layer : List (List WholePoint)) → ReadsAs bytes layer → AreRings layer
spelled_are_rings bytes layer ((text, spells, good, is), none) =
    let in_range : All (All IsInRange) layer =
    subst (All (All IsInRange)) (sym is) (of_text text (subst (All IsGood) spells.spelled (good_kinds _ good))) in
    (are_rings layer none (All-weaker (All IsInRange) PointsInRange (λ ring h long. h) layer in_range), none)

pub texts_spell_rings : TextsSpellRings
texts_spell_rings layer = (
  λ (bytes, read). spelled_are_rings bytes layer read,
  λ (all, none). (wkt_text layer, reads_back layer (All-weaker IsRing (All IsInRange) (λ ring is. is.in_range) layer all) none),
)
