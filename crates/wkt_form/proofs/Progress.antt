-- How far a text has been read, with all that is written in it so far, and what one more token makes of it.
use Rattle.std.proofs.Common.{◌≡◌, ℕ, Bool, true, List, [], ◌∷◌, ◌++◌, map, refl, sym, ap, ◌∙◌, Option, Some, None, IfSome, codes, append_assoc}
use Rattle.std.specs.List.{list_all, flat_map}
use Rattle.std.specs.Prelude.{option_and_then}
use Rattle.std.proofs.lemmas.Bool.{cond_both, cond-true, and_from}
use Rattle.std.proofs.lemmas.Option.{IfSome_then}
use Rattle.std.proofs.lemmas.List.{map-append, append-nil}
use Rattle.std.proofs.lemmas.List.Folds.{list_all-append}
use Rattle.std.proofs.lemmas.List.Concat.{flat_map-append}
use Rattle.std.proofs.lemmas.Slice.Eq.{bytes_eq-Decides}
use Rattle.std.specs.Str.{bytes_eq}
use Rattle.wkt_form.specs.declared.token.Symbol.{Symbol}
use Rattle.wkt_form.specs.declared.token.Symbol.TheVariants as symbols
use Rattle.wkt_form.specs.Number.{is_number}
use Rattle.wkt_form.specs.Token.{Kind, word, run, open_bracket, close_bracket, comma, stray}
use Rattle.wkt_form.specs.Symbol.{number_worth, word_symbol, run_symbol, symbol_of}
use Rattle.wkt_form.specs.Grammar.{WrittenPoint, WrittenPolygon, empty, rings, WrittenText, polygon, no_polygons, polygons, parted, bracketed, point_kinds, ring_kinds, polygon_kinds, text_kinds, some_and_all, is_point_right, is_polygon_right, is_text_right}

-- ==== What a symbol says of its token

-- the bytes of a run
abbrev pub run_bytes : Kind → List ℕ
run_bytes (run bs) = bs
run_bytes kind = []

-- the token of a symbol, its word in upper case
abbrev pub Means : Symbol → Kind → Type 0
Means symbols.Polygon kind = kind ≡ word (codes "POLYGON")
Means symbols.MultiPolygon kind = kind ≡ word (codes "MULTIPOLYGON")
Means symbols.Empty kind = kind ≡ word (codes "EMPTY")
Means (symbols.Number n) kind = (kind ≡ run (run_bytes kind)) × (is_number (run_bytes kind) ≡ true) × (n ≡ number_worth (run_bytes kind))
Means symbols.Open kind = kind ≡ open_bracket
Means symbols.Close kind = kind ≡ close_bracket
Means symbols.Comma kind = kind ≡ comma
Means symbols.Unknown kind = Unit {0}

means_word : (bs : List ℕ) → Means (word_symbol bs) (word bs)
means_word bs =
    cond_both (bytes_eq bs (codes "POLYGON")) _ _ (λ s. Means s (word bs)) (λ same. ap word ((bytes_eq-Decides bs (codes "POLYGON")).0 same))
    (λ _. cond_both (bytes_eq bs (codes "MULTIPOLYGON")) _ _ (λ s. Means s (word bs)) (λ same. ap word ((bytes_eq-Decides bs (codes "MULTIPOLYGON")).0 same))
    (λ _. cond_both (bytes_eq bs (codes "EMPTY")) _ _ (λ s. Means s (word bs)) (λ same. ap word ((bytes_eq-Decides bs (codes "EMPTY")).0 same))
    (λ _. tt)))

pub means : (kind : Kind) → Means (symbol_of kind) kind
means (word bs) = means_word bs
means (run bs) = cond_both (is_number bs) _ _ (λ s. Means s (run bs)) (λ right. (refl, right, refl)) (λ _. tt)
means open_bracket = refl
means close_bracket = refl
means comma = refl
means stray = tt

-- a number is seen as one
pub number_symbol : (bs : List ℕ) → is_number bs ≡ true → run_symbol bs ≡ symbols.Number (number_worth bs)
number_symbol bs right = cond-true (is_number bs) _ _ right

-- ==== What is written so far

-- POLYGON, or MULTIPOLYGON with the polygons before this one
pub data Frame : Type 0 where
  one : Frame
  several : List WrittenPolygon → Frame

-- how far a text has been read: the frame, the rings before this one, the points before this one, and what has begun
pub data Progress : Type 0 where
  nothing : Progress
  members : Progress
  polygon_due : Frame → Progress
  ring_due : Frame → List (List WrittenPoint) → Progress
  first_due : Frame → List (List WrittenPoint) → List WrittenPoint → Progress
  second_due : Frame → List (List WrittenPoint) → List WrittenPoint → List ℕ → Progress
  point_end : Frame → List (List WrittenPoint) → List WrittenPoint → WrittenPoint → Progress
  ring_end : Frame → List (List WrittenPoint) → List WrittenPoint → Progress
  polygon_end : List WrittenPolygon → WrittenPolygon → Progress
  whole : WrittenText → Progress

-- a polygon is whole
abbrev pub with_polygon : Frame → WrittenPolygon → Progress
with_polygon one p = whole (polygon p)
with_polygon (several ps) p = polygon_end ps p

-- what a symbol makes of it, with the bytes of its run, if it can stand there
abbrev pub with_kind : Progress → Symbol → List ℕ → Option Progress
with_kind nothing symbols.Polygon bs = Some (polygon_due one)
with_kind nothing symbols.MultiPolygon bs = Some members
with_kind members symbols.Empty bs = Some (whole no_polygons)
with_kind members symbols.Open bs = Some (polygon_due (several []))
with_kind (polygon_due f) symbols.Empty bs = Some (with_polygon f empty)
with_kind (polygon_due f) symbols.Open bs = Some (ring_due f [])
with_kind (ring_due f rs) symbols.Open bs = Some (first_due f rs [])
with_kind (first_due f rs ps) (symbols.Number n) bs = Some (second_due f rs ps bs)
with_kind (second_due f rs ps x) (symbols.Number n) bs = Some (point_end f rs ps (record { x = x; y = bs }))
with_kind (point_end f rs ps p) symbols.Comma bs = Some (first_due f rs (ps ++ p ∷ []))
with_kind (point_end f rs ps p) symbols.Close bs = Some (ring_end f rs (ps ++ p ∷ []))
with_kind (ring_end f rs r) symbols.Comma bs = Some (ring_due f (rs ++ r ∷ []))
with_kind (ring_end f rs r) symbols.Close bs = Some (with_polygon f (rings (rs ++ r ∷ [])))
with_kind (polygon_end ps p) symbols.Comma bs = Some (polygon_due (several (ps ++ p ∷ [])))
with_kind (polygon_end ps p) symbols.Close bs = Some (whole (polygons (ps ++ p ∷ [])))
with_kind at symbol bs = None

-- what a token makes of it
abbrev pub advance : Progress → Kind → Option Progress
advance at kind = with_kind at (symbol_of kind) (run_bytes kind)

abbrev pub walk : Progress → List Kind → Option Progress
walk at [] = Some at
walk at (kind ∷ kinds) = option_and_then (λ next. walk next kinds) (advance at kind)

-- ==== The tokens that are read

-- members with a comma after each, after an opening bracket
abbrev pub opened : List Kind → List (List Kind) → List Kind
opened front ms = front ++ open_bracket ∷ flat_map (λ m. m ++ comma ∷ []) ms

abbrev pub frame_kinds : Frame → List Kind
frame_kinds one = word (codes "POLYGON") ∷ []
frame_kinds (several ps) = opened (word (codes "MULTIPOLYGON") ∷ []) (map polygon_kinds ps)

abbrev pub ring_front : Frame → List (List WrittenPoint) → List Kind
ring_front f rs = opened (frame_kinds f) (map ring_kinds rs)

abbrev pub point_front : Frame → List (List WrittenPoint) → List WrittenPoint → List Kind
point_front f rs ps = opened (ring_front f rs) (map point_kinds ps)

abbrev pub kinds_read : Progress → List Kind
kinds_read nothing = []
kinds_read members = word (codes "MULTIPOLYGON") ∷ []
kinds_read (polygon_due f) = frame_kinds f
kinds_read (ring_due f rs) = ring_front f rs
kinds_read (first_due f rs ps) = point_front f rs ps
kinds_read (second_due f rs ps x) = point_front f rs ps ++ run x ∷ []
kinds_read (point_end f rs ps p) = point_front f rs ps ++ point_kinds p
kinds_read (ring_end f rs r) = ring_front f rs ++ ring_kinds r
kinds_read (polygon_end ps p) = frame_kinds (several ps) ++ polygon_kinds p
kinds_read (whole text) = text_kinds text

parted_push : (ms : List (List Kind)) (m : List Kind) → parted (ms ++ m ∷ []) ≡ flat_map (λ k. k ++ comma ∷ []) ms ++ m
parted_push [] m = refl
parted_push (k ∷ []) m = simp (append_assoc, append-nil)
parted_push (k ∷ l ∷ ms) m = ap (λ ks. k ++ comma ∷ ks) (parted_push (l ∷ ms) m) ∙ simp append_assoc

module _ {A : Type 0} (kinds : A → List Kind) where
  -- one more member with its comma
  opened_more : (front : List Kind) (ms : List A) (m : A) → opened front (map kinds (ms ++ m ∷ [])) ≡ (opened front (map kinds ms) ++ kinds m) ++ comma ∷ []
  opened_more front ms m =
      ap (opened front) (map-append kinds ms (m ∷ []))
      ∙ ap (λ ks. front ++ open_bracket ∷ ks) (flat_map-append (λ (k : List Kind). k ++ comma ∷ []) (map kinds ms) (kinds m ∷ []))
      ∙ simp (append_assoc, append-nil)

  -- the last member
  opened_close : (front : List Kind) (ms : List A) (m : A) → front ++ bracketed (map kinds (ms ++ m ∷ [])) ≡ (opened front (map kinds ms) ++ kinds m) ++ close_bracket ∷ []
  opened_close front ms m =
      ap (λ ks. front ++ open_bracket ∷ (parted ks ++ close_bracket ∷ [])) (map-append kinds ms (m ∷ []))
      ∙ ap (λ ks. front ++ open_bracket ∷ (ks ++ close_bracket ∷ [])) (parted_push (map kinds ms) (kinds m))
      ∙ simp append_assoc

polygon_kinds_read : (f : Frame) (p : WrittenPolygon) → kinds_read (with_polygon f p) ≡ frame_kinds f ++ polygon_kinds p
polygon_kinds_read one p = refl
polygon_kinds_read (several ps) p = refl

-- a token that can stand there is read after those that were
pub kinds_more : (at : Progress) (symbol : Symbol) (kind : Kind) → Means symbol kind → IfSome (with_kind at symbol (run_bytes kind)) (λ next. kinds_read next ≡ kinds_read at ++ kind ∷ [])
kinds_more nothing symbols.Polygon kind e = ap (λ k. k ∷ []) (sym e)
kinds_more nothing symbols.MultiPolygon kind e = ap (λ k. k ∷ []) (sym e)
kinds_more members symbols.Empty kind e = ap (λ k. word (codes "MULTIPOLYGON") ∷ k ∷ []) (sym e)
kinds_more members symbols.Open kind e = ap (λ k. word (codes "MULTIPOLYGON") ∷ k ∷ []) (sym e)
kinds_more (polygon_due f) symbols.Empty kind e = polygon_kinds_read f empty ∙ ap (λ k. frame_kinds f ++ k ∷ []) (sym e)
kinds_more (polygon_due f) symbols.Open kind e = ap (λ k. frame_kinds f ++ k ∷ []) (sym e)
kinds_more (ring_due f rs) symbols.Open kind e = ap (λ k. ring_front f rs ++ k ∷ []) (sym e)
kinds_more (first_due f rs ps) (symbols.Number n) kind e = ap (λ k. point_front f rs ps ++ k ∷ []) (sym e.0)
kinds_more (second_due f rs ps x) (symbols.Number n) kind e =
    sym (append_assoc (point_front f rs ps) (run x ∷ []) (run (run_bytes kind) ∷ [])) ∙ ap (λ k. (point_front f rs ps ++ run x ∷ []) ++ k ∷ []) (sym e.0)
kinds_more (point_end f rs ps p) symbols.Comma kind e =
    opened_more point_kinds (ring_front f rs) ps p ∙ ap (λ k. (point_front f rs ps ++ point_kinds p) ++ k ∷ []) (sym e)
kinds_more (point_end f rs ps p) symbols.Close kind e =
    opened_close point_kinds (ring_front f rs) ps p ∙ ap (λ k. (point_front f rs ps ++ point_kinds p) ++ k ∷ []) (sym e)
kinds_more (ring_end f rs r) symbols.Comma kind e =
    opened_more ring_kinds (frame_kinds f) rs r ∙ ap (λ k. (ring_front f rs ++ ring_kinds r) ++ k ∷ []) (sym e)
kinds_more (ring_end f rs r) symbols.Close kind e =
    polygon_kinds_read f (rings (rs ++ r ∷ [])) ∙ opened_close ring_kinds (frame_kinds f) rs r ∙ ap (λ k. (ring_front f rs ++ ring_kinds r) ++ k ∷ []) (sym e)
kinds_more (polygon_end ps p) symbols.Comma kind e =
    opened_more polygon_kinds (word (codes "MULTIPOLYGON") ∷ []) ps p ∙ ap (λ k. (frame_kinds (several ps) ++ polygon_kinds p) ++ k ∷ []) (sym e)
kinds_more (polygon_end ps p) symbols.Close kind e =
    opened_close polygon_kinds (word (codes "MULTIPOLYGON") ∷ []) ps p ∙ ap (λ k. (frame_kinds (several ps) ++ polygon_kinds p) ++ k ∷ []) (sym e)
kinds_more at symbol kind e = tt

-- ==== What is written is right

abbrev pub is_ring_right : List WrittenPoint → Bool
is_ring_right points = some_and_all is_point_right points

abbrev pub IsFrameRight : Frame → Type 0
IsFrameRight one = Unit {0}
IsFrameRight (several ps) = list_all is_polygon_right ps ≡ true

-- numbers are where numbers must be, and members where members must
abbrev pub IsRight : Progress → Type 0
IsRight nothing = Unit {0}
IsRight members = Unit {0}
IsRight (polygon_due f) = IsFrameRight f
IsRight (ring_due f rs) = IsFrameRight f × (list_all is_ring_right rs ≡ true)
IsRight (first_due f rs ps) = IsFrameRight f × (list_all is_ring_right rs ≡ true) × (list_all is_point_right ps ≡ true)
IsRight (second_due f rs ps x) = IsFrameRight f × (list_all is_ring_right rs ≡ true) × (list_all is_point_right ps ≡ true) × (is_number x ≡ true)
IsRight (point_end f rs ps p) = IsFrameRight f × (list_all is_ring_right rs ≡ true) × (list_all is_point_right ps ≡ true) × (is_point_right p ≡ true)
IsRight (ring_end f rs r) = IsFrameRight f × (list_all is_ring_right rs ≡ true) × (is_ring_right r ≡ true)
IsRight (polygon_end ps p) = (list_all is_polygon_right ps ≡ true) × (is_polygon_right p ≡ true)
IsRight (whole text) = is_text_right text ≡ true

module _ {A : Type 0} (test : A → Bool) where
  all_push : (xs : List A) (x : A) → list_all test xs ≡ true → test x ≡ true → list_all test (xs ++ x ∷ []) ≡ true
  all_push xs x all last = list_all-append test xs (x ∷ []) ∙ and_from _ _ all (and_from _ _ last refl)

  some_push : (xs : List A) (x : A) → list_all test xs ≡ true → test x ≡ true → some_and_all test (xs ++ x ∷ []) ≡ true
  some_push [] x all last = and_from _ _ last refl
  some_push (y ∷ ys) x all last = all_push (y ∷ ys) x all last

polygon_right : (f : Frame) (p : WrittenPolygon) → IsFrameRight f → is_polygon_right p ≡ true → IsRight (with_polygon f p)
polygon_right one p frame right = right
polygon_right (several ps) p frame right = (frame, right)

pub right_more : (at : Progress) (symbol : Symbol) (kind : Kind) → Means symbol kind → IsRight at → IfSome (with_kind at symbol (run_bytes kind)) IsRight
right_more nothing symbols.Polygon kind e g = tt
right_more nothing symbols.MultiPolygon kind e g = tt
right_more members symbols.Empty kind e g = refl
right_more members symbols.Open kind e g = refl
right_more (polygon_due f) symbols.Empty kind e g = polygon_right f empty g refl
right_more (polygon_due f) symbols.Open kind e g = (g, refl)
right_more (ring_due f rs) symbols.Open kind e g = (g.0, g.1, refl)
right_more (first_due f rs ps) (symbols.Number n) kind e g = (g.0, g.1, g.2, e.1)
right_more (second_due f rs ps x) (symbols.Number n) kind e g = (g.0, g.1, g.2, and_from _ _ g.3 e.1)
right_more (point_end f rs ps p) symbols.Comma kind e g = (g.0, g.1, all_push is_point_right ps p g.2 g.3)
right_more (point_end f rs ps p) symbols.Close kind e g = (g.0, g.1, some_push is_point_right ps p g.2 g.3)
right_more (ring_end f rs r) symbols.Comma kind e g = (g.0, all_push is_ring_right rs r g.1 g.2)
right_more (ring_end f rs r) symbols.Close kind e g = polygon_right f (rings (rs ++ r ∷ [])) g.0 (some_push is_ring_right rs r g.1 g.2)
right_more (polygon_end ps p) symbols.Comma kind e g = all_push is_polygon_right ps p g.0 g.1
right_more (polygon_end ps p) symbols.Close kind e g = some_push is_polygon_right ps p g.0 g.1
right_more at symbol kind e g = tt

-- what a walk over tokens keeps: they are read after those that were, and what is written is right
abbrev pub Reached : Progress → List Kind → Progress → Type 0
Reached at kinds next = (kinds_read next ≡ kinds_read at ++ kinds) × IsRight next

pub reached : (at : Progress) (kinds : List Kind) → IsRight at → IfSome (walk at kinds) (Reached at kinds)
reached at [] g = (sym (append-nil (kinds_read at)), g)
reached at (kind ∷ kinds) g = by_next (advance at kind) (kinds_more at (symbol_of kind) kind (means kind)) (right_more at (symbol_of kind) kind (means kind) g) (λ next r. reached next kinds r) where
  by_next : (o : Option Progress) → IfSome o (λ next. kinds_read next ≡ kinds_read at ++ kind ∷ []) → IfSome o IsRight → ((next : Progress) → IsRight next → IfSome (walk next kinds) (Reached next kinds)) → IfSome (option_and_then (λ next. walk next kinds) o) (Reached at (kind ∷ kinds))
  by_next None e r rest = tt
  by_next (Some next) e r rest =
      IfSome_then (walk next kinds) (rest next r)
      (λ last both. (both.0 ∙ ap (λ ks. ks ++ kinds) e ∙ append_assoc (kinds_read at) (kind ∷ []) kinds, both.1))
