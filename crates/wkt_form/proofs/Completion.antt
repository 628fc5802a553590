-- What has been read so far can be made a text, and a text is read to its end.
use Rattle.std.proofs.Common.{◌≡◌, ℕ, Bool, true, List, [], ◌∷◌, ◌++◌, map, refl, sym, ap, ◌∙◌, Option, Some, None, codes, append_assoc}
use Rattle.std.specs.List.{list_all}
use Rattle.std.specs.Prelude.{option_and_then}
use Rattle.std.proofs.lemmas.Bool.{and_parts, false≢true}
use Rattle.std.proofs.lemmas.List.{append-nil}
use Rattle.wkt_form.specs.declared.token.Symbol.TheVariants as symbols
use Rattle.wkt_form.specs.Number.{is_number}
use Rattle.wkt_form.specs.Token.{Kind, word, run, open_bracket, close_bracket, comma}
use Rattle.wkt_form.specs.Symbol.{symbol_of}
use Rattle.wkt_form.specs.Grammar.{WrittenPoint, WrittenPolygon, empty, rings, WrittenText, polygon, no_polygons, polygons, parted, point_kinds, ring_kinds, polygon_kinds, text_kinds, is_point_right, is_polygon_right, is_text_right, in_upper_case}
use Rattle.wkt_form.proofs.Progress.{means, number_symbol, Frame, one, several, Progress, nothing, members, polygon_due, ring_due, first_due, second_due, point_end, ring_end, polygon_end, whole, with_polygon, with_kind, advance, walk, kinds_read, kinds_more, IsRight, right_more, is_ring_right}

-- ==== What has been read can be made a text

-- more tokens, words in upper case, make it a text
pub record CanEnd (at : Progress) : Type 0 where
  pub more : List Kind
  pub upper : map in_upper_case more ≡ more
  pub text : WrittenText
  pub right : is_text_right text ≡ true
  pub spelled : kinds_read at ++ more ≡ text_kinds text

-- it can where it can with one more token
by_token : (at next : Progress) (kind : Kind) → in_upper_case kind ≡ kind → kinds_read next ≡ kinds_read at ++ kind ∷ [] → CanEnd next → CanEnd at
by_token at next kind u e end =
    record {
      more = kind ∷ end.more;
      upper = ap (λ k. k ∷ map in_upper_case end.more) u ∙ ap (λ ks. kind ∷ ks) end.upper;
      text = end.text;
      right = end.right;
      spelled = sym (append_assoc (kinds_read at) (kind ∷ []) end.more) ∙ ap (λ ks. ks ++ end.more) (sym e) ∙ end.spelled;
    }

whole_ends : (text : WrittenText) → IsRight (whole text) → CanEnd (whole text)
whole_ends text g = record { more = []; upper = refl; text = text; right = g; spelled = append-nil (text_kinds text) }

polygon_end_ends : (ps : List WrittenPolygon) (p : WrittenPolygon) → IsRight (polygon_end ps p) → CanEnd (polygon_end ps p)
polygon_end_ends ps p g =
    by_token (polygon_end ps p) (whole (polygons (ps ++ p ∷ []))) close_bracket refl (kinds_more (polygon_end ps p) symbols.Close close_bracket refl)
    (whole_ends (polygons (ps ++ p ∷ [])) (right_more (polygon_end ps p) symbols.Close close_bracket refl g))

polygon_ends : (f : Frame) (p : WrittenPolygon) → IsRight (with_polygon f p) → CanEnd (with_polygon f p)
polygon_ends one p g = whole_ends (polygon p) g
polygon_ends (several ps) p g = polygon_end_ends ps p g

ring_end_ends : (f : Frame) (rs : List (List WrittenPoint)) (r : List WrittenPoint) → IsRight (ring_end f rs r) → CanEnd (ring_end f rs r)
ring_end_ends f rs r g =
    by_token (ring_end f rs r) (with_polygon f (rings (rs ++ r ∷ []))) close_bracket refl (kinds_more (ring_end f rs r) symbols.Close close_bracket refl)
    (polygon_ends f (rings (rs ++ r ∷ [])) (right_more (ring_end f rs r) symbols.Close close_bracket refl g))

point_end_ends : (f : Frame) (rs : List (List WrittenPoint)) (ps : List WrittenPoint) (p : WrittenPoint) → IsRight (point_end f rs ps p) → CanEnd (point_end f rs ps p)
point_end_ends f rs ps p g =
    by_token (point_end f rs ps p) (ring_end f rs (ps ++ p ∷ [])) close_bracket refl (kinds_more (point_end f rs ps p) symbols.Close close_bracket refl)
    (ring_end_ends f rs (ps ++ p ∷ []) (right_more (point_end f rs ps p) symbols.Close close_bracket refl g))

second_ends : (f : Frame) (rs : List (List WrittenPoint)) (ps : List WrittenPoint) (x : List ℕ) → IsRight (second_due f rs ps x) → CanEnd (second_due f rs ps x)
second_ends f rs ps x g =
    let zero_x = means (run (48 ∷ [])) in
    by_token (second_due f rs ps x) (point_end f rs ps (record { x = x; y = 48 ∷ [] })) (run (48 ∷ [])) refl (kinds_more (second_due f rs ps x) (symbol_of (run (48 ∷ []))) (run (48 ∷ [])) zero_x)
    (point_end_ends f rs ps (record { x = x; y = 48 ∷ [] }) (right_more (second_due f rs ps x) (symbol_of (run (48 ∷ []))) (run (48 ∷ [])) zero_x g))

first_ends : (f : Frame) (rs : List (List WrittenPoint)) (ps : List WrittenPoint) → IsRight (first_due f rs ps) → CanEnd (first_due f rs ps)
first_ends f rs ps g =
    let zero_x = means (run (48 ∷ [])) in
    by_token (first_due f rs ps) (second_due f rs ps (48 ∷ [])) (run (48 ∷ [])) refl (kinds_more (first_due f rs ps) (symbol_of (run (48 ∷ []))) (run (48 ∷ [])) zero_x)
    (second_ends f rs ps (48 ∷ []) (right_more (first_due f rs ps) (symbol_of (run (48 ∷ []))) (run (48 ∷ [])) zero_x g))

ring_due_ends : (f : Frame) (rs : List (List WrittenPoint)) → IsRight (ring_due f rs) → CanEnd (ring_due f rs)
ring_due_ends f rs g =
    by_token (ring_due f rs) (first_due f rs []) open_bracket refl (kinds_more (ring_due f rs) symbols.Open open_bracket refl)
    (first_ends f rs [] (right_more (ring_due f rs) symbols.Open open_bracket refl g))

polygon_due_ends : (f : Frame) → IsRight (polygon_due f) → CanEnd (polygon_due f)
polygon_due_ends f g =
    by_token (polygon_due f) (with_polygon f empty) (word (codes "EMPTY")) refl (kinds_more (polygon_due f) symbols.Empty (word (codes "EMPTY")) refl)
    (polygon_ends f empty (right_more (polygon_due f) symbols.Empty (word (codes "EMPTY")) refl g))

members_ends : CanEnd members
members_ends =
    by_token members (whole no_polygons) (word (codes "EMPTY")) refl (kinds_more members symbols.Empty (word (codes "EMPTY")) refl) (whole_ends no_polygons refl)

nothing_ends : CanEnd nothing
nothing_ends =
    by_token nothing (polygon_due one) (word (codes "POLYGON")) refl (kinds_more nothing symbols.Polygon (word (codes "POLYGON")) refl) (polygon_due_ends one tt)

-- wherever reading is, the text can be ended
pub can_end : (at : Progress) → IsRight at → CanEnd at
can_end nothing g = nothing_ends
can_end members g = members_ends
can_end (polygon_due f) g = polygon_due_ends f g
can_end (ring_due f rs) g = ring_due_ends f rs g
can_end (first_due f rs ps) g = first_ends f rs ps g
can_end (second_due f rs ps x) g = second_ends f rs ps x g
can_end (point_end f rs ps p) g = point_end_ends f rs ps p g
can_end (ring_end f rs r) g = ring_end_ends f rs r g
can_end (polygon_end ps p) g = polygon_end_ends ps p g
can_end (whole text) g = whole_ends text g

-- ==== A text is read to its end

walk_first : (f : Frame) (rs : List (List WrittenPoint)) (ps : List WrittenPoint) (x : List ℕ) (kinds : List Kind) → is_number x ≡ true → walk (first_due f rs ps) (run x ∷ kinds) ≡ walk (second_due f rs ps x) kinds
walk_first f rs ps x kinds right =
    ap (λ s. option_and_then (λ next. walk next kinds) (with_kind (first_due f rs ps) s x)) (number_symbol x right)

walk_second : (f : Frame) (rs : List (List WrittenPoint)) (ps : List WrittenPoint) (x y : List ℕ) (kinds : List Kind) → is_number y ≡ true → walk (second_due f rs ps x) (run y ∷ kinds) ≡ walk (point_end f rs ps (record { x = x; y = y })) kinds
walk_second f rs ps x y kinds right =
    ap (λ s. option_and_then (λ next. walk next kinds) (with_kind (second_due f rs ps x) s y)) (number_symbol y right)

-- members with a comma between them and a closing bracket after them
module _ {A : Type 0} (kinds : A → List Kind) (test : A → Bool) (due : List A → Progress) (done : List A → A → Progress) (closed : List A → Progress)
    (member : (before : List A) (a : A) (rest : List Kind) → test a ≡ true → walk (due before) (kinds a ++ rest) ≡ walk (done before a) rest)
    (at_comma : (before : List A) (a : A) (rest : List Kind) → walk (done before a) (comma ∷ rest) ≡ walk (due (before ++ a ∷ [])) rest)
    (at_close : (before : List A) (a : A) (rest : List Kind) → walk (done before a) (close_bracket ∷ rest) ≡ walk (closed (before ++ a ∷ [])) rest) where
  walk_members : (before : List A) (a : A) (as' : List A) (rest : List Kind) → list_all test (a ∷ as') ≡ true → walk (due before) (parted (map kinds (a ∷ as')) ++ close_bracket ∷ rest) ≡ walk (closed (before ++ a ∷ as')) rest
  walk_members before a [] rest right =
      member before a (close_bracket ∷ rest) (and_parts (test a) true right).0 ∙ at_close before a rest
  walk_members before a (b ∷ bs) rest right =
      let parts = and_parts (test a) (list_all test (b ∷ bs)) right in
      ap (walk (due before)) (append_assoc (kinds a) (comma ∷ parted (map kinds (b ∷ bs))) (close_bracket ∷ rest))
      ∙ member before a (comma ∷ (parted (map kinds (b ∷ bs)) ++ close_bracket ∷ rest)) parts.0
      ∙ at_comma before a (parted (map kinds (b ∷ bs)) ++ close_bracket ∷ rest)
      ∙ walk_members (before ++ a ∷ []) b bs rest parts.1
      ∙ ap (λ all. walk (closed all) rest) (append_assoc before (a ∷ []) (b ∷ bs))

walk_point : (f : Frame) (rs : List (List WrittenPoint)) (before : List WrittenPoint) (p : WrittenPoint) (rest : List Kind) → is_point_right p ≡ true → walk (first_due f rs before) (point_kinds p ++ rest) ≡ walk (point_end f rs before p) rest
walk_point f rs before p rest right =
    let parts = and_parts (is_number p.x) (is_number p.y) right in
    walk_first f rs before p.x (run p.y ∷ rest) parts.0 ∙ walk_second f rs before p.x p.y rest parts.1

walk_ring : (f : Frame) (before : List (List WrittenPoint)) (r : List WrittenPoint) (rest : List Kind) → is_ring_right r ≡ true → walk (ring_due f before) (ring_kinds r ++ rest) ≡ walk (ring_end f before r) rest
walk_ring f before [] rest right = absurd (false≢true right)
walk_ring f before (p ∷ ps) rest right =
    ap (walk (first_due f before [])) (append_assoc (parted (map point_kinds (p ∷ ps))) (close_bracket ∷ []) rest)
    ∙ walk_members point_kinds is_point_right (first_due f before) (point_end f before) (ring_end f before) (walk_point f before) (λ _ _ _. refl) (λ _ _ _. refl) [] p ps rest right

walk_polygon : (f : Frame) (p : WrittenPolygon) (rest : List Kind) → is_polygon_right p ≡ true → walk (polygon_due f) (polygon_kinds p ++ rest) ≡ walk (with_polygon f p) rest
walk_polygon f empty rest right = refl
walk_polygon f (rings []) rest right = absurd (false≢true right)
walk_polygon f (rings (r ∷ rs)) rest right =
    ap (walk (ring_due f [])) (append_assoc (parted (map ring_kinds (r ∷ rs))) (close_bracket ∷ []) rest)
    ∙ walk_members ring_kinds is_ring_right (ring_due f) (ring_end f) (λ all. with_polygon f (rings all)) (walk_ring f) (λ _ _ _. refl) (λ _ _ _. refl) [] r rs rest right

-- the whole of a text
pub walk_text : (text : WrittenText) → is_text_right text ≡ true → walk nothing (text_kinds text) ≡ Some (whole text)
walk_text (polygon p) right = ap (walk (polygon_due one)) (sym (append-nil (polygon_kinds p))) ∙ walk_polygon one p [] right
walk_text no_polygons right = refl
walk_text (polygons []) right = absurd (false≢true right)
walk_text (polygons (p ∷ ps)) right =
    walk_members polygon_kinds is_polygon_right (λ before. polygon_due (several before)) polygon_end (λ all. whole (polygons all)) (λ before. walk_polygon (several before)) (λ _ _ _. refl) (λ _ _ _. refl) [] p ps [] right

-- a walk over tokens and more is a walk over the tokens first
pub walk-append : (at : Progress) (kinds more : List Kind) → walk at (kinds ++ more) ≡ option_and_then (λ next. walk next more) (walk at kinds)
walk-append at [] more = refl
walk-append at (kind ∷ kinds) more = by_next (advance at kind) (λ next. walk-append next kinds more) where
  by_next : (o : Option Progress) → ((next : Progress) → walk next (kinds ++ more) ≡ option_and_then (λ last. walk last more) (walk next kinds)) → option_and_then (λ next. walk next (kinds ++ more)) o ≡ option_and_then (λ last. walk last more) (option_and_then (λ next. walk next kinds) o)
  by_next None rest = refl
  by_next (Some next) rest = rest next
