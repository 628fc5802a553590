-- The tokens of a written text, and the layer that it spells.
use Rattle.std.proofs.Common.{◌≡◌, ℕ, suc, ◌+◌, ◌<◌, ℤ, Bool, true, false, List, [], ◌∷◌, ◌++◌, map, length, take, drop, get_or, refl, sym, ap, ◌∙◌, None, append_assoc, codes, subst, lit<, arith}
use Rattle.std.specs.List.{All, list_all, flat_map, prefix_len}
use Rattle.std.specs.Char.{is_ascii_alphabetic}
use Rattle.std.specs.Fmt.{signed_decimal}
use Rattle.std.proofs.lemmas.Bool.{and_from, and_parts, cond-true, cond-false}
use Rattle.std.proofs.lemmas.List.{take_at, drop_at, length-append}
use Rattle.std.proofs.lemmas.List.Elements.{All-nil, All-cons, All-head, All-tail}
use Rattle.overlay_terms.specs.Plane.{WholePoint, InRange, is_coordinate}
use Rattle.overlay_terms.proofs.Coordinates.{in_range_passes}
use Rattle.plane_base.specs.BaseLayer.{ring_fault, first_ring_fault}
use Rattle.overlay_terms.proofs.Options.{both_absent}
use Rattle.overlay_terms.specs.Bytes.{begins}
use Rattle.wkt_form.specs.Number.{is_whole, number_value}
use Rattle.wkt_form.specs.Token.{Kind, word, run, open_bracket, close_bracket, comma, Token, is_run_byte, tokens_from}
use Rattle.wkt_form.specs.Spelling.{comma_listed, wkt_point, ring_text, wkt_text}
use Rattle.wkt_form.specs.Grammar.{WrittenPoint, WrittenPolygon, rings, WrittenText, no_polygons, polygons, parted, bracketed, point_kinds, polygon_kinds, text_kinds, is_point_right, is_polygon_right, is_text_right, point_of, polygon_rings, text_rings, in_upper_case, kinds_of, number_fault}
use Rattle.wkt_form.specs.Laws.{AreInRange, WrittenReadsBack}
use Rattle.wkt_form.proofs.TokenLemmas.{Grows, first_is, words_grow, runs_grow}
use Rattle.wkt_form.proofs.WrittenNumbers.{IsWritten, written}

-- ==== Bytes and the kinds of their tokens

abbrev IsGood : Token → Type 0
IsGood t = number_fault t ≡ None

-- bytes at any offset have tokens of these kinds, none of them at fault as a number
record Lexed (bytes : List ℕ) (kinds : List Kind) : Type 0 where
  spelled : (at : ℕ) → kinds_of (tokens_from at bytes) ≡ kinds
  good : (at : ℕ) → All IsGood (tokens_from at bytes)

lexed_nothing : Lexed [] []
lexed_nothing = record { spelled = λ at. refl; good = λ at. All-nil IsGood }

-- one token, and those after it
lexed_token : (bytes rest : List ℕ) (kind : Kind) (kinds : List Kind) (size : ℕ) → in_upper_case kind ≡ kind → ((at : ℕ) → number_fault (record { at = at; kind = kind }) ≡ None) → ((at : ℕ) → tokens_from at bytes ≡ record { at = at; kind = kind } ∷ tokens_from (at + size) rest) → Lexed rest kinds → Lexed bytes (kind ∷ kinds)
lexed_token bytes rest kind kinds size upper fault e after =
    record {
      spelled = λ at. ap kinds_of (e at) ∙ ap (λ k. k ∷ kinds_of (tokens_from (at + size) rest)) upper ∙ ap (λ ks. kind ∷ ks) (after.spelled (at + size));
      good = λ at. subst (All IsGood) (sym (e at)) (All-cons IsGood (record { at = at; kind = kind }) (tokens_from (at + size) rest) (fault at) (after.good (at + size)));
    }

lexed_open : (rest : List ℕ) (kinds : List Kind) → Lexed rest kinds → Lexed (40 ∷ rest) (open_bracket ∷ kinds)
lexed_open rest kinds after = lexed_token (40 ∷ rest) rest open_bracket kinds 1 refl (λ at. refl) (λ at. refl) after

lexed_close : (rest : List ℕ) (kinds : List Kind) → Lexed rest kinds → Lexed (41 ∷ rest) (close_bracket ∷ kinds)
lexed_close rest kinds after = lexed_token (41 ∷ rest) rest close_bracket kinds 1 refl (λ at. refl) (λ at. refl) after

lexed_comma : (rest : List ℕ) (kinds : List Kind) → Lexed rest kinds → Lexed (44 ∷ rest) (comma ∷ kinds)
lexed_comma rest kinds after = lexed_token (44 ∷ rest) rest comma kinds 1 refl (λ at. refl) (λ at. refl) after

lexed_space : (rest : List ℕ) (kinds : List Kind) → Lexed rest kinds → Lexed (32 ∷ rest) kinds
lexed_space rest kinds after = record { spelled = λ at. after.spelled (at + 1); good = λ at. after.good (at + 1) }

-- ==== Numbers

prefix_over : (p : ℕ → Bool) (bs rest : List ℕ) → list_all p bs ≡ true → begins p rest ≡ false → prefix_len p (bs ++ rest) ≡ length bs
prefix_over p [] [] all stop = refl
prefix_over p [] (c ∷ cs) all stop = cond-false (p c) _ _ stop
prefix_over p (b ∷ bs) rest all stop =
    let parts = and_parts (p b) (list_all p bs) all in
    cond-true (p b) _ _ parts.0 ∙ ap (λ n. 1 + n) (prefix_over p bs rest parts.1 stop) ∙ one_more (length bs) where
      one_more : (n : ℕ) → 1 + n ≡ suc n
      one_more n = omega arith

first_byte : (p : ℕ → Bool) (bs rest : List ℕ) → list_all p bs ≡ true → 0 < length bs → p (get_or (bs ++ rest) 0 0) ≡ true
first_byte p [] rest all some = absurd (omega arith)
first_byte p (b ∷ bs) rest all some = (and_parts (p b) (list_all p bs) all).0

-- a word or a run, and what follows it
front_tokens : (test : ℕ → Bool) (make : List ℕ → Kind) (grows : Grows test make) (bs rest : List ℕ) → list_all test bs ≡ true → 0 < length bs → begins test rest ≡ false → (at : ℕ) → tokens_from at (bs ++ rest) ≡ record { at = at; kind = make bs } ∷ tokens_from (at + length bs) rest
front_tokens test make grows bs rest all some stop at =
    let size = prefix_over test bs rest all stop in
    let within : 0 < length (bs ++ rest) = omega (arith, length-append bs rest) in
    first_is test make grows (bs ++ rest) within (first_byte test bs rest all some) at
    ∙ ap (λ n. record { at = at; kind = make (take n (bs ++ rest)) } ∷ tokens_from (at + n) (drop n (bs ++ rest))) size
    ∙ ap (λ ts. record { at = at; kind = make ts } ∷ tokens_from (at + length bs) (drop (length bs) (bs ++ rest))) (take_at bs rest (length bs) refl)
    ∙ ap (λ ts. record { at = at; kind = make bs } ∷ tokens_from (at + length bs) ts) (drop_at bs rest (length bs) refl)

lexed_word : (bs rest : List ℕ) (kinds : List Kind) → list_all is_ascii_alphabetic bs ≡ true → 0 < length bs → in_upper_case (word bs) ≡ word bs → begins is_ascii_alphabetic rest ≡ false → Lexed rest kinds → Lexed (bs ++ rest) (word bs ∷ kinds)
lexed_word bs rest kinds all some upper stop after =
    lexed_token (bs ++ rest) rest (word bs) kinds (length bs) upper (λ at. refl) (front_tokens is_ascii_alphabetic word words_grow bs rest all some stop) after

run_fault : (z : ℤ) (bs : List ℕ) → InRange z → IsWritten z bs → (at : ℕ) → number_fault (record { at = at; kind = run bs }) ≡ None
run_fault z bs h w at =
    cond-true (is_whole bs) _ _ w.whole ∙ cond-true (is_coordinate (number_value bs)) _ _ (ap is_coordinate w.value ∙ in_range_passes z h)

lexed_number : (z : ℤ) (rest : List ℕ) (kinds : List Kind) → InRange z → begins is_run_byte rest ≡ false → Lexed rest kinds → Lexed (signed_decimal z ++ rest) (run (signed_decimal z) ∷ kinds)
lexed_number z rest kinds h stop after =
    let w = written z h in
    lexed_token (signed_decimal z ++ rest) rest (run (signed_decimal z)) kinds (length (signed_decimal z)) refl (run_fault z (signed_decimal z) h w) (front_tokens is_run_byte run runs_grow (signed_decimal z) rest w.run w.some stop) after

-- ==== Points, rings, layers

abbrev written_point : WholePoint → WrittenPoint
written_point p = record { x = signed_decimal p.x; y = signed_decimal p.y }

abbrev written_ring : List WholePoint → List WrittenPoint
written_ring points = map written_point points

-- a ring as a polygon of its own
abbrev written_polygon : List WholePoint → WrittenPolygon
written_polygon points = rings (written_ring points ∷ [])

abbrev written_text : List (List WholePoint) → WrittenText
written_text [] = no_polygons
written_text (ring ∷ layer) = polygons (map written_polygon (ring ∷ layer))

-- the text of a member is lexed so, whatever follows that is no digit, sign or point
abbrev IsLexedAs : List ℕ → List Kind → Type 0
IsLexedAs text kinds = (rest : List ℕ) (after : List Kind) → begins is_run_byte rest ≡ false → Lexed rest after → Lexed (text ++ rest) (kinds ++ after)

lexed_point : (p : WholePoint) → InRange p.x × InRange p.y → IsLexedAs (wkt_point p) (point_kinds (written_point p))
lexed_point p h rest after stop e =
    subst (λ bytes. Lexed bytes (point_kinds (written_point p) ++ after)) (sym (append_assoc (signed_decimal p.x) (codes " " ++ signed_decimal p.y) rest))
    (lexed_number p.x (32 ∷ (signed_decimal p.y ++ rest)) (run (signed_decimal p.y) ∷ after) h.0 refl
    (lexed_space (signed_decimal p.y ++ rest) (run (signed_decimal p.y) ∷ after) (lexed_number p.y rest after h.1 stop e)))

module _ {A : Type 0} (text : A → List ℕ) (kinds : A → List Kind) (P : A → Type 0) (member : (a : A) → P a → IsLexedAs (text a) (kinds a)) where
  lexed_list : (a : A) (as' : List A) → All P (a ∷ as') → IsLexedAs (comma_listed (map text (a ∷ as'))) (parted (map kinds (a ∷ as')))
  lexed_list a [] h rest after stop e = member a (All-head P a [] h) rest after stop e
  lexed_list a (b ∷ bs) h rest after stop e =
      let later = comma_listed (map text (b ∷ bs)) in
      let later_kinds = parted (map kinds (b ∷ bs)) in
      let tail : Lexed (later ++ rest) (later_kinds ++ after) = lexed_list b bs (All-tail P a (b ∷ bs) h) rest after stop e in
      let all : Lexed (text a ++ (44 ∷ 32 ∷ (later ++ rest))) (kinds a ++ (comma ∷ (later_kinds ++ after))) =
      member a (All-head P a (b ∷ bs) h) (44 ∷ 32 ∷ (later ++ rest)) (comma ∷ (later_kinds ++ after)) refl
      (lexed_comma (32 ∷ (later ++ rest)) (later_kinds ++ after) (lexed_space (later ++ rest) (later_kinds ++ after) tail)) in
      subst (λ bytes. Lexed bytes ((kinds a ++ comma ∷ later_kinds) ++ after)) (sym (append_assoc (text a) (codes ", " ++ later) rest))
      (subst (λ ks. Lexed (text a ++ (44 ∷ 32 ∷ (later ++ rest))) ks) (sym (append_assoc (kinds a) (comma ∷ later_kinds) after)) all)

abbrev IsPointInRange : WholePoint → Type 0
IsPointInRange p = InRange p.x × InRange p.y

-- a ring with a point, all of them in range
abbrev IsRingWritable : List WholePoint → Type 0
IsRingWritable ring = (0 < length ring) × All IsPointInRange ring

map_twice : {A B C : Type 0} (f : B → C) (g : A → B) (xs : List A) → map f (map g xs) ≡ map (λ x. f (g x)) xs
map_twice f g [] = refl
map_twice f g (x ∷ xs) = ap (λ ys. f (g x) ∷ ys) (map_twice f g xs)

lexed_ring : (ring : List WholePoint) → IsRingWritable ring → IsLexedAs (ring_text ring) (polygon_kinds (written_polygon ring))
lexed_ring [] h rest after stop e = absurd (omega (arith, h.0))
lexed_ring (p ∷ ps) h rest after stop e =
    let points = comma_listed (map wkt_point (p ∷ ps)) in
    let inner : Lexed (points ++ (41 ∷ 41 ∷ rest)) (parted (map (λ q. point_kinds (written_point q)) (p ∷ ps)) ++ (close_bracket ∷ close_bracket ∷ after)) =
    lexed_list wkt_point (λ q. point_kinds (written_point q)) IsPointInRange lexed_point p ps h.1 (41 ∷ 41 ∷ rest) (close_bracket ∷ close_bracket ∷ after) refl
    (lexed_close (41 ∷ rest) (close_bracket ∷ after) (lexed_close rest after e)) in
    let kinds : List Kind = parted (map point_kinds (written_ring (p ∷ ps))) in
    let same : parted (map (λ q. point_kinds (written_point q)) (p ∷ ps)) ++ (close_bracket ∷ close_bracket ∷ after) ≡ ((kinds ++ close_bracket ∷ []) ++ close_bracket ∷ []) ++ after =
    ap (λ ks. parted ks ++ (close_bracket ∷ close_bracket ∷ after)) (sym (map_twice point_kinds written_point (p ∷ ps)))
    ∙ sym (append_assoc (kinds ++ close_bracket ∷ []) (close_bracket ∷ []) after ∙ append_assoc kinds (close_bracket ∷ []) (close_bracket ∷ after)) in
    let within : Lexed ((points ++ 41 ∷ 41 ∷ []) ++ rest) (((kinds ++ close_bracket ∷ []) ++ close_bracket ∷ []) ++ after) =
    subst (λ bytes. Lexed bytes (((kinds ++ close_bracket ∷ []) ++ close_bracket ∷ []) ++ after)) (sym (append_assoc points (41 ∷ 41 ∷ []) rest))
    (subst (Lexed (points ++ (41 ∷ 41 ∷ rest))) same inner) in
    lexed_open _ _ (lexed_open _ _ within)

-- after MULTIPOLYGON and a space
lexed_multi : (rest : List ℕ) (kinds : List Kind) → Lexed rest kinds → Lexed (codes "MULTIPOLYGON " ++ rest) (word (codes "MULTIPOLYGON") ∷ kinds)
lexed_multi rest kinds after = lexed_word (codes "MULTIPOLYGON") (32 ∷ rest) kinds refl (lit< tt) refl refl (lexed_space rest kinds after)

lexed_layer : (layer : List (List WholePoint)) → All IsRingWritable layer → Lexed (wkt_text layer) (text_kinds (written_text layer))
lexed_layer [] h = lexed_multi (codes "EMPTY") (word (codes "EMPTY") ∷ []) (lexed_word (codes "EMPTY") [] [] refl (lit< tt) refl refl lexed_nothing)
lexed_layer (ring ∷ layer) h =
    let members : Lexed (comma_listed (map ring_text (ring ∷ layer)) ++ (41 ∷ [])) (parted (map (λ r. polygon_kinds (written_polygon r)) (ring ∷ layer)) ++ close_bracket ∷ []) =
    lexed_list ring_text (λ r. polygon_kinds (written_polygon r)) IsRingWritable lexed_ring ring layer h (41 ∷ []) (close_bracket ∷ []) refl (lexed_close [] [] lexed_nothing) in
    let same : parted (map (λ r. polygon_kinds (written_polygon r)) (ring ∷ layer)) ≡ parted (map polygon_kinds (map written_polygon (ring ∷ layer))) =
    ap parted (sym (map_twice polygon_kinds written_polygon (ring ∷ layer))) in
    lexed_multi (40 ∷ (comma_listed (map ring_text (ring ∷ layer)) ++ (41 ∷ []))) (bracketed (map polygon_kinds (map written_polygon (ring ∷ layer))))
    (lexed_open _ _ (subst (λ ks. Lexed (comma_listed (map ring_text (ring ∷ layer)) ++ (41 ∷ [])) (ks ++ close_bracket ∷ [])) same members))

-- ==== A written text is right, and spells its layer

points_right : (points : List WholePoint) → All IsPointInRange points → list_all is_point_right (written_ring points) ≡ true
points_right [] h = refl
points_right (p ∷ ps) h =
    let here = All-head IsPointInRange p ps h in
    and_from _ _ (and_from _ _ (written p.x here.0).number (written p.y here.1).number) (points_right ps (All-tail IsPointInRange p ps h))

polygon_is_right : (ring : List WholePoint) → IsRingWritable ring → is_polygon_right (written_polygon ring) ≡ true
polygon_is_right [] h = absurd (omega (arith, h.0))
polygon_is_right (p ∷ ps) h = and_from _ _ (points_right (p ∷ ps) h.1) refl

polygons_right : (layer : List (List WholePoint)) → All IsRingWritable layer → list_all is_polygon_right (map written_polygon layer) ≡ true
polygons_right [] h = refl
polygons_right (ring ∷ layer) h =
    and_from _ _ (polygon_is_right ring (All-head IsRingWritable ring layer h)) (polygons_right layer (All-tail IsRingWritable ring layer h))

text_right : (layer : List (List WholePoint)) → All IsRingWritable layer → is_text_right (written_text layer) ≡ true
text_right [] h = refl
text_right (ring ∷ layer) h = polygons_right (ring ∷ layer) h

point_again : (p : WholePoint) → IsPointInRange p → point_of (written_point p) ≡ p
point_again p h =
    ap (λ x. record { x = x; y = number_value (signed_decimal p.y) }) (written p.x h.0).value ∙ ap (λ y. record { x = p.x; y = y }) (written p.y h.1).value

points_again : (points : List WholePoint) → All IsPointInRange points → map point_of (written_ring points) ≡ points
points_again [] h = refl
points_again (p ∷ ps) h =
    ap (λ q. q ∷ map point_of (written_ring ps)) (point_again p (All-head IsPointInRange p ps h)) ∙ ap (λ qs. p ∷ qs) (points_again ps (All-tail IsPointInRange p ps h))

layer_again : (layer : List (List WholePoint)) → All IsRingWritable layer → flat_map polygon_rings (map written_polygon layer) ≡ layer
layer_again [] h = refl
layer_again (ring ∷ layer) h =
    ap (λ r. r ∷ flat_map polygon_rings (map written_polygon layer)) (points_again ring (All-head IsRingWritable ring layer h).1)
    ∙ ap (λ rs. ring ∷ rs) (layer_again layer (All-tail IsRingWritable ring layer h))

text_again : (layer : List (List WholePoint)) → All IsRingWritable layer → layer ≡ text_rings (written_text layer)
text_again [] h = refl
text_again (ring ∷ layer) h = sym (layer_again (ring ∷ layer) h)

-- ==== Rings without a fault have points

has_point : (at : ℕ) (ring : List WholePoint) → ring_fault at ring ≡ None → 0 < length ring
has_point at [] e = absurd (cc)
has_point at (p ∷ ps) e = omega arith

all_writable : (at : ℕ) (layer : List (List WholePoint)) → first_ring_fault at layer ≡ None → AreInRange layer → All IsRingWritable layer
all_writable at [] e h = All-nil IsRingWritable
all_writable at (ring ∷ layer) e h =
    let parts = both_absent (ring_fault at ring) (first_ring_fault (at + 1) layer) e in
    All-cons IsRingWritable ring layer (has_point at ring parts.first, All-head (All IsPointInRange) ring layer h) (all_writable (at + 1) layer parts.second (All-tail (All IsPointInRange) ring layer h))

pub reads_back : WrittenReadsBack
reads_back layer h none =
    let writable = all_writable 0 layer (both_absent (first_ring_fault 0 layer) _ none).first h in
    let lexed = lexed_layer layer writable in (
      (written_text layer, record { right = text_right layer writable; spelled = lexed.spelled 0 }, lexed.good 0, text_again layer writable),
      none,
    )
