-- What the reader keeps is what has been written so far, and it stops where a token cannot stand or is no coordinate.
use Rattle.std.proofs.Common.{◌≡◌, ℕ, ℤ, ◌⊎◌, inl, inr, Bool, true, false, List, [], ◌∷◌, ◌++◌, map, refl, sym, ap, ◌∙◌, Option, Some, None, IfSome, Result, Ok, Err, append_assoc, cond, codes, subst}
use Rattle.std.specs.List.{All, flat_map}
use Rattle.std.specs.Str.{bytes_eq, str_to_ascii_uppercase}
use Rattle.std.specs.Prelude.{option_and_then}
use Rattle.std.proofs.lemmas.Bool.{cond_both}
use Rattle.std.proofs.lemmas.List.{map-append, append-nil}
use Rattle.std.proofs.lemmas.List.Concat.{flat_map-append}
use Rattle.std.proofs.lemmas.List.Elements.{All-nil, All-cons}
use Rattle.overlay_terms.specs.Plane.{WholePoint, is_coordinate}
use Rattle.wkt_form.specs.declared.fault.WktFault.{WktFault}
use Rattle.wkt_form.specs.declared.fault.WktFault.TheVariants as faults
use Rattle.wkt_form.specs.declared.number.Number.TheVariants.{Whole, Fraction, OutOfRange}
use Rattle.wkt_form.specs.declared.state.State.{State}
use Rattle.wkt_form.specs.declared.state.State.TheVariants as states
use Rattle.wkt_form.specs.declared.token.Symbol.{Symbol}
use Rattle.wkt_form.specs.declared.token.Symbol.TheVariants as symbols
use Rattle.wkt_form.specs.Number.{is_number, is_whole, number_value}
use Rattle.wkt_form.specs.Token.{Kind, word, run, open_bracket, close_bracket, comma, stray, Token}
use Rattle.wkt_form.specs.Symbol.{number_worth, word_symbol, symbol_of}
use Rattle.wkt_form.specs.Seen.{seen_token}
use Rattle.wkt_form.specs.Reading.{Reading, ◌>>=◌, with_token, with_tokens}
use Rattle.wkt_form.specs.Grammar.{WrittenPoint, WrittenPolygon, empty, rings, WrittenText, polygon, no_polygons, polygons, point_of, polygon_rings, text_rings, in_upper_case, kinds_of, number_fault}
use Rattle.wkt_form.proofs.Progress.{Means, means, run_bytes, Frame, one, several, Progress, nothing, members, polygon_due, ring_due, first_due, second_due, point_end, ring_end, polygon_end, whole, with_kind, advance, walk}

-- ==== What the reader keeps of what is written

abbrev pub frame_rings : Frame → List (List WholePoint)
frame_rings one = []
frame_rings (several ps) = flat_map polygon_rings ps

abbrev pub is_several : Frame → Bool
is_several one = false
is_several (several ps) = true

abbrev ring_points : List WrittenPoint → List WholePoint
ring_points ps = map point_of ps

abbrev rings_so_far : Frame → List (List WrittenPoint) → List (List WholePoint)
rings_so_far f rs = frame_rings f ++ map (map point_of) rs

-- a text of one polygon is no text of several
abbrev is_text_several : WrittenText → Bool
is_text_several (polygon p) = false
is_text_several no_polygons = true
is_text_several (polygons ps) = true

-- the reading of a progress, with the first number of a point
abbrev pub reading_of : Progress → ℤ → Reading
reading_of nothing z = record { state = states.Start; several = false; first = z; points = []; rings = [] }
reading_of members z = record { state = states.Members; several = true; first = z; points = []; rings = [] }
reading_of (polygon_due f) z = record { state = states.Polygon; several = is_several f; first = z; points = []; rings = frame_rings f }
reading_of (ring_due f rs) z = record { state = states.Ring; several = is_several f; first = z; points = []; rings = rings_so_far f rs }
reading_of (first_due f rs ps) z = record { state = states.First; several = is_several f; first = z; points = ring_points ps; rings = rings_so_far f rs }
reading_of (second_due f rs ps x) z = record { state = states.Second; several = is_several f; first = z; points = ring_points ps; rings = rings_so_far f rs }
reading_of (point_end f rs ps p) z = record { state = states.PointEnd; several = is_several f; first = z; points = ring_points (ps ++ p ∷ []); rings = rings_so_far f rs }
reading_of (ring_end f rs r) z = record { state = states.RingEnd; several = is_several f; first = z; points = []; rings = rings_so_far f (rs ++ r ∷ []) }
reading_of (polygon_end ps p) z = record { state = states.PolygonEnd; several = true; first = z; points = []; rings = flat_map polygon_rings (ps ++ p ∷ []) }
reading_of (whole text) z = record { state = states.End; several = is_text_several text; first = z; points = []; rings = text_rings text }

-- after the first number of a point its value is kept
abbrev pub IsFirst : Progress → ℤ → Type 0
IsFirst (second_due f rs ps x) z = z ≡ number_value x
IsFirst at z = Unit {0}

-- ==== One token

-- what is wrong with a symbol as a number
abbrev symbol_fault : ℕ → Symbol → Option WktFault
symbol_fault at (symbols.Number (Whole z)) = None
symbol_fault at (symbols.Number Fraction) = Some (faults.NotWhole at)
symbol_fault at (symbols.Number OutOfRange) = Some (faults.CoordRange at)
symbol_fault at symbol = None

-- the reader answers the first fault of a token, or goes on with the next progress
abbrev Answers : ℕ → Option Progress → Option WktFault → Result Reading WktFault → Type 0
Answers offset None fault result = result ≡ Err (faults.Syntax offset)
Answers offset (Some next) (Some fault) result = result ≡ Err fault
Answers offset (Some next) None result = (z : ℤ) × IsFirst next z × (result ≡ Ok (reading_of next z))

worth_whole : (bs : List ℕ) (z : ℤ) → Whole z ≡ number_worth bs → z ≡ number_value bs
worth_whole bs z =
    cond_both (is_whole bs) _ _ (λ n. Whole z ≡ n → z ≡ number_value bs)
    (λ _. cond_both (is_coordinate (number_value bs)) _ _ (λ n. Whole z ≡ n → z ≡ number_value bs) (λ _ e. cc) (λ _ e. cc))
    (λ _ e. cc)

polygon_rings_push : (ps : List WrittenPolygon) (p : WrittenPolygon) → flat_map polygon_rings ps ++ polygon_rings p ≡ flat_map polygon_rings (ps ++ p ∷ [])
polygon_rings_push ps p =
    ap (λ rs. flat_map polygon_rings ps ++ rs) (sym (append-nil (polygon_rings p))) ∙ sym (flat_map-append polygon_rings ps (p ∷ []))

points_push : (ps : List WrittenPoint) (x y : List ℕ) (z w : ℤ) → z ≡ number_value x → w ≡ number_value y → ring_points ps ++ record { x = z; y = w } ∷ [] ≡ ring_points (ps ++ record { x = x; y = y } ∷ [])
points_push ps x y z w ez ew =
    ap (λ v. ring_points ps ++ record { x = v; y = w } ∷ []) ez
    ∙ ap (λ v. ring_points ps ++ record { x = number_value x; y = v } ∷ []) ew
    ∙ sym (map-append point_of ps (record { x = x; y = y } ∷ []))

rings_push : (f : Frame) (rs : List (List WrittenPoint)) (r : List WrittenPoint) → rings_so_far f rs ++ ring_points r ∷ [] ≡ rings_so_far f (rs ++ r ∷ [])
rings_push f rs r =
    append_assoc (frame_rings f) (map (map point_of) rs) (ring_points r ∷ []) ∙ ap (λ all. frame_rings f ++ all) (sym (map-append (map point_of) rs (r ∷ [])))

-- a reading by its parts
abbrev with_rings : State → Bool → ℤ → List WholePoint → List (List WholePoint) → Result Reading WktFault
with_rings state b z ps rs = Ok (record { state = state; several = b; first = z; points = ps; rings = rs })

one_token : (at : Progress) (z : ℤ) (symbol : Symbol) (kind : Kind) (offset : ℕ) → Means symbol kind → IsFirst at z → Answers offset (with_kind at symbol (run_bytes kind)) (symbol_fault offset symbol) (with_token (reading_of at z) (record { at = offset; symbol = symbol }))
one_token nothing z symbols.Polygon kind offset e i = (z, tt, refl)
one_token nothing z symbols.MultiPolygon kind offset e i = (z, tt, refl)
one_token members z symbols.Empty kind offset e i = (z, tt, refl)
one_token members z symbols.Open kind offset e i = (z, tt, refl)
one_token (polygon_due one) z symbols.Empty kind offset e i = (z, tt, refl)
one_token (polygon_due (several ps)) z symbols.Empty kind offset e i =
    (z, tt, ap (with_rings states.PolygonEnd true z []) (sym (append-nil (flat_map polygon_rings ps)) ∙ polygon_rings_push ps empty))
one_token (polygon_due one) z symbols.Open kind offset e i = (z, tt, refl)
one_token (polygon_due (several ps)) z symbols.Open kind offset e i =
    (z, tt, ap (with_rings states.Ring true z []) (sym (append-nil (flat_map polygon_rings ps))))
one_token (ring_due f rs) z symbols.Open kind offset e i = (z, tt, refl)
one_token (first_due f rs ps) z (symbols.Number (Whole w)) kind offset e i = (w, worth_whole (run_bytes kind) w e.2, refl)
one_token (first_due f rs ps) z (symbols.Number Fraction) kind offset e i = refl
one_token (first_due f rs ps) z (symbols.Number OutOfRange) kind offset e i = refl
one_token (second_due f rs ps x) z (symbols.Number (Whole w)) kind offset e i =
    (z, tt, ap (λ all. with_rings states.PointEnd (is_several f) z all (rings_so_far f rs)) (points_push ps x (run_bytes kind) z w i (worth_whole (run_bytes kind) w e.2)))
one_token (second_due f rs ps x) z (symbols.Number Fraction) kind offset e i = refl
one_token (second_due f rs ps x) z (symbols.Number OutOfRange) kind offset e i = refl
one_token (point_end f rs ps p) z symbols.Comma kind offset e i = (z, tt, refl)
one_token (point_end f rs ps p) z symbols.Close kind offset e i =
    (z, tt, ap (with_rings states.RingEnd (is_several f) z []) (rings_push f rs (ps ++ p ∷ [])))
one_token (ring_end f rs r) z symbols.Comma kind offset e i = (z, tt, refl)
one_token (ring_end one rs r) z symbols.Close kind offset e i = (z, tt, refl)
one_token (ring_end (several ps) rs r) z symbols.Close kind offset e i =
    (z, tt, ap (with_rings states.PolygonEnd true z []) (polygon_rings_push ps (rings (rs ++ r ∷ []))))
one_token (polygon_end ps p) z symbols.Comma kind offset e i = (z, tt, refl)
one_token (polygon_end ps p) z symbols.Close kind offset e i = (z, tt, refl)
one_token at z (symbols.Number (Whole w)) kind offset e i = refl
one_token at z (symbols.Number Fraction) kind offset e i = refl
one_token at z (symbols.Number OutOfRange) kind offset e i = refl
one_token at z symbol kind offset e i = refl

unknown_stops : (at : Progress) (bs : List ℕ) → with_kind at symbols.Unknown bs ≡ None
unknown_stops nothing bs = refl
unknown_stops at bs = refl

worth_fault : (offset : ℕ) (bs : List ℕ) (a b : Bool) (z : ℤ) → symbol_fault offset (symbols.Number (cond a (cond b (Whole z) OutOfRange) Fraction)) ≡ cond a (cond b None (Some (faults.CoordRange offset))) (Some (faults.NotWhole offset))
worth_fault offset bs true true z = refl
worth_fault offset bs true false z = refl
worth_fault offset bs false b z = refl

word_fault : (offset : ℕ) (bs : List ℕ) → symbol_fault offset (word_symbol bs) ≡ None
word_fault offset bs =
    cond_both (bytes_eq bs (codes "POLYGON")) _ _ (λ s. symbol_fault offset s ≡ None) (λ _. refl)
    (λ _. cond_both (bytes_eq bs (codes "MULTIPOLYGON")) _ _ (λ s. symbol_fault offset s ≡ None) (λ _. refl)
    (λ _. cond_both (bytes_eq bs (codes "EMPTY")) _ _ (λ s. symbol_fault offset s ≡ None) (λ _. refl) (λ _. refl)))

-- what is wrong with a token as a number, where it can stand
same_fault : (at : Progress) (offset : ℕ) (kind : Kind) → IfSome (advance at (in_upper_case kind)) (λ _. symbol_fault offset (symbol_of (in_upper_case kind)) ≡ number_fault (record { at = offset; kind = kind }))
same_fault at offset (word bs) = everywhere (advance at (in_upper_case (word bs))) (word_fault offset (str_to_ascii_uppercase bs)) where
  everywhere : (o : Option Progress) → symbol_fault offset (word_symbol (str_to_ascii_uppercase bs)) ≡ None → IfSome o (λ _. symbol_fault offset (word_symbol (str_to_ascii_uppercase bs)) ≡ None)
  everywhere None e = tt
  everywhere (Some next) e = e
same_fault at offset (run bs) =
    cond_both (is_number bs) _ _ (λ s. IfSome (with_kind at s bs) (λ _. symbol_fault offset s ≡ number_fault (record { at = offset; kind = run bs })))
    (λ _. everywhere (with_kind at (symbols.Number (number_worth bs)) bs) (worth_fault offset bs (is_whole bs) (is_coordinate (number_value bs)) (number_value bs)))
    (λ _. rw (unknown_stops at bs) tt) where
      everywhere : (o : Option Progress) → symbol_fault offset (symbols.Number (number_worth bs)) ≡ number_fault (record { at = offset; kind = run bs }) → IfSome o (λ _. symbol_fault offset (symbols.Number (number_worth bs)) ≡ number_fault (record { at = offset; kind = run bs }))
      everywhere None e = tt
      everywhere (Some next) e = e
same_fault at offset open_bracket = everywhere (advance at open_bracket) where
  everywhere : (o : Option Progress) → IfSome o (λ _. ◌≡◌ {A = Option WktFault} None None)
  everywhere None = tt
  everywhere (Some next) = refl
same_fault at offset close_bracket = everywhere (advance at close_bracket) where
  everywhere : (o : Option Progress) → IfSome o (λ _. ◌≡◌ {A = Option WktFault} None None)
  everywhere None = tt
  everywhere (Some next) = refl
same_fault at offset comma = everywhere (advance at comma) where
  everywhere : (o : Option Progress) → IfSome o (λ _. ◌≡◌ {A = Option WktFault} None None)
  everywhere None = tt
  everywhere (Some next) = refl
same_fault at offset stray = rw (unknown_stops at []) tt

-- the answer to a token
token_answers : (at : Progress) (z : ℤ) (t : Token) → IsFirst at z → Answers t.at (advance at (in_upper_case t.kind)) (number_fault t) (with_token (reading_of at z) (seen_token t))
token_answers at z t i =
    change (advance at (in_upper_case t.kind)) _ _ _ (one_token at z (symbol_of (in_upper_case t.kind)) (in_upper_case t.kind) t.at (means (in_upper_case t.kind)) i) (same_fault at t.at t.kind) where
      change : (o : Option Progress) (f g : Option WktFault) (r : Result Reading WktFault) → Answers t.at o f r → IfSome o (λ _. f ≡ g) → Answers t.at o g r
      change None f g r a e = a
      change (Some next) f g r a e = subst (λ h. Answers t.at (Some next) h r) e a

-- ==== All tokens

-- the reader stops at a token: it cannot stand after those before it, or it is no coordinate
pub record Stops (at : Progress) (tokens : List Token) (fault : WktFault) : Type 0 where
  pub front : List Token
  pub token : Token
  pub back : List Token
  pub next : Progress
  pub split : tokens ≡ front ++ token ∷ back
  pub read : walk at (kinds_of front) ≡ Some next
  pub good : All (λ t. number_fault t ≡ None) front
  pub wrong : ((advance next (in_upper_case token.kind) ≡ None) × (fault ≡ faults.Syntax token.at)) ⊎ ((last : Progress) × (advance next (in_upper_case token.kind) ≡ Some last) × (number_fault token ≡ Some fault))

-- the reader goes to the end of the tokens
pub record Ends (at : Progress) (tokens : List Token) (reading : Reading) : Type 0 where
  pub last : Progress
  pub first : ℤ
  pub read : walk at (kinds_of tokens) ≡ Some last
  pub good : All (λ t. number_fault t ≡ None) tokens
  pub is : reading ≡ reading_of last first

abbrev pub Outcome : Progress → List Token → Result Reading WktFault → Type 0
Outcome at tokens (Ok reading) = Ends at tokens reading
Outcome at tokens (Err fault) = Stops at tokens fault

walk_one : (at next : Progress) (kind : Kind) (kinds : List Kind) → advance at kind ≡ Some next → walk at (kind ∷ kinds) ≡ walk next kinds
walk_one at next kind kinds e = ap (option_and_then (λ n. walk n kinds)) e

-- an outcome after one more token
one_before : (at next : Progress) (t : Token) (ts : List Token) (r : Result Reading WktFault) → advance at (in_upper_case t.kind) ≡ Some next → number_fault t ≡ None → Outcome next ts r → Outcome at (t ∷ ts) r
one_before at next t ts (Ok reading) e g end =
    record {
      last = end.last;
      first = end.first;
      read = walk_one at next (in_upper_case t.kind) (kinds_of ts) e ∙ end.read;
      good = All-cons (λ u. number_fault u ≡ None) t ts g end.good;
      is = end.is;
    }
one_before at next t ts (Err fault) e g stop =
    record {
      front = t ∷ stop.front;
      token = stop.token;
      back = stop.back;
      next = stop.next;
      split = ap (λ us. t ∷ us) stop.split;
      read = walk_one at next (in_upper_case t.kind) (kinds_of stop.front) e ∙ stop.read;
      good = All-cons (λ u. number_fault u ≡ None) t stop.front g stop.good;
      wrong = stop.wrong;
    }

pub tokens_outcome : (at : Progress) (z : ℤ) (tokens : List Token) → IsFirst at z → Outcome at tokens (with_tokens (reading_of at z) (map seen_token tokens))
tokens_outcome at z [] i = record { last = at; first = z; read = refl; good = All-nil (λ u. number_fault u ≡ None); is = refl }
tokens_outcome at z (t ∷ ts) i =
    by_answer (advance at (in_upper_case t.kind)) refl (number_fault t) refl (with_token (reading_of at z) (seen_token t)) (token_answers at z t i) (λ next w j. tokens_outcome next w ts j) where
      by_answer : (o : Option Progress) → advance at (in_upper_case t.kind) ≡ o → (f : Option WktFault) → number_fault t ≡ f → (r : Result Reading WktFault) → Answers t.at o f r
          → ((next : Progress) (w : ℤ) → IsFirst next w → Outcome next ts (with_tokens (reading_of next w) (map seen_token ts)))
          → Outcome at (t ∷ ts) (r >>= λ more. with_tokens more (map seen_token ts))
      by_answer None e f g r a rest =
          subst (λ s. Outcome at (t ∷ ts) (s >>= λ more. with_tokens more (map seen_token ts))) (sym a)
          (record { front = []; token = t; back = ts; next = at; split = refl; read = refl; good = All-nil (λ u. number_fault u ≡ None); wrong = inl (e, refl) })
      by_answer (Some next) e (Some fault) g r a rest =
          subst (λ s. Outcome at (t ∷ ts) (s >>= λ more. with_tokens more (map seen_token ts))) (sym a)
          (record { front = []; token = t; back = ts; next = at; split = refl; read = refl; good = All-nil (λ u. number_fault u ≡ None); wrong = inr (next, e, g) })
      by_answer (Some next) e None g r a rest =
          subst (λ s. Outcome at (t ∷ ts) (s >>= λ more. with_tokens more (map seen_token ts))) (sym a.2)
          (one_before at next t ts (with_tokens (reading_of next a.0) (map seen_token ts)) e g (rest next a.0 a.1))
