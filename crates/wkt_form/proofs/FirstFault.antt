-- What the reader answers is what the grammar says: the rings of a text, or the first fault.
use Rattle.std.proofs.Common.{◌≡◌, ℕ, ◌+◌, ℤ, pos, ◌⊎◌, inl, inr, List, [], ◌∷◌, ◌++◌, map, length, take, refl, sym, ap, ◌∙◌, Option, Some, None, IfSome, Ok, Err, append_assoc, subst, arith}
use Rattle.std.specs.List.{All, slice_get}
use Rattle.std.specs.Prelude.{option_and_then}
use Rattle.std.proofs.lemmas.List.{map-append, take_all, take_at, length-append}
use Rattle.std.proofs.lemmas.Option.{slice_get_past}
use Rattle.wkt_form.specs.declared.fault.WktFault.{WktFault}
use Rattle.wkt_form.specs.declared.fault.WktFault.TheVariants as faults
use Rattle.wkt_form.specs.declared.state.State.TheVariants as states
use Rattle.wkt_form.specs.Token.{Kind, Token, tokens_of}
use Rattle.wkt_form.specs.Seen.{seen_from}
use Rattle.wkt_form.specs.Reading.{Reading, with_tokens, nothing_read}
use Rattle.wkt_form.specs.Grammar.{WrittenText, in_upper_case, kinds_of, Spells, IsText, IsBegun, number_fault, IsFaultAt, IsFirstFault, IsWktOf}
use Rattle.wkt_form.proofs.Progress.{Progress, nothing, members, polygon_due, ring_due, first_due, second_due, point_end, ring_end, polygon_end, whole, advance, walk, Reached, reached}
use Rattle.wkt_form.proofs.Completion.{can_end, walk_text, walk-append}
use Rattle.wkt_form.proofs.Simulation.{reading_of, Stops, Ends, Outcome, tokens_outcome}

-- ==== Walks and texts

at_some : {A : Type 0} (o : Option A) (P : A → Type 0) (a : A) → o ≡ Some a → IfSome o P → P a
at_some o P a e h = subst (λ x. IfSome x P) e h

kinds_of-append : (xs ys : List Token) → kinds_of (xs ++ ys) ≡ kinds_of xs ++ kinds_of ys
kinds_of-append xs ys = map-append (λ (t : Token). in_upper_case t.kind) xs ys

-- tokens of these kinds
abbrev tokens_like : List Kind → List Token
tokens_like kinds = map (λ k. record { at = 0; kind = k }) kinds

kinds_of-tokens_like : (kinds : List Kind) → kinds_of (tokens_like kinds) ≡ map in_upper_case kinds
kinds_of-tokens_like [] = refl
kinds_of-tokens_like (k ∷ ks) = ap (λ all. in_upper_case k ∷ all) (kinds_of-tokens_like ks)

pub text_walks : (tokens : List Token) (text : WrittenText) → Spells tokens text → walk nothing (kinds_of tokens) ≡ Some (whole text)
text_walks tokens text spells = ap (walk nothing) spells.spelled ∙ walk_text text spells.right

-- a walk that comes somewhere has read what begins a text
pub begun_from_walk : (tokens : List Token) (next : Progress) → walk nothing (kinds_of tokens) ≡ Some next → IsBegun tokens
begun_from_walk tokens next e =
    let there = at_some (walk nothing (kinds_of tokens)) (Reached nothing (kinds_of tokens)) next e (reached nothing (kinds_of tokens) tt) in
    let end = can_end next there.1 in (
      tokens_like end.more,
      (
        end.text,
        record {
          right = end.right;
          spelled =
              kinds_of-append tokens (tokens_like end.more)
              ∙ ap (λ ks. kinds_of tokens ++ ks) (kinds_of-tokens_like end.more ∙ end.upper)
              ∙ ap (λ ks. ks ++ end.more) (sym there.0)
              ∙ end.spelled;
        },
      ),
    )

-- a walk that comes nowhere has not
pub not_begun_from_walk : (tokens : List Token) → walk nothing (kinds_of tokens) ≡ None → ¬ (IsBegun tokens)
not_begun_from_walk tokens e begun =
    let all = text_walks (tokens ++ begun.0) begun.1.0 begun.1.1 in
    let split = ap (walk nothing) (kinds_of-append tokens begun.0) ∙ walk-append nothing (kinds_of tokens) (kinds_of begun.0) ∙ ap (option_and_then (λ next. walk next (kinds_of begun.0))) e in
    let nowhere : ◌≡◌ {A = Option Progress} None (Some (whole begun.1.0)) = sym split ∙ all in
    cc

whole_at_end : (at : Progress) (z : ℤ) → (reading_of at z).state ≡ states.End → (text : WrittenText) × (at ≡ whole text)
whole_at_end (whole text) z e = (text, refl)
whole_at_end nothing z e = absurd (cc)
whole_at_end members z e = absurd (cc)
whole_at_end (polygon_due f) z e = absurd (cc)
whole_at_end (ring_due f rs) z e = absurd (cc)
whole_at_end (first_due f rs ps) z e = absurd (cc)
whole_at_end (second_due f rs ps x) z e = absurd (cc)
whole_at_end (point_end f rs ps p) z e = absurd (cc)
whole_at_end (ring_end f rs r) z e = absurd (cc)
whole_at_end (polygon_end ps p) z e = absurd (cc)

-- ==== What the reader answers

-- a reading that ends is that of a text
pub wkt_from_end : (bytes : List ℕ) (r : Reading) → with_tokens nothing_read (seen_from 0 bytes) ≡ Ok r → r.state ≡ states.End → IsWktOf bytes r.rings
wkt_from_end bytes r e at_end =
    let end : Ends nothing (tokens_of bytes) r = subst (Outcome nothing (tokens_of bytes)) e (tokens_outcome nothing (pos 0) (tokens_of bytes) tt) in
    let found = whole_at_end end.last end.first (sym (ap (λ (s : Reading). s.state) end.is) ∙ at_end) in
    let there = at_some (walk nothing (kinds_of (tokens_of bytes))) (Reached nothing (kinds_of (tokens_of bytes))) (whole found.0) (end.read ∙ ap Some found.1) (reached nothing (kinds_of (tokens_of bytes)) tt) in (
      found.0,
      record { right = there.1; spelled = sym there.0 },
      end.good,
      ap (λ (s : Reading). s.rings) (end.is ∙ ap (λ at. reading_of at end.first) found.1),
    )

-- a reading that goes to the end of the tokens, and does not end, has the fault that the text is not whole
pub fault_from_unfinished : (bytes : List ℕ) (r : Reading) → with_tokens nothing_read (seen_from 0 bytes) ≡ Ok r → ¬ (r.state ≡ states.End) → IsFirstFault bytes (faults.Syntax (length bytes))
fault_from_unfinished bytes r e unfinished =
    let tokens = tokens_of bytes in
    let end : Ends nothing tokens r = subst (Outcome nothing tokens) e (tokens_outcome nothing (pos 0) tokens tt) in
    let all : take (length tokens) tokens ≡ tokens = take_all (length tokens) tokens (omega arith) in
    let no_text : ¬ (IsText tokens) = λ spelled.
    let last_whole : end.last ≡ whole spelled.0 = same_some (sym end.read ∙ text_walks tokens spelled.0 spelled.1) in
    unfinished (ap (λ (s : Reading). s.state) (end.is ∙ ap (λ at. reading_of at end.first) last_whole)) in (
      length tokens,
      record {
        begun = subst IsBegun (sym all) (begun_from_walk tokens end.last end.read);
        numbers = subst (All (λ t. number_fault t ≡ None)) (sym all) end.good;
      },
      subst (λ o. IsFaultAt bytes (length tokens) o (faults.Syntax (length bytes))) (sym (slice_get_past tokens (length tokens) (omega arith))) (no_text, refl),
    ) where
      same_some : {a b : Progress} → Some a ≡ Some b → a ≡ b
      same_some e = cc

slice_get_at : {A : Type 0} (xs : List A) (x : A) (ys : List A) → slice_get (xs ++ x ∷ ys) (length xs) ≡ Some x
slice_get_at [] x ys = refl
slice_get_at (y ∷ xs) x ys = slice_get_at xs x ys

take_past : {A : Type 0} (xs : List A) (x : A) (ys : List A) → take (length xs + 1) (xs ++ x ∷ ys) ≡ xs ++ x ∷ []
take_past xs x ys = ap (take (length xs + 1)) (sym (append_assoc xs (x ∷ []) ys)) ∙ take_at (xs ++ x ∷ []) ys (length xs + 1) (length-append xs (x ∷ []))

walk_past : (front : List Token) (t : Token) (next : Progress) → walk nothing (kinds_of front) ≡ Some next → walk nothing (kinds_of (front ++ t ∷ [])) ≡ option_and_then (λ last. Some last) (advance next (in_upper_case t.kind))
walk_past front t next e =
    ap (walk nothing) (kinds_of-append front (t ∷ []))
    ∙ walk-append nothing (kinds_of front) (in_upper_case t.kind ∷ [])
    ∙ ap (option_and_then (λ n. walk n (in_upper_case t.kind ∷ []))) e

-- where the reader stops is the first fault
pub fault_from_stop : (bytes : List ℕ) (fault : WktFault) → with_tokens nothing_read (seen_from 0 bytes) ≡ Err fault → IsFirstFault bytes fault
fault_from_stop bytes fault e =
    let tokens = tokens_of bytes in
    let stop : Stops nothing tokens fault = subst (Outcome nothing tokens) e (tokens_outcome nothing (pos 0) tokens tt) in
    let i = length stop.front in
    let before : take i tokens ≡ stop.front = ap (take i) stop.split ∙ take_at stop.front (stop.token ∷ stop.back) i refl in
    let past : take (i + 1) tokens ≡ stop.front ++ stop.token ∷ [] = ap (take (i + 1)) stop.split ∙ take_past stop.front stop.token stop.back in
    let here : slice_get tokens i ≡ Some stop.token = ap (λ ts. slice_get ts i) stop.split ∙ slice_get_at stop.front stop.token stop.back in
    let walked = ap (λ ts. walk nothing (kinds_of ts)) past ∙ walk_past stop.front stop.token stop.next stop.read in (
      i,
      record {
        begun = subst IsBegun (sym before) (begun_from_walk stop.front stop.next stop.read);
        numbers = subst (All (λ t. number_fault t ≡ None)) (sym before) stop.good;
      },
      subst (λ o. IsFaultAt bytes i o fault) (sym here) (at_token (take (i + 1) tokens) stop.next stop.token stop.wrong walked),
    ) where
      at_token : (ts : List Token) (next : Progress) (t : Token) → ((advance next (in_upper_case t.kind) ≡ None) × (fault ≡ faults.Syntax t.at)) ⊎ ((last : Progress) × (advance next (in_upper_case t.kind) ≡ Some last) × (number_fault t ≡ Some fault))
          → walk nothing (kinds_of ts) ≡ option_and_then (λ last. Some last) (advance next (in_upper_case t.kind))
          → ((¬ (IsBegun ts)) × (fault ≡ faults.Syntax t.at)) ⊎ (IsBegun ts × (number_fault t ≡ Some fault))
      at_token ts next t (inl stuck) w = inl (not_begun_from_walk ts (w ∙ ap (option_and_then (λ last. Some last)) stuck.0), stuck.1)
      at_token ts next t (inr goes) w = inr (begun_from_walk ts goes.0 (w ∙ ap (option_and_then (λ last. Some last)) goes.1), goes.2)
