-- The points of a text that are two plain numbers and a comma, and what they make of what is read.
use Rattle.std.proofs.Common.{◌≡◌, ℕ, ℤ, ◌+◌, ◌-◌, ◌<◌, ◌≤◌, List, [], ◌∷◌, length, take, drop, refl, sym, ap, ◌∙◌, arith, get_or, subst}
use Rattle.std.proofs.lemmas.List.{take_rest, drop-drop, get_or-drop, length-drop}
use Rattle.wkt_form.specs.declared.number.Number.{Number}
use Rattle.wkt_form.specs.declared.number.Number.TheVariants.{Whole}
use Rattle.wkt_form.specs.declared.state.State.TheVariants as states
use Rattle.wkt_form.specs.declared.token.Symbol.TheVariants as symbols
use Rattle.wkt_form.specs.declared.token.Token as code
use Rattle.wkt_form.specs.Symbol.{BeginsWithNumber}
use Rattle.wkt_form.specs.Seen.{seen_from, IsNext, IsNextPoint}
use Rattle.wkt_form.specs.Reading.{Reading, with_tokens, with_point}
use Rattle.wkt_form.proofs.PlainNumbers.{number_seen, number_within}

-- ==== What comes next

first_from : (bytes : List ℕ) (at : ℕ) → get_or (drop at bytes) 0 0 ≡ get_or bytes at 0
first_from bytes at = get_or-drop at bytes 0 0 ∙ ap (λ k. get_or bytes k 0) (omega arith)

some_from : (bytes : List ℕ) (at : ℕ) → at < length bytes → 0 < length (drop at bytes)
some_from bytes at short = omega (arith, short, length-drop at bytes)

-- a number, after what is no token
pub number_next : (number : Number) (bytes : List ℕ) (at start size : ℕ) → seen_from at (drop at bytes) ≡ seen_from start (drop start bytes) → at ≤ start → start ≤ length bytes → BeginsWithNumber (take (length bytes - start) (drop start bytes)) number size → IsNext (symbols.Number number) bytes at (start + size)
number_next number bytes at start size same on within begins =
    let begins_there = subst (λ bs. BeginsWithNumber bs number size) (take_rest bytes start) begins in
    let bounds = number_within (drop start bytes) number size begins_there in
    record {
      offset = start;
      seen =
          same ∙ number_seen (drop start bytes) number size begins_there start
          ∙ ap (λ bs. record { at = start; symbol = symbols.Number number } ∷ seen_from (start + size) bs) (drop-drop size start bytes);
      on = omega (arith, on, bounds.0);
      within = omega (arith, within, bounds.1, length-drop start bytes);
    }

comma_seen : (bytes : List ℕ) → 0 < length bytes → get_or bytes 0 0 ≡ 44 → (at : ℕ) → seen_from at bytes ≡ record { at = at; symbol = symbols.Comma } ∷ seen_from (at + 1) (drop 1 bytes)
comma_seen [] some e at = absurd (omega (arith, some))
comma_seen (b ∷ bs) some e at =
    subst (λ (c : ℕ). seen_from at (c ∷ bs) ≡ record { at = at; symbol = symbols.Comma } ∷ seen_from (at + 1) bs) (sym e) refl

-- a comma
pub comma_next : (bytes : List ℕ) (at : ℕ) → at < length bytes → get_or bytes at 0 ≡ 44 → IsNext symbols.Comma bytes at (at + 1)
comma_next bytes at short comma =
    record {
      offset = at;
      seen =
          comma_seen (drop at bytes) (some_from bytes at short) (first_from bytes at ∙ comma) at
          ∙ ap (λ bs. record { at = at; symbol = symbols.Comma } ∷ seen_from (at + 1) bs) (drop-drop 1 at bytes);
      on = omega arith;
      within = omega (arith, short);
    }

-- two whole numbers and a comma
pub next_point : (x y : ℤ) (first second : Number) (bytes : List ℕ) (at after_x after_y after : ℕ) → first ≡ Whole x → second ≡ Whole y → IsNext (symbols.Number first) bytes at after_x → IsNext (symbols.Number second) bytes after_x after_y → IsNext symbols.Comma bytes after_y after → IsNextPoint x y bytes at after
next_point x y first second bytes at after_x after_y after e f p q comma =
    record {
      after_x = after_x;
      after_y = after_y;
      first = subst (λ n. IsNext (symbols.Number n) bytes at after_x) e p;
      second = subst (λ n. IsNext (symbols.Number n) bytes after_x after_y) f q;
      comma = comma;
    }

-- ==== What a point makes of what is read

-- where a point must come
three_tokens : (r : Reading) (x y : ℤ) (i j k : ℕ) (rest : List code.Token) → with_tokens (record r { state = states.First }) (record { at = i; symbol = symbols.Number (Whole x) } ∷ record { at = j; symbol = symbols.Number (Whole y) } ∷ record { at = k; symbol = symbols.Comma } ∷ rest) ≡ with_tokens (with_point (record r { state = states.First }) x y) rest
three_tokens r x y i j k rest = refl

pub point_taken : (r : Reading) (x y : ℤ) (bytes : List ℕ) (at after : ℕ) → r.state ≡ states.First → IsNextPoint x y bytes at after → with_tokens r (seen_from at (drop at bytes)) ≡ with_tokens (with_point r x y) (seen_from after (drop after bytes))
point_taken r x y bytes at after state p =
    let i = p.first.offset in
    let j = p.second.offset in
    let k = p.comma.offset in
    let rest = seen_from after (drop after bytes) in
    let tokens : List code.Token = record { at = i; symbol = symbols.Number (Whole x) } ∷ record { at = j; symbol = symbols.Number (Whole y) } ∷ record { at = k; symbol = symbols.Comma } ∷ rest in
    let seen : seen_from at (drop at bytes) ≡ tokens =
    p.first.seen
    ∙ ap (λ (ts : List code.Token). record { at = i; symbol = symbols.Number (Whole x) } ∷ ts) p.second.seen
    ∙ ap (λ (ts : List code.Token). record { at = i; symbol = symbols.Number (Whole x) } ∷ record { at = j; symbol = symbols.Number (Whole y) } ∷ ts) p.comma.seen in
    ap (with_tokens r) seen
    ∙ ap (λ s. with_tokens (record r { state = s }) tokens) state
    ∙ three_tokens r x y i j k rest
    ∙ ap (λ s. with_tokens (with_point (record r { state = s }) x y) rest) (sym state)

pub point_on : (x y : ℤ) (bytes : List ℕ) (at after : ℕ) → IsNextPoint x y bytes at after → (at < after) × (after ≤ length bytes)
point_on x y bytes at after p = (omega (arith, p.first.on, p.second.on, p.comma.on), p.comma.within)
