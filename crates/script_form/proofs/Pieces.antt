-- The lines of a script that grows.
use Rattle.std.proofs.Common.{◌≡◌, ◌≢◌, ℕ, ◌==◌, ◌⊎◌, inl, inr, eqb, true, false, not, cond, List, [], ◌∷◌, ◌++◌, map, refl, sym, ap, ◌∙◌, append_assoc, append-nil}
use Rattle.std.proofs.lemmas.List.{map_push}
use Rattle.std.proofs.lemmas.Bool.{and_parts, not-true}
use Rattle.std.proofs.lemmas.Bool.Decides.{eqb_tells}
use Rattle.script_form.specs.Lines.{onto_first, pieces_of, front_of, last_of, without_cr, ended_lines, unended, has_no_feed}

-- all but the last of a list, and the last, where it is written with its last
front_of-push : (ps : List (List ℕ)) (p : List ℕ) → front_of (ps ++ p ∷ []) ≡ ps
front_of-push [] p = refl
front_of-push (q ∷ []) p = refl
front_of-push (q ∷ r ∷ ps) p = ap (λ xs. q ∷ xs) (front_of-push (r ∷ ps) p)

last_of-push : (ps : List (List ℕ)) (p : List ℕ) → last_of (ps ++ p ∷ []) ≡ p
last_of-push [] p = refl
last_of-push (q ∷ []) p = refl
last_of-push (q ∷ r ∷ ps) p = last_of-push (r ∷ ps) p

-- a list that has a first is all but its last, and its last
with_last : (p : List ℕ) (ps : List (List ℕ)) → p ∷ ps ≡ front_of (p ∷ ps) ++ last_of (p ∷ ps) ∷ []
with_last p [] = refl
with_last p (q ∷ ps) = ap (λ xs. p ∷ xs) (with_last q ps)

-- a list with its first
pub record HasFirst (ps : List (List ℕ)) : Type 0 where
  pub first : List ℕ
  pub others : List (List ℕ)
  pub is : ps ≡ first ∷ others

onto_first-has_first : (b : ℕ) (ps : List (List ℕ)) → HasFirst (onto_first b ps)
onto_first-has_first b [] = record { first = b ∷ []; others = []; is = refl }
onto_first-has_first b (p ∷ ps) = record { first = b ∷ p; others = ps; is = refl }

-- there is always a piece
pub pieces_of-has_first : (bytes : List ℕ) → HasFirst (pieces_of bytes)
pieces_of-has_first [] = record { first = []; others = []; is = refl }
pieces_of-has_first (b ∷ bytes) =
    elim (b == 10) as (λ t. HasFirst (cond t ([] ∷ pieces_of bytes) (onto_first b (pieces_of bytes)))) [
      | true ↦ record { first = []; others = pieces_of bytes; is = refl }
      | false ↦ onto_first-has_first b (pieces_of bytes)
    ]

pieces_of-with_last : (bytes : List ℕ) → pieces_of bytes ≡ front_of (pieces_of bytes) ++ last_of (pieces_of bytes) ∷ []
pieces_of-with_last bytes =
    let some = pieces_of-has_first bytes in
    rw some.is (with_last some.first some.others)

-- a line feed ends the last piece and begins an empty one
onto_first-push : (b : ℕ) (p : List ℕ) (ps : List (List ℕ)) → onto_first b ((p ∷ ps) ++ [] ∷ []) ≡ onto_first b (p ∷ ps) ++ [] ∷ []
onto_first-push b p ps = refl

onto_first-feed : (b : ℕ) (ps : List (List ℕ)) → HasFirst ps → onto_first b (ps ++ [] ∷ []) ≡ onto_first b ps ++ [] ∷ []
onto_first-feed b ps some = rw some.is (onto_first-push b some.first some.others)

pieces_of-feed : (bytes : List ℕ) → pieces_of (bytes ++ 10 ∷ []) ≡ pieces_of bytes ++ [] ∷ []
pieces_of-feed [] = refl
pieces_of-feed (b ∷ bytes) =
    let more = pieces_of-feed bytes in
    elim (b == 10) as (λ t. cond t ([] ∷ pieces_of (bytes ++ 10 ∷ [])) (onto_first b (pieces_of (bytes ++ 10 ∷ []))) ≡ cond t ([] ∷ pieces_of bytes) (onto_first b (pieces_of bytes)) ++ [] ∷ []) [
      | true ↦ ap (λ ps. [] ∷ ps) more
      | false ↦ ap (onto_first b) more ∙ onto_first-feed b (pieces_of bytes) (pieces_of-has_first bytes)
    ]

-- the pieces with a byte after the last
longer : List (List ℕ) → ℕ → List (List ℕ)
longer ps b = front_of ps ++ (last_of ps ++ b ∷ []) ∷ []

longer-after_feed : (b : ℕ) (ps : List (List ℕ)) → HasFirst ps → [] ∷ longer ps b ≡ longer ([] ∷ ps) b
unfolding longer
longer-after_feed b ps some = rw some.is refl

onto_first-longer_at : (x b : ℕ) (p : List ℕ) (ps : List (List ℕ)) → onto_first x (longer (p ∷ ps) b) ≡ longer (onto_first x (p ∷ ps)) b
unfolding longer
onto_first-longer_at x b p [] = refl
onto_first-longer_at x b p (q ∷ ps) = refl

onto_first-longer : (x b : ℕ) (ps : List (List ℕ)) → HasFirst ps → onto_first x (longer ps b) ≡ longer (onto_first x ps) b
onto_first-longer x b ps some = rw some.is (onto_first-longer_at x b some.first some.others)

longer-one : (b : ℕ) → onto_first b ([] ∷ []) ≡ longer ([] ∷ []) b
unfolding longer
longer-one b = refl

-- any other byte makes the last piece longer
pieces_of-byte : (bytes : List ℕ) (b : ℕ) → (b == 10) ≡ false → pieces_of (bytes ++ b ∷ []) ≡ longer (pieces_of bytes) b
pieces_of-byte [] b other = ap (λ t. cond t ([] ∷ pieces_of []) (onto_first b (pieces_of []))) other ∙ longer-one b
pieces_of-byte (x ∷ bytes) b other =
    let more = pieces_of-byte bytes b other in
    let some = pieces_of-has_first bytes in
    elim (x == 10) as (λ t. cond t ([] ∷ pieces_of (bytes ++ b ∷ [])) (onto_first x (pieces_of (bytes ++ b ∷ []))) ≡ longer (cond t ([] ∷ pieces_of bytes) (onto_first x (pieces_of bytes))) b) [
      | true ↦ ap (λ ps. [] ∷ ps) more ∙ longer-after_feed b (pieces_of bytes) some
      | false ↦ ap (onto_first x) more ∙ onto_first-longer x b (pieces_of bytes) some
    ]

longer-front : (ps : List (List ℕ)) (b : ℕ) → front_of (longer ps b) ≡ front_of ps
unfolding longer
longer-front ps b = front_of-push (front_of ps) (last_of ps ++ b ∷ [])

longer-last : (ps : List (List ℕ)) (b : ℕ) → last_of (longer ps b) ≡ last_of ps ++ b ∷ []
unfolding longer
longer-last ps b = last_of-push (front_of ps) (last_of ps ++ b ∷ [])

-- a line feed ends the line that came after the one before
pub ended_lines-feed : (bytes : List ℕ) → ended_lines (bytes ++ 10 ∷ []) ≡ ended_lines bytes ++ without_cr (unended bytes) ∷ []
ended_lines-feed bytes =
    ap (map without_cr) (ap front_of (pieces_of-feed bytes) ∙ front_of-push (pieces_of bytes) [] ∙ pieces_of-with_last bytes)
    ∙ map_push without_cr (front_of (pieces_of bytes)) (last_of (pieces_of bytes))

unended-feed : (bytes : List ℕ) → unended (bytes ++ 10 ∷ []) ≡ []
unended-feed bytes = ap last_of (pieces_of-feed bytes) ∙ last_of-push (pieces_of bytes) []

-- any other byte ends no line
pub ended_lines-byte : (bytes : List ℕ) (b : ℕ) → (b == 10) ≡ false → ended_lines (bytes ++ b ∷ []) ≡ ended_lines bytes
ended_lines-byte bytes b other = ap (map without_cr) (ap front_of (pieces_of-byte bytes b other) ∙ longer-front (pieces_of bytes) b)

pub unended-byte : (bytes : List ℕ) (b : ℕ) → (b == 10) ≡ false → unended (bytes ++ b ∷ []) ≡ unended bytes ++ b ∷ []
unended-byte bytes b other = ap last_of (pieces_of-byte bytes b other) ∙ longer-last (pieces_of bytes) b

-- neither do bytes that have no line feed
pub ended_lines-part : (bytes part : List ℕ) → has_no_feed part ≡ true → ended_lines (bytes ++ part) ≡ ended_lines bytes
ended_lines-part bytes [] none = ap ended_lines (append-nil bytes)
ended_lines-part bytes (b ∷ part) none =
    let both = and_parts (not (b == 10)) (has_no_feed part) none in
    ap ended_lines (sym (append_assoc bytes (b ∷ []) part)) ∙ ended_lines-part (bytes ++ b ∷ []) part both.1 ∙ ended_lines-byte bytes b (not-true (b == 10) both.0)

pub unended-part : (bytes part : List ℕ) → has_no_feed part ≡ true → unended (bytes ++ part) ≡ unended bytes ++ part
unended-part bytes [] none = ap unended (append-nil bytes) ∙ sym (append-nil (unended bytes))
unended-part bytes (b ∷ part) none =
    let both = and_parts (not (b == 10)) (has_no_feed part) none in
    ap unended (sym (append_assoc bytes (b ∷ []) part)) ∙ unended-part (bytes ++ b ∷ []) part both.1
    ∙ ap (λ l. l ++ part) (unended-byte bytes b (not-true (b == 10) both.0)) ∙ append_assoc (unended bytes) (b ∷ []) part

-- a part of a line, and the line feed that ends it
pub ended_lines-line : (bytes part : List ℕ) → has_no_feed part ≡ true → ended_lines (bytes ++ (part ++ 10 ∷ [])) ≡ ended_lines bytes ++ without_cr (unended (bytes ++ part)) ∷ []
ended_lines-line bytes part none =
    ap ended_lines (sym (append_assoc bytes part (10 ∷ []))) ∙ ended_lines-feed (bytes ++ part)
    ∙ ap (λ (lines : List (List ℕ)). lines ++ without_cr (unended (bytes ++ part)) ∷ []) (ended_lines-part bytes part none)

pub unended-line : (bytes part : List ℕ) → unended (bytes ++ (part ++ 10 ∷ [])) ≡ []
unended-line bytes part = ap unended (sym (append_assoc bytes part (10 ∷ []))) ∙ unended-feed (bytes ++ part)

-- a list goes on from another
pub record GoesOn (short long : List (List ℕ)) : Type 0 where
  pub more : List (List ℕ)
  pub is : long ≡ short ++ more

GoesOn-refl : (lines : List (List ℕ)) → GoesOn lines lines
GoesOn-refl lines = record { more = []; is = sym (append-nil lines) }

GoesOn-trans : (a b c : List (List ℕ)) → GoesOn a b → GoesOn b c → GoesOn a c
GoesOn-trans a b c first second = record {
  more = first.more ++ second.more;
  is = second.is ∙ ap (λ lines. lines ++ second.more) first.is ∙ append_assoc a first.more second.more;
}

one_more : (bytes : List ℕ) (b : ℕ) → ((eqb b 10 ≡ true) × (b ≡ 10)) ⊎ ((eqb b 10 ≡ false) × (b ≢ 10)) → GoesOn (ended_lines bytes) (ended_lines (bytes ++ b ∷ []))
one_more bytes b (inl (test, same)) = record {
  more = without_cr (unended bytes) ∷ [];
  is = ap (λ c. ended_lines (bytes ++ c ∷ [])) same ∙ ended_lines-feed bytes;
}
one_more bytes b (inr (test, other)) = record { more = []; is = ended_lines-byte bytes b test ∙ sym (append-nil (ended_lines bytes)) }

-- the lines that were ended stay, whatever is read
pub ended_lines-more : (bytes more : List ℕ) → GoesOn (ended_lines bytes) (ended_lines (bytes ++ more))
ended_lines-more bytes [] = rw (append-nil bytes) (GoesOn-refl (ended_lines bytes))
ended_lines-more bytes (b ∷ more) =
    let rest = ended_lines-more (bytes ++ b ∷ []) more in
    let whole = rw (append_assoc bytes (b ∷ []) more) at rest in
    GoesOn-trans _ _ _ (one_more bytes b (eqb_tells b 10)) whole
