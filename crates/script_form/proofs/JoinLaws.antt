-- The pieces of a script and its bytes.
use Rattle.std.proofs.Common.{◌≡◌, ℕ, ◌==◌, true, false, not, ◌&&◌, List, [], ◌∷◌, refl, sym, ap, ◌∙◌, inl, inr}
use Rattle.std.specs.List.{list_all}
use Rattle.std.proofs.lemmas.Bool.{and_from, and_parts, cases_Bool, cond-true, cond-false, eqb-true}
use Rattle.script_form.specs.Lines.{onto_first, pieces_of, joined, has_no_feed}
use Rattle.script_form.specs.Lines as laws
use Rattle.script_form.proofs.Pieces.{HasFirst, pieces_of-has_first}

joined-feed : (piece : List ℕ) (pieces : List (List ℕ)) → joined ([] ∷ piece ∷ pieces) ≡ 10 ∷ joined (piece ∷ pieces)
joined-feed piece pieces = refl

joined-byte : (b : ℕ) (piece : List ℕ) (pieces : List (List ℕ)) → joined (onto_first b (piece ∷ pieces)) ≡ b ∷ joined (piece ∷ pieces)
joined-byte b piece [] = refl
joined-byte b piece (next ∷ pieces) = refl

joined-feed_at : (ps : List (List ℕ)) → HasFirst ps → joined ([] ∷ ps) ≡ 10 ∷ joined ps
joined-feed_at ps some = rw some.is (joined-feed some.first some.others)

joined-byte_at : (b : ℕ) (ps : List (List ℕ)) → HasFirst ps → joined (onto_first b ps) ≡ b ∷ joined ps
joined-byte_at b ps some = rw some.is (joined-byte b some.first some.others)

pub pieces_join : laws.PiecesJoinToTheBytes
pieces_join [] = refl
pieces_join (b ∷ bytes) =
    let more = pieces_join bytes in
    let some = pieces_of-has_first bytes in
    elim (cases_Bool (b == 10)) [
      | inl feed ↦
          ap joined (cond-true (b == 10) ([] ∷ pieces_of bytes) (onto_first b (pieces_of bytes)) feed)
          ∙ joined-feed_at (pieces_of bytes) some ∙ ap (λ bs. 10 ∷ bs) more ∙ ap (λ c. c ∷ bytes) (sym (eqb-true b 10 feed))
      | inr other ↦
          ap joined (cond-false (b == 10) ([] ∷ pieces_of bytes) (onto_first b (pieces_of bytes)) other)
          ∙ joined-byte_at b (pieces_of bytes) some ∙ ap (λ bs. b ∷ bs) more
    ]

none-onto_first : (b : ℕ) (ps : List (List ℕ)) → (b == 10) ≡ false → list_all has_no_feed ps ≡ true → list_all has_no_feed (onto_first b ps) ≡ true
none-onto_first b [] other all = and_from (not (b == 10) && true) true (and_from (not (b == 10)) true (ap not other) refl) refl
none-onto_first b (piece ∷ ps) other all =
    let both = and_parts (has_no_feed piece) (list_all has_no_feed ps) all in
    and_from (not (b == 10) && has_no_feed piece) (list_all has_no_feed ps) (and_from (not (b == 10)) (has_no_feed piece) (ap not other) both.0) both.1

pub pieces_have_none : laws.NoPieceHasALineFeed
pieces_have_none [] = refl
pieces_have_none (b ∷ bytes) =
    let more = pieces_have_none bytes in
    elim (cases_Bool (b == 10)) [
      | inl feed ↦ ap (list_all has_no_feed) (cond-true (b == 10) ([] ∷ pieces_of bytes) (onto_first b (pieces_of bytes)) feed) ∙ more
      | inr other ↦ ap (list_all has_no_feed) (cond-false (b == 10) ([] ∷ pieces_of bytes) (onto_first b (pieces_of bytes)) other) ∙ none-onto_first b (pieces_of bytes) other more
    ]
