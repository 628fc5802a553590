-- A text is put down before another among bytes.
use Rattle.std.proofs.Common.{◌≡◌, ℕ, ◌+◌, ◌-◌, ◌≤◌, List, [], ◌∷◌, ◌++◌, append_assoc, length, take, take_all, drop, ap, sym, ◌∙◌, arith}
use Rattle.std.proofs.lemmas.Fmt.{decimal_digit}
use Rattle.std.proofs.lemmas.List.{drop-append-le, drop-drop, drop-take, take-append-le}
use Rattle.std.proofs.Math.Seq.{drop-append-add, length-take-le}
use borrow.Rule.Slice.PartMut.{put_mid}
use Rattle.std.specs.Fmt.{signed_decimal}
use Rattle.overlay_terms.specs.Plane.{Point, WholePoint, whole}
use Rattle.version_core.specs.Edges.{point_text}

-- 64 bytes ys, whose text starts with the k-th one, are put before the text that starts at a place among xs
pub text_before : (xs ys : List ℕ) (at k : ℕ) → 64 ≤ at → at ≤ length xs → length ys ≡ 64 → k ≤ 64 → drop (at - 64 + k) (put_mid (at - 64) (at - (at - 64)) xs ys) ≡ drop k ys ++ drop at xs
text_before xs ys at k h n e small =
    let a = at - 64 in
    let j = at - a in
    let to : a + j ≡ at = omega arith in
    ap (λ m. drop (m + k) (put_mid a j xs ys)) (sym (length-take-le a xs (omega arith))) ∙ drop-append-add (take a xs) _ k ∙ drop-append-le k ys _ (omega arith)
    ∙ ap (λ t. drop k ys ++ t) (drop-drop j a xs ∙ ap (λ m. drop m xs) to)

-- a place before a text
pub text_and_rest : (p : Point) (rest : List ℕ) → point_text p ++ rest ≡ signed_decimal p.x ++ (32 ∷ (signed_decimal p.y ++ (32 ∷ (signed_decimal p.w ++ rest))))
text_and_rest p rest =
    append_assoc (signed_decimal p.x) (32 ∷ (signed_decimal p.y ++ (32 ∷ signed_decimal p.w))) rest ∙ ap (λ t. signed_decimal p.x ++ (32 ∷ t)) (append_assoc (signed_decimal p.y) (32 ∷ signed_decimal p.w) rest)

-- a text put down before the k-th of xs is all of the bytes between
pub text_between : (xs text rest : List ℕ) (from at start : ℕ) → from + 64 ≡ at → start ≤ at → at ≤ start + 64 → drop start xs ≡ text ++ rest → length text + start ≡ at → drop (start - from) (take (at - from) (drop from xs)) ≡ text
text_between xs text rest from at start e before short is long =
    let k = start - from in
    let m = at - start in
    let whole : at - from ≡ k + m = omega arith in
    let there : from + k ≡ start = omega arith in
    ap (λ n. drop k (take n (drop from xs))) whole ∙ drop-take k m (drop from xs) ∙ ap (λ t. take m t) (drop-drop k from xs ∙ ap (λ n. drop n xs) there ∙ is)
    ∙ ap (λ n. take n (text ++ rest)) (omega arith) ∙ take-append-le (length text) text rest (omega arith) ∙ take_all (length text) text (omega arith)

-- a whole point before a text
pub whole_text : (p : WholePoint) (rest : List ℕ) → point_text (whole p) ++ rest ≡ signed_decimal p.x ++ (32 ∷ (signed_decimal p.y ++ (32 ∷ (49 ∷ rest))))
whole_text p rest =
    ap (λ one. (signed_decimal p.x ++ (32 ∷ (signed_decimal p.y ++ (32 ∷ one)))) ++ rest) (decimal_digit 1 (omega arith)) ∙ append_assoc (signed_decimal p.x) (32 ∷ (signed_decimal p.y ++ (32 ∷ (49 ∷ [])))) rest ∙ ap (λ t. signed_decimal p.x ++ (32 ∷ t)) (append_assoc (signed_decimal p.y) (32 ∷ (49 ∷ [])) rest)
