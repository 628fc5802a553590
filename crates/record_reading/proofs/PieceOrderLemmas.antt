-- One more piece among pieces that begin in a column and rise, and their form as that of a tile.
use Rattle.std.proofs.Common.{◌≡◌, ℕ, suc, ◌-◌, ◌≤◌, Bool, true, false, ◌&&◌, List, [], ◌∷◌, ◌++◌, length, get_or, refl, sym, ap, ◌∙◌, arith}
use Rattle.std.specs.Prelude.{nat_le, map}
use Rattle.std.specs.Ordering.{is_lt}
use Rattle.std.specs.List.{list_all}
use Rattle.std.proofs.lemmas.List.{length-map}
use Rattle.std.proofs.lemmas.List.Folds.{list_all-append, list_all-map}
use Rattle.overlay_terms.specs.Column.{is_in_column}
use Rattle.overlay_terms.specs.Tiles.{pair_cmp}
use Rattle.overlay_terms.specs.Histories.{is_rising, is_rising_from, is_formed, pieces, pieces_max}
use Rattle.exact_point.specs.NamedPiece.{NamedPiece, ends_of}
use Rattle.record_reading.specs.PieceOrder.{are_in_order}

abbrev is_next : NamedPiece → NamedPiece → Bool
is_next a b = is_lt (pair_cmp (ends_of a) (ends_of b))

abbrev begins : ℕ → NamedPiece → Bool
begins k p = is_in_column k (ends_of p).0

and_true : (a : Bool) → (a && true) ≡ a
and_true true = refl
and_true false = refl

and_false : (a : Bool) → (a && false) ≡ false
and_false true = refl
and_false false = refl

regroup : (a b c : Bool) → (a && (b && c)) ≡ ((a && b) && c)
regroup true b c = refl
regroup false b c = refl

-- a piece after others that rise from one
rising_from_more : (a : NamedPiece) (xs : List NamedPiece) (b : NamedPiece)
    → is_rising_from (ends_of a) (map ends_of (xs ++ b ∷ []))
    ≡ (is_rising_from (ends_of a) (map ends_of xs) && is_next (get_or (a ∷ xs) (length xs) b) b)
rising_from_more a [] b = and_true (is_next a b)
rising_from_more a (x ∷ xs) b =
    ap (λ (c : Bool). is_next a x && c) (rising_from_more x xs b)
    ∙ regroup (is_next a x) (is_rising_from (ends_of x) (map ends_of xs)) (is_next (get_or (x ∷ xs) (length xs) b) b)

four : (a i r n : Bool) → ((a && i) && (r && n)) ≡ ((a && r) && (i && n))
four false i r n = refl
four true i true n = refl
four true i false n = and_false i

-- whether a piece comes after the last of others
abbrev follows : List NamedPiece → NamedPiece → Bool
follows [] b = true
follows (a ∷ xs) b = is_next (get_or (a ∷ xs) (length xs) b) b

rising_more : (xs : List NamedPiece) (b : NamedPiece)
    → is_rising (map ends_of (xs ++ b ∷ [])) ≡ (is_rising (map ends_of xs) && follows xs b)
rising_more [] b = refl
rising_more (a ∷ xs) b = rising_from_more a xs b

module _ (k : ℕ) (xs : List NamedPiece) (b : NamedPiece) where
  one_more : are_in_order k (xs ++ b ∷ []) ≡ (are_in_order k xs && (begins k b && follows xs b))
  one_more =
      (λ i. list_all-append (begins k) xs (b ∷ []) i && rising_more xs b i)
      ∙ ap (λ (c : Bool). (list_all (begins k) xs && c) && (is_rising (map ends_of xs) && follows xs b)) (and_true (begins k b))
      ∙ four (list_all (begins k) xs) (begins k b) (is_rising (map ends_of xs)) (follows xs b)

length_more : (xs : List NamedPiece) (b : NamedPiece) → length (xs ++ b ∷ []) ≡ suc (length xs)
length_more [] b = refl
length_more (x ∷ xs) b = ap suc (length_more xs b)

last_of : (xs : List NamedPiece) (b d : NamedPiece) → get_or (xs ++ b ∷ []) (length xs) d ≡ b
last_of [] b d = refl
last_of (x ∷ xs) b d = last_of xs b d

before_last : (x : NamedPiece) (xs : List NamedPiece) (b d e : NamedPiece)
    → get_or ((x ∷ xs) ++ b ∷ []) (length xs) d ≡ get_or (x ∷ xs) (length xs) e
before_last x [] b d e = refl
before_last x (y ∷ xs) b d e = before_last y xs b d e

module _ (k : ℕ) (all : List NamedPiece) (b : NamedPiece) where
  is_last : (xs : List NamedPiece) (p : NamedPiece) → all ≡ xs ++ b ∷ [] → p ≡ get_or all (length all - 1) p → p ≡ b
  is_last xs p is at =
      let n : length all - 1 ≡ length xs = omega (arith, ap length is, length_more xs b) in
      at ∙ (λ i. get_or (is i) (n i) p) ∙ last_of xs b p

  is_before : (x : NamedPiece) (xs : List NamedPiece) (a : NamedPiece) → all ≡ (x ∷ xs) ++ b ∷ []
      → a ≡ get_or all (length all - 1 - 1) a → a ≡ get_or (x ∷ xs) (length xs) b
  is_before x xs a is at =
      let n : length all - 1 - 1 ≡ length xs = omega (arith, ap length is, length_more (x ∷ xs) b) in
      at ∙ (λ i. get_or (is i) (n i) a) ∙ before_last x xs b a b

  -- the last piece begins in the column: all are in order if the others are, and it comes after the one before it
  pub behind : (xs : List NamedPiece) (p q a : NamedPiece) → all ≡ xs ++ b ∷ [] → 2 ≤ length all
      → p ≡ get_or all (length all - 1) p → begins k p ≡ true → q ≡ get_or all (length all - 1) q
      → a ≡ get_or all (length all - 1 - 1) a → are_in_order k all ≡ (are_in_order k xs && is_next a q)
  behind [] p q a is more here begins_there there near = absurd (omega (arith, more, ap length is))
  behind (x ∷ xs) p q a is more here begins_there there near =
      ap (are_in_order k) is ∙ one_more k (x ∷ xs) b
      ∙ ap (λ (c : Bool). are_in_order k (x ∷ xs) && (c && follows (x ∷ xs) b)) (ap (begins k) (sym (is_last (x ∷ xs) p is here)) ∙ begins_there)
      ∙ (λ i. are_in_order k (x ∷ xs) && is_next (sym (is_before x xs a is near) i) (sym (is_last (x ∷ xs) q is there) i))

-- pieces that are in order, and few enough, have the form of a tile
pub formed : (k n : ℕ) (named : List NamedPiece) (stand : Bool) → n ≡ length named → stand ≡ are_in_order k named
    → (nat_le n pieces_max && stand) ≡ is_formed (pieces (map ends_of named)) k
formed k n named stand count said =
    (λ i. nat_le ((count ∙ sym (length-map named ends_of)) i) pieces_max && said i)
    ∙ ap (λ (b : Bool). nat_le (length (map ends_of named)) pieces_max && (b && is_rising (map ends_of named)))
    (sym (list_all-map (λ e. is_in_column k e.0) ends_of named))
    ∙ regroup (nat_le (length (map ends_of named)) pieces_max) (list_all (λ e. is_in_column k e.0) (map ends_of named))
    (is_rising (map ends_of named))
