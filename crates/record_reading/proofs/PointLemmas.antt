-- A point is read from eight bytes by one test of their length.
use Rattle.std.proofs.Common.{◌≡◌, ◌⊎◌, inl, inr, ℕ, ℤ, ◌<◌, ◌≤◌, Bool, true, false, cond, List, length, drop, Option, Some, None, refl, ap, sym, ◌∙◌, arith}
use Rattle.std.proofs.lemmas.Bool.{false≢true, cases_lt, lt-ltb, le-ltb}
use Rattle.std.proofs.lemmas.List.{length-drop, drop-drop}
use Rattle.std.specs.Int.{w32, cast_signed}
use Rattle.byteorder.specs.Endian.{big_number}
use Rattle.overlay_terms.specs.Plane.{WholePoint, InRange, is_coordinate}
use Rattle.overlay_terms.proofs.Coordinates.{passes_in_range as in_range, in_range_passes as coordinate_is}
use Rattle.record_reading.specs.Added.{number_in}
use Rattle.store_terms.specs.Fields.{◌>>?◌}
use Rattle.store_terms.specs.BaseRecord.{coordinate, whole_point}

abbrev passing : ℕ × List ℕ → Option (ℤ × List ℕ)
passing n = cond (is_coordinate (cast_signed w32 n.0)) (Some (cast_signed w32 n.0, n.1)) None

abbrev first_number : Bool → List ℕ → Option (ℕ × List ℕ)
first_number short bytes = cond short None (Some (big_number 4 bytes, drop 4 bytes))

abbrev with_y : ℤ → ℤ × List ℕ → Option ((ℤ × ℤ) × List ℕ)
with_y x b = Some ((x, b.0), b.1)

abbrev behind_x : ℤ × List ℕ → Option ((ℤ × ℤ) × List ℕ)
behind_x a = coordinate.read a.1 >>? with_y a.0

abbrev making : (ℤ × ℤ) × List ℕ → Option (WholePoint × List ℕ)
making a = Some (record { x = a.0.0; y = a.0.1 }, a.1)

-- a coordinate, or none, with what follows it
abbrev front : Bool → ℤ → List ℕ → Option (ℤ × List ℕ)
front is z rest = cond is (Some (z, rest)) None

long : (bytes : List ℕ) → 4 ≤ length bytes
    → coordinate.read bytes ≡ front (is_coordinate (number_in bytes)) (number_in bytes) (drop 4 bytes)
long bytes le = ap (λ (b : Bool). first_number b bytes >>? passing) (le-ltb (length bytes) 4 le)

short : (bytes : List ℕ) → length bytes < 4 → coordinate.read bytes ≡ None
short bytes lt = ap (λ (b : Bool). first_number b bytes >>? passing) (lt-ltb (length bytes) 4 lt)

without_y : (b : Bool) (x : ℤ) (rest : List ℕ) → coordinate.read rest ≡ None
    → ((front b x rest >>? behind_x) >>? making) ≡ None
without_y true x rest none = ap (λ (o : Option (ℤ × List ℕ)). (o >>? with_y x) >>? making) none
without_y false x rest none = refl

pub point_short : (bytes : List ℕ) → length bytes < 8 → whole_point.read bytes ≡ None
point_short bytes lt =
    elim (cases_lt (length bytes) 4) [
      | inl few ↦ ap (λ (o : Option (ℤ × List ℕ)). (o >>? behind_x) >>? making) (short bytes few)
      | inr many ↦ ap (λ (o : Option (ℤ × List ℕ)). (o >>? behind_x) >>? making) (long bytes many)
          ∙ without_y (is_coordinate (number_in bytes)) (number_in bytes) (drop 4 bytes)
          (short (drop 4 bytes) (omega (arith, length-drop 4 bytes)))
    ]

out : (b c : Bool) (x y : ℤ) (rest last : List ℕ) → coordinate.read rest ≡ front c y last
    → (b ≡ true → c ≡ true → ⊥) → ((front b x rest >>? behind_x) >>? making) ≡ None
out true true x y rest last read never = absurd (never refl refl)
out true false x y rest last read never = ap (λ (o : Option (ℤ × List ℕ)). (o >>? with_y x) >>? making) read
out false c x y rest last read never = refl

module _ (bytes : List ℕ) (le : 8 ≤ length bytes) where
  x_read : coordinate.read bytes ≡ front (is_coordinate (number_in bytes)) (number_in bytes) (drop 4 bytes)
  x_read = long bytes (omega arith)

  y_read : coordinate.read (drop 4 bytes)
      ≡ front (is_coordinate (number_in (drop 4 bytes))) (number_in (drop 4 bytes)) (drop 4 (drop 4 bytes))
  y_read = long (drop 4 bytes) (omega (arith, length-drop 4 bytes))

  of_x : whole_point.read bytes
      ≡ ((front (is_coordinate (number_in bytes)) (number_in bytes) (drop 4 bytes) >>? behind_x) >>? making)
  of_x = ap (λ (o : Option (ℤ × List ℕ)). (o >>? behind_x) >>? making) x_read

  pub point_read : InRange (number_in bytes) → InRange (number_in (drop 4 bytes))
      → whole_point.read bytes ≡ Some (record { x = number_in bytes; y = number_in (drop 4 bytes) }, drop 8 bytes)
  point_read x y =
      of_x
      ∙ (λ i. (front (coordinate_is (number_in bytes) x i) (number_in bytes) (drop 4 bytes) >>? behind_x) >>? making)
      ∙ ap (λ (o : Option (ℤ × List ℕ)). (o >>? with_y (number_in bytes)) >>? making)
      (y_read ∙ (λ i. front (coordinate_is (number_in (drop 4 bytes)) y i) (number_in (drop 4 bytes)) (drop 4 (drop 4 bytes))))
      ∙ ap (λ (rest : List ℕ). Some (record { x = number_in bytes; y = number_in (drop 4 bytes) }, rest)) (drop-drop 4 4 bytes)

  pub point_out : (InRange (number_in bytes) × InRange (number_in (drop 4 bytes)) → ⊥) → whole_point.read bytes ≡ None
  point_out never =
      of_x
      ∙ out (is_coordinate (number_in bytes)) (is_coordinate (number_in (drop 4 bytes))) (number_in bytes)
      (number_in (drop 4 bytes)) (drop 4 bytes) (drop 4 (drop 4 bytes)) y_read
      (λ x y. never (in_range (number_in bytes) x, in_range (number_in (drop 4 bytes)) y))

  -- a point, or none
  pub point_cases : (whole_point.read bytes ≡ None) ⊎ ((p : WholePoint) × (whole_point.read bytes ≡ Some (p, drop 8 bytes)))
  point_cases = by (is_coordinate (number_in bytes)) (is_coordinate (number_in (drop 4 bytes))) refl refl
    where
      by : (b c : Bool) → is_coordinate (number_in bytes) ≡ b → is_coordinate (number_in (drop 4 bytes)) ≡ c
          → (whole_point.read bytes ≡ None) ⊎ ((p : WholePoint) × (whole_point.read bytes ≡ Some (p, drop 8 bytes)))
      by true true x y =
          inr (record { x = number_in bytes; y = number_in (drop 4 bytes) }, point_read (in_range (number_in bytes) x) (in_range (number_in (drop 4 bytes)) y))
      by true false x y = inl (point_out (λ within. false≢true (sym y ∙ coordinate_is (number_in (drop 4 bytes)) within.1)))
      by false c x y = inl (point_out (λ within. false≢true (sym x ∙ coordinate_is (number_in bytes) within.0)))
