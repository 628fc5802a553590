-- How many bytes a record of each form has at most, so that a longer one is known by its front.
use Rattle.std.proofs.Common.{◌≡◌, ◌⊎◌, inl, inr, ℕ, zero, suc, ℤ, ◌+◌, ◌*◌, ◌-◌, ◌^◌, ◌<◌, ◌≤◌, nat_le, Bool, true, false, cond, ltb, eqb, ◌&&◌, List, [], ◌∷◌, ◌++◌, length, map, take, drop, Option, Some, None, refl, sym, ap, subst, ◌∙◌, arith}
use Rattle.std.specs.Prelude.{slice_index}
use Rattle.std.specs.List.{list_all}
use Rattle.std.specs.Option.{option_map, is_none}
use Rattle.std.specs.Int.{w32, cast_signed}
use Rattle.std.proofs.lemmas.Bool.{cases_lt, and_parts, leb-true, ltb-false, eqb-true}
use Rattle.std.proofs.lemmas.Option.{cond_some, same_Some}
use Rattle.std.proofs.Math.Nat.{suc-mul}
use Rattle.std.proofs.lemmas.List.{length-drop, length-take, get_or-drop, get_or-take, get_or_past, length-append, length-map, take_all}
use Rattle.std.proofs.lemmas.List.Sums.{sum_by-cons}
use Rattle.std.proofs.lemmas.List.Folds.{list_all-append}
use Rattle.byteorder.specs.Endian.{big_number}
use Rattle.byteorder.specs.Numbers.{big_from-take, big_from-lt}
use Rattle.std.specs.Ordering.{is_lt}
use Rattle.overlay_terms.specs.Plane.{WholePoint, Segment, whole_cmp, is_coordinate, ring_step_count, steps_max}
use Rattle.overlay_terms.specs.Column.{column_count, is_in_column}
use Rattle.overlay_terms.specs.Trees.{Operation, intersection, union, difference, sym_difference, Tree, leaf, combine, leaves}
use Rattle.overlay_terms.specs.Layers.{Name}
use Rattle.overlay_terms.specs.Histories.{Tile, is_formed, is_rising}
use Rattle.overlay_terms.proofs.Options.{both_absent}
use Rattle.plane_base.specs.BaseLayer.{first_ring_fault, rings_fault}
use Rattle.plane_base.specs.declared.fault.PlaneFault.{PlaneFault}
use Rattle.plane_base.specs.declared.fault.PlaneFault.TheVariants.{TooManySegments}
use Rattle.layer_expr.specs.Name.{is_name, first_is_letter, is_name_byte}
use Rattle.layer_expr.specs.Token.{operator, close_bracket}
use Rattle.layer_expr.specs.Grammar.{Written, level_of, written_kinds}
use Rattle.layer_expr.specs.Spelling.{bracketed_if, left_needs_brackets, right_needs_brackets, canonical, operation_text, written_text, expression_text, IsExpression}
use Rattle.exact_point.specs.NamedPiece.{NamedPiece, ends_of}
use Rattle.exact_point.specs.NameCode.{name_parts, name_from}
use Rattle.exact_point.specs.declared.point_name.PointName.{PointName}
use Rattle.store_terms.specs.Fields.{◌>>?◌, Field, AreBytes, number, signed, both, made, sieved, read_many, repeated, counted, all_read}
use Rattle.store_terms.specs.Choices.{either, optional, one_of_three}
use Rattle.store_terms.specs.BaseRecord.{coordinate, whole_point, ring, rings, base_of_record}
use Rattle.store_terms.specs.DefinitionRecord.{definition_of_record}
use Rattle.store_terms.specs.TileRecord.{segment, point_name, is_piece, piece, NamedTile, column_of_tile, tile_by_places, named_tile, tile_of_record}
use Rattle.store_terms.specs.Catalog.{Listed, extent, listed, catalog, old_column_count, without_tiles, catalog_of_record}
use Rattle.store_terms.proofs.FieldLemmas.{bound, unless}
use Rattle.store_terms.proofs.BaseLemmas.{few_rings}
use Rattle.store_terms.proofs.RecordLemmas.{definition_is_its_text}

-- ---- what fields take: at most so many bytes for a value, and the rest is left

abbrev Takes : {A : Type 0} → Field A → (A → ℕ) → Type 0
Takes {A} f size = (bytes : List ℕ) (x : A × List ℕ) → f.read bytes ≡ Some x → length bytes ≤ size x.0 + length x.1

number_takes : (n : ℕ) → Takes (number n) (λ x. n)
number_takes n bytes x e =
    let g = unless (ltb (length bytes) n) (big_number n bytes, drop n bytes) x e in
    let long : n ≤ length bytes = ltb-false (length bytes) n g.0 in
    subst (λ (y : ℕ × List ℕ). length bytes ≤ n + length y.1) g.1 (omega (arith, length-drop n bytes, long))

signed_takes : (test : ℤ → Bool) → Takes (signed test) (λ z. 4)
signed_takes test bytes x e =
    let a = bound ((number 4).read bytes) (λ n. cond (test (cast_signed w32 n.0)) (Some (cast_signed w32 n.0, n.1)) None) x e in
    let passed = cond_some (test (cast_signed w32 a.0.0)) (cast_signed w32 a.0.0, a.0.1) x a.2 in
    subst (λ (y : ℤ × List ℕ). length bytes ≤ 4 + length y.1) passed.1 (number_takes 4 bytes a.0 a.1)

both_takes : {A B : Type 0} (f : Field A) (g : Field B) (s : A → ℕ) (t : B → ℕ) → Takes f s → Takes g t
    → Takes (both f g) (λ x. s x.0 + t x.1)
both_takes {A} {B} f g s t first second bytes x e =
    let a = bound (f.read bytes) (λ a. g.read a.1 >>? λ b. Some ((a.0, b.0), b.1)) x e in
    let b = bound (g.read a.0.1) (λ b. Some ((a.0.0, b.0), b.1)) x a.2 in
    subst (λ (y : (A × B) × List ℕ). length bytes ≤ (s y.0.0 + t y.0.1) + length y.1)
    (same_Some ((a.0.0, b.0.0), b.0.1) x b.2)
    (omega (arith, first bytes a.0 a.1, second a.0.1 b.0 b.1))

made_takes : {A B : Type 0} (from : A → B) (back : B → A) (f : Field A) (s : A → ℕ) (t : B → ℕ)
    → ((a : A) → s a ≤ t (from a)) → Takes f s → Takes (made from back f) t
made_takes {A} {B} from back f s t le is bytes x e =
    let a = bound (f.read bytes) (λ a. Some (from a.0, a.1)) x e in
    subst (λ (y : B × List ℕ). length bytes ≤ t y.0 + length y.1) (same_Some (from a.0.0, a.0.1) x a.2)
    (omega (arith, is bytes a.0 a.1, le a.0.0))

sieved_takes : {A : Type 0} (test : A → Bool) (f : Field A) (s : A → ℕ) → Takes f s → Takes (sieved test f) s
sieved_takes {A} test f s is bytes x e =
    let a = bound (f.read bytes) (λ a. cond (test a.0) (Some a) None) x e in
    let passed = cond_some (test a.0.0) a.0 x a.2 in
    subst (λ (y : A × List ℕ). length bytes ≤ s y.0 + length y.1) passed.1 (is bytes a.0 a.1)

-- a total of the sizes of some values
abbrev IsTotal : {A : Type 0} → (A → ℕ) → (List A → ℕ) → Type 0
IsTotal {A} s total = (x : A) (xs : List A) → s x + total xs ≤ total (x ∷ xs)

many_take : {A : Type 0} (f : Field A) (s : A → ℕ) (total : List A → ℕ) → IsTotal s total → Takes f s → (n : ℕ)
    (bytes : List ℕ) (x : List A × List ℕ) → read_many f.read n bytes ≡ Some x → length bytes ≤ total x.0 + length x.1
many_take {A} f s total adds is zero bytes x e =
    subst (λ (y : List A × List ℕ). length bytes ≤ total y.0 + length y.1) (same_Some ([], bytes) x e) (omega arith)
many_take {A} f s total adds is (suc n) bytes x e =
    let a = bound (f.read bytes) (λ a. read_many f.read n a.1 >>? λ b. Some (a.0 ∷ b.0, b.1)) x e in
    let b = bound (read_many f.read n a.0.1) (λ b. Some (a.0.0 ∷ b.0, b.1)) x a.2 in
    subst (λ (y : List A × List ℕ). length bytes ≤ total y.0 + length y.1) (same_Some (a.0.0 ∷ b.0.0, b.0.1) x b.2)
    (omega (arith, is bytes a.0 a.1, many_take f s total adds is n a.0.1 b.0 b.1, adds a.0.0 b.0.0))

counted_takes : {A : Type 0} (w : ℕ) (f : Field A) (s : A → ℕ) (total : List A → ℕ) → IsTotal s total → Takes f s
    → Takes (counted w f) (λ xs. w + total xs)
counted_takes w f s total adds is bytes x e =
    let n = bound ((number w).read bytes) (λ n. read_many f.read n.0 n.1) x e in
    omega (arith, number_takes w bytes n.0 n.1, many_take f s total adds is n.0.0 n.0.1 x n.2)

-- all of the bytes are as many as the value takes
whole_takes : {A : Type 0} (f : Field A) (s : A → ℕ) → Takes f s → (bytes : List ℕ) (x : A) → all_read f bytes ≡ Some x
    → length bytes ≤ s x
whole_takes {A} f s is bytes x e =
    let a = bound (f.read bytes) (λ y. cond (eqb (length y.1) 0) (Some y.0) None) x e in
    let passed = cond_some (eqb (length a.0.1) 0) a.0.0 x a.2 in
    let none : length a.0.1 ≡ 0 = eqb-true (length a.0.1) 0 passed.0 in
    subst (λ (y : A). length bytes ≤ s y) passed.1 (omega (arith, is bytes a.0 a.1, none))

-- the values of a field that is sieved pass the test
whole_passes : {A : Type 0} (test : A → Bool) (f : Field A) (bytes : List ℕ) (x : A) → all_read (sieved test f) bytes ≡ Some x
    → test x ≡ true
whole_passes {A} test f bytes x e =
    let a = bound ((sieved test f).read bytes) (λ y. cond (eqb (length y.1) 0) (Some y.0) None) x e in
    let passed = cond_some (eqb (length a.0.1) 0) a.0.0 x a.2 in
    let inner = bound (f.read bytes) (λ y. cond (test y.0) (Some y) None) a.0 a.1 in
    let tested = cond_some (test inner.0.0) inner.0 a.0 inner.2 in
    subst (λ (y : A). test y ≡ true) (ap (λ (y : A × List ℕ). y.0) tested.1 ∙ passed.1) tested.0

-- ---- base layers: eight bytes a point, and there are few steps

point_takes : Takes whole_point (λ p. 8)
point_takes =
    made_takes (λ p. record { x = p.0; y = p.1 }) (λ p. (p.x, p.y)) (both coordinate coordinate) (λ p. 4 + 4) (λ p. 8)
    (λ p. omega arith) (both_takes coordinate coordinate (λ z. 4) (λ z. 4) (signed_takes is_coordinate) (signed_takes is_coordinate))

ring_takes : Takes ring (λ r. 2 + 8 * length r)
ring_takes = counted_takes 2 whole_point (λ p. 8) (λ r. 8 * length r) (λ p r. omega arith) point_takes

abbrev rings_size : List (List WholePoint) → ℕ
rings_size rs = 10 * length rs + 8 * ring_step_count rs

rings_total : IsTotal (λ r. 2 + 8 * length r) rings_size
rings_total r rs =
    let count : ring_step_count (r ∷ rs) ≡ (length r - 1) + ring_step_count rs =
    sum_by-cons (λ (x : List WholePoint). length x - 1) r rs in
    omega (arith, count)

so_then : (b : Bool) (x : PlaneFault) → cond b None (Some x) ≡ None → b ≡ true
so_then true x e = refl
so_then false x e = absurd cc

pub few_steps : (rs : List (List WholePoint)) → rings_fault rs ≡ None → ring_step_count rs ≤ steps_max
few_steps rs good =
    leb-true (ring_step_count rs) steps_max (so_then (nat_le (ring_step_count rs) steps_max) TooManySegments
    (both_absent (first_ring_fault 0 rs)
    (cond (nat_le (ring_step_count rs) steps_max) None (Some TooManySegments)) good).second)

good_is_none : (fault : Option PlaneFault) → is_none fault ≡ true → fault ≡ None
good_is_none None e = refl
good_is_none (Some fault) e = absurd cc

pub base_length : (bytes : List ℕ) (rs : List (List WholePoint)) → base_of_record bytes ≡ Some rs → length bytes ≤ 671736
base_length bytes rs e =
    let inner = counted 2 ring in
    let taken = whole_takes rings (λ rs. 2 + rings_size rs)
    (sieved_takes (λ rs. is_none (rings_fault rs)) inner (λ rs. 2 + rings_size rs)
    (counted_takes 2 ring (λ r. 2 + 8 * length r) rings_size rings_total ring_takes)) bytes rs e in
    let good = good_is_none (rings_fault rs) (whole_passes (λ rs. is_none (rings_fault rs)) inner bytes rs e) in
    omega (arith, taken, few_steps rs good, few_rings rs good)

-- ---- definitions: few tokens, and no name is long

bracketed : (b : Bool) (w : Written) → length (written_text w) ≤ 35 * length (written_kinds w)
    → length (written_text (bracketed_if b w)) ≤ 35 * length (written_kinds (bracketed_if b w))
bracketed false w so = so
bracketed true w so =
    omega (arith, so, length-append (written_text w) (41 ∷ []), length-append (written_kinds w) (close_bracket ∷ []))

sign_long : (o : Operation) → length (operation_text o) ≡ 3
sign_long intersection = refl
sign_long union = refl
sign_long difference = refl
sign_long sym_difference = refl

name_short : (n : List ℕ) → is_name n ≡ true → length n ≤ 32
name_short n is =
    leb-true (length n) 32
    (and_parts (first_is_letter n) (nat_le (length n) 32)
    (and_parts (first_is_letter n && nat_le (length n) 32) (list_all is_name_byte n) is).0).1

tree_short : (t : Tree (List ℕ)) → list_all is_name (leaves t) ≡ true
    → length (expression_text t) ≤ 35 * length (written_kinds (canonical t))
tree_short (leaf n) are = omega (arith, name_short n (and_parts (is_name n) true are).0)
tree_short (combine o l r) are =
    let names = and_parts (list_all is_name (leaves l)) (list_all is_name (leaves r))
    (sym (list_all-append is_name (leaves l) (leaves r)) ∙ are) in
    let left = bracketed_if (left_needs_brackets o (level_of (canonical l))) (canonical l) in
    let right = bracketed_if (right_needs_brackets o (level_of (canonical r))) (canonical r) in
    let first = bracketed (left_needs_brackets o (level_of (canonical l))) (canonical l) (tree_short l names.0) in
    let second = bracketed (right_needs_brackets o (level_of (canonical r))) (canonical r) (tree_short r names.1) in
    omega (
      arith,
      first,
      second,
      sign_long o,
      length-append (written_text left) (operation_text o ++ written_text right),
      length-append (operation_text o) (written_text right),
      length-append (written_kinds left) (operator o ∷ written_kinds right),
    )

pub expression_length : (t : Tree (List ℕ)) → IsExpression t → length (expression_text t) ≤ 2240
expression_length t is = omega (arith, is.1, tree_short t is.0)

pub definition_length : (bytes : List ℕ) (tree : Tree Name) → definition_of_record bytes ≡ Some tree → length bytes ≤ 2240
definition_length bytes tree e =
    let is = (definition_is_its_text bytes tree).0 e in
    subst (λ (b : List ℕ). length b ≤ 2240) (sym is.1) (expression_length tree is.0)

-- ---- tiles: at most 82 bytes a piece

abbrev to_segment : WholePoint × WholePoint → Segment
to_segment p = record { left = p.0; right = p.1 }

abbrev of_segment : Segment → WholePoint × WholePoint
of_segment s = (s.left, s.right)

segment_takes : Takes segment (λ s. 16)
segment_takes =
    sieved_takes (λ s. is_lt (whole_cmp s.left s.right)) (made to_segment of_segment (both whole_point whole_point)) (λ s. 16)
    (made_takes to_segment of_segment (both whole_point whole_point) (λ p. 8 + 8) (λ s. 16) (λ p. omega arith)
    (both_takes whole_point whole_point (λ p. 8) (λ p. 8) point_takes point_takes))

one_of_three_takes : {A B C : Type 0} (f : Field A) (g : Field B) (h : Field C) (n : ℕ) → Takes f (λ x. n) → Takes g (λ x. n)
    → Takes h (λ x. n) → Takes (one_of_three f g h) (λ x. suc n)
one_of_three_takes f g h n one two three [] x e = absurd cc
one_of_three_takes {A} {B} {C} f g h n one two three (zero ∷ rest) x e =
    let a = bound (f.read rest) (λ a. Some (inl a.0, a.1)) x e in
    subst (λ (y : (A ⊎ (B ⊎ C)) × List ℕ). suc (length rest) ≤ suc n + length y.1) (same_Some (inl a.0.0, a.0.1) x a.2)
    (omega (arith, one rest a.0 a.1))
one_of_three_takes {A} {B} {C} f g h n one two three (suc zero ∷ rest) x e =
    let a = bound (g.read rest) (λ a. Some (inr (inl a.0), a.1)) x e in
    subst (λ (y : (A ⊎ (B ⊎ C)) × List ℕ). suc (length rest) ≤ suc n + length y.1) (same_Some (inr (inl a.0.0), a.0.1) x a.2)
    (omega (arith, two rest a.0 a.1))
one_of_three_takes {A} {B} {C} f g h n one two three (suc (suc zero) ∷ rest) x e =
    let a = bound (h.read rest) (λ a. Some (inr (inr a.0), a.1)) x e in
    subst (λ (y : (A ⊎ (B ⊎ C)) × List ℕ). suc (length rest) ≤ suc n + length y.1) (same_Some (inr (inr a.0.0), a.0.1) x a.2)
    (omega (arith, three rest a.0 a.1))
one_of_three_takes f g h n one two three (suc (suc (suc m)) ∷ rest) x e = absurd cc

-- at most n bytes are at most m
looser : {A : Type 0} (f : Field A) (n m : ℕ) → n ≤ m → Takes f (λ x. n) → Takes f (λ x. m)
looser f n m le is bytes x e = omega (arith, le, is bytes x e)

point_name_takes : Takes point_name (λ n. 33)
point_name_takes =
    let inner = one_of_three whole_point (both segment segment) (both segment (number 1)) in
    made_takes name_from name_parts inner (λ n. 33) (λ n. 33) (λ n. omega arith)
    (one_of_three_takes whole_point (both segment segment) (both segment (number 1)) 32
    (looser whole_point 8 32 (omega arith) point_takes)
    (looser (both segment segment) 32 32 (omega arith) (both_takes segment segment (λ s. 16) (λ s. 16) segment_takes segment_takes))
    (looser (both segment (number 1)) 17 32 (omega arith) (both_takes segment (number 1) (λ s. 16) (λ n. 1) segment_takes (number_takes 1))))

abbrev to_piece : Segment × (PointName × PointName) → NamedPiece
to_piece t = record { support = t.0; from = t.1.0; to = t.1.1 }

abbrev of_piece : NamedPiece → Segment × (PointName × PointName)
of_piece p = (p.support, (p.from, p.to))

piece_takes : Takes piece (λ p. 82)
piece_takes =
    let names = both point_name point_name in
    sieved_takes is_piece (made to_piece of_piece (both segment names)) (λ p. 82)
    (made_takes to_piece of_piece (both segment names) (λ t. 16 + (33 + 33)) (λ p. 82) (λ t. omega arith)
    (both_takes segment names (λ s. 16) (λ n. 33 + 33) segment_takes
    (both_takes point_name point_name (λ n. 33) (λ n. 33) point_name_takes point_name_takes)))

abbrev tile_size : NamedTile → ℕ
tile_size (inl t) = 6 + 82 * length t.1
tile_size (inr k) = 2

either_takes : (bytes : List ℕ) (x : NamedTile × List ℕ)
    → (either (both (number 1) (counted 4 piece)) (number 1)).read bytes ≡ Some x → length bytes ≤ tile_size x.0 + length x.1
either_takes [] x e = absurd cc
either_takes (zero ∷ rest) x e =
    let f = both (number 1) (counted 4 piece) in
    let a = bound (f.read rest) (λ a. Some (inl a.0, a.1)) x e in
    let taken = both_takes (number 1) (counted 4 piece) (λ n. 1) (λ ps. 4 + 82 * length ps) (number_takes 1)
    (counted_takes 4 piece (λ p. 82) (λ ps. 82 * length ps) (λ p ps. omega arith) piece_takes) rest a.0 a.1 in
    subst (λ (y : NamedTile × List ℕ). suc (length rest) ≤ tile_size y.0 + length y.1) (same_Some (inl a.0.0, a.0.1) x a.2)
    (omega (arith, taken))
either_takes (suc zero ∷ rest) x e =
    let a = bound ((number 1).read rest) (λ a. Some (inr a.0, a.1)) x e in
    subst (λ (y : NamedTile × List ℕ). suc (length rest) ≤ tile_size y.0 + length y.1) (same_Some (inr a.0.0, a.0.1) x a.2)
    (omega (arith, number_takes 1 rest a.0 a.1))
either_takes (suc (suc m) ∷ rest) x e = absurd cc

formed_size : (t : NamedTile) → is_formed (tile_by_places t) (column_of_tile t) ≡ true → tile_size t ≤ 5373958
formed_size (inl t) formed =
    let ends = map ends_of t.1 in
    let few = leb-true (length ends) 65536
    (and_parts (nat_le (length ends) 65536) (list_all (λ e. is_in_column t.0 e.0) ends)
    (and_parts (nat_le (length ends) 65536 && list_all (λ e. is_in_column t.0 e.0) ends) (is_rising ends) formed).0).0 in
    omega (arith, few, length-map t.1 ends_of)
formed_size (inr k) formed = omega arith

pub tile_length : (k : ℕ) (bytes : List ℕ) (tile : Tile) → tile_of_record k bytes ≡ Some tile → length bytes ≤ 5373958
tile_length k bytes tile e =
    let a = bound (all_read named_tile bytes) (λ t. cond (eqb (column_of_tile t) k) (Some (tile_by_places t)) None) tile e in
    let inner = either (both (number 1) (counted 4 piece)) (number 1) in
    let test = λ (t : NamedTile). ltb (column_of_tile t) column_count && is_formed (tile_by_places t) (column_of_tile t) in
    let taken = whole_takes named_tile tile_size (sieved_takes test inner tile_size either_takes) bytes a.0 a.1 in
    let passed = whole_passes test inner bytes a.0 a.1 in
    omega (
      arith,
      taken,
      formed_size a.0
          (and_parts (ltb (column_of_tile a.0) column_count) (is_formed (tile_by_places a.0) (column_of_tile a.0)) passed).1,
    )

-- ---- catalogs: the front of what is read are bytes, so its counts are small

-- the first n are bytes
abbrev pub AreBytesTo : ℕ → List ℕ → Type 0
AreBytesTo n bytes = (i : ℕ) → i < n → slice_index bytes i < 256

-- a field is read from the first n bytes at most, and what follows it is left
abbrev IsWithin : {A : Type 0} → Field A → ℕ → Type 0
IsWithin {A} f n = (bytes : List ℕ) (x : A × List ℕ) → AreBytesTo n bytes → f.read bytes ≡ Some x
    → (j : ℕ) × (j ≤ n) × (j ≤ length bytes) × (x.1 ≡ drop j bytes)

bytes_after : (i n m : ℕ) (bytes : List ℕ) → i + m ≤ n → AreBytesTo n bytes → AreBytesTo m (drop i bytes)
bytes_after i n m bytes le are k lt = rw get_or-drop (are (i + k) (omega (arith, le, lt)))

fewer_bytes : (n m : ℕ) (bytes : List ℕ) → m ≤ n → AreBytesTo n bytes → AreBytesTo m bytes
fewer_bytes n m bytes le are k lt = are k (omega (arith, le, lt))

number_within : (n : ℕ) → IsWithin (number n) n
number_within n bytes x are e =
    let g = unless (ltb (length bytes) n) (big_number n bytes, drop n bytes) x e in
    (n, omega arith, ltb-false (length bytes) n g.0, sym (ap (λ (y : ℕ × List ℕ). y.1) g.1))

-- a number of bytes is small
number_small : (w : ℕ) (bytes : List ℕ) (x : ℕ × List ℕ) → AreBytesTo w bytes → (number w).read bytes ≡ Some x → x.0 < 256 ^ w
number_small w bytes x are e =
    let g = unless (ltb (length bytes) w) (big_number w bytes, drop w bytes) x e in
    let front : (i : ℕ) → slice_index (take w bytes) i < 256 =
    λ i. elim (cases_lt i w) [
      | inl lt ↦ rw (get_or-take w bytes i 0 lt) (are i lt)
      | inr past ↦ rw (get_or_past (take w bytes) i 0 (omega (arith, length-take w bytes))) (omega arith)
    ] in
    let small : big_number w (take w bytes) < 256 ^ w = big_from-lt 0 w (take w bytes) front in
    subst (λ (y : ℕ × List ℕ). y.0 < 256 ^ w) g.1
    (subst (λ (v : ℕ). v < 256 ^ w) (big_from-take 0 w w bytes (omega arith)) small)

drop_none : (n : ℕ) → drop {A = ℕ} n [] ≡ []
drop_none zero = refl
drop_none (suc n) = refl

drops : (i j : ℕ) (l : List ℕ) → drop j (drop i l) ≡ drop (i + j) l
drops zero j l =
    let same : j ≡ 0 + j = omega arith in
    ap (λ (n : ℕ). drop n l) same
drops (suc i) j [] = drop_none j ∙ sym (drop_none (suc i + j))
drops (suc i) j (x ∷ l) =
    let same : suc (i + j) ≡ suc i + j = omega arith in
    drops i j l ∙ ap (λ (n : ℕ). drop n (x ∷ l)) same

-- what follows a part of what follows
after_both : (i j : ℕ) (bytes : List ℕ) → j ≤ length (drop i bytes) → i ≤ length bytes → i + j ≤ length bytes
after_both i j bytes le first = omega (arith, le, first, length-drop i bytes)

both_within : {A B : Type 0} (f : Field A) (g : Field B) (n m : ℕ) → IsWithin f n → IsWithin g m → IsWithin (both f g) (n + m)
both_within {A} {B} f g n m first second bytes x are e =
    let a = bound (f.read bytes) (λ a. g.read a.1 >>? λ b. Some ((a.0, b.0), b.1)) x e in
    let b = bound (g.read a.0.1) (λ b. Some ((a.0.0, b.0), b.1)) x a.2 in
    let p = first bytes a.0 (fewer_bytes (n + m) n bytes (omega arith) are) a.1 in
    let are_after : AreBytesTo m a.0.1 =
    subst (AreBytesTo m) (sym p.3) (bytes_after p.0 (n + m) m bytes (omega (arith, p.1)) are) in
    let q = second a.0.1 b.0 are_after b.1 in
    let left : b.0.1 ≡ drop (p.0 + q.0) bytes =
    q.3 ∙ ap (drop q.0) p.3 ∙ drops p.0 q.0 bytes in (
      p.0 + q.0,
      omega (arith, p.1, q.1),
      after_both p.0 q.0 bytes (subst (λ (l : List ℕ). q.0 ≤ length l) p.3 q.2) p.2,
      sym (ap (λ (y : (A × B) × List ℕ). y.1) (same_Some ((a.0.0, b.0.0), b.0.1) x b.2)) ∙ left,
    )

made_within : {A B : Type 0} (from : A → B) (back : B → A) (f : Field A) (n : ℕ) → IsWithin f n → IsWithin (made from back f) n
made_within {A} {B} from back f n is bytes x are e =
    let a = bound (f.read bytes) (λ a. Some (from a.0, a.1)) x e in
    let p = is bytes a.0 are a.1 in
    (p.0, p.1, p.2, sym (ap (λ (y : B × List ℕ). y.1) (same_Some (from a.0.0, a.0.1) x a.2)) ∙ p.3)

wider : {A : Type 0} (f : Field A) (n m : ℕ) → n ≤ m → IsWithin f n → IsWithin f m
wider f n m le is bytes x are e =
    let p = is bytes x (fewer_bytes m n bytes le are) e in
    (p.0, omega (arith, le, p.1), p.2, p.3)

many_within : {A : Type 0} (f : Field A) (n : ℕ) → IsWithin f n → (k : ℕ) (bytes : List ℕ) (x : List A × List ℕ)
    → AreBytesTo (k * n) bytes → read_many f.read k bytes ≡ Some x
    → (j : ℕ) × (j ≤ k * n) × (j ≤ length bytes) × (x.1 ≡ drop j bytes)
many_within {A} f n is zero bytes x are e =
    (0, omega arith, omega arith, sym (ap (λ (y : List A × List ℕ). y.1) (same_Some ([], bytes) x e)))
many_within {A} f n is (suc k) bytes x are e =
    let size : suc k * n ≡ k * n + n = suc-mul k n in
    let all : AreBytesTo (k * n + n) bytes = subst (λ (m : ℕ). AreBytesTo m bytes) size are in
    let a = bound (f.read bytes) (λ a. read_many f.read k a.1 >>? λ b. Some (a.0 ∷ b.0, b.1)) x e in
    let b = bound (read_many f.read k a.0.1) (λ b. Some (a.0.0 ∷ b.0, b.1)) x a.2 in
    let p = is bytes a.0 (fewer_bytes (k * n + n) n bytes (omega arith) all) a.1 in
    let are_after : AreBytesTo (k * n) a.0.1 =
    subst (AreBytesTo (k * n)) (sym p.3) (bytes_after p.0 (k * n + n) (k * n) bytes (omega (arith, p.1)) all) in
    let q = many_within f n is k a.0.1 b.0 are_after b.1 in
    let left : b.0.1 ≡ drop (p.0 + q.0) bytes = q.3 ∙ ap (drop q.0) p.3 ∙ drops p.0 q.0 bytes in (
      p.0 + q.0,
      omega (arith, p.1, q.1, size),
      after_both p.0 q.0 bytes (subst (λ (l : List ℕ). q.0 ≤ length l) p.3 q.2) p.2,
      sym (ap (λ (y : List A × List ℕ). y.1) (same_Some (a.0.0 ∷ b.0.0, b.0.1) x b.2)) ∙ left,
    )

-- of a count of w bytes
counted_within : {A : Type 0} (w : ℕ) (f : Field A) (n most : ℕ) → IsWithin f n
    → ((c : ℕ) → c < 256 ^ w → w + c * n ≤ most) → w ≤ most → IsWithin (counted w f) most
counted_within w f n most is few le bytes x are e =
    let c = bound ((number w).read bytes) (λ c. read_many f.read c.0 c.1) x e in
    let small = number_small w bytes c.0 (fewer_bytes most w bytes le are) c.1 in
    let room = few c.0.0 small in
    let p = number_within w bytes c.0 (fewer_bytes most w bytes le are) c.1 in
    let are_after : AreBytesTo (c.0.0 * n) c.0.1 =
    subst (AreBytesTo (c.0.0 * n)) (sym p.3) (bytes_after p.0 most (c.0.0 * n) bytes (omega (arith, p.1, room)) are) in
    let q = many_within f n is c.0.0 c.0.1 x are_after c.2 in (
      p.0 + q.0,
      omega (arith, p.1, q.1, room),
      after_both p.0 q.0 bytes (subst (λ (l : List ℕ). q.0 ≤ length l) p.3 q.2) p.2,
      q.3 ∙ ap (drop q.0) p.3 ∙ drops p.0 q.0 bytes,
    )

-- a byte and what follows it
after_byte : (n b : ℕ) (rest : List ℕ) → AreBytesTo (suc n) (b ∷ rest) → AreBytesTo n rest
after_byte n b rest are i lt = are (suc i) (omega (arith, lt))

optional_within : {A : Type 0} (f : Field A) (n : ℕ) → IsWithin f n → IsWithin (optional f) (suc n)
optional_within f n is [] x are e = absurd cc
optional_within {A} f n is (zero ∷ rest) x are e =
    (1, omega arith, omega arith, sym (ap (λ (y : Option A × List ℕ). y.1) (same_Some (None, rest) x e)))
optional_within {A} f n is (suc zero ∷ rest) x are e =
    let a = bound (f.read rest) (λ a. Some (Some a.0, a.1)) x e in
    let p = is rest a.0 (after_byte n 1 rest are) a.1 in (
      suc p.0,
      omega (arith, p.1),
      omega (arith, p.2),
      sym (ap (λ (y : Option A × List ℕ). y.1) (same_Some (Some a.0.0, a.0.1) x a.2)) ∙ p.3,
    )
optional_within f n is (suc (suc m) ∷ rest) x are e = absurd cc

either_within : {A B : Type 0} (f : Field A) (g : Field B) (n : ℕ) → IsWithin f n → IsWithin g n → IsWithin (either f g) (suc n)
either_within f g n one two [] x are e = absurd cc
either_within {A} {B} f g n one two (zero ∷ rest) x are e =
    let a = bound (f.read rest) (λ a. Some (inl a.0, a.1)) x e in
    let p = one rest a.0 (after_byte n 0 rest are) a.1 in (
      suc p.0,
      omega (arith, p.1),
      omega (arith, p.2),
      sym (ap (λ (y : (A ⊎ B) × List ℕ). y.1) (same_Some (inl a.0.0, a.0.1) x a.2)) ∙ p.3,
    )
either_within {A} {B} f g n one two (suc zero ∷ rest) x are e =
    let b = bound (g.read rest) (λ b. Some (inr b.0, b.1)) x e in
    let p = two rest b.0 (after_byte n 1 rest are) b.1 in (
      suc p.0,
      omega (arith, p.1),
      omega (arith, p.2),
      sym (ap (λ (y : (A ⊎ B) × List ℕ). y.1) (same_Some (inr b.0.0, b.0.1) x b.2)) ∙ p.3,
    )
either_within f g n one two (suc (suc m) ∷ rest) x are e = absurd cc

extent_within : IsWithin extent 12
extent_within =
    made_within (λ p. record { block = p.0; size = p.1 }) (λ e. (e.block, e.size)) (both (number 8) (number 4)) 12
    (both_within (number 8) (number 4) 8 4 (number_within 8) (number_within 4))

-- an entry of a catalog of at most 33 columns
listed_within : (n : ℕ) → n ≤ 33 → IsWithin (listed n) 698
listed_within n le =
    let name = counted 1 (number 1) in
    let tiles = repeated n (optional extent) in
    let kinds = either extent (both extent tiles) in
    let tiles_within : IsWithin tiles 429 =
    wider tiles (n * 13) 429 (omega (arith, le)) (many_within (optional extent) 13 (optional_within extent 12 extent_within) n) in
    made_within (λ p. record { name = p.0; records = p.1 }) (λ l. (l.name, l.records)) (both name kinds) 698
    (both_within name kinds 256 442
    (counted_within 1 (number 1) 1 256 (number_within 1) (λ c few. omega (arith, few)) (omega arith))
    (either_within extent (both extent tiles) 441 (wider extent 12 441 (omega arith) extent_within)
    (both_within extent tiles 12 429 extent_within tiles_within)))

catalog_within : (n : ℕ) → n ≤ 33 → IsWithin (catalog n) 45743432
catalog_within n le =
    counted_within 2 (listed n) 698 45743432 (listed_within n le) (λ c few. omega (arith, few)) (omega arith)

-- all of the bytes are as many as a field is read from
whole_within : {A : Type 0} (f : Field A) (n : ℕ) → IsWithin f n → (bytes : List ℕ) (x : A) → AreBytesTo n bytes
    → all_read f bytes ≡ Some x → length bytes ≤ n
whole_within {A} f n is bytes x are e =
    let a = bound (f.read bytes) (λ y. cond (eqb (length y.1) 0) (Some y.0) None) x e in
    let passed = cond_some (eqb (length a.0.1) 0) a.0.0 x a.2 in
    let p = is bytes a.0 are a.1 in
    let none : length (drop p.0 bytes) ≡ 0 = ap length (sym p.3) ∙ eqb-true (length a.0.1) 0 passed.0 in
    omega (arith, p.1, p.2, none, length-drop p.0 bytes)

mapped : {A B : Type 0} (f : A → B) (o : Option A) (y : B) → option_map f o ≡ Some y → (x : A) × (o ≡ Some x)
mapped f (Some x) y e = (x, refl)
mapped f None y e = absurd cc

pub catalog_length : (is_old : Bool) (bytes : List ℕ) (ls : List Listed) → AreBytesTo 45743432 bytes
    → catalog_of_record is_old bytes ≡ Some ls → length bytes ≤ 45743432
catalog_length true bytes ls are e =
    let x = mapped (map without_tiles) (all_read (catalog old_column_count) bytes) ls e in
    whole_within (catalog old_column_count) 45743432 (catalog_within old_column_count (omega arith)) bytes x.0 are x.1
catalog_length false bytes ls are e =
    whole_within (catalog column_count) 45743432 (catalog_within column_count (omega arith)) bytes ls are e

-- ---- what is read of a front is what is read of all

-- the bytes, cut where no record of the form can be
cut_of_long : {A : Type 0} (read : List ℕ → Option A) (most : ℕ) (bytes : List ℕ)
    → ((y : A) → read bytes ≡ Some y → length bytes ≤ most)
    → ((y : A) → read (take (suc most) bytes) ≡ Some y → length (take (suc most) bytes) ≤ most)
    → most < length bytes → read (take (suc most) bytes) ≡ read bytes
cut_of_long {A} read most bytes short cut_short long =
    let size : length (take (suc most) bytes) ≡ suc most = omega (arith, length-take (suc most) bytes, long) in
    none_of (read (take (suc most) bytes)) (λ y e. absurd (omega (arith, cut_short y e, size)))
    ∙ sym (none_of (read bytes) (λ y e. absurd (omega (arith, short y e, long)))) where
      none_of : (o : Option A) → ((y : A) → o ≡ Some y → o ≡ None) → o ≡ None
      none_of None not = refl
      none_of (Some y) not = not y refl

pub cut : {A : Type 0} (read : List ℕ → Option A) (most : ℕ) (bytes : List ℕ)
    → ((y : A) → read bytes ≡ Some y → length bytes ≤ most)
    → ((y : A) → read (take (suc most) bytes) ≡ Some y → length (take (suc most) bytes) ≤ most)
    → read (take (suc most) bytes) ≡ read bytes
cut read most bytes short cut_short =
    elim (cases_lt most (length bytes)) [
      | inl long ↦ cut_of_long read most bytes short cut_short long
      | inr fits ↦ ap read (take_all (suc most) bytes (omega (arith, fits)))
    ]

pub base_cut : (bytes items : List ℕ) → take (suc 671736) bytes ≡ items → base_of_record items ≡ base_of_record bytes
base_cut bytes items e =
    subst (λ (l : List ℕ). base_of_record l ≡ base_of_record bytes) e
    (cut base_of_record 671736 bytes (base_length bytes) (base_length (take (suc 671736) bytes)))

pub definition_cut : (bytes items : List ℕ) → take (suc 2240) bytes ≡ items
    → definition_of_record items ≡ definition_of_record bytes
definition_cut bytes items e =
    subst (λ (l : List ℕ). definition_of_record l ≡ definition_of_record bytes) e
    (cut definition_of_record 2240 bytes (definition_length bytes) (definition_length (take (suc 2240) bytes)))

pub tile_cut : (k : ℕ) (bytes items : List ℕ) → take (suc 5373958) bytes ≡ items
    → tile_of_record k items ≡ tile_of_record k bytes
tile_cut k bytes items e =
    subst (λ (l : List ℕ). tile_of_record k l ≡ tile_of_record k bytes) e
    (cut (tile_of_record k) 5373958 bytes (tile_length k bytes) (tile_length k (take (suc 5373958) bytes)))

pub catalog_cut : (is_old : Bool) (bytes items : List ℕ) → AreBytes items → take (suc 45743432) bytes ≡ items
    → catalog_of_record is_old items ≡ catalog_of_record is_old bytes
catalog_cut is_old bytes items are e =
    let front : AreBytes (take (suc 45743432) bytes) = subst AreBytes (sym e) are in
    let all : AreBytesTo 45743432 bytes =
    λ i lt. subst (λ (v : ℕ). v < 256) (get_or-take (suc 45743432) bytes i 0 (omega (arith, lt))) (front i) in
    subst (λ (l : List ℕ). catalog_of_record is_old l ≡ catalog_of_record is_old bytes) e
    (cut (catalog_of_record is_old) 45743432 bytes (λ y. catalog_length is_old bytes y all)
    (λ y. catalog_length is_old (take (suc 45743432) bytes) y (λ i lt. front i)))
