-- The tests of equality decide it.
use Rattle.std.proofs.Common.{◌≡◌, ◌==◌, Bool, true, false, ◌&&◌, List, bytes_eq, refl, sym, ap, ◌∙◌, Decides}
use Rattle.std.specs.Ordering.{int_eq}
use Rattle.std.specs.Cmp.Lexicographic.{pointwise_decides}
use Rattle.std.proofs.lemmas.Bool.{and_parts, and_from, false≢true}
use Rattle.std.proofs.lemmas.Bool.Decides.{Decides-eqb, Decides-int_eq}
use Rattle.overlay_terms.proofs.NameLemmas.{same_name, name_itself}
use Rattle.overlay_terms.specs.Plane.{Point, WholePoint, same_whole}
use Rattle.overlay_terms.specs.Trees.{Operation, intersection, Tree, leaf, combine}
use Rattle.overlay_terms.specs.TreeCode.{operation_number, operation_at, back}
use Rattle.overlay_terms.specs.SameInput.{same_operation, same_segment, same_segment-Decides}
use Rattle.overlay_terms.specs.Layers.{Name, Content, base, derived}
use Rattle.overlay_terms.specs.Commands.{is_derived}
use Rattle.overlay_terms.specs.Histories.{Tile, pieces, oversize}
use Rattle.exact_point.specs.declared.point_name.PointName.{PointName}
use Rattle.exact_point.specs.declared.point_name.PointName.TheVariants.{Vertex, Cross, Border}
use Rattle.commit_plan.specs.Same.{same_tree, same_rings, same_content, same_point_name, same_numbers, same_ends, same_tile, SameIsEqual}

-- two tests of one thing say the same
pub same_tests : {P : Type 0} (r t : Bool) → Decides r P → Decides t P → r ≡ t
same_tests true true d e = refl
same_tests true false d e = absurd (false≢true (e.1 (d.0 refl)))
same_tests false true d e = absurd (false≢true (d.1 (e.0 refl)))
same_tests false false d e = refl

whole_decides : (a b : WholePoint) → Decides (same_whole a b) (a ≡ b)
whole_decides a b = (
  λ h.
      let parts = and_parts (int_eq a.x b.x) (int_eq a.y b.y) h in
      λ i. record { x = (Decides-int_eq a.x b.x).0 parts.0 i; y = (Decides-int_eq a.y b.y).0 parts.1 i },
  λ e. and_from _ _ ((Decides-int_eq a.x b.x).1 (ap (λ p. p.x) e)) ((Decides-int_eq a.y b.y).1 (ap (λ p. p.y) e)),
)

name_decides : (a b : Name) → Decides (bytes_eq a b) (a ≡ b)
name_decides a b = (same_name a b, λ e. ap (bytes_eq a) (sym e) ∙ name_itself a)

operation_decides : (o p : Operation) → Decides (same_operation o p) (o ≡ p)
operation_decides o p = (
  λ h. sym (back o) ∙ ap operation_at ((Decides-eqb (operation_number o) (operation_number p)).0 h) ∙ back p,
  λ e. (Decides-eqb (operation_number o) (operation_number p)).1 (ap operation_number e),
)

-- what a tree is made of, by which two are told apart
abbrev is_leaf : Tree Name → Bool
is_leaf (leaf a) = true
is_leaf (combine o l r) = false

abbrev leaf_or : Name → Tree Name → Name
leaf_or n (leaf a) = a
leaf_or n (combine o l r) = n

abbrev operation_of : Tree Name → Operation
operation_of (leaf a) = intersection
operation_of (combine o l r) = o

abbrev left_of : Tree Name → Tree Name
left_of (leaf a) = leaf a
left_of (combine o l r) = l

abbrev right_of : Tree Name → Tree Name
right_of (leaf a) = leaf a
right_of (combine o l r) = r

pub tree_decides : (a b : Tree Name) → Decides (same_tree a b) (a ≡ b)
tree_decides (leaf a) (leaf b) = (λ h. ap leaf ((name_decides a b).0 h), λ e. (name_decides a b).1 (ap (leaf_or a) e))
tree_decides (leaf a) (combine p m s) = (λ h. absurd (false≢true h), λ e. sym (ap is_leaf e))
tree_decides (combine o l r) (leaf b) = (λ h. absurd (false≢true h), λ e. ap is_leaf e)
tree_decides (combine o l r) (combine p m s) = (
  λ h.
      let parts = and_parts (same_operation o p && same_tree l m) (same_tree r s) h in
      let front = and_parts (same_operation o p) (same_tree l m) parts.0 in
      λ i. combine ((operation_decides o p).0 front.0 i) ((tree_decides l m).0 front.1 i)
      ((tree_decides r s).0 parts.1 i),
  λ e. and_from _ _
      (and_from _ _ ((operation_decides o p).1 (ap operation_of e)) ((tree_decides l m).1 (ap left_of e)))
      ((tree_decides r s).1 (ap right_of e)),
)

rings_decides : (a b : List (List WholePoint)) → Decides (same_rings a b) (a ≡ b)
rings_decides a b = pointwise_decides (pointwise_decides whole_decides) a b

abbrev rings_or : List (List WholePoint) → Content → List (List WholePoint)
rings_or r (base a) = a
rings_or r (derived t) = r

abbrev tree_or : Tree Name → Content → Tree Name
tree_or t (base a) = t
tree_or t (derived s) = s

pub content_decides : (a b : Content) → Decides (same_content a b) (a ≡ b)
content_decides (base a) (base b) = (λ h. ap base ((rings_decides a b).0 h), λ e. (rings_decides a b).1 (ap (rings_or a) e))
content_decides (base a) (derived t) = (λ h. absurd (false≢true h), λ e. ap is_derived e)
content_decides (derived s) (base b) = (λ h. absurd (false≢true h), λ e. sym (ap is_derived e))
content_decides (derived s) (derived t) = (λ h. ap derived ((tree_decides s t).0 h), λ e. (tree_decides s t).1 (ap (tree_or s) e))

numbers_decide : (p q : Point) → Decides (same_numbers p q) (p ≡ q)
numbers_decide p q = (
  λ h.
      let parts = and_parts (int_eq p.x q.x && int_eq p.y q.y) (int_eq p.w q.w) h in
      let front = and_parts (int_eq p.x q.x) (int_eq p.y q.y) parts.0 in
      λ i. record {
        x = (Decides-int_eq p.x q.x).0 front.0 i;
        y = (Decides-int_eq p.y q.y).0 front.1 i;
        w = (Decides-int_eq p.w q.w).0 parts.1 i;
      },
  λ e. and_from _ _
      (and_from _ _ ((Decides-int_eq p.x q.x).1 (ap (λ z. z.x) e)) ((Decides-int_eq p.y q.y).1 (ap (λ z. z.y) e)))
      ((Decides-int_eq p.w q.w).1 (ap (λ z. z.w) e)),
)

ends_decide : (a b : Point × Point) → Decides (same_ends a b) (a ≡ b)
ends_decide a b = (
  λ h.
      let parts = and_parts (same_numbers a.0 b.0) (same_numbers a.1 b.1) h in
      λ i. ((numbers_decide a.0 b.0).0 parts.0 i, (numbers_decide a.1 b.1).0 parts.1 i),
  λ e. and_from _ _ ((numbers_decide a.0 b.0).1 (ap (λ z. z.0) e)) ((numbers_decide a.1 b.1).1 (ap (λ z. z.1) e)),
)

abbrev ends_or : List (Point × Point) → Tile → List (Point × Point)
ends_or l (pieces a) = a
ends_or l oversize = l

abbrev has_pieces : Tile → Bool
has_pieces (pieces a) = true
has_pieces oversize = false

pub tile_decides : (a b : Tile) → Decides (same_tile a b) (a ≡ b)
tile_decides (pieces a) (pieces b) = (
  λ h. ap pieces ((pointwise_decides ends_decide a b).0 h),
  λ e. (pointwise_decides ends_decide a b).1 (ap (ends_or a) e),
)
tile_decides (pieces a) oversize = (λ h. absurd (false≢true h), λ e. sym (ap has_pieces e))
tile_decides oversize (pieces b) = (λ h. absurd (false≢true h), λ e. ap has_pieces e)
tile_decides oversize oversize = (λ h. refl, λ e. refl)

pub same_is_equal : SameIsEqual
same_is_equal = record { contents = content_decides; tiles = tile_decides }

-- ---- names of ends

-- names that pass the test are one
pub one_name : (a b : PointName) → same_point_name a b ≡ true → a ≡ b
one_name (Vertex p) (Vertex q) is = ap Vertex ((whole_decides p q).0 is)
one_name (Vertex p) (Cross c d) is = absurd (false≢true is)
one_name (Vertex p) (Border t l) is = absurd (false≢true is)
one_name (Cross a b) (Vertex q) is = absurd (false≢true is)
one_name (Cross a b) (Cross c d) is =
    let parts = and_parts (same_segment a c) (same_segment b d) is in
    λ i. Cross ((same_segment-Decides a c).0 parts.0 i) ((same_segment-Decides b d).0 parts.1 i)
one_name (Cross a b) (Border t l) is = absurd (false≢true is)
one_name (Border s k) (Vertex q) is = absurd (false≢true is)
one_name (Border s k) (Cross c d) is = absurd (false≢true is)
one_name (Border s k) (Border t l) is =
    let parts = and_parts (same_segment s t) (k == l) is in
    λ i. Border ((same_segment-Decides s t).0 parts.0 i) ((Decides-eqb k l).0 parts.1 i)

-- ends of equal names are the same
pub named_ends : (a b : Point × Point) → a ≡ b → true ≡ same_ends a b
named_ends a b e = sym ((ends_decide a b).1 e)

-- the test of two expressions
pub reported_same : (r : Bool) (x y s t : Tree Name) → x ≡ s → y ≡ t → Decides r (x ≡ y) → r ≡ same_tree s t
reported_same r x y s t e f d =
    same_tests r (same_tree s t) (λ h. sym e ∙ d.0 h ∙ f, λ q. d.1 (e ∙ q ∙ sym f)) (tree_decides s t)
