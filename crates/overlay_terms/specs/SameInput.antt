-- Equality of definitions, steps, marked segments and inputs, as tests that decide it.
use Rattle.std.specs.Prelude.{◌≡◌, ℕ, ◌==◌, Bool, true, false, ◌&&◌}
use Rattle.std.specs.Ordering.{int_eq}
use Rattle.std.proofs.Common.{sym, ap, ◌∙◌, Decides}
use Rattle.std.specs.Cmp.Lexicographic.{pointwise, pointwise_decides}
use Rattle.std.proofs.lemmas.Bool.{and_parts, and_from, false≢true}
use Rattle.std.proofs.lemmas.Bool.Decides.{Decides-eqb, Decides-int_eq}
use Rattle.overlay_terms.specs.Plane.{WholePoint, Segment, same_whole}
use Rattle.overlay_terms.specs.Trees.{Operation, intersection, Tree, leaf, combine, Source, base_bit, definition, Steps}
use Rattle.overlay_terms.specs.TreeCode.{operation_number, operation_at, back}
use Rattle.overlay_terms.specs.Layers.{Marked}
use Rattle.overlay_terms.specs.Tiles.{Input}

-- the same operation
abbrev pub same_operation : Operation → Operation → Bool
same_operation o p = operation_number o == operation_number p

-- the same number of a base layer, or of a definition
abbrev pub same_source : Source → Source → Bool
same_source (base_bit j) (base_bit k) = j == k
same_source (base_bit j) (definition k) = false
same_source (definition j) (base_bit k) = false
same_source (definition j) (definition k) = j == k

-- the same operations over the same leaves
abbrev pub same_definition : Tree Source → Tree Source → Bool
same_definition (leaf a) (leaf b) = same_source a b
same_definition (leaf a) (combine p m s) = false
same_definition (combine o l r) (leaf b) = false
same_definition (combine o l r) (combine p m s) = same_operation o p && same_definition l m && same_definition r s

-- as many base layers, and the same definitions in the same order
abbrev pub same_steps : Steps → Steps → Bool
same_steps a b = a.bases == b.bases && pointwise same_definition a.definitions b.definitions

-- the same two ends
abbrev pub same_segment : Segment → Segment → Bool
same_segment s t = same_whole s.left t.left && same_whole s.right t.right

-- the same segment of the same base layer
abbrev pub same_marked : Marked → Marked → Bool
same_marked m n = m.layer == n.layer && same_segment m.segment n.segment

-- the same column, the same segments in the same order, and the same definitions
abbrev pub same_input : Input → Input → Bool
same_input a b = a.column == b.column && pointwise same_marked a.marked b.marked && same_steps a.steps b.steps

-- what a source and a tree are made of, by which two are compared
abbrev number_of : Source → ℕ
number_of (base_bit k) = k
number_of (definition k) = k

abbrev is_base : Source → Bool
is_base (base_bit k) = true
is_base (definition k) = false

abbrev is_leaf : Tree Source → Bool
is_leaf (leaf a) = true
is_leaf (combine o l r) = false

abbrev leaf_of : Tree Source → Source
leaf_of (leaf a) = a
leaf_of (combine o l r) = base_bit 0

abbrev operation_of : Tree Source → Operation
operation_of (leaf a) = intersection
operation_of (combine o l r) = o

abbrev left_of : Tree Source → Tree Source
left_of (leaf a) = leaf a
left_of (combine o l r) = l

abbrev right_of : Tree Source → Tree Source
right_of (leaf a) = leaf a
right_of (combine o l r) = r

same_operation-Decides : (o p : Operation) → Decides (same_operation o p) (o ≡ p)
same_operation-Decides o p = (
  λ h. sym (back o) ∙ ap operation_at ((Decides-eqb (operation_number o) (operation_number p)).0 h) ∙ back p,
  λ e. (Decides-eqb (operation_number o) (operation_number p)).1 (ap operation_number e),
)

same_source-Decides : (a b : Source) → Decides (same_source a b) (a ≡ b)
same_source-Decides (base_bit j) (base_bit k) =
    (λ h. ap base_bit ((Decides-eqb j k).0 h), λ e. (Decides-eqb j k).1 (ap number_of e))
same_source-Decides (base_bit j) (definition k) = (λ h. absurd (false≢true h), λ e. sym (ap is_base e))
same_source-Decides (definition j) (base_bit k) = (λ h. absurd (false≢true h), λ e. ap is_base e)
same_source-Decides (definition j) (definition k) =
    (λ h. ap definition ((Decides-eqb j k).0 h), λ e. (Decides-eqb j k).1 (ap number_of e))

pub same_definition-Decides : (a b : Tree Source) → Decides (same_definition a b) (a ≡ b)
same_definition-Decides (leaf a) (leaf b) =
    (λ h. ap leaf ((same_source-Decides a b).0 h), λ e. (same_source-Decides a b).1 (ap leaf_of e))
same_definition-Decides (leaf a) (combine p m s) = (λ h. absurd (false≢true h), λ e. sym (ap is_leaf e))
same_definition-Decides (combine o l r) (leaf b) = (λ h. absurd (false≢true h), λ e. ap is_leaf e)
same_definition-Decides (combine o l r) (combine p m s) = (
  λ h.
      let parts = and_parts (same_operation o p && same_definition l m) (same_definition r s) h in
      let front = and_parts (same_operation o p) (same_definition l m) parts.0 in
      λ i. combine ((same_operation-Decides o p).0 front.0 i) ((same_definition-Decides l m).0 front.1 i)
      ((same_definition-Decides r s).0 parts.1 i),
  λ e. and_from _ _ (and_from _ _ ((same_operation-Decides o p).1 (ap operation_of e))
      ((same_definition-Decides l m).1 (ap left_of e))) ((same_definition-Decides r s).1 (ap right_of e)),
)

-- two lists of steps pass the test exactly where they are equal
pub same_steps-Decides : (a b : Steps) → Decides (same_steps a b) (a ≡ b)
same_steps-Decides a b = (
  λ h.
      let parts = and_parts (a.bases == b.bases) (pointwise same_definition a.definitions b.definitions) h in
      λ i. record {
        bases = (Decides-eqb a.bases b.bases).0 parts.0 i;
        definitions = (pointwise_decides same_definition-Decides a.definitions b.definitions).0 parts.1 i;
      },
  λ e. and_from _ _ ((Decides-eqb a.bases b.bases).1 (ap (λ s. s.bases) e))
      ((pointwise_decides same_definition-Decides a.definitions b.definitions).1 (ap (λ s. s.definitions) e)),
)

same_whole-Decides : (a b : WholePoint) → Decides (same_whole a b) (a ≡ b)
same_whole-Decides a b = (
  λ h.
      let parts = and_parts (int_eq a.x b.x) (int_eq a.y b.y) h in
      λ i. record { x = (Decides-int_eq a.x b.x).0 parts.0 i; y = (Decides-int_eq a.y b.y).0 parts.1 i },
  λ e. and_from _ _ ((Decides-int_eq a.x b.x).1 (ap (λ p. p.x) e)) ((Decides-int_eq a.y b.y).1 (ap (λ p. p.y) e)),
)

pub same_segment-Decides : (s t : Segment) → Decides (same_segment s t) (s ≡ t)
same_segment-Decides s t = (
  λ h.
      let parts = and_parts (same_whole s.left t.left) (same_whole s.right t.right) h in
      λ i. record {
        left = (same_whole-Decides s.left t.left).0 parts.0 i;
        right = (same_whole-Decides s.right t.right).0 parts.1 i;
      },
  λ e. and_from _ _ ((same_whole-Decides s.left t.left).1 (ap (λ r. r.left) e))
      ((same_whole-Decides s.right t.right).1 (ap (λ r. r.right) e)),
)

same_marked-Decides : (m n : Marked) → Decides (same_marked m n) (m ≡ n)
same_marked-Decides m n = (
  λ h.
      let parts = and_parts (m.layer == n.layer) (same_segment m.segment n.segment) h in
      λ i. record {
        layer = (Decides-eqb m.layer n.layer).0 parts.0 i;
        segment = (same_segment-Decides m.segment n.segment).0 parts.1 i;
      },
  λ e. and_from _ _ ((Decides-eqb m.layer n.layer).1 (ap (λ r. r.layer) e))
      ((same_segment-Decides m.segment n.segment).1 (ap (λ r. r.segment) e)),
)

-- two inputs pass the test exactly where they are equal
pub same_input-Decides : (a b : Input) → Decides (same_input a b) (a ≡ b)
same_input-Decides a b = (
  λ h.
      let parts = and_parts (a.column == b.column && pointwise same_marked a.marked b.marked)
      (same_steps a.steps b.steps) h in
      let front = and_parts (a.column == b.column) (pointwise same_marked a.marked b.marked) parts.0 in
      λ i. record {
        column = (Decides-eqb a.column b.column).0 front.0 i;
        marked = (pointwise_decides same_marked-Decides a.marked b.marked).0 front.1 i;
        steps = (same_steps-Decides a.steps b.steps).0 parts.1 i;
      },
  λ e. and_from _ _
      (and_from _ _ ((Decides-eqb a.column b.column).1 (ap (λ r. r.column) e))
      ((pointwise_decides same_marked-Decides a.marked b.marked).1 (ap (λ r. r.marked) e)))
      ((same_steps-Decides a.steps b.steps).1 (ap (λ r. r.steps) e)),
)
