-- Equality of what a layer holds, and of tiles, as tests that decide it.
use Rattle.std.specs.Prelude.{◌≡◌, ◌==◌, Bool, true, false, ◌&&◌, List, bytes_eq}
use Rattle.std.specs.Ordering.{int_eq}
use Rattle.std.proofs.Common.{Decides}
use Rattle.std.specs.Cmp.Lexicographic.{pointwise}
use Rattle.overlay_terms.specs.Plane.{Point, WholePoint, same_whole}
use Rattle.overlay_terms.specs.Trees.{Tree, leaf, combine}
use Rattle.overlay_terms.specs.SameInput.{same_operation, same_segment}
use Rattle.overlay_terms.specs.Layers.{Name, Content, base, derived}
use Rattle.exact_point.specs.declared.point_name.PointName.{PointName}
use Rattle.exact_point.specs.declared.point_name.PointName.TheVariants.{Vertex, Cross, Border}
use Rattle.overlay_terms.specs.Histories.{Tile, pieces, oversize}

-- the same expression: the same operators over the same names, grouped alike
abbrev pub same_tree : Tree Name → Tree Name → Bool
same_tree (leaf a) (leaf b) = bytes_eq a b
same_tree (leaf a) (combine p m s) = false
same_tree (combine o l r) (leaf b) = false
same_tree (combine o l r) (combine p m s) = same_operation o p && same_tree l m && same_tree r s

-- the same rings in the same order, each with the same points in the same order
abbrev pub same_rings : List (List WholePoint) → List (List WholePoint) → Bool
same_rings a b = pointwise (pointwise same_whole) a b

-- the same rings, or the same expression
abbrev pub same_content : Content → Content → Bool
same_content (base a) (base b) = same_rings a b
same_content (base a) (derived t) = false
same_content (derived s) (base b) = false
same_content (derived s) (derived t) = same_tree s t

-- the same name of a place
abbrev pub same_point_name : PointName → PointName → Bool
same_point_name (Vertex p) (Vertex q) = same_whole p q
same_point_name (Vertex p) (Cross c d) = false
same_point_name (Vertex p) (Border t l) = false
same_point_name (Cross a b) (Vertex q) = false
same_point_name (Cross a b) (Cross c d) = same_segment a c && same_segment b d
same_point_name (Cross a b) (Border t l) = false
same_point_name (Border s k) (Vertex q) = false
same_point_name (Border s k) (Cross c d) = false
same_point_name (Border s k) (Border t l) = same_segment s t && (k == l)

-- the same numbers: more than the same place
abbrev pub same_numbers : Point → Point → Bool
same_numbers p q = int_eq p.x q.x && int_eq p.y q.y && int_eq p.w q.w

-- the same two ends of a piece
abbrev pub same_ends : Point × Point → Point × Point → Bool
same_ends a b = same_numbers a.0 b.0 && same_numbers a.1 b.1

-- the same pieces in the same order, or both too many
abbrev pub same_tile : Tile → Tile → Bool
same_tile (pieces a) (pieces b) = pointwise same_ends a b
same_tile (pieces a) oversize = false
same_tile oversize (pieces b) = false
same_tile oversize oversize = true

-- two values pass the test exactly where they are equal
pub record SameIsEqual : Type 0 where
  pub contents : (a b : Content) → Decides (same_content a b) (a ≡ b)
  pub tiles : (a b : Tile) → Decides (same_tile a b) (a ≡ b)
