-- The names of some of the nodes that a pass has come to, each with the number of its node among all.
use Rattle.std.specs.Prelude.{◌≡◌, ℕ, ◌<◌, ◌==◌, [], ◌∷◌, if◌then◌else◌}
use Rattle.std.specs.Prelude.{pos, true, List, length, get_or, All, AllPairs, Contains}
use Rattle.overlay_terms.specs.Plane.{Point}
use Rattle.exact_point.specs.PlaceOf.{place_of}
use Rattle.exact_point.specs.declared.point_name.PointName.{PointName}
use Rattle.exact_point.specs.declared.point_name.PointName.TheVariants.{Vertex}
use Rattle.crossing_sweep.specs.declared.member.Member.{Member}
use Rattle.crossing_sweep.specs.declared.node_name.NodeName.{NodeName}
use Rattle.crossing_sweep.specs.declared.row.Row.{Row}

-- the name that is taken where there is none
abbrev pub no_name : PointName
no_name = Vertex (record { x = pos 0; y = pos 0 })

-- the name of the node with a number, where it is there
abbrev pub name_at : List NodeName → ℕ → PointName
name_at [] number = no_name
name_at (e ∷ es) number = if e.number == number then e.name else name_at es number

-- the node with a number has a name there
abbrev pub IsNamed : List NodeName → ℕ → Type 0
IsNamed names number = (name : PointName) × Contains names (record { number = number; name = name })

-- the places of the ends of a row
abbrev pub named_ends : List NodeName → Row → Point × Point
named_ends names row = (place_of (name_at names row.first), place_of (name_at names row.last))

-- a name is that of the node with its number, of which some names are all
pub record IsNameAmong (all : List PointName) (node : NodeName) : Type 0 where
  pub known : node.number < length all
  pub same : node.name ≡ get_or all node.number no_name

-- in the order of the nodes
abbrev pub AreNumbered : List NodeName → Type 0
AreNumbered names = AllPairs (λ a b. a.number < b.number) names

-- some of all names of nodes in their order, among them those of the ends of each row, and of the node where a member
-- begins that may make one
pub record AreKept (all : List PointName) (status : List Member) (rows : List Row)
    (names : List NodeName) : Type 0 where
  pub among : All (IsNameAmong all) names
  pub numbered : AreNumbered names
  pub row_ends : All (λ row. IsNamed names row.first × IsNamed names row.last) rows
  pub begins : All (λ m. m.differs ≡ true → IsNamed names m.begin) status
