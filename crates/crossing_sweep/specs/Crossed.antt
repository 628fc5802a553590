-- What one pass over a column finds: the tile or that it has too many pieces, the nodes, and the pairs of
-- neighbours that it has tested.
use Rattle.std.specs.Prelude.{◌≡◌, ℕ, ◌+◌, ◌*◌, ◌<◌, ◌≤◌, ◌<ℤ◌, ◌*ℤ◌, ◌≤ℤ◌, []}
use Rattle.std.specs.Prelude.{pos, true, false, Bool, IsTrue, List, map, length, All, AllPairs, Any}
use Rattle.std.specs.declared.cmp.Ordering.TheVariants.{Less}
use Rattle.overlay_terms.specs.Plane.{Point, Segment, point_cmp, is_on}
use Rattle.overlay_terms.specs.Column.{border}
use Rattle.overlay_terms.specs.Histories.{oversize, IsTileAt}
use Rattle.overlay_terms.specs.Tiles.{Input, is_end, is_node, over_of, IsTileOf}
use Rattle.overlay_terms.specs.Layers.{Marked}
use Rattle.overlay_terms.specs.Trees.{Steps}
use Rattle.exact_point.specs.Crossing.{IsCrossingOf}
use Rattle.exact_point.specs.PlaceOf.{place_of}
use Rattle.exact_point.specs.PointName.{HasPlace}
use Rattle.exact_point.specs.declared.point_name.PointName.{PointName}
use Rattle.arrange.specs.Arrangement.{input_segments}
use Rattle.arrange.specs.Units.{IsUnit}
use Rattle.crossing_sweep.specs.Queue.{IsQueued}
use Rattle.crossing_sweep.specs.Rows.{count_settled}
use Rattle.crossing_sweep.specs.NodeNames.{name_at, IsNamed, named_ends, IsNameAmong, AreNumbered}
use Rattle.crossing_sweep.specs.declared.node_name.NodeName.{NodeName}
use Rattle.crossing_sweep.specs.declared.row.Row.{Row}
use Rattle.crossing_sweep.specs.declared.pass.Crossed.{Crossed}

-- a node of the closed column
pub record IsNodeIn (input : Input) (p : Point) : Type 0 where
  pub positive : pos 0 <ℤ p.w
  pub node : IsTrue (is_node (input_segments input) p)
  pub from : (border input.column *ℤ p.w) ≤ℤ p.x
  pub up_to : p.x ≤ℤ (border (input.column + 1) *ℤ p.w)

-- a node strictly between the borders of the column that is no end of a segment
pub record IsInner (input : Input) (p : Point) : Type 0 where
  pub positive : pos 0 <ℤ p.w
  pub node : IsTrue (is_node (input_segments input) p)
  pub after_border : (border input.column *ℤ p.w) <ℤ p.x
  pub before_border : p.x <ℤ (border (input.column + 1) *ℤ p.w)
  pub no_end : is_end (input_segments input) p ≡ false

-- one of some pairs of segments crosses at a place
abbrev pub IsCrossingAmong : List (Segment × Segment) → Point → Type 0
IsCrossingAmong tests p = Any (λ t. IsCrossingOf t.0 t.1 p) tests

-- both segments of a pair are units
abbrev pub IsUnitPair : List Marked → Segment × Segment → Type 0
IsUnitPair marked t = IsUnit marked t.0 × IsUnit marked t.1

-- the nodes of a row have names there, and these places on its support, the first before the second
pub record IsRowSpan (names : List NodeName) (row : Row) : Type 0 where
  pub from_known : IsNamed names row.first
  pub to_known : IsNamed names row.last
  pub from_named : HasPlace (name_at names row.first)
  pub to_named : HasPlace (name_at names row.last)
  pub from_positive : pos 0 <ℤ (place_of (name_at names row.first)).w
  pub to_positive : pos 0 <ℤ (place_of (name_at names row.last)).w
  pub from_on : IsTrue (is_on row.support (place_of (name_at names row.first)))
  pub to_on : IsTrue (is_on row.support (place_of (name_at names row.last)))
  pub in_order : point_cmp (place_of (name_at names row.first)) (place_of (name_at names row.last)) ≡ Less

-- a row says what the layer is just over its piece, or left of a vertical one
abbrev pub HasSide : List Marked → Steps → List NodeName → Row → Type 0
HasSide marked steps names row =
    row.over ≡ over_of marked steps (place_of (name_at names row.first)) (place_of (name_at names row.last))

-- nodes of the closed column in their order, each once, and all of them where a pass goes to the end
pub record AreNodes (input : Input) (to_the_end : Type 0) (places : List Point) : Type 0 where
  pub ordered : AllPairs (λ a b. point_cmp a b ≡ Less) places
  pub nodes : All (IsNodeIn input) places
  pub all : to_the_end → (p : Point) → IsNodeIn input p → IsQueued places p

-- the count of such nodes
pub record AreCounted (input : Input) (to_the_end : Type 0) (count : ℕ) : Type 0 where
  pub places : List Point
  pub counted : count ≡ length places
  pub are_nodes : AreNodes input to_the_end places

-- the rows, the names that they need, the count of nodes and the tests of a pass that stops after more rows than a cap,
-- so that no more of them than the cap end before the last node; it lists its tests or not
pub record HasFound (input : Input) (cap : ℕ) (listed : Bool) (rows : List Row) (names : List NodeName) (nodes : ℕ)
    (tests : List (Segment × Segment)) : Type 0 where
  pub spans : All (IsRowSpan names) rows
  pub sides : All (HasSide input.marked input.steps names) rows
  pub numbered : AreNumbered names
  pub tile : length rows ≤ cap → IsTileOf input.marked input.steps input.column (map (named_ends names) rows)
  pub too_many : cap < length rows → IsTileAt cap input oversize
  pub stops : count_settled nodes rows ≤ cap
  -- the names of all nodes
  pub all : List PointName
  pub among : All (IsNameAmong all) names
  pub counted : nodes ≡ length all
  pub named : All HasPlace all
  pub are_nodes : AreNodes input (length rows ≤ cap) (map place_of all)
  pub few : length tests ≤ 2 * nodes
  pub pairs : All (IsUnitPair input.marked) tests
  pub unlisted : listed ≡ false → tests ≡ []
  pub crossings : listed ≡ true → length rows ≤ cap → (p : Point) → IsInner input p → IsCrossingAmong tests p

-- so has the code's
abbrev pub IsCrossed : Input → ℕ → Bool → Crossed → Type 0
IsCrossed input cap listed found =
    HasFound input cap listed found.rows.items found.names.items found.nodes found.tests.items
