-- What one pass over a strip finds: as over a column, and so the tile of each of its columns.
use Rattle.std.specs.Prelude.{◌≡◌, ℕ, ◌*◌, ◌≤◌, ◌<ℤ◌, ◌*ℤ◌, ◌≤ℤ◌, []}
use Rattle.std.specs.Prelude.{pos, true, false, Bool, IsTrue, List, map, filter, length, All, AllPairs}
use Rattle.std.specs.declared.cmp.Ordering.TheVariants.{Less}
use Rattle.overlay_terms.specs.Plane.{Point, Segment, point_cmp}
use Rattle.overlay_terms.specs.Column.{border, is_in_column}
use Rattle.overlay_terms.specs.Tiles.{is_end, is_on_border, is_node, IsTileOf}
use Rattle.exact_point.specs.PlaceOf.{place_of}
use Rattle.exact_point.specs.PointName.{HasPlace}
use Rattle.exact_point.specs.declared.point_name.PointName.{PointName}
use Rattle.crossing_sweep.specs.StripInput.{StripInput, segments_in, part, IsStripInput, AreStripSome, IsStripTile}
use Rattle.crossing_sweep.specs.Queue.{IsUpTo, IsQueued}
use Rattle.crossing_sweep.specs.Rows.{count_settled}
use Rattle.crossing_sweep.specs.NodeNames.{named_ends, IsNameAmong, AreNumbered}
use Rattle.crossing_sweep.specs.Crossed.{IsCrossingAmong, IsUnitPair, IsRowSpan, HasSide}
use Rattle.crossing_sweep.specs.declared.node_name.NodeName.{NodeName}
use Rattle.crossing_sweep.specs.declared.row.Row.{Row}
use Rattle.crossing_sweep.specs.declared.pass.Crossed.{Crossed}

-- a node of the closed strip
pub record IsNodeInStrip (input : StripInput) (p : Point) : Type 0 where
  pub positive : pos 0 <ℤ p.w
  pub node : IsTrue (is_node (segments_in input) p)
  pub from : (border input.strip.first *ℤ p.w) ≤ℤ p.x
  pub up_to : IsUpTo input.strip p

-- one that is no end of a segment and on no border
pub record IsInnerInStrip (input : StripInput) (p : Point) : Type 0 where
  pub is : IsNodeInStrip input p
  pub no_end : is_end (segments_in input) p ≡ false
  pub no_border : is_on_border (segments_in input) p ≡ false

-- nodes of the closed strip in their order, each once, and all of them where a pass goes to the end
pub record AreStripNodes (input : StripInput) (to_the_end : Type 0) (places : List Point) : Type 0 where
  pub ordered : AllPairs (λ a b. point_cmp a b ≡ Less) places
  pub nodes : All (IsNodeInStrip input) places
  pub all : to_the_end → (p : Point) → IsNodeInStrip input p → IsQueued places p

-- the rows, the names that they need, the count of nodes and the tests of a pass that stops after more rows than a cap,
-- so that no more of them than the cap end before the last node; it lists its tests or not
pub record HasStripFound (input : StripInput) (cap : ℕ) (listed : Bool) (rows : List Row) (names : List NodeName)
    (nodes : ℕ) (tests : List (Segment × Segment)) : Type 0 where
  pub spans : All (IsRowSpan names) rows
  pub sides : All (HasSide input.marked input.steps names) rows
  pub numbered : AreNumbered names
  pub are_some : AreStripSome input (map (named_ends names) rows)
  pub tile : length rows ≤ cap → IsStripTile input (map (named_ends names) rows)
  pub stops : count_settled nodes rows ≤ cap
  -- the names of all nodes
  pub all : List PointName
  pub among : All (IsNameAmong all) names
  pub counted : nodes ≡ length all
  pub named : All HasPlace all
  pub are_nodes : AreStripNodes input (length rows ≤ cap) (map place_of all)
  pub few : length tests ≤ 2 * nodes
  pub pairs : All (IsUnitPair input.marked) tests
  pub unlisted : listed ≡ false → tests ≡ []
  pub crossings : listed ≡ true → length rows ≤ cap → (p : Point) → IsInnerInStrip input p → IsCrossingAmong tests p

-- so has the code's
abbrev pub IsStripCrossed : StripInput → ℕ → Bool → Crossed → Type 0
IsStripCrossed input cap listed found =
    HasStripFound input cap listed found.rows.items found.names.items found.nodes found.tests.items

-- the pieces of a column's tile are those of the strip's that begin there, in their order
abbrev pub StripParts : Type 0
StripParts =
    (input : StripInput) (tile : List (Point × Point)) (k : ℕ) → IsStripInput input → IsStripTile input tile
    → input.strip.first ≤ k → k ≤ input.strip.last →
    IsTileOf (part input k).marked (part input k).steps (part input k).column (filter (λ a. is_in_column k a.0) tile)
