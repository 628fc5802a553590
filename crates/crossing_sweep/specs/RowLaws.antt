-- Laws of what a pass carries along: at the left border, from node to node, and at the end.
use Rattle.std.specs.Prelude.{◌≡◌, ℕ, ℤ, ◌<◌, ◌≤◌, ◌++◌, [], ◌∷◌, ◌≤ℤ◌, ◌<ℤ◌, ◌*ℤ◌}
use Rattle.std.specs.Prelude.{pos, IsTrue, List, length, map, AllPairs}
use Rattle.std.specs.declared.cmp.Ordering.TheVariants.{Less}
use Rattle.overlay_terms.specs.Plane.{Point, Segment}
use Rattle.overlay_terms.specs.Column.{border}
use Rattle.overlay_terms.specs.Histories.{oversize, IsTileAt}
use Rattle.overlay_terms.specs.Tiles.{Input, is_node, pair_cmp}
use Rattle.overlay_terms.specs.TileLaws.{IsInput}
use Rattle.arrange.specs.Units.{IsUnit, AreUnits, cover_bits}
use Rattle.arrange.specs.declared.unit.Unit.{Unit}
use Rattle.crossing_sweep.specs.StripInput.{StripInput, IsStripInput, segments_in, IsStripTile, AreStripSome, strip_of}
use Rattle.crossing_sweep.specs.Leaning.{IsSteep, IsSmall}
use Rattle.crossing_sweep.specs.Queue.{GoesOn, IsUpTo, IsQueued}
use Rattle.crossing_sweep.specs.Passing.{HasCome, IsStepTo}
use Rattle.crossing_sweep.specs.Beginning.{foot}
use Rattle.crossing_sweep.specs.Member.{segs_of}
use Rattle.crossing_sweep.specs.PassState.{nodes_max}
use Rattle.crossing_sweep.specs.Rows.{ArePassed, is_one_of, under_unit, up_to_unit}
use Rattle.crossing_sweep.specs.Rows.{row_ends, AreSorted, rows_of, BeginAt, Carries}
use Rattle.crossing_sweep.specs.declared.member.Member.{Member}
use Rattle.crossing_sweep.specs.declared.row.Row.{Row}

-- just after a place where a unit goes on, what lies up to the unit is what lies under it, changed by the layers with
-- an odd number of segments over it
abbrev pub UnitChangesMasks : Type 0
UnitChangesMasks =
    (n : ℤ) (input : StripInput) (u : Segment) (q : Point) (k : ℕ) → IsSteep n → IsStripInput input
    → IsUnit input.marked u → IsSmall q → GoesOn u q →
    up_to_unit n input u q k ≡ is_one_of (under_unit n input u q k) (cover_bits input.marked u k)

-- a pass begins with no place passed, nothing entered and no row: the boundary in the strip
-- ends after the foot of the strip
abbrev pub RowsBegin : Type 0
RowsBegin = (n : ℤ) (input : StripInput) → IsStripInput input → Carries n input (foot input.strip) [] [] []

-- one step of a pass, to the next node r: it is passed, the members of the bundle that differ become rows that end
-- there, those that stay or enter begin there, and the others go on with what they carry
abbrev pub RowsGoOn : Type 0
RowsGoOn =
    (n : ℤ) (input : StripInput) (units : List Unit) (q r : Point) (under bundle over stay : List Member)
    (entering rest : List Segment) (keys new passed : List Point) (rows : List Row) (end : ℕ) →
    IsSteep n → IsStripInput input → AreUnits input.marked units →
    HasCome n (segments_in input) (map (λ (u : Unit). u.seg) units) input.strip q
    (segs_of under ++ segs_of bundle ++ segs_of over) (entering ++ rest) (r ∷ keys) →
    IsStepTo (segments_in input) input.strip r (segs_of under) (segs_of bundle) (segs_of over) entering
    (segs_of stay) rest keys new →
    BeginAt input units r passed under stay end → Carries n input q passed (under ++ bundle ++ over) rows →
    Carries n input r (passed ++ r ∷ []) (under ++ stay ++ over) (rows ++ rows_of end bundle)

-- nodes have their numbers in the order of their places: rows in the order of the numbers
-- are in that of a tile, each once
abbrev pub RowsInOrder : Type 0
RowsInOrder =
    (n : ℤ) (input : StripInput) (q : Point) (passed : List Point) (entered : List Member) (rows sorted : List Row)
    → Carries n input q passed entered rows → AreSorted rows sorted →
    AllPairs (λ a b. pair_cmp a b ≡ Less) (map (row_ends passed) sorted)

-- at each place the rows are some pieces of the tile
abbrev pub RowsAreSome : Type 0
RowsAreSome =
    (n : ℤ) (input : StripInput) (q : Point) (passed : List Point) (entered : List Member) (rows sorted : List Row)
    → Carries n input q passed entered rows → AreSorted rows sorted →
    AreStripSome input (map (row_ends passed) sorted)

-- so where they are more than a cap and the strip is one column, its tile has too many
abbrev pub RowsTellOversize : Type 0
RowsTellOversize =
    (n : ℤ) (input : Input) (q : Point) (passed : List Point) (entered : List Member) (rows sorted : List Row) (cap : ℕ)
    → IsInput input → Carries n (strip_of input) q passed entered rows → AreSorted rows sorted →
    cap < length rows → IsTileAt cap input oversize

-- sorted rows are the tile, and the places passed are those of all nodes of the closed strip
pub record AreAll (input : StripInput) (passed : List Point) (sorted : List Row) : Type 0 where
  pub tile : IsStripTile input (map (row_ends passed) sorted)
  pub nodes : (p : Point) → pos 0 <ℤ p.w → IsTrue (is_node (segments_in input) p)
      → (border input.strip.first *ℤ p.w) ≤ℤ p.x → IsUpTo input.strip p → IsQueued passed p

-- so it is where no place is found ahead
abbrev pub RowsEnd : Type 0
RowsEnd =
    (n : ℤ) (input : StripInput) (units : List Unit) (q : Point) (entered : List Member) (to_come : List Segment)
    (passed : List Point) (rows sorted : List Row) → IsSteep n → IsStripInput input →
    HasCome n (segments_in input) (map (λ (u : Unit). u.seg) units) input.strip q (segs_of entered) to_come []
    → Carries n input q passed entered rows → AreSorted rows sorted →
    AreAll input passed sorted

-- the places passed are few: for each segment three by each, and one on each border
abbrev pub NodesAreFew : Type 0
NodesAreFew =
    (input : StripInput) (q : Point) (passed : List Point) → IsStripInput input
    → ArePassed (segments_in input) input.strip q passed → length passed ≤ nodes_max input
