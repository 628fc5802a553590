-- What the sweep keeps from piece to piece.
use Rattle.std.specs.Prelude.{◌≡◌, ℕ, ◌+◌, ◌<◌, ◌*ℤ◌, ◌<ℤ◌, ◌≤ℤ◌}
use Rattle.std.specs.Prelude.{pos, true, false, List, take, length, get_or, All, Any, Contains}
use Rattle.std.specs.List.{AllPairs, insert}
use Rattle.std.specs.declared.cmp.Ordering.TheVariants.{Less}
use Rattle.overlay_terms.specs.Plane.{Point, whole_cmp}
use Rattle.overlay_terms.specs.Layers.{layers_max}
use Rattle.overlay_terms.specs.Trees.{mask_bits}
use Rattle.overlay_terms.specs.Tiles.{Input, midpoint, over_bits, is_vertical}
use Rattle.overlay_terms.specs.TileLaws.{IsInput}
use Rattle.exact_point.specs.Place.{place}
use Rattle.exact_point.specs.PlaceOf.{place_of}
use Rattle.arrange.specs.Arrangement.{IsElementary, ComesBefore, ArePieces}
use Rattle.arrange.specs.declared.piece.Elementary.{Elementary}
use Rattle.tile_laws.specs.JustRight.{is_under}
use Rattle.sweep_line.specs.Label.{IsLabelled}
use Rattle.sweep_line.specs.Status.{goes_on}
use Rattle.sweep_line.specs.declared.labelled.Labelled.{Labelled}
use Rattle.sweep_line.specs.declared.status.StatusEntry.{StatusEntry}

-- an entry of the status is that of a piece: its end, its segment, and its over side by counting
pub record IsEntryOf (input : Input) (p : Elementary) (e : StatusEntry) : Type 0 where
  pub to : place e.to ≡ place_of p.to
  pub support : e.support ≡ p.support
  pub over : (k : ℕ) → k < layers_max
      → mask_bits e.over k ≡ over_bits input.marked (midpoint (place_of p.from) (place_of p.to)) k

-- from a place on one entry is under another wherever both go on
abbrev pub StandsUnder : Point → StatusEntry → StatusEntry → Type 0
StandsUnder q a b =
    (z : Point) → pos 0 <ℤ z.w → (q.x *ℤ z.w) ≤ℤ (z.x *ℤ q.w) → goes_on z a ≡ true → goes_on z b ≡ true
    → is_under a.support b.support z ≡ true

-- the status after some pieces: entries of these pieces, all that go on to the right of a
-- place, each under the later ones
pub record IsSwept (input : Input) (done : List Elementary) (q : Point) (status : List StatusEntry) : Type 0 where
  pub positive : pos 0 <ℤ q.w
  pub entries : All (λ e. Any (λ p. IsEntryOf input p e) done) status
  pub begun : All (λ p. ((place_of p.from).x *ℤ q.w) ≤ℤ (q.x *ℤ (place_of p.from).w)) done
  pub ahead : (e : Elementary) → IsElementary input e → All (λ p. ComesBefore p e) done
      → (q.x *ℤ (place_of e.from).w) ≤ℤ ((place_of e.from).x *ℤ q.w)
  pub members : (p : Elementary) → Contains done p → (q.x *ℤ (place_of p.to).w) <ℤ ((place_of p.to).x *ℤ q.w)
      → Any (λ e. IsEntryOf input p e) status
  pub ordered : AllPairs (StandsUnder q) status

-- the status after some pieces, wherever the sweep is
abbrev pub IsStatus : Input → List Elementary → List StatusEntry → Type 0
IsStatus input done status = (q : Point) × IsSwept input done q status

-- a piece begins: one that is not vertical is put into the status at its place
pub record Begins (place_there : ℕ) (l : Labelled) (old new : List StatusEntry) : Type 0 where
  pub ahead : whole_cmp l.piece.support.left l.piece.support.right ≡ Less
  pub upright : is_vertical l.piece.support ≡ true → new ≡ old
  pub slanted : is_vertical l.piece.support ≡ false
      → (x : StatusEntry) × (place x.to ≡ place_of l.piece.to) × (x.support ≡ l.piece.support) × (x.over ≡ l.over)
      × (new ≡ insert old place_there x)

-- what passing a piece does: it labels the piece, and leaves the status after it
abbrev pub Passes : Elementary → Labelled → List StatusEntry → List StatusEntry → Type 0
Passes e label old new =
    (input : Input) (pieces : List Elementary) (i : ℕ) → IsInput input → ArePieces input pieces → i < length pieces
    → get_or pieces i e ≡ e →
    IsStatus input (take i pieces) old
    → (label.piece ≡ e) × IsLabelled input label × IsStatus input (take (i + 1) pieces) new
