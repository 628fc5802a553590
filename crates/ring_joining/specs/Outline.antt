-- Outlines: directed pieces put together to closed rings.
use Rattle.std.specs.Prelude.{◌≡◌, ℕ, ◌+◌, ◌-◌, ◌<◌, ◌==◌, Bool, List, length, get_or, true, count_by, flat_map, All, if◌then◌else◌}
use Rattle.ring_joining.specs.declared.piece.NumberedPiece.{NumberedPiece}

-- a piece that is taken where there is none
abbrev pub no_piece : NumberedPiece
no_piece = record { from = 0; to = 0; from_rank = 0; to_rank = 0 }

-- the piece with a number
abbrev pub piece_at : List NumberedPiece → ℕ → NumberedPiece
piece_at pieces i = get_or pieces i no_piece

-- the number in a place of a ring
abbrev pub in_ring : List ℕ → ℕ → ℕ
in_ring ring k = get_or ring k 0

-- pieces by their numbers, each from where the one before it leads, the first from where the last leads
pub record IsRing (pieces : List NumberedPiece) (ring : List ℕ) : Type 0 where
  pub some : 0 < length ring
  pub known : All (λ i. i < length pieces) ring
  pub meet : (k : ℕ) → k + 1 < length ring → (piece_at pieces (in_ring ring k)).to ≡ (piece_at pieces (in_ring ring (k + 1))).from
  pub closed : (piece_at pieces (in_ring ring (length ring - 1))).to ≡ (piece_at pieces (in_ring ring 0)).from

-- how often a piece is in some rings
abbrev pub times_in : List (List ℕ) → ℕ → ℕ
times_in rings i = count_by (λ j. j == i) (flat_map (λ ring. ring) rings)

-- rings of which each piece is in just one, once
pub record IsOutline (pieces : List NumberedPiece) (rings : List (List ℕ)) : Type 0 where
  pub each : All (IsRing pieces) rings
  pub once : (i : ℕ) → i < length pieces → times_in rings i ≡ 1

-- 1 where a flag is set
abbrev pub bit : Bool → ℕ
bit b = if b then 1 else 0

-- flags after the pieces of a ring were set, which were not before
abbrev pub AreSet : List Bool → List Bool → List ℕ → Type 0
AreSet old new ring =
    (length new ≡ length old) × ((i : ℕ) (d : Bool) → i < length old → bit (get_or new i d) ≡ bit (get_or old i d) + count_by (λ j. j == i) ring)

-- rings of pieces so far, with a flag for each piece that is in one, among them all below a number
pub record IsJoined (pieces : List NumberedPiece) (passed : List Bool) (rings : List (List ℕ)) (n : ℕ) : Type 0 where
  pub flags : length passed ≡ length pieces
  pub each : All (IsRing pieces) rings
  pub counted : (i : ℕ) (d : Bool) → i < length pieces → bit (get_or passed i d) ≡ times_in rings i
  pub before : (i : ℕ) (d : Bool) → i < n → i < length pieces → get_or passed i d ≡ true
