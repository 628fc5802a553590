-- What the writes of a commit have to be.
use Rattle.std.specs.Prelude.{◌≡◌, ℕ, ◌+◌, ◌*◌, ◌^◌, ◌<◌, ◌≤◌, true, List, [], ◌∷◌, ◌++◌, length, Ok}
use Rattle.std.specs.List.{AllByRecursion}
use Rattle.overlay_terms.specs.Commands.{version_max}
use Rattle.disk_model.specs.Disk.{part, Holds, Torn}
use Rattle.disk_model.proofs.Ranges.{Apart}
use Rattle.store_terms.specs.Places.{block_size, is_placed}
use Rattle.store_terms.specs.Roots.{body_text, sequence_max}
use Rattle.store_terms.specs.Image.{listing_of, held_of}
use Rattle.store_terms.specs.StandsFor.{body_at}
use Rattle.commit_plan.specs.declared.write.Write.{Write}
use Rattle.commit_plan.specs.Kept.{Kept, extents_in, other, Shut, Ready}

-- after these writes, in order, the file has P
abbrev pub Leads : (List ℕ → Type 0) → List Write → List ℕ → Type 0
Leads P [] file = P file
Leads P (w ∷ ws) file =
    (after : List ℕ) → Torn w.at (length w.bytes.items) file after → Holds after w.at w.bytes.items → Leads P ws after

-- none of these writes, torn anywhere, takes P away
abbrev pub Spare : (List ℕ → Type 0) → List Write → Type 0
Spare P [] = Unit {0}
Spare P (w ∷ ws) = ((old new : List ℕ) → P old → Torn w.at (length w.bytes.items) old new → P new) × Spare P ws

-- what a plan has to do: from any file whose other gate is shut it leads to both roots whole, and no write of it harms
-- the live one
pub record Plans (x y : Kept) (plan : List Write) : Type 0 where
  pub leads : (file : List ℕ) → Shut x file → Leads (Ready x y) plan file
  pub spares : Spare (Shut x) plan

-- the bytes of a write are where it puts them
pub record IsWritten (file : List ℕ) (w : Write) : Type 0 where
  pub within : w.at + length w.bytes.items ≤ length file
  pub bytes : part file w.at (length w.bytes.items) ≡ w.bytes.items

-- a write after the slots that touches no extent of a root
pub record IsOff (x : Kept) (w : Write) : Type 0 where
  pub behind : block_size * 2 ≤ w.at
  pub apart : AllByRecursion (λ e. Apart w.at (length w.bytes.items) (block_size * e.block) e.size) (extents_in x)

abbrev pub AreWrittenApart : Write → Write → Type 0
AreWrittenApart w v = Apart v.at (length v.bytes.items) w.at (length w.bytes.items)

-- no two of the writes touch one byte
abbrev pub AllApart : List Write → Type 0
AllApart [] = Unit {0}
AllApart (w ∷ ws) = AllByRecursion (AreWrittenApart w) ws × AllApart ws

-- the file holds what a root names
pub record Makes (y : Kept) (file : List ℕ) : Type 0 where
  pub listing : listing_of file y.root ≡ Ok y.listing
  pub placed : AllByRecursion (λ e. is_placed file e ≡ true) (extents_in y)
  pub holds : held_of file y.root ≡ Ok y.held

-- the writes of new extents, and then that of the body, take a store from x to y. An extent of x that y keeps is one
-- that none of them writes: what they make of a file may rest on what x has there
pub record IsPlan (x y : Kept) (ws : List Write) (b : Write) : Type 0 where
  pub after : y.root.sequence ≡ x.root.sequence + 1
  pub bounded : y.root.sequence ≤ sequence_max
  pub numbered : y.root.version ≤ version_max
  pub low : y.root.catalog.block < 2 ^ 64
  pub small : y.root.catalog.size < 2 ^ 32
  pub off : AllByRecursion (IsOff x) ws
  pub apart : AllApart ws
  pub makes : (file : List ℕ) → Shut x file → AllByRecursion (IsWritten file) ws → Makes y file
  pub there : b.at ≡ body_at (other x.root)
  pub spelled : b.bytes.items ≡ body_text y.root

-- such writes lead from x to y
abbrev pub PlansLead : Type 0
PlansLead = (x y : Kept) (ws : List Write) (b : Write) → IsPlan x y ws b → Plans x y (ws ++ b ∷ [])
