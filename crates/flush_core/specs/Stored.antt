-- Which version is stored, and what of it.
use Rattle.std.specs.Prelude.{◌≡◌, ℕ, ◌+◌, Result, Ok}
use Rattle.overlay_terms.specs.Layers.{Name}
use Rattle.overlay_terms.specs.Histories.{Version, tile_at}
use Rattle.disk_model.specs.declared.disk.Disk.{Ghosts}
use Rattle.store_terms.specs.Image.{Held}
use Rattle.commit_plan.specs.ImageHeld.{image_held}
use Rattle.commit_plan.specs.declared.image.Image.{Image}
use Rattle.commit_plan.specs.declared.fault.StoreFault.{StoreFault}
use Rattle.root_store.specs.declared.commit.Commit.{Commit}
use Rattle.commit_plan.specs.Live.{live_content}
use Rattle.commit_plan.specs.Sizes.{new_records}
use Rattle.commit_plan.specs.Fitting.{HasRoom, HasNoRoom}
use Rattle.commit_plan.specs.Kept.{Kept}
use Rattle.root_store.specs.declared.phase.Progress.{Progress}
use Rattle.root_store.specs.declared.phase.Progress.TheVariants.{Done}
use Rattle.flush_core.specs.Imaging.{version_held}

-- the number of the version stored after a step: only one that answers Done changes it, to the number that it gives
abbrev pub stored_after : Result Progress StoreFault → ℕ → ℕ
stored_after (Ok (Done number)) old = number
stored_after result old = old

-- what a store holds is a version: its number, its layers, and each of its finished tiles and no other
pub record IsImageOf (version : Version) (x : Held) : Type 0 where
  pub number : x.number ≡ version.number
  pub layers : x.layers ≡ version.layers
  pub tiles : (name : Name) (k : ℕ) → tile_at x.tiles name k ≡ tile_at version.tiles name k

-- a store goes on to a version: its root has the version's number, and what it holds is the version
pub record IsCommitOf (version : Version) (y : Kept) : Type 0 where
  pub root : y.root.version ≡ version.number
  pub image : IsImageOf version y.held

-- this is true of an image of what is held; which names the ends of its tiles' pieces have is open
pub record IsOfSome (x : Held) (P : Image → Type 0) : Type 0 where
  pub image : Image
  pub holds : image_held image ≡ x
  pub is : P image

-- a store has room for the new records of a version among the blocks that are free
abbrev pub HasRoomFor : {D : Type 0} {g : Ghosts D} → Commit D g → Version → Type 0
HasRoomFor commit version = IsOfSome (version_held version) (HasRoom commit.live)

-- it has none for some record
abbrev pub HasNoRoomFor : {D : Type 0} {g : Ghosts D} → Commit D g → Version → Type 0
HasNoRoomFor commit version = IsOfSome (version_held version) (HasNoRoom commit.live)

-- the device calls of the commit of a version: one for each record that the store does not hold already, one for the
-- catalog, and six more
abbrev pub calls_of : {D : Type 0} {g : Ghosts D} → Commit D g → Version → ℕ
calls_of commit version = new_records (live_content commit.live) (version_held version) + 7
