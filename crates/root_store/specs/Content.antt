-- What a store's file holds, as the store's fields say it.
use Rattle.std.specs.Prelude.{◌≡◌, ℕ, List}
use Rattle.disk_model.specs.declared.disk.Disk.{Ghosts}
use Rattle.disk_model.specs.Moments.{Leaves}
use Rattle.extent_map.specs.Taken.{taken_of}
use Rattle.store_terms.specs.StandsFor.{gate, open_gate}
use Rattle.store_terms.specs.declared.root.Root.{Root}
use Rattle.root_reading.specs.RootRuns.{IsMapOf}
use Rattle.commit_plan.specs.declared.live_records.LiveRecords.{LiveRecords}
use Rattle.commit_plan.specs.declared.write.Write.{Write}
use Rattle.commit_plan.specs.Staying.{kept_content}
use Rattle.commit_plan.specs.Live.{live_content}
use Rattle.commit_plan.specs.Kept.{Kept, extents_in, other, Rest, Shut, Calm, Ready, Either}
use Rattle.commit_plan.specs.Planning.{Leads, Spare}
use Rattle.root_store.specs.declared.phase.Phase.{Phase}
use Rattle.root_store.specs.declared.phase.Phase.TheVariants.{Idle, Close, Settle, Put, Open, Finish, Failed}

-- what a root holds, as its records have it
abbrev pub content_of : Root → LiveRecords → Kept
content_of root live = record {
  root = root;
  listing = (live_content live).listing;
  held = record { number = root.version; layers = (live_content live).layers; tiles = (live_content live).tiles };
}

module _ {D : Type 0} (g : Ghosts D) where
  -- no commit is under way, and the file holds x
  pub record IsAtRest (disk : D) (phase : Phase) (live_root : Root) (live : LiveRecords) (x : Kept) : Type 0 where
    pub honest : g.is_honest disk
    pub idle : phase ≡ Idle
    pub root : live_root ≡ x.root
    pub holds : live_content live ≡ kept_content x
    pub room : IsMapOf (extents_in x) (taken_of live.room.map)
    pub leaves : Leaves g disk (Calm x)

  -- what is known before the call that a phase is named for, where these writes are left
  abbrev pub IsBefore : Phase → D → List Write → Kept → Kept → Type 0
  IsBefore Idle disk writes x y = ⊥
  IsBefore Close disk writes x y =
      Leaves g disk (Rest x) × ((file : List ℕ) → Shut x file → Leads (Ready x y) writes file) × Spare (Shut x) writes
  IsBefore Settle disk writes x y =
      Leaves g disk (Rest x) × (gate (g.seen disk) (other x.root) ≡ 0)
      × ((file : List ℕ) → Shut x file → Leads (Ready x y) writes file) × Spare (Shut x) writes
  IsBefore Put disk writes x y =
      Leaves g disk (Shut x) × Leads (Ready x y) writes (g.seen disk) × Spare (Shut x) writes
  IsBefore Open disk writes x y = Leaves g disk (Ready x y)
  IsBefore Finish disk writes x y = Leaves g disk (Ready x y) × (gate (g.seen disk) (other x.root) ≡ open_gate)
  IsBefore Failed disk writes x y = Leaves g disk (Either x y)

  -- a commit from x to y is under way, of which these writes are left
  pub record IsUnderWay (disk : D) (phase : Phase) (live_root root_after : Root) (live_after : LiveRecords)
      (writes : List Write) (x y : Kept) : Type 0 where
    pub honest : g.is_honest disk
    pub root : live_root ≡ x.root
    pub next_root : root_after ≡ y.root
    pub next_holds : live_content live_after ≡ kept_content y
    pub next_room : IsMapOf (extents_in y) (taken_of live_after.room.map)
    pub before : IsBefore phase disk writes x y

  module _ (disk : D) (root : Root) (live : LiveRecords) (next_root : Root) (next_live : LiveRecords)
      (writes : List Write) where
    -- a commit is under way, from the content of the live root to that of the next one
    abbrev pub GoesOn : Phase → Type 0
    GoesOn phase =
        IsUnderWay disk phase root next_root next_live writes (content_of root live) (content_of next_root next_live)

    -- what a store keeps: at rest its file holds the content of the live root; while a commit is under way it goes
    -- from that to the content of the next one; after a failure, nothing
    abbrev pub Keeps : Phase → Type 0
    Keeps Idle = IsAtRest disk Idle root live (content_of root live)
    Keeps Close = GoesOn Close
    Keeps Settle = GoesOn Settle
    Keeps Put = GoesOn Put
    Keeps Open = GoesOn Open
    Keeps Finish = GoesOn Finish
    Keeps Failed = Unit {0}
