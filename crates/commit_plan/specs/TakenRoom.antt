-- The room that the records of a root take.
use Rattle.std.specs.Prelude.{◌≡◌, ◌⊎◌, ℕ, List, ◌∷◌, Result, IfOk, IfErr}
use Rattle.extent_map.specs.Taken.{taken_of, limit_of}
use Rattle.store_terms.specs.declared.damage.Damage.TheVariants.{Overlap}
use Rattle.store_terms.specs.declared.root.RecordExtent.{RecordExtent}
use Rattle.store_terms.specs.Catalog.{Listed}
use Rattle.store_terms.specs.Image.{Held}
use Rattle.store_terms.specs.Places.{extents_listed}
use Rattle.root_reading.specs.declared.load_fault.LoadFault.{LoadFault}
use Rattle.root_reading.specs.declared.load_fault.LoadFault.TheVariants.{OutOfMemory, Damaged}
use Rattle.root_reading.specs.Looking.{Gives}
use Rattle.root_reading.specs.RootRuns.{IsMapOf, AllNear, if_apart}
use Rattle.commit_plan.specs.declared.room.Room.{Room}

-- what comes of giving a catalog and its records room: the map of just their blocks, or Overlap where two share one
pub record TakesRoom {X : Type 0} (room_of : X → Room) (catalog : RecordExtent) (listing : List Listed) (max_blocks : ℕ)
    (result : Result X LoadFault) : Type 0 where
  pub taken : AllNear (catalog ∷ extents_listed listing)
      → IfOk result (λ x. IsMapOf (catalog ∷ extents_listed listing) (taken_of (room_of x).map))
  pub reads : AllNear (catalog ∷ extents_listed listing) → (held : Held)
      → Gives (λ x. held) result (if_apart (catalog ∷ extents_listed listing) held)
  pub errors : IfErr result (λ e. (e ≡ OutOfMemory) ⊎ (e ≡ Damaged Overlap))
  pub limit : IfOk result (λ x. limit_of (room_of x).map ≡ max_blocks)
