-- What of a file a root's content rests on.
use Rattle.std.specs.Prelude.{◌≡◌, ℕ, List, [], ◌∷◌, Result, Ok, Err}
use Rattle.std.specs.List.{AllByRecursion}
use Rattle.store_terms.specs.declared.damage.Damage.{Damage}
use Rattle.store_terms.specs.declared.root.RecordExtent.{RecordExtent}
use Rattle.store_terms.specs.Catalog.{Listed}
use Rattle.store_terms.specs.Places.{bytes_at, is_placed, extents_listed}
use Rattle.store_terms.specs.declared.root.Root.{Root}
use Rattle.store_terms.specs.Image.{listing_of, held_of}

-- two files have the same bytes in an extent, which lies in both or in neither
pub record IsSameAt (old new : List ℕ) (e : RecordExtent) : Type 0 where
  pub bytes : bytes_at new e ≡ bytes_at old e
  pub placed : is_placed new e ≡ is_placed old e

-- the extents of a catalog
abbrev pub listed_extents : Result (List Listed) Damage → List RecordExtent
listed_extents (Ok listing) = extents_listed listing
listed_extents (Err fault) = []

-- the extents that a root names, its catalog first
abbrev pub extents_of : List ℕ → Root → List RecordExtent
extents_of file r = r.catalog ∷ listed_extents (listing_of file r)

-- a file that is the same in the extents of a root holds the same for it, whatever is elsewhere
abbrev pub ElsewhereHasNoMeaning : Type 0
ElsewhereHasNoMeaning =
    (old new : List ℕ) (r : Root) → AllByRecursion (IsSameAt old new) (extents_of old r)
    → (held_of new r ≡ held_of old r) × (extents_of new r ≡ extents_of old r)
