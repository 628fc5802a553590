-- What a root names, and what is in a file that holds it, at rest and while a commit is under way.
use Rattle.std.specs.Prelude.{◌≡◌, ◌≢◌, ◌⊎◌, ℕ, ◌+◌, ◌*◌, ◌%◌, ◌<◌, ◌≤◌, true, List, ◌∷◌, length, Ok}
use Rattle.std.specs.List.{AllByRecursion}
use Rattle.overlay_terms.specs.Commands.{version_max}
use Rattle.store_terms.specs.declared.root.RecordExtent.{RecordExtent}
use Rattle.store_terms.specs.declared.root.Root.{Root}
use Rattle.store_terms.specs.Catalog.{Listed}
use Rattle.store_terms.specs.Places.{block_size, is_placed, extents_listed}
use Rattle.store_terms.specs.Roots.{ours, sequence_max}
use Rattle.store_terms.specs.Image.{Held, listing_of, held_of}
use Rattle.store_terms.specs.StandsFor.{gate, open_gate, body, StandsFor}

-- a root with what its catalog lists, and what it holds
pub record Kept : Type 0 where
  pub root : Root
  pub listing : List Listed
  pub held : Held

-- the extents that it names, its catalog's first
abbrev pub extents_in : Kept → List RecordExtent
extents_in x = x.root.catalog ∷ extents_listed x.listing

-- the slot that a root is in
abbrev pub own : Root → ℕ
own r = r.sequence % 2

-- the slot into which the root after it goes
abbrev pub other : Root → ℕ
other r = (r.sequence + 1) % 2

-- the slot's body is this root, and what it names is there: open the gate, and nothing is missing
pub record IsWholeAt (k : ℕ) (x : Kept) (file : List ℕ) : Type 0 where
  pub long : block_size * 2 ≤ length file
  pub spelt : body file k ≡ ours x.root
  pub bounded : x.root.sequence ≤ sequence_max
  pub numbered : x.root.version ≤ version_max
  pub parity : x.root.sequence % 2 ≡ k
  pub listing : listing_of file x.root ≡ Ok x.listing
  pub placed : AllByRecursion (λ e. is_placed file e ≡ true) (extents_in x)
  pub holds : held_of file x.root ≡ Ok x.held

-- a root whose gate may come open beside r: an older one, or one that names the same
pub record Harmless (k : ℕ) (r : Root) (file : List ℕ) : Type 0 where
  pub root : Root
  pub spelt : body file k ≡ ours root
  pub bounded : root.sequence ≤ sequence_max
  pub numbered : root.version ≤ version_max
  pub parity : root.sequence % 2 ≡ k
  pub older : (root.sequence < r.sequence) ⊎ ((root.version ≡ r.version) × (root.catalog ≡ r.catalog) × (root.is_old ≡ r.is_old))

-- the root is open and whole
pub record Live (x : Kept) (file : List ℕ) : Type 0 where
  pub opened : gate file (own x.root) ≡ open_gate
  pub named : IsWholeAt (own x.root) x file

-- the file holds x, whatever the other gate is
pub record Rest (x : Kept) (file : List ℕ) : Type 0 where
  pub live : Live x file
  pub harmless : Harmless (other x.root) x.root file

-- the other gate is shut, so behind it, and in free blocks, there may be anything
pub record Shut (x : Kept) (file : List ℕ) : Type 0 where
  pub live : Live x file
  pub closed : gate file (other x.root) ≢ open_gate

-- as a store is between commits; at the last sequence there is no commit more
abbrev pub Calm : Kept → List ℕ → Type 0
Calm x file = Rest x file ⊎ (Shut x file × (sequence_max ≤ x.root.sequence))

-- both roots are whole, and the newer one's gate decides
pub record Ready (x y : Kept) (file : List ℕ) : Type 0 where
  pub live : Live x file
  pub named : IsWholeAt (other x.root) y file
  pub after : y.root.sequence ≡ x.root.sequence + 1

-- the file holds one of the two
abbrev pub Either : Kept → Kept → List ℕ → Type 0
Either x y file = StandsFor x.held file ⊎ StandsFor y.held file
