-- How the writes of a commit lie, and what they lead to.
use Rattle.std.specs.Prelude.{false, ◌≡◌, ℕ, ◌≤◌, List, [], ◌∷◌, ◌++◌, map, flat_map, Some}
use Rattle.extent_map.specs.declared.extent.Extent as runs
use Rattle.extent_map.specs.FirstFit.{IsPlanned}
use Rattle.extent_map.specs.Taken.{taken_of}
use Rattle.overlay_terms.specs.Commands.{version_max}
use Rattle.store_terms.specs.declared.root.Root.{Root}
use Rattle.store_terms.specs.Catalog.{Listed, catalog_of_record}
use Rattle.store_terms.specs.Roots.{body_text}
use Rattle.store_terms.specs.Image.{Held}
use Rattle.store_terms.specs.Spelled.{MayBeStored}
use Rattle.commit_plan.specs.declared.write.Write.{Write}
use Rattle.commit_plan.specs.declared.next.Next.{Next}
use Rattle.commit_plan.specs.Kept.{Kept, extents_in}
use Rattle.commit_plan.specs.Planning.{Plans}
use Rattle.commit_plan.specs.Filed.{Filed, FiledLayer, lengths_of, extents_of_filed}
use Rattle.commit_plan.specs.Filed.{listed_of, filed_of, SpellLayers, AreWritesOf}
use Rattle.commit_plan.specs.Staying.{LiveContent, kept_content}
use Rattle.commit_plan.specs.Live.{live_content}
use Rattle.root_reading.specs.RootRuns.{AreRunsOf, IsMapOf}

-- records of these sizes find, in order, the lowest runs that are free beside what is taken
abbrev pub ArePlanned : List runs.Extent → ℕ → List ℕ → Type 0
ArePlanned given limit sizes = (places : List runs.Extent) × IsPlanned given limit sizes places

-- filed layers that a catalog lists, and that say what a version holds
pub record Spell (live : LiveContent) (layers : List FiledLayer) (listing : List Listed) (x : Held) : Type 0 where
  pub spelled : SpellLayers live layers x.layers x.tiles
  pub stored : MayBeStored x.layers
  pub small : x.number ≤ version_max
  pub listed : map listed_of layers ≡ listing

-- how the writes of a commit lie, whose records are to have these sizes, and whose root is of the present format: first
-- each new record, layer by layer, in the lowest run that is free, in whole blocks of which the rest is zero; after
-- them the catalog that lists them, likewise; and last the body of the root, where it is to be put
pub record IsLaidOut (live : LiveContent) (given : List runs.Extent) (limit : ℕ) (held : Held) (sizes : List ℕ)
    (body : ℕ)
    (root : Root) (plan : List Write) : Type 0 where
  pub layers : List FiledLayer
  pub catalog : Filed
  pub places : List runs.Extent
  pub records : List Write
  pub last : Write
  pub spelled : SpellLayers live layers held.layers held.tiles
  pub present : root.is_old ≡ false
  pub lists : catalog_of_record false catalog.bytes ≡ Some (map listed_of layers)
  pub names : root.catalog ≡ catalog.extent
  pub planned : IsPlanned given limit (lengths_of (flat_map filed_of layers ++ catalog ∷ [])) places
  pub sized : IsPlanned given limit sizes places
  pub runs : AreRunsOf (extents_of_filed (flat_map filed_of layers ++ catalog ∷ [])) places
  pub writes : AreWritesOf (flat_map filed_of layers ++ catalog ∷ []) records
  pub order : plan ≡ records ++ last ∷ []
  pub there : last.at ≡ body
  pub spells : last.bytes.items ≡ body_text root

-- what a commit goes on to from x: a root that holds this, the blocks that it takes, and the writes that lead there
pub record NextHolds (x : Kept) (held : Held) (next : Next) : Type 0 where
  pub kept : Kept
  pub holds : kept.held ≡ held
  pub root : next.root ≡ kept.root
  pub content : live_content next.live ≡ kept_content kept
  pub room : IsMapOf (extents_in kept) (taken_of next.live.room.map)
  pub plans : Plans x kept next.plan.items
