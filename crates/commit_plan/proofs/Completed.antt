-- A draft with its catalog and the body that names it.
use Rattle.std.proofs.Common.{false, ◌≡◌, ◌⊎◌, inl, inr, Ok, Err, ℕ, ◌+◌, ◌^◌, ◌<◌, ◌≤◌, true, List, [], ◌∷◌, ◌++◌, map, Some, refl, sym, ◌∙◌, ap, subst, arith}
use Rattle.std.specs.List.{flat_map}
use Rattle.std.proofs.lemmas.Bool.{cond-true}
use Rattle.overlay_terms.specs.Commands.{version_max}
use Rattle.store_terms.specs.declared.damage.Damage.TheVariants.{Overlap}
use Rattle.root_reading.specs.declared.load_fault.LoadFault.{LoadFault}
use Rattle.root_reading.specs.declared.load_fault.LoadFault.TheVariants as loads
use Rattle.root_reading.specs.Looking.{Refuses}
use Rattle.commit_plan.specs.declared.fault.StoreFault.TheVariants.{OutOfMemory}
use Rattle.commit_plan.specs.Fault.{store_fault_of}
use Rattle.extent_map.specs.declared.extent.Extent as runs
use Rattle.extent_map.specs.FirstFit.{IsPlanned}
use Rattle.extent_map.specs.Taken.{taken_of}
use Rattle.store_terms.specs.declared.root.RecordExtent.{RecordExtent}
use Rattle.store_terms.specs.declared.root.Root.{Root}
use Rattle.store_terms.specs.Catalog.{Listed, catalog_of_record}
use Rattle.store_terms.specs.Places.{all_apart, extents_listed}
use Rattle.store_terms.specs.Roots.{body_text, sequence_max}
use Rattle.store_terms.specs.StandsFor.{body_at}
use Rattle.store_terms.specs.Image.{Held}
use Rattle.commit_plan.specs.declared.write.Write.{Write}
use Rattle.commit_plan.specs.declared.next.Next.{Next}
use Rattle.commit_plan.specs.Kept.{Kept, extents_in, other}
use Rattle.commit_plan.specs.Planning.{IsPlan, Plans}
use Rattle.commit_plan.specs.Staying.{LiveContent, kept_content, AreHeldApart}
use Rattle.commit_plan.specs.Live.{live_content}
use Rattle.commit_plan.specs.Filed.{Filed, FiledLayer, listed_of, filed_of, AreWritesOf, Files}
use Rattle.root_reading.specs.RootRuns.{AllNear, IsMapOf, if_apart}
use Rattle.commit_plan.specs.Drafted.{Drafted, HaveRuns, ArePlaced, with_filed}
use Rattle.commit_plan.specs.Next.{IsLaidOut, Spell, NextHolds}
use Rattle.commit_plan.proofs.Filed.{filing_makes}
use Rattle.commit_plan.proofs.Plan.{plans}
use Rattle.commit_plan.proofs.Placed.{planned_new, planned_apart, all_off, all_writes_apart}
use Rattle.commit_plan.proofs.Apart.{records_apart, records_near}

-- what is known of the root, its records and the body
pub record IsCompleted (x : Kept) (held : Held) (listing : List Listed) (catalog : Filed) (b : Write) (ws : List Write)
    (next : Next) : Type 0 where
  pub read : catalog_of_record next.root.is_old catalog.bytes ≡ Some listing
  pub after : next.root.sequence ≡ x.root.sequence + 1
  pub below : x.root.sequence < sequence_max
  pub version : next.root.version ≡ held.number
  pub catalog_is : next.root.catalog ≡ catalog.extent
  pub low : next.root.catalog.block < 2 ^ 64
  pub small : next.root.catalog.size < 2 ^ 32
  pub there : b.at ≡ body_at (other x.root)
  pub spelled : b.bytes.items ≡ body_text next.root
  pub content : live_content next.live ≡ record { listing = listing; layers = held.layers; tiles = held.tiles }
  pub taken : AllNear (catalog.extent ∷ extents_listed listing)
      → IsMapOf (catalog.extent ∷ extents_listed listing) (taken_of next.live.room.map)
  pub plan : next.plan.items ≡ ws ++ b ∷ []

module _ (x : Kept) (given : List runs.Extent) (limit : ℕ) (layers : List FiledLayer) (held : Held)
    (listing : List Listed) (catalog : Filed) (b : Write) (ws : List Write) (places : List runs.Extent) (next : Next)
    (room : IsMapOf (extents_in x) given) (apart : AreHeldApart (extents_listed x.listing) given) (low : limit < 2 ^ 32)
    (placed : HaveRuns given limit (flat_map filed_of layers ++ catalog ∷ []) places) (writes : AreWritesOf (flat_map filed_of layers ++ catalog ∷ []) ws)
    (spell : Spell (kept_content x) layers listing held) (c : IsCompleted x held listing catalog b ws next) where
  abbrev y : Kept
  y = record { root = next.root; listing = listing; held = held }

  files : Files x y layers catalog
  files = record {
    spelled = spell.spelled;
    stored = spell.stored;
    catalog = c.read ∙ ap Some (sym spell.listed);
    there = c.catalog_is;
    number = c.version;
    lists = sym spell.listed;
    apart = subst (λ (e : RecordExtent). all_apart (e ∷ extents_listed (map listed_of layers)) ≡ true) (sym c.catalog_is)
        (records_apart (kept_content x) given limit _ layers catalog held.layers held.tiles places apart
        spell.spelled spell.stored.orderly placed.planned placed.runs);
  }

  is_plan : IsPlan x y ws b
  is_plan = record {
    after = c.after;
    bounded = omega (arith, c.after, c.below);
    numbered = subst (λ (n : ℕ). n ≤ version_max) (sym c.version) spell.small;
    low = c.low;
    small = c.small;
    off = all_off x given (flat_map filed_of layers ++ catalog ∷ []) ws places room
        (planned_new given limit _ places placed.planned) placed.runs writes;
    apart = all_writes_apart (flat_map filed_of layers ++ catalog ∷ []) ws places
        (planned_apart given limit _ places placed.planned) placed.runs writes;
    makes = λ file shut puts. filing_makes x y layers catalog ws file shut files writes puts;
    there = c.there;
    spelled = c.spelled;
  }

  near : AllNear (catalog.extent ∷ extents_listed listing)
  near = subst (λ (ls : List Listed). AllNear (catalog.extent ∷ extents_listed ls)) spell.listed
      (records_near (kept_content x) given limit _ layers catalog held.layers held.tiles places apart spell.spelled
      low placed.planned placed.runs)

  pub completes : NextHolds x held next
  completes = record {
    kept = y;
    holds = refl;
    root = refl;
    content = c.content;
    room = subst (λ (e : RecordExtent). IsMapOf (e ∷ extents_listed listing) (taken_of next.live.room.map))
        (sym c.catalog_is) (c.taken near);
    plans = subst (λ (ws : List Write). Plans x y ws) (sym c.plan) (plans x y ws b is_plan);
  }

-- the writes of records with their catalog, and the body after them
pub laid_out : (live : LiveContent) (given : List runs.Extent) (limit : ℕ) (layers : List FiledLayer) (held : Held) (sizes : List ℕ) (listing : List Listed) (catalog : Filed) (b : Write) (body : ℕ) (ws : List Write)
    (places : List runs.Extent) (root : Root) (plan : List Write) → HaveRuns given limit (flat_map filed_of layers ++ catalog ∷ []) places → IsPlanned given limit sizes places → AreWritesOf (flat_map filed_of layers ++ catalog ∷ []) ws
    → Spell live layers listing held → root.is_old ≡ false → catalog_of_record false catalog.bytes ≡ Some listing → root.catalog ≡ catalog.extent → b.at ≡ body → b.bytes.items ≡ body_text root → plan ≡ ws ++ b ∷ []
    → IsLaidOut live given limit held sizes body root plan
laid_out live given limit layers held sizes listing catalog b body ws places root plan placed sized writes spell present read named there spelled order = record {
  layers = layers;
  catalog = catalog;
  places = places;
  records = ws;
  last = b;
  spelled = spell.spelled;
  present = present;
  lists = read ∙ ap Some (sym spell.listed);
  names = named;
  planned = placed.planned;
  sized = sized;
  runs = placed.runs;
  writes = writes;
  order = order;
  there = there;
  spells = spelled;
}

-- a draft with the catalog after the records of layers, each of which has its run
pub with_catalog : (old new : Drafted) (layers : List FiledLayer) (catalog : Filed) → new ≡ with_filed old (catalog ∷ []) → old.filed ≡ flat_map filed_of layers → ArePlaced new
    → (places : List runs.Extent) × HaveRuns old.given old.limit (flat_map filed_of layers ++ catalog ∷ []) places
with_catalog old new layers catalog is filed placed =
    subst (λ (fs : List Filed). (places : List runs.Extent) × HaveRuns old.given old.limit (fs ++ catalog ∷ []) places) filed (subst ArePlaced is placed)

-- and the writes of its records
pub written_with : (old new : Drafted) (layers : List FiledLayer) (catalog : Filed) (ws : List Write) → new ≡ with_filed old (catalog ∷ []) → old.filed ≡ flat_map filed_of layers → AreWritesOf new.filed ws
    → AreWritesOf (flat_map filed_of layers ++ catalog ∷ []) ws
written_with old new layers catalog ws is filed writes =
    subst (λ (fs : List Filed). AreWritesOf (fs ++ catalog ∷ []) ws) filed (subst (λ (d : Drafted). AreWritesOf d.filed ws) is writes)

-- where no two extents share a block, only memory is wanting
pub only_memory : (fault : LoadFault) (es : List RecordExtent) (held : Held) → all_apart es ≡ true
    → (fault ≡ loads.OutOfMemory) ⊎ (fault ≡ loads.Damaged Overlap) → Refuses fault (if_apart es held)
    → store_fault_of fault ≡ OutOfMemory
only_memory loads.Device es held apart (inl is) refuses = absurd (cc)
only_memory loads.Device es held apart (inr is) refuses = absurd (cc)
only_memory loads.OutOfMemory es held apart errors refuses = refl
only_memory (loads.Damaged damage) es held apart errors refuses =
    absurd (cc (cond-true (all_apart es) (Ok held) (Err Overlap) apart, refuses))
