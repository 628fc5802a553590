-- What is read of a root, as what a file holds.
use Rattle.store_terms.specs.Listing.{entries_of}
use Rattle.store_terms.specs.Image.{Held}
use Rattle.commit_plan.specs.Image.{table_held}
use Rattle.commit_plan.specs.Kept.{Kept}
use Rattle.commit_plan.specs.declared.loaded.Loaded.{Loaded}

-- what is read, as what a file holds
abbrev pub held_in : Loaded → Held
held_in x = table_held x.root.version x.content.value

-- the root that is read, with what its catalog lists and what it holds
abbrev pub kept_in : Loaded → Kept
kept_in x = record { root = x.root; listing = entries_of x.live.listing.items; held = held_in x }
