-- What a root holds, step by step.
use Rattle.std.proofs.Common.{◌≡◌, ℕ, List, [], ◌∷◌, Result, Ok, ◌∙◌, ap}
use Rattle.overlay_terms.specs.Layers.{Layer}
use Rattle.overlay_terms.specs.Histories.{Finished}
use Rattle.store_terms.specs.declared.damage.Damage.{Damage}
use Rattle.store_terms.specs.declared.root.Root.{Root}
use Rattle.store_terms.specs.Catalog.{Listed}
use Rattle.store_terms.specs.Places.{extents_listed}
use Rattle.store_terms.specs.Image.{◌>>=◌, layers_of, listing_of, held_by, held_of}
use Rattle.root_reading.specs.RootRuns.{if_apart}

-- what a root holds, once its catalog, layers and tiles are read
pub held_steps : (file : List ℕ) (r : Root) (ls : List Listed) (x : List Layer × List Finished)
    → listing_of file r ≡ Ok ls → layers_of file [] ls ≡ Ok x
    → held_of file r
    ≡ if_apart (r.catalog ∷ extents_listed ls) (record { number = r.version; layers = x.0; tiles = x.1 })
held_steps file r ls x listing layers =
    ap (λ (l : Result (List Listed) Damage). l >>= held_by file r) listing
    ∙ ap (λ (h : Result (List Layer × List Finished) Damage). h >>= λ held. if_apart (r.catalog ∷ extents_listed ls)
    (record { number = r.version; layers = held.0; tiles = held.1 })) layers
