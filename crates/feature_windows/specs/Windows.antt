-- Windows of a core, and what is found in them of its features.
use Rattle.std.specs.Prelude.{◌≡◌, ℕ, ◌+◌, List, [], ◌∷◌, ◌++◌, map, All}
use Rattle.overlay_terms.specs.Plane.{WholePoint}
use Rattle.block_reading.specs.Terms.{Core}
use Rattle.near_steps.specs.Cores.{box_of}
use Rattle.feature_windows.specs.Parts.{IsCut, MakeUp}
use Rattle.feature_windows.specs.Layers.{layer_rings, HasLayers}
use Rattle.feature_windows.specs.declared.window.Near.{Near}
use Rattle.feature_windows.specs.declared.window.Window.{Window}

-- the layers of a window look, from within it, like those of the features, and its border is the last
abbrev pub ShowsFeatures : List (List (List WholePoint)) → List Near → ℕ → Window → Type 0
ShowsFeatures features members count window = HasLayers (box_of window.core) count (layer_rings features members) window.layers.items

-- windows make up a core, and show the features
pub record AreWindows (features : List (List (List WholePoint))) (members : List Near) (count : ℕ) (core : Core) (windows : List Window) : Type 0 where
  pub made_up : MakeUp (box_of core) (map (λ w. box_of w.core) windows)
  pub show : All (ShowsFeatures features members count) windows

-- a part shows what another shows that it lies in
abbrev pub ShowsStill : Window → Window → Type 0
ShowsStill whole part = (count : ℕ) (rings : ℕ → List (List WholePoint)) → HasLayers (box_of whole.core) count rings whole.layers.items → HasLayers (box_of part.core) count rings part.layers.items

-- a list without its last element
abbrev pub IsInner : List (List (List WholePoint)) → List (List (List WholePoint)) → Type 0
IsInner layers inner = (kept : List (List (List WholePoint))) (border : List (List WholePoint)) → layers ≡ kept ++ border ∷ [] → inner ≡ kept

-- a window is halved
pub record AreHalves (whole first second : Window) : Type 0 where
  pub cut : IsCut (box_of whole.core) (box_of first.core) (box_of second.core)
  pub first_shows : ShowsStill whole first
  pub second_shows : ShowsStill whole second

-- a window is done, or its halves are left in its place
pub data IsDivided (part : Window) (done left done_now left_now : List Window) : Type 0 where
  as_whole : done_now ≡ done ++ part ∷ [] → left_now ≡ left → IsDivided part done left done_now left_now
  in_halves : (first second : Window) → AreHalves part first second → done_now ≡ done → left_now ≡ (left ++ second ∷ []) ++ first ∷ []
      → IsDivided part done left done_now left_now
