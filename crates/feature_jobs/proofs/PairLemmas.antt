-- Parts of one feature that lie off another.
use Rattle.std.proofs.Common.{◌≡◌, ℕ, ◌+◌, ◌<◌, ◌≤◌, List, subst, take, length, get_or}
use Rattle.std.specs.Prelude.{All}
use Rattle.std.proofs.lemmas.List.{take_all}
use Rattle.std.proofs.lemmas.List.Elements.{All-more}
use Rattle.overlay_terms.specs.Trees.{Steps}
use Rattle.feature_windows.specs.declared.window.Window.{Window}
use Rattle.feature_jobs.specs.Findings.{HasNoPiece}

-- one window more has no boundary
pub none_more : (windows : List Window) (steps : Steps) (i : ℕ) (window : Window) → i < length windows → window ≡ get_or windows i window
    → All (HasNoPiece steps) (take i windows) → HasNoPiece steps window → All (HasNoPiece steps) (take (i + 1) windows)
none_more windows steps i window lt is so_far none = All-more (HasNoPiece steps) windows i window lt so_far (subst (HasNoPiece steps) is none)

-- all have none
pub none_in_all : (windows : List Window) (steps : Steps) (i : ℕ) → length windows ≤ i → All (HasNoPiece steps) (take i windows) → All (HasNoPiece steps) windows
none_in_all windows steps i le none = subst (All (HasNoPiece steps)) (take_all i windows le) none
