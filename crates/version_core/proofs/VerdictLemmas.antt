-- A verdict on a held tile, from a tile of the same input.
use Rattle.std.specs.Prelude.{◌≡◌, ◌↔◌, ℕ, Bool, true, false, IsTrue, Option, Some}
use Rattle.std.proofs.Common.{refl, ap, sym, subst, ◌∙◌}
use Rattle.std.proofs.lemmas.Option.{same_Some}
use Rattle.std.proofs.lemmas.Bool.{false≢true}
use Rattle.overlay_terms.specs.Layers.{Name}
use Rattle.overlay_terms.specs.Tiles.{Input, input_of}
use Rattle.overlay_terms.specs.Histories.{Tile, Version, tile_at, IsTileAt, pieces_max}
use Rattle.tile_laws.specs.SameTile.{same_tile, HasPositiveEnds}
use Rattle.tile_laws.proofs.HeldTile.{held_tile}
use Rattle.version_core.specs.Verdict.{IsVerdict}
use Rattle.version_core.specs.declared.verifying.Verdict.{Verdict}
use Rattle.version_core.specs.declared.verifying.Verdict.TheVariants.{Same, Different}

-- the held tile is one exactly where it equals a tile of the input
told : (input : Input) (held built : Tile) (same : Bool) → IsTileAt pieces_max input built → same ≡ same_tile held built → (IsTrue same → HasPositiveEnds held) → IsTrue same ↔ IsTileAt pieces_max input held
told input held built same right is positive = (
  λ t. (held_tile input held built (λ alike. positive (is ∙ alike)) right).0 (sym is ∙ t),
  λ h. is ∙ (held_tile input held built (λ alike. positive (is ∙ alike)) right).1 h,
)

-- the verdict that a comparison gives
abbrev verdict_of : Bool → Verdict
verdict_of true = Same
verdict_of false = Different

same_told : (same : Bool) → (verdict_of same ≡ Same) ↔ IsTrue same
same_told true = (λ e. refl, λ e. refl)
same_told false = (λ e. cc, λ e. absurd (false≢true e))

-- the verdict is right
pub is_verdict : (version : Version) (name : Name) (column : Option ℕ) (k : ℕ) (held built : Tile) (same : Bool) → column ≡ Some k → tile_at version.tiles name k ≡ Some held → IsTileAt pieces_max (input_of version.layers name k) built → same ≡ same_tile held built → (IsTrue same → HasPositiveEnds held) → IsVerdict version name column (verdict_of same)
is_verdict version name column k held built same here at right is positive j tile there e =
    let level : j ≡ k = same_Some j k (sym there ∙ here) in
    let one : held ≡ tile = same_Some held tile (sym at ∙ ap (λ m. tile_at version.tiles name m) (sym level) ∙ e) in
    let both : IsTrue same ↔ IsTileAt pieces_max (input_of version.layers name k) held = told (input_of version.layers name k) held built same right is positive in
    subst (λ m. (verdict_of same ≡ Same) ↔ IsTileAt pieces_max (input_of version.layers name m) tile) (sym level) (
      λ v. subst (IsTileAt pieces_max (input_of version.layers name k)) one (both.0 ((same_told same).0 v)),
      λ h. (same_told same).1 (both.1 (subst (IsTileAt pieces_max (input_of version.layers name k)) (sym one) h)),
    )
