-- Lists of finished tiles: one more, and what is found in them.
use Rattle.std.specs.Prelude.{◌≡◌, ℕ, ◌==◌, Bool, true, false, ◌&&◌, List, [], ◌∷◌, ◌++◌, Some, None, bytes_eq, if◌then◌else◌}
use Rattle.std.proofs.Common.{refl, ap, ◌∙◌, cond}
use Rattle.std.proofs.lemmas.Bool.{and_parts, both_ways, eqb-true}
use Rattle.overlay_terms.specs.Layers.{Name}
use Rattle.overlay_terms.specs.Histories.{Finished, tile_at}
use Rattle.overlay_terms.proofs.NameLemmas.{same_name}
use Rattle.layer_tiles.specs.Tiles.{is_of}

-- the name and the column of a tile that is found
pub is_of_parts : (name : Name) (k : ℕ) (f : Finished) → is_of name k f ≡ true → (f.name ≡ name) × (f.column ≡ k)
is_of_parts name k f e =
    let parts = and_parts (bytes_eq f.name name) (f.column == k) e in
    (same_name f.name name parts.0, eqb-true f.column k parts.1)

-- one more tile at the end is found where none was
pub tile_at-push : (tiles : List Finished) (f : Finished) (name : Name) (k : ℕ) → tile_at tiles f.name f.column ≡ None → tile_at (tiles ++ f ∷ []) name k ≡ (if bytes_eq f.name name && (f.column == k) then Some f.tile else tile_at tiles name k)
tile_at-push [] f name k none = refl
tile_at-push (g ∷ gs) f name k none = first (is_of f.name f.column g) refl none (tile_at-push gs f name k) where
  split : (b v : Bool) → is_of name k f ≡ b → is_of name k g ≡ v → is_of f.name f.column g ≡ false → tile_at (gs ++ f ∷ []) name k ≡ (if b then Some f.tile else tile_at gs name k) →
      cond v (Some g.tile) (tile_at (gs ++ f ∷ []) name k) ≡ (if b then Some f.tile else cond v (Some g.tile) (tile_at gs name k))
  split true true here also apart next =
      let parts = is_of_parts name k f here in
      absurd (both_ways (is_of f.name f.column g) apart (ap (λ n. is_of n f.column g) parts.0 ∙ ap (λ c. is_of name c g) parts.1 ∙ also))
  split true false here other apart next = next
  split false true away there apart next = refl
  split false false away other apart next = next

  first : (b : Bool) → is_of f.name f.column g ≡ b → cond b (Some g.tile) (tile_at gs f.name f.column) ≡ None → (tile_at gs f.name f.column ≡ None → tile_at (gs ++ f ∷ []) name k ≡ (if is_of name k f then Some f.tile else tile_at gs name k)) →
      cond (is_of name k g) (Some g.tile) (tile_at (gs ++ f ∷ []) name k) ≡ (if is_of name k f then Some f.tile else cond (is_of name k g) (Some g.tile) (tile_at gs name k))
  first true e there next = absurd (cc)
  first false e rest next = split (is_of name k f) (is_of name k g) refl refl e (next rest)
