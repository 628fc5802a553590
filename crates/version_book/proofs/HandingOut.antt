-- Tiles of neighbouring columns, handed out one after another.
use Rattle.std.proofs.Common.{◌≡◌, ℕ, ◌+◌, ◌-◌, ◌≤◌, false, List, [], ◌∷◌, ◌++◌, length, take, ap, sym, ◌∙◌, arith, append_assoc}
use Rattle.std.proofs.lemmas.List.{append-nil}
use Rattle.std.proofs.lemmas.List.FromFn.{map-range_with_len_more}
use Rattle.std.proofs.Math.Seq.{take-append_seam}
use Rattle.overlay_terms.specs.Layers.{Name}
use Rattle.version_book.specs.HeldTiles.{handed_out, tiles_from}
use Rattle.version_book.specs.declared.held_tiles.HeldTile.{HeldTile}

-- no column so far
pub none_handed : (name : Name) (first number : ℕ) (held : List HeldTile) → number ≡ first → held ≡ held ++ tiles_from name first (number - first)
none_handed name first number held is =
    let none : number - first ≡ 0 = omega arith in
    sym (ap (λ n. held ++ tiles_from name first n) none ∙ append-nil held)

-- one column more
pub one_handed : (name : Name) (first number column : ℕ) (held before now : List HeldTile) → first ≤ number → column ≡ number
    → before ≡ held ++ tiles_from name first (number - first) → now ≡ handed_out name column before → now ≡ held ++ tiles_from name first (number + 1 - first)
one_handed name first number column held before now low same so done =
    let tile : ℕ → HeldTile = λ k. record { name = name; column = k; marked = false } in
    let count : number - first + 1 ≡ number + 1 - first = omega arith in
    done ∙ ap (λ k. handed_out name k before) same ∙ ap (λ l. l ++ tile number ∷ []) so
    ∙ append_assoc held (tiles_from name first (number - first)) (tile number ∷ [])
    ∙ ap (λ l. held ++ l) (sym (map-range_with_len_more tile first (number - first) number (omega arith)))
    ∙ ap (λ n. held ++ tiles_from name first n) count

-- up to the length of what was there before, it is there
pub was_before : (held more now : List HeldTile) → now ≡ held ++ more → take (length held) now ≡ held
was_before held more now is = ap (take (length held)) is ∙ take-append_seam held more
