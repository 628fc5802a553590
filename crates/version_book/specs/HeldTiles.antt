-- Tiles that are handed out, and tiles that wait for memory.
use Rattle.std.specs.Prelude.{ℕ, ◌+◌, ◌-◌, ◌==◌, nat_le, nat_lt, Bool, true, false, ◌&&◌, ◌||◌, not, List, [], ◌∷◌, ◌++◌, filter, map, bytes_eq, if◌then◌else◌}
use Rattle.std.specs.List.{list_any, range_with_len}
use Rattle.overlay_terms.specs.Layers.{Name}
use Rattle.crossing_sweep.specs.StripInput.{Span}
use Rattle.version_book.specs.declared.held_tiles.HeldTile.{HeldTile}

-- whether it is this tile
abbrev pub is_of : Name → ℕ → HeldTile → Bool
is_of name column tile = bytes_eq tile.name name && (tile.column == column)

-- whether a tile is handed out, or is marked
abbrev pub is_held : Name → ℕ → List HeldTile → Bool
is_held name column held = list_any (is_of name column) held

-- whether a tile of a layer is marked
abbrev pub has_mark : Name → List HeldTile → Bool
has_mark name held = list_any (λ tile. tile.marked && bytes_eq tile.name name) held

-- a tile is handed out
abbrev pub handed_out : Name → ℕ → List HeldTile → List HeldTile
handed_out name column held = held ++ record { name = name; column = column; marked = false } ∷ []

-- so many tiles of neighbouring columns, from one on, as they are handed out
abbrev pub tiles_from : Name → ℕ → ℕ → List HeldTile
tiles_from name first count = map (λ column. record { name = name; column = column; marked = false }) (range_with_len first count)

-- the tiles of a strip are handed out
abbrev pub strip_handed_out : Name → Span → List HeldTile → List HeldTile
strip_handed_out name strip held = held ++ tiles_from name strip.first (strip.last + 1 - strip.first)

-- a tile is not handed out any more
abbrev pub taken_in : Name → ℕ → List HeldTile → List HeldTile
taken_in name column held = filter (λ tile. tile.marked || not (is_of name column tile)) held

-- a tile, marked if it is this one
abbrev pub marked_if : Name → ℕ → HeldTile → HeldTile
marked_if name column tile =
    record { name = tile.name; column = tile.column; marked = if is_of name column tile then true else tile.marked }

-- a tile that was handed out is marked, and so is not handed out again
abbrev pub given_back : Name → ℕ → List HeldTile → List HeldTile
given_back name column held = map (marked_if name column) held

-- whether it is a tile of these columns, from one on and before another
abbrev pub is_within : Name → ℕ → ℕ → HeldTile → Bool
is_within name first end tile = bytes_eq tile.name name && (nat_le first tile.column && nat_lt tile.column end)

-- a tile, marked if it is one of these
abbrev pub marked_within : Name → ℕ → ℕ → HeldTile → HeldTile
marked_within name first end tile =
    record { name = tile.name; column = tile.column; marked = tile.marked || is_within name first end tile }

-- tiles that were handed out, from one column on and before another, are marked, and so are not handed out again
abbrev pub strip_given_back : Name → ℕ → ℕ → List HeldTile → List HeldTile
strip_given_back name first end held = map (marked_within name first end) held

-- tiles that were handed out, from one column on and before another, are not handed out any more
abbrev pub strip_taken_in : Name → ℕ → ℕ → List HeldTile → List HeldTile
strip_taken_in name first end held = filter (λ tile. tile.marked || not (is_within name first end tile)) held

-- no tile is marked
abbrev pub unmarked : List HeldTile → List HeldTile
unmarked held = filter (λ tile. not tile.marked) held

-- no tile of a layer is marked
abbrev pub unmarked_of : Name → List HeldTile → List HeldTile
unmarked_of name held = filter (λ tile. not (tile.marked && bytes_eq tile.name name)) held
