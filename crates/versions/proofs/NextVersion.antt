-- The versions that commands and kept tiles leave are versions.
use Rattle.std.specs.Prelude.{◌≡◌, ◌≢◌, ◌↔◌, ℕ, ◌+◌, ◌<◌, ◌≤◌, ◌==◌, Bool, true, IsTrue, List, ◌&&◌, bytes_eq, Option, Some, None, Result, Ok, Err, IfErr, if◌then◌else◌}
use Rattle.std.proofs.Common.{refl, ap, sym, ◌∙◌, subst, arith}
use Rattle.std.proofs.lemmas.Bool.{eqb-false}
use Rattle.overlay_terms.specs.Column.{column_count}
use Rattle.overlay_terms.specs.Layers.{Name, Layer}
use Rattle.std.specs.Option.{option_map}
use Rattle.overlay_terms.specs.Tiles.{Input, input_of}
use Rattle.overlay_terms.specs.Commands.{Refusal, Command, refusal_of, refusal_at, applied, when, version_max, version_limit, stands_as_derived}
use Rattle.overlay_terms.specs.Histories.{Tile, Version, tile_at, IsTileAt, pieces_max, FollowsCommand, FollowsTile}
use Rattle.overlay_terms.proofs.AcceptedLemmas.{not_when}
use Rattle.overlay_terms.proofs.Options.{both_absent}
use Rattle.layer_book.specs.Fault.{fault_of}
use Rattle.layer_tiles.specs.Table.{laid, left_at, tiles_in, Laid, IsLaid, Tabled}
use Rattle.versions.specs.Laid.{laid_of, numbered}
use Rattle.versions.specs.Finish.{IsAwaited}
use Rattle.versions.specs.Version.{IsVersion}
use Rattle.layer_tiles.proofs.Restored.{distinct_in_order}

-- what an accepted command says: its layers accept it, and the number is not the last
pub record IsAccepted (number : ℕ) (layers : List Layer) (command : Command) : Type 0 where
  pub by_layers : refusal_of layers command ≡ None
  pub not_last : number ≢ version_max

pub accepted_parts : (number : ℕ) (layers : List Layer) (command : Command) → refusal_at number layers command ≡ None → IsAccepted number layers command
accepted_parts number layers command e =
    let reasons = both_absent (refusal_of layers command) (when (number == version_max) version_limit) e in
    record { by_layers = reasons.first; not_last = eqb-false number version_max (not_when (number == version_max) version_limit reasons.second) }

-- a number that is not the last may be raised
pub raised : (number top : ℕ) → number ≤ top → number ≢ top → number + 1 ≤ top
raised number top low other = omega arith

-- a table of a version's layers and tiles
pub laid_out : (table : Tabled) (version : Version) → table.layers ≡ version.layers → tiles_in table ≡ version.tiles → laid table ≡ laid_of version
laid_out table version layers tiles = λ i. record { layers = layers i; tiles = tiles i }

-- layers with tiles, under a number
pub laid_is_version : (number durable : ℕ) (laid : Laid) → number ≤ version_max → durable ≤ number → IsLaid laid → IsVersion (numbered number laid durable)
laid_is_version number durable laid small reported valid = record {
  small = small;
  reported = reported;
  book = valid.book;
  fit = valid.fit;
  formed = valid.formed;
  distinct = distinct_in_order laid.layers laid.tiles valid.ordered;
}

-- a command that is accepted, at a number that is not the last
pub next_small : (old : Version) (command : Command) (number : ℕ) → refusal_at old.number old.layers command ≡ None → number ≡ old.number → number ≤ version_max → number + 1 ≤ version_max
next_small old command number accepted same small =
    raised number version_max small (λ last. (accepted_parts old.number old.layers command accepted).not_last (sym same ∙ last))

pub next_follows : (old : Version) (command : Command) (number durable : ℕ) (table made next : Laid) (new : Version) → refusal_at old.number old.layers command ≡ None → number ≡ old.number → durable ≡ old.durable
    → table ≡ laid_of old → made.layers ≡ applied table.layers command → ((name : Name) (k : ℕ) → tile_at made.tiles name k ≡ left_at table command name k) → next ≡ made → new ≡ numbered (number + 1) next durable → FollowsCommand old command new
next_follows old command number durable table made next new accepted same_number same_durable is layers tiles same new_is =
    subst (FollowsCommand old command) (sym (new_is ∙ ap (λ l. numbered (number + 1) l durable) same)) (record {
      accepted_there = accepted;
      number = ap (λ n. n + 1) same_number;
      layers = layers ∙ ap (λ l. applied l.layers command) is;
      tiles = λ name k. tiles name k ∙ ap (λ l. left_at l command name k) is;
      durable = same_durable;
    })

-- a refusal that is not there is reported by no fault
pub none_refused : (reason : Option Refusal) → None ≡ option_map fault_of reason → reason ≡ None
none_refused None e = refl
none_refused (Some reason) e = absurd (cc)

pub kept_follows : (old : Version) (name : Name) (input : Input) (tile : Tile) (column number durable : ℕ) (table made next : Laid) (new : Version) → IsAwaited old name input → IsTileAt pieces_max input tile → input.column < column_count → number ≡ old.number → durable ≡ old.durable
    → table ≡ laid_of old → column ≡ input.column → made.layers ≡ table.layers → ((other : Name) (k : ℕ) → tile_at made.tiles other k ≡ (if bytes_eq name other && (column == k) then Some tile else tile_at table.tiles other k)) → next ≡ made → new ≡ numbered number next durable → FollowsTile old name input.column tile new
kept_follows old name input tile column number durable table made next new awaited right known same_number same_durable is same_column layers tiles same new_is =
    subst (FollowsTile old name input.column tile) (sym (new_is ∙ ap (λ l. numbered number l durable) same)) (record {
      derived_layer = awaited.0.0;
      known_column = known;
      pending = awaited.0.1;
      right = subst (λ i. IsTileAt pieces_max i tile) awaited.1 right;
      number = same_number;
      layers = layers ∙ ap (λ (l : Laid). l.layers) is;
      tiles = λ other k. tiles other k ∙ (λ i. if bytes_eq name other && (same_column i == k) then Some tile else tile_at (is i).tiles other k);
      durable = same_durable;
    })

-- the same tile under the same input
pub follows_same : (old new : Version) (name : Name) (input other : Input) (tile held : Tile) → input ≡ other → held ≡ tile
    → FollowsTile old name input.column held new → FollowsTile old name other.column tile new
follows_same old new name input other tile held same is follows =
    subst (λ (i : Input). FollowsTile old name i.column tile new) same (subst (λ t. FollowsTile old name input.column t new) is follows)

-- where a layer is derived and a tile of it pending, the tile is awaited exactly where its input is the present one
pub awaited_by : (version : Version) (name : Name) (input : Input) (layers : List Layer) (same : Bool) → stands_as_derived version.layers name ≡ true → tile_at version.tiles name input.column ≡ None → layers ≡ version.layers → IsTrue same ↔ (input ≡ input_of layers name input.column) → IsTrue same ↔ IsAwaited version name input
awaited_by version name input layers same derived_layer pending is told =
    let present : input_of layers name input.column ≡ input_of version.layers name input.column = ap (λ ls. input_of ls name input.column) is in (
      λ t. ((derived_layer, pending), told.0 t ∙ present),
      λ a. told.1 (a.1 ∙ sym present),
    )

-- what is known anyway is known at an error
pub err_all : {T E P : Type 0} (r : Result T E) → P → IfErr r (λ _. P)
err_all (Ok x) p = tt
err_all (Err e) p = p
