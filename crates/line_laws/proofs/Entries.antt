-- The batches in entries, and what entries make of the number and the layers of a version.
use Rattle.std.proofs.Common.{◌≡◌, ℕ, ◌+◌, List, [], ◌∷◌, ◌++◌, length, map, fold, refl, ap, ◌∙◌, subst}
use Rattle.std.proofs.lemmas.List.{length-append, map-append}
use Rattle.std.proofs.lemmas.List.Elements.{filter_map-append}
use Rattle.overlay_terms.specs.Layers.{Layer}
use Rattle.overlay_terms.specs.Batches.{Batch, applied_all}
use Rattle.overlay_terms.specs.Histories.{Version, Entry, History, AllFollow, IsHistory, GoesOnBy, last_version, newest, command_of, commands_in, accepted_in}
use Rattle.overlay_terms.specs.HistoryLaws.{IsWithCommands}
use Rattle.overlay_terms.proofs.HistoryFolds.{newest_has_commands}
use Rattle.line_laws.specs.Deciding.{Decided, decided}

-- the batches in entries, and in more after them
pub accepted_more : (xs ys : List Entry) → accepted_in (xs ++ ys) ≡ accepted_in xs ++ accepted_in ys
accepted_more xs ys =
    ap (map (λ (c : ℕ × Batch). c.1)) (filter_map-append (λ (entry : Entry). command_of entry.event) xs ys)
    ∙ map-append (λ (c : ℕ × Batch). c.1) (commands_in xs) (commands_in ys)

-- how many batches were accepted in a history
abbrev pub count : History → ℕ
count history = length (accepted_in history.entries)

pub count_more : (before after : History) (more : List Entry) → GoesOnBy before more after → count after ≡ count before + length (accepted_in more)
count_more before after more on =
    ap count on ∙ ap length (accepted_more before.entries more) ∙ length-append (accepted_in before.entries) (accepted_in more)

-- the last version of entries, and of more after them
last_more : (version : Version) (xs ys : List Entry) → last_version version (xs ++ ys) ≡ last_version (last_version version xs) ys
last_more version [] ys = refl
last_more version (x ∷ xs) ys = last_more x.version xs ys

-- entries that follow one another, and a front and the rest of them
pub follow_front : (version : Version) (xs ys : List Entry) → AllFollow version (xs ++ ys) → AllFollow version xs
follow_front version [] ys follow = tt
follow_front version (x ∷ xs) ys (follows, follow) = (follows, follow_front x.version xs ys follow)

pub follow_rest : (version : Version) (xs ys : List Entry) → AllFollow version (xs ++ ys) → AllFollow (last_version version xs) ys
follow_rest version [] ys follow = follow
follow_rest version (x ∷ xs) ys (follows, follow) = follow_rest x.version xs ys follow

-- a history that another goes on from
pub history_front : (before after : History) (more : List Entry) → GoesOnBy before more after → IsHistory after → IsHistory before
history_front before after more on history = follow_front before.start before.entries more (subst IsHistory on history)

-- what goes on from a history follows its newest version
pub history_rest : (before after : History) (more : List Entry) → GoesOnBy before more after → IsHistory after → AllFollow (newest before) more
history_rest before after more on history = follow_rest before.start before.entries more (subst IsHistory on history)

pub newest_more : (before after : History) (more : List Entry) → GoesOnBy before more after → newest after ≡ last_version (newest before) more
newest_more before after more on = ap newest on ∙ last_more before.start before.entries more

-- a number and layers with batches made
abbrev pub with_batches : Decided → List Batch → Decided
with_batches d batches = record { number = d.number + length batches; layers = fold applied_all d.layers batches }

-- what entries make of the number and the layers of a version
pub decided_more : (version : Version) (entries : List Entry) → AllFollow version entries
    → decided (last_version version entries) ≡ with_batches (decided version) (accepted_in entries)
decided_more version entries follow =
    let all : IsWithCommands version (accepted_in entries) (last_version version entries) =
    newest_has_commands (record { start = version; entries = entries }) follow in
    ap (λ (n : ℕ). record { number = n; layers = (last_version version entries).layers }) all.number
    ∙ ap (λ (ls : List Layer). record { number = version.number + length (accepted_in entries); layers = ls }) all.layers
