-- The version that a batch leaves is a version, and the one that follows.
use Rattle.std.specs.Prelude.{◌≡◌, ◌≢◌, ℕ, ◌+◌, ◌≤◌, ◌==◌, Bool, true, false, List, [], ◌∷◌, Option, Some, None, if◌then◌else◌}
use Rattle.std.specs.Option.{option_map}
use Rattle.std.proofs.Common.{zero, suc, ◌<◌, length, get_or, map, drop, add-one, refl, ap, sym, ◌∙◌, subst, arith}
use Rattle.std.proofs.lemmas.Bool.{eqb-false}
use Rattle.overlay_terms.specs.Layers.{Name, Layer}
use Rattle.overlay_terms.specs.Commands.{Refusal, Command, AllAccepted, applied, when, version_max, version_limit}
use Rattle.overlay_terms.specs.Touched.{is_touched}
use Rattle.overlay_terms.specs.Histories.{Tile, Version, tile_at, FollowsBatch}
use Rattle.overlay_terms.specs.Batches.{Batch, whole, applied_all, refusal_from, batch_refusal_at, is_touched_from}
use Rattle.overlay_terms.proofs.AcceptedLemmas.{not_when}
use Rattle.overlay_terms.proofs.Options.{both_absent}
use Rattle.overlay_terms.proofs.BatchLemmas.{accepted_in_turn}
use Rattle.layer_book.specs.declared.command.Command as code
use Rattle.layer_book.specs.Command.{command}
use Rattle.layer_tiles.specs.Table.{left_at, Laid, IsLaid}
use Rattle.versions.specs.Laid.{laid_of, left_by_all, numbered}
use Rattle.versions.proofs.NextVersion.{raised}

-- what an accepted batch says: the layers accept each of its commands in turn, and the number is not the last
pub record IsAccepted (number : ℕ) (layers : List Layer) (batch : Batch) : Type 0 where
  pub in_turn : AllAccepted layers batch
  pub not_last : number ≢ version_max

-- a reason that is not there is no reason of the whole either
not_whole : (reason : Option Refusal) → option_map whole reason ≡ None → reason ≡ None
not_whole None e = refl
not_whole (Some reason) e = absurd (cc)

pub accepted_parts : (number : ℕ) (layers : List Layer) (batch : Batch) → batch_refusal_at number layers batch ≡ None → IsAccepted number layers batch
accepted_parts number layers batch e =
    let limit = when (number == version_max) version_limit in
    let reasons = both_absent (refusal_from 0 layers batch) (option_map whole limit) e in
    record {
      in_turn = (accepted_in_turn layers batch).0 reasons.first;
      not_last = eqb-false number version_max (not_when (number == version_max) version_limit (not_whole limit reasons.second));
    }

-- what was touched stays touched
touched_before : (batch : Batch) (layers : List Layer) (name : Name) (k : ℕ) → is_touched_from true layers batch name k ≡ true
touched_before [] layers name k = refl
touched_before (command ∷ commands) layers name k = touched_before commands (applied layers command) name k

-- what the first command leaves and then the others, all leave
pub left_in_turn : (layers : List Layer) (command : Command) (commands : Batch) (name : Name) (k : ℕ) (t : Option Tile)
    → (if is_touched_from false (applied layers command) commands name k then None else (if is_touched layers command name k then None else t)) ≡ (if is_touched_from false layers (command ∷ commands) name k then None else t)
left_in_turn layers command commands name k t = split (is_touched layers command name k) where
  rest : Bool
  rest = is_touched_from false (applied layers command) commands name k

  twice : (b : Bool) → ◌≡◌ {A = Option Tile} (if b then None else None) None
  twice true = refl
  twice false = refl

  split : (b : Bool) → (if rest then None else (if b then None else t)) ≡ (if is_touched_from b (applied layers command) commands name k then None else t)
  split true = twice rest ∙ sym (ap (λ b. if b then None else t) (touched_before commands (applied layers command) name k))
  split false = refl

pub next_small : (old : Version) (batch : Batch) (number : ℕ) → batch_refusal_at old.number old.layers batch ≡ None → number ≡ old.number → number ≤ version_max → number + 1 ≤ version_max
next_small old batch number accepted same small =
    raised number version_max small (λ last. (accepted_parts old.number old.layers batch accepted).not_last (sym same ∙ last))

pub next_follows : (old : Version) (batch all : Batch) (number durable : ℕ) (table next : Laid) (new : Version) → batch_refusal_at old.number old.layers batch ≡ None → number ≡ old.number → durable ≡ old.durable
    → table ≡ laid_of old → all ≡ batch → next.layers ≡ applied_all table.layers all → ((name : Name) (k : ℕ) → tile_at next.tiles name k ≡ left_by_all table all name k) → new ≡ numbered (number + 1) next durable → FollowsBatch old batch new
next_follows old batch all number durable table next new accepted same_number same_durable is same layers tiles new_is =
    subst (FollowsBatch old batch) (sym new_is) (record {
      accepted_there = accepted;
      number = ap (λ n. n + 1) same_number;
      layers = layers ∙ (λ i. applied_all (is i).layers (same i));
      tiles = λ name k. tiles name k ∙ (λ i. left_by_all (is i) (same i) name k);
      durable = same_durable;
    })

-- the commands that are left: the first, and others
pub commands_left : (commands : List code.Command) (i : ℕ) (change : code.Command) → i < length commands → change ≡ get_or commands i change → map command (drop i commands) ≡ command change ∷ map command (drop (i + 1) commands)
commands_left commands i change h e = from commands i h e ∙ ap (λ n. command change ∷ map command (drop n commands)) (sym (add-one i)) where
  from : (cs : List code.Command) (j : ℕ) → j < length cs → change ≡ get_or cs j change → map command (drop j cs) ≡ command change ∷ map command (drop (suc j) cs)
  from [] j h e = absurd (omega arith)
  from (x ∷ xs) zero h e = ap (λ y. command y ∷ map command xs) (sym e)
  from (x ∷ xs) (suc j) h e = from xs j (omega arith) e

-- one command more of a batch: what is left of the commands leaves what all leave
pub record IsStep (first : Laid) (all : Batch) (now : Laid) (rest : Batch) : Type 0 where
  pub accepted : AllAccepted now.layers rest
  pub layers : applied_all now.layers rest ≡ applied_all first.layers all
  pub tiles : (name : Name) (k : ℕ) → left_by_all now rest name k ≡ left_by_all first all name k
  pub valid : IsLaid now

pub batch_step : (first now made next : Laid) (all rest left : Batch) (change : Command) → left ≡ change ∷ rest → AllAccepted now.layers left → applied_all now.layers left ≡ applied_all first.layers all
    → ((name : Name) (k : ℕ) → left_by_all now left name k ≡ left_by_all first all name k) → made.layers ≡ applied now.layers change → ((name : Name) (k : ℕ) → tile_at made.tiles name k ≡ left_at now change name k) → IsLaid made → next ≡ made → IsStep first all next rest
batch_step first now made next all rest left change e accepted layers tiles made_layers made_tiles valid same =
    subst (λ l. IsStep first all l rest) (sym same) (record {
      accepted = subst (λ ls. AllAccepted ls rest) (sym made_layers) (subst (AllAccepted now.layers) e accepted).1;
      layers = ap (λ ls. applied_all ls rest) made_layers ∙ sym (ap (applied_all now.layers) e) ∙ layers;
      tiles = λ name k.
          (λ i. if is_touched_from false (made_layers i) rest name k then None else made_tiles name k i)
          ∙ left_in_turn now.layers change rest name k (tile_at now.tiles name k)
          ∙ sym (ap (λ b. left_by_all now b name k) e) ∙ tiles name k;
      valid = valid;
    })
