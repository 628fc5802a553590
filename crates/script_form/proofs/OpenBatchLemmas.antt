-- Lines of a batch that are read one after another.
use Rattle.std.proofs.Common.{◌≡◌, ℕ, ℤ, ◌+◌, ◌==◌, ◌⊎◌, inl, inr, true, false, List, [], ◌∷◌, ◌++◌, map, length, Option, Some, None, option_map, Result, Ok, Err, IfOk, IfErr, Vec, refl, sym, ap, ◌∙◌, subst, arith, append_assoc}
use Rattle.std.proofs.lemmas.Bool.{cases_Bool, cond-true, cond-false, eqb-false, eq-eqb, ne_eqb}
use Rattle.std.proofs.lemmas.List.{length-append, map_push}
use Rattle.overlay_terms.specs.Commands.{Command}
use Rattle.overlay_terms.specs.Batches.{Batch}
use Rattle.layer_book.specs.Command.{command}
use Rattle.layer_book.specs.declared.command.Command as code
use Rattle.script_form.specs.declared.fault.CommandFault.{CommandFault}
use Rattle.script_form.specs.declared.open_batch.OpenBatch.{OpenBatch}
use Rattle.script_form.specs.declared.open_batch.LinesFault.{LinesFault}
use Rattle.script_form.specs.declared.open_batch.LinesFault.TheVariants.{Unread, OutOfMemory}
use Rattle.script_form.specs.declared.line_turn.LineTurn.TheVariants.{Whole}
use Rattle.script_form.specs.Fault.{code_of}
use Rattle.script_form.specs.OpenBatch.{AreUnread, AreRead, AreReadSoFar, IsOpenBatch, IsOpen, IsLineGathered, unread}
use Rattle.script_form.specs.Reading.{IsMemory}
use Rattle.script_form.specs.Turns.{Waiting, asked_size, begun_by, is_nothing, is_full, with_line}
use Rattle.script_form.specs.BatchLines.{IsCommandOf, IsNoCommand, AreCommandsOf, IsFirstUnread}
use Rattle.script_form.specs.Requests.{Request, batch, put_text}

-- each line has one command
pub as_many : (requests : List Request) (commands : Batch) → AreCommandsOf requests commands → length requests ≡ length commands
as_many [] [] read = refl
as_many [] (command ∷ commands) read = absurd read
as_many (request ∷ requests) [] read = absurd read
as_many (request ∷ requests) (command ∷ commands) read = omega (arith, as_many requests commands read.1)

-- one line more that is a command
pub read-push : (requests : List Request) (commands : Batch) (request : Request) (command : Command)
    → AreCommandsOf requests commands → IsCommandOf request command → AreCommandsOf (requests ++ request ∷ []) (commands ++ command ∷ [])
read-push [] [] request command read is = (is, tt)
read-push [] (first ∷ commands) request command read is = absurd read
read-push (first ∷ requests) [] request command read is = absurd read
read-push (first ∷ requests) (one ∷ commands) request command read is = (read.0, read-push requests commands request command read.1 is)

-- one line more that is none
pub unread-push : (requests : List Request) (commands : Batch) (request : Request) (place : ℕ) (fault : CommandFault)
    → AreCommandsOf requests commands → place ≡ length commands → IsNoCommand request fault → IsFirstUnread (requests ++ request ∷ []) place fault
unread-push requests commands request place fault read at why = record {
  before = requests;
  request = request;
  after = [];
  lines = refl;
  place_is = at ∙ sym (as_many requests commands read);
  commands = commands;
  read = read;
  why = why;
}

-- whatever comes after the first line that is none
pub unread-more : (requests : List Request) (request : Request) (place : ℕ) (fault : CommandFault)
    → IsFirstUnread requests place fault → IsFirstUnread (requests ++ request ∷ []) place fault
unread-more requests request place fault first = record {
  before = first.before;
  request = first.request;
  after = first.after ++ request ∷ [];
  lines = ap (λ (rs : List Request). rs ++ request ∷ []) first.lines ∙ append_assoc first.before (first.request ∷ first.after) (request ∷ []);
  place_is = first.place_is;
  commands = first.commands;
  read = first.read;
  why = first.why;
}

-- a line more is read, after commands
pub pushed : (requests : List Request) (items new : List code.Command) (change : code.Command) (asked : Request)
    → new ≡ items ++ change ∷ [] → AreCommandsOf requests (map command items) → IsCommandOf asked (command change) → AreCommandsOf (requests ++ asked ∷ []) (map command new)
pushed requests items new change asked is read one =
    subst (λ (commands : Batch). AreCommandsOf (requests ++ asked ∷ []) commands) (sym (ap (map command) is ∙ map_push command items change))
    (read-push requests (map command items) asked (command change) read one)

-- or it is none
pub refused : (requests : List Request) (commands : Batch) (asked : Request) (place : ℕ) (fault : CommandFault) (reported : LinesFault)
    → reported ≡ unread (code_of fault == 40) place fault → (code_of fault ≡ 40) ⊎ IsNoCommand asked fault → AreCommandsOf requests commands → place ≡ length commands
    → AreUnread (requests ++ asked ∷ []) reported
refused requests commands asked place fault reported is why read at =
    elim (cases_Bool (code_of fault == 40)) [
      | inl memory ↦ subst (AreUnread (requests ++ asked ∷ [])) (sym (is ∙ ap (λ b. unread b place fault) memory)) tt
      | inr other ↦ subst (AreUnread (requests ++ asked ∷ [])) (sym (is ∙ ap (λ b. unread b place fault) other))
          (unread-push requests commands asked place fault read at (no_memory other why))
    ] where
      no_memory : (code_of fault == 40) ≡ false → (code_of fault ≡ 40) ⊎ IsNoCommand asked fault → IsNoCommand asked fault
      no_memory other (inl memory) = absurd (eqb-false (code_of fault) 40 other memory)
      no_memory other (inr none) = none

-- what is read so far stays where no line more is read
pub unread-on : (requests : List Request) (asked : Request) (reported : LinesFault) → AreUnread requests reported → AreUnread (requests ++ asked ∷ []) reported
unread-on requests asked (Unread place fault) first = unread-more requests asked place fault first
unread-on requests asked OutOfMemory first = tt

-- before the first line
pub none_read : {Z : Type 0} (read : Result (Vec code.Command Z) LinesFault) → IfOk read (λ commands. commands.items ≡ []) → IfErr read (λ fault. fault ≡ OutOfMemory) → AreReadSoFar [] read
none_read (Ok commands) none err = subst (λ (items : List code.Command). AreCommandsOf [] (map command items)) (sym none) tt
none_read (Err fault) none err = subst (AreUnread []) (sym err) tt

-- a batch begins
pub begun : (asked : ℤ) (size : ℕ) (o : Option ℕ) (open_batch : OpenBatch) → o ≡ Some size → o ≡ asked_size asked → open_batch.size ≡ size → open_batch.came ≡ 0
    → AreReadSoFar [] open_batch.read → IsOpen (begun_by (batch asked)) (Some open_batch)
begun asked size o open_batch is value sized none read =
    subst (λ (found : Option ℕ). IsOpen (option_map (λ size. record { size = size; came = [] }) found) (Some open_batch)) (sym is ∙ value) (record { same_size = sized; as_many = none; read = read })

-- the fault of a PUT
pub put_unread : {A : Type 0} (name text : List ℕ) (result : Result A CommandFault) → IfErr result (λ fault. IsMemory name fault ⊎ IsNoCommand (put_text name text) fault)
    → IfErr result (λ fault. (code_of fault ≡ 40) ⊎ IsNoCommand (put_text name text) fault)
put_unread name text (Ok change) refused = tt
put_unread name text (Err fault) (inl memory) = inl memory.2
put_unread name text (Err fault) (inr by) = inr by

-- whether all lines came, by the counts of the code
module _ (waiting : Waiting) (asked : Request) (open_batch : OpenBatch) (is : IsOpenBatch waiting open_batch) where
  one_more : length (waiting.came ++ asked ∷ []) ≡ open_batch.came + 1
  one_more = omega (arith, length-append waiting.came (asked ∷ []), is.as_many)

  pub all_came : open_batch.came + 1 ≡ open_batch.size → is_full (with_line waiting asked) ≡ true
  all_came last = eq-eqb (length (waiting.came ++ asked ∷ [])) waiting.size (one_more ∙ last ∙ is.same_size)

  pub more_to_come : (open_batch.came + 1 ≡ open_batch.size → ⊥) → is_full (with_line waiting asked) ≡ false
  more_to_come more = ne_eqb (length (waiting.came ++ asked ∷ [])) waiting.size (λ all. more (sym one_more ∙ all ∙ sym is.same_size))

  pub counts_on : open_batch.came + 1 ≡ length (waiting.came ++ asked ∷ [])
  counts_on = sym one_more

-- the last line of a batch
pub taken_whole : (waiting : Option Waiting) (old : OpenBatch) (asked : Request) (read : Result Batch LinesFault) → is_nothing asked ≡ false → IsOpen waiting (Some old)
    → ((w : Waiting) → IsOpenBatch w old → (is_full (with_line w asked) ≡ true) × AreRead (w.came ++ asked ∷ []) read) → IsLineGathered waiting asked None (Whole read)
taken_whole None old asked read some there joined = absurd there
taken_whole (Some waiting) old asked read some there joined =
    let all = joined waiting there in
    record {
      open_then = subst (λ (o : Option Waiting). IsOpen o None) (sym (cond-false (is_nothing asked) _ _ some ∙ cond-true (is_full (with_line waiting asked)) _ _ all.0)) tt;
      ended = (waiting.came ++ asked ∷ [], cond-false (is_nothing asked) _ _ some ∙ cond-true (is_full (with_line waiting asked)) _ _ all.0, all.1);
    }
