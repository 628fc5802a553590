-- What reading an expression says of its record.
use Rattle.std.proofs.Common.{◌≡◌, ◌⊎◌, inl, inr, ℕ, List, Option, Some, None, refl, sym, subst, ◌∙◌, ap}
use Rattle.std.specs.Prelude.{bytes_eq, true, false}
use Rattle.std.proofs.lemmas.Bool.{false≢true}
use Rattle.std.proofs.lemmas.Slice.Eq.{bytes_eq-Decides}
use Rattle.overlay_terms.specs.Trees.{Tree}
use Rattle.overlay_terms.specs.Layers.{Name}
use Rattle.overlay_terms.proofs.NameLemmas.{same_name}
use Rattle.layer_expr.specs.declared.fault.ExprFault.{ExprFault}
use Rattle.layer_expr.specs.Grammar.{ReadsAs, IsRefusedBy}
use Rattle.layer_expr.specs.Spelling.{expression_text}
use Rattle.layer_expr.proofs.SpellingLemmas.{reads_back, read_is_expression}
use Rattle.layer_expr.proofs.LawLemmas.{one_tree, never_both}
use Rattle.layer_expr.specs.declared.fault.ExprFault.TheVariants.{ExprSyntax, ExprTooLong, BadName, OutOfMemory}
use Rattle.store_terms.specs.DefinitionRecord.{definition_of_record}
use Rattle.record_reading.specs.Answers.{Fails, failed_as}
use Rattle.store_terms.proofs.RecordLemmas.{definition_is_its_text}

none_unless : {A : Type 0} (o : Option A) → ((x : A) → o ≡ Some x → ⊥) → o ≡ None
none_unless None never = refl
none_unless (Some x) never = absurd (never x refl)

-- the tree of a record reads as its bytes
record_reads : (bytes : List ℕ) (tree : Tree Name) → definition_of_record bytes ≡ Some tree
    → ReadsAs bytes tree × (bytes ≡ expression_text tree)
record_reads bytes tree e =
    let is = (definition_is_its_text bytes tree).0 e in
    (subst (λ (b : List ℕ). ReadsAs b tree) (sym is.1) (reads_back tree is.0), is.1)

refused_none : (bytes : List ℕ) (fault : ExprFault) → IsRefusedBy bytes fault → definition_of_record bytes ≡ None
refused_none bytes fault refused =
    none_unless (definition_of_record bytes)
    (λ tree e. never_both bytes tree fault (record_reads bytes tree e).0 refused)

-- a fault of reading the expression is one of reading the record
pub refused_fails : (bytes : List ℕ) (fault : ExprFault) → (fault ≡ OutOfMemory) ⊎ IsRefusedBy bytes fault
    → Fails (failed_as fault) (definition_of_record bytes)
refused_fails bytes (ExprSyntax at) (inl e) = absurd cc
refused_fails bytes (ExprSyntax at) (inr refused) = refused_none bytes (ExprSyntax at) refused
refused_fails bytes ExprTooLong (inl e) = absurd cc
refused_fails bytes ExprTooLong (inr refused) = refused_none bytes ExprTooLong refused
refused_fails bytes BadName (inl e) = absurd cc
refused_fails bytes BadName (inr refused) = refused_none bytes BadName refused
refused_fails bytes OutOfMemory given = tt

another_none : (bytes : List ℕ) (tree : Tree Name) → ReadsAs bytes tree → ¬ (expression_text tree ≡ bytes)
    → definition_of_record bytes ≡ None
another_none bytes tree reads differ =
    none_unless (definition_of_record bytes) (λ other e.
    let is = record_reads bytes other e in
    differ (sym (is.1 ∙ ap expression_text (one_tree bytes other tree is.0 reads))))

text_read : (bytes : List ℕ) (tree : Tree Name) → ReadsAs bytes tree → expression_text tree ≡ bytes
    → definition_of_record bytes ≡ Some tree
text_read bytes tree reads is = (definition_is_its_text bytes tree).1 (read_is_expression bytes tree reads, sym is)

-- the bytes are the text that is written again for what they read as, or they are another
pub same_text : (text bytes : List ℕ) (tree : Tree Name) → ReadsAs bytes tree → text ≡ expression_text tree
    → bytes_eq text bytes ≡ true → definition_of_record bytes ≡ Some tree
same_text text bytes tree reads is same = text_read bytes tree reads (sym is ∙ same_name text bytes same)

pub another_text : (text bytes : List ℕ) (tree : Tree Name) → ReadsAs bytes tree → text ≡ expression_text tree
    → bytes_eq text bytes ≡ false → definition_of_record bytes ≡ None
another_text text bytes tree reads is differ =
    another_none bytes tree reads (λ e. false≢true (sym differ ∙ (bytes_eq-Decides text bytes).1 (is ∙ e)))
