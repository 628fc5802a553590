-- Laws of reading and writing expressions.
use Rattle.std.specs.Prelude.{◌≡◌, ◌⊎◌, ℕ, ◌≤◌, List, length}
use Rattle.overlay_terms.specs.Trees.{Tree}
use Rattle.layer_expr.specs.declared.fault.ExprFault.{ExprFault}
use Rattle.layer_expr.specs.Token.{tokens_of}
use Rattle.layer_expr.specs.Grammar.{ReadsAs, IsRefusedBy}
use Rattle.layer_expr.specs.Spelling.{expression_text, IsExpression}

-- what is written for an expression reads back as the same tree
abbrev pub WrittenReadsBack : Type 0
WrittenReadsBack = (tree : Tree (List ℕ)) → IsExpression tree → ReadsAs (expression_text tree) tree

-- what is read is an expression
abbrev pub ReadIsExpression : Type 0
ReadIsExpression = (bytes : List ℕ) (tree : Tree (List ℕ)) → ReadsAs bytes tree → IsExpression tree

-- the text that is written has no more tokens than any other that reads as the same tree
abbrev pub FewestTokens : Type 0
FewestTokens =
    (bytes : List ℕ) (tree : Tree (List ℕ)) → ReadsAs bytes tree
    → length (tokens_of (expression_text tree)) ≤ length (tokens_of bytes)

-- a text has one tree
abbrev pub OneTree : Type 0
OneTree = (bytes : List ℕ) (t u : Tree (List ℕ)) → ReadsAs bytes t → ReadsAs bytes u → t ≡ u

-- a text has one first fault
abbrev pub OneFault : Type 0
OneFault = (bytes : List ℕ) (f g : ExprFault) → IsRefusedBy bytes f → IsRefusedBy bytes g → f ≡ g

-- no text is both read and refused
abbrev pub NeverBoth : Type 0
NeverBoth = (bytes : List ℕ) (t : Tree (List ℕ)) (f : ExprFault) → ReadsAs bytes t → ¬ (IsRefusedBy bytes f)

-- each text is read or refused
abbrev pub ReadOrRefused : Type 0
ReadOrRefused = (bytes : List ℕ) → ((t : Tree (List ℕ)) × ReadsAs bytes t) ⊎ ((f : ExprFault) × IsRefusedBy bytes f)
