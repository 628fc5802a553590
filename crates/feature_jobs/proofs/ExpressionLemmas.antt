-- The expressions that a pair asks, by their texts.
use Rattle.std.proofs.Common.{◌≡◌, refl, ap, ◌∙◌, arith}
use Rattle.std.specs.Prelude.{codes}
use Rattle.overlay_terms.specs.Trees.{Tree, leaf, combine, intersection, difference, truth, Steps, steps_value}
use Rattle.overlay_terms.specs.Layers.{Name}
use Rattle.layer_expr.specs.Grammar.{ReadsAs}
use Rattle.layer_expr.specs.Spelling.{expression_text, IsExpression}
use Rattle.layer_expr.proofs.LawLemmas.{one_tree}
use Rattle.layer_expr.proofs.SpellingLemmas.{reads_back}
use Rattle.feature_jobs.specs.Expressions.{Bits, bits_of_two, AreOfTwo, AreInCore, of_first, of_both, first_alone, second_alone, within_core}

-- the steps of the text of an expression are those of that expression
of_tree : (tree : Tree Name) (steps : Steps) → IsExpression tree → AreOfTwo (expression_text tree) steps → (bits : Bits) → steps_value steps bits ≡ truth (bits_of_two bits) tree
of_tree tree steps is own bits =
    own.value bits ∙ ap (truth (bits_of_two bits)) (one_tree (expression_text tree) own.asked tree own.spelled (reads_back tree is))

abbrev first : Tree Name
first = leaf (codes "A")

abbrev second : Tree Name
second = leaf (codes "B")

abbrev in_core : Tree Name → Tree Name
in_core part = combine intersection part (leaf (codes "Core"))

pub are_of_first : (steps : Steps) → AreOfTwo (codes "A & Core") steps → AreInCore of_first steps
are_of_first steps own = of_tree (in_core first) steps (refl, omega arith) own

pub are_of_both : (steps : Steps) → AreOfTwo (codes "A & B & Core") steps → AreInCore of_both steps
are_of_both steps own = of_tree (in_core (combine intersection first second)) steps (refl, omega arith) own

pub are_first_alone : (steps : Steps) → AreOfTwo (codes "(A - B) & Core") steps → AreInCore first_alone steps
are_first_alone steps own = of_tree (in_core (combine difference first second)) steps (refl, omega arith) own

pub are_second_alone : (steps : Steps) → AreOfTwo (codes "(B - A) & Core") steps → AreInCore second_alone steps
are_second_alone steps own = of_tree (in_core (combine difference second first)) steps (refl, omega arith) own

pub is_within_core : (t : Tree Name) → ReadsAs (codes "Core & Asked") t → t ≡ within_core
is_within_core t own = one_tree (codes "Core & Asked") t within_core own (reads_back within_core (refl, omega arith))
