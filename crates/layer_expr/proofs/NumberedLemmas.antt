-- Definitions compared with the expressions among layers in reach, one after another.
use Rattle.std.proofs.Common.{◌≡◌, ℕ, zero, suc, ◌+◌, ◌<◌, ◌≤◌, Bool, true, false, ◌&&◌, List, [], ◌∷◌, length, refl, sym, ap, ◌∙◌, arith, Some, None, map, drop, get_or, nat_le, Bor, leb-false}
use borrow.Author.Tests.{leb-true}
use Rattle.std.specs.Cmp.Lexicographic.{pointwise}
use Rattle.overlay_terms.specs.Trees.{Tree, Source, relabel}
use Rattle.overlay_terms.specs.Layers.{Name}
use Rattle.overlay_terms.specs.SameInput.{same_definition}
use Rattle.overlay_terms.proofs.Lists.{drop_there}
use Rattle.layer_expr.specs.declared.steps.StepNode.{StepNode}
use Rattle.layer_expr.specs.Steps.{step_tree}
use Rattle.layer_expr.specs.StepList.{reached, definitions_of}
use Rattle.layer_expr.proofs.NameNumbers.{Lent}

-- the expressions among layers behind references, with numbers for names
abbrev pub relabelled : (Name → Source) → List Lent → List (Tree Source)
relabelled at layers = map (λ d. relabel at d.1) (definitions_of (reached layers))

none_left : {A : Type 0} (xs : List A) (i : ℕ) → length xs ≤ i → drop i xs ≡ []
none_left [] zero h = refl
none_left [] (suc i) h = refl
none_left (x ∷ xs) zero h = absurd (omega arith)
none_left (x ∷ xs) (suc i) h = none_left xs i (omega arith)

-- definitions and layers: what is left of both
module _ (at : Name → Source) (layers : List Lent) (definitions : List StepNode) (whole : Bool) (i next : ℕ) (told : whole ≡ pointwise same_definition (map step_tree (drop next definitions)) (relabelled at (drop i layers))) where
  pub base_passed : (layer : Lent) → i < length layers → layer ≡ get_or layers i layer → layer.1 ≡ None → whole ≡ pointwise same_definition (map step_tree (drop next definitions)) (relabelled at (drop (i + 1) layers))
  base_passed layer h e none =
      told ∙ ap (λ ls. pointwise same_definition (map step_tree (drop next definitions)) (relabelled at ls)) (drop_there layers i layer h e)
      ∙ ap (λ o. pointwise same_definition (map step_tree (drop next definitions)) (relabelled at ((layer.0, o) ∷ drop (i + 1) layers))) none

  expected : (layer : Lent) (expression : Bor (Tree Name)) → i < length layers → layer ≡ get_or layers i layer → layer.1 ≡ Some expression
      → whole ≡ pointwise same_definition (map step_tree (drop next definitions)) (relabel at expression.now ∷ relabelled at (drop (i + 1) layers))
  expected layer expression h e some =
      told ∙ ap (λ ls. pointwise same_definition (map step_tree (drop next definitions)) (relabelled at ls)) (drop_there layers i layer h e)
      ∙ ap (λ o. pointwise same_definition (map step_tree (drop next definitions)) (relabelled at ((layer.0, o) ∷ drop (i + 1) layers))) some

  both : (layer : Lent) (expression : Bor (Tree Name)) (d : StepNode) (r : Bool) → i < length layers → layer ≡ get_or layers i layer → layer.1 ≡ Some expression
      → next < length definitions → d ≡ get_or definitions next d → r ≡ same_definition (step_tree d) (relabel at expression.now)
      → whole ≡ (r && pointwise same_definition (map step_tree (drop (next + 1) definitions)) (relabelled at (drop (i + 1) layers)))
  both layer expression d r h e some k f is =
      expected layer expression h e some
      ∙ ap (λ ds. pointwise same_definition (map step_tree ds) (relabel at expression.now ∷ relabelled at (drop (i + 1) layers))) (drop_there definitions next d k f)
      ∙ ap (λ b. b && pointwise same_definition (map step_tree (drop (next + 1) definitions)) (relabelled at (drop (i + 1) layers))) (sym is)

  pub derived_passed : (layer : Lent) (expression : Bor (Tree Name)) (d : StepNode) (r : Bool) → i < length layers → layer ≡ get_or layers i layer → layer.1 ≡ Some expression
      → next < length definitions → d ≡ get_or definitions next d → r ≡ same_definition (step_tree d) (relabel at expression.now) → r ≡ true
      → whole ≡ pointwise same_definition (map step_tree (drop (next + 1) definitions)) (relabelled at (drop (i + 1) layers))
  derived_passed layer expression d r h e some k f is holds =
      both layer expression d r h e some k f is
      ∙ ap (λ b. b && pointwise same_definition (map step_tree (drop (next + 1) definitions)) (relabelled at (drop (i + 1) layers))) holds

  pub other_definition : (layer : Lent) (expression : Bor (Tree Name)) (d : StepNode) (r : Bool) → i < length layers → layer ≡ get_or layers i layer → layer.1 ≡ Some expression
      → next < length definitions → d ≡ get_or definitions next d → r ≡ same_definition (step_tree d) (relabel at expression.now) → r ≡ false → false ≡ whole
  other_definition layer expression d r h e some k f is fails =
      sym (both layer expression d r h e some k f is
      ∙ ap (λ b. b && pointwise same_definition (map step_tree (drop (next + 1) definitions)) (relabelled at (drop (i + 1) layers))) fails)

  pub none_more : (layer : Lent) (expression : Bor (Tree Name)) → i < length layers → layer ≡ get_or layers i layer → layer.1 ≡ Some expression → length definitions ≤ next → false ≡ whole
  none_more layer expression h e some k =
      sym (expected layer expression h e some
      ∙ ap (λ ds. pointwise same_definition (map step_tree ds) (relabel at expression.now ∷ relabelled at (drop (i + 1) layers))) (none_left definitions next k))

  pub all_passed : length layers ≤ i → nat_le (length definitions) next ≡ whole
  all_passed h = split (nat_le (length definitions) next) refl where
    ended : whole ≡ pointwise same_definition (map step_tree (drop next definitions)) []
    ended = told ∙ ap (λ ls. pointwise same_definition (map step_tree (drop next definitions)) (relabelled at ls)) (none_left layers i h)

    more : (ds : List StepNode) (k : ℕ) → k < length ds → pointwise same_definition (map step_tree (drop k ds)) [] ≡ false
    more [] k h = absurd (omega arith)
    more (d ∷ ds) zero h = refl
    more (d ∷ ds) (suc k) h = more ds k (omega arith)

    split : (b : Bool) → nat_le (length definitions) next ≡ b → b ≡ whole
    split true e = sym (ended ∙ ap (λ ds. pointwise same_definition (map step_tree ds) []) (none_left definitions next (leb-true (length definitions) next e)))
    split false e = sym (ended ∙ more definitions next (leb-false (length definitions) next e))
