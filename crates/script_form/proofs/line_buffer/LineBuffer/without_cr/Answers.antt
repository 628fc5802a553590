use Rattle.std.proofs.Common.{◌≡◌, ℕ, ◌==◌, false, cond, List, [], ◌∷◌, ◌++◌, refl, sym, ap, ◌∙◌}
use Rattle.std.proofs.lemmas.Bool.{ne_eqb}
use Rattle.script_form.specs.Lines.{without_cr}
use Rattle.script_form.proofs.line_buffer.LineBuffer.without_cr.Goals as goal

-- a CR at the end is dropped
without_cr-cr : (front : List ℕ) → without_cr (front ++ 13 ∷ []) ≡ front
without_cr-cr [] = refl
without_cr-cr (x ∷ []) = refl
without_cr-cr (x ∷ y ∷ front) = ap (λ l. x ∷ l) (without_cr-cr (y ∷ front))

-- another byte at the end stays
without_cr-other : (front : List ℕ) (b : ℕ) → (b == 13) ≡ false → without_cr (front ++ b ∷ []) ≡ front ++ b ∷ []
without_cr-other [] b other = ap (λ t. cond t [] (b ∷ [])) other
without_cr-other (x ∷ []) b other = ap (λ t. x ∷ cond t [] (b ∷ [])) other
without_cr-other (x ∷ y ∷ front) b other = ap (λ l. x ∷ l) (without_cr-other (y ∷ front) b other)

pub returns-in-Some : goal.returns-in-Some
returns-in-Some c =
    let is = c.in-Some.ensures.cases.0 in
    sym (ap without_cr (sym c.self.view_is ∙ sym c.as_slice-bytes.ensures.value ∙ is ∙ ap (λ b. c.in-Some.front.now ++ b ∷ []) c.if-last-eq13.true) ∙ without_cr-cr c.in-Some.front.now)

pub returns-in_default : goal.returns-in_default
returns-in_default c =
    let is = c.in-Some.ensures.cases.0 in
    is ∙ sym (ap without_cr (sym c.self.view_is ∙ sym c.as_slice-bytes.ensures.value ∙ is) ∙ without_cr-other c.in-Some.front.now _ (ne_eqb _ 13 c.if-last-eq13.false))
