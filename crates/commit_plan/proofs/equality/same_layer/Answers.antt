use Rattle.std.proofs.Common.{◌≡◌, sym, ◌∙◌, rules}
use Rattle.overlay_terms.specs.Layers.{derived}
use Rattle.layer_book.specs.Layer.{content}
use Rattle.commit_plan.specs.Same.{same_content}
use Rattle.commit_plan.proofs.EqualityTests.{reported_same}
use Rattle.commit_plan.proofs.equality.same_layer.Goals as goal

pub returns-in-Derived-Derived : goal.returns-in-Derived-Derived
returns-in-Derived-Derived c =
    let a : content c.args.held.now ≡ derived c.in-Derived-Derived.held.value = search rules in
    let b : content c.args.new.now ≡ derived c.in-Derived-Derived.new.value = search rules in
    reported_same c.is_same.result c.deref-in-Derived-Derived.result.now c.deref-in-Derived-Derived-2.result.now
    c.in-Derived-Derived.held.value c.in-Derived-Derived.new.value c.deref-in-Derived-Derived.ensures
    c.deref-in-Derived-Derived-2.ensures c.is_same.ensures ∙ sym (λ i. same_content (a i) (b i))
