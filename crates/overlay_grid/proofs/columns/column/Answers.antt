use Rattle.std.proofs.Common.{◌≡◌, ℕ, List, Bool, false, length, ◌∙◌, sym, subst}
use Rattle.std.specs.Prelude.{replicate}
use Rattle.std.proofs.lemmas.List.{take_at}
use Rattle.overlay_terms.specs.Layers.{marked_segments}
use Rattle.overlay_grid.specs.Column.{AreTurnedBy, is_on_marked}
use Rattle.overlay_grid.specs.Turning.{AreMarked}
use Rattle.overlay_grid.proofs.ManySegments.{column_is, rings_of, then_is}
use Rattle.overlay_grid.proofs.columns.column.Goals as goal

pub returns : goal.returns
returns c =
    let marked = marked_segments (rings_of c.args.bases.now) in
    let turns = c.mark_bases.new.turns in
    let edges = c.mark_bases.new.edges in
    let turns_len : length turns ≡ c.in_ok-turns.turns.len = c.mark_bases.ensures.turns_len ∙ c.deref_mut.ensures.len in
    let edges_len : length edges ≡ c.in_ok-edges.edges.len = c.mark_bases.ensures.edges_len ∙ c.deref_mut-2.ensures.len in
    let turns_is : turns ≡ c.deref.result.now = sym (c.deref.ensures.value ∙ take_at turns _ _ turns_len) in
    let edges_is : edges ≡ c.deref-2.result.now = sym (c.deref-2.ensures.value ∙ take_at edges _ _ edges_len) in
    let none : c.deref_mut.result.now ≡ replicate c.args.count 0 = c.deref_mut.ensures.value ∙ c.in_ok-turns.ensures.items_if_clones_equal (λ y e. e) in
    let unmarked : c.deref_mut-2.result.now ≡ replicate c.args.count false = c.deref_mut-2.ensures.value ∙ c.in_ok-edges.ensures.items_if_clones_equal (λ y e. e) in
    then_is (λ v. v.items) c.marks.result _ _ c.marks.ensures
    (column_is marked c.args.steps.now c.args.rise c.args.count c.deref.result.now c.deref-2.result.now
    (c.deref.ensures.len ∙ c.in_ok-turns.ensures.len)
    (subst (λ (ts : List ℕ). AreTurnedBy marked c.args.rise (replicate c.args.count 0) ts) turns_is
    (subst (λ (ts : List ℕ). AreTurnedBy marked c.args.rise ts turns) none c.mark_bases.ensures.turns))
    (subst (λ (es : List Bool). AreMarked (is_on_marked marked) c.args.rise (replicate c.args.count false) es) edges_is
    (subst (λ (es : List Bool). AreMarked (is_on_marked marked) c.args.rise es edges) unmarked c.mark_bases.ensures.edges)))
