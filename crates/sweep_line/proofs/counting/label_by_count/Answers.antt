use Rattle.std.proofs.Common.{rules, ◌≡◌, ◌<◌, List, [], ◌∷◌, ◌++◌, length, map, take, get_or, ap, sym, subst, ◌∙◌, arith}
use Rattle.std.proofs.lemmas.List.{take_more, map-append}
use Rattle.std.proofs.lemmas.List.Elements.{All-push}
use Rattle.std.specs.Prelude.{All}
use Rattle.std.specs.Int.RustNames.{bit_xor}
use Rattle.arrange.specs.Arrangement.{IsElementary}
use Rattle.arrange.specs.Marked.{marked_of}
use Rattle.arrange.specs.declared.piece.Elementary.{Elementary}
use Rattle.sweep_line.specs.Label.{IsLabelled}
use Rattle.sweep_line.specs.declared.labelled.Labelled.{Labelled}
use Rattle.sweep_line.proofs.InputLemmas.{labelled}
use Rattle.sweep_line.proofs.counting.label_by_count.Goals as goal

pub under_mask-under-requires-clause-layers : goal.under_mask-under-requires-clause-layers
under_mask-under-requires-clause-layers c = c.marked.ensures.few

pub loop-piece-preserved : goal.loop-piece-preserved
loop-piece-preserved c =
    let input = c.args.input.now in
    let e : Elementary = c.piece-item.result in
    let i = c.loop-piece.piece-index in
    let items = c.deref-piece-items.result.now in
    let inside : i < length items = c.loop-piece-test.true in
    let within : i < length c.args.pieces.items = omega (arith, ap length c.deref-piece-items.ensures.value) in
    let here : get_or c.args.pieces.items i e ≡ e = ap (λ xs. get_or xs i e) (sym c.deref-piece-items.ensures.value) ∙ sym c.piece-item.is in
    let sound : IsElementary input e = subst (λ (x : Elementary). IsElementary input x) here (c.requires.sound i e within) in
    let new : Labelled = record { piece = e; under = c.under_mask-under.result; over = bit_xor c.under_mask-under.result e.mask } in
    let sides : IsLabelled input new = labelled input e c.under_mask-under.result (map marked_of c.marked.result.now) sound c.marked.ensures.value c.under_mask-under.ensures in
    let pushed : c.push.new.self.items ≡ c.loop-piece.labels.items ++ new ∷ [] = search rules in
    record {
      pieces =
          ap (λ (ls : List Labelled). map (λ l. l.piece) ls) pushed
          ∙ map-append (λ (l : Labelled). l.piece) c.loop-piece.labels.items (new ∷ [])
          ∙ ap (λ (es : List Elementary). es ++ e ∷ []) c.loop-piece.invariant.pieces
          ∙ ap (λ (x : Elementary). take i items ++ x ∷ []) c.piece-item.is
          ∙ sym (take_more items i e inside);
      sides = subst (λ (ls : List Labelled). All (IsLabelled input) ls) (sym pushed) (All-push (IsLabelled input) c.loop-piece.labels.items new c.loop-piece.invariant.sides sides);
    }
