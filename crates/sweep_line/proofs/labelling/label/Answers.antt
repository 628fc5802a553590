use Rattle.std.proofs.Common.{rules, ◌≡◌, ◌<◌, List, [], ◌∷◌, ◌++◌, length, map, take, get_or, ap, sym, subst, ◌∙◌}
use Rattle.std.proofs.lemmas.List.{take_more, map-append}
use Rattle.std.proofs.lemmas.List.Elements.{All-push}
use Rattle.std.specs.Prelude.{All}
use Rattle.arrange.specs.Arrangement.{ArePieces}
use Rattle.arrange.specs.declared.piece.Elementary.{Elementary}
use Rattle.sweep_line.specs.Label.{IsLabelled}
use Rattle.sweep_line.specs.Sweep.{IsStatus}
use Rattle.sweep_line.specs.declared.labelled.Labelled.{Labelled}
use Rattle.sweep_line.specs.declared.status.StatusEntry.{StatusEntry}
use Rattle.sweep_line.proofs.PassLemmas.{starts}
use Rattle.sweep_line.proofs.labelling.label.Goals as goal

pub loop-piece-init : goal.loop-piece-init
loop-piece-init c = record {
  pieces = search rules;
  sides = search rules;
  status = subst (λ (es : List StatusEntry). IsStatus c.args.input.now (take 0 c.deref-piece-items.result.now) es) (sym c.new-status.ensures) (starts c.args.input.now c.deref-piece-items.result.now);
}

pub loop-piece-preserved : goal.loop-piece-preserved
loop-piece-preserved c =
    let input = c.args.input.now in
    let e : Elementary = c.piece-item.result in
    let i = c.loop-piece.piece-index in
    let items = c.deref-piece-items.result.now in
    let inside : i < length items = c.loop-piece-test.true in
    let here : get_or items i e ≡ e = sym c.piece-item.is in
    let are : ArePieces input items = subst (λ (xs : List Elementary). ArePieces input xs) (sym c.deref-piece-items.ensures.value) c.requires in
    let new : Labelled = c.in_ok-label.label in
    let passed = c.in_ok-label.ensures input items i c.column.ensures.valid are inside here c.loop-piece.invariant.status in
    let pushed : c.push.new.self.items ≡ c.loop-piece.labels.items ++ new ∷ [] = search rules in
    record {
      pieces =
          ap (λ (ls : List Labelled). map (λ l. l.piece) ls) pushed
          ∙ map-append (λ (l : Labelled). l.piece) c.loop-piece.labels.items (new ∷ [])
          ∙ ap (λ (es : List Elementary). es ++ new.piece ∷ []) c.loop-piece.invariant.pieces
          ∙ ap (λ (x : Elementary). take i items ++ x ∷ []) (passed.0 ∙ c.piece-item.is)
          ∙ sym (take_more items i e inside);
      sides = subst (λ (ls : List Labelled). All (IsLabelled input) ls) (sym pushed) (All-push (IsLabelled input) c.loop-piece.labels.items new c.loop-piece.invariant.sides passed.1);
      status = passed.2;
    }
