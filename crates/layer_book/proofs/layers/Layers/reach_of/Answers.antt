use Rattle.std.proofs.Common.{◌-◌, false, replicate, sym, ap, ◌∙◌, subst, arith}
use Rattle.overlay_terms.specs.Commands.{index_of}
use Rattle.layer_book.specs.Question.{at_index}
use Rattle.layer_book.proofs.Closing.{IsClosedFrom, closed_at_end, closed_more, kept_marks, first_mark, near_index}
use Rattle.layer_book.proofs.MarkedReach.{AreReached, reached_first, reached_more, marked_in_reach}
use Rattle.layer_book.proofs.layers.Layers.reach_of.Goals as goal

pub loop-i-init : goal.loop-i-init
loop-i-init c =
    let layers = c.args.self.now in
    record {
      room = c.type_inv.wanted;
      asked = λ name at. first_mark (replicate 32 false) c.mark.new.wanted c.args.index (index_of layers name) c.mark.ensures at.1 (omega (arith, near_index layers name at.0, c.len-i.ensures.valid.sound.few, c.type_inv.wanted));
      closed = λ i layer from e m. closed_at_end layers c.mark.new.wanted i layer (omega (arith, c.len-i.ensures.value, from)) e m;
      reached = λ name at. reached_first layers name c.mark.new.wanted 32 c.args.index c.len-i.ensures.valid.sound.orderly at.0 at.1 c.mark.ensures;
    }

pub loop-i-preserved : goal.loop-i-preserved
loop-i-preserved c =
    let layers = c.args.self.now in
    let book = c.len-i.ensures.valid in
    let inv = c.loop-i.invariant in
    let k = c.loop-i.i - 1 in
    record {
      room = c.type_inv.wanted;
      asked = λ name at. ap (λ ws. at_index ws (index_of layers name)) c.mark_used.ensures ∙ kept_marks layers c.loop-i.wanted k (index_of layers name) (inv.asked name at);
      closed = subst (λ ws. IsClosedFrom layers ws k) (sym c.mark_used.ensures) (closed_more layers c.loop-i.wanted k book.sound.orderly (omega (arith, c.len-i.ensures.value)) (omega (arith, inv.room, book.sound.few)) (λ i layer from e m. inv.closed i layer (omega (arith, from)) e m));
      reached = λ name at. subst (AreReached layers name) (sym c.mark_used.ensures) (reached_more layers name c.loop-i.wanted k book.sound.orderly at.0 (omega (arith, c.len-i.ensures.value)) (inv.reached name at));
    }

pub returns-clause-asked : goal.returns-clause-asked
returns-clause-asked c = c.loop-i.invariant.asked

pub returns-clause-room : goal.returns-clause-room
returns-clause-room c = c.loop-i.invariant.room

pub returns-clause-closed : goal.returns-clause-closed
returns-clause-closed c = λ i layer e m. c.loop-i.invariant.closed i layer (omega arith) e m

pub returns-clause-exactly : goal.returns-clause-exactly
returns-clause-exactly c =
    let book = c.len-i.ensures.valid in
    let inv = c.loop-i.invariant in
    λ name at. marked_in_reach c.args.self.now name c.loop-i.wanted book.sound.orderly at.0 (omega (arith, inv.room, book.sound.few)) (inv.asked name at) (λ i layer e m. inv.closed i layer (omega arith) e m) (inv.reached name at)
