use Rattle.std.proofs.Common.{◌≡◌, ◌+◌, ◌<◌, length, take, refl, inl, ap, sym, ◌∙◌, subst, arith}
use Rattle.std.specs.List.{All}
use Rattle.overlay_terms.specs.Histories.{Tile, Version}
use Rattle.overlay_terms.specs.Tiles.{Input, input_of}
use Rattle.book_history.specs.BookLogs.{BookLog}
use Rattle.book_history.specs.Logs.{newest_in}
use Rattle.book_lock.specs.Steps.{AreFinishedIn}
use Rattle.book_lock.proofs.Finishing.{all_stay, finish_next, there}
use Rattle.book_lock.proofs.Growing.{given}
use Rattle.book_lock.proofs.locked_log.LockedLog.add_tiles.Goals as goal

pub loop-built-init : goal.loop-built-init
loop-built-init g c = record { count = refl; last = c.requires.last; book = c.requires.book; finished = refl }

pub add_tile-requires : goal.add_tile-requires
add_tile-requires g c =
    let within : c.loop-built.built-index < length c.args.tiles.now = omega arith in
    let name = c.args.name.now in
    let one = c.built-item.result in
    let stays = all_stay g.J.BookName.stored _ _ _ _ c.loop-built.invariant.finished in
    record {
      last = c.loop-built.invariant.last;
      book = c.loop-built.invariant.book;
      present = λ is. subst (λ (v : Version). one.0 ≡ input_of v.layers name one.0.column) (sym c.loop-built.invariant.last)
          (there name c.args.tiles.now c.loop-built.built-index one within c.built-item.is c.args.seen_log.now.log c.loop-built.seen_log.log stays.layers
          (subst (λ (v : Version). All (λ (b : Input × Tile). b.0 ≡ input_of v.layers name b.0.column) c.args.tiles.now) c.requires.last (c.requires.present is)));
    }

pub loop-built-preserved : goal.loop-built-preserved
loop-built-preserved g c =
    let within : c.loop-built.built-index < length c.args.tiles.now = omega arith in
    let i = c.loop-built.invariant in
    record {
      count = ap (λ n. n + 1) i.count;
      last = given _ _ _ c.in-Ok-Some.field-0-is c.in-Ok-Some.ensures.last;
      book = c.in-Ok-Some.ensures.book;
      finished = finish_next _ _ _ c.args.name.now c.args.tiles.now c.loop-built.built-index c.built-item.result c.in-Ok-Some._is_kept within c.built-item.is i.finished
          (given _ _ _ c.in-Ok-Some.field-0-is c.in-Ok-Some.ensures.finished);
    }

pub returns-then-count-eq0 : goal.returns-then-count-eq0
returns-then-count-eq0 g c = record {
  last = tt;
  book = c.in-Err.ensures.book;
  few = tt;
  some = tt;
  finished = tt;
  err = inl c.in-Err.ensures.err.0;
}

-- memory ran out: this tile changed nothing
pub returns-in-Err : goal.returns-in-Err
returns-in-Err g c =
    let i = c.loop-built.invariant in
    let same = c.in-Err.ensures.err in
    record {
      last = same.1 ∙ i.last ∙ ap (λ (t : BookLog). newest_in t.log) (sym same.2);
      book = c.in-Err.ensures.book;
      few = omega (arith, i.count);
      some = λ _. omega arith;
      finished = subst (λ (t : BookLog). AreFinishedIn c.args.seen_log.now.log c.args.name.now (take c.loop-built.count c.args.tiles.now) t.log) (sym same.2)
          (subst (λ n. AreFinishedIn c.args.seen_log.now.log c.args.name.now (take n c.args.tiles.now) c.loop-built.seen_log.log) (sym i.count) i.finished);
      err = tt;
    }

pub returns : goal.returns
returns g c =
    let i = c.loop-built.invariant in
    record {
      last = i.last;
      book = i.book;
      few = omega (arith, i.count);
      some = λ some. omega (arith, i.count);
      finished = subst (λ n. AreFinishedIn c.args.seen_log.now.log c.args.name.now (take n c.args.tiles.now) c.loop-built.seen_log.log) (sym i.count) i.finished;
      err = tt;
    }
