use Rattle.std.proofs.Common.{◌≡◌, ◌+◌, ◌-◌, ◌++◌, take, ap, ◌∙◌, arith, rules}
use Rattle.version_book.specs.HeldTiles.{tiles_from}
use Rattle.version_book.proofs.HandingOut.{none_handed, one_handed, was_before}
use Rattle.version_book.proofs.held_tiles.HeldTiles.hand_out_strip.Goals as goal

pub loop-number-init : goal.loop-number-init
loop-number-init c = record {
  from = omega arith;
  done = none_handed c.args.name.now c.args.strip.first c.number-number.result c.args.self.now.list.items (omega arith);
}

pub loop-number-preserved : goal.loop-number-preserved
loop-number-preserved c =
    let same : c.in-Some.column ≡ c.loop-number.number = search rules in
    record {
      from = omega arith;
      done = one_handed c.args.name.now c.args.strip.first c.loop-number.number c.in-Some.column c.args.self.now.list.items c.loop-number.self.list.items c.hand_out.new.self.list.items
          c.loop-number.invariant.from same c.loop-number.invariant.done c.in_default-hand_out.ensures.ok;
    }

-- what was handed out goes again
pub returns-in-Err-clause-err : goal.returns-in-Err-clause-err
returns-in-Err-clause-err c =
    let held = c.args.self.now.list.items in
    let more = tiles_from c.args.name.now c.args.strip.first (c.loop-number.number - c.args.strip.first) in
    let now = c.hand_out.new.self.list.items in
    c.truncate.ensures.items ∙ ap (λ n. take n now) (c.len-before.ensures ∙ c.args.self.now.list.ok.0) ∙ was_before held more now (c.in-Err.ensures.err ∙ c.loop-number.invariant.done)

pub returns-clause-ok : goal.returns-clause-ok
returns-clause-ok c =
    let end : c.loop-number.number ≡ c.args.strip.last + 1 = omega arith in
    c.loop-number.invariant.done
    ∙ ap (λ n. c.args.self.now.list.items ++ tiles_from c.args.name.now c.args.strip.first (n - c.args.strip.first)) end
