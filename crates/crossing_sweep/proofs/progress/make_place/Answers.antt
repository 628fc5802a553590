use Rattle.std.proofs.Common.{◌≡◌, ◌≤◌, ◌+◌, ◌-◌, ℕ, List, take, drop, ap, sym, ◌∙◌, ◌++◌, length, arith}
use Rattle.std.proofs.Math.Seq.{take-take, take_at, drop_at}
use Rattle.std.proofs.Math.ListN.{length-append}
use Rattle.std.proofs.lemmas.List.{length-take-le}
use Rattle.crossing_sweep.specs.declared.member.Member.{Member}
use Rattle.crossing_sweep.proofs.progress.make_place.Goals as goal

-- the first ones stay the first where others come after them
first_of : (xs ys : List Member) (low k : ℕ) → low ≤ k → k ≤ length xs → take low (take k xs ++ ys) ≡ take low xs
first_of xs ys low k less fits =
    sym (take-take low k (take k xs ++ ys) less) ∙ ap (λ (l : List Member). take low l) (take_at (take k xs) ys k (length-take-le k xs fits)) ∙ take-take low k xs less

pub returns-then-gone-come-clause-below : goal.returns-then-gone-come-clause-below
returns-then-gone-come-clause-below c =
    let made : List Member = c.make_room.new.status.items in
    sym (take-take c.args.low c.args.high made c.requires.in_order) ∙ ap (λ (l : List Member). take c.args.low l) c.in_ok-make_room.ensures.below
    ∙ take-take c.args.low c.args.high c.args.status.now.items c.requires.in_order

pub returns-clause-below : goal.returns-clause-below
returns-clause-below c =
    let old : List Member = c.args.status.now.items in
    let k : ℕ = c.args.low + length c.args.stay.now in
    ap (λ (l : List Member). take c.args.low l) c.take_out.ensures ∙ first_of old (drop c.args.high old) c.args.low k (omega arith) (omega (arith, c.requires.in_order, c.requires.few, c.if-gone-come.false))

pub returns-clause-above : goal.returns-clause-above
returns-clause-above c =
    let old : List Member = c.args.status.now.items in
    let k : ℕ = c.args.low + length c.args.stay.now in
    ap (λ (l : List Member). drop k l) c.take_out.ensures ∙ drop_at (take k old) (drop c.args.high old) k (length-take-le k old (omega (arith, c.requires.in_order, c.requires.few, c.if-gone-come.false)))

pub returns-clause-long : goal.returns-clause-long
returns-clause-long c =
    let old : List Member = c.args.status.now.items in
    let k : ℕ = c.args.low + length c.args.stay.now in
    let same : length c.take_out.new.status.items ≡ length (take k old) + length (drop c.args.high old) = ap length c.take_out.ensures ∙ length-append (take k old) (drop c.args.high old) in
    let first : length (take k old) ≡ k = length-take-le k old (omega (arith, c.requires.in_order, c.requires.few, c.if-gone-come.false)) in
    omega (arith, same, first)
