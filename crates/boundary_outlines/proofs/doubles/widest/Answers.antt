use Rattle.std.proofs.Common.{◌+◌, ◌*◌, ◌^◌, ℕ, ◌≤◌, arith, refl, inr, sym}
use Rattle.std.proofs.Math.Nat.{mul-one}
use Rattle.boundary_outlines.proofs.DoubleLemmas.{grown_on, room_more, room_all}
use Rattle.boundary_outlines.proofs.doubles.widest.Goals as goal

pub loop-init : goal.loop-init
loop-init c = record {
  scaled = record { is = sym (mul-one (c.args.whole * c.args.w + c.args.rest)); proper = c.requires.proper; short = c.requires.short };
  few = omega arith;
  grown = inr refl;
}

pub loop-preserved : goal.loop-preserved
loop-preserved c = room_more (c.args.whole * c.args.w + c.args.rest) c.args.w c.loop.counter c.loop.own c.fitted-own.result c.loop.invariant c.fitted-own.ensures.is

pub returns-clause-is : goal.returns-clause-is
returns-clause-is c =
    let size : ℕ = c.args.whole * c.args.w + c.args.rest in
    c.fitted.ensures.is.still size (c.fitted-one.ensures.is.still size (c.fitted-two.ensures.is.still size (c.fitted-three.ensures.is.still size (c.fitted-four.ensures.is.still size c.loop.invariant.scaled))))

pub returns-clause-least : goal.returns-clause-least
returns-clause-least c =
    let size : ℕ = c.args.whole * c.args.w + c.args.rest in
    let w : ℕ = c.args.w in
    let all : 2 ^ 33 ≤ c.loop.own.whole = room_all size w c.loop.counter c.loop.own c.loop-test.false c.loop.auto.counter-end c.requires.some c.requires.wide c.loop.invariant in
    let four : 2 ^ 37 ≤ c.fitted-four.result.whole = grown_on w 16 (2 ^ 33) (2 ^ 37) c.loop.own c.fitted-four.result (omega arith) (omega arith) all c.fitted-four.ensures.is in
    let three : 2 ^ 45 ≤ c.fitted-three.result.whole = grown_on w 8 (2 ^ 37) (2 ^ 45) c.fitted-four.result c.fitted-three.result (omega arith) (omega arith) four c.fitted-three.ensures.is in
    let two : 2 ^ 49 ≤ c.fitted-two.result.whole = grown_on w 4 (2 ^ 45) (2 ^ 49) c.fitted-three.result c.fitted-two.result (omega arith) (omega arith) three c.fitted-two.ensures.is in
    let one : 2 ^ 51 ≤ c.fitted-one.result.whole = grown_on w 2 (2 ^ 49) (2 ^ 51) c.fitted-two.result c.fitted-one.result (omega arith) (omega arith) two c.fitted-one.ensures.is in
    grown_on w 1 (2 ^ 51) (2 ^ 52) c.fitted-one.result c.fitted.result (omega arith) (omega arith) one c.fitted.ensures.is

pub fitted-own-requires-clause-proper : goal.fitted-own-requires-clause-proper
fitted-own-requires-clause-proper c = c.loop.invariant.scaled.proper

pub fitted-own-requires-clause-short : goal.fitted-own-requires-clause-short
fitted-own-requires-clause-short c = c.loop.invariant.scaled.short

pub fitted-own-requires-clause-count : goal.fitted-own-requires-clause-count
fitted-own-requires-clause-count c = let few = c.loop.invariant.few in let end = c.loop-test.true in omega (arith, few, end)

pub fitted-four-requires-clause-proper : goal.fitted-four-requires-clause-proper
fitted-four-requires-clause-proper c = c.loop.invariant.scaled.proper

pub fitted-four-requires-clause-short : goal.fitted-four-requires-clause-short
fitted-four-requires-clause-short c = c.loop.invariant.scaled.short
