use Rattle.std.proofs.Common.{◌≡◌, ℕ, ◌+◌, ◌-◌, ◌≤◌, arith}
use Rattle.arrange.proofs.PlacedLemmas.{next_places, next_pair, segment_held}
use Rattle.arrange.proofs.finding_pieces.add_along.Goals as goal

-- the place before
before : (i : ℕ) → 1 ≤ i → (i - 1) + 1 ≡ i
before i h = omega arith

pub add_between-requires : goal.add_between-requires
add_between-requires c = record {
  neighbours =
      next_places c.args.input.now c.args.seg.now c.requires.valid c.requires.among c.args.places.now c.requires.along
      (c.loop-i.i - 1) c.loop-i.i c.index-places-i.result c.index-places-i-in-loop-i.result (before c.loop-i.i c.loop-i.auto.i) c.loop-i-test.true c.index-places-i.is c.index-places-i-in-loop-i.is;
}

pub loop-i-preserved : goal.loop-i-preserved
loop-i-preserved c =
    next_pair c.args.input.now c.args.places.now (c.loop-i.i - 1) c.loop-i.i c.index-places-i.result c.index-places-i-in-loop-i.result c.args.placed.now.items c.loop-i.placed.items c.add_between.new.placed.items
    (before c.loop-i.i c.loop-i.auto.i) c.loop-i-test.true c.index-places-i.is c.index-places-i-in-loop-i.is c.loop-i.invariant c.in_ok-add_between.ensures

pub returns : goal.returns
returns c =
    segment_held c.args.input.now c.args.seg.now c.requires.valid c.requires.among c.args.places.now c.requires.along
    c.args.placed.now.items c.loop-i.placed.items c.loop-i.i c.loop-i-test.false c.loop-i.invariant
