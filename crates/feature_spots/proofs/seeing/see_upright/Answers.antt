use Rattle.std.proofs.Common.{◌≡◌, ◌≤ℤ◌, ◌<ℤ◌, ◌*ℤ◌, arith}
use Rattle.std.proofs.lemmas.Int.{ints}
use Rattle.feature_spots.proofs.StepLemmas.{along_on, off_step, none_below, yes, no}
use Rattle.feature_spots.proofs.seeing.see_upright.Goals as goal

pub returns-then-is_left-clause-on : goal.returns-then-is_left-clause-on
returns-then-is_left-clause-on c =
    let t : c.args.p.now.x <ℤ (c.args.a.x *ℤ c.args.p.now.w) = yes c.is_left.result c.args.p.now.x (c.args.a.x *ℤ c.args.p.now.w) c.is_left.ensures c.if-is_left.true in
    off_step c.args.a c.args.b c.args.p.now c.requires.upright c.requires.up (λ k. omega (arith, ints, t, k.at_x))

pub returns-then-is_left-clause-below : goal.returns-then-is_left-clause-below
returns-then-is_left-clause-below c = none_below c.args.a c.args.b c.args.p.now c.requires.upright c.requires.up

pub returns-then-is_right-clause-on : goal.returns-then-is_right-clause-on
returns-then-is_right-clause-on c =
    let t : (c.args.a.x *ℤ c.args.p.now.w) <ℤ c.args.p.now.x = yes c.is_right.result (c.args.a.x *ℤ c.args.p.now.w) c.args.p.now.x c.is_right.ensures c.if-is_right.true in
    off_step c.args.a c.args.b c.args.p.now c.requires.upright c.requires.up (λ k. omega (arith, ints, t, k.at_x))

pub returns-then-is_right-clause-below : goal.returns-then-is_right-clause-below
returns-then-is_right-clause-below c = none_below c.args.a c.args.b c.args.p.now c.requires.upright c.requires.up

pub returns-then-is_lower-clause-on : goal.returns-then-is_lower-clause-on
returns-then-is_lower-clause-on c =
    let t : c.args.p.now.y <ℤ (c.args.a.y *ℤ c.args.p.now.w) = yes c.is_lower.result c.args.p.now.y (c.args.a.y *ℤ c.args.p.now.w) c.is_lower.ensures c.if-is_lower.true in
    off_step c.args.a c.args.b c.args.p.now c.requires.upright c.requires.up (λ k. omega (arith, ints, t, k.from_low))

pub returns-then-is_lower-clause-below : goal.returns-then-is_lower-clause-below
returns-then-is_lower-clause-below c = none_below c.args.a c.args.b c.args.p.now c.requires.upright c.requires.up

pub returns-then-is_higher-clause-on : goal.returns-then-is_higher-clause-on
returns-then-is_higher-clause-on c =
    let t : (c.args.b.y *ℤ c.args.p.now.w) <ℤ c.args.p.now.y = yes c.is_higher.result (c.args.b.y *ℤ c.args.p.now.w) c.args.p.now.y c.is_higher.ensures c.if-is_higher.true in
    off_step c.args.a c.args.b c.args.p.now c.requires.upright c.requires.up (λ k. omega (arith, ints, t, k.to_high))

pub returns-then-is_higher-clause-below : goal.returns-then-is_higher-clause-below
returns-then-is_higher-clause-below c = none_below c.args.a c.args.b c.args.p.now c.requires.upright c.requires.up

pub returns-clause-on : goal.returns-clause-on
returns-clause-on c =
    let after : (c.args.a.x *ℤ c.args.p.now.w) ≤ℤ c.args.p.now.x = no c.is_left.result c.args.p.now.x (c.args.a.x *ℤ c.args.p.now.w) c.is_left.ensures c.if-is_left.false in
    let before : c.args.p.now.x ≤ℤ (c.args.a.x *ℤ c.args.p.now.w) = no c.is_right.result (c.args.a.x *ℤ c.args.p.now.w) c.args.p.now.x c.is_right.ensures c.if-is_right.false in
    let low : (c.args.a.y *ℤ c.args.p.now.w) ≤ℤ c.args.p.now.y = no c.is_lower.result c.args.p.now.y (c.args.a.y *ℤ c.args.p.now.w) c.is_lower.ensures c.if-is_lower.false in
    let high : c.args.p.now.y ≤ℤ (c.args.b.y *ℤ c.args.p.now.w) = no c.is_higher.result (c.args.b.y *ℤ c.args.p.now.w) c.args.p.now.y c.is_higher.ensures c.if-is_higher.false in
    along_on c.args.a c.args.b c.args.p.now c.requires.upright c.requires.up (record { at_x = omega (arith, ints, after, before); from_low = low; to_high = high })

pub returns-clause-below : goal.returns-clause-below
returns-clause-below c = none_below c.args.a c.args.b c.args.p.now c.requires.upright c.requires.up
