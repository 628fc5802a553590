use Rattle.std.proofs.Common.{◌≡◌, ◌≤ℤ◌, ◌*ℤ◌, ◌∙◌, sym}
use Rattle.overlay_terms.specs.Plane.{Segment}
use Rattle.point_looks.proofs.LookLemmas.{on_behind, on_before}
use Rattle.feature_spots.proofs.StepLemmas.{seen_under, seen_level, seen_over, yes, no}
use Rattle.feature_spots.proofs.seeing.see_right.Goals as goal

pub returns-then-is_left-clause-on : goal.returns-then-is_left-clause-on
returns-then-is_left-clause-on c =
    let s : Segment = record { left = c.args.a; right = c.args.b } in
    on_behind s c.args.p.now (yes c.is_left.result c.args.p.now.x (c.args.a.x *ℤ c.args.p.now.w) c.is_left.ensures c.if-is_left.true)

pub returns-then-is_right-clause-on : goal.returns-then-is_right-clause-on
returns-then-is_right-clause-on c =
    let s : Segment = record { left = c.args.a; right = c.args.b } in
    on_before s c.args.p.now (yes c.is_right.result (c.args.b.x *ℤ c.args.p.now.w) c.args.p.now.x c.is_right.ensures c.if-is_right.true)

pub returns-in-Less-clause-below : goal.returns-in-Less-clause-below
returns-in-Less-clause-below c =
    let s : Segment = record { left = c.args.a; right = c.args.b } in
    let after : (c.args.a.x *ℤ c.args.p.now.w) ≤ℤ c.args.p.now.x = no c.is_left.result c.args.p.now.x (c.args.a.x *ℤ c.args.p.now.w) c.is_left.ensures c.if-is_left.false in
    let before : c.args.p.now.x ≤ℤ (c.args.b.x *ℤ c.args.p.now.w) = no c.is_right.result (c.args.b.x *ℤ c.args.p.now.w) c.args.p.now.x c.is_right.ensures c.if-is_right.false in
    (seen_under s c.args.p.now c.requires after before (sym c.in_ok-side.ensures.value ∙ c.in-Less.is)).below_is

pub returns-in-Equal-clause-on : goal.returns-in-Equal-clause-on
returns-in-Equal-clause-on c =
    let s : Segment = record { left = c.args.a; right = c.args.b } in
    let after : (c.args.a.x *ℤ c.args.p.now.w) ≤ℤ c.args.p.now.x = no c.is_left.result c.args.p.now.x (c.args.a.x *ℤ c.args.p.now.w) c.is_left.ensures c.if-is_left.false in
    let before : c.args.p.now.x ≤ℤ (c.args.b.x *ℤ c.args.p.now.w) = no c.is_right.result (c.args.b.x *ℤ c.args.p.now.w) c.args.p.now.x c.is_right.ensures c.if-is_right.false in
    (seen_level s c.args.p.now c.requires after before (sym c.in_ok-side.ensures.value ∙ c.in-Equal.is)).on_is

pub returns-in-Equal-clause-below : goal.returns-in-Equal-clause-below
returns-in-Equal-clause-below c =
    let s : Segment = record { left = c.args.a; right = c.args.b } in
    let after : (c.args.a.x *ℤ c.args.p.now.w) ≤ℤ c.args.p.now.x = no c.is_left.result c.args.p.now.x (c.args.a.x *ℤ c.args.p.now.w) c.is_left.ensures c.if-is_left.false in
    let before : c.args.p.now.x ≤ℤ (c.args.b.x *ℤ c.args.p.now.w) = no c.is_right.result (c.args.b.x *ℤ c.args.p.now.w) c.args.p.now.x c.is_right.ensures c.if-is_right.false in
    (seen_level s c.args.p.now c.requires after before (sym c.in_ok-side.ensures.value ∙ c.in-Equal.is)).below_is

pub returns-in-Greater-clause-below : goal.returns-in-Greater-clause-below
returns-in-Greater-clause-below c =
    let s : Segment = record { left = c.args.a; right = c.args.b } in
    let after : (c.args.a.x *ℤ c.args.p.now.w) ≤ℤ c.args.p.now.x = no c.is_left.result c.args.p.now.x (c.args.a.x *ℤ c.args.p.now.w) c.is_left.ensures c.if-is_left.false in
    let before : c.args.p.now.x ≤ℤ (c.args.b.x *ℤ c.args.p.now.w) = no c.is_right.result (c.args.b.x *ℤ c.args.p.now.w) c.args.p.now.x c.is_right.ensures c.if-is_right.false in
    c.is_left-in-Greater.ensures ∙ (seen_over s c.args.p.now c.requires after before (sym c.in_ok-side.ensures.value ∙ c.in-Greater.is)).below_is
