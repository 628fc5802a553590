use Rattle.std.proofs.Common.{◌≡◌, List, [], ◌∷◌, ◌++◌, sym, ap, subst, ◌∙◌}
use Rattle.std.specs.Prelude.{Some, None}
use Rattle.arrange.specs.LineEnds.{left_end, IsCounted, open_unit}
use Rattle.arrange.specs.Lines.{line_marked}
use Rattle.arrange.specs.AddedUnits.{HasAddedUnits}
use Rattle.arrange.specs.declared.line_end.LineEnd.{LineEnd}
use Rattle.arrange.specs.declared.unit.Unit.{Unit}
use Rattle.arrange.proofs.LoneUnits.{lone_with, lone_without}
use Rattle.arrange.proofs.finding_units.add_lone.Goals as goal

pub returns-in_ok-push : goal.returns-in_ok-push
returns-in_ok-push c =
    let segment = c.args.segment.now in
    let old : List Unit = c.args.list.now.items in
    let m = line_marked segment in
    let more : (xs : List LineEnd) → IsCounted xs c.none-passed.result → IsCounted (xs ++ left_end m ∷ []) c.add.new.self =
    subst (λ (x : LineEnd). (xs : List LineEnd) → IsCounted xs c.none-passed.result → IsCounted (xs ++ x ∷ []) c.add.new.self) c.left_of-from.ensures c.add.ensures in
    let unit : Some c.in-Some.unit ≡ open_unit c.add.new.self m.segment.left m.segment.right =
    c.in-Some.ensures ∙ ap (λ (x : LineEnd). open_unit c.add.new.self x.at c.right_of-to.result.at) c.left_of-from.ensures
    ∙ ap (λ (x : LineEnd). open_unit c.add.new.self m.segment.left x.at) c.right_of-to.ensures in
    subst (λ (us : List Unit). HasAddedUnits (m ∷ []) old us) (sym c.in_ok-push.ensures.items) (lone_with segment c.requires c.none-passed.result c.add.new.self c.none-passed.ensures more old c.in-Some.unit unit)

pub returns-in_default : goal.returns-in_default
returns-in_default c =
    let segment = c.args.segment.now in
    let m = line_marked segment in
    let more : (xs : List LineEnd) → IsCounted xs c.none-passed.result → IsCounted (xs ++ left_end m ∷ []) c.add.new.self =
    subst (λ (x : LineEnd). (xs : List LineEnd) → IsCounted xs c.none-passed.result → IsCounted (xs ++ x ∷ []) c.add.new.self) c.left_of-from.ensures c.add.ensures in
    let unit : None ≡ open_unit c.add.new.self m.segment.left m.segment.right =
    c.in_default.ensures ∙ ap (λ (x : LineEnd). open_unit c.add.new.self x.at c.right_of-to.result.at) c.left_of-from.ensures
    ∙ ap (λ (x : LineEnd). open_unit c.add.new.self m.segment.left x.at) c.right_of-to.ensures in
    lone_without segment c.requires c.none-passed.result c.add.new.self c.none-passed.ensures more c.args.list.now.items unit
