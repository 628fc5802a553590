use Rattle.std.proofs.Common.{refl, sym, w64, ◌∙◌}
use Rattle.std.proofs.lemmas.Bool.{false≢true}
use Rattle.std.proofs.lemmas.Int.{to_z-of_z}
use Rattle.std.proofs.lemmas.Result.{err_from_is_err_and}
use Rattle.server_session.specs.Stores.{no_store}
use Rattle.server_session.proofs.AnswerLemmas.{size_read, points_read, grid_unnamed, grid_of_no_size, grid_gone, grid_refused, grid_reported}
use Rattle.server_session.proofs.answering.answer_grid.Goals as goal

pub returns-in_err-name : goal.returns-in_err-name
returns-in_err-name g c =
    let p = err_from_is_err_and c.from_residual.result c.from_residual.ensures.1 in
    rw (p.1, p.2) (grid_unnamed no_store c.args.me.now c.args.name.now c.args.x c.args.y c.args.step c.args.nx c.args.ny _ c.in_err-name.ensures.refused)

pub returns-in_err-points : goal.returns-in_err-points
returns-in_err-points g c =
    let p = err_from_is_err_and c.from_residual-in_err-points.result c.from_residual-in_err-points.ensures.1 in
    let step = to_z-of_z w64 c.args.step c.ranges.step in
    let nx = to_z-of_z w64 c.args.nx c.ranges.nx in
    let ny = to_z-of_z w64 c.args.ny c.ranges.ny in
    let wrong = c.in_err-points.ensures in
    rw (p.1, p.2, wrong.err) (grid_of_no_size no_store c.args.me.now c.args.name.now c.args.x c.args.y c.args.step c.args.nx c.args.ny c.in_ok-name.ensures.ok.1
    (λ size. false≢true (wrong.known.1 (size_read _ _ _ _ _ _ (sym step) (sym nx) (sym ny) size))))

pub returns-in_err-version : goal.returns-in_err-version
returns-in_err-version g c =
    let p = err_from_is_err_and c.from_residual-in_err-version.result c.from_residual-in_err-version.ensures.1 in
    let step = to_z-of_z w64 c.args.step c.ranges.step in
    let nx = to_z-of_z w64 c.args.nx c.ranges.nx in
    let ny = to_z-of_z w64 c.args.ny c.ranges.ny in
    let size = size_read c.args.step c.args.nx c.args.ny _ _ _ step nx ny (c.in_ok-points.ensures.known.0 refl) in
    let e = c.look.ensures in
    rw (p.1, p.2) (grid_gone c.args.me.now c.look.new.me e.stays e.made no_store c.args.name.now c.args.x c.args.y c.args.step c.args.nx c.args.ny _
    c.in_ok-name.ensures.ok.1 size c.in_err-version.ensures.err)

pub returns-in_err-picture : goal.returns-in_err-picture
returns-in_err-picture g c =
    let p = err_from_is_err_and c.from_residual-in_err-picture.result c.from_residual-in_err-picture.ensures.1 in
    let x = to_z-of_z w64 c.args.x c.ranges.x in
    let y = to_z-of_z w64 c.args.y c.ranges.y in
    let step = to_z-of_z w64 c.args.step c.ranges.step in
    let nx = to_z-of_z w64 c.args.nx c.ranges.nx in
    let ny = to_z-of_z w64 c.args.ny c.ranges.ny in
    let named = c.in_ok-name.ensures.ok in
    let size = size_read c.args.step c.args.nx c.args.ny _ _ _ step nx ny (c.in_ok-points.ensures.known.0 refl) in
    let points = points_read c.args.x c.args.y c.args.step c.args.nx c.args.ny _ _ _ _ _ _ x y step nx ny c.in_ok-points.ensures.ok in
    let e = c.look.ensures in
    rw (p.1, p.2) (grid_refused c.args.me.now c.look.new.me e.stays e.made no_store c.args.name.now _ c.args.x c.args.y c.args.step c.args.nx c.args.ny _ _ _
    (c.deref.ensures ∙ c.in_ok-version.ensures.newest) named.0 points named.1 size c.in_err-picture.ensures.refused)

pub returns : goal.returns
returns g c =
    let x = to_z-of_z w64 c.args.x c.ranges.x in
    let y = to_z-of_z w64 c.args.y c.ranges.y in
    let step = to_z-of_z w64 c.args.step c.ranges.step in
    let nx = to_z-of_z w64 c.args.nx c.ranges.nx in
    let ny = to_z-of_z w64 c.args.ny c.ranges.ny in
    let named = c.in_ok-name.ensures.ok in
    let size = size_read c.args.step c.args.nx c.args.ny _ _ _ step nx ny (c.in_ok-points.ensures.known.0 refl) in
    let points = points_read c.args.x c.args.y c.args.step c.args.nx c.args.ny _ _ _ _ _ _ x y step nx ny c.in_ok-points.ensures.ok in
    let e = c.look.ensures in
    let drawn = c.in_ok-picture.ensures in
    grid_reported c.args.me.now c.look.new.me e.stays e.made no_store c.args.name.now _ c.args.x c.args.y c.args.step c.args.nx c.args.ny _ _ _
    (c.deref.ensures ∙ c.in_ok-version.ensures.newest) named.0 points named.1 size drawn.accepted drawn.ok
