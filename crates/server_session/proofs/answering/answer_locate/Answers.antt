use Rattle.std.proofs.Common.{refl, sym, w64, ◌∙◌}
use Rattle.std.proofs.lemmas.Bool.{false≢true}
use Rattle.std.proofs.lemmas.Int.{to_z-of_z}
use Rattle.std.proofs.lemmas.Result.{err_from_is_err_and}
use Rattle.layer_book.specs.Place.{location}
use Rattle.server_session.specs.Stores.{no_store}
use Rattle.server_session.proofs.AnswerLemmas.{query_read, point_read, locate_unnamed, locate_out_of_range, locate_gone, locate_refused, locate_reported, unknown_stands}
use Rattle.server_session.proofs.answering.answer_locate.Goals as goal

pub returns-in_err-name : goal.returns-in_err-name
returns-in_err-name c =
    let p = err_from_is_err_and c.from_residual.result c.from_residual.ensures.1 in
    rw (p.1, p.2) (locate_unnamed no_store c.args.me.now c.args.name.now c.args.x c.args.y c.args.w _ c.in_err-name.ensures.refused)

pub returns-in_err-query : goal.returns-in_err-query
returns-in_err-query c =
    let p = err_from_is_err_and c.from_residual-in_err-query.result c.from_residual-in_err-query.ensures.1 in
    let x = to_z-of_z w64 c.args.x c.ranges.x in
    let y = to_z-of_z w64 c.args.y c.ranges.y in
    let w = to_z-of_z w64 c.args.w c.ranges.w in
    let wrong = c.in_err-query.ensures in
    rw (p.1, p.2, wrong.err) (locate_out_of_range no_store c.args.me.now c.args.name.now c.args.x c.args.y c.args.w c.in_ok-name.ensures.ok.1 (λ query. false≢true (wrong.in_range.1 (query_read _ _ _ _ _ _ (sym x) (sym y) (sym w) query))))

pub returns-in_err-version : goal.returns-in_err-version
returns-in_err-version c =
    let p = err_from_is_err_and c.from_residual-in_err-version.result c.from_residual-in_err-version.ensures.1 in
    let x = to_z-of_z w64 c.args.x c.ranges.x in
    let y = to_z-of_z w64 c.args.y c.ranges.y in
    let w = to_z-of_z w64 c.args.w c.ranges.w in
    let query = query_read c.args.x c.args.y c.args.w _ _ _ x y w (c.in_ok-query.ensures.in_range.0 refl) in
    let e = c.look.ensures in
    rw (p.1, p.2) (locate_gone c.args.me.now c.look.new.me e.stays e.made no_store c.args.name.now c.args.x c.args.y c.args.w _ c.in_ok-name.ensures.ok.1 query c.in_err-version.ensures.err)

pub returns-in_err-place : goal.returns-in_err-place
returns-in_err-place c =
    let p = err_from_is_err_and c.from_residual-in_err-place.result c.from_residual-in_err-place.ensures.1 in
    let x = to_z-of_z w64 c.args.x c.ranges.x in
    let y = to_z-of_z w64 c.args.y c.ranges.y in
    let w = to_z-of_z w64 c.args.w c.ranges.w in
    let named = c.in_ok-name.ensures.ok in
    let query = query_read c.args.x c.args.y c.args.w _ _ _ x y w (c.in_ok-query.ensures.in_range.0 refl) in
    let e = c.look.ensures in
    rw (p.1, p.2) (locate_refused c.args.me.now c.look.new.me e.stays e.made no_store c.args.name.now _ c.args.x c.args.y c.args.w _ _ (c.deref.ensures ∙ c.in_ok-version.ensures.newest) named.0 named.1 query (c.in_err-place.ensures.err, unknown_stands _ c.in_err-place.ensures.known.1))

pub returns : goal.returns
returns c =
    let x = to_z-of_z w64 c.args.x c.ranges.x in
    let y = to_z-of_z w64 c.args.y c.ranges.y in
    let w = to_z-of_z w64 c.args.w c.ranges.w in
    let named = c.in_ok-name.ensures.ok in
    let asked = c.in_ok-query.ensures in
    let found = c.in_ok-place.ensures in
    let query = query_read c.args.x c.args.y c.args.w _ _ _ x y w (asked.in_range.0 refl) in
    let point = point_read c.args.x c.args.y c.args.w _ _ _ _ x y w asked.ok in
    let e = c.look.ensures in
    locate_reported c.args.me.now c.look.new.me e.stays e.made no_store c.args.name.now _ c.args.x c.args.y c.args.w _ _ (location c.in_ok-place.place) (c.deref.ensures ∙ c.in_ok-version.ensures.newest) named.0 point named.1 query (found.known.0 refl) found.ok
