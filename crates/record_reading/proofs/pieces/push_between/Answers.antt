use Rattle.std.proofs.Common.{rules, Some, sym, ◌∙◌}
use Rattle.std.proofs.lemmas.Bool.{false≢true}
use Rattle.record_reading.proofs.NamedPieceLemmas.{is_one, is_none, piece_read, no_piece}
use Rattle.record_reading.proofs.pieces.push_between.Goals as goal

pub returns-then-not-are_ends-clause-err : goal.returns-then-not-are_ends-clause-err
returns-then-not-are_ends-clause-err c all behind after rest support from to =
    let s = c.args.support.now in
    let f = c.args.from.now in
    let t = c.args.to.now in
    no_piece all behind after rest s f t support from to
    (is_none s f t (λ between. false≢true (sym c.if-not-are_ends.true ∙ c.are_ends.ensures.between.1 between)))

pub returns-clause-ok : goal.returns-clause-ok
returns-clause-ok c all behind after rest support from to =
    let s = c.args.support.now in
    let f = c.args.from.now in
    let t = c.args.to.now in
    let yes = c.if-not-are_ends.false in (
      c.between.result,
      piece_read all behind after rest s f t support from to
          (is_one s f t (c.are_ends.ensures.between.0 yes) (c.are_ends.ensures.placed yes))
          ∙ (λ i. Some (sym c.between.ensures i, rest)),
      search (rules, c.push_reserved.ensures.items, c.reserve.ensures.items),
    )
