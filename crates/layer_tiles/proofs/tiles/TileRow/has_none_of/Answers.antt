use Rattle.std.proofs.Common.{◌≡◌, length, get_or, is_some, None, ap, sym, ◌∙◌, arith, rules}
use Rattle.std.proofs.lemmas.Bool.Decides.{nat_tests}
use Rattle.layer_tiles.specs.Table.{count_missing}
use Rattle.layer_tiles.proofs.LateLemmas.{bare_when}
use Rattle.layer_tiles.proofs.RowLemmas.{no_tile, none_more, nothing_there}
use Rattle.layer_tiles.proofs.tiles.TileRow.has_none_of.Goals as goal
use Rattle.layer_tiles.proofs.tiles.TileRow.has_none_of.Goals.{else-marks-number-via-then-marks-number+else-is_some, else-marks-number-via-else-marks-number}

pub returns-then-self-eq-COLUMNS : goal.returns-then-self-eq-COLUMNS
returns-then-self-eq-COLUMNS c = λ yes k less marked.
    let row = c.args.self.now in
    let all : count_missing row ≡ length row =
    sym (ap count_missing c.self.view_is) ∙ sym c.self.invariant.told ∙ c.if-self-eq-COLUMNS.true ∙ sym c.self.invariant.whole ∙ ap length c.self.view_is in
    nothing_there c.args.marks.now row row k (bare_when row all)

pub loop-number-preserved : goal.loop-number-preserved
loop-number-preserved c =
    let row = c.args.self.now in
    let n = c.loop-number.number in
    none_more c.args.marks.now row c.args.marked n c.loop-number.invariant (elim c.else-marks-number.branch [
      | else-marks-number-via-then-marks-number+else-is_some w ↦
          let same : w.is_some.result ≡ is_some (get_or row n None) = search rules in
          λ is. no_tile (get_or row n None) (sym same ∙ w.if-is_some.false)
      | else-marks-number-via-else-marks-number w ↦ λ is. absurd (grind (arith, nat_tests, is, w.if-marks-number.false))
    ])

pub returns : goal.returns
returns c = λ yes k less. c.loop-number.invariant k (omega (arith, less))
