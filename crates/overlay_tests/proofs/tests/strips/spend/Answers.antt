use Rattle.std.proofs.Common.{arith}
use Rattle.version_book.proofs.StripLemmas.{all_next, first_next}
use Rattle.overlay_tests.proofs.tests.strips.spend.Goals as goal

pub finish_strip-requires-clause-tiles : goal.finish_strip-requires-clause-tiles
finish_strip-requires-clause-tiles g c =
    let built = c.in-Ok.built.items in
    let all = all_next c.args.strip c.input.result.now c.deref.result.now built c.requires.whole c.input.ensures.value c.deref.ensures.value c.in-Ok.ensures.each c.in-Ok.ensures.inputs in
    first_next c.args.strip c.deref.result.now c.min.result (omega (arith, c.min.ensures)) all
