use Rattle.std.proofs.Common.{false, IfSome, subst}
use Rattle.std.proofs.lemmas.Option.{IfSome_then}
use Rattle.std.proofs.lemmas.Result.{IfOk-weaker}
use Rattle.crossing_sweep.specs.StripCrossed.{IsStripCrossed}
use Rattle.crossing_sweep.specs.StripInput.{StripInput}
use Rattle.crossing_sweep.specs.declared.pass.Crossed.{Crossed}
use Rattle.tile_build.proofs.leaving.build_strip_while.Goals as goal

pub tiles_of-requires : goal.tiles_of-requires
tiles_of-requires g c =
    let found = subst (λ o. IfSome o (λ (f : Crossed). IsStripCrossed c.pass-pass.result 65536 false f)) c.in-Some.is c.in_ok-done.ensures.found in
    subst (λ (i : StripInput). IsStripCrossed i 65536 false c.in-Some.found) c.pass-pass.ensures found

pub returns-clause-each : goal.returns-clause-each
returns-clause-each g c = IfOk-weaker c.build_apart_while.result _ _ (λ o is. IfSome_then o is (λ list are. are.each)) c.build_apart_while.ensures.each

pub returns-clause-inputs : goal.returns-clause-inputs
returns-clause-inputs g c = IfOk-weaker c.build_apart_while.result _ _ (λ o is. IfSome_then o is (λ list are. are.inputs)) c.build_apart_while.ensures.each
