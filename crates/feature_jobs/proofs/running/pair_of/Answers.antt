use Rattle.std.proofs.Common.{◌≡◌, List, sym, subst}
use Rattle.std.specs.Prelude.{Some, slice_get}
use Rattle.feature_windows.specs.declared.found.Found.{Found}
use Rattle.feature_jobs.specs.Known.{AreKnown}
use Rattle.feature_jobs.specs.Pairs.{IsAreaOf, ArePairSteps}
use Rattle.feature_jobs.specs.Shared.{AreShared}
use Rattle.feature_jobs.specs.declared.known.Knowing.{Knowing}
use Rattle.feature_jobs.specs.declared.known.Knowing.TheVariants as knowing
use Rattle.feature_jobs.proofs.running.pair_of.Goals as goal

pub returns : goal.returns
returns c shared =
    let features = c.args.ground.now.features in
    let own : AreKnown features c.in-Pairs.known.items × ArePairSteps c.in-Pairs.steps = subst (AreShared features) c.in-Pairs.is shared in
    let first = own.0 c.args.a c.in_ok-first.first (subst (λ (list : List Knowing). slice_get list c.args.a ≡ Some (knowing.Known c.in_ok-first.first)) c.deref.ensures.value c.in_ok-first.ensures) in
    let second = own.0 c.args.b c.in_ok-second.second (subst (λ (list : List Knowing). slice_get list c.args.b ≡ Some (knowing.Known c.in_ok-second.second)) c.deref-2.ensures.value c.in_ok-second.ensures) in
    record {
      first = subst (λ (found : Found). IsAreaOf features c.args.a found) (sym c.in_ok-one.ensures.first) first;
      second = subst (λ (found : Found). IsAreaOf features c.args.b found) (sym c.in_ok-one.ensures.second) second;
      told = c.in_ok-one.ensures.told own.1;
    }
