use Rattle.std.proofs.Common.{◌≡◌, List, [], refl, sym, subst, arith}
use Rattle.std.specs.Prelude.{filter}
use Rattle.crossing_sweep.specs.Amid.{PassesUnder, begins_within}
use Rattle.std.proofs.lemmas.List.Elements.{All-nil}
use Rattle.crossing_sweep.specs.declared.member.Member.{Member}
use Rattle.crossing_sweep.proofs.NameLemmas.{none_kept}
use Rattle.crossing_sweep.proofs.UnderWay.{begins_there}
use Rattle.crossing_sweep.proofs.pass.Pass.new.Goals as goal

pub invariant_of-result : goal.invariant_of-result
invariant_of-result c = record {
  names = [];
  amid = record {
    full = c.in_ok-status.status.items;
    all_coming = c.in_ok-starts.starts.items;
    way = begins_there c.args.input.now c.args.listed c.in_ok-starts.starts.items c.in_ok-ahead.ahead _ _ _ _ c.strip.ensures.valid c.in_ok-starts.ensures c.in_ok-ahead.ensures c.in_ok-status.ensures.items c.new.ensures.items c.in_ok-rows.ensures.items refl;
    gone = [];
    some = [];
    kept = c.in_ok-status.status.items;
    is = refl;
    full_is = subst (λ (ms : List Member). filter (begins_within c.args.input.now []) ms ≡ ms) (sym c.in_ok-status.ensures.items) refl;
    gone_under = All-nil (PassesUnder c.in_ok-ahead.ahead);
    some_under = All-nil (PassesUnder c.in_ok-ahead.ahead);
    same_status = λ z d h. subst (λ (ms : List Member). ms ≡ filter (begins_within c.args.input.now []) ms) (sym c.in_ok-status.ensures.items) refl;
    to_come = λ z d h. refl;
  };
  known = omega arith;
  counted = refl;
  kept = none_kept [] c.in_ok-status.status.items c.in_ok-rows.rows.items c.in_ok-names.names.items c.in_ok-status.ensures.items c.in_ok-rows.ensures.items c.in_ok-names.ensures.items;
}
