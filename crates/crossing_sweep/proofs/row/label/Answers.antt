use Rattle.std.proofs.Common.{◌≡◌, ℕ, ◌+◌, ◌<◌, true, List, [], ◌∷◌, ◌++◌, length, take, set, ap, sym, subst, ◌∙◌, arith}
use Rattle.std.proofs.lemmas.List.{take_more_set}
use Rattle.crossing_sweep.specs.Rows.{mask_over, IsBegun, AreBegun}
use Rattle.crossing_sweep.specs.declared.member.Member.{Member}
use Rattle.crossing_sweep.proofs.RowCode.{mask_over_more, begun_more, same_told}
use Rattle.crossing_sweep.proofs.row.label.Goals as goal

pub loop-member-preserved : goal.loop-member-preserved
loop-member-preserved c =
    let s : List Member = c.loop-member.stay in
    let i : ℕ = c.loop-member.member-index in
    let new : Member = c.begin_over-value.new.member in
    let steps = c.args.input.now.steps in
    let inside : i < length s = omega arith in
    let more : take (i + 1) (set s i new) ≡ take i s ++ new ∷ [] = take_more_set s i new inside in
    let one : IsBegun steps (mask_over c.args.under (take i s)) c.args.begin true new =
    subst (λ (k : ℕ). IsBegun steps k c.args.begin true new) c.loop-member.invariant.mask c.begin_over-value.ensures.begun in
    record {
      units = same_told (λ (m : Member). m.unit) s i c.member-item.result new inside c.begin_over-value.ensures.unit ∙ c.loop-member.invariant.units;
      begun =
          subst (λ (ms : List Member). AreBegun steps c.args.under c.args.begin true ms) (sym more)
          (begun_more steps c.args.begin true c.args.under (take i s) new c.loop-member.invariant.begun one);
      mask = sym (ap (λ (ms : List Member). mask_over c.args.under ms) more ∙ mask_over_more c.args.under (take i s) new);
      value = c.begin_over-value.ensures.value;
      known = c.begin_over-value.ensures.known;
    }
