use Rattle.std.proofs.Common.{rules, ◌≡◌, ◌∙◌, ap, map, string_bytes, sym, true, false}
use Rattle.std.proofs.lemmas.List.Folds.{list_all-map}
use Rattle.std.proofs.lemmas.Result.{IfErr-weaker, IfOk-weaker}
use Rattle.std.specs.List.{list_all}
use Rattle.program_words.specs.CommandLine.{is_known}
use Rattle.program_words.proofs.Overlayd.{refused_by, to_overlayd}
use Rattle.program_words.specs.Plans.{request_kept}
use Rattle.program_words.proofs.RequestLemmas.{refused, taken, unknown}
use Rattle.program_words.proofs.reading.read_words.Goals as goal

pub returns-then-not-all_known-clause-refused : goal.returns-then-not-all_known-clause-refused
returns-then-not-all_known-clause-refused c =
    let fails : list_all is_known (map string_bytes c.args.words.now) ≡ false = list_all-map is_known string_bytes c.args.words.now ∙ (sym c.all_known.ensures ∙ search rules) in
    λ e. refused_by (map string_bytes c.args.words.now) (unknown (map string_bytes c.args.words.now) fails)

pub returns-in-Ok-clause-ok : goal.returns-in-Ok-clause-ok
returns-in-Ok-clause-ok c =
    let known : list_all is_known (map string_bytes c.args.words.now) ≡ true = list_all-map is_known string_bytes c.args.words.now ∙ (sym c.all_known.ensures ∙ search rules) in
    let all_is = ap (map (λ word. word.now)) c.deref.ensures.value ∙ c.in_ok-all.ensures in
    let asked = taken (map string_bytes c.args.words.now) _ _ known all_is c.in-Ok.ensures.faults c.in-Ok.ensures.found in
    IfOk-weaker c.planned.result _ _ (λ plan is. to_overlayd (map string_bytes c.args.words.now) (request_kept plan) (asked ∙ is)) c.planned.ensures.ok

pub returns-in-Ok-clause-refused : goal.returns-in-Ok-clause-refused
returns-in-Ok-clause-refused c =
    let known : list_all is_known (map string_bytes c.args.words.now) ≡ true = list_all-map is_known string_bytes c.args.words.now ∙ (sym c.all_known.ensures ∙ search rules) in
    let all_is = ap (map (λ word. word.now)) c.deref.ensures.value ∙ c.in_ok-all.ensures in
    let asked = taken (map string_bytes c.args.words.now) _ _ known all_is c.in-Ok.ensures.faults c.in-Ok.ensures.found in
    IfErr-weaker c.planned.result _ _ (λ fault none is. refused_by (map string_bytes c.args.words.now) (asked ∙ none is)) c.planned.ensures.refused

pub returns-clause-refused : goal.returns-clause-refused
returns-clause-refused c =
    let all_is = ap (map (λ word. word.now)) c.deref.ensures.value ∙ c.in_ok-all.ensures in
    λ is. refused_by (map string_bytes c.args.words.now) (refused (map string_bytes c.args.words.now) _ c.in-Err.error all_is c.in-Err.ensures.faults (c.refused.ensures is))
