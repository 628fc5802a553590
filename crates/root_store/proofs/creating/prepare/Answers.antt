use Rattle.std.proofs.Common.{rules, ◌≡◌, length}
use Rattle.root_store.proofs.CreatingLemmas.{made_on}
use Rattle.root_store.proofs.creating.prepare.Goals as goal

pub returns-in_err-bytes-clause-prepares : goal.returns-in_err-bytes-clause-prepares
returns-in_err-bytes-clause-prepares g c honest = record {
  made = search rules;
  answer = search rules;
  unchanged = λ refused. absurd (refused (c.in_ok-check.ensures.checks honest).answer);
  cause = search rules;
  calls = search rules;
}

pub returns-in_err-rooms-clause-prepares : goal.returns-in_err-rooms-clause-prepares
returns-in_err-rooms-clause-prepares g c honest = record {
  made = search rules;
  answer = search rules;
  unchanged = λ refused. absurd (refused (c.in_ok-check.ensures.checks honest).answer);
  cause = search rules;
  calls = search rules;
}

pub returns-in_err-format-clause-prepares : goal.returns-in_err-format-clause-prepares
returns-in_err-format-clause-prepares g c honest = record {
  made = search rules;
  answer = search rules;
  unchanged = λ refused. absurd (refused (c.in_ok-check.ensures.checks honest).answer);
  cause = search rules;
  calls = search rules;
}

pub returns-clause-prepares : goal.returns-clause-prepares
returns-clause-prepares g c honest =
    let k = g.D.Disk in
    let old = c.args.disk.now in
    let looked = c.check.new.disk in
    let checks = c.in_ok-check.ensures.checks honest in
    let empty : length (k.seen looked) ≡ 0 = search rules in
    let formats = c.in_ok-format.ensures.formats (c.check.ensures.honest.1 honest) in
    let made = formats.made empty in
    record {
      made = record {
        ready = made.ready;
        file = made.file;
        phases = made_on k old looked c.format.new.disk (λ f left. g.met.D.Disk.only_now old f honest left) checks.time checks.crash
            made.phases;
      };
      answer = checks.answer;
      unchanged = λ refused. absurd (refused checks.answer);
      cause = search rules;
      calls = search rules;
    }
