use Rattle.std.proofs.Common.{ap}
use Rattle.std.proofs.lemmas.Result.{IfOk-from_err}
use Rattle.overlay_terms.specs.Histories.{Version}
use Rattle.layer_book.specs.Command.{command}
use Rattle.versions.specs.declared.fault.VersionFault.{VersionFault}
use Rattle.book_history.specs.Fault.{RefusesCommand}
use Rattle.book_history.proofs.Gone.{passed}
use Rattle.version_book.proofs.Results.{accepted_goes, accepted_history, accepted_last, accepted_own, command_leaves, command_refused, refused_goes, refused_history, refused_same}
use Rattle.version_book.proofs.shared.Shared.submit.Goals as goal

pub returns-in_err-accept : goal.returns-in_err-accept
returns-in_err-accept g c =
    let failed = c.from_residual.ensures in
    let me = c.args.me.now in
    let now = c.accept.new.me in
    let there = c.in_err-accept.ensures.err in
    let change = command c.args.change.now in
    let refuses : Version → VersionFault → Type 0 = λ v. RefusesCommand v change in
    record {
      goes_on = refused_goes me now there.0 refuses _ c.accept.ensures.begun there.1;
      history = refused_history me now there.0 refuses _ c.accept.ensures.valid there.1;
      ok = IfOk-from_err _ _ failed.0;
      made = IfOk-from_err _ _ failed.0;
      own = IfOk-from_err _ _ failed.0;
      err = passed _ _ _ failed.1 (command_leaves me now there.0 refuses _ there.1);
      refused = passed _ _ _ failed.1 (command_refused me now there.0 change _ there.1);
      same = refused_same me now there.0 refuses _ there.1;
    }

pub returns : goal.returns
returns g c =
    let me = c.args.me.now in
    let now = c.accept.new.me in
    let there = c.in_ok-accept.ensures.ok in
    let is = there.2 in
    record {
      goes_on = accepted_goes me now _ _ _ _ is c.accept.ensures.begun;
      history = accepted_history me now _ _ _ _ is;
      ok = accepted_last me now _ _ _ _ is c.accept.ensures.begun;
      made = ap (λ k. k.made) is.knows;
      own = accepted_own me now _ _ _ _ is;
      err = tt;
      refused = tt;
      same = (ap (λ k. k.book) is.knows, ap (λ k. k.session) is.knows);
    }
