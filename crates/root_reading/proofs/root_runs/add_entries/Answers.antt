use Rattle.std.proofs.Common.{◌≡◌, ◌+◌, ◌<◌, ◌++◌, length, take, get_or, List, Option, Some, None, sym, ◌∙◌, subst, append-nil}
use Rattle.std.proofs.lemmas.List.{get_or_default, take_all}
use Rattle.store_terms.specs.declared.root.RecordExtent.{RecordExtent}
use Rattle.store_terms.specs.Places.{some_extents}
use Rattle.root_reading.specs.RootRuns.{AreRunsFor}
use Rattle.root_reading.proofs.RootRunsLemmas.{entries_on}
use Rattle.root_reading.proofs.root_runs.add_entries.Goals as goal
use Rattle.root_reading.proofs.root_runs.add_entries.Goals.{in-Some+in_ok-add_run, in_default}

pub loop-entry-init : goal.loop-entry-init
loop-entry-init c es are = subst (λ (xs : List RecordExtent). AreRunsFor xs c.args.runs.now.items) (sym (append-nil es)) are

pub loop-entry-preserved : goal.loop-entry-preserved
loop-entry-preserved c es are =
    let i = c.loop-entry.entry-index in
    let entries = c.args.entries.now in
    let lt : i < length entries = c.loop-entry-test.true in
    let so_far = c.loop-entry.invariant es are in
    elim c.match-entry.branch [
      | in-Some+in_ok-add_run w ↦
          let item : Option RecordExtent = Some w.in-Some.extent in
          let is : item ≡ get_or entries i item = sym w.in-Some.is ∙ get_or_default entries i _ _ lt in
          subst (λ runs. AreRunsFor (es ++ some_extents (take (i + 1) entries)) runs.items) (sym w.runs-is)
          (entries_on es entries i item w.add_run.new.runs.items lt is
          (w.in_ok-add_run.ensures (es ++ some_extents (take i entries)) so_far))
      | in_default w ↦
          subst (λ runs. AreRunsFor (es ++ some_extents (take (i + 1) entries)) runs.items) (sym w.runs-is)
          (entries_on es entries i None c.loop-entry.runs.items lt (sym w.in_default.is)
          (subst (λ (xs : List RecordExtent). AreRunsFor xs c.loop-entry.runs.items)
          (sym (append-nil (es ++ some_extents (take i entries)))) so_far))
    ]

pub returns : goal.returns
returns c es are =
    subst (λ (xs : List (Option RecordExtent)). AreRunsFor (es ++ some_extents xs) c.loop-entry.runs.items)
    (take_all c.loop-entry.entry-index c.args.entries.now c.loop-entry-test.false) (c.loop-entry.invariant es are)
