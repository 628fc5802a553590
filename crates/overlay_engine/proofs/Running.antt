-- How a run goes on by one step.
use Rattle.std.proofs.Common.{◌≡◌, List, [], ◌∷◌, ◌++◌, refl, sym, ◌∙◌, ap, subst, append_assoc, append-nil}
use Rattle.std.proofs.lemmas.List.{map-append}
use Rattle.disk_model.specs.declared.disk.Disk.{Ghosts}
use Rattle.disk_model.specs.Moments.{Leaves}
use Rattle.overlay_terms.specs.Batches.{Batch}
use Rattle.overlay_engine.specs.declared.engine.Engine.{Engine}
use Rattle.overlay_engine.specs.declared.step.Step.{Step}
use Rattle.overlay_engine.specs.declared.step.Reply.{Reply}
use Rattle.overlay_engine.specs.Start.{Start}
use Rattle.overlay_engine.specs.Covers.{Covered, Covers}
use Rattle.overlay_engine.specs.Committing.{CommitsJust}
use Rattle.overlay_engine.specs.Acts.{Acts, Survives, accepted_by}
use Rattle.overlay_engine.specs.Runs.{Made, EachFollows, EachSurvives, EachCommits, Drives, CrashesIn, accepted_in_run}

accepted_push : {D : Type 0} {g : Ghosts D} (run : List (Made D g)) (made : Made D g) → accepted_in_run (run ++ made ∷ []) ≡ accepted_in_run run ++ accepted_by made.step made.reply
accepted_push [] made = append-nil (accepted_by made.step made.reply)
accepted_push (first ∷ run) made =
    let own = accepted_by first.step first.reply in
    ap (λ (more : List Batch). own ++ more) (accepted_push run made) ∙ sym (append_assoc own (accepted_in_run run) (accepted_by made.step made.reply))

module _ {D : Type 0} (g : Ghosts D) where
  leads_on : (old mid : Engine D g) (run : List (Made D g)) (made : Made D g) → EachFollows g old run mid → made.old ≡ mid → Acts g made.step made.old made.reply made.new
      → EachFollows g old (run ++ made ∷ []) made.new
  leads_on old mid [] made same joins acts = (joins ∙ same, acts, refl)
  leads_on old mid (first ∷ run) made (first_joins, acted, leads) joins acts = (first_joins, acted, leads_on first.new mid run made leads joins acts)

  survive_on : (start : Start) (batches : List Batch) (run : List (Made D g)) (made : Made D g) → EachSurvives g start batches run
      → Survives g start (batches ++ accepted_in_run run) made.step made.old made.reply made.new → EachSurvives g start batches (run ++ made ∷ [])
  survive_on start batches [] made each last =
      (subst (λ (cs : List Batch). Survives g start cs made.step made.old made.reply made.new) (append-nil batches) last, tt)
  survive_on start batches (first ∷ run) made (survives, each) last = (
    survives,
    survive_on start (batches ++ accepted_by first.step first.reply) run made each
        (subst (λ (cs : List Batch). Survives g start cs made.step made.old made.reply made.new)
        (sym (append_assoc batches (accepted_by first.step first.reply) (accepted_in_run run))) last),
  )

  commit_on : (run : List (Made D g)) (made : Made D g) → EachCommits g run → CommitsJust g made.old made.reply made.new → EachCommits g (run ++ made ∷ [])
  commit_on [] made each last = (last, tt)
  commit_on (first ∷ run) made (commits, each) last = (commits, commit_on run made each last)

  -- before the first step
  pub not_driven : (old : Engine D g) → Drives g [] old [] old
  not_driven old = record {
    run = [];
    is = record { asked = refl; answered = refl; leads = refl };
    commits = tt;
    survives = λ start batches covers. (tt, subst (Covers g start old.flusher old.version) (sym (append-nil batches)) covers);
  }

  pub driven_on : (steps : List Step) (old : Engine D g) (replies : List Reply) (mid : Engine D g) (step : Step) (reply : Reply) (new : Engine D g) → Drives g steps old replies mid
      → Acts g step mid reply new → CommitsJust g mid reply new → ((start : Start) (batches : List Batch) → Covers g start mid.flusher mid.version batches → Survives g start batches step mid reply new)
      → Drives g (steps ++ step ∷ []) old (replies ++ reply ∷ []) new
  driven_on steps old replies mid step reply new drives acts commits survives =
      let made : Made D g = record { step = step; old = mid; reply = reply; new = new } in
      let run = drives.run in
      record {
        run = run ++ made ∷ [];
        is = record {
          asked = map-append (λ (m : Made D g). m.step) run (made ∷ []) ∙ ap (λ (l : List Step). l ++ step ∷ []) drives.is.asked;
          answered = map-append (λ (m : Made D g). m.reply) run (made ∷ []) ∙ ap (λ (l : List Reply). l ++ reply ∷ []) drives.is.answered;
          leads = leads_on old mid run made drives.is.leads refl acts;
        };
        commits = commit_on run made drives.commits commits;
        survives = λ start batches covers.
            let so_far = drives.survives start batches covers in
            let last = survives start (batches ++ accepted_in_run run) so_far.1 in
            let all : (batches ++ accepted_in_run run) ++ accepted_by step reply ≡ batches ++ accepted_in_run (run ++ made ∷ []) =
            append_assoc batches (accepted_in_run run) (accepted_by step reply) ∙ ap (λ (more : List Batch). batches ++ more) (sym (accepted_push run made)) in
            (survive_on start batches run made so_far.0 last, subst (Covers g start new.flusher new.version) all last.covers);
      }

  pub survives_at : (start : Start) (batches : List Batch) (before after : List (Made D g)) (made : Made D g) → EachSurvives g start batches (before ++ made ∷ after)
      → Survives g start (batches ++ accepted_in_run before) made.step made.old made.reply made.new
  survives_at start batches [] after made each =
      subst (λ (cs : List Batch). Survives g start cs made.step made.old made.reply made.new) (sym (append-nil batches)) each.0
  survives_at start batches (first ∷ before) after made each =
      subst (λ (cs : List Batch). Survives g start cs made.step made.old made.reply made.new)
      (append_assoc batches (accepted_by first.step first.reply) (accepted_in_run before))
      (survives_at start (batches ++ accepted_by first.step first.reply) before after made each.1)

  -- what a crash within a step of a run leaves is covered, no older than what was durable as the step began
  pub crash_covered : (start : Start) (batches : List Batch) (run : List (Made D g)) (disk : D) (crash : CrashesIn g run disk) → EachSurvives g start batches run
      → Leaves g disk (Covered start crash.made.old.version.durable (batches ++ accepted_in_run crash.before))
  crash_covered start batches run disk crash each c left =
      let survives = survives_at start batches crash.before crash.after crash.made (subst (EachSurvives g start batches) crash.among each) in
      survives.moments.each c (crash.leaves c left)
