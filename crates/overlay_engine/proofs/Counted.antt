-- The device calls of a commit are counted, and a refusal by 30 is the device's.
use Rattle.std.proofs.Common.{◌≡◌, inl, inr, ℕ, ◌+◌, ◌<◌, false, List, [], ◌∷◌, ◌++◌, length, Option, Some, None, refl, sym, ◌∙◌, ap, subst, arith}
use Rattle.std.proofs.lemmas.Bool.{false≢true}
use Rattle.std.specs.List.{AllByRecursion}
use Rattle.disk_model.specs.declared.disk.Disk.{Ghosts}
use Rattle.disk_model.specs.Disk as disks
use Rattle.overlay_terms.specs.Batches as batches
use Rattle.layer_book.specs.declared.fault.LayerFault.{LayerFault}
use Rattle.layer_book.specs.declared.fault.LayerFault.TheVariants as layer
use Rattle.layer_book.specs.Fault as layer_faults
use Rattle.layer_book.specs.BatchFault as batch_faults
use Rattle.layer_book.specs.declared.batch_fault.BatchFault.{BatchFault}
use Rattle.layer_book.specs.declared.batch_fault.BatchFault.TheVariants.{Whole}
use Rattle.commit_plan.specs.declared.fault.StoreFault.{StoreFault}
use Rattle.commit_plan.specs.declared.fault.StoreFault.TheVariants as store
use Rattle.commit_plan.specs.Fault as store_faults
use Rattle.root_store.specs.declared.phase.Phase.{Phase}
use Rattle.root_store.specs.declared.phase.Phase.TheVariants as phase
use Rattle.root_store.specs.declared.phase.Progress.TheVariants as progress
use Rattle.root_store.specs.declared.commit.Commit.{Commit}
use Rattle.store_terms.specs.declared.root.Root.{Root}
use Rattle.root_store.specs.Beginning.{IsReason}
use Rattle.root_store.specs.Running.{Counts, calls_in, calls_left, is_busy}
use Rattle.flush_core.specs.declared.flusher.Flusher.{Flusher}
use Rattle.flush_core.specs.Stored.{calls_of}
use Rattle.overlay_engine.specs.declared.engine.Engine.{Engine}
use Rattle.overlay_engine.specs.declared.step.Step.{Step}
use Rattle.overlay_engine.specs.declared.step.Step.TheVariants.{Submit, SubmitAll, Take, Finish, Device, Report}
use Rattle.overlay_engine.specs.declared.step.Reply.{Reply}
use Rattle.overlay_engine.specs.declared.step.Reply.TheVariants.{Refused, Going, Done}
use Rattle.overlay_engine.specs.Steps.{RefusedAs}
use Rattle.overlay_engine.specs.Devices.{CallsOnce, DeviceFailed, Devices}
use Rattle.overlay_engine.specs.Acts.{Acts}
use Rattle.overlay_engine.specs.Runs.{Made, EachFollows}
use Rattle.overlay_engine.specs.Counting.{calls_asked, calls_asked_in, DeviceRefusals, CommitCalls, CommitCounts, CommitTells}
use Rattle.overlay_engine.proofs.Following.{makes}

-- ---- a refusal by 30

no_layer_fault : (fault : LayerFault) → 30 ≡ layer_faults.code_of fault → ⊥
no_layer_fault layer.UnknownLayer is = omega (arith, is)
no_layer_fault layer.NotBase is = omega (arith, is)
no_layer_fault layer.NotDerived is = omega (arith, is)
no_layer_fault layer.LaterLayer is = omega (arith, is)
no_layer_fault layer.InUse is = omega (arith, is)
no_layer_fault layer.TooManyLayers is = omega (arith, is)
no_layer_fault layer.VersionLimit is = omega (arith, is)
no_layer_fault layer.BatchSize is = omega (arith, is)
no_layer_fault layer.BadColumn is = omega (arith, is)
no_layer_fault layer.OutOfMemory is = omega (arith, is)

no_refusal : (reason : Option LayerFault) → RefusedAs reason 30 → ⊥
no_refusal (Some fault) is = no_layer_fault fault is
no_refusal None is = omega (arith, is)

-- the number of the fault of a batch, where it has one
code_in : Option BatchFault → ℕ
code_in None = 0
code_in (Some fault) = batch_faults.code_of fault

no_batch_refusal : (reason : Option batches.BatchRefusal) → batch_faults.RefusedAllBy reason (Whole 30) → ⊥
unfolding code_in
no_batch_refusal reason (inl (memory, none)) = omega (arith, ap batch_faults.code_of memory)
no_batch_refusal None (inr is) = omega (arith, ap code_in is)
no_batch_refusal (Some (batches.at place reason)) (inr is) = no_layer_fault (layer_faults.fault_of reason) (sym (ap code_in is))
no_batch_refusal (Some (batches.whole reason)) (inr is) = no_layer_fault (layer_faults.fault_of reason) (sym (ap code_in is))

-- no commit is kept from beginning by the device
no_reason : {D : Type 0} {g : Ghosts D} (s : Commit D g) (no_room : Type 0) (why : StoreFault) → IsReason s.phase s.root no_room why → 30 ≡ store_faults.code_of why → ⊥
no_reason s no_room store.Device reason is = reason
no_reason s no_room store.Full reason is = omega (arith, is)
no_reason s no_room (store.Damaged damage) reason is = reason
no_reason s no_room store.NotEmpty reason is = reason
no_reason s no_room store.Failed reason is = omega (arith, is)
no_reason s no_room store.SequenceLimit reason is = omega (arith, is)
no_reason s no_room store.OutOfMemory reason is = omega (arith, is)

module _ {D : Type 0} (g : Ghosts D) where
  device_failed : (old new : Engine D g) → Devices g old (Refused 30) new → DeviceFailed g old new
  device_failed old new (inl (busy, calls)) = calls.1
  device_failed old new (inr (inl (idle, mid, begins, calls))) =
      subst (λ (d : D). g.is_honest d → disks.Failed (g.faults d) (g.faults new.flusher.commit.disk)) begins.disk calls.1
  device_failed old new (inr (inr (idle, not_begun))) =
      let is : 30 ≡ store_faults.code_of not_begun.why = cc (not_begun.says) in
      absurd (no_reason old.flusher.commit _ not_begun.why not_begun.reason is)

  pub device_refusals : DeviceRefusals g
  device_refusals (Submit change) old new acts = absurd (no_refusal _ acts.0)
  device_refusals (SubmitAll batch) old new acts = absurd (no_batch_refusal _ acts.0)
  device_refusals (Take name column) old new acts = absurd (no_refusal _ acts.0)
  device_refusals (Finish number) old new acts = absurd (omega (arith, acts.1))
  device_refusals Device old new acts = (refl, device_failed old new acts)
  device_refusals Report old new acts = absurd (omega (arith, acts.0))

  -- ---- the calls of a commit

  none_left : (p : Phase) (n i : ℕ) → is_busy p ≡ false → calls_in p n i ≡ 0
  none_left phase.Idle n i idle = refl
  none_left phase.Close n i idle = absurd (false≢true (sym idle))
  none_left phase.Settle n i idle = absurd (false≢true (sym idle))
  none_left phase.Put n i idle = absurd (false≢true (sym idle))
  none_left phase.Open n i idle = absurd (false≢true (sym idle))
  none_left phase.Finish n i idle = absurd (false≢true (sym idle))
  none_left phase.Failed n i idle = refl

  abbrev left_by : Engine D g → ℕ
  left_by e = calls_left e.flusher.commit

  -- where calls are left, a commit is under way
  at_rest : (e : Engine D g) → is_busy e.flusher.commit.phase ≡ false → 0 < left_by e → ⊥
  at_rest e idle left =
      let s = e.flusher.commit in
      omega (arith, left, none_left s.phase (length s.plan.items) s.next idle)

  as_device : (old new : Engine D g) (reply : Reply) (step : Step) (reported : Reply) → step ≡ Device → reported ≡ reply → Acts g step old reported new → Devices g old reply new
  as_device old new reply step reported is same acts = subst (λ (r : Reply). Devices g old r new) same (subst (λ (s : Step). Acts g s old reported new) is acts)

  -- a step of another kind leaves as many calls
  other : (step : Step) (old new : Engine D g) → calls_asked step ≡ 0 → 0 < left_by old → new.flusher ≡ old.flusher → (left_by old ≡ left_by new + calls_asked step) × (0 < left_by new)
  other step old new none left same =
      let level = ap (λ (f : Flusher D g). calls_left f.commit) same in
      (omega (arith, level, none), omega (arith, level, left))

  device_going : (old new : Engine D g) → 0 < left_by old → Devices g old Going new → Counts progress.Going (left_by old) (left_by new)
  device_going old new left (inl (busy, calls)) = calls.0
  device_going old new left (inr (inl (idle, mid, begins, calls))) = absurd (at_rest old idle left)
  device_going old new left (inr (inr (idle, not_begun))) = absurd (at_rest old idle left)

  device_done : (old new : Engine D g) (number : ℕ) → 0 < left_by old → Devices g old (Done number) new → left_by old ≡ 1
  device_done old new number left (inl (busy, calls)) = calls.0.0
  device_done old new number left (inr (inl (idle, mid, begins, calls))) = absurd (at_rest old idle left)
  device_done old new number left (inr (inr (idle, not_begun))) = absurd (at_rest old idle left)

  -- the step that begins a commit makes the first of its calls
  device_begins : (old new : Engine D g) → is_busy old.flusher.commit.phase ≡ false → Devices g old Going new
      → (calls_of old.flusher.commit old.version ≡ left_by new + 1) × (0 < left_by new)
  device_begins old new idle (inl (busy, calls)) = absurd (false≢true (sym idle ∙ busy))
  device_begins old new idle (inr (inl (rests, mid, begins, calls))) = (sym begins.calls ∙ calls.0.0, calls.0.1)
  device_begins old new idle (inr (inr (rests, not_begun))) = absurd (cc (not_begun.says))

  -- a step of a commit that goes on leaves so many calls fewer as it asked for
  one_more : (step : Step) (old : Engine D g) (reply : Reply) (new : Engine D g) → (step ≡ Device → reply ≡ Going) → 0 < left_by old → Acts g step old reply new
      → (left_by old ≡ left_by new + calls_asked step) × (0 < left_by new)
  one_more Device old reply new goes_on left acts =
      device_going old new left (subst (λ (r : Reply). Devices g old r new) (goes_on refl) acts)
  one_more (Submit change) old reply new goes_on left acts = other (Submit change) old new refl left ((makes g (Submit change) old reply new acts).1 refl)
  one_more (SubmitAll batch) old reply new goes_on left acts = other (SubmitAll batch) old new refl left ((makes g (SubmitAll batch) old reply new acts).1 refl)
  one_more (Take name column) old reply new goes_on left acts = other (Take name column) old new refl left ((makes g (Take name column) old reply new acts).1 refl)
  one_more (Finish number) old reply new goes_on left acts = other (Finish number) old new refl left ((makes g (Finish number) old reply new acts).1 refl)
  one_more Report old reply new goes_on left acts = other Report old new refl left ((makes g Report old reply new acts).1 refl)

  going_on : (run : List (Made D g)) (old new : Engine D g) → EachFollows g old run new → AllByRecursion (λ (made : Made D g). made.step ≡ Device → made.reply ≡ Going) run
      → 0 < left_by old → (left_by old ≡ left_by new + calls_asked_in run) × (0 < left_by new)
  going_on [] old new same all left =
      let level = ap left_by same in
      (omega (arith, level), omega (arith, level, left))
  going_on (made ∷ run) old new (joins, acts, leads) (goes_on, all) left =
      let level = ap left_by joins in
      let one = one_more made.step made.old made.reply made.new goes_on (omega (arith, level, left)) acts in
      let more = going_on run made.new new leads all one.1 in
      (omega (arith, level, one.0, more.0), more.1)

  -- a run in two parts
  pub leads_between : (run : List (Made D g)) (last : Made D g) (old new : Engine D g) → EachFollows g old (run ++ last ∷ []) new → EachFollows g old run last.old × Acts g last.step last.old last.reply last.new
  leads_between [] last old new (joins, acts, ends) = (joins, acts)
  leads_between (made ∷ run) last old new (joins, acts, leads) =
      let rest = leads_between run last made.new new leads in
      ((joins, acts, rest.0), rest.1)

  asked_push : (run : List (Made D g)) (last : Made D g) → calls_asked_in (run ++ last ∷ []) ≡ calls_asked_in run + calls_asked last.step
  asked_push [] last = omega arith
  asked_push (made ∷ run) last = omega (arith, asked_push run last)

  pub commit_counts : CommitCounts g
  commit_counts old run new whole =
      let first = whole.first in
      let last = whole.last in
      let joins = whole.leads.0 in
      let begun = device_begins first.old first.new (subst (λ (e : Engine D g). is_busy e.flusher.commit.phase ≡ false) (sym joins) whole.idle)
      (as_device first.old first.new Going first.step first.reply whole.begins.0 whole.begins.1 whole.leads.1) in
      let parts = leads_between whole.between last first.new new whole.leads.2 in
      let on = going_on whole.between first.new last.old parts.0 whole.goes_on begun.1 in
      let done = device_done last.old last.new whole.number on.1
      (as_device last.old last.new (Done whole.number) last.step last.reply whole.ends.0 whole.ends.1 parts.1) in
      ap calls_asked_in whole.parts ∙ omega (arith, asked_push whole.between last, ap calls_asked whole.begins.0, ap calls_asked whole.ends.0, begun.0, on.0, done)
      ∙ ap (λ (e : Engine D g). calls_of e.flusher.commit e.version) joins

  -- ---- how often the disk is called

  abbrev made_by : Engine D g → ℕ
  made_by e = g.calls e.flusher.commit.disk

  once_going : (old new : Engine D g) → 0 < left_by old → Devices g old Going new → CallsOnce g old new
  once_going old new left (inl (busy, calls)) = calls.3
  once_going old new left (inr (inl (idle, mid, begins, calls))) = absurd (at_rest old idle left)
  once_going old new left (inr (inr (idle, not_begun))) = absurd (at_rest old idle left)

  once_done : (old new : Engine D g) (number : ℕ) → 0 < left_by old → Devices g old (Done number) new → CallsOnce g old new
  once_done old new number left (inl (busy, calls)) = calls.3
  once_done old new number left (inr (inl (idle, mid, begins, calls))) = absurd (at_rest old idle left)
  once_done old new number left (inr (inr (idle, not_begun))) = absurd (at_rest old idle left)

  once_begins : (old new : Engine D g) → is_busy old.flusher.commit.phase ≡ false → Devices g old Going new → CallsOnce g old new
  once_begins old new idle (inl (busy, calls)) = absurd (false≢true (sym idle ∙ busy))
  once_begins old new idle (inr (inl (rests, mid, begins, calls))) =
      subst (λ (d : D). g.is_honest d → g.is_honest new.flusher.commit.disk × (made_by new ≡ g.calls d + 1)) begins.disk calls.3
  once_begins old new idle (inr (inr (rests, not_begun))) = absurd (cc (not_begun.says))

  none_other : (step : Step) (old new : Engine D g) → calls_asked step ≡ 0 → new.flusher ≡ old.flusher → g.is_honest old.flusher.commit.disk
      → g.is_honest new.flusher.commit.disk × (made_by new ≡ made_by old + calls_asked step)
  none_other step old new none same honest =
      (subst (λ (f : Flusher D g). g.is_honest f.commit.disk) (sym same) honest, omega (arith, none, ap (λ (f : Flusher D g). g.calls f.commit.disk) same))

  made_more : (step : Step) (old : Engine D g) (reply : Reply) (new : Engine D g) → (step ≡ Device → reply ≡ Going) → 0 < left_by old → Acts g step old reply new
      → g.is_honest old.flusher.commit.disk → g.is_honest new.flusher.commit.disk × (made_by new ≡ made_by old + calls_asked step)
  made_more Device old reply new goes_on left acts = once_going old new left (subst (λ (r : Reply). Devices g old r new) (goes_on refl) acts)
  made_more (Submit change) old reply new goes_on left acts = none_other (Submit change) old new refl ((makes g (Submit change) old reply new acts).1 refl)
  made_more (SubmitAll batch) old reply new goes_on left acts = none_other (SubmitAll batch) old new refl ((makes g (SubmitAll batch) old reply new acts).1 refl)
  made_more (Take name column) old reply new goes_on left acts = none_other (Take name column) old new refl ((makes g (Take name column) old reply new acts).1 refl)
  made_more (Finish number) old reply new goes_on left acts = none_other (Finish number) old new refl ((makes g (Finish number) old reply new acts).1 refl)
  made_more Report old reply new goes_on left acts = none_other Report old new refl ((makes g Report old reply new acts).1 refl)

  made_on : (run : List (Made D g)) (old new : Engine D g) → EachFollows g old run new → AllByRecursion (λ (made : Made D g). made.step ≡ Device → made.reply ≡ Going) run
      → 0 < left_by old → g.is_honest old.flusher.commit.disk → g.is_honest new.flusher.commit.disk × (made_by new ≡ made_by old + calls_asked_in run)
  made_on [] old new same all left honest = (subst (λ (e : Engine D g). g.is_honest e.flusher.commit.disk) (sym same) honest, omega (arith, ap made_by same))
  made_on (made ∷ run) old new (joins, acts, leads) (goes_on, all) left honest =
      let here : 0 < left_by made.old = omega (arith, ap left_by joins, left) in
      let kept : g.is_honest made.old.flusher.commit.disk = subst (λ (e : Engine D g). g.is_honest e.flusher.commit.disk) (sym joins) honest in
      let one = one_more made.step made.old made.reply made.new goes_on here acts in
      let first = made_more made.step made.old made.reply made.new goes_on here acts kept in
      let more = made_on run made.new new leads all one.1 first.0 in
      (more.0, omega (arith, ap made_by joins, first.1, more.1))

  pub leads_to : (run : List (Made D g)) (last : Made D g) (old new : Engine D g) → EachFollows g old (run ++ last ∷ []) new → new ≡ last.new
  leads_to [] last old new (joins, acts, ends) = ends
  leads_to (made ∷ run) last old new (joins, acts, leads) = leads_to run last made.new new leads

  pub commit_calls : CommitCalls g
  commit_calls old run new whole honest =
      let first = whole.first in
      let last = whole.last in
      let joins = whole.leads.0 in
      let idle = subst (λ (e : Engine D g). is_busy e.flusher.commit.phase ≡ false) (sym joins) whole.idle in
      let begins = as_device first.old first.new Going first.step first.reply whole.begins.0 whole.begins.1 whole.leads.1 in
      let begun = device_begins first.old first.new idle begins in
      let one = once_begins first.old first.new idle begins (subst (λ (e : Engine D g). g.is_honest e.flusher.commit.disk) (sym joins) honest) in
      let parts = leads_between whole.between last first.new new whole.leads.2 in
      let on = going_on whole.between first.new last.old parts.0 whole.goes_on begun.1 in
      let more = made_on whole.between first.new last.old parts.0 whole.goes_on begun.1 one.0 in
      let done = once_done last.old last.new whole.number on.1
      (as_device last.old last.new (Done whole.number) last.step last.reply whole.ends.0 whole.ends.1 parts.1) more.0 in
      let asked : calls_asked_in run ≡ calls_of old.flusher.commit old.version = commit_counts old run new whole in
      omega (
        arith,
        ap made_by (leads_to whole.between last first.new new whole.leads.2),
        done.1,
        more.1,
        one.1,
        ap made_by joins,
        asked,
        ap calls_asked_in whole.parts,
        asked_push whole.between last,
        ap calls_asked whole.begins.0,
        ap calls_asked whole.ends.0,
      )

  -- ---- the number that a commit gives

  abbrev next_of : Engine D g → ℕ
  next_of e = e.flusher.commit.next_root.version

  next_going : (old new : Engine D g) → 0 < left_by old → Devices g old Going new → next_of new ≡ next_of old
  next_going old new left (inl (busy, calls)) = ap (λ (r : Root). r.version) calls.1.1
  next_going old new left (inr (inl (idle, mid, begins, calls))) = absurd (at_rest old idle left)
  next_going old new left (inr (inr (idle, not_begun))) = absurd (at_rest old idle left)

  done_tells : (old new : Engine D g) (number : ℕ) → 0 < left_by old → Devices g old (Done number) new → number ≡ next_of old
  done_tells old new number left (inl (busy, calls)) = calls.1.0
  done_tells old new number left (inr (inl (idle, mid, begins, calls))) = absurd (at_rest old idle left)
  done_tells old new number left (inr (inr (idle, not_begun))) = absurd (at_rest old idle left)

  next_begins : (old new : Engine D g) → is_busy old.flusher.commit.phase ≡ false → Devices g old Going new → next_of new ≡ old.version.number
  next_begins old new idle (inl (busy, calls)) = absurd (false≢true (sym idle ∙ busy))
  next_begins old new idle (inr (inl (rests, mid, begins, calls))) = ap (λ (r : Root). r.version) calls.1.1 ∙ begins.number
  next_begins old new idle (inr (inr (rests, not_begun))) = absurd (cc (not_begun.says))

  next_other : (old new : Engine D g) → new.flusher ≡ old.flusher → next_of new ≡ next_of old
  next_other old new same = ap (λ (f : Flusher D g). f.commit.next_root.version) same

  next_stays : (step : Step) (old : Engine D g) (reply : Reply) (new : Engine D g) → (step ≡ Device → reply ≡ Going) → 0 < left_by old → Acts g step old reply new
      → next_of new ≡ next_of old
  next_stays Device old reply new goes_on left acts = next_going old new left (subst (λ (r : Reply). Devices g old r new) (goes_on refl) acts)
  next_stays (Submit change) old reply new goes_on left acts = next_other old new ((makes g (Submit change) old reply new acts).1 refl)
  next_stays (SubmitAll batch) old reply new goes_on left acts = next_other old new ((makes g (SubmitAll batch) old reply new acts).1 refl)
  next_stays (Take name column) old reply new goes_on left acts = next_other old new ((makes g (Take name column) old reply new acts).1 refl)
  next_stays (Finish number) old reply new goes_on left acts = next_other old new ((makes g (Finish number) old reply new acts).1 refl)
  next_stays Report old reply new goes_on left acts = next_other old new ((makes g Report old reply new acts).1 refl)

  next_kept : (run : List (Made D g)) (old new : Engine D g) → EachFollows g old run new → AllByRecursion (λ (made : Made D g). made.step ≡ Device → made.reply ≡ Going) run
      → 0 < left_by old → next_of new ≡ next_of old
  next_kept [] old new same all left = ap next_of same
  next_kept (made ∷ run) old new (joins, acts, leads) (goes_on, all) left =
      let here : 0 < left_by made.old = omega (arith, ap left_by joins, left) in
      let one = one_more made.step made.old made.reply made.new goes_on here acts in
      next_kept run made.new new leads all one.1 ∙ next_stays made.step made.old made.reply made.new goes_on here acts ∙ ap next_of joins

  pub commit_tells : CommitTells g
  commit_tells old run new whole =
      let first = whole.first in
      let last = whole.last in
      let joins = whole.leads.0 in
      let idle = subst (λ (e : Engine D g). is_busy e.flusher.commit.phase ≡ false) (sym joins) whole.idle in
      let begins = as_device first.old first.new Going first.step first.reply whole.begins.0 whole.begins.1 whole.leads.1 in
      let begun = device_begins first.old first.new idle begins in
      let parts = leads_between whole.between last first.new new whole.leads.2 in
      let on = going_on whole.between first.new last.old parts.0 whole.goes_on begun.1 in
      done_tells last.old last.new whole.number on.1
      (as_device last.old last.new (Done whole.number) last.step last.reply whole.ends.0 whole.ends.1 parts.1)
      ∙ next_kept whole.between first.new last.old parts.0 whole.goes_on begun.1
      ∙ next_begins first.old first.new idle begins
      ∙ ap (λ (e : Engine D g). e.version.number) joins
