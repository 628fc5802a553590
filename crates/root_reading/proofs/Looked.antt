-- Runs of calls that only look.
use Rattle.std.proofs.Common.{◌≡◌, ◌⊎◌, ⊎_elim, ℕ, List, Result, Err, refl, ◌∙◌, ap, subst, sym}
use Rattle.std.specs.Prelude.{◌↔◌, length, IsErrAnd, IfErr}
use Rattle.std.proofs.lemmas.Result.{err_from_is_err_and}
use Rattle.disk_model.specs.declared.disk.Disk.{Ghosts}
use Rattle.disk_model.specs.Disk.{Fewer, Elapses}
use Rattle.disk_model.proofs.Runs.{started, goes_on, joined}
use Rattle.root_reading.specs.declared.load_fault.LoadFault.{LoadFault}
use Rattle.root_reading.specs.declared.load_fault.LoadFault.TheVariants.{Device, Damaged, OutOfMemory}
use Rattle.root_reading.specs.Looking.{Looks, Refuses, Gives, Causes}
use Rattle.store_terms.specs.declared.damage.Damage.TheVariants.{Overlap}
use Rattle.store_terms.specs.Image.{◌>>=◌}
use Rattle.store_terms.specs.declared.damage.Damage.{Damage}

module _ {D : Type 0} (g : Ghosts D) where
  pub looks_none : (disk : D) → g.is_honest disk
      → ((f : List ℕ) → g.left_since disk (g.moment disk) f → g.may_leave disk f) → Looks g disk disk
  looks_none disk honest now =
      record { honest = honest; seen = refl; fewer = λ c left. left; run = started g disk (g.may_leave disk) now }

  -- one call
  pub looked : (old new : D) → g.is_honest old
      → ((f : List ℕ) → g.left_since old (g.moment old) f → g.may_leave old f) → g.is_honest new
      → g.seen new ≡ g.seen old → Fewer (g.may_leave old) (g.may_leave new)
      → Elapses (g.moment old) (g.moment new) (g.left_since old) (g.left_since new) (g.may_leave new) → Looks g old new
  looked old new was now honest seen fewer time = record {
    honest = honest;
    seen = seen;
    fewer = fewer;
    run = goes_on g old old new (g.may_leave old) (started g old (g.may_leave old) now) time fewer;
  }

  pub looks_on : (old mid new : D) → Looks g old mid → Looks g mid new → Looks g old new
  looks_on old mid new first second = record {
    honest = second.honest;
    seen = second.seen ∙ first.seen;
    fewer = λ c left. first.fewer c (second.fewer c left);
    run = joined g old mid new (g.may_leave old) (g.may_leave mid) first.fewer first.run second.run;
  }

pub if_err : {X : Type 0} (result : Result X LoadFault) (fault : LoadFault) (P : LoadFault → Type 0)
    → IsErrAnd result (λ e. e ≡ fault) → P fault → IfErr result P
if_err {X} result fault P is holds =
    let p = err_from_is_err_and result is in
    let same : result ≡ Err fault = p.1 ∙ ap Err p.2 in
    subst (λ (r : Result X LoadFault). IfErr r P) (sym same) holds

-- the exit of a `?`
pub gives_err : {X Z : Type 0} (view : X → Z) (result : Result X LoadFault) (fault : LoadFault) (read : Result Z Damage)
    → IsErrAnd result (λ e. e ≡ fault) → Refuses fault read → Gives view result read
gives_err {X} view result fault read is refuses =
    let p = err_from_is_err_and result is in
    let same : result ≡ Err fault = p.1 ∙ ap Err p.2 in
    subst (λ (r : Result X LoadFault). Gives view r read) (sym same) refuses

-- a fault that is not the device's, where the device has not failed before
pub causes_still : {X : Type 0} (result : Result X LoadFault) (fault : LoadFault) (old new : ℕ)
    → IsErrAnd result (λ e. e ≡ fault) → (fault ≡ OutOfMemory) ⊎ (fault ≡ Damaged Overlap) → new ≡ old
    → Causes result old new
causes_still {X} result fault old new is cause same =
    let p = err_from_is_err_and result is in
    let memory : (fault ≡ OutOfMemory) → Causes {X = X} (Err fault) old new =
    λ m. subst (λ (f : LoadFault). Causes {X = X} (Err f) old new) (sym m) same in
    let overlap : (fault ≡ Damaged Overlap) → Causes {X = X} (Err fault) old new =
    λ m. subst (λ (f : LoadFault). Causes {X = X} (Err f) old new) (sym m) same in
    subst (λ (r : Result X LoadFault). Causes r old new) (sym (p.1 ∙ ap Err p.2)) (⊎_elim memory overlap cause)

-- a fault of the first step is one of all
pub refuses_bound : {A B : Type 0} (fault : LoadFault) (read : Result A Damage) (more : A → Result B Damage)
    → Refuses fault read → Refuses fault (read >>= more)
refuses_bound Device read more refuses = tt
refuses_bound OutOfMemory read more refuses = tt
refuses_bound (Damaged damage) read more refuses = ap (λ r. r >>= more) refuses

pub refuses_device : {A : Type 0} (fault : LoadFault) (read : Result A Damage) → fault ≡ Device → Refuses fault read
refuses_device fault read is = subst (λ (f : LoadFault). Refuses f read) (sym is) tt

-- what was the size before some calls that only look is the size after them
pub size_stays : {D : Type 0} (g : Ghosts D) (old new : D) (size : ℕ) → g.is_honest new ↔ g.is_honest old
    → (g.is_honest old → Looks g old new) → (g.is_honest old → size ≡ length (g.seen old)) → g.is_honest new
    → size ≡ length (g.seen new)
size_stays g old new size same looks known honest =
    let was = same.0 honest in known was ∙ ap (λ (f : List ℕ). length f) (sym (looks was).seen)
