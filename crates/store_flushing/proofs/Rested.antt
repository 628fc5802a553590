-- A store at rest, and the files that a crash may leave of it.
use Rattle.std.proofs.Common.{◌≡◌, Result, Ok, Err, refl, sym, ◌∙◌, ap, subst}
use Rattle.disk_model.specs.declared.disk.Disk.{Ghosts}
use Rattle.commit_plan.proofs.Reading.{calm_stands}
use Rattle.store_terms.specs.declared.damage.Damage.{Damage}
use Rattle.store_terms.specs.Image.{Held}
use Rattle.root_store.specs.declared.phase.Phase.{Phase}
use Rattle.root_store.specs.Content.{content_of}
use Rattle.root_store.proofs.Known.{stands_known}
use Rattle.kept_store.specs.Among.{IsHeldIn}
use Rattle.kept_store.specs.Storing.{Rests, IsStoreAt}
use Rattle.store_flushing.specs.Laws.{StoreIsKnown}

abbrev held_or : Held → Result Held Damage → Held
held_or x (Ok y) = y
held_or x (Err e) = x

pub store_is_known : {D : Type 0} (g : Ghosts D)
    → ((disk : D) → g.is_honest disk → g.may_leave disk (g.seen disk)) → StoreIsKnown g
store_is_known g may history f honest idle reported leaves =
    let s = f.commit in
    let x = content_of s.root s.live in
    let stands = stands_known g s honest idle in
    let here = may s.disk honest in
    let file = leaves (g.seen s.disk) here in
    let is : file.held ≡ x.held =
    ap (held_or x.held) (sym file.stands ∙ calm_stands x (g.seen s.disk) (stands.leaves (g.seen s.disk) here)) in
    let rests : Rests g history f = record {
      x = x;
      held = subst (λ (h : Held). IsHeldIn history h) is file.among;
      number = refl;
      stands = stands;
    } in
    record {
      honest = honest;
      reported = reported;
      store = subst (λ (p : Phase). IsStoreAt g history p f) (sym idle) rests;
    }
