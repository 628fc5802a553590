-- A file of the old format is covered from what it stands for on.
use Rattle.std.proofs.Common.{◌≡◌, ℕ, ◌-◌, zero, suc, List, [], take, arith, Result, Ok, refl, sym, ◌∙◌, ap, subst}
use Rattle.disk_model.specs.declared.disk.Disk.{Ghosts}
use Rattle.disk_model.specs.Moments.{Leaves}
use Rattle.overlay_terms.specs.Layers.{Layer}
use Rattle.overlay_terms.specs.Orderly.{IsOrderly}
use Rattle.overlay_terms.specs.Batches.{Batch}
use Rattle.overlay_terms.specs.KeptLaws.{IsExact}
use Rattle.store_terms.specs.declared.damage.Damage.{Damage}
use Rattle.store_terms.specs.declared.root.Root.{Root}
use Rattle.store_terms.specs.Image.{◌>>=◌, Held, held_of}
use Rattle.store_terms.specs.StandsFor.{reading}
use Rattle.store_terms.proofs.OrderlyHeld.{held_is_orderly}
use Rattle.overlay_engine.specs.declared.engine.Engine.{Engine}
use Rattle.overlay_engine.specs.Start.{layers_from}
use Rattle.overlay_engine.specs.Covers.{version_of, Covers}
use Rattle.overlay_engine.specs.Recovery.{Recovered}
use Rattle.overlay_engine.specs.OldFile.{bare, IsOldFile, start_at, OldFileIsCovered, OldRecovered}
use Rattle.overlay_engine.proofs.Recovering.{same_held}

no_batch : (n : ℕ) → take {A = Batch} n [] ≡ []
no_batch zero = refl
no_batch (suc n) = refl

orderly_of : (number : ℕ) (layers : List Layer) (file : List ℕ) → IsOldFile number layers file → IsOrderly layers
orderly_of number layers file is =
    held_is_orderly file is.root (bare number layers)
    (ap (λ (o : Result Root Damage). o >>= λ r. held_of file r) (sym is.names) ∙ is.stands)

-- a version of orderly layers with no tile has right tiles
bare_exact : (number : ℕ) (layers : List Layer) → IsOrderly layers → IsExact (version_of (bare number layers))
bare_exact number layers orderly = record { orderly = orderly; fit = λ name k tile is. absurd (cc is); exact = λ name k tile is. absurd (cc is) }

pub old_file_is_covered : OldFileIsCovered
old_file_is_covered number layers file is = record {
  held = bare number layers;
  no_less = omega arith;
  stored = record {
    since = omega arith;
    no_later = omega arith;
    layers = ap (layers_from (start_at number layers)) (sym (no_batch (number - number)));
    exact = bare_exact number layers (orderly_of number layers file is);
  };
  stands = is.stands;
}

pub old_recovered : {D : Type 0} (g : Ghosts D) (number : ℕ) (layers : List Layer) (disk : D) (e : Engine D g) (x : Held) → Leaves g disk (IsOldFile number layers)
    → g.may_leave disk (g.seen disk) → reading (g.seen disk) ≡ Ok x → e.version ≡ version_of x → Recovered g (start_at number layers) disk e number []
    → OldRecovered g number layers disk e
old_recovered g number layers disk e x all stays reads version recovered = record {
  version = version ∙ ap version_of (same_held (g.seen disk) x (bare number layers) reads (all (g.seen disk) stays).stands);
  covers = subst (λ (batches : List Batch). Covers g (start_at number layers) e.flusher e.version batches)
      (no_batch (e.version.number - number)) recovered.covers;
  moments = recovered.moments;
}
