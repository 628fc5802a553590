-- What opening reads, and the completing write.
use Rattle.std.proofs.Common.{◌≡◌, inr, true, List, subst, take, refl, ◌∙◌, ap, arith}
use Rattle.std.specs.List.{AllByRecursion}
use Rattle.disk_model.specs.Disk.{part}
use Rattle.disk_model.proofs.Ranges.{part_written_front}
use Rattle.store_terms.specs.declared.root.RecordExtent.{RecordExtent}
use Rattle.store_terms.specs.Places.{is_placed}
use Rattle.commit_plan.proofs.Kept.{extents_are}
use Rattle.store_terms.specs.Roots.{body_text, body_in}
use Rattle.store_terms.proofs.RecordLemmas.{held_is_placed}
use Rattle.store_terms.specs.StandsFor.{body_at}
use Rattle.commit_plan.specs.Kept.{other}
use Rattle.root_store.specs.Healing.{TakenIsLive, twin, TwinHeals}
use Rattle.store_terms.proofs.BodyLemmas.{body_again}
use Rattle.commit_plan.proofs.Plan.{body_spares}

pub taken_is_live : TakenIsLive
taken_is_live file x taken listing holds = record {
  opened = taken.opened;
  named = record {
    long = taken.long;
    spelt = taken.spelt;
    bounded = taken.bounded;
    numbered = taken.numbered;
    parity = refl;
    listing = listing;
    placed = subst (λ (es : List RecordExtent). AllByRecursion (λ e. is_placed file e ≡ true) es) (extents_are x file listing)
        (held_is_placed file x.root x.held holds);
    holds = holds;
  };
}

pub twin_heals : TwinHeals
twin_heals x old new below low small shut torn held =
    let shut_new = body_spares x old new shut torn in
    let front : part new (body_at (other x.root)) 40 ≡ take 40 (body_text (twin x.root)) =
    part_written_front new (body_at (other x.root)) 40 (body_text (twin x.root)) (omega arith) held in
    let numbered = shut.live.named.numbered in
    record {
      live = shut_new.live;
      harmless = record {
        root = twin x.root;
        spelt = ap body_in front
            ∙ body_again (twin x.root) (omega (arith, below)) (omega (arith, numbered)) (omega (arith, low))
            (omega (arith, small));
        bounded = omega (arith, below);
        numbered = numbered;
        parity = refl;
        older = inr (refl, refl, refl);
      };
    }
