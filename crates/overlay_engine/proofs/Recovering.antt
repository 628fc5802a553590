-- Recovery, and the begin of a commit.
use Rattle.std.proofs.Common.{◌≡◌, inl, inr, ℕ, ◌-◌, ◌≤◌, List, length, sym, ◌∙◌, ap, subst, arith, length-take, Ok}
use Rattle.std.proofs.lemmas.List.{take_all, take-take}
use Rattle.disk_model.specs.declared.disk.Disk.{Ghosts}
use Rattle.disk_model.specs.Moments.{LeavesOnly}
use Rattle.disk_model.proofs.Runs.{started}
use Rattle.overlay_terms.specs.Layers.{Layer}
use Rattle.overlay_terms.specs.Batches.{Batch}
use Rattle.overlay_terms.specs.Histories.{Version}
use Rattle.overlay_terms.specs.KeptLaws.{IsExact}
use Rattle.overlay_terms.specs.Orderly.{IsOrderly}
use Rattle.overlay_terms.specs.KeptLaws.{AreFitting, AreExact}
use Rattle.store_terms.specs.Image.{Held}
use Rattle.store_terms.specs.StandsFor.{reading}
use Rattle.root_store.specs.declared.phase.Phase.{Phase}
use Rattle.flush_core.specs.declared.flusher.Flusher.{Flusher}
use Rattle.flush_core.specs.Stored.{IsImageOf}
use Rattle.overlay_engine.specs.Start.{Start, layers_from, up_to}
use Rattle.overlay_engine.specs.Covers.{version_of, IsStored, Covered, AtRest, In, Covers}
use Rattle.overlay_engine.specs.Laws.{OpenedRecovers, OpeningIsCovered, BegunCovers}
use Rattle.overlay_engine.proofs.Covering.{covered_less, covers_leaves}

pub same_held : (file : List ℕ) (x y : Held) → reading file ≡ Ok x → reading file ≡ Ok y → x ≡ y
same_held file x y a b = cc

-- the image of a version with right tiles has right tiles
pub image_exact : (version : Version) (x : Held) → IsImageOf version x → IsExact version → IsExact (version_of x)
image_exact version x image exact = record {
  orderly = subst IsOrderly (sym image.layers) exact.orderly;
  fit = subst (λ (l : List Layer). AreFitting l x.tiles) (sym image.layers) (λ name k tile is. exact.fit name k tile (sym (image.tiles name k) ∙ is));
  exact = subst (λ (l : List Layer). AreExact l x.tiles) (sym image.layers) (λ name k tile is. exact.exact name k tile (sym (image.tiles name k) ∙ is));
}

module _ {D : Type 0} (g : Ghosts D) where
  pub opened_recovers : OpenedRecovers g
  opened_recovers start disk f x least batches all opened =
      let here = all (g.seen disk) opened.stays in
      let same : here.held ≡ x.held = same_held (g.seen disk) here.held x.held here.stands opened.reads in
      let is : IsStored start batches x.held = subst (IsStored start batches) same here.stored in
      let first = up_to start x.held.number batches in
      let count : length first ≡ x.held.number - start.number = omega (arith, length-take (x.held.number - start.number) batches, is.no_later) in
      let again : up_to start x.held.number first ≡ first = take-take (x.held.number - start.number) (x.held.number - start.number) batches (omega arith) in
      let whole : IsStored start first x.held =
      record { since = is.since; no_later = omega (arith, count, is.since); layers = is.layers ∙ ap (layers_from start) (sym again); exact = is.exact } in
      record {
        no_less = subst (λ (h : Held). least ≤ h.number) same here.no_less;
        no_more = is.no_later;
        covers = record {
          honest = opened.stands.honest;
          number = omega (arith, count, is.since);
          layers = is.layers;
          exact = is.exact;
          reported = omega (arith, opened.stored);
          stored = omega (arith, opened.stored);
          store = subst (λ (q : Phase). In g start q f first) (sym opened.stands.idle) (record { x = x; number = sym opened.stored; stored = whole; stands = opened.stands });
        };
      }

  pub opening_is_covered : OpeningIsCovered g
  opening_is_covered start disk least batches all stays c (inl before) = all c before
  opening_is_covered start disk least batches all stays c (inr same) =
      let here = all (g.seen disk) stays in record { held = here.held; no_less = here.no_less; stored = here.stored; stands = same ∙ here.stands }

  pub begun_covers : BegunCovers g
  begun_covers start old new version batches idle covers begun =
      let rest : AtRest g start old batches = subst (λ (q : Phase). In g start q old batches) idle covers.store in
      let run = begun.runs rest.x rest.stands in
      let y = run.0 in
      let image = run.1.image in
      let all : up_to start y.held.number batches ≡ batches = take_all (y.held.number - start.number) batches (omega (arith, image.number, covers.number)) in
      record {
        honest = begun.honest covers.honest;
        number = covers.number;
        layers = covers.layers;
        exact = covers.exact;
        reported = omega (arith, covers.reported, begun.stored);
        stored = omega (arith, covers.stored, begun.stored);
        store = subst (λ (q : Phase). In g start q new batches) (sym begun.began) (record {
          x = rest.x;
          y = y;
          number = rest.number ∙ sym begun.stored;
          stored = rest.stored;
          next_number = image.number ∙ sym run.1.root;
          storing = record {
            since = omega (arith, image.number, covers.number);
            no_later = omega (arith, image.number, covers.number);
            layers = image.layers ∙ covers.layers ∙ ap (layers_from start) (sym all);
            exact = image_exact version y.held image covers.exact;
          };
          later = omega (arith, covers.stored, begun.stored, image.number);
          runs = run.2;
        });
      }

  -- a step that makes no call leaves what was covered
  pub stays_covered : (start : Start) (f : Flusher D g) (version : Version) (batches : List Batch) → (disk : D) → f.commit.disk ≡ disk
      → ((c : List ℕ) → g.left_since disk (g.moment disk) c → g.may_leave disk c) → Covers g start f version batches
      → LeavesOnly g disk disk (Covered start version.durable batches)
  stays_covered start f version batches disk is now covers =
      started g disk (Covered start version.durable batches) (λ c left.
      covered_less start version.durable f.commit.root.version batches c covers.reported
      (covers_leaves g start f version batches covers c (subst (λ (d : D). g.may_leave d c) (sym is) (now c left))))
