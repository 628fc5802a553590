-- What a store keeps is there where its type only says that there is a proof of it.
use Rattle.std.proofs.Common.{◌≡◌, ◌⊎◌, inl, inr, ⊎_elim, ℕ, ◌+◌, ◌*◌, ◌%◌, ◌<◌, ◌≤◌, true, List, [], ◌∷◌, length, drop, Result, Ok, Err, refl, sym, ◌∙◌, ap, subst, arith}
use Rattle.std.proofs.Math.Logic.{∥∥₁_elim, ∥∥₁_map, ∥∥₁_prop}
use Rattle.std.proofs.lemmas.Bool.{cases_eq, cases_lt}
use Rattle.std.specs.Prelude.{OnErr}
use Rattle.std.specs.Coded.{coded_ℕ, coded_bool, coded_list}
use Rattle.disk_model.specs.declared.disk.Disk.{Ghosts}
use Rattle.extent_map.specs.declared.extent.Extent as runs
use Rattle.store_terms.specs.declared.root.RecordExtent.{RecordExtent}
use Rattle.store_terms.specs.declared.root.Root.{Root}
use Rattle.store_terms.specs.Places.{blocks, block_size}
use Rattle.store_terms.specs.Roots.{ours, sequence_max}
use Rattle.store_terms.specs.Image.{Held, listing_of, held_of}
use Rattle.store_terms.specs.StandsFor.{gate, body}
use Rattle.root_reading.specs.RootRuns.{IsMapOf}
use Rattle.commit_plan.specs.declared.write.Write.{Write}
use Rattle.commit_plan.specs.Kept.{Kept, own, other, extents_in, IsWholeAt, Harmless, Live, Rest, Shut, Calm, Ready}
use Rattle.commit_plan.specs.Planning.{Leads, Spare}
use Rattle.commit_plan.specs.declared.live_records.LiveRecords.{LiveRecords}
use Rattle.commit_plan.specs.Staying.{kept_content}
use Rattle.commit_plan.specs.Live.{live_content}
use Rattle.disk_model.specs.Moments.{Leaves}
use Rattle.extent_map.specs.Taken.{taken_of}
use Rattle.root_store.specs.declared.phase.Phase.{Phase}
use Rattle.root_store.specs.declared.phase.Phase.TheVariants.{Idle, Close, Settle, Put, Open, Finish, Failed}
use Rattle.root_store.specs.declared.commit.Commit.{Commit}
use Rattle.root_store.specs.Content.{content_of, IsAtRest, IsBefore, GoesOn, Keeps}
use Rattle.root_store.specs.Running.{RunsFrom, LeadsTo, is_busy, StoresStand, CommitsRun}
use Rattle.root_store.proofs.Stable.{IsStable, less, same, either, decide_less, decide_le, each_of, is_ok, body_code, listed_code, held_code, extent_code}

pub map_stable : (es : List RecordExtent) (taken : List runs.Extent) → IsStable (IsMapOf es taken)
map_stable es taken there = record {
  there = λ start need unused.
      each_of _ (λ e. either (decide_le (start + need) e.block) (less (e.block + blocks e.size) start)) es
      (∥∥₁_map there (λ m. m.there start need unused));
  back = λ start need apart.
      each_of _ (λ e. either (decide_le (start + need) e.block) (less (e.block + e.blocks) start)) taken
      (∥∥₁_map there (λ m. m.back start need apart));
}

module _ (file : List ℕ) where
  pub named_stable : (k : ℕ) (x : Kept) → IsStable (IsWholeAt k x file)
  named_stable k x there = record {
    long = less (block_size * 2) (length file) (∥∥₁_map there (λ n. n.long));
    spelt = same body_code _ _ (∥∥₁_map there (λ n. n.spelt));
    bounded = less _ _ (∥∥₁_map there (λ n. n.bounded));
    numbered = less _ _ (∥∥₁_map there (λ n. n.numbered));
    parity = same coded_ℕ _ _ (∥∥₁_map there (λ n. n.parity));
    listing = is_ok (coded_list listed_code) (listing_of file x.root) x.listing (∥∥₁_map there (λ n. n.listing));
    placed = each_of _ (λ e. same coded_bool _ _) (extents_in x) (∥∥₁_map there (λ n. n.placed));
    holds = is_ok held_code (held_of file x.root) x.held (∥∥₁_map there (λ n. n.holds));
  }

  pub live_stable : (x : Kept) → IsStable (Live x file)
  live_stable x there = record {
    opened = same coded_ℕ _ _ (∥∥₁_map there (λ l. l.opened));
    named = named_stable (own x.root) x (∥∥₁_map there (λ l. l.named));
  }

  -- the root is the one that the body names
  pub harmless_stable : (k : ℕ) (r : Root) → IsStable (Harmless k r file)
  harmless_stable k r there =
      let own_root : (h : Harmless k r file) → h.root ≡ (body file k).root = λ h. sym (ap (λ b. b.root) h.spelt) in
      let q = (body file k).root in
      record {
        root = q;
        spelt =
            same body_code _ _
            (∥∥₁_map there (λ h. h.spelt ∙ ap ours (own_root h)));
        bounded =
            less _ _ (∥∥₁_map there (λ h. subst (λ (s : Root). s.sequence ≤ sequence_max) (own_root h) h.bounded));
        numbered =
            less _ _ (∥∥₁_map there (λ h. subst (λ (s : Root). s.version ≤ sequence_max) (own_root h) h.numbered));
        parity =
            same coded_ℕ _ _ (∥∥₁_map there (λ h. subst (λ (s : Root). s.sequence % 2 ≡ k) (own_root h) h.parity));
        older =
            either (decide_less q.sequence r.sequence)
            (λ both. (
              same coded_ℕ _ _ (∥∥₁_map both (λ p. p.0)),
              same extent_code _ _ (∥∥₁_map both (λ p. p.1)),
              same coded_bool _ _ (∥∥₁_map both (λ p. p.2)),
            ))
            (∥∥₁_map there (λ h. subst
            (λ (s : Root). (s.sequence < r.sequence) ⊎ ((s.version ≡ r.version) × (s.catalog ≡ r.catalog) × (s.is_old ≡ r.is_old))) (own_root h)
            h.older));
      }

  pub rest_stable : (x : Kept) → IsStable (Rest x file)
  rest_stable x there = record {
    live = live_stable x (∥∥₁_map there (λ r. r.live));
    harmless = harmless_stable (other x.root) x.root (∥∥₁_map there (λ r. r.harmless));
  }

  pub shut_stable : (x : Kept) → IsStable (Shut x file)
  shut_stable x there = record {
    live = live_stable x (∥∥₁_map there (λ s. s.live));
    closed = λ is. absurd (∥∥₁_elim there (λ a b. absurd a) (λ s. s.closed is));
  }

  -- the gate and the sequence say which of the two it is
  pub calm_stable : (x : Kept) → IsStable (Calm x file)
  calm_stable x there = elim (cases_eq (gate file (other x.root)) 167) [
    | inl is_open ↦
        inl (rest_stable x (∥∥₁_map there (⊎_elim (λ r. r) (λ s. absurd (s.0.closed is_open)))))
    | inr shut ↦
        elim (cases_lt x.root.sequence sequence_max) [
          | inl below ↦ inl (rest_stable x (∥∥₁_map there (⊎_elim (λ r. r) (λ s. absurd (omega (arith, below, s.1))))))
          | inr last ↦
              inr (
                record {
                  live = live_stable x (∥∥₁_map there (⊎_elim (λ r. r.live) (λ s. s.0.live)));
                  closed = shut;
                },
                last,
              )
        ]
  ]

  pub ready_stable : (x y : Kept) → IsStable (Ready x y file)
  ready_stable x y there = record {
    live = live_stable x (∥∥₁_map there (λ r. r.live));
    named = named_stable (other x.root) y (∥∥₁_map there (λ r. r.named));
    after = same coded_ℕ _ _ (∥∥₁_map there (λ r. r.after));
  }

pub leads_stable : (P : List ℕ → Type 0) → ((file : List ℕ) → IsStable (P file)) → (ws : List Write) (file : List ℕ)
    → IsStable (Leads P ws file)
leads_stable P stable [] file there = stable file there
leads_stable P stable (w ∷ ws) file there =
    λ after torn holds. leads_stable P stable ws after (∥∥₁_map there (λ leads. leads after torn holds))

pub spare_stable : (P : List ℕ → Type 0) → ((file : List ℕ) → IsStable (P file)) → (ws : List Write)
    → IsStable (Spare P ws)
spare_stable P stable [] there = tt
spare_stable P stable (w ∷ ws) there = (
  λ old new p torn. stable new (∥∥₁_map there (λ spare. spare.0 old new p torn)),
  spare_stable P stable ws (∥∥₁_map there (λ spare. spare.1)),
)

module _ {D : Type 0} (g : Ghosts D) where
  rest_known : (disk : D) (root : Root) (live : LiveRecords) (x : Kept) → root ≡ x.root
      → live_content live ≡ kept_content x → g.is_honest disk → IsStable (IsAtRest g disk Idle root live x)
  rest_known disk root live x is holds honest there = record {
    honest = honest;
    idle = refl;
    root = is;
    holds = holds;
    room = map_stable (extents_in x) (taken_of live.room.map) (∥∥₁_map there (λ r. r.room));
    leaves = λ c left. calm_stable c x (∥∥₁_map there (λ r. r.leaves c left));
  }

  module _ (disk : D) (writes : List Write) (x y : Kept) where
    leaves_known : (P : List ℕ → Type 0) → ((file : List ℕ) → IsStable (P file)) → IsStable (Leaves g disk P)
    leaves_known P stable there = λ c left. stable c (∥∥₁_map there (λ all. all c left))

    leads_known : IsStable ((file : List ℕ) → Shut x file → Leads (Ready x y) writes file)
    leads_known there = λ file shut.
        leads_stable (Ready x y) (λ f. ready_stable f x y) writes file (∥∥₁_map there (λ all. all file shut))

    spare_known : IsStable (Spare (Shut x) writes)
    spare_known = spare_stable (Shut x) (λ f. shut_stable f x) writes

    before_known : (phase : Phase) → is_busy phase ≡ true → IsStable (IsBefore g phase disk writes x y)
    before_known Idle busy there = absurd (cc busy)
    before_known Close busy there = (
      leaves_known (Rest x) (λ f. rest_stable f x) (∥∥₁_map there (λ b. b.0)),
      leads_known (∥∥₁_map there (λ b. b.1)),
      spare_known (∥∥₁_map there (λ b. b.2)),
    )
    before_known Settle busy there = (
      leaves_known (Rest x) (λ f. rest_stable f x) (∥∥₁_map there (λ b. b.0)),
      same coded_ℕ _ _ (∥∥₁_map there (λ b. b.1)),
      leads_known (∥∥₁_map there (λ b. b.2)),
      spare_known (∥∥₁_map there (λ b. b.3)),
    )
    before_known Put busy there = (
      leaves_known (Shut x) (λ f. shut_stable f x) (∥∥₁_map there (λ b. b.0)),
      leads_stable (Ready x y) (λ f. ready_stable f x y) writes (g.seen disk) (∥∥₁_map there (λ b. b.1)),
      spare_known (∥∥₁_map there (λ b. b.2)),
    )
    before_known Open busy there = leaves_known (Ready x y) (λ f. ready_stable f x y) there
    before_known Finish busy there = (
      leaves_known (Ready x y) (λ f. ready_stable f x y) (∥∥₁_map there (λ b. b.0)),
      same coded_ℕ _ _ (∥∥₁_map there (λ b. b.1)),
    )
    before_known Failed busy there = absurd (cc busy)

  -- at rest
  pub stands_known : StoresStand g
  stands_known s honest idle =
      let there = subst (Keeps g s.disk s.root s.live s.next_root s.next_live (drop s.next s.plan.items)) idle in
      let rest = rest_known s.disk s.root s.live (content_of s.root s.live) refl refl honest (∥∥₁_map (s.keeps honest) there) in
      record {
        honest = honest;
        idle = idle;
        root = refl;
        holds = refl;
        room = rest.room;
        leaves = rest.leaves;
      }

  goes_known : (disk : D) (root : Root) (live : LiveRecords) (next_root : Root) (next_live : LiveRecords)
      (writes : List Write) (phase : Phase) → is_busy phase ≡ true
      → Keeps g disk root live next_root next_live writes phase
      → GoesOn g disk root live next_root next_live writes phase
  goes_known disk root live next_root next_live writes Idle busy keeps = absurd (cc busy)
  goes_known disk root live next_root next_live writes Close busy keeps = keeps
  goes_known disk root live next_root next_live writes Settle busy keeps = keeps
  goes_known disk root live next_root next_live writes Put busy keeps = keeps
  goes_known disk root live next_root next_live writes Open busy keeps = keeps
  goes_known disk root live next_root next_live writes Finish busy keeps = keeps
  goes_known disk root live next_root next_live writes Failed busy keeps = absurd (cc busy)

  -- a commit is under way
  pub runs_known : CommitsRun g
  runs_known s honest busy =
      let writes = drop s.next s.plan.items in
      let x = content_of s.root s.live in
      let y = content_of s.next_root s.next_live in
      let there = ∥∥₁_map (s.keeps honest) (goes_known s.disk s.root s.live s.next_root s.next_live writes s.phase busy) in
      record {
        honest = honest;
        root = refl;
        next_root = refl;
        next_holds = refl;
        next_room = map_stable (extents_in y) (taken_of s.next_live.room.map) (∥∥₁_map there (λ r. r.next_room));
        before = before_known s.disk writes x y s.phase busy (∥∥₁_map there (λ r. r.before));
      }

-- what follows on a root is the content of the fields that it is put in
pub content_is : (root : Root) (live : LiveRecords) (y : Kept) → root ≡ y.root → live_content live ≡ kept_content y
    → y.held.number ≡ root.version → content_of root live ≡ y
content_is root live y is holds number =
    let numbered : root.version ≡ y.held.number = sym number in
    λ i. record {
      root = is i;
      listing = (holds i).listing;
      held = record { number = numbered i; layers = (holds i).layers; tiles = (holds i).tiles };
    }

-- a commit to what holds this
pub leads_to : {D : Type 0} (g : Ghosts D) (old new : Commit D g) (held : Held)
    → (y : Kept) × (y.held ≡ held) × RunsFrom g new (content_of old.root old.live) y
    → held.number ≡ new.next_root.version → LeadsTo g old new held
leads_to g old new held run number =
    let is = content_is new.next_root new.next_live run.0 run.2.next_root run.2.next_holds (ap (λ (h : Held). h.number) run.1 ∙ number) in
    (ap (λ (y : Kept). y.held) is ∙ run.1, subst (λ (y : Kept). RunsFrom g new (content_of old.root old.live) y) (sym is) run.2)

-- a store that is put back as it was: two proofs of what its type keeps are one
pub put_back : {D T E : Type 0} (g : Ghosts D) (result : Result T E) (s : Commit D g)
    (keeps : g.is_honest s.disk → ∥ Keeps g s.disk s.root s.live s.next_root s.next_live (drop s.next s.plan.items) s.phase ∥₁)
    → OnErr result (record {
      disk = s.disk;
      name = s.name;
      root = s.root;
      live = s.live;
      phase = s.phase;
      next_root = s.next_root;
      next_live = s.next_live;
      plan = s.plan;
      next = s.next;
      keeps = keeps;
    } ≡ s)
put_back g (Ok x) s keeps = tt
put_back g (Err e) s keeps =
    λ i. record {
      disk = s.disk;
      name = s.name;
      root = s.root;
      live = s.live;
      phase = s.phase;
      next_root = s.next_root;
      next_live = s.next_live;
      plan = s.plan;
      next = s.next;
      keeps = λ honest. ∥∥₁_prop (keeps honest) (s.keeps honest) i;
    }
