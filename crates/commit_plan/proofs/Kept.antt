-- What torn writes leave of roots.
use Rattle.std.proofs.Common.{◌≡◌, inl, ℕ, ◌+◌, ◌*◌, ◌/◌, ◌≤◌, nat_le, true, List, [], ◌∷◌, length, get_or, Result, Ok, sym, ◌∙◌, ap, subst, arith}
use Rattle.std.specs.List.{AllByRecursion}
use Rattle.std.proofs.lemmas.Bool.{and_parts, and_from, leb-true, le-leb}
use Rattle.disk_model.specs.Disk.{Holds, Torn}
use Rattle.disk_model.proofs.Ranges.{Apart, byte_kept, part_kept}
use Rattle.store_terms.specs.declared.root.RecordExtent.{RecordExtent}
use Rattle.store_terms.specs.Places.{blocks, is_placed}
use Rattle.store_terms.specs.declared.root.Root.{Root}
use Rattle.store_terms.specs.declared.damage.Damage.{Damage}
use Rattle.store_terms.specs.Catalog.{Listed}
use Rattle.store_terms.specs.Image.{listing_of}
use Rattle.store_terms.specs.Frame.{IsSameAt, listed_extents}
use Rattle.store_terms.specs.Frame.{extents_of}
use Rattle.store_terms.proofs.FrameLemmas.{elsewhere_has_no_meaning, same_listing}
use Rattle.store_terms.specs.StandsFor.{gate, gate_at, body, body_at}
use Rattle.store_terms.specs.Roots.{body_in}
use Rattle.commit_plan.specs.Kept.{Kept, extents_in, own, other, IsWholeAt, Harmless, Live, Rest, Ready}

-- whole blocks within the file hold their bytes
bytes_within : (block size len : ℕ) → block + blocks size ≤ len / 4096 → 4096 * block + size ≤ len
bytes_within block size len within = omega arith

more_blocks : (m n : ℕ) → m ≤ n → m / 4096 ≤ n / 4096
more_blocks m n le = omega arith

-- what is placed
pub record IsBehind (file : List ℕ) (e : RecordExtent) : Type 0 where
  pub behind : 2 ≤ e.block
  pub within : e.block + blocks e.size ≤ length file / 4096

pub is_behind : (file : List ℕ) (e : RecordExtent) → is_placed file e ≡ true → IsBehind file e
is_behind file e placed =
    let p = and_parts (nat_le 2 e.block) (nat_le (e.block + blocks e.size) (length file / 4096)) placed in
    record { behind = leb-true 2 e.block p.0; within = leb-true _ _ p.1 }

pub still_placed : (old new : List ℕ) (e : RecordExtent) → length old ≤ length new → is_placed old e ≡ true
    → is_placed new e ≡ true
still_placed old new e le placed =
    let b = is_behind old e placed in
    and_from (nat_le 2 e.block) (nat_le (e.block + blocks e.size) (length new / 4096)) (le-leb 2 e.block b.behind)
    (le-leb _ _ (omega (arith, b.within, more_blocks (length old) (length new) le)))

abbrev pub AllPlaced : List ℕ → List RecordExtent → Type 0
AllPlaced file es = AllByRecursion (λ e. is_placed file e ≡ true) es

-- a range touches none of these extents
abbrev pub ApartFrom : ℕ → ℕ → List RecordExtent → Type 0
ApartFrom at n es = AllByRecursion (λ e. Apart at n (4096 * e.block) e.size) es

-- a range in the slots touches no extent
pub low_apart : (file : List ℕ) (at n : ℕ) (es : List RecordExtent) → at + n ≤ 8192 → AllPlaced file es → ApartFrom at n es
low_apart file at n [] low all = tt
low_apart file at n (e ∷ es) low all =
    (inl (omega (arith, low, (is_behind file e all.0).behind)), low_apart file at n es low all.1)

-- the extents of a root whose catalog is read
pub extents_are : (x : Kept) (file : List ℕ) → listing_of file x.root ≡ Ok x.listing → extents_of file x.root ≡ extents_in x
extents_are x file is = ap (λ (l : Result (List Listed) Damage). x.root.catalog ∷ listed_extents l) is

module _ (old new : List ℕ) (at n : ℕ) (torn : Torn at n old new) where
  same_at : (e : RecordExtent) → is_placed old e ≡ true → Apart at n (4096 * e.block) e.size → IsSameAt old new e
  same_at e placed apart =
      let b = is_behind old e placed in
      record {
        bytes = part_kept old new at n (4096 * e.block) e.size torn
            (bytes_within e.block e.size (length old) b.within) apart;
        placed = still_placed old new e torn.no_shorter placed ∙ sym placed;
      }

  all_same : (es : List RecordExtent) → AllPlaced old es → ApartFrom at n es → AllByRecursion (IsSameAt old new) es
  all_same [] placed apart = tt
  all_same (e ∷ es) placed apart = (same_at e placed.0 apart.0, all_same es placed.1 apart.1)

  all_placed : (es : List RecordExtent) → AllPlaced old es → AllPlaced new es
  all_placed [] placed = tt
  all_placed (e ∷ es) placed = (still_placed old new e torn.no_shorter placed.0, all_placed es placed.1)

  pub body_kept : (k : ℕ) → k ≤ 1 → 8192 ≤ length old → Apart at n (body_at k) 40 → body new k ≡ body old k
  body_kept k small long apart = ap body_in (part_kept old new at n (body_at k) 40 torn (omega arith) apart)

  pub gate_kept : (k : ℕ) → k ≤ 1 → 8192 ≤ length old → Apart at n (gate_at k) 1 → gate new k ≡ gate old k
  gate_kept k small long apart = byte_kept old new at n (gate_at k) torn (omega arith) apart

  pub named_kept : (k : ℕ) (x : Kept) → k ≤ 1 → Apart at n (body_at k) 40 → ApartFrom at n (extents_in x) → IsWholeAt k x old
      → IsWholeAt k x new
  named_kept k x small off_body off_extents named =
      let all = all_same (extents_in x) named.placed off_extents in
      let same = elsewhere_has_no_meaning old new x.root
      (subst (λ (es : List RecordExtent). AllByRecursion (IsSameAt old new) es) (sym (extents_are x old named.listing)) all) in
      record {
        long = omega (arith, named.long, torn.no_shorter);
        spelt = body_kept k small named.long off_body ∙ named.spelt;
        bounded = named.bounded;
        numbered = named.numbered;
        parity = named.parity;
        listing = same_listing old new x.root all.0 ∙ named.listing;
        placed = all_placed (extents_in x) named.placed;
        holds = same.0 ∙ named.holds;
      }

  pub live_kept : (x : Kept) → Apart at n (gate_at (own x.root)) 1 → Apart at n (body_at (own x.root)) 40
      → ApartFrom at n (extents_in x) → Live x old → Live x new
  live_kept x off_gate off_body off_extents live = record {
    opened = gate_kept (own x.root) (omega arith) live.named.long off_gate ∙ live.opened;
    named = named_kept (own x.root) x (omega arith) off_body off_extents live.named;
  }

  pub harmless_kept : (k : ℕ) (r : Root) → k ≤ 1 → 8192 ≤ length old → Apart at n (body_at k) 40 → Harmless k r old
      → Harmless k r new
  harmless_kept k r small long apart h = record {
    root = h.root;
    spelt = body_kept k small long apart ∙ h.spelt;
    bounded = h.bounded;
    numbered = h.numbered;
    parity = h.parity;
    older = h.older;
  }

off_own_gate : (r : Root) → Apart (gate_at (other r)) 1 (gate_at (own r)) 1
off_own_gate r = search arith

off_body : (r : Root) (k : ℕ) → k ≤ 1 → Apart (gate_at (other r)) 1 (body_at k) 40
off_body r k small = search arith

low_gate : (r : Root) → gate_at (other r) + 1 ≤ 8192
low_gate r = omega arith

-- the other gate may be written at any time: no predicate but Shut looks at it
pub rest_kept : (x : Kept) (old new : List ℕ) → Rest x old → Torn (gate_at (other x.root)) 1 old new → Rest x new
rest_kept x old new rest torn =
    let r = x.root in
    record {
      live = live_kept old new (gate_at (other r)) 1 torn x (off_own_gate r) (off_body r (own r) (omega arith))
          (low_apart old (gate_at (other r)) 1 (extents_in x) (low_gate r) rest.live.named.placed) rest.live;
      harmless = harmless_kept old new (gate_at (other r)) 1 torn (other r) r (omega arith) rest.live.named.long
          (off_body r (other r) (omega arith)) rest.harmless;
    }

pub ready_kept : (x y : Kept) (old new : List ℕ) → Ready x y old → Torn (gate_at (other x.root)) 1 old new
    → Ready x y new
ready_kept x y old new ready torn =
    let r = x.root in
    record {
      live = live_kept old new (gate_at (other r)) 1 torn x (off_own_gate r) (off_body r (own r) (omega arith))
          (low_apart old (gate_at (other r)) 1 (extents_in x) (low_gate r) ready.live.named.placed) ready.live;
      named = named_kept old new (gate_at (other r)) 1 torn (other r) y (omega arith)
          (off_body r (other r) (omega arith))
          (low_apart old (gate_at (other r)) 1 (extents_in y) (low_gate r) ready.named.placed) ready.named;
      after = ready.after;
    }

pub gate_written : (file : List ℕ) (k v : ℕ) → Holds file (gate_at k) (v ∷ []) → gate file k ≡ v
gate_written file k v holds =
    ap (λ (n : ℕ). get_or file n 0) (let e : gate_at k ≡ gate_at k + 0 = omega arith in e) ∙ holds.each 0 (omega arith)
