-- A new file with its first gate open.
use Rattle.std.proofs.Common.{get_or, ◌≡◌, ◌⊎◌, inl, inr, replicate, ℕ, ◌+◌, ◌<◌, ◌≤◌, ◌/◌, ◌&&◌, nat_le, true, false, List, length, [], ◌∷◌, Ok, refl, ◌∙◌, ap, arith}
use Rattle.disk_model.specs.Disk.{Holds, Torn}
use Rattle.std.proofs.lemmas.List.{get_or-replicate, length-replicate}
use Rattle.disk_model.proofs.Ranges.{Apart, byte_kept, part_same, part_kept, part_written, part_written_front}
use Rattle.store_terms.specs.Catalog.{catalog_of_record}
use Rattle.store_terms.specs.Places.{blocks, is_placed}
use Rattle.store_terms.specs.Roots.{body_in, body_text}
use Rattle.store_terms.specs.Image.{listing_of}
use Rattle.store_terms.specs.StandsFor.{gate, open_gate}
use Rattle.store_terms.specs.Spelled.{Spells}
use Rattle.store_terms.proofs.SpelledLemmas.{spelled_is_held, listing_spelled}
use Rattle.root_store.specs.Creating.{first_root, second_root, nothing_kept, IsBlank, IsFirstWrite, IsNewFile, BlankIsAtRest}
use Rattle.store_terms.proofs.BodyLemmas.{body_again}

pub blank_is_at_rest : BlankIsAtRest
blank_is_at_rest file blank opened =
    let place : is_placed file first_root.catalog ≡ true =
    ap (λ (n : ℕ). nat_le 2 2 && nat_le (2 + blocks 2) (n / 4096)) blank.size in
    let spells : Spells file first_root.catalog (catalog_of_record false) [] =
    record { placed = place; is = ap (catalog_of_record false) blank.catalog } in
    let read : listing_of file first_root ≡ Ok [] = listing_spelled file first_root [] spells in
    record {
      live = record {
        opened = opened;
        named = record {
          long = omega (arith, blank.size);
          spelt = ap body_in (part_written_front file 16 40 (body_text first_root) (omega arith) blank.first)
              ∙ body_again first_root (omega arith) (omega arith) (omega arith) (omega arith);
          bounded = omega arith;
          numbered = omega arith;
          parity = refl;
          listing = read;
          placed = (place, tt);
          holds = spelled_is_held file first_root nothing_kept.held
              (record { orderly = refl; few = omega arith; named = tt })
              (record { listing = []; catalog = spells; layers = (refl, refl); apart = refl; number = refl });
        };
      };
      harmless = record {
        root = second_root;
        spelt = ap body_in (part_written_front file 4112 40 (body_text second_root) (omega arith) blank.second)
            ∙ body_again second_root (omega arith) (omega arith) (omega arith) (omega arith);
        bounded = omega arith;
        numbered = omega arith;
        parity = refl;
        older = inr (refl, refl, refl);
      };
    }

apart : (at n i : ℕ) → (i < at) ⊎ (at + n ≤ i) → Apart at n i 1
apart at n i (inl below) = inr (omega arith)
apart at n i (inr above) = inl above

-- bytes apart from what is written
holds_kept : (old new : List ℕ) (at n from : ℕ) (bytes : List ℕ) → Torn at n old new → Apart at n from (length bytes)
    → Holds old from bytes → Holds new from bytes
holds_kept old new at n from bytes torn apart held = record {
  within = omega (arith, held.within, torn.no_shorter);
  each = λ i h. byte_kept old new at n (from + i) torn (omega (arith, h, held.within)) (each_apart apart i h)
      ∙ held.each i h;
}
  where
    each_apart : Apart at n from (length bytes) → (i : ℕ) → i < length bytes → Apart at n (from + i) 1
    each_apart (inl before) i h = inl (omega (arith, before))
    each_apart (inr behind) i h = inr (omega (arith, behind, h))

-- both bodies and the catalog, put into so many zeros
pub blank_made : (zero one two three : List ℕ) → zero ≡ replicate 12288 0 → Torn 16 48 zero one
    → Holds one 16 (body_text first_root) → Torn 4112 48 one two → Holds two 4112 (body_text second_root)
    → Torn 8192 2 two three → Holds three 8192 (0 ∷ 0 ∷ []) → IsFirstWrite three
blank_made zero one two three zeros torn1 held1 torn2 held2 torn3 held3 =
    let size : length zero ≡ 12288 = ap length zeros ∙ length-replicate {A = ℕ} 12288 0 in
    let s1 : length one ≡ 12288 = omega (arith, torn1.no_shorter, torn1.no_longer, size) in
    let s2 : length two ≡ 12288 = omega (arith, torn2.no_shorter, torn2.no_longer, s1) in
    let at_zero : (i : ℕ) → i < 12288 → get_or zero i 0 ≡ 0 =
    λ i h. ap (λ (l : List ℕ). get_or l i 0) zeros ∙ get_or-replicate 12288 i 0 0 h in
    let still : (i : ℕ) → i < 12288 → (i < 16) ⊎ (64 ≤ i) → (i < 4112) ⊎ (4160 ≤ i) → (i < 8192) ⊎ (8194 ≤ i)
    → get_or three i 0 ≡ 0 =
    λ i h first second catalog.
    byte_kept two three 8192 2 i torn3 (omega (arith, h, s2)) (apart 8192 2 i catalog)
    ∙ byte_kept one two 4112 48 i torn2 (omega (arith, h, s1)) (apart 4112 48 i second)
    ∙ byte_kept zero one 16 48 i torn1 (omega (arith, h, size)) (apart 16 48 i first) ∙ at_zero i h in
    let blank : IsBlank three = record {
      size = omega (arith, torn3.no_shorter, torn3.no_longer, s2);
      first = holds_kept two three 8192 2 16 (body_text first_root) torn3 (inr (omega arith))
          (holds_kept one two 4112 48 16 (body_text first_root) torn2 (inr (omega arith)) held1);
      second = holds_kept two three 8192 2 4112 (body_text second_root) torn3 (inr (omega arith)) held2;
      catalog = part_written three 8192 (0 ∷ 0 ∷ []) held3;
      unused = λ i at. still i at.within at.first at.second at.catalog;
    } in
    record {
      blank = blank;
      shut = still 0 (omega arith) (inl (omega arith)) (inl (omega arith)) (inl (omega arith));
      other_shut = still 4096 (omega arith) (inr (omega arith)) (inl (omega arith)) (inl (omega arith));
    }

-- once its first gate is open it is a new store
pub blank_opened : (file : List ℕ) → IsBlank file → gate file 0 ≡ open_gate → IsNewFile file
blank_opened file blank opened = record {
  blank = blank;
  opened = opened;
  other_shut = blank.unused 4096
      (record {
        within = omega arith;
        gate = omega arith;
        first = inr (omega arith);
        second = inl (omega arith);
        catalog = inl (omega arith);
      });
}

-- a file that a blank was put into, from its start
pub blank_put : (old new bytes : List ℕ) → length old ≡ 0 → IsBlank bytes → Torn 0 (length bytes) old new
    → Holds new 0 bytes → IsBlank new
blank_put old new bytes empty blank torn held =
    let size : length new ≡ 12288 = omega (arith, torn.no_longer, held.within, empty, blank.size) in
    let same : (k : ℕ) → k < 12288 → get_or new k 0 ≡ get_or bytes k 0 = λ k h.
    let e : k ≡ 0 + k = omega arith in ap (λ (n : ℕ). get_or new n 0) e ∙ held.each k (omega (arith, blank.size)) in
    let moved : (from : ℕ) (body : List ℕ) → Holds bytes from body → Holds new from body = λ from body there.
    record {
      within = omega (arith, there.within, blank.size, size);
      each = λ i h. same (from + i) (omega (arith, h, there.within, blank.size)) ∙ there.each i h;
    } in
    record {
      size = size;
      first = moved 16 (body_text first_root) blank.first;
      second = moved 4112 (body_text second_root) blank.second;
      catalog = part_same bytes new 8192 2 (omega (arith, blank.size)) (omega (arith, size))
          (λ i h. same (8192 + i) (omega arith)) ∙ blank.catalog;
      unused = λ i at. same i at.within ∙ blank.unused i at;
    }

-- and with both gates shut, if they are in the blank
pub first_put : (old new bytes : List ℕ) → length old ≡ 0 → IsFirstWrite bytes → Torn 0 (length bytes) old new
    → Holds new 0 bytes → IsFirstWrite new
first_put old new bytes empty first torn held =
    let size = first.blank.size in
    record {
      blank = blank_put old new bytes empty first.blank torn held;
      shut = held.each 0 (omega (arith, size)) ∙ first.shut;
      other_shut = held.each 4096 (omega (arith, size)) ∙ first.other_shut;
    }

-- the first gate may be anything
pub blank_kept : (old new : List ℕ) → IsBlank old → Torn 0 1 old new → IsBlank new
blank_kept old new blank torn = record {
  size = omega (arith, torn.no_shorter, torn.no_longer, blank.size);
  first = holds_kept old new 0 1 16 (body_text first_root) torn (inl (omega arith)) blank.first;
  second = holds_kept old new 0 1 4112 (body_text second_root) torn (inl (omega arith)) blank.second;
  catalog = part_kept old new 0 1 8192 2 torn (omega (arith, blank.size)) (inl (omega arith)) ∙ blank.catalog;
  unused = λ i at. byte_kept old new 0 1 i torn (omega (arith, at.within, blank.size)) (inl (omega (arith, at.gate)))
      ∙ blank.unused i at;
}
