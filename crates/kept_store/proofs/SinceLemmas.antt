-- Which tiles a later version has, and how the numbers of versions say that none was kept between them.
use Rattle.std.specs.Prelude.{◌≡◌, ℕ, ◌+◌, ◌-◌, ◌≤◌, length, ◌==◌, Bool, true, false, List, [], ◌∷◌, ◌++◌, Option, Some, None, if◌then◌else◌}
use Rattle.std.proofs.Common.{refl, sym, ◌∙◌, ap, subst, arith, length-append}
use Rattle.std.specs.List.{cons_option}
use Rattle.std.proofs.lemmas.Bool.Decides.{Decides-eqb}
use Rattle.std.proofs.lemmas.Bool.{eqb-true}
use mathlib.Core.List.{IsPrefix}
use Rattle.overlay_terms.specs.Batches.{is_touched_by_all}
use Rattle.overlay_terms.specs.Histories.{Tile, Finished, tile_at, Version, Event, accepted, kept, durable_to, Follows, Entry, AllFollow, last_version}
use Rattle.book_history.specs.Logs.{IsLog, newest_in}
use Rattle.kept_store.specs.Since.{tile_kept, kept_in, number_reported, reported_in, HasTilesOf, TilesStay, reports_between, AreFew, NumbersTell}
use Rattle.kept_store.proofs.Histories.{follow_rest, last_append, last_rises}
use Rattle.kept_store.proofs.ReportsLemmas.{none_in}

-- ---- an event that keeps no tile adds none

untouched : (b : Bool) (before : Option Tile) (tile : Tile) → (if b then None else before) ≡ Some tile → before ≡ Some tile
untouched true before tile e = cc
untouched false before tile e = e

one_stays : (old new : Version) (event : Event) → Follows old event new → tile_kept event ≡ None → HasTilesOf old new
one_stays old new (accepted session batch) follows none name k tile there =
    untouched (is_touched_by_all old.layers batch name k) (tile_at old.tiles name k) tile (sym (follows.tiles name k) ∙ there)
one_stays old new (kept n column t) follows none name k tile there = absurd (cc none)
one_stays old new (durable_to number) follows none name k tile there = sym (follows.tiles name k) ∙ there

parts : {A : Type 0} (first : Option A) (rest : List A) → cons_option first rest ≡ [] → (first ≡ None) × (rest ≡ [])
parts None rest none = (refl, none)
parts (Some a) rest none = absurd (cc none)

pub tiles_stay : TilesStay
tiles_stay version [] follow none name k tile there = there
tiles_stay version (e ∷ es) follow none name k tile there =
    let both = parts (tile_kept e.event) (kept_in es) none in
    one_stays version e.version e.event follow.0 both.0 name k tile (tiles_stay e.version es follow.1 both.1 name k tile there)

-- ---- of an event the number rises, or it is a tile or a report

one_counted : (old new : Version) (event : Event) (tiles : List Finished) (numbers : List ℕ) → Follows old event new
    → new.number + length (cons_option (tile_kept event) tiles) + length (cons_option (number_reported event) numbers)
    ≡ old.number + 1 + length tiles + length numbers
one_counted old new (accepted session batch) tiles numbers follows = omega (arith, follows.number)
one_counted old new (kept n column t) tiles numbers follows = omega (arith, follows.number)
one_counted old new (durable_to number) tiles numbers follows = omega (arith, follows.same_number)

counted : (version : Version) (entries : List Entry) → AllFollow version entries
    → (last_version version entries).number + length (kept_in entries) + length (reported_in entries) ≡ version.number + length entries
counted version [] follow = omega arith
counted version (e ∷ es) follow =
    omega (arith, counted e.version es follow.1, one_counted version e.version e.event (kept_in es) (reported_in es) follow.0)

one_same : (old new : Version) (event : Event) → Follows old event new → number_reported event ≡ None → new.durable ≡ old.durable
one_same old new (accepted session batch) follows none = follows.durable
one_same old new (kept n column t) follows none = follows.durable
one_same old new (durable_to number) follows none = absurd (cc none)

same_durable : (version : Version) (entries : List Entry) → AllFollow version entries → reported_in entries ≡ []
    → (last_version version entries).durable ≡ version.durable
same_durable version [] follow none = refl
same_durable version (e ∷ es) follow none =
    let both = parts (number_reported e.event) (reported_in es) none in
    same_durable e.version es follow.1 both.1 ∙ one_same version e.version e.event follow.0 both.0

empty : {A : Type 0} (xs : List A) → length xs ≡ 0 → xs ≡ []
empty [] none = refl
empty (x ∷ xs) none = absurd (omega (arith, none))

-- with no report the durable number is the same, so the few entries were all batches
none_kept : (tiles : ℕ) (numbers : List ℕ) (same : Bool) → (numbers ≡ [] → same ≡ true) → tiles + length numbers ≤ (if same then 0 else 1) → tiles ≡ 0
none_kept tiles [] same is few = omega (arith, subst (λ b. tiles + 0 ≤ (if b then 0 else 1)) (is refl) few)
none_kept tiles (n ∷ ns) true is few = omega (arith, few)
none_kept tiles (n ∷ ns) false is few = omega (arith, few)

-- where the durable number is the same there was no report
few_reports : (numbers : List ℕ) (same : Bool) → (same ≡ true → numbers ≡ []) → length numbers ≤ 1 → length numbers ≤ (if same then 0 else 1)
few_reports numbers true is one = omega (arith, ap (λ (ns : List ℕ). length ns) (is refl))
few_reports numbers false is one = one

pub numbers_tell : NumbersTell
numbers_tell version entries follow =
    let last = last_version version entries in
    let count = counted version entries follow in
    record {
      none = λ few.
          empty (kept_in entries)
          (none_kept (length (kept_in entries)) (reported_in entries) (version.durable == last.durable)
          (λ none. (Decides-eqb version.durable last.durable).1 (sym (same_durable version entries follow none)))
          (omega (arith, few, count)));
      few = λ none one.
          let reports = few_reports (reported_in entries) (version.durable == last.durable)
          (λ same. none_in version entries follow (omega (arith, eqb-true version.durable last.durable same))) one in
          omega (arith, reports, count, ap (λ (ts : List Finished). length ts) none);
    }

-- ---- the same of two logs

module _ (was now rest : List Entry) (log : IsLog was) (later : IsLog now) (is : now ≡ was ++ rest) where
  between : (xs : List Entry) → IsLog xs → IsLog (xs ++ rest) → AllFollow (newest_in xs) rest × (newest_in (xs ++ rest) ≡ last_version (newest_in xs) rest)
  between [] none more = absurd none
  between (x ∷ xs) one more = (follow_rest x.version xs rest more.1, last_append x.version xs rest)

  follow : AllFollow (newest_in was) rest
  follow = (between was log (subst IsLog is later)).0

  last : newest_in now ≡ last_version (newest_in was) rest
  last = ap newest_in is ∙ (between was log (subst IsLog is later)).1

  -- the number never sinks
  pub no_lower : (newest_in was).number ≤ (newest_in now).number
  no_lower = omega (arith, last_rises (newest_in was) rest follow, ap (λ (v : Version). v.number) last)

  pub tiles_known : AreFew (newest_in was) (length rest) (newest_in now) → HasTilesOf (newest_in was) (newest_in now)
  tiles_known few =
      subst (λ (v : Version). HasTilesOf (newest_in was) v) (sym last)
      (tiles_stay (newest_in was) rest follow
      ((numbers_tell (newest_in was) rest follow).none (subst (λ (v : Version). AreFew (newest_in was) (length rest) v) last few)))

  pub are_few : kept_in rest ≡ [] → length (reported_in rest) ≤ 1 → AreFew (newest_in was) (length rest) (newest_in now)
  are_few none one =
      subst (λ (v : Version). AreFew (newest_in was) (length rest) v) (sym last) ((numbers_tell (newest_in was) rest follow).few none one)

-- as the code counts: by the places of the last entries of both
module _ (was now : List Entry) (log : IsLog was) (later : IsLog now) (first last reports : ℕ)
    (from : first + 1 ≡ length was) (to : last + 1 ≡ length now) (reported : reports ≡ reports_between (newest_in was) (newest_in now)) where
  entries : (rest : List Entry) → now ≡ was ++ rest → first + length rest ≡ last
  entries rest is = omega (arith, from, to, ap (λ (l : List Entry). length l) is, length-append was rest)

  pub known_by_numbers : (first ≤ last) → (length was ≤ length now → IsPrefix was now)
      → (last - first) - reports ≤ (newest_in now).number - (newest_in was).number → HasTilesOf (newest_in was) (newest_in now)
  known_by_numbers le prefix few =
      let p = prefix (omega (arith, from, to, le)) in
      let is : now ≡ was ++ p.0 = sym p.1 in
      tiles_known was now p.0 log later is (omega (arith, few, reported, entries p.0 is, no_lower was now p.0 log later is))

  pub reported_by_numbers : (since : List Entry) → now ≡ was ++ since → kept_in since ≡ [] → length (reported_in since) ≤ 1
      → (last - first) - reports ≤ (newest_in now).number - (newest_in was).number
  reported_by_numbers since is none one =
      omega (arith, reported, entries since is, no_lower was now since log later is, are_few was now since log later is none one)
