-- What a write leaves at each place.
use Rattle.std.specs.Prelude.{◌≡◌, ℕ, ◌+◌, ◌-◌, ◌<◌, ◌≤◌, max, List, ◌++◌, length, take, drop, replicate, get_or, refl}
use Rattle.std.proofs.Common.{⊎_elim, sym, subst, ◌∙◌, ap, arith, length-append, length-take, length-drop}
use Rattle.std.proofs.lemmas.List.{
  get_or_append_left,
  get_or-append_right,
  get_or-take,
  get_or-drop,
  get_or-replicate,
  length-replicate,
  ext_get_or,
}
use Rattle.std.proofs.lemmas.Bool.{cases_lt}
use Rattle.disk_model.specs.Replay.{over}
use Rattle.disk_model.specs.Disk.{Holds, Torn}

module _ (file : List ℕ) (at : ℕ) (bytes : List ℕ) where
  gap : List ℕ
  gap = replicate (at - length file) 0

  front : List ℕ
  front = take at (file ++ replicate (at - length file) 0)

  length-front : length (take at (file ++ replicate (at - length file) 0)) ≡ at
  length-front =
      omega (
        arith,
        length-take at (file ++ replicate (at - length file) 0),
        length-append file (replicate (at - length file) 0),
        length-replicate {A = ℕ} (at - length file) 0,
      )

  pub length-over : length (over file at bytes) ≡ max (length file) (at + length bytes)
  unfolding over
  length-over =
      omega (
        arith,
        length-front,
        length-append (take at (file ++ replicate (at - length file) 0)) (bytes ++ drop (at + length bytes) file),
        length-append bytes (drop (at + length bytes) file),
        length-drop (at + length bytes) file,
      )

  pub over_within : (i : ℕ) → i < length bytes → get_or (over file at bytes) (at + i) 0 ≡ get_or bytes i 0
  unfolding over
  over_within i h =
      let e : (at + i) - at ≡ i = omega arith in
      get_or-append_right (take at (file ++ replicate (at - length file) 0))
      (bytes ++ drop (at + length bytes) file) at (at + i) 0 length-front (omega arith)
      ∙ ap (λ (k : ℕ). get_or (bytes ++ drop (at + length bytes) file) k 0) e
      ∙ get_or_append_left bytes (drop (at + length bytes) file) 0 i h

  pub over_below : (i : ℕ) → i < length file → i < at → get_or (over file at bytes) i 0 ≡ get_or file i 0
  unfolding over
  over_below i h k =
      get_or_append_left (take at (file ++ replicate (at - length file) 0))
      (bytes ++ drop (at + length bytes) file) 0 i (omega (arith, length-front))
      ∙ get_or-take at (file ++ replicate (at - length file) 0) i 0 k
      ∙ get_or_append_left file (replicate (at - length file) 0) 0 i h

  pub over_above : (i : ℕ) → i < length file → at + length bytes ≤ i → get_or (over file at bytes) i 0 ≡ get_or file i 0
  unfolding over
  over_above i h k =
      let e : (at + length bytes) + ((i - at) - length bytes) ≡ i = omega arith in
      get_or-append_right (take at (file ++ replicate (at - length file) 0))
      (bytes ++ drop (at + length bytes) file) at i 0 length-front (omega arith)
      ∙ get_or-append_right bytes (drop (at + length bytes) file) (length bytes) (i - at) 0 refl (omega arith)
      ∙ get_or-drop (at + length bytes) file ((i - at) - length bytes) 0
      ∙ ap (λ (n : ℕ). get_or file n 0) e

  pub over_holds : Holds (over file at bytes) at bytes
  over_holds = record { within = omega (arith, length-over); each = over_within }

  pub over_torn : Torn at (length bytes) file (over file at bytes)
  over_torn = record {
    no_shorter = omega (arith, length-over);
    no_longer = omega (arith, length-over);
    below = over_below;
    above = over_above;
  }

  pub over_gap : (i : ℕ) → length file ≤ i → i < at → get_or (over file at bytes) i 0 ≡ 0
  unfolding over
  over_gap i h k =
      let back : length file + (i - length file) ≡ i = omega arith in
      get_or_append_left (take at (file ++ replicate (at - length file) 0))
      (bytes ++ drop (at + length bytes) file) 0 i (omega (arith, length-front))
      ∙ get_or-take at (file ++ replicate (at - length file) 0) i 0 k
      ∙ get_or-append_right file (replicate (at - length file) 0) (length file) i 0 refl h
      ∙ get_or-replicate (at - length file) (i - length file) 0 0 (omega arith)

  -- a file that grew by zeros, with the bytes put in their place
  pub is_over : (new : List ℕ) → Holds new at bytes
      → Torn at (length bytes) (file ++ replicate ((at + length bytes) - length file) 0) new → new ≡ over file at bytes
  is_over new holds torn =
      let grown : List ℕ = file ++ replicate ((at + length bytes) - length file) 0 in
      let long : length (file ++ replicate ((at + length bytes) - length file) 0)
      ≡ max (length file) (at + length bytes) =
      omega (
        arith,
        length-append file (replicate ((at + length bytes) - length file) 0),
        length-replicate {A = ℕ} ((at + length bytes) - length file) 0,
      ) in
      let size : length new ≡ length (over file at bytes) =
      omega (arith, long, length-over, torn.no_shorter, torn.no_longer) in
      ext_get_or 0 new (over file at bytes) size (λ i h.
      let inside : i < max (length file) (at + length bytes) = omega (arith, h, size, length-over) in
      ⊎_elim
      (λ below. torn.below i (omega (arith, inside, long)) below ∙ before i below)
      (λ from. ⊎_elim
      (λ within. written i from within)
      (λ above. torn.above i (omega (arith, inside, long)) above ∙ old i (omega (arith, inside, above))
      ∙ sym (over_above i (omega (arith, inside, above)) above))
      (cases_lt i (at + length bytes)))
      (cases_lt i at))
    where
      old : (i : ℕ) → i < length file
          → get_or (file ++ replicate ((at + length bytes) - length file) 0) i 0 ≡ get_or file i 0
      old i h = get_or_append_left file (replicate ((at + length bytes) - length file) 0) 0 i h

      before : (i : ℕ) → i < at → get_or (file ++ replicate ((at + length bytes) - length file) 0) i 0
          ≡ get_or (over file at bytes) i 0
      before i h = ⊎_elim
          (λ inside. old i inside ∙ sym (over_below i inside h))
          (λ past. get_or-append_right file (replicate ((at + length bytes) - length file) 0)
          (length file) i 0 refl past
          ∙ get_or-replicate ((at + length bytes) - length file) (i - length file) 0 0 (omega arith)
          ∙ sym (over_gap i past h))
          (cases_lt i (length file))

      written : (i : ℕ) → at ≤ i → i < at + length bytes → get_or new i 0 ≡ get_or (over file at bytes) i 0
      written i from within =
          let there : at + (i - at) ≡ i = omega arith in
          subst (λ (k : ℕ). get_or new k 0 ≡ get_or (over file at bytes) k 0) there
          (holds.each (i - at) (omega arith) ∙ sym (over_within (i - at) (omega arith)))
