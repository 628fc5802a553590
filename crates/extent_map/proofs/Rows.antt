-- Worked rows of the planning of extents.
use Rattle.std.proofs.Common.{◌⊎◌, inl, inr, ℕ, ◌+◌, ◌^◌, ◌<◌, ◌≤◌, List, [], ◌∷◌, refl, lit<, lit≤, arith}
use Rattle.extent_map.specs.declared.extent.Extent.{Extent}
use Rattle.extent_map.specs.Extents.{AreApart}
use Rattle.extent_map.specs.FirstFit.{IsPlanned, IsFull}

abbrev run : (block blocks : ℕ) → 1 ≤ blocks → block + blocks < 2 ^ 64 → Extent
run block blocks some within = record { block = block; blocks = blocks; some = some; within = within }

abbrev third_and_fourth : List Extent
third_and_fourth = run 3 1 (lit≤ tt) (lit< tt) ∷ run 4 1 (lit≤ tt) (lit< tt) ∷ []

-- records of 44 and 17 bytes, blocks 3 and 4 taken, six blocks: block 2, then block 5
around : IsPlanned third_and_fourth 6 (44 ∷ 17 ∷ []) (run 2 1 (lit≤ tt) (lit< tt) ∷ run 5 1 (lit≤ tt) (lit< tt) ∷ [])
around = (
  refl,
  record { behind = omega arith; below = omega arith; free = (inl (omega arith), (inl (omega arith), tt)); lowest = λ s two below free. absurd (omega (arith, two, below)) },
  (
    refl,
    record {
      behind = omega arith;
      below = omega arith;
      free = (inr (omega arith), (inr (omega arith), (inr (omega arith), tt)));
      lowest = λ s two below free. no_place s two below free.0 free.1.0 free.1.1.0;
    },
    tt,
  ),
)
  where
    no_place : (s : ℕ) → 2 ≤ s → s < 5 → ((s + 1 ≤ 2) ⊎ (2 + 1 ≤ s)) → ((s + 1 ≤ 3) ⊎ (3 + 1 ≤ s)) → ((s + 1 ≤ 4) ⊎ (4 + 1 ≤ s)) → ⊥
    no_place s two below a b c = search arith

-- five blocks have no place for the second
too_few : IsFull third_and_fourth 5 (44 ∷ 17 ∷ [])
too_few = record {
  before = 44 ∷ [];
  wanted = 17;
  behind = [];
  runs = run 2 1 (lit≤ tt) (lit< tt) ∷ [];
  are = refl;
  planned = (
    refl,
    record { behind = omega arith; below = omega arith; free = (inl (omega arith), (inl (omega arith), tt)); lowest = λ s two below free. absurd (omega (arith, two, below)) },
    tt,
  );
  none = λ s two below free. no_place s two below free.0 free.1.0 free.1.1.0;
}
  where
    no_place : (s : ℕ) → 2 ≤ s → s + 1 ≤ 5 → ((s + 1 ≤ 2) ⊎ (2 + 1 ≤ s)) → ((s + 1 ≤ 3) ⊎ (3 + 1 ≤ s)) → ((s + 1 ≤ 4) ⊎ (4 + 1 ≤ s)) → ⊥
    no_place s two below a b c = search arith

-- a record of 4,097 bytes takes two blocks, and one of none takes one
behind_the_catalog : IsPlanned (run 2 1 (lit≤ tt) (lit< tt) ∷ []) 100 (4097 ∷ 0 ∷ []) (run 3 2 (lit≤ tt) (lit< tt) ∷ run 5 1 (lit≤ tt) (lit< tt) ∷ [])
behind_the_catalog = (
  refl,
  record { behind = omega arith; below = omega arith; free = (inr (omega arith), tt); lowest = λ s two below free. first s two below free.0 },
  (
    refl,
    record {
      behind = omega arith;
      below = omega arith;
      free = (inr (omega arith), (inr (omega arith), tt));
      lowest = λ s two below free. second s two below free.0 free.1.0;
    },
    tt,
  ),
)
  where
    first : (s : ℕ) → 2 ≤ s → s < 3 → ((s + 2 ≤ 2) ⊎ (2 + 1 ≤ s)) → ⊥
    first s two below a = search arith

    second : (s : ℕ) → 2 ≤ s → s < 5 → ((s + 1 ≤ 3) ⊎ (3 + 2 ≤ s)) → ((s + 1 ≤ 2) ⊎ (2 + 1 ≤ s)) → ⊥
    second s two below a b = search arith

-- blocks 2 and 3 beside block 3
overlapping : AreApart (run 2 2 (lit≤ tt) (lit< tt) ∷ run 3 1 (lit≤ tt) (lit< tt) ∷ []) → ⊥
overlapping apart = neither apart.0.0
  where
    neither : ((2 + 2 ≤ 3) ⊎ (3 + 1 ≤ 2)) → ⊥
    neither a = search arith
