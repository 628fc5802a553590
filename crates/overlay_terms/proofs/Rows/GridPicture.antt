-- The picture of I on a grid of four by four points, from (4, 4) in steps of 2, the lowest line first.
use Rattle.std.proofs.Common.{◌≡◌, ℕ, List, [], ◌∷◌, refl, map, codes}
use Rattle.overlay_terms.specs.Layers.{Location, answer_at, inside, outside, edge}
use Rattle.overlay_terms.proofs.Rows.Shared.{place}
use Rattle.overlay_terms.proofs.Rows.FirstRun.{first_run}

abbrev character : Location → ℕ
character inside = 35
character outside = 46
character edge = 43

abbrev line : ℕ → List ℕ
line y = map (λ x. character (answer_at first_run (codes "I") (place x y))) (4 ∷ 6 ∷ 8 ∷ 10 ∷ [])

the_picture_has_four_lines : map line (4 ∷ 6 ∷ 8 ∷ 10 ∷ []) ≡ codes "...+" ∷ codes ".##+" ∷ codes ".##+" ∷ codes "++++" ∷ []
the_picture_has_four_lines = refl
