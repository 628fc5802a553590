-- Which inputs of tiles a command leaves as they are, and that the small history keeps exact tiles.
use Rattle.std.proofs.Common.{◌≡◌, true, false, [], ◌∷◌, refl, map, codes}
use Rattle.overlay_terms.specs.Layers.{Marked, segments_in_reach}
use Rattle.overlay_terms.specs.Tiles.{input_of}
use Rattle.overlay_terms.specs.Trees.{leaf}
use Rattle.overlay_terms.specs.Commands.{put, define, remove, applied}
use Rattle.overlay_terms.specs.Touched.{is_touched}
use Rattle.overlay_terms.specs.KeptLaws.{IsExact}
use Rattle.overlay_terms.proofs.KeptHistories.{history_is_exact}
use Rattle.overlay_terms.proofs.Rows.Shared.{square}
use Rattle.overlay_terms.proofs.Rows.SmallHistory.{empty, all_durable, small_history}
use Rattle.overlay_terms.proofs.Rows.HistoryFollows.{the_small_history_is_one}
use Rattle.overlay_terms.proofs.Rows.TouchedTiles.{layers}

a_put_leaves_what_does_not_reach_it : map (λ k. input_of (applied layers (put (codes "A") (square 1 9 ∷ []))) (codes "L") k) (16 ∷ 32 ∷ []) ≡ map (λ k. input_of layers (codes "L") k) (16 ∷ 32 ∷ [])
a_put_leaves_what_does_not_reach_it = refl

l_is_then_untouched : map (λ name. is_touched layers (put name []) (codes "L") 16) (codes "A" ∷ codes "B" ∷ codes "C" ∷ []) ≡ false ∷ true ∷ false ∷ []
l_is_then_untouched = refl

so_it_is_where_nothing_lies : map (is_touched layers (put (codes "B") []) (codes "L")) (15 ∷ 16 ∷ 17 ∷ []) ≡ false ∷ true ∷ false ∷ []
so_it_is_where_nothing_lies = refl

a_put_in_reach_changes_the_segments : map (λ (m : Marked). m.layer) (segments_in_reach (applied layers (put (codes "B") [])) (codes "L")) ≡ []
a_put_in_reach_changes_the_segments = refl

a_definition_leaves_what_does_not_reach_it : input_of (applied layers (define (codes "J") (leaf (codes "A")))) (codes "I") 16 ≡ input_of layers (codes "I") 16
a_definition_leaves_what_does_not_reach_it = refl

a_drop_leaves_the_others : input_of (applied layers (remove (codes "L"))) (codes "J") 16 ≡ input_of layers (codes "J") 16
a_drop_leaves_the_others = refl

nothing_kept_is_exact : IsExact empty
nothing_kept_is_exact = record { orderly = refl; fit = λ name k tile e. absurd (cc); exact = λ name k tile e. absurd (cc) }

the_small_history_ends_exact : IsExact all_durable
the_small_history_ends_exact = history_is_exact small_history the_small_history_is_one nothing_kept_is_exact
