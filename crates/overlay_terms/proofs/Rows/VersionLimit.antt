-- At the greatest version number every command that the layers take is refused, and the others by their own reason.
use Rattle.std.proofs.Common.{◌≡◌, ◌-◌, Some, None, [], ◌∷◌, refl, map, codes}
use Rattle.overlay_terms.specs.Trees.{leaf}
use Rattle.overlay_terms.specs.Commands.{put, define, remove, unknown_layer, in_use, later_layer, version_limit, version_max, refusal_at}
use Rattle.overlay_terms.proofs.Rows.Shared.{square}
use Rattle.overlay_terms.proofs.Rows.FirstRun.{first_run}

the_limit_is_two_to_the_62 : version_max ≡ 4611686018427387904
the_limit_is_two_to_the_62 = refl

a_put_is_refused_there : refusal_at version_max [] (put (codes "A") (square 0 10 ∷ [])) ≡ Some version_limit
a_put_is_refused_there = refl

so_is_each_command : map (refusal_at version_max first_run) (put (codes "A") [] ∷ define (codes "X") (leaf (codes "A")) ∷ remove (codes "I") ∷ []) ≡ Some version_limit ∷ Some version_limit ∷ Some version_limit ∷ []
so_is_each_command = refl

other_reasons_come_first : map (refusal_at version_max first_run) (remove (codes "Z") ∷ remove (codes "A") ∷ define (codes "I") (leaf (codes "I")) ∷ []) ≡ Some unknown_layer ∷ Some in_use ∷ Some later_layer ∷ []
other_reasons_come_first = refl

the_number_before_it_is_not_the_last : refusal_at (version_max - 1) [] (put (codes "A") (square 0 10 ∷ [])) ≡ None
the_number_before_it_is_not_the_last = refl
