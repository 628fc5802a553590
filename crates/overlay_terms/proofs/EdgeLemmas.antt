-- An answer is edge exactly where its test for an edge holds.
use Rattle.std.specs.Prelude.{◌≡◌, Bool, true, false, if◌then◌else◌}
use Rattle.std.proofs.Common.{refl}
use Rattle.std.proofs.lemmas.List.Folds.{Any-from_list_any, list_any-from_Any}
use Rattle.overlay_terms.specs.Plane.{is_on}
use Rattle.overlay_terms.specs.Layers.{inside, outside, edge, segments_in_reach}
use Rattle.overlay_terms.specs.Laws.{EdgeExactlyOnSegments}

-- of the three answers, edge is given by the first test alone
edge_from_test : (b c : Bool) → (if b then edge else (if c then inside else outside)) ≡ edge → b ≡ true
edge_from_test true c e = refl
edge_from_test false true e = absurd (cc)
edge_from_test false false e = absurd (cc)

-- the answer is edge exactly where a segment in reach holds the point
pub edge_exactly_on_segments : EdgeExactlyOnSegments
edge_exactly_on_segments layers name p =
    (λ e. Any-from_list_any (λ m. is_on m.segment p) (segments_in_reach layers name) (edge_from_test _ _ e), λ on. rw (list_any-from_Any (λ m. is_on m.segment p) (segments_in_reach layers name) on))
