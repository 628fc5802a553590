-- Members that begin, as a loop goes over them one by one.
use Rattle.std.proofs.Common.{◌≡◌, ℕ, ◌<◌, Bool, List, [], ◌∷◌, ◌++◌, length, get_or, map, set, refl, ap, sym, ◌∙◌}
use Rattle.std.proofs.lemmas.List.{map-set, get_or-map, set-get_or}
use Rattle.overlay_terms.specs.Trees.{Steps}
use Rattle.crossing_sweep.specs.Rows.{mask_over, IsBegun, AreBegun}
use Rattle.crossing_sweep.specs.declared.member.Member.{Member}

-- ---- members that begin
pub mask_over_more : (under : ℕ) (ms : List Member) (m : Member) → mask_over under (ms ++ m ∷ []) ≡ m.over
mask_over_more under [] m = refl
mask_over_more under (x ∷ xs) m = mask_over_more x.over xs m

pub begun_more : (steps : Steps) (begin : ℕ) (within : Bool) (under : ℕ) (ms : List Member) (m : Member) → AreBegun steps under begin within ms → IsBegun steps (mask_over under ms) begin within m
    → AreBegun steps under begin within (ms ++ m ∷ [])
begun_more steps begin within under [] m all one = (one, all)
begun_more steps begin within under (x ∷ xs) m all one = (all.0, begun_more steps begin within x.over xs m all.1 one)

-- one element changed, and not what holds of it
pub same_told : {X Y : Type 0} (f : X → Y) (xs : List X) (i : ℕ) (d new : X) → i < length xs → f new ≡ f (get_or xs i d) → map f (set xs i new) ≡ map f xs
same_told f xs i d new l e = map-set f xs i new ∙ ap (λ y. set (map f xs) i y) (e ∙ sym (get_or-map f xs i d (f d) l)) ∙ set-get_or (map f xs) i (f d)
