-- Windows in place of the core that they make up.
use Rattle.std.proofs.Common.{◌≡◌, ℕ, ◌+◌, ◌<◌, ap, sym, subst, ◌∙◌, arith, List, [], ◌∷◌, ◌++◌, length, map, reverse}
use Rattle.std.proofs.lemmas.List.{append-nil, append_assoc, map-append, reverse-append, reverse-reverse}
use Rattle.std.proofs.Math.ListN.{length-append}
use Rattle.std.proofs.lemmas.List.Elements.{All-nil, All-cons}
use Rattle.overlay_terms.specs.Plane.{WholePoint}
use Rattle.block_reading.specs.Terms.{Core}
use Rattle.map_window.specs.Window.{Box}
use Rattle.near_steps.specs.Cores.{box_of, IsPart}
use Rattle.feature_windows.specs.Shown.{rings_at}
use Rattle.feature_windows.specs.Parts.{IsCut, MakeUp}
use Rattle.feature_windows.specs.Layers.{corners_of, layer_rings, HasLayers, LookLike}
use Rattle.feature_windows.specs.Windows.{AreHalves, AreWindows, IsDivided, IsInner, as_whole, in_halves, ShowsFeatures, ShowsStill}
use Rattle.feature_windows.specs.declared.window.Near.{Near}
use Rattle.feature_windows.specs.declared.window.Window.{Window}
use Rattle.feature_windows.proofs.CutLemmas.{cut_made_up, sum_of_cut, whole_made_up, within_cut}
use Rattle.feature_windows.proofs.LikeLemmas.{like_through, like_within}

-- ---- a half of a window
pub shows_half : (whole half : Window) (inner : List (List (List WholePoint)))
    → IsInner whole.layers.items inner
    → IsPart (box_of half.core) (box_of whole.core) → HasLayers (box_of half.core) (length inner) (λ k. rings_at k inner) half.layers.items → ShowsStill whole half
shows_half whole half inner known part own count rings h =
    let same : inner ≡ h.kept = known h.kept (corners_of (box_of whole.core) ∷ []) h.all in
    let many : length inner ≡ count = ap (λ ls. length ls) same ∙ h.count_is in
    record {
      kept = own.kept;
      count_is = own.count_is ∙ many;
      each = λ k lt.
          like_through (box_of half.core) (rings k) (rings_at k inner) (rings_at k own.kept)
          (like_within (box_of half.core) (box_of whole.core) (rings k) (rings_at k inner) part (subst (λ ls. LookLike (box_of whole.core) (rings k) (rings_at k ls)) (sym same) (h.each k lt)))
          (own.each k (omega (arith, lt, many)));
      all = own.all;
    }

pub halves_are : (whole first second : Window) (low high : Core) (inner lows highs : List (List (List WholePoint)))
    → IsInner whole.layers.items inner
    → IsCut (box_of whole.core) (box_of low) (box_of high)
    → HasLayers (box_of low) (length inner) (λ k. rings_at k inner) lows → HasLayers (box_of high) (length inner) (λ k. rings_at k inner) highs
    → first.core ≡ low → first.layers.items ≡ lows → second.core ≡ high → second.layers.items ≡ highs → AreHalves whole first second
halves_are whole first second low high inner lows highs known cut at_low at_high f_core f_layers s_core s_layers =
    let cut_now : IsCut (box_of whole.core) (box_of first.core) (box_of second.core) =
    subst (λ c. IsCut (box_of whole.core) (box_of first.core) (box_of c)) (sym s_core) (subst (λ c. IsCut (box_of whole.core) (box_of c) (box_of high)) (sym f_core) cut) in
    let sum = sum_of_cut (box_of whole.core) (box_of first.core) (box_of second.core) cut_now in
    let first_has : HasLayers (box_of first.core) (length inner) (λ k. rings_at k inner) first.layers.items =
    subst (λ c. HasLayers (box_of c) (length inner) (λ k. rings_at k inner) first.layers.items) (sym f_core)
    (subst (HasLayers (box_of low) (length inner) (λ k. rings_at k inner)) (sym f_layers) at_low) in
    let second_has : HasLayers (box_of second.core) (length inner) (λ k. rings_at k inner) second.layers.items =
    subst (λ c. HasLayers (box_of c) (length inner) (λ k. rings_at k inner) second.layers.items) (sym s_core)
    (subst (HasLayers (box_of high) (length inner) (λ k. rings_at k inner)) (sym s_layers) at_high) in
    record {
      cut = cut_now;
      first_shows = shows_half whole first inner known sum.left first_has;
      second_shows = shows_half whole second inner known sum.right second_has;
    }

-- ---- the core as the first window
pub first_window : (features : List (List (List WholePoint))) (members : List Near) (count : ℕ) (core : Core) (own layers : List (List (List WholePoint))) (window : Window) (done left : List Window)
    → length own ≡ count → ((k : ℕ) → k < count → LookLike (box_of core) (layer_rings features members k) (rings_at k own))
    → HasLayers (box_of core) (length own) (λ k. rings_at k own) layers → window.core ≡ core → window.layers.items ≡ layers → done ≡ [] → left ≡ window ∷ []
    → AreWindows features members count core (done ++ reverse left)
first_window features members count core own layers window done left many looks has is_core is_layers none_done first_left =
    let shows : HasLayers (box_of core) count (layer_rings features members) layers = record {
      kept = has.kept;
      count_is = has.count_is ∙ many;
      each = λ k lt.
          like_through (box_of core) (layer_rings features members k) (rings_at k own) (rings_at k has.kept) (looks k lt) (has.each k (omega (arith, lt, many)));
      all = has.all;
    } in
    let shows_now : ShowsFeatures features members count window =
    subst (λ c. HasLayers (box_of c) count (layer_rings features members) window.layers.items) (sym is_core)
    (subst (HasLayers (box_of core) count (layer_rings features members)) (sym is_layers) shows) in
    let alone : AreWindows features members count core (window ∷ []) = record {
      made_up = subst (λ c. MakeUp (box_of core) (box_of c ∷ [])) (sym is_core) (whole_made_up (box_of core));
      show = All-cons (ShowsFeatures features members count) window [] shows_now (All-nil (ShowsFeatures features members count));
    } in
    subst (λ ws. AreWindows features members count core (ws ++ reverse left)) (sym none_done) (subst (λ ws. AreWindows features members count core (reverse ws)) (sym first_left) alone)

-- ---- a window is done, or halved
turned : (xs : List Window) (x : Window) → reverse (xs ++ x ∷ []) ≡ x ∷ reverse xs
turned xs x = reverse-append xs (x ∷ [])

halved_in_place : (features : List (List (List WholePoint))) (members : List Near) (count : ℕ) (core : Core) (xs ys : List Window) (p a b : Window) → AreHalves p a b
    → AreWindows features members count core (xs ++ p ∷ ys) → AreWindows features members count core (xs ++ a ∷ b ∷ ys)
halved_in_place features members count core xs ys p a b halves h =
    let boxes : List Window → List Box = λ ws. map (λ w. box_of w.core) ws in
    record {
      made_up = subst (MakeUp (box_of core)) (sym (map-append (λ (w : Window). box_of w.core) xs (a ∷ b ∷ ys)))
          (cut_made_up (box_of core) (boxes xs) (boxes ys) (box_of p.core) (box_of a.core) (box_of b.core) halves.cut
          (subst (MakeUp (box_of core)) (map-append (λ (w : Window). box_of w.core) xs (p ∷ ys)) h.made_up));
      show = within_cut (ShowsFeatures features members count) xs ys p a b (halves.first_shows count (layer_rings features members)) (halves.second_shows count (layer_rings features members)) h.show;
    }

pub windows_divided : (features : List (List (List WholePoint))) (members : List Near) (count : ℕ) (core : Core) (part : Window) (done left rest done_now left_now : List Window)
    → left ≡ rest ++ part ∷ [] → IsDivided part done rest done_now left_now → AreWindows features members count core (done ++ reverse left)
    → AreWindows features members count core (done_now ++ reverse left_now)
windows_divided features members count core part done left rest done_now left_now e (as_whole f g) h =
    let now : done_now ++ reverse left_now ≡ done ++ reverse left =
    (λ i. f i ++ reverse (g i)) ∙ append_assoc done (part ∷ []) (reverse rest) ∙ ap (λ ws. done ++ ws) (sym (turned rest part) ∙ ap (λ ws. reverse ws) (sym e)) in
    subst (AreWindows features members count core) (sym now) h
windows_divided features members count core part done left rest done_now left_now e (in_halves first second halves f g) h =
    let before : done ++ reverse left ≡ done ++ part ∷ reverse rest = ap (λ ws. done ++ ws) (ap (λ ws. reverse ws) e ∙ turned rest part) in
    let now : done_now ++ reverse left_now ≡ done ++ first ∷ second ∷ reverse rest =
    (λ i. f i ++ reverse (g i)) ∙ ap (λ ws. done ++ ws) (turned (rest ++ second ∷ []) first ∙ ap (λ ws. first ∷ ws) (turned rest second)) in
    subst (AreWindows features members count core) (sym now)
    (halved_in_place features members count core done (reverse rest) part first second halves (subst (AreWindows features members count core) before h))

pub windows_end : (features : List (List (List WholePoint))) (members : List Near) (count : ℕ) (core : Core) (done left : List Window) → length left ≡ 0
    → AreWindows features members count core (done ++ reverse left) → AreWindows features members count core done
windows_end features members count core done [] e h = subst (AreWindows features members count core) (append-nil done) h
windows_end features members count core done (w ∷ left) e h = absurd (omega (arith, e))

-- ---- a list without its last element
pub same_front : (xs ys : List (List (List WholePoint))) (x y : List (List WholePoint)) → xs ++ x ∷ [] ≡ ys ++ y ∷ [] → xs ≡ ys
same_front xs ys x y h =
    let ends : x ∷ reverse xs ≡ y ∷ reverse ys = sym (reverse-append xs (x ∷ [])) ∙ ap (λ zs. reverse zs) h ∙ reverse-append ys (y ∷ []) in
    let fronts : reverse xs ≡ reverse ys = cc in
    sym (reverse-reverse xs) ∙ ap (λ zs. reverse zs) fronts ∙ reverse-reverse ys

pub inner_of : (layers rest : List (List (List WholePoint))) (last : List (List WholePoint)) → layers ≡ rest ++ last ∷ [] → IsInner layers rest
inner_of layers rest last e kept border f = same_front rest kept last border (sym e ∙ f)

pub inner_none : (layers : List (List (List WholePoint))) → length layers ≡ 0 → IsInner layers layers
inner_none layers e kept border f =
    let many : length layers ≡ length (kept ++ border ∷ []) = ap (λ ls. length ls) f in
    let longer : length (kept ++ border ∷ []) ≡ length kept + 1 = length-append kept (border ∷ []) in
    absurd (omega (arith, e, many, longer))
