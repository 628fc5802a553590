-- Ranges of blocks of segments, one block after another.
use Rattle.std.proofs.Common.{◌≡◌, ℕ, ap, sym, ◌∙◌, arith, List, [], ◌∷◌, ◌++◌, subst, ◌+◌, ◌*◌, ◌<◌, ◌≤◌, length, get_or, take, drop, drop-drop, take-add}
use Rattle.std.specs.List.{AllByRecursion}
use Rattle.std.proofs.lemmas.List.{take_all, take_more, take-append-le, drop-append-le, length-take, length-drop}
use Rattle.std.proofs.Math.ListN.{drop_of_length-le}
use Rattle.overlay_terms.specs.Plane.{Segment}
use Rattle.plane_base.specs.Bounds.{Holds, Cover}
use Rattle.plane_base.specs.declared.bounds.Bounds.{Bounds}

-- after the blocks so far, and one more
pub after_next : (segs rest : List Segment) (i : ℕ) → rest ≡ drop (32 * i) segs → drop 32 rest ≡ drop (32 * (i + 1)) segs
after_next segs rest i e = ap (drop 32) e ∙ drop-drop 32 (32 * i) segs ∙ ap (λ n. drop n segs) (omega arith)

pub up_to_next : (segs rest : List Segment) (i : ℕ) → rest ≡ drop (32 * i) segs → take (32 * i) segs ++ take 32 rest ≡ take (32 * (i + 1)) segs
up_to_next segs rest i e =
    ap (λ r. take (32 * i) segs ++ take 32 r) e ∙ sym (take-add (32 * i) 32 segs) ∙ ap (λ n. take n segs) (omega arith)

-- a block more at the end, after whole blocks
cover_more : (bounds : List Bounds) (b : Bounds) (xs ys : List Segment) → length xs ≡ 32 * length bounds → length ys ≤ 32 → Cover bounds xs → AllByRecursion (Holds b) ys → Cover (bounds ++ b ∷ []) (xs ++ ys)
cover_more [] b xs ys whole few e held =
    rw e (rw (take_all 32 ys few) held, drop_of_length-le ys few)
cover_more (a ∷ bounds) b xs ys whole few cover held = (
  rw (take-append-le 32 xs ys (omega (arith, whole))) cover.0,
  rw (drop-append-le 32 xs ys (omega (arith, whole))) (cover_more bounds b (drop 32 xs) ys (omega (arith, whole, length-drop 32 xs)) few cover.1 held),
)

-- the ranges of one block more, and of all
pub cover_next : (bounds : List Bounds) (b : Bounds) (segs rest : List Segment) (i n : ℕ) → i < n → 32 * n < length segs + 32 → length bounds ≡ i → rest ≡ drop (32 * i) segs → Cover bounds (take (32 * i) segs) → AllByRecursion (Holds b) (take 32 rest) → Cover (bounds ++ b ∷ []) (take (32 * (i + 1)) segs)
cover_next bounds b segs rest i n l fits count e cover held =
    subst (Cover (bounds ++ b ∷ [])) (up_to_next segs rest i e)
    (cover_more bounds b (take (32 * i) segs) (take 32 rest) (omega (arith, l, fits, count, length-take (32 * i) segs)) (omega (arith, length-take 32 rest)) cover held)

pub cover_all : (bounds : List Bounds) (segs : List Segment) (i n : ℕ) → n ≤ i → length segs ≤ 32 * n → Cover bounds (take (32 * i) segs) → Cover bounds segs
cover_all bounds segs i n l enough cover = subst (Cover bounds) (take_all (32 * i) segs (omega (arith, l, enough))) cover

-- wider ranges, and one segment more
held_by : (b c : Bounds) → ((s : Segment) → Holds b s → Holds c s) → (xs : List Segment) → AllByRecursion (Holds b) xs → AllByRecursion (Holds c) xs
held_by b c kept [] h = tt
held_by b c kept (x ∷ xs) h = (kept x h.0, held_by b c kept xs h.1)

held_and : (b : Bounds) (xs : List Segment) (x : Segment) → AllByRecursion (Holds b) xs → Holds b x → AllByRecursion (Holds b) (xs ++ x ∷ [])
held_and b [] x h k = (k, tt)
held_and b (y ∷ ys) x h k = (h.0, held_and b ys x h.1 k)

pub held_more : (b c : Bounds) (segs : List Segment) (i : ℕ) (x : Segment) → i < length segs → x ≡ get_or segs i x → ((s : Segment) → Holds b s → Holds c s) → Holds c x → AllByRecursion (Holds b) (take i segs) → AllByRecursion (Holds c) (take (i + 1) segs)
held_more b c segs i x l e kept added h =
    subst (AllByRecursion (Holds c)) (sym (take_more segs i x l ∙ ap (λ y. take i segs ++ y ∷ []) (sym e)))
    (held_and c (take i segs) x (held_by b c kept (take i segs) h) added)
