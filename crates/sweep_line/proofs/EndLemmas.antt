-- Right ends in the order of x, and the pieces that they are kept for.
use Rattle.std.proofs.Common.{◌≡◌, ℕ, ℤ, zero, suc, pos, ◌+◌, ◌-◌, ◌<◌, ◌*ℤ◌, ◌<ℤ◌, ◌≤ℤ◌, Bool, true, false, not, cond, List, [], ◌∷◌, length, filter, take, get_or, refl, ap, sym, subst, ◌∙◌, arith}
use Rattle.std.specs.Prelude.{int_lt, All, count_by}
use Rattle.std.specs.List.{insert, remove}
use Rattle.std.specs.List.Sorted.{IsPartitionedBy, IsPartitionPoint}
use Rattle.std.proofs.lemmas.Int.{ints}
use Rattle.std.proofs.lemmas.List.{length-take-le, get_or_at}
use Rattle.std.proofs.lemmas.List.Edits.{length-remove}
use Rattle.std.proofs.lemmas.List.Sums.{sum_by-cons, sum_by_push, sum_by-remove}
use Rattle.std.proofs.lemmas.List.Filters.{sum_by-filter_both}
use Rattle.overlay_terms.specs.Plane.{Point}
use Rattle.overlay_terms.proofs.InputNumbers.{lt_true, true_lt}
use Rattle.overlay_terms.proofs.Tests.{same_tests}
use Rattle.exact_point.specs.Place.{place}
use Rattle.exact_point.specs.declared.point.HPoint.{HPoint}
use Rattle.exact_point.proofs.ByX.{left_before}
use Rattle.sweep_line.specs.RightEnds.{lies_right, AreLeftmostLast, IsLast}
use Rattle.sweep_line.specs.Status.{goes_on, HasEndsFor, HasLostOne}
use Rattle.sweep_line.specs.declared.status.StatusEntry.{StatusEntry}
use Rattle.sweep_line.proofs.ListLemmas.{pairs_insert}
use Rattle.sweep_line.proofs.Passing.{Order, before, equal, behind, order_of}
use Rattle.arrange.proofs.FoundLemmas.{place_positive}

-- ---- tests
not_less : (a b : ℤ) → int_lt a b ≡ false → b ≤ℤ a
not_less a b h = grind (arith, ints)

-- ---- the order
-- right ends that are not right of a point, from one on
pub right_before : (q : Point) (v u : HPoint) → pos 0 <ℤ q.w → lies_right (place v) u ≡ false → lies_right q u ≡ true → lies_right q v ≡ true
right_before q v u hq order right =
    true_lt (q.x *ℤ (place v).w) ((place v).x *ℤ q.w)
    (left_before q (place u) (place v) hq (place_positive u) (place_positive v)
    (lt_true (q.x *ℤ (place u).w) ((place u).x *ℤ q.w) right)
    (not_less ((place v).x *ℤ (place u).w) ((place u).x *ℤ (place v).w) order))

-- two with one x lie right of the same points
pub one_side : (q : Point) (v u : HPoint) → pos 0 <ℤ q.w → (place v).x *ℤ (place u).w ≡ (place u).x *ℤ (place v).w → lies_right q v ≡ lies_right q u
one_side q v u hq level =
    same_tests (lies_right q v) (lies_right q u)
    (right_before q u v hq (flat (place u).x (place v).w (place v).x (place u).w (sym level)))
    (right_before q v u hq (flat (place v).x (place u).w (place u).x (place v).w level))
  where
    same : (a b : ℤ) → a ≡ b → int_lt a b ≡ false
    same a b e = grind (arith, ints)

    flat : (x w y u : ℤ) → x *ℤ w ≡ y *ℤ u → int_lt (x *ℤ w) (y *ℤ u) ≡ false
    flat x w y u e = same (x *ℤ w) (y *ℤ u) e

-- where the last lies right of a point, all do
pub all_right : (q : Point) (ends : List HPoint) (v : HPoint) → pos 0 <ℤ q.w → AreLeftmostLast ends → IsLast ends v → lies_right q v ≡ true → All (λ u. lies_right q u ≡ true) ends
all_right q ends v hq ordered last right j d l = by (order_of j (length ends - 1)) where
  at_last : get_or ends (length ends - 1) d ≡ v
  at_last = ap (λ us. get_or us (length ends - 1) d) (sym last) ∙ get_or_at (take (length ends - 1) ends) v [] d (length ends - 1) (length-take-le (length ends - 1) ends (omega arith))

  by : Order j (length ends - 1) → lies_right q (get_or ends j d) ≡ true
  by (before m) =
      right_before q (get_or ends j d) v hq (subst (λ u. lies_right (place (get_or ends j d)) u ≡ false) at_last (ordered j (length ends - 1) d m (omega (arith, l)))) right
  by (equal m) = ap (λ n. lies_right q (get_or ends n d)) m ∙ ap (λ u. lies_right q u) at_last ∙ right
  by (behind m) = absurd (omega (arith, l, m))

-- those that lie right of a point come first
pub right_first : (q : Point) (ends : List HPoint) → pos 0 <ℤ q.w → AreLeftmostLast ends → IsPartitionedBy (lies_right q) ends
right_first q ends hq ordered j k d le m right = by (order_of j k) where
  by : Order j k → lies_right q (get_or ends j d) ≡ true
  by (before l) = right_before q (get_or ends j d) (get_or ends k d) hq (ordered j k d l m) right
  by (equal l) = ap (λ n. lies_right q (get_or ends n d)) l ∙ right
  by (behind l) = absurd (omega (arith, le, l))

-- one more, put in after those that lie right of it
pub one_more_end : (ends : List HPoint) (k : ℕ) (v : HPoint) → AreLeftmostLast ends → IsPartitionPoint (λ u. lies_right (place v) u ≡ true) (λ u. lies_right (place v) u ≡ false) ends k → AreLeftmostLast (insert ends k v)
one_more_end ends k v ordered point =
    pairs_insert (λ u t. lies_right (place u) t ≡ false) k v ends ordered
    (λ j d l m. not_right (get_or ends j d) (point.0 j d l m)) point.1
  where
    turned : (a b : ℤ) → int_lt a b ≡ true → int_lt b a ≡ false
    turned a b h = grind (arith, ints)

    not_right : (u : HPoint) → lies_right (place v) u ≡ true → lies_right (place u) v ≡ false
    not_right u right = turned ((place v).x *ℤ (place u).w) ((place u).x *ℤ (place v).w) right

-- ---- the pieces that end
abbrev ended : Point → StatusEntry → ℕ
ended q e = cond (not (goes_on q e)) 1 0

abbrev stays : Point → HPoint → ℕ
stays q v = cond (not (lies_right q v)) 1 0

-- without some pieces
pub fewer_pieces : (p : Point) (entries : List StatusEntry) (ends : List HPoint) → HasEndsFor entries ends → HasEndsFor (filter (goes_on p) entries) ends
fewer_pieces p entries ends have q hq = omega (arith, have q hq, sum_by-filter_both (goes_on p) (λ e. not (goes_on p e)) (λ e. refl) (ended q) entries)

-- a piece less, and the last right end with its x
pub lost : (old new : List StatusEntry) (ends : List HPoint) (v : HPoint) → HasEndsFor old ends → IsLast ends v → HasLostOne (place v) old new → HasEndsFor new (take (length ends - 1) ends)
lost old new ends v have last (k, e, k_in, at, level, is) q hq =
    let rest : List HPoint = take (length ends - 1) ends in
    let one : count_by (λ u. not (lies_right q u)) ends ≡ count_by (λ u. not (lies_right q u)) rest + stays q v =
    ap (λ us. count_by (λ u. not (lies_right q u)) us) (sym last) ∙ sum_by_push (stays q) rest v in
    let two : count_by (λ a. not (goes_on q a)) (remove old k) + ended q (get_or old k e) ≡ count_by (λ a. not (goes_on q a)) old = sum_by-remove (ended q) old k e k_in in
    let same : ended q (get_or old k e) ≡ stays q v = ap (ended q) at ∙ ap (λ b. cond (not b) 1 0) (one_side q e.to v hq level) in
    let three : count_by (λ a. not (goes_on q a)) new ≡ count_by (λ a. not (goes_on q a)) (remove old k) = ap (λ es. count_by (λ a. not (goes_on q a)) es) is in
    omega (arith, have q hq, one, two, same, three)

-- ---- what goes on
module _ {X : Type 0} (p : X → Bool) where
  none_counted : (xs : List X) → All (λ x. p x ≡ true) xs → count_by (λ x. not (p x)) xs ≡ 0
  none_counted [] all = refl
  none_counted (x ∷ xs) all =
      sum_by-cons (λ y. cond (not (p y)) 1 0) x xs
      ∙ ap (λ b. cond (not b) 1 0 + count_by (λ y. not (p y)) xs) (all 0 x (omega arith))
      ∙ none (count_by (λ y. not (p y)) xs) (none_counted xs (λ j d l. all (suc j) d (omega (arith, l))))
    where
      none : (n : ℕ) → n ≡ 0 → 0 + n ≡ 0
      none n h = omega (arith, h)

  kept_whole : (xs : List X) → count_by (λ x. not (p x)) xs ≡ 0 → filter p xs ≡ xs
  kept_whole [] none = refl
  kept_whole (x ∷ xs) none = by (p x) (count_by (λ y. not (p y)) xs) refl (sym (sum_by-cons (λ y. cond (not (p y)) 1 0) x xs) ∙ none) (kept_whole xs) where
    by : (b : Bool) (n : ℕ) → p x ≡ b → cond (not (p x)) 1 0 + n ≡ 0 → (n ≡ 0 → filter p xs ≡ xs) → filter p (x ∷ xs) ≡ x ∷ xs
    by true n e h rest = ap (λ b. cond b (x ∷ filter p xs) (filter p xs)) e ∙ ap (λ ys. x ∷ ys) (rest (zeros n (ap (λ b. cond (not b) 1 0 + n) (sym e) ∙ h)))
      where
        zeros : (n : ℕ) → 0 + n ≡ 0 → n ≡ 0
        zeros n h = omega (arith, h)
    by false n e h rest = absurd (more n (ap (λ b. cond (not b) 1 0 + n) (sym e) ∙ h))
      where
        more : (n : ℕ) → 1 + n ≡ 0 → ⊥
        more n h = omega (arith, h)

  filter_without : (xs : List X) (k : ℕ) (x : X) → k < length xs → get_or xs k x ≡ x → p x ≡ false → filter p (remove xs k) ≡ filter p xs
  filter_without [] k x l at out = absurd (omega (arith, l))
  filter_without (y ∷ ys) zero x l at out = sym (ap (λ b. cond b (y ∷ filter p ys) (filter p ys)) (ap p at ∙ out))
  filter_without (y ∷ ys) (suc k) x l at out = ap (λ zs. cond (p y) (y ∷ zs) zs) (filter_without ys k x (omega (arith, l)) at out)

-- where all right ends lie right of a point, all pieces go on
pub all_go_on : (q : Point) (entries : List StatusEntry) (ends : List HPoint) → pos 0 <ℤ q.w → HasEndsFor entries ends → All (λ v. lies_right q v ≡ true) ends → filter (goes_on q) entries ≡ entries
all_go_on q entries ends hq have all = kept_whole (goes_on q) entries (omega (arith, have q hq, none_counted (lies_right q) ends all))

-- the piece that is taken out did not go on
pub lost_goes : (q : Point) (v : HPoint) (old new : List StatusEntry) → pos 0 <ℤ q.w → lies_right q v ≡ false → HasLostOne (place v) old new → filter (goes_on q) new ≡ filter (goes_on q) old
lost_goes q v old new hq out (k, e, k_in, at, level, is) =
    ap (filter (goes_on q)) is ∙ filter_without (goes_on q) old k e k_in at (one_side q e.to v hq level ∙ out)

-- and there is one less
pub lost_shorter : (q : Point) (old new : List StatusEntry) → HasLostOne q old new → length new < length old
lost_shorter q old new (k, e, k_in, at, level, is) = omega (arith, ap length is, length-remove old k k_in)
