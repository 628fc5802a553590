-- How many rows end before the last node passed: at a step, all rows made before it.
use Rattle.std.proofs.Common.{◌≡◌, ℕ, ◌+◌, ◌<◌, nat_lt, true, false, cond, List, [], ◌∷◌, ◌++◌, length, map, refl, ap, ◌∙◌, arith}
use Rattle.std.specs.Prelude.{All, filter}
use Rattle.std.proofs.lemmas.Bool.Decides.{nat_tests}
use Rattle.std.proofs.lemmas.List.{length-map}
use Rattle.std.proofs.lemmas.List.Elements.{All-head, All-tail}
use Rattle.std.proofs.lemmas.List.Sorted.{sum_by-IsPermutation}
use Rattle.std.proofs.lemmas.List.Sums.{sum_by-cons, sum_by-append}
use Rattle.overlay_terms.specs.Plane.{Point}
use Rattle.exact_point.specs.PlaceOf.{place_of}
use Rattle.exact_point.specs.declared.point_name.PointName.{PointName}
use Rattle.crossing_sweep.specs.StripInput.{StripInput}
use Rattle.crossing_sweep.specs.Rows.{count_settled, row_to, rows_of, AreRows, AreSorted}
use Rattle.crossing_sweep.specs.declared.member.Member.{Member}
use Rattle.crossing_sweep.specs.declared.row.Row.{Row}

-- a row that ends before the last of so many nodes counts
abbrev one_for : ℕ → Row → ℕ
one_for nodes row = cond (nat_lt (row.last + 1) nodes) 1 0

all_settled : (n : ℕ) (rows : List Row) → All (λ row. row.last < n) rows → count_settled (n + 1) rows ≡ length rows
all_settled n [] h = refl
all_settled n (r ∷ rs) h =
    let here : nat_lt (r.last + 1) (n + 1) ≡ true = let l = All-head (λ (row : Row). row.last < n) r rs h in grind (arith, nat_tests) in
    let one : one_for (n + 1) r ≡ 1 = ap (λ b. cond b 1 0) here in
    omega (arith, sum_by-cons (one_for (n + 1)) r rs, one, all_settled n rs (All-tail (λ (row : Row). row.last < n) r rs h))

none_settled : (n : ℕ) (ms : List Member) → count_settled (n + 1) (map (row_to n) ms) ≡ 0
none_settled n [] = refl
none_settled n (m ∷ ms) =
    let here : nat_lt (n + 1) (n + 1) ≡ false = grind (arith, nat_tests) in
    let none : one_for (n + 1) (row_to n m) ≡ 0 = ap (λ b. cond b 1 0) here in
    omega (arith, sum_by-cons (one_for (n + 1)) (row_to n m) (map (row_to n) ms), none, none_settled n ms)

-- after a step the rows made before it have settled, and no others
pub settled_after : (input : StripInput) (q : Point) (names : List PointName) (rows more_rows : List Row) (bundle : List Member) (begin : ℕ) → AreRows input (map place_of names) q rows → begin ≡ length names → more_rows ≡ rows ++ rows_of begin bundle
    → count_settled (length names + 1) more_rows ≡ length rows
settled_after input q names rows more_rows bundle begin are numbered closed =
    let n : ℕ = length names in
    let before : All (λ (row : Row). row.last < n) rows = λ i d l. let known = (are.sound i d l).to_known in omega (arith, known, length-map names place_of) in
    let old : count_settled (n + 1) rows ≡ length rows = all_settled n rows before in
    let new : count_settled (n + 1) (rows_of n bundle) ≡ 0 = none_settled n (filter (λ m. m.differs) bundle) in
    let parts : count_settled (n + 1) (rows ++ rows_of n bundle) ≡ count_settled (n + 1) rows + count_settled (n + 1) (rows_of n bundle) = sum_by-append (one_for (n + 1)) rows (rows_of n bundle) in
    let all : count_settled (n + 1) (rows ++ rows_of n bundle) ≡ length rows = omega (arith, parts, old, new) in
    ap (count_settled (n + 1)) (closed ∙ ap (λ k. rows ++ rows_of k bundle) numbered) ∙ all

-- sorted, as many have settled
pub settled_sorted : (nodes : ℕ) (rows sorted : List Row) → AreSorted rows sorted → count_settled nodes sorted ≡ count_settled nodes rows
settled_sorted nodes rows sorted are = sum_by-IsPermutation (one_for nodes) rows sorted are.moved
