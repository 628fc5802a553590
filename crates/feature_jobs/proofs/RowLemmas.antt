-- The rows of a block of points.
use Rattle.std.proofs.Common.{◌≡◌, ℕ, List, [], ◌∷◌, ◌++◌, refl, ◌∙◌, true, false, Bool, ◌&&◌, ◌==◌, ◌%◌, nat_lt, Result, Ok, Err}
use Rattle.std.specs.Prelude.{All, flat_map, IfOk, IsErr}
use Rattle.std.specs.List.{AllZip, concat}
use Rattle.std.proofs.lemmas.List.Elements.{All-head, All-tail}
use Rattle.overlay_terms.specs.Plane.{WholePoint}
use Rattle.overlay_terms.specs.Trees.{Steps}
use Rattle.block_reading.specs.Block.{Block, features_of}
use Rattle.block_reading.specs.declared.job.Job.{Job}
use Rattle.block_reading.specs.declared.job.Job.TheVariants.{Pair, Cells, Locate}
use Rattle.feature_jobs.specs.Reply.{Reply}
use Rattle.feature_jobs.specs.Rows.{rows_of, AreNear}
use Rattle.feature_jobs.specs.Answers.{IsSpelled, IsRow, IsAnswered, has_rings, points_reply}
use Rattle.feature_jobs.proofs.SpelledLemmas.{IsOfPoints, spelled}

row_is : (features : List (List (List WholePoint))) (asked : Steps) (job : Job) (row : List ℕ) → AreNear features → IsOfPoints job → IsRow features asked job row → row ≡ rows_of features job
row_is features asked (Locate f points) row near positive is = is near positive
row_is features asked (Pair a b) row near none is = absurd none
row_is features asked (Cells core members) row near none is = absurd none

rows_are : (features : List (List (List WholePoint))) (asked : Steps) (jobs : List Job) (rows : List (List ℕ)) → AreNear features → All IsOfPoints jobs → AllZip (IsRow features asked) jobs rows
    → concat rows ≡ flat_map (rows_of features) jobs
rows_are features asked [] [] near of zip = refl
rows_are features asked [] (row ∷ rows) near of zip = absurd zip
rows_are features asked (job ∷ jobs) [] near of zip = absurd zip
rows_are features asked (job ∷ jobs) (row ∷ rows) near of zip =
    λ i. row_is features asked job row near (All-head IsOfPoints job jobs of) zip.0 i ++ rows_are features asked jobs rows near (All-tail IsOfPoints job jobs of) zip.1 i

-- rows that answer jobs where something holds
pub given : (features : List (List (List WholePoint))) (asked : Steps) (G : Type 0) → G → (jobs : List Job) (rows : List (List ℕ))
    → AllZip (λ job row. G → IsRow features asked job row) jobs rows → AllZip (IsRow features asked) jobs rows
given features asked G holds [] [] zip = tt
given features asked G holds [] (row ∷ rows) zip = absurd zip
given features asked G holds (job ∷ jobs) [] zip = absurd zip
given features asked G holds (job ∷ jobs) (row ∷ rows) zip = (zip.0 holds, given features asked G holds jobs rows zip.1)

no_second : (x y : Bool) → y ≡ false → (x && y) ≡ false
no_second true y e = e
no_second false y e = refl

no_rings : (b : Block) → b.head.kind ≡ 2 → has_rings b.head ≡ false
no_rings b is = no_second (b.head.flags % 2 == 1) (nat_lt b.head.kind 2) (λ i. nat_lt (is i) 2)

pub points_are : (b : Block) (r : Reply) → IsAnswered b r → IsSpelled b → b.head.kind ≡ 2 → r ≡ points_reply b
points_are b r a s is =
    let held = spelled s.0 b s.1 in
    let none = no_rings b is in
    let own = a.rows none in
    let all = own.rows in
    let rows = all.2 ∙ rows_are (features_of b.shapes) own.asked b.jobs all.0 held.near (held.points is) all.1 in
    λ i. record { kind = a.kind i; flags = a.flags i; fault = a.fault i; job = a.job i; rows = rows i; rings = a.no_rings none i; corners = a.no_corners none i }

-- what holds of a value, if there is one
pub of_ok : {A E : Type 0} {P Q : A → Type 0} (r : Result A E) → ((x : A) → P x → Q x) → IfOk r P → IfOk r Q
of_ok (Ok x) f h = f x h
of_ok (Err fault) f h = tt

never : {A : Type 0} → false ≡ true → A
never e = cc

-- there is none to a block of points that would be refused
pub no_reply : {E : Type 0} (b : Block) (r : Result Reply E) → (b.head.kind ≡ 2 → IsErr r) → IfOk r (λ reply. IsSpelled b → b.head.kind ≡ 2 → reply ≡ points_reply b)
no_reply b (Ok reply) none = λ s is. never (none is)
no_reply b (Err fault) none = tt
