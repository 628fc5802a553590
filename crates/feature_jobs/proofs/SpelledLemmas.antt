-- What is known of a block that some bytes spell.
use Rattle.std.proofs.Common.{◌≡◌, ℕ, zero, suc, ◌+◌, ℤ, pos, ◌≤ℤ◌, List, [], ◌∷◌, Result, Ok, Err, refl, ap, sym, ◌∙◌, subst, true, false, Bool, ◌&&◌, length, take, drop, ◌==◌, if◌then◌else◌}
use Rattle.std.specs.Prelude.{All, int_le, neg_ℤ, not, sum_by}
use Rattle.std.proofs.lemmas.Bool.{and_parts}
use Rattle.std.proofs.lemmas.List.Elements.{All-nil, All-cons, All-take, All-drop}
use Rattle.overlay_terms.specs.Within.{IsWithin}
use Rattle.overlay_terms.specs.Plane.{WholePoint, Point}
use Rattle.overlay_terms.proofs.InputNumbers.{le_true}
use Rattle.block_reading.specs.declared.fault.BlockFault.{BlockFault}
use Rattle.block_reading.specs.declared.fault.BlockFault.TheVariants.{Cut, JobCut, OutOfRange, BadFraction, JobsTooLong, OtherRings, OtherPoints, Absent}
use Rattle.block_reading.specs.declared.head.Head.{Head}
use Rattle.block_reading.specs.declared.job.Job.{Job}
use Rattle.block_reading.specs.declared.job.Job.TheVariants.{Pair, Cells, Locate}
use Rattle.block_reading.specs.Terms.{Shapes}
use Rattle.block_reading.specs.Reading.{◌>>!◌, Reading, signed, many}
use Rattle.block_reading.specs.Jobs.{far_max, is_near, is_near_fraction, is_fraction, word, point, fraction, counted, job}
use Rattle.block_reading.specs.Block.{Block, head, shapes, count, dealt, features_of, shapes_held, jobs, jobs_known, first_unknown, tail, block_of}
use Rattle.feature_spots.specs.Spots.{IsNear}
use Rattle.feature_jobs.specs.Rows.{AreNear, ArePositive}

-- ---- a value after another: both were there
pub bound : {A B : Type 0} (r : Result A BlockFault) (f : A → Result B BlockFault) (y : B) → (r >>! f) ≡ Ok y → (x : A) × (r ≡ Ok x) × (f x ≡ Ok y)
bound (Ok x) f y e = (x, refl, e)
bound (Err fault) f y e = cc

abbrev value_or : {A : Type 0} → A → Result A BlockFault → A
value_or a (Ok x) = x
value_or a (Err fault) = a

pub one_value : {A : Type 0} (x y : A) → (the : Result A BlockFault) → the ≡ Ok x → the ≡ Ok y → x ≡ y
one_value x y the e f = ap (value_or x) (sym e ∙ f)

pub if_ok : {A : Type 0} (b : Bool) (v w : A) (fault : BlockFault) → (if b then Ok v else Err fault) ≡ Ok w → (b ≡ true) × (v ≡ w)
if_ok true v w fault e = (refl, one_value v w (Ok v) refl e)
if_ok false v w fault e = cc

pub if_err : {A : Type 0} (b : Bool) (v w : A) (fault : BlockFault) → (if b then Err fault else Ok v) ≡ Ok w → v ≡ w
if_err true v w fault e = cc
if_err false v w fault e = one_value v w (Ok v) refl e

-- ---- what holds of each value that is read
pub many_all : {A : Type 0} (P : A → Type 0) (read : ℕ → Reading A)
    → ((at : ℕ) (bytes : List ℕ) (x : A) (rest : List ℕ) → read at bytes ≡ Ok (x, rest) → P x)
    → (at n : ℕ) (bytes : List ℕ) (xs : List A) (rest : List ℕ) → many read at n bytes ≡ Ok (xs, rest) → All P xs
many_all {A} P read each at zero bytes xs rest e = subst (λ (v : List A × List ℕ). All P v.0) (one_value ([], bytes) (xs, rest) (many read at zero bytes) refl e) (All-nil P)
many_all {A} P read each at (suc n) bytes xs rest e =
    let a = bound (read at bytes) (λ a. many read (at + 1) n a.1 >>! λ b. Ok (a.0 ∷ b.0, b.1)) (xs, rest) e in
    let b = bound (many read (at + 1) n a.0.1) (λ b. Ok (a.0.0 ∷ b.0, b.1)) (xs, rest) a.2 in
    subst (λ (v : List A × List ℕ). All P v.0) (one_value (a.0.0 ∷ b.0.0, b.0.1) (xs, rest) (Ok (a.0.0 ∷ b.0.0, b.0.1)) refl b.2)
    (All-cons P a.0.0 b.0.0 (each at bytes a.0.0 a.0.1 a.1) (many_all P read each (at + 1) n a.0.1 b.0.0 b.0.1 b.1))

near_within : (z : ℤ) → is_near z ≡ true → IsWithin far_max z
near_within z e =
    let both = and_parts (int_le (neg_ℤ (pos far_max)) z) (int_le z (pos far_max)) e in
    record { low = le_true (neg_ℤ (pos far_max)) z both.0; high = le_true z (pos far_max) both.1 }

point_near : (at : ℕ) (bytes : List ℕ) (p : WholePoint) (rest : List ℕ) → point at bytes ≡ Ok (p, rest) → IsNear p
point_near at bytes p rest e =
    let x = bound (signed Cut bytes) (λ x. signed Cut x.1 >>! λ y. if is_near x.0 && is_near y.0 then Ok (record { x = x.0; y = y.0 }, y.1) else Err (OutOfRange at)) (p, rest) e in
    let y = bound (signed Cut x.0.1) (λ y. if is_near x.0.0 && is_near y.0 then Ok (record { x = x.0.0; y = y.0 }, y.1) else Err (OutOfRange at)) (p, rest) x.2 in
    let held = if_ok (is_near x.0.0 && is_near y.0.0) (record { x = x.0.0; y = y.0.0 }, y.0.1) (p, rest) (OutOfRange at) y.2 in
    let both = and_parts (is_near x.0.0) (is_near y.0.0) held.0 in
    subst (λ (v : WholePoint × List ℕ). IsNear v.0) held.1 (record { across = near_within x.0.0 both.0; along = near_within y.0.0 both.1 })

fraction_positive : (at : ℕ) (bytes : List ℕ) (p : Point) (rest : List ℕ) → fraction at bytes ≡ Ok (p, rest) → pos 1 ≤ℤ p.w
fraction_positive at bytes p rest e =
    let x = bound (signed (JobCut at) bytes) (λ x. signed (JobCut at) x.1 >>! λ y. signed (JobCut at) y.1 >>! λ w. if is_fraction x.0 y.0 w.0 then Ok (record { x = x.0; y = y.0; w = w.0 }, w.1) else Err (BadFraction at)) (p, rest) e in
    let y = bound (signed (JobCut at) x.0.1) (λ y. signed (JobCut at) y.1 >>! λ w. if is_fraction x.0.0 y.0 w.0 then Ok (record { x = x.0.0; y = y.0; w = w.0 }, w.1) else Err (BadFraction at)) (p, rest) x.2 in
    let w = bound (signed (JobCut at) y.0.1) (λ w. if is_fraction x.0.0 y.0.0 w.0 then Ok (record { x = x.0.0; y = y.0.0; w = w.0 }, w.1) else Err (BadFraction at)) (p, rest) y.2 in
    let held = if_ok (is_fraction x.0.0 y.0.0 w.0.0) (record { x = x.0.0; y = y.0.0; w = w.0.0 }, w.0.1) (p, rest) (BadFraction at) w.2 in
    let both = and_parts (int_le (pos 1) w.0.0) (is_near_fraction x.0.0 w.0.0 && is_near_fraction y.0.0 w.0.0) held.0 in
    subst (λ (v : Point × List ℕ). pos 1 ≤ℤ v.0.w) held.1 (le_true (pos 1) w.0.0 both.0)

-- ---- a job of points
abbrev pub IsOfPoints : Job → Type 0
IsOfPoints (Locate f points) = ArePositive points
IsOfPoints (Pair a b) = ⊥
IsOfPoints (Cells core members) = ⊥

job_of_points : (at : ℕ) (bytes : List ℕ) (j : Job) (rest : List ℕ) → job 2 at bytes ≡ Ok (j, rest) → IsOfPoints j
job_of_points at bytes j rest e =
    let f = bound (word at bytes) (λ f. counted fraction at f.1 >>! λ ps. Ok (Locate f.0 ps.0, ps.1)) (j, rest) e in
    let ps = bound (counted fraction at f.0.1) (λ ps. Ok (Locate f.0.0 ps.0, ps.1)) (j, rest) f.2 in
    let n = bound (word at f.0.1) (λ n. many (λ _. fraction at) 0 n.0 n.1) ps.0 ps.1 in
    let all = many_all (λ (p : Point). pos 1 ≤ℤ p.w) (λ _. fraction at) (λ _ bs x r h. fraction_positive at bs x r h) 0 n.0.0 n.0.1 ps.0.0 ps.0.1 n.2 in
    subst (λ (v : Job × List ℕ). IsOfPoints v.0) (one_value (Locate f.0.0 ps.0.0, ps.0.1) (j, rest) (Ok (Locate f.0.0 ps.0.0, ps.0.1)) refl ps.2) all

-- ---- the whole block
dealt_all : {A : Type 0} (P : A → Type 0) (counts : List ℕ) (xs : List A) → All P xs → All (All P) (dealt counts xs)
dealt_all P [] xs h = All-nil (All P)
dealt_all P (n ∷ ns) xs h = All-cons (All P) (take n xs) (dealt ns (drop n xs)) (All-take P n xs h) (dealt_all P ns (drop n xs) (All-drop P n xs h))

shapes_near : (h : Head) (bytes : List ℕ) (s : Shapes) (rest : List ℕ) → shapes h bytes ≡ Ok (s, rest) → All IsNear s.points
shapes_near h bytes s rest e =
    let rings = bound (many count 0 h.features bytes) (λ rings. many count 0 h.rings rings.1 >>! λ sizes. many point 0 h.points sizes.1 >>! λ points. Ok (record { ring_counts = rings.0; point_counts = sizes.0; points = points.0 }, points.1)) (s, rest) e in
    let sizes = bound (many count 0 h.rings rings.0.1) (λ sizes. many point 0 h.points sizes.1 >>! λ points. Ok (record { ring_counts = rings.0.0; point_counts = sizes.0; points = points.0 }, points.1)) (s, rest) rings.2 in
    let points = bound (many point 0 h.points sizes.0.1) (λ points. Ok (record { ring_counts = rings.0.0; point_counts = sizes.0.0; points = points.0 }, points.1)) (s, rest) sizes.2 in
    let all = many_all IsNear point point_near 0 h.points sizes.0.1 points.0.0 points.0.1 points.1 in
    let made : Shapes × List ℕ = (record { ring_counts = rings.0.0; point_counts = sizes.0.0; points = points.0.0 }, points.0.1) in
    subst (λ (v : Shapes × List ℕ). All IsNear v.0.points) (one_value made (s, rest) (Ok made) refl points.2) all

features_near : (s : Shapes) → All IsNear s.points → AreNear (features_of s)
features_near s h = dealt_all (All IsNear) s.ring_counts (dealt s.point_counts s.points) (dealt_all IsNear s.point_counts s.points h)

two_tests : (x y : Bool) (b c : BlockFault) (s t : Shapes) → (if x then Err b else if y then Err c else Ok s) ≡ Ok t → s ≡ t
two_tests true y b c s t e = cc
two_tests false y b c s t e = if_err y s t c e

held_same : (h : Head) (s t : Shapes) → shapes_held h s ≡ Ok t → s ≡ t
held_same h s t e =
    two_tests (not (sum_by (λ n. n) s.ring_counts == h.rings)) (not (sum_by (λ n. n) s.point_counts == h.points)) OtherRings OtherPoints s t e

jobs_of_points : (h : Head) (bytes : List ℕ) (js : List Job) → h.kind ≡ 2 → jobs h bytes ≡ Ok js → All IsOfPoints js
jobs_of_points h bytes js is e =
    let read = bound (many (job h.kind) 0 h.jobs bytes) (λ r. if length r.1 == 0 then Ok r.0 else Err JobsTooLong) js e in
    let held = if_ok (length read.0.1 == 0) read.0.0 js JobsTooLong read.2 in
    subst (All IsOfPoints) held.1
    (many_all IsOfPoints (job 2) job_of_points 0 h.jobs bytes read.0.0 read.0.1 (subst (λ (k : ℕ). many (job k) 0 h.jobs bytes ≡ Ok read.0) is read.1))

known_same : (h : Head) (js ks : List Job) → jobs_known h js ≡ Ok ks → js ≡ ks
known_same h js ks e = (if_ok (first_unknown h 0 js == length js) js ks (Absent (first_unknown h 0 js)) e).1

-- a block that bytes spell has its points within 2^41, and jobs of points where it is of their kind
pub record IsHeld (b : Block) : Type 0 where
  pub near : AreNear (features_of b.shapes)
  pub points : b.head.kind ≡ 2 → All IsOfPoints b.jobs

pub spelled : (bytes : List ℕ) (b : Block) → block_of bytes ≡ Ok b → IsHeld b
spelled bytes b e =
    let h = bound (head bytes) (λ h. shapes h.0 h.1 >>! λ s. tail h.0 s.1 >>! λ t. shapes_held h.0 s.0 >>! λ held. jobs h.0 t.0 >>! λ js. jobs_known h.0 js >>! λ known. Ok (record { head = h.0; shapes = held; jobs = known; expression = t.1 })) b e in
    let s = bound (shapes h.0.0 h.0.1) (λ s. tail h.0.0 s.1 >>! λ t. shapes_held h.0.0 s.0 >>! λ held. jobs h.0.0 t.0 >>! λ js. jobs_known h.0.0 js >>! λ known. Ok (record { head = h.0.0; shapes = held; jobs = known; expression = t.1 })) b h.2 in
    let t = bound (tail h.0.0 s.0.1) (λ t. shapes_held h.0.0 s.0.0 >>! λ held. jobs h.0.0 t.0 >>! λ js. jobs_known h.0.0 js >>! λ known. Ok (record { head = h.0.0; shapes = held; jobs = known; expression = t.1 })) b s.2 in
    let held = bound (shapes_held h.0.0 s.0.0) (λ held. jobs h.0.0 t.0.0 >>! λ js. jobs_known h.0.0 js >>! λ known. Ok (record { head = h.0.0; shapes = held; jobs = known; expression = t.0.1 })) b t.2 in
    let js = bound (jobs h.0.0 t.0.0) (λ js. jobs_known h.0.0 js >>! λ known. Ok (record { head = h.0.0; shapes = held.0; jobs = known; expression = t.0.1 })) b held.2 in
    let known = bound (jobs_known h.0.0 js.0) (λ known. Ok (record { head = h.0.0; shapes = held.0; jobs = known; expression = t.0.1 })) b js.2 in
    let made : Block = record { head = h.0.0; shapes = held.0; jobs = known.0; expression = t.0.1 } in
    let near : All IsNear held.0.points = subst (λ (v : Shapes). All IsNear v.points) (held_same h.0.0 s.0.0 held.0 held.1) (shapes_near h.0.0 h.0.1 s.0.0 s.0.1 s.1) in
    let of_points : h.0.0.kind ≡ 2 → All IsOfPoints known.0 = λ is. subst (All IsOfPoints) (known_same h.0.0 js.0 known.0 known.1) (jobs_of_points h.0.0 t.0.0 js.0 is js.1) in
    subst IsHeld (one_value made b (Ok made) refl known.2) (record { near = features_near held.0 near; points = of_points })
