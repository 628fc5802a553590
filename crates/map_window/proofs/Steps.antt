-- Steps and lines on one side of a point: each point of a line says the same of it, and all but the ends may be left out.
use Rattle.std.proofs.Common.{◌≡◌, ℕ, ℤ, pos, ◌+◌, ◌*ℤ◌, ◌<ℤ◌, refl, ap, sym, ◌∙◌, arith, true, false, Bool, not, List, [], ◌∷◌, ◌++◌, ◌%◌, ◌==◌, ◌||◌, count_by, if◌then◌else◌, append_assoc}
use Rattle.std.specs.List.{cons_option}
use Rattle.std.specs.Prelude.{int_le, Option, Some, None, All}
use Rattle.std.specs.Cmp.{int_ranked}
use Rattle.std.specs.Ordering.{int_cmp, ordering_reverse}
use Rattle.std.specs.declared.cmp.Ordering.{Ordering}
use Rattle.std.specs.declared.cmp.Ordering.TheVariants.{Less, Equal, Greater}
use Rattle.std.proofs.lemmas.List.Elements.{All-head, All-tail}
use Rattle.std.proofs.lemmas.List.Folds.{list_any-append}
use Rattle.overlay_terms.specs.Plane.{WholePoint, Point, Segment, is_below, is_on, is_inside, whole_cmp, segment_between, ring_segments}
use Rattle.overlay_terms.specs.Laws.{is_on_any}
use Rattle.overlay_terms.proofs.ClosedRings.{bit, count-cons, count-append}
use Rattle.overlay_terms.proofs.InputNumbers.{left_most}
use Rattle.overlay_terms.proofs.PointOrder.{both_equal, whole_cmp_total}
use Rattle.map_window.specs.Window.{Side, left_of, right_of, under, over, AreAlike}
use Rattle.map_window.proofs.Sides.{differ, differ_self, differ_turned, Aside, mark, Looks, looks}

-- the segment of a step, if it has one
abbrev pub step : WholePoint → WholePoint → List Segment
step a b = cons_option (segment_between (a, b)) []

cons_option-append : (o : Option Segment) (xs : List Segment) → cons_option o xs ≡ cons_option o [] ++ xs
cons_option-append None xs = refl
cons_option-append (Some x) xs = refl

-- a line begins with its first step
pub ring_segments-cons : (a b : WholePoint) (rest : List WholePoint) → ring_segments (a ∷ b ∷ rest) ≡ step a b ++ ring_segments (b ∷ rest)
ring_segments-cons a b rest = cons_option-append (segment_between (a, b)) (ring_segments (b ∷ rest))

-- a line parted at one of its points
pub parted : (xs : List WholePoint) (a : WholePoint) (rest : List WholePoint) → ring_segments (xs ++ a ∷ rest) ≡ ring_segments (xs ++ a ∷ []) ++ ring_segments (a ∷ rest)
parted [] a rest = refl
parted (x ∷ []) a rest = cons_option-append (segment_between (x, a)) (ring_segments (a ∷ rest))
parted (x ∷ y ∷ xs) a rest =
    cons_option-append (segment_between (x, y)) _
    ∙ ap (λ ss. step x y ++ ss) (parted (y ∷ xs) a rest)
    ∙ sym (append_assoc (step x y) (ring_segments (y ∷ xs ++ a ∷ [])) (ring_segments (a ∷ rest)))
    ∙ ap (λ ss. ss ++ ring_segments (a ∷ rest)) (sym (cons_option-append (segment_between (x, y)) _))

-- ---- two lists of segments together
parity : (a b : ℕ) (o t : Bool) → o ≡ (a % 2 == 1) → t ≡ (b % 2 == 1) → (if t then not o else o) ≡ ((a + b) % 2 == 1)
parity a b o t e f = grind (arith)

as_differ : (o t : Bool) → (if t then not o else o) ≡ differ o t
as_differ true true = refl
as_differ true false = refl
as_differ false true = refl
as_differ false false = refl

pub inside-append : (xs ys : List Segment) (q : Point) → is_inside (xs ++ ys) q ≡ differ (is_inside xs q) (is_inside ys q)
inside-append xs ys q =
    ap (λ n. n % 2 == 1) (count-append (λ s. is_below s q) xs ys)
    ∙ sym (parity (count_by (λ s. is_below s q) xs) (count_by (λ s. is_below s q) ys) (is_inside xs q) (is_inside ys q) refl refl)
    ∙ as_differ (is_inside xs q) (is_inside ys q)

pub edge-append : (xs ys : List Segment) (q : Point) → is_on_any (xs ++ ys) q ≡ (is_on_any xs q || is_on_any ys q)
edge-append xs ys q = list_any-append (λ s. is_on s q) xs ys

-- ---- looking alike
-- of segments nothing is seen from a point
abbrev pub SeesNothing : List Segment → Point → Type 0
SeesNothing xs p = AreAlike xs p [] p

pub alike_self : (xs : List Segment) (q : Point) → AreAlike xs q xs q
alike_self xs q = record { inside = refl; edge = refl }

pub alike_same : (xs ys : List Segment) (q : Point) → xs ≡ ys → AreAlike xs q ys q
alike_same xs ys q e = record { inside = ap (λ z. is_inside z q) e; edge = ap (λ z. is_on_any z q) e }

pub alike_through : (xs ys zs : List Segment) (p q r : Point) → AreAlike xs p ys q → AreAlike ys q zs r → AreAlike xs p zs r
alike_through xs ys zs p q r h k = record { inside = h.inside ∙ k.inside; edge = h.edge ∙ k.edge }

pub alike-append : (xs ys us vs : List Segment) (p q : Point) → AreAlike xs p ys q → AreAlike us p vs q → AreAlike (xs ++ us) p (ys ++ vs) q
alike-append xs ys us vs p q h k = record {
  inside = inside-append xs us p ∙ ap (λ b. differ b (is_inside us p)) h.inside ∙ ap (λ b. differ (is_inside ys q) b) k.inside ∙ sym (inside-append ys vs q);
  edge = edge-append xs us p ∙ ap (λ b. b || is_on_any us p) h.edge ∙ ap (λ b. is_on_any ys q || b) k.edge ∙ sym (edge-append ys vs q);
}

pub nothing-append : (xs ys : List Segment) (q : Point) → SeesNothing xs q → SeesNothing ys q → SeesNothing (xs ++ ys) q
nothing-append xs ys q h k = record {
  inside = inside-append xs ys q ∙ ap (λ b. differ b (is_inside ys q)) h.inside ∙ k.inside;
  edge = edge-append xs ys q ∙ ap (λ b. b || is_on_any ys q) h.edge ∙ k.edge;
}

pub nothing_alike : (xs ys : List Segment) (p q : Point) → AreAlike xs p ys q → SeesNothing ys q → SeesNothing xs p
nothing_alike xs ys p q h k = record { inside = h.inside ∙ k.inside; edge = h.edge ∙ k.edge }

-- ---- steps on one side
-- what a line on a side looks like, by its ends
pub record Seen (side : Side) (q : Point) (a b : WholePoint) (segments : List Segment) : Type 0 where
  pub inside : is_inside segments q ≡ differ (mark side q a) (mark side q b)
  pub edge : is_on_any segments q ≡ false

one_odd : (b : Bool) → ((bit b + 0) % 2 == 1) ≡ b
one_odd true = refl
one_odd false = refl

pub one_inside : (s : Segment) (q : Point) → is_inside (s ∷ []) q ≡ is_below s q
one_inside s q = ap (λ n. n % 2 == 1) (count-cons (λ t. is_below t q) s []) ∙ one_odd (is_below s q)

one_edge : (s : Segment) (q : Point) → is_on s q ≡ false → is_on_any (s ∷ []) q ≡ false
one_edge s q e = rw e refl

mark_same : (side : Side) (q : Point) (a b : WholePoint) → a.x ≡ b.x → mark side q a ≡ mark side q b
mark_same left_of q a b e = refl
mark_same right_of q a b e = refl
mark_same under q a b e = ap (λ z. int_le (z *ℤ q.w) q.x) e
mark_same over q a b e = refl

through : (a b c : Bool) → differ (differ a b) (differ b c) ≡ differ a c
through true true true = refl
through true true false = refl
through true false true = refl
through true false false = refl
through false true true = refl
through false true false = refl
through false false true = refl
through false false false = refl

module _ (side : Side) (q : Point) (positive : pos 0 <ℤ q.w) where
  forth : (a b : WholePoint) → whole_cmp a b ≡ Less → Aside side q a → Aside side q b → Seen side q a b (record { left = a; right = b } ∷ [])
  forth a b e l r =
      let s : Segment = record { left = a; right = b } in
      let k : Looks side q s = looks s q positive (left_most s e) side l r in
      record { inside = one_inside s q ∙ k.below; edge = one_edge s q k.on }

  seen_by : (a b : WholePoint) (o r : Ordering) → whole_cmp a b ≡ o → whole_cmp b a ≡ r → r ≡ ordering_reverse o → Aside side q a → Aside side q b → Seen side q a b (step a b)
  seen_by a b Less r e f g la lb = rw e (forth a b e la lb)
  seen_by a b Equal r e f g la lb =
      let parts : (int_cmp a.x b.x ≡ Equal) × (int_cmp a.y b.y ≡ Equal) = both_equal (int_cmp a.x b.x) (int_cmp a.y b.y) e in
      let ex : a.x ≡ b.x = int_ranked a.x b.x Equal (sym parts.0) in
      rw e (record { inside = sym (ap (λ m. differ m (mark side q b)) (mark_same side q a b ex) ∙ differ_self (mark side q b)); edge = refl })
  seen_by a b Greater r e f g la lb =
      let back : Seen side q b a (record { left = b; right = a } ∷ []) = forth b a (f ∙ g) lb la in
      rw e (record { inside = back.inside ∙ differ_turned (mark side q b) (mark side q a); edge = back.edge })

  pub seen : (a b : WholePoint) → Aside side q a → Aside side q b → Seen side q a b (step a b)
  seen a b = seen_by a b (whole_cmp a b) (whole_cmp b a) refl refl (whole_cmp_total.antisymm b a)

  -- a line on a side, and another after it
  pub seen_through : (a b c : WholePoint) (xs ys : List Segment) → Seen side q a b xs → Seen side q b c ys → Seen side q a c (xs ++ ys)
  seen_through a b c xs ys h k = record {
    inside =
        inside-append xs ys q ∙ ap (λ m. differ m (is_inside ys q)) h.inside ∙ ap (λ m. differ (differ (mark side q a) (mark side q b)) m) k.inside
        ∙ through (mark side q a) (mark side q b) (mark side q c);
    edge = edge-append xs ys q ∙ ap (λ m. m || is_on_any ys q) h.edge ∙ k.edge;
  }

  -- of three points on one side the middle one may be left out
  pub spared : (a b c : WholePoint) → Aside side q a → Aside side q b → Aside side q c → AreAlike (step a c) q (step a b ++ step b c) q
  spared a b c la lb lc =
      let whole = seen a c la lc in
      let parts = seen_through a b c (step a b) (step b c) (seen a b la lb) (seen b c lb lc) in
      record { inside = whole.inside ∙ sym parts.inside; edge = whole.edge ∙ sym parts.edge }

-- the last of some points, the first of which is given apart
abbrev pub last_of : WholePoint → List WholePoint → WholePoint
last_of a [] = a
last_of a (b ∷ rest) = last_of b rest

-- a line on one side is seen by its ends
pub line_seen : (side : Side) (q : Point) → pos 0 <ℤ q.w → (a : WholePoint) (rest : List WholePoint) → Aside side q a → All (Aside side q) rest → Seen side q a (last_of a rest) (ring_segments (a ∷ rest))
line_seen side q positive a [] l rest = record { inside = sym (differ_self (mark side q a)); edge = refl }
line_seen side q positive a (b ∷ more) l rest =
    let lb : Aside side q b = All-head (Aside side q) b more rest in
    let tail = line_seen side q positive b more lb (All-tail (Aside side q) b more rest) in
    rw ring_segments-cons (seen_through side q positive a b (last_of b more) (step a b) (ring_segments (b ∷ more)) (seen side q positive a b l lb) tail)
