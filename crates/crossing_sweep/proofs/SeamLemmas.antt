-- Tests at the seams of a status, one after another.
use Rattle.std.proofs.Common.{◌≡◌, ℕ, ◌+◌, ◌<◌, ◌≤◌, inl, inr, ◌⊎◌, true, false, List, [], ◌∷◌, ◌++◌, length, get_or, refl, ap, sym, subst, ◌∙◌, arith, append_assoc}
use Rattle.std.specs.Prelude.{IsTrue, Contains}
use Rattle.std.proofs.lemmas.Bool.{both_ways}
use Rattle.std.proofs.lemmas.List.{append-nil}
use Rattle.std.proofs.lemmas.List.Elements.{All-nil, All-cons, All-append, Contains-push, Contains-append_left}
use Rattle.std.proofs.Math.ListN.{length-append}
use Rattle.overlay_terms.specs.Plane.{Point, Segment, same_place}
use Rattle.overlay_terms.specs.TileLaws.{IsProper}
use Rattle.overlay_terms.proofs.Lists.{any_from, any_contains, contains_map, Contains-cons_cases, contains_first, none_in_empty, from_map}
use Rattle.exact_point.specs.Place.{place}
use Rattle.exact_point.specs.declared.point.HPoint.{HPoint}
use Rattle.exact_point.specs.declared.point_name.PointName.{PointName}
use Rattle.tile_laws.proofs.Ranks.{Told, yes, no, told}
use Rattle.crossing_sweep.specs.StripInput.{Span}
use Rattle.crossing_sweep.specs.Queue.{IsQueued}
use Rattle.crossing_sweep.specs.Ahead.{points_of}
use Rattle.crossing_sweep.specs.Leaning.{lean, lean_segment, IsAfter}
use Rattle.crossing_sweep.specs.Testing.{PassesOver, IsInOrder, IsFound, CrossAhead, AreTested, IsFoundIn, AreSeamsTested}
use Rattle.crossing_sweep.specs.declared.search.Search.{Search}

only_one : (x y : ℕ) → Contains (x ∷ []) y → x ≡ y
only_one x y c = by (Contains-cons_cases x [] y c)
  where
    by : (x ≡ y) ⊎ Contains [] y → x ≡ y
    by (inl e) = e
    by (inr h) = absurd (none_in_empty y h)

-- what is known stays known
pub still_queued : (old new : List (HPoint × PointName)) → ((e : HPoint × PointName) → Contains old e → Contains new e) → (p : Point) → IsQueued (points_of old) p → IsQueued (points_of new) p
still_queued old new kept p queued =
    let d = from_map (λ (d : HPoint × PointName). place d.0) old queued.1 (any_contains (λ z. IsTrue (same_place p z)) (points_of old) queued) in
    any_from (λ z. IsTrue (same_place p z)) (points_of new) (place d.0.0) (contains_map (λ (d : HPoint × PointName). place d.0) new d.0 (kept d.0 d.1)) (subst (λ z. IsTrue (same_place p z)) (sym d.2) queued.4)

module _ (strip : Span) (r : Point) (segs : List Segment) where
  abbrev ArePair : Segment × Segment → Type 0
  ArePair t = Contains segs t.0 × Contains segs t.1

  -- no seam
  pub no_seams : (search : Search) → AreSeamsTested strip r segs [] search search
  no_seams search = record {
    listed = refl;
    kept = λ e c. c;
    found = λ order i d p c inside is. absurd (none_in_empty (i + 1) c);
    only = λ order e c. inl c;
    more = [];
    tests = sym (append-nil search.tests.items);
    few = omega arith;
    pairs = All-nil ArePair;
    unlisted = λ e. refl;
  }

  -- a seam with no neighbours
  pub no_seam : (seam : ℕ) (search : Search) → (seam ≡ 0) ⊎ (length segs ≤ seam) → AreSeamsTested strip r segs (seam ∷ []) search search
  no_seam seam search none = record {
    listed = refl;
    kept = λ e c. c;
    found = λ order i d p c inside is. absurd (no_way i (only_one seam (i + 1) c) inside none);
    only = λ order e c. inl c;
    more = [];
    tests = sym (append-nil search.tests.items);
    few = omega arith;
    pairs = All-nil ArePair;
    unlisted = λ e. refl;
  }
    where
      no_way : (i : ℕ) → seam ≡ i + 1 → i + 1 < length segs → (seam ≡ 0) ⊎ (length segs ≤ seam) → ⊥
      no_way i e l (inl f) = omega (arith, e, f)
      no_way i e l (inr f) = omega (arith, e, l, f)

  -- a seam between two neighbours
  module _ (j : ℕ) (inside : j + 1 < length segs) (a b : Segment) (here_a : (d : Segment) → get_or segs j d ≡ a) (here_b : (d : Segment) → get_or segs (j + 1) d ≡ b) (old mid new : Search)
      (same_ahead : mid.ahead ≡ old.ahead) (same_listed : mid.listed ≡ old.listed) (put : old.listed ≡ true → mid.tests.items ≡ old.tests.items ++ (a, b) ∷ [])
      (not_put : old.listed ≡ false → mid.tests.items ≡ old.tests.items) (still_listed : new.listed ≡ mid.listed) (still_tests : new.tests.items ≡ mid.tests.items)
      (tested : AreTested strip r a b mid.ahead new.ahead) where
    kept : (e : HPoint × PointName) → Contains old.ahead e → Contains new.ahead e
    kept e c = tested.kept e (subst (λ (es : List (HPoint × PointName)). Contains es e) (sym same_ahead) c)

    neighbours : IsInOrder r segs → PassesOver r a b
    neighbours order = record {
      n = order.n;
      steep = order.steep;
      small = order.small;
      lower = subst IsProper (here_a a) (order.proper j a (omega (arith, inside)));
      upper = subst IsProper (here_b a) (order.proper (j + 1) a inside);
      over =
          subst (λ x. IsAfter (lean_segment order.n x) (lean_segment order.n b) (lean order.n r)) (here_a a)
          (subst (λ x. IsAfter (lean_segment order.n (get_or segs j a)) (lean_segment order.n x) (lean order.n r)) (here_b a) (order.ordered j (j + 1) a (omega arith) inside));
    }

    found : IsInOrder r segs → (i : ℕ) (d : Segment) (p : Point) → Contains ((j + 1) ∷ []) (i + 1) → i + 1 < length segs → CrossAhead strip r (get_or segs i d) (get_or segs (i + 1) d) p → IsQueued (points_of new.ahead) p
    found order i d p c l is =
        let same : i ≡ j = omega (arith, only_one (j + 1) (i + 1) c) in
        tested.found (neighbours order) p
        (subst (λ x. CrossAhead strip r x b p) (here_a d)
        (subst (λ x. CrossAhead strip r (get_or segs j d) x p) (here_b d) (subst (λ k. CrossAhead strip r (get_or segs k d) (get_or segs (k + 1) d) p) same is)))

    among_a : Contains segs a
    among_a = (j, omega (arith, inside), here_a a)

    among_b : Contains segs b
    among_b = (j + 1, inside, here_b b)

    only : (old.listed ≡ true → Contains new.tests.items (a, b)) → IsInOrder r segs → (e : HPoint × PointName) → Contains new.ahead e → Contains old.ahead e ⊎ IsFoundIn strip r segs old.listed new.tests.items e
    only is_told order e c = by (tested.only (neighbours order) e c)
      where
        by : Contains mid.ahead e ⊎ IsFound strip r a b e → Contains old.ahead e ⊎ IsFoundIn strip r segs old.listed new.tests.items e
        by (inl h) = inl (subst (λ (es : List (HPoint × PointName)). Contains es e) same_ahead h)
        by (inr f) = inr (record { lower = a; upper = b; lower_among = among_a; upper_among = among_b; found = f; told = is_told })

    pub one_seam : AreSeamsTested strip r segs ((j + 1) ∷ []) old new
    one_seam = by (told old.listed)
      where
        by : Told old.listed → AreSeamsTested strip r segs ((j + 1) ∷ []) old new
        by (yes e) =
            let tests : new.tests.items ≡ old.tests.items ++ (a, b) ∷ [] = still_tests ∙ put e in
            record {
              listed = still_listed ∙ same_listed;
              kept = kept;
              found = found;
              only = only (λ f. subst (λ (ts : List (Segment × Segment)). Contains ts (a, b)) (sym tests) (Contains-push old.tests.items (a, b)));
              more = (a, b) ∷ [];
              tests = tests;
              few = omega arith;
              pairs = All-cons ArePair (a, b) [] (among_a, among_b) (All-nil ArePair);
              unlisted = λ f. absurd (both_ways old.listed f e);
            }
        by (no e) =
            record {
              listed = still_listed ∙ same_listed;
              kept = kept;
              found = found;
              only = only (λ f. absurd (both_ways old.listed e f));
              more = [];
              tests = still_tests ∙ not_put e ∙ sym (append-nil old.tests.items);
              few = omega arith;
              pairs = All-nil ArePair;
              unlisted = λ f. refl;
            }

  -- two seams in turn
  module _ (low high : ℕ) (old mid new : Search) (first : AreSeamsTested strip r segs (low ∷ []) old mid) (second : AreSeamsTested strip r segs (high ∷ []) mid new) where
    found_both : IsInOrder r segs → (i : ℕ) (d : Segment) (p : Point) → Contains (low ∷ high ∷ []) (i + 1) → i + 1 < length segs → CrossAhead strip r (get_or segs i d) (get_or segs (i + 1) d) p → IsQueued (points_of new.ahead) p
    found_both order i d p c l is = by (Contains-cons_cases low (high ∷ []) (i + 1) c)
      where
        by : (low ≡ i + 1) ⊎ Contains (high ∷ []) (i + 1) → IsQueued (points_of new.ahead) p
        by (inl e) = still_queued mid.ahead new.ahead second.kept p (first.found order i d p (subst (λ x. Contains (low ∷ []) x) e (contains_first low [])) l is)
        by (inr h) = second.found order i d p h l is

    only_both : IsInOrder r segs → (e : HPoint × PointName) → Contains new.ahead e → Contains old.ahead e ⊎ IsFoundIn strip r segs old.listed new.tests.items e
    only_both order e c = by (second.only order e c)
      where
        before : Contains old.ahead e ⊎ IsFoundIn strip r segs old.listed mid.tests.items e → Contains old.ahead e ⊎ IsFoundIn strip r segs old.listed new.tests.items e
        before (inl h) = inl h
        before (inr f) =
            inr (record {
              lower = f.lower;
              upper = f.upper;
              lower_among = f.lower_among;
              upper_among = f.upper_among;
              found = f.found;
              told = λ g. subst (λ (ts : List (Segment × Segment)). Contains ts (f.lower, f.upper)) (sym second.tests) (Contains-append_left mid.tests.items second.more (f.lower, f.upper) (f.told g));
            })

        by : Contains mid.ahead e ⊎ IsFoundIn strip r segs mid.listed new.tests.items e → Contains old.ahead e ⊎ IsFoundIn strip r segs old.listed new.tests.items e
        by (inl h) = before (first.only order e h)
        by (inr f) =
            inr (record { lower = f.lower; upper = f.upper; lower_among = f.lower_among; upper_among = f.upper_among; found = f.found; told = λ g. f.told (first.listed ∙ g) })

    pub two_seams : AreSeamsTested strip r segs (low ∷ high ∷ []) old new
    two_seams = record {
      listed = second.listed ∙ first.listed;
      kept = λ e c. second.kept e (first.kept e c);
      found = found_both;
      only = only_both;
      more = first.more ++ second.more;
      tests = second.tests ∙ ap (λ ts. ts ++ second.more) first.tests ∙ append_assoc old.tests.items first.more second.more;
      few = omega (arith, length-append first.more second.more, first.few, second.few);
      pairs = All-append ArePair first.more second.more first.pairs second.pairs;
      unlisted = λ e. ap (λ ts. ts ++ second.more) (first.unlisted e) ∙ second.unlisted (first.listed ∙ e);
    }

  -- one seam, counted twice
  pub same_seam : (low high : ℕ) (old new : Search) → low ≡ high → AreSeamsTested strip r segs (low ∷ []) old new → AreSeamsTested strip r segs (low ∷ high ∷ []) old new
  same_seam low high old new same first = record {
    listed = first.listed;
    kept = first.kept;
    found = λ order i d p c. first.found order i d p (one i (Contains-cons_cases low (high ∷ []) (i + 1) c));
    only = first.only;
    more = first.more;
    tests = first.tests;
    few = omega (arith, first.few);
    pairs = first.pairs;
    unlisted = first.unlisted;
  }
    where
      one : (i : ℕ) → (low ≡ i + 1) ⊎ Contains (high ∷ []) (i + 1) → Contains (low ∷ []) (i + 1)
      one i (inl e) = subst (λ x. Contains (low ∷ []) x) e (contains_first low [])
      one i (inr h) = subst (λ x. Contains (low ∷ []) x) (same ∙ only_one high (i + 1) h) (contains_first low [])
