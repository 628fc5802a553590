-- Names of nodes by their numbers: what is looked up, and one more kept.
use Rattle.std.proofs.Common.{◌≡◌, ℕ, zero, suc, ◌+◌, ◌<◌, ◌≤◌, inl, inr, ◌⊎◌, Bool, true, false, ltb, List, [], ◌∷◌, ◌++◌, map, filter, take, drop, length, get_or, refl, ap, sym, subst, ◌∙◌, arith}
use Rattle.std.specs.Prelude.{◌≢◌, if◌then◌else◌, eqb, All, Contains}
use Rattle.std.specs.List.Sorted.{IsNonDecreasingBy, IsPartitionPoint}
use Rattle.std.proofs.lemmas.Bool.{cases_lt, both_ways}
use Rattle.std.proofs.lemmas.Bool.Decides.{nat_tests, eqb_tells}
use Rattle.std.proofs.lemmas.List.{get_or-map, get_or_default, get_or_append_left, take-append-drop, append-nil, get_or-append-add}
use Rattle.std.proofs.lemmas.List.Quantifiers.{all_pairs_push}
use Rattle.std.proofs.lemmas.List.Elements.{All-nil, All-cons, All-head, All-tail, All-append, All-push, All-contains, All-weaker, Contains-append_left, Contains-append_right, Contains-append_cases, Contains-push}
use Rattle.std.proofs.Math.ListN.{length-append}
use Rattle.overlay_terms.specs.Trees.{Steps}
use Rattle.overlay_terms.proofs.Lists.{Contains-cons_cases, contains_rest, none_in_empty, from_map}
use Rattle.overlay_terms.proofs.Pairs.{pairs_head, pairs_rest}
use Rattle.exact_point.specs.PlaceOf.{place_of}
use Rattle.exact_point.specs.Place.{place}
use Rattle.exact_point.specs.declared.point.HPoint.{HPoint}
use Rattle.exact_point.specs.declared.point_name.PointName.{PointName}
use Rattle.tile_laws.proofs.Ranks.{Told, yes, no, told}
use Rattle.crossing_sweep.specs.StripInput.{StripInput, is_in_strip}
use Rattle.crossing_sweep.specs.Amid.{IsClosedAt}
use Rattle.crossing_sweep.specs.Stepping.{IsStepped}
use Rattle.crossing_sweep.specs.NodeNames.{no_name, name_at, IsNamed, IsNameAmong, AreNumbered, AreKept}
use Rattle.crossing_sweep.specs.Rows.{place_at, row_to, rows_of, AreBegun}
use Rattle.crossing_sweep.specs.declared.member.Member.{Member}
use Rattle.crossing_sweep.specs.declared.node_name.NodeName.{NodeName}
use Rattle.crossing_sweep.specs.declared.row.Row.{Row}
use Rattle.crossing_sweep.specs.declared.search.Search.{Search}
use Rattle.crossing_sweep.specs.declared.start.Start.{Start}
use Rattle.crossing_sweep.proofs.PassLemmas.{filter_contains, all_of}

-- two functions that say the same of each element
pub map_alike : {X Y : Type 0} (f g : X → Y) (xs : List X) → All (λ x. f x ≡ g x) xs → map f xs ≡ map g xs
map_alike f g [] h = refl
map_alike f g (x ∷ xs) h = λ i. All-head (λ x. f x ≡ g x) x xs h i ∷ map_alike f g xs (All-tail (λ x. f x ≡ g x) x xs h) i

-- ---- a name looked up
at_first : (e : NodeName) (es : List NodeName) (number : ℕ) → e.number ≡ number → name_at (e ∷ es) number ≡ e.name
at_first e es number h = by (eqb_tells e.number number)
  where
    by : ((eqb e.number number ≡ true) × (e.number ≡ number)) ⊎ ((eqb e.number number ≡ false) × (e.number ≢ number)) → name_at (e ∷ es) number ≡ e.name
    by (inl t) = ap (λ b. if b then e.name else name_at es number) t.0
    by (inr t) = absurd (t.1 h)

past_first : (e : NodeName) (es : List NodeName) (number : ℕ) → (e.number ≡ number → ⊥) → name_at (e ∷ es) number ≡ name_at es number
past_first e es number h = by (eqb_tells e.number number)
  where
    by : ((eqb e.number number ≡ true) × (e.number ≡ number)) ⊎ ((eqb e.number number ≡ false) × (e.number ≢ number)) → name_at (e ∷ es) number ≡ name_at es number
    by (inl t) = absurd (h t.1)
    by (inr t) = ap (λ b. if b then e.name else name_at es number) t.0

-- is there
pub name_there : (names : List NodeName) (number : ℕ) → IsNamed names number → Contains names (record { number = number; name = name_at names number })
name_there [] number n = absurd (none_in_empty _ n.1)
name_there (e ∷ es) number n = by (name_there es number) (eqb_tells e.number number) (Contains-cons_cases e es _ n.1)
  where
    by : (IsNamed es number → Contains es (record { number = number; name = name_at es number })) → ((eqb e.number number ≡ true) × (e.number ≡ number)) ⊎ ((eqb e.number number ≡ false) × (e.number ≢ number))
        → (e ≡ record { number = number; name = n.0 }) ⊎ Contains es (record { number = number; name = n.0 }) → Contains (e ∷ es) (record { number = number; name = name_at (e ∷ es) number })
    by more (inl t) c = let same : e.name ≡ name_at (e ∷ es) number = sym (at_first e es number t.1) in (0, omega arith, λ i. record { number = t.1 i; name = same i })
    by more (inr t) (inl h) = absurd (t.1 (ap (λ (x : NodeName). x.number) h))
    by more (inr t) (inr c) =
        let P : PointName → Type 0 = λ m. Contains (e ∷ es) (record { number = number; name = m }) in
        subst P (sym (past_first e es number t.1)) (contains_rest e es _ (more (n.0, c)))

pub name_known : (all : List PointName) (names : List NodeName) (number : ℕ) → All (IsNameAmong all) names → IsNamed names number → number < length all
name_known all names number among n = (All-contains (IsNameAmong all) names _ among n.1).known

-- and is that of the node with the number
pub name_same : (all : List PointName) (names : List NodeName) (number : ℕ) → All (IsNameAmong all) names → IsNamed names number → name_at names number ≡ get_or all number no_name
name_same all names number among n = (All-contains (IsNameAmong all) names _ among (name_there names number n)).same

-- a place by its number is that of the name
pub place_named : (all : List PointName) (names : List NodeName) (number : ℕ) → All (IsNameAmong all) names → IsNamed names number → place_at (map place_of all) number ≡ place_of (name_at names number)
place_named all names number among n =
    get_or-map place_of all number _ _ (name_known all names number among n) ∙ ap place_of (sym (name_same all names number among n))

-- ---- among names in the order of their numbers
pub name_by_number : (names : List NodeName) → AreNumbered names → (i : ℕ) (d : NodeName) → i < length names → name_at names (get_or names i d).number ≡ (get_or names i d).name
name_by_number [] are i d l = absurd (omega (arith, l))
name_by_number (e ∷ es) are zero d l = at_first e es e.number refl
name_by_number (e ∷ es) are (suc i) d l =
    let later : e.number < (get_or es i d).number = pairs_head (λ (a b : NodeName). a.number < b.number) e es are i d (omega (arith, l)) in
    past_first e es (get_or es i d).number (λ h. absurd (omega (arith, h, later))) ∙ name_by_number es (pairs_rest (λ (a b : NodeName). a.number < b.number) e es are) i d (omega (arith, l))

pub numbers_rise : (names : List NodeName) → AreNumbered names → IsNonDecreasingBy (λ (e : NodeName). e.number) names
numbers_rise names are i j d l m = by (eqb_tells i j)
  where
    by : ((eqb i j ≡ true) × (i ≡ j)) ⊎ ((eqb i j ≡ false) × (i ≢ j)) → (get_or names i d).number ≤ (get_or names j d).number
    by (inl t) = let same : (get_or names i d).number ≡ (get_or names j d).number = ap (λ k. (get_or names k d).number) t.1 in omega (arith, same)
    by (inr t) = let differ : i ≢ j = t.1 in let less : i < j = omega (arith, l, differ) in let rise : (get_or names i d).number < (get_or names j d).number = are i j d less m in omega (arith, rise)

-- where those with lower numbers end, the name with a number is
module _ (names : List NodeName) (number k : ℕ) (are : AreNumbered names) (n : IsNamed names number) (there : IsPartitionPoint (λ (e : NodeName). ltb e.number number ≡ true) (λ (e : NodeName). ltb e.number number ≡ false) names k) where
  abbrev one : NodeName
  one = record { number = number; name = n.0 }

  number_there : (get_or names n.1.0 one).number ≡ number
  number_there = ap (λ (e : NodeName). e.number) n.1.2

  not_lower : n.1.0 < k → ⊥
  not_lower h = no_way (get_or names n.1.0 one).number number (there.0 n.1.0 one (omega arith) h) number_there
    where
      no_way : (a b : ℕ) → ltb a b ≡ true → a ≡ b → ⊥
      no_way a b t e = grind (arith, nat_tests)

  up_to : k ≤ n.1.0
  up_to = by (cases_lt n.1.0 k)
    where
      by : (n.1.0 < k) ⊎ (k ≤ n.1.0) → k ≤ n.1.0
      by (inl h) = absurd (not_lower h)
      by (inr h) = h

  pub found_within : k < length names
  found_within = omega (arith, up_to, n.1.1)

  not_higher : k < n.1.0 → ⊥
  not_higher h = no_way (get_or names k one).number (get_or names n.1.0 one).number number (are k n.1.0 one h n.1.1) number_there (there.1 k one (omega arith) found_within)
    where
      no_way : (a b c : ℕ) → a < b → b ≡ c → ltb a c ≡ false → ⊥
      no_way a b c l e f = grind (arith, nat_tests)

  same_place : k ≡ n.1.0
  same_place = by (cases_lt k n.1.0)
    where
      by : (k < n.1.0) ⊎ (n.1.0 ≤ k) → k ≡ n.1.0
      by (inl h) = absurd (not_higher h)
      by (inr h) = omega (arith, h, up_to)

  found_number : (d : NodeName) → (get_or names k d).number ≡ number
  found_number d = ap (λ (e : NodeName). e.number) (get_or_default names k d one found_within) ∙ ap (λ j. (get_or names j one).number) same_place ∙ number_there

  pub found_name : (d : NodeName) → (get_or names k d).name ≡ name_at names number
  found_name d = sym (name_by_number names are k d found_within) ∙ ap (λ j. name_at names j) (found_number d)

-- ---- the members and the rows of a step
-- members that begin at a node
pub all_begin : (steps : Steps) (under begin : ℕ) (within : Bool) (ms : List Member) → AreBegun steps under begin within ms → All (λ m. m.begin ≡ begin) ms
all_begin steps under begin within [] are = All-nil (λ (m : Member). m.begin ≡ begin)
all_begin steps under begin within (m ∷ ms) are = All-cons (λ (m : Member). m.begin ≡ begin) m ms are.0.begins (all_begin steps m.over begin within ms are.1)

-- where some give way to others, each was there, or is one of the others
pub members_from : (ms stay after : List Member) (low high : ℕ) → after ≡ take low ms ++ stay ++ drop high ms → (m : Member) → Contains after m → Contains ms m ⊎ Contains stay m
members_from ms stay after low high e m c = by (Contains-append_cases (take low ms ++ stay) (drop high ms) m (subst (λ (l : List Member). Contains l m) e c))
  where
    of_low : Contains (take low ms) m → Contains ms m
    of_low h = subst (λ (l : List Member). Contains l m) (take-append-drop low ms) (Contains-append_left (take low ms) (drop low ms) m h)

    of_high : Contains (drop high ms) m → Contains ms m
    of_high h = subst (λ (l : List Member). Contains l m) (take-append-drop high ms) (Contains-append_right (take high ms) (drop high ms) m h)

    two : Contains (take low ms) m ⊎ Contains stay m → Contains ms m ⊎ Contains stay m
    two (inl h) = inl (of_low h)
    two (inr h) = inr h

    by : Contains (take low ms ++ stay) m ⊎ Contains (drop high ms) m → Contains ms m ⊎ Contains stay m
    by (inl h) = two (Contains-append_cases (take low ms) stay m h)
    by (inr h) = inl (of_high h)

-- the rows of a step are of members that were there
pub record AreClosed (begin : ℕ) (status : List Member) (rows more_rows : List Row) : Type 0 where
  pub bundle : List Member
  pub closed : more_rows ≡ rows ++ rows_of begin bundle
  pub among : (m : Member) → Contains bundle m → Contains status m

middle_among : (status under bundle over : List Member) → status ≡ under ++ bundle ++ over → (m : Member) → Contains bundle m → Contains status m
middle_among status under bundle over e m c = subst (λ (l : List Member). Contains l m) (sym e) (Contains-append_left (under ++ bundle) over m (Contains-append_right under bundle m c))

pub are_closed : {input : StripInput} {old new : Search} {status after : List Member} {coming rest : List Start} (at : HPoint) (begin : ℕ) (rows more_rows : List Row)
    → (is_in_strip input.strip (place at) ≡ true → IsStepped input at begin status after coming rest old new rows more_rows)
    → (is_in_strip input.strip (place at) ≡ false → IsClosedAt at begin status after rows more_rows) → AreClosed begin status rows more_rows
are_closed {input} {old} {new} {status} at begin rows more_rows inner outer = by (told (is_in_strip input.strip (place at)))
  where
    by : Told (is_in_strip input.strip (place at)) → AreClosed begin status rows more_rows
    by (yes e) = record { bundle = (inner e).bundle; closed = (inner e).closed; among = middle_among status (inner e).under (inner e).bundle (inner e).over (inner e).was }
    by (no e) = record { bundle = (outer e).bundle; closed = (outer e).closed; among = middle_among status (outer e).under (outer e).bundle (outer e).over (outer e).was }

-- rows that are no more are the same
no_more : (rows new more_rows : List Row) → more_rows ≡ rows ++ new → length more_rows ≤ length rows → more_rows ≡ rows
no_more rows [] more_rows e l = e ∙ append-nil rows
no_more rows (r ∷ rs) more_rows e l = absurd (omega (arith, l, ap length e, length-append rows (r ∷ rs)))

-- ---- a pass begins with no name
pub none_kept : (all : List PointName) (status : List Member) (rows : List Row) (names : List NodeName) → status ≡ [] → rows ≡ [] → names ≡ [] → AreKept all status rows names
none_kept all status rows names e f g =
    let P : List Member → Type 0 = λ l. AreKept all l rows names in
    let Q : List Row → Type 0 = λ l. AreKept all [] l names in
    let R : List NodeName → Type 0 = λ l. AreKept all [] [] l in
    subst P (sym e) (subst Q (sym f) (subst R (sym g) (record {
      among = All-nil (IsNameAmong all);
      numbered = λ i j d l m. absurd (omega (arith, m));
      row_ends = All-nil (λ (row : Row). IsNamed [] row.first × IsNamed [] row.last);
      begins = All-nil (λ (m : Member). m.differs ≡ true → IsNamed [] m.begin);
    })))

-- ---- a node more
still_among : (all : List PointName) (name : PointName) (e : NodeName) → IsNameAmong all e → IsNameAmong (all ++ name ∷ []) e
still_among all name e is = record {
  known = omega (arith, is.known, length-append all (name ∷ []));
  same = is.same ∙ sym (get_or_append_left all (name ∷ []) no_name e.number is.known);
}

still_named : (names : List NodeName) (node : NodeName) (number : ℕ) → IsNamed names number → IsNamed (names ++ node ∷ []) number
still_named names node number n = (n.0, Contains-append_left names (node ∷ []) _ n.1)

module _ (all : List PointName) (name : PointName) (begin : ℕ) (status after stay : List Member) (rows more_rows : List Row) (names : List NodeName) (kept : AreKept all status rows names) (closed : AreClosed begin status rows more_rows)
    (members : (m : Member) → Contains after m → Contains status m ⊎ Contains stay m) where
  among : All (IsNameAmong (all ++ name ∷ [])) names
  among = All-weaker (IsNameAmong all) (IsNameAmong (all ++ name ∷ [])) (still_among all name) names kept.among

  old_begins : (m : Member) → Contains status m → m.differs ≡ true → IsNamed names m.begin
  old_begins m c = All-contains (λ (m : Member). m.differs ≡ true → IsNamed names m.begin) status m kept.begins c

  -- none needs its name
  pub kept_none : length more_rows ≤ length rows → All (λ m. m.differs ≡ false) stay → AreKept (all ++ name ∷ []) after more_rows names
  kept_none few none = record {
    among = among;
    numbered = kept.numbered;
    row_ends = subst (λ (l : List Row). All (λ row. IsNamed names row.first × IsNamed names row.last) l) (sym (no_more rows (rows_of begin closed.bundle) more_rows closed.closed few)) kept.row_ends;
    begins = all_of (λ (m : Member). m.differs ≡ true → IsNamed names m.begin) after (λ m c. by m (members m c));
  }
    where
      by : (m : Member) → Contains status m ⊎ Contains stay m → m.differs ≡ true → IsNamed names m.begin
      by m (inl c) e = old_begins m c e
      by m (inr c) e = absurd (both_ways m.differs (All-contains (λ (m : Member). m.differs ≡ false) stay m none c) e)

  -- or it is kept
  module _ (numbered : begin ≡ length all) (begun : All (λ m. m.begin ≡ begin) stay) where
    abbrev node : NodeName
    node = record { number = begin; name = name }

    abbrev more : List NodeName
    more = names ++ node ∷ []

    node_named : (number : ℕ) → number ≡ begin → IsNamed more number
    node_named number e = subst (λ k. IsNamed more k) (sym e) (name, Contains-push names node)

    last_among : IsNameAmong (all ++ name ∷ []) node
    last_among = record {
      known = omega (arith, numbered, length-append all (name ∷ []));
      same = sym (ap (λ k. get_or (all ++ name ∷ []) k no_name) (numbered ∙ plus_zero (length all)) ∙ get_or-append-add all (name ∷ []) 0 no_name);
    }
      where
        plus_zero : (k : ℕ) → k ≡ k + 0
        plus_zero k = omega arith

    new_row : (row : Row) → Contains (rows_of begin closed.bundle) row → IsNamed more row.first × IsNamed more row.last
    new_row row c =
        let of = from_map (row_to begin) (filter (λ (m : Member). m.differs) closed.bundle) row c in
        let parts = filter_contains (λ (m : Member). m.differs) closed.bundle of.0 of.1 in
        let first : IsNamed more of.0.begin = still_named names node of.0.begin (old_begins of.0 (closed.among of.0 parts.0) parts.1) in
        subst (λ (r : Row). IsNamed more r.first × IsNamed more r.last) of.2 (first, node_named begin refl)

    pub kept_one : AreKept (all ++ name ∷ []) after more_rows (names ++ (record { number = begin; name = name }) ∷ [])
    kept_one = record {
      among = All-push (IsNameAmong (all ++ name ∷ [])) names node among last_among;
      numbered = all_pairs_push (λ (a b : NodeName). a.number < b.number) names node kept.numbered (λ k d l. let known = (kept.among k d l).known in omega (arith, known, numbered));
      row_ends =
          subst (λ (l : List Row). All (λ row. IsNamed more row.first × IsNamed more row.last) l) (sym closed.closed)
          (All-append (λ (row : Row). IsNamed more row.first × IsNamed more row.last) rows (rows_of begin closed.bundle)
          (λ i d l. let both = kept.row_ends i d l in (still_named names node (get_or rows i d).first both.0, still_named names node (get_or rows i d).last both.1))
          (all_of (λ (row : Row). IsNamed more row.first × IsNamed more row.last) (rows_of begin closed.bundle) new_row));
      begins = all_of (λ (m : Member). m.differs ≡ true → IsNamed more m.begin) after (λ m c. by m (members m c));
    }
      where
        by : (m : Member) → Contains status m ⊎ Contains stay m → m.differs ≡ true → IsNamed more m.begin
        by m (inl c) e = still_named names node m.begin (old_begins m c e)
        by m (inr c) e = node_named m.begin (All-contains (λ (m : Member). m.begin ≡ begin) stay m begun c)

-- as the code keeps it
pub kept_after : (all : List PointName) (name : PointName) (begin : ℕ) (status after stay : List Member) (rows more_rows : List Row) (names new : List NodeName) (needed : Bool) → AreKept all status rows names → AreClosed begin status rows more_rows
    → ((m : Member) → Contains after m → Contains status m ⊎ Contains stay m) → begin ≡ length all → All (λ m. m.begin ≡ begin) stay
    → (needed ≡ false → (length more_rows ≤ length rows) × All (λ m. m.differs ≡ false) stay) → (needed ≡ true → new ≡ names ++ (record { number = begin; name = name }) ∷ []) → (needed ≡ false → new ≡ names)
    → AreKept (all ++ name ∷ []) after more_rows new
kept_after all name begin status after stay rows more_rows names new needed kept closed members numbered begun none one same = by (told needed)
  where
    Kept : List NodeName → Type 0
    Kept l = AreKept (all ++ name ∷ []) after more_rows l

    by : Told needed → AreKept (all ++ name ∷ []) after more_rows new
    by (yes e) = subst Kept (sym (one e)) (kept_one all name begin status after stay rows more_rows names kept closed members numbered begun)
    by (no e) = subst Kept (sym (same e)) (kept_none all name begin status after stay rows more_rows names kept closed members (none e).0 (none e).1)
