use Rattle.std.proofs.Common.{◌≡◌, ℕ, ◌+◌, ◌<◌, true, List, [], ◌∷◌, map, length, drop, ap, subst, sym, ◌∙◌, arith}
use Rattle.std.specs.Prelude.{All, AllPairs, IfSome}
use Rattle.std.specs.declared.cmp.Ordering.TheVariants.{Less, Equal}
use Rattle.exact_point.specs.Place.{hpoint_cmp}
use Rattle.exact_point.specs.declared.point.HPoint.{HPoint}
use Rattle.exact_point.specs.declared.point_name.PointName.{PointName}
use Rattle.crossing_sweep.specs.RankedPlace.{ranked_cmp, ranked_entry}
use Rattle.crossing_sweep.specs.declared.ranked_place.RankedPlace.{RankedPlace}
use Rattle.crossing_sweep.specs.Ahead.{put_all, is_first_before}
use Rattle.crossing_sweep.proofs.PutLemmas.{known_first}
use Rattle.crossing_sweep.proofs.TakeLemmas.{all_taken, below_none, popped, popped_least, popped_keeps, rest_ordered, next_of, next_taken, next_first, next_least, first_before}
use Rattle.crossing_sweep.proofs.ahead.Ahead.take_first.Goals as goal

pub returns-then-len-self-clause-first : goal.returns-then-len-self-clause-first
returns-then-len-self-clause-first c =
    let known : List (HPoint × PointName) = map ranked_entry (drop c.self.inside.taken c.self.inside.known.items) in
    let rest : List (HPoint × PointName) = map ranked_entry c.first_found.new.found.keys in
    let none : known ≡ [] = all_taken c.self.inside.known.items c.self.inside.taken (omega (arith, c.if-len-self.true, c.len.ensures)) in
    subst (λ (v : List (HPoint × PointName)). IfSome c.first_found.result (λ z. v ≡ ranked_entry z ∷ put_all rest known)) c.self.view_is
    (popped c.first_found.result (map ranked_entry c.self.inside.found.keys) rest known c.first_found.ensures.removal c.first_found.ensures.least (below_none c.first_found.result known none))

pub returns-then-len-self-clause-least : goal.returns-then-len-self-clause-least
returns-then-len-self-clause-least c =
    let known : List (HPoint × PointName) = map ranked_entry (drop c.self.inside.taken c.self.inside.known.items) in
    let none : known ≡ [] = all_taken c.self.inside.known.items c.self.inside.taken (omega (arith, c.if-len-self.true, c.len.ensures)) in
    popped_least c.first_found.result (map ranked_entry c.first_found.new.found.keys) known c.first_found.ensures.least (below_none c.first_found.result known none)

pub invariant_of-self-then-is_first_before : goal.invariant_of-self-then-is_first_before
invariant_of-self-then-is_first_before c =
    let pop = c.first_found-then-is_first_before in
    let known : List RankedPlace = drop c.self.inside.taken c.self.inside.known.items in
    record {
      ordered = c.self.invariant.ordered;
      whole = c.self.invariant.whole;
      few = c.self.invariant.few;
      apart =
          popped_keeps (λ (e : HPoint × PointName). All (λ z. hpoint_cmp z.at e.0 ≡ Equal → ⊥) known) pop.result (map ranked_entry c.self.inside.found.keys) (map ranked_entry pop.new.found.keys)
          pop.ensures.removal pop.ensures.unchanged c.self.invariant.apart;
    }

pub returns-then-is_first_before-clause-first : goal.returns-then-is_first_before-clause-first
returns-then-is_first_before-clause-first c =
    let pop = c.first_found-then-is_first_before in
    let items : List RankedPlace = c.self.inside.known.items in
    let taken : ℕ = c.self.inside.taken in
    let k : RankedPlace = c.index-next.result.now in
    let es : List (HPoint × PointName) = map ranked_entry c.self.inside.found.keys in
    let rest : List (HPoint × PointName) = map ranked_entry pop.new.found.keys in
    let there : taken < length items = omega (arith, c.if-len-self.false, c.len.ensures) in
    let next : drop taken items ≡ k ∷ drop (taken + 1) items = next_of items taken k there c.index-next.ensures in
    let ordered : AllPairs (λ a b. ranked_cmp a b ≡ Less) (k ∷ drop (taken + 1) items) = subst (λ (l : List RankedPlace). AllPairs (λ a b. ranked_cmp a b ≡ Less) l) next (rest_ordered items taken c.self.invariant.ordered) in
    let before : is_first_before es k.at ≡ true = sym c.is_first_before.ensures.first ∙ c.if-is_first_before.true in
    let below = subst (λ (l : List RankedPlace). IfSome pop.result (λ p. All (λ y. hpoint_cmp p.at y.0 ≡ Less) (map ranked_entry l))) (sym next) (first_before pop.result es rest k (drop (taken + 1) items) pop.ensures.removal before ordered) in
    subst (λ (v : List (HPoint × PointName)). IfSome pop.result (λ z. v ≡ ranked_entry z ∷ put_all rest (map ranked_entry (drop taken items)))) c.self.view_is
    (popped pop.result es rest (map ranked_entry (drop taken items)) pop.ensures.removal pop.ensures.least below)

pub returns-then-is_first_before-clause-least : goal.returns-then-is_first_before-clause-least
returns-then-is_first_before-clause-least c =
    let pop = c.first_found-then-is_first_before in
    let items : List RankedPlace = c.self.inside.known.items in
    let taken : ℕ = c.self.inside.taken in
    let k : RankedPlace = c.index-next.result.now in
    let es : List (HPoint × PointName) = map ranked_entry c.self.inside.found.keys in
    let rest : List (HPoint × PointName) = map ranked_entry pop.new.found.keys in
    let there : taken < length items = omega (arith, c.if-len-self.false, c.len.ensures) in
    let next : drop taken items ≡ k ∷ drop (taken + 1) items = next_of items taken k there c.index-next.ensures in
    let ordered : AllPairs (λ a b. ranked_cmp a b ≡ Less) (k ∷ drop (taken + 1) items) = subst (λ (l : List RankedPlace). AllPairs (λ a b. ranked_cmp a b ≡ Less) l) next (rest_ordered items taken c.self.invariant.ordered) in
    let before : is_first_before es k.at ≡ true = sym c.is_first_before.ensures.first ∙ c.if-is_first_before.true in
    let below = subst (λ (l : List RankedPlace). IfSome pop.result (λ p. All (λ y. hpoint_cmp p.at y.0 ≡ Less) (map ranked_entry l))) (sym next) (first_before pop.result es rest k (drop (taken + 1) items) pop.ensures.removal before ordered) in
    popped_least pop.result rest (map ranked_entry (drop taken items)) pop.ensures.least below

pub invariant_of-self-2 : goal.invariant_of-self-2
invariant_of-self-2 c =
    let items : List RankedPlace = c.self.inside.known.items in
    let taken : ℕ = c.self.inside.taken in
    let k : RankedPlace = c.index-next.result.now in
    let there : taken < length items = omega (arith, c.if-len-self.false, c.len.ensures) in
    next_taken items taken (map ranked_entry c.self.inside.found.keys) k there (next_of items taken k there c.index-next.ensures) c.self.invariant

pub returns-clause-first : goal.returns-clause-first
returns-clause-first c =
    let items : List RankedPlace = c.self.inside.known.items in
    let taken : ℕ = c.self.inside.taken in
    let k : RankedPlace = c.index-next.result.now in
    let ks : List RankedPlace = drop (taken + 1) items in
    let es : List (HPoint × PointName) = map ranked_entry c.self.inside.found.keys in
    let there : taken < length items = omega (arith, c.if-len-self.false, c.len.ensures) in
    let next : drop taken items ≡ k ∷ ks = next_of items taken k there c.index-next.ensures in
    let apart = subst (λ (l : List RankedPlace). All (λ (e : HPoint × PointName). All (λ z. hpoint_cmp z.at e.0 ≡ Equal → ⊥) l) es) next c.self.invariant.apart in
    sym c.self.view_is ∙ ap (λ (l : List RankedPlace). put_all es (map ranked_entry l)) next
    ∙ known_first es (map ranked_entry ks) (ranked_entry k) (next_first es k ks (c.is_first_before.ensures.none c.if-is_first_before.false) apart)

pub returns-clause-least : goal.returns-clause-least
returns-clause-least c =
    let items : List RankedPlace = c.self.inside.known.items in
    let taken : ℕ = c.self.inside.taken in
    let k : RankedPlace = c.index-next.result.now in
    let ks : List RankedPlace = drop (taken + 1) items in
    let es : List (HPoint × PointName) = map ranked_entry c.self.inside.found.keys in
    let there : taken < length items = omega (arith, c.if-len-self.false, c.len.ensures) in
    let next : drop taken items ≡ k ∷ ks = next_of items taken k there c.index-next.ensures in
    let ordered : AllPairs (λ a b. ranked_cmp a b ≡ Less) (k ∷ ks) = subst (λ (l : List RankedPlace). AllPairs (λ a b. ranked_cmp a b ≡ Less) l) next (rest_ordered items taken c.self.invariant.ordered) in
    let apart = subst (λ (l : List RankedPlace). All (λ (e : HPoint × PointName). All (λ z. hpoint_cmp z.at e.0 ≡ Equal → ⊥) l) es) next c.self.invariant.apart in
    next_least es k ks (next_first es k ks (c.is_first_before.ensures.none c.if-is_first_before.false) apart) ordered
