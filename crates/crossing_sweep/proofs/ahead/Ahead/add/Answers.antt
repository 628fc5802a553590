use Rattle.std.proofs.Common.{◌≡◌, List, map, subst, sym}
use Rattle.std.specs.Prelude.{All, AllPairs, Any}
use Rattle.std.specs.declared.cmp.Ordering.TheVariants.{Less, Equal}
use Rattle.exact_point.specs.Place.{place, hpoint_cmp}
use Rattle.crossing_sweep.specs.Ahead.{HasAdded}
use Rattle.crossing_sweep.specs.Rank.{IsOverWhole}
use Rattle.crossing_sweep.specs.RankedPlace.{ranked_cmp, ranked_entry}
use Rattle.crossing_sweep.specs.declared.ranked_place.RankedPlace.{RankedPlace}
use Rattle.crossing_sweep.proofs.AheadLemmas.{set_added}
use Rattle.crossing_sweep.proofs.TakeLemmas.{rest_ordered, rest_over_whole, rest_whole, add_known, add_new, add_apart}
use Rattle.crossing_sweep.proofs.ahead.Ahead.add.Goals as goal

pub is_among-requires-clause-whole : goal.is_among-requires-clause-whole
is_among-requires-clause-whole c =
    subst (λ (l : List RankedPlace). All (λ z. IsOverWhole (place z.at)) l) (sym (rest_whole c.self.inside.known.items c.deref.result.now c.self.inside.taken c.deref.ensures.value))
    (rest_over_whole c.self.inside.known.items c.self.inside.taken c.self.invariant.whole)

pub is_among-requires-clause-in_order : goal.is_among-requires-clause-in_order
is_among-requires-clause-in_order c =
    subst (λ (l : List RankedPlace). AllPairs (λ a b. ranked_cmp a b ≡ Less) l) (sym (rest_whole c.self.inside.known.items c.deref.result.now c.self.inside.taken c.deref.ensures.value))
    (rest_ordered c.self.inside.known.items c.self.inside.taken c.self.invariant.ordered)

pub invariant_of-self : goal.invariant_of-self
invariant_of-self c =
    let old : List RankedPlace = c.self.inside.found.keys in
    let new : List RankedPlace = c.insert.new.self.keys in
    let added : HasAdded (map ranked_entry old) c.args.at c.args.name (map ranked_entry new) = set_added _ old new c.in_ok-insert.ensures.keys in
    add_apart c.self.inside.known.items c.self.inside.taken (map ranked_entry old) c.args.at c.args.name (map ranked_entry new) c.self.invariant
    (subst (λ (l : List RankedPlace). All (λ z. hpoint_cmp z.at c.args.at ≡ Equal → ⊥) l) (rest_whole c.self.inside.known.items c.deref.result.now c.self.inside.taken c.deref.ensures.value)
    (c.is_among.ensures.apart c.if-not-is_among.true)) added.only

pub returns-in_ok-insert : goal.returns-in_ok-insert
returns-in_ok-insert c =
    let old : List RankedPlace = c.self.inside.found.keys in
    let new : List RankedPlace = c.insert.new.self.keys in
    add_new c.self.inside.known.items c.self.inside.taken (map ranked_entry old) c.args.at c.args.name c.args.self.now (map ranked_entry new) c.self.view_is (set_added _ old new c.in_ok-insert.ensures.keys)

pub returns-else-not-is_among : goal.returns-else-not-is_among
returns-else-not-is_among c =
    add_known c.self.inside.known.items c.self.inside.taken (map ranked_entry c.self.inside.found.keys) c.args.at c.args.name c.args.self.now c.self.view_is
    (subst (λ (l : List RankedPlace). Any (λ z. hpoint_cmp z.at c.args.at ≡ Equal) l) (rest_whole c.self.inside.known.items c.deref.result.now c.self.inside.taken c.deref.ensures.value)
    (c.is_among.ensures.among c.if-not-is_among.false))
