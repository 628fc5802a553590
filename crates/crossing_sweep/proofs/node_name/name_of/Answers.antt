use Rattle.std.proofs.Common.{rules, of_calls, ◌≡◌, ◌<◌, ltb, List, length, get_or, ap, sym, ◌∙◌}
use Rattle.std.proofs.lemmas.Fn.{always_returns_same}
use Rattle.std.proofs.lemmas.List.{get_or_default}
use Rattle.std.proofs.lemmas.List.Sorted.{IsPartitionedBy-ltb}
use Rattle.crossing_sweep.specs.NodeNames.{name_at}
use Rattle.crossing_sweep.specs.declared.node_name.NodeName.{NodeName}
use Rattle.crossing_sweep.proofs.NameLemmas.{name_by_number, numbers_rise, found_within, found_name}
use Rattle.crossing_sweep.proofs.node_name.name_of.Goals as goal

pub returns-then-names-number : goal.returns-then-names-number
returns-then-names-number c =
    let names : List NodeName = c.args.names.now in
    let d : NodeName = c.index-names-number-then-names-number.result in
    let inside : c.args.number < length names = search rules in
    let tested : NodeName = c.index-names-number.result in
    let same : (get_or names c.args.number tested).number ≡ c.args.number = search rules in
    sym (name_by_number names c.requires.ordered c.args.number d inside) ∙ ap (λ k. name_at names k) (ap (λ (e : NodeName). e.number) (get_or_default names c.args.number d tested inside) ∙ same)

pub bounds-names-place : goal.bounds-names-place
bounds-names-place c =
    let names : List NodeName = c.args.names.now in
    found_within names c.args.number c.partition_point-place.result c.requires.ordered c.requires.named
    (c.partition_point-place.ensures.partitioned (λ (e : NodeName). ltb e.number c.args.number) (always_returns_same _ _ _ (λ a r f k. search (rules, of_calls)))
    (IsPartitionedBy-ltb (λ (e : NodeName). e.number) names c.args.number (numbers_rise names c.requires.ordered)))

pub bounds-names-place-else-number-names : goal.bounds-names-place-else-number-names
bounds-names-place-else-number-names c =
    let names : List NodeName = c.args.names.now in
    found_within names c.args.number c.partition_point-place.result c.requires.ordered c.requires.named
    (c.partition_point-place.ensures.partitioned (λ (e : NodeName). ltb e.number c.args.number) (always_returns_same _ _ _ (λ a r f k. search (rules, of_calls)))
    (IsPartitionedBy-ltb (λ (e : NodeName). e.number) names c.args.number (numbers_rise names c.requires.ordered)))

pub returns : goal.returns
returns c =
    let names : List NodeName = c.args.names.now in
    found_name names c.args.number c.partition_point-place.result c.requires.ordered c.requires.named
    (c.partition_point-place.ensures.partitioned (λ (e : NodeName). ltb e.number c.args.number) (always_returns_same _ _ _ (λ a r f k. search (rules, of_calls)))
    (IsPartitionedBy-ltb (λ (e : NodeName). e.number) names c.args.number (numbers_rise names c.requires.ordered))) c.index-names-place.result
