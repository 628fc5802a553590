use Rattle.std.proofs.Common.{◌++◌, take, map}
use Rattle.std.specs.Prelude.{flat_map}
use Rattle.arrange.specs.NamedPlaces.{AreFound, own_names, names_with}
use Rattle.arrange.proofs.finding_nodes.places_along.Given as goal

-- the names with the first segments have been offered
abbrev pub invariant-loop-m : goal.invariant-loop-m
invariant-loop-m l =
    AreFound l.input.column l.seg (own_names l.seg l.input.column ++ flat_map (names_with l.seg) (map (λ m. m.seg) (take l.m-index l.m-items))) l.found.items
