use Rattle.std.proofs.Common.{◌≡◌, ◌++◌, map, take}
use Rattle.std.specs.Prelude.{string_bytes}
use Rattle.wkt_form.specs.Spelling.{comma_listed, wkt_point}
use Rattle.wkt_form.proofs.writing.push_ring.Given as goal

-- the members so far have been added
abbrev pub invariant-loop-i : goal.invariant-loop-i
invariant-loop-i l = string_bytes l.text ≡ string_bytes l.initial.text ++ comma_listed (map wkt_point (take l.i l.points))
