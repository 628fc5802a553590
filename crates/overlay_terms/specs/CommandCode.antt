-- Commands as data that a model's value may hold.
use Rattle.std.specs.Prelude.{◌⊎◌, ◌≡◌, List, [], refl}
use Rattle.std.proofs.Common.{inl, inr}
use Rattle.std.specs.Coded.{Coded, code_by, coded_list, coded⊎, coded×, coded_ℕ}
use Rattle.overlay_terms.specs.Plane.{WholePoint}
use Rattle.overlay_terms.specs.Trees.{Tree}
use Rattle.overlay_terms.specs.TreeCode.{tree_code}
use Rattle.overlay_terms.specs.Layers.{Name}
use Rattle.overlay_terms.specs.LayerCode.{whole_code}
use Rattle.overlay_terms.specs.Commands.{Command, put, define, remove}

-- a name with its rings; a name with its expression; a name
abbrev pub Parts : Type 0
Parts = (Name × List (List WholePoint)) ⊎ ((Name × Tree Name) ⊎ Name)

abbrev pub command_parts : Command → Parts
command_parts (put name rings) = inl (name, rings)
command_parts (define name tree) = inr (inl (name, tree))
command_parts (remove name) = inr (inr name)

abbrev pub command_from : Parts → Command
command_from (inl p) = put p.0 p.1
command_from (inr (inl p)) = define p.0 p.1
command_from (inr (inr name)) = remove name

pub command_back : (c : Command) → command_from (command_parts c) ≡ c
command_back (put name rings) = refl
command_back (define name tree) = refl
command_back (remove name) = refl

abbrev pub name_code : Coded Name
name_code = coded_list coded_ℕ

abbrev pub parts_code : Coded Parts
parts_code = coded⊎ (coded× name_code (coded_list (coded_list whole_code))) (coded⊎ (coded× name_code (tree_code [] name_code)) name_code)

abbrev pub command_code : Coded Command
command_code = code_by Parts parts_code command_parts command_from command_back
