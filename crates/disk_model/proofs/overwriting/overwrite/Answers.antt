use Rattle.std.proofs.Common.{◌≡◌, ◌+◌, ◌-◌, ◌++◌, length, replicate, List, ℕ, ◌∙◌, ap, subst, rules}
use Rattle.disk_model.specs.Disk.{Torn}
use Rattle.disk_model.specs.Bytes.{is_over}
use Rattle.disk_model.proofs.overwriting.overwrite.Goals as goal

pub returns-clause-ok : goal.returns-clause-ok
returns-clause-ok c =
    let file = c.args.file.now.items in
    let bytes = c.args.bytes.now in
    let end : c.in_ok-end.end ≡ c.args.at + length bytes = search rules in
    let grown : c.grow.new.file.items ≡ file ++ replicate ((c.args.at + length bytes) - length file) 0 =
    c.in_ok-grow.ensures.ok ∙ ap (λ (n : ℕ). file ++ replicate (n - length file) 0) end in
    is_over file c.args.at bytes c.put.new.file.items c.put.ensures.holds (subst (λ (g : List ℕ). Torn c.args.at (length bytes) g c.put.new.file.items) grown c.put.ensures.others)
