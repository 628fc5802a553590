use Rattle.std.proofs.Common.{List, ℕ, length, subst}
use Rattle.disk_model.specs.Disk.{Holds, Torn}
use Rattle.store_terms.specs.Roots.{body_text}
use Rattle.root_store.specs.Creating.{first_root, second_root}
use Rattle.root_store.proofs.Blank.{blank_made}
use Rattle.root_store.proofs.creating.blank.Goals as goal

pub returns : goal.returns
returns c =
    let zero = c.in_ok-file.file.items in
    let one = c.put.new.file.items in
    let two = c.put-2.new.file.items in
    let torn : Torn 16 48 zero one =
    subst (λ (bytes : List ℕ). Torn 16 (length bytes) zero one) c.write_body.ensures.spelled c.put.ensures.others in
    let held : Holds one 16 (body_text first_root) =
    subst (Holds one 16) c.write_body.ensures.spelled c.put.ensures.holds in
    let torn_2 : Torn 4112 48 one two =
    subst (λ (bytes : List ℕ). Torn 4112
    (length bytes) one two) c.write_body-2.ensures.spelled c.put-2.ensures.others in
    let held_2 : Holds two 4112 (body_text second_root) =
    subst (Holds two 4112) c.write_body-2.ensures.spelled c.put-2.ensures.holds in
    blank_made zero one two c.put-3.new.file.items c.in_ok-file.ensures torn held torn_2 held_2 c.put-3.ensures.others c.put-3.ensures.holds
