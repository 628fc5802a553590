use Rattle.std.proofs.Common.{sym, subst, ◌∙◌, rules}
use Rattle.store_terms.specs.declared.damage.Damage.TheVariants.{LayerForm, RecordPlace}
use Rattle.root_reading.specs.Looking.{Gives}
use Rattle.root_reading.proofs.Fronts.{read_front}
use Rattle.store_terms.specs.BaseRecord.{base_of_record}
use Rattle.root_reading.proofs.RecordLengths.{base_cut}
use Rattle.root_reading.proofs.records.base_at.Goals as goal

pub returns-in_err-rings-clause-gives : goal.returns-in_err-rings-clause-gives
returns-in_err-rings-clause-gives g c honest =
    let same =
    read_front 671736 RecordPlace (g.D.Disk.seen c.args.disk.now) c.args.extent c.in_ok-bytes.bytes.items LayerForm base_of_record
    (λ bytes e. base_cut bytes c.in_ok-bytes.bytes.items e) (c.in_ok-bytes.ensures.gives honest) in
    subst (λ read. Gives (λ x. x) c.from_residual-in_err-rings.result read) (sym same) (search rules)

pub returns-clause-gives : goal.returns-clause-gives
returns-clause-gives g c honest =
    let same =
    read_front 671736 RecordPlace (g.D.Disk.seen c.args.disk.now) c.args.extent c.in_ok-bytes.bytes.items LayerForm base_of_record
    (λ bytes e. base_cut bytes c.in_ok-bytes.bytes.items e) (c.in_ok-bytes.ensures.gives honest) in
    same ∙ (rw c.deref.ensures.value at c.in_ok-rings.ensures)
