use Rattle.std.proofs.Common.{rules}
use Rattle.root_reading.proofs.contents.add_layer.Goals as goal

pub returns-in-Base-clause-looks : goal.returns-in-Base-clause-looks
returns-in-Base-clause-looks g c = search rules

pub returns-in-Base-clause-adds : goal.returns-in-Base-clause-adds
returns-in-Base-clause-adds g c = search rules

pub returns-in-Base-clause-refuses : goal.returns-in-Base-clause-refuses
returns-in-Base-clause-refuses g c = search rules

pub returns-in-Derived-clause-looks : goal.returns-in-Derived-clause-looks
returns-in-Derived-clause-looks g c = search rules

pub returns-in-Derived-clause-adds : goal.returns-in-Derived-clause-adds
returns-in-Derived-clause-adds g c = search rules

pub returns-in-Derived-clause-refuses : goal.returns-in-Derived-clause-refuses
returns-in-Derived-clause-refuses g c = search rules
