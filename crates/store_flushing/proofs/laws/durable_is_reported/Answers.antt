use Rattle.store_flushing.proofs.ReportedLemmas as lemmas
use Rattle.store_flushing.proofs.laws.durable_is_reported.Goals as goal

pub returns : goal.returns
returns c = lemmas.durable_is_reported
