use Rattle.wkt_form.proofs.RoundTrip.{reads_back}
use Rattle.wkt_form.proofs.laws.written_reads_back.Goals as goal

pub returns : goal.returns
returns c = reads_back
