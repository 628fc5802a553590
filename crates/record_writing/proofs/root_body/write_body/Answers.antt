use Rattle.std.proofs.Common.{arith}
use Rattle.store_terms.proofs.BodyLemmas.{body_again}
use Rattle.record_writing.proofs.root_body.write_body.Goals as goal

pub returns-clause-reads_back : goal.returns-clause-reads_back
returns-clause-reads_back c = body_again c.args.root (omega arith) (omega arith) (omega arith) (omega arith)
