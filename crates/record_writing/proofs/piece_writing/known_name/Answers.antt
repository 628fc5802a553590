use Rattle.store_terms.proofs.NameTests.{there}
use Rattle.record_writing.proofs.piece_writing.known_name.Goals as goal

pub returns : goal.returns
returns c = there c.args.name.now c.known_point.result c.requires c.known_point.ensures.stands c.known_point.ensures.value
