use Rattle.layer_book.proofs.layers.Layers.reach.Goals as goal

pub returns-clause-asked : goal.returns-clause-asked
returns-clause-asked c = c.reach_of.ensures.asked c.args.name.now (c.requires, c.index_of.ensures)

pub returns-clause-exactly : goal.returns-clause-exactly
returns-clause-exactly c = c.reach_of.ensures.exactly c.args.name.now (c.requires, c.index_of.ensures)
