use Rattle.std.proofs.Common.{◌∙◌, ap}
use Rattle.layer_book.proofs.MarkedLayers.{rings_of}
use Rattle.layer_book.proofs.layers.Layers.bases_in_reach.Goals as goal

pub returns : goal.returns
returns c = c.in_ok-bases.ensures ∙ ap rings_of c.reach-wanted.ensures.exactly
