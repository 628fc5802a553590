use Rattle.std.proofs.Common.{take, option_copied}
use Rattle.layer_expr.specs.StepList.{reached}
use Rattle.layer_book.proofs.InputReach.{few_marked, ordered_marked, last_marked, steps_marked}
use Rattle.layer_book.proofs.layers.Layers.wanted_steps.Goals as goal

pub of-requires-clause-few : goal.of-requires-clause-few
of-requires-clause-few c =
    few_marked (λ layer. (layer.0.now, option_copied layer.1)) c.args.self.now c.args.name.now c.args.wanted.now (take c.wanted_layers-count.result.1 c.wanted_layers-count.result.0)
    (record { book = c.requires.book; standing = c.requires.standing; exactly = c.requires.exactly })
    c.wanted_layers-count.ensures.layers

pub of-requires-clause-ordered : goal.of-requires-clause-ordered
of-requires-clause-ordered c =
    ordered_marked c.args.self.now c.args.name.now c.args.wanted.now (reached (take c.wanted_layers-count.result.1 c.wanted_layers-count.result.0))
    (record { book = c.requires.book; standing = c.requires.standing; exactly = c.requires.exactly })
    c.wanted_layers-count.ensures.layers

pub of-requires-clause-reaches : goal.of-requires-clause-reaches
of-requires-clause-reaches c =
    last_marked c.args.self.now c.args.name.now c.args.wanted.now (reached (take c.wanted_layers-count.result.1 c.wanted_layers-count.result.0))
    (record { book = c.requires.book; standing = c.requires.standing; exactly = c.requires.exactly })
    c.wanted_layers-count.ensures.layers

pub returns : goal.returns
returns c =
    steps_marked c.args.self.now c.args.name.now c.args.wanted.now (reached (take c.wanted_layers-count.result.1 c.wanted_layers-count.result.0)) c.in_ok-steps.steps
    (record { book = c.requires.book; standing = c.requires.standing; exactly = c.requires.exactly })
    c.wanted_layers-count.ensures.layers c.in_ok-steps.ensures.steps
