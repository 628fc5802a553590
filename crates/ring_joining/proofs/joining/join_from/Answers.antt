use Rattle.std.proofs.Common.{◌<◌, ◌∙◌, arith, sym, length}
use Rattle.std.proofs.lemmas.List.{get_or_default}
use Rattle.std.proofs.lemmas.List.Elements.{All-push}
use Rattle.ring_joining.specs.Following.{Follows}
use Rattle.ring_joining.proofs.RingLemmas.{joins}
use Rattle.ring_joining.proofs.joining.join_from.Goals as goal

pub returns : goal.returns
returns c =
    let items = c.in_ok-push.ensures.items in
    let here : c.args.start < length c.args.passed.now.items = omega (arith, c.requires.start, c.requires.so_far.flags) in
    rw items
    (record {
      joined = joins c.args.pieces.now c.args.passed.now.items c.ring_from.new.passed.items c.args.rings.now.items c.in_ok-ring.ring c.args.start
          c.requires.start c.requires.so_far c.in_ok-ring.ensures.ring c.in_ok-ring.ensures.begins c.in_ok-ring.ensures.passed;
      follow = All-push (Follows c.args.nexts.now) c.args.rings.now.items c.in_ok-ring.ring c.requires.follow c.in_ok-ring.ensures.follows;
      closed = λ n w. tt;
      whole = λ n w. c.in_ok-ring.ensures.whole n w (λ d. get_or_default c.args.passed.now.items c.args.start d c.index.result.now here ∙ sym c.index.ensures ∙ c.if-index.false);
    })
