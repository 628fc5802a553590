use Rattle.std.proofs.Common.{◌∙◌, ◌-◌, length, take, drop}
use Rattle.layer_book.specs.Touching.{same_in}
use Rattle.layer_book.proofs.CommonEnds.{whole_rest, after_same, before_same}
use Rattle.layer_book.proofs.comparing.between_common_ends.Goals as goal

pub returns : goal.returns
returns c = λ k.
    let front = c.common_front-front.result in
    let new = take (length c.args.new.now - front) (drop front c.args.new.now) in
    let old = take (length c.args.old.now - front) (drop front c.args.old.now) in
    before_same k _ _ new old (cc)
    ∙ (λ i. same_in k (whole_rest front c.args.new.now i) (whole_rest front c.args.old.now i))
    ∙ after_same k front c.args.new.now c.args.old.now c.common_front-front.ensures.same
