use Rattle.std.proofs.Common.{◌≡◌, ◌+◌, List, [], ◌∷◌, take, drop, get_or, ap, sym, ◌∙◌, ◌++◌, append_assoc, length, arith}
use Rattle.crossing_sweep.specs.declared.member.Member.{Member}
use Rattle.crossing_sweep.proofs.TurnedLemmas.{set_one}
use Rattle.crossing_sweep.proofs.progress.replace.Goals as goal

-- a list of one element
lone : (xs : List Member) (x : Member) → length xs ≡ 1 → x ≡ get_or xs 0 x → xs ≡ x ∷ []
lone [] x e is = absurd (omega (arith, e))
lone (y ∷ []) x e is = ap (λ z. z ∷ []) (sym is)
lone (y ∷ z ∷ xs) x e is = absurd (omega (arith, e))

pub returns-then-come-eq1 : goal.returns-then-come-eq1
returns-then-come-eq1 c =
    let stay : List Member = c.args.stay.now in
    let status : List Member = c.args.status.now.items in
    let x : Member = c.index-stay-0.result in
    let next : c.args.low + 1 ≡ c.args.high = omega (arith, c.requires.in_order, c.if-gone-eq1.true) in
    let one : stay ≡ x ∷ [] = lone stay x c.if-come-eq1.true c.index-stay-0.is in
    set_one status c.args.low x (omega (arith, next, c.requires.few)) ∙ ap (λ k. take c.args.low status ++ (x ∷ drop k status)) next
    ∙ ap (λ xs. take c.args.low status ++ (xs ++ drop c.args.high status)) (sym one) ∙ sym (append_assoc (take c.args.low status) stay (drop c.args.high status))

pub returns : goal.returns
returns c =
    let stay : List Member = c.args.stay.now in
    let made : List Member = c.make_place.new.status.items in
    c.overwrite.ensures ∙ ap (λ (xs : List Member). xs ++ stay ++ drop (c.args.low + length stay) made) c.in_ok-make_place.ensures.below
    ∙ ap (λ (xs : List Member). take c.args.low c.args.status.now.items ++ stay ++ xs) c.in_ok-make_place.ensures.above
