use Rattle.std.proofs.Common.{◌≡◌, ◌+◌, List, [], ◌∷◌, ◌++◌, take, drop, ap, sym, ◌∙◌, append_assoc}
use Rattle.crossing_sweep.specs.declared.member.Member.{Member}
use Rattle.crossing_sweep.proofs.TurnedLemmas.{set_one}
use Rattle.crossing_sweep.proofs.row.go_through.Goals as goal

pub returns-clause-put : goal.returns-clause-put
returns-clause-put c =
    let ms : List Member = c.args.status.now.items in
    let low = c.args.low in
    let m : Member = c.begin_over.new.member in
    let stay : List Member = c.push.new.self.items in
    let one : stay ≡ m ∷ [] = c.in_ok-push.ensures.items ∙ ap (λ (l : List Member). l ++ m ∷ []) c.clear.ensures.items in
    set_one ms low m c.requires.there ∙ ap (λ (l : List Member). take low ms ++ (l ++ drop (low + 1) ms)) (sym one) ∙ sym (append_assoc (take low ms) stay (drop (low + 1) ms))
