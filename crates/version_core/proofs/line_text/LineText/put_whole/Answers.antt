use Rattle.std.proofs.Common.{◌≡◌, ◌++◌, ◌∷◌, ap, sym, ◌∙◌, rules, to_z-of_z}
use Rattle.std.specs.Fmt.{signed_decimal}
use Rattle.version_core.proofs.LineLemmas.{whole_text}
use Rattle.version_core.proofs.line_text.LineText.put_whole.Goals as goal

pub returns-clause-text : goal.returns-clause-text
returns-clause-text c =
    let p = c.args.point in
    let y : c.put_coordinate.new.self ≡ signed_decimal p.y ++ (32 ∷ (49 ∷ c.args.self.now)) = search (rules, to_z-of_z, c.put_coordinate.ensures.text, c.y.ensures.value, c.put_byte.ensures) in
    let x : c.put_coordinate-2.new.self ≡ signed_decimal p.x ++ (32 ∷ c.put_coordinate.new.self) = search (rules, to_z-of_z, c.put_coordinate-2.ensures.text, c.x.ensures.value) in
    x ∙ ap (λ t. signed_decimal p.x ++ (32 ∷ t)) y ∙ sym (whole_text p c.args.self.now)
