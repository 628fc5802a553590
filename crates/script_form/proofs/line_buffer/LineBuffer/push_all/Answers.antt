use Rattle.std.proofs.Common.{◌≡◌, ℕ, ◌+◌, ◌-◌, min, Bool, true, cond, List, ◌++◌, length, length-take, take, refl, sym, ap, ◌∙◌, arith}
use Rattle.std.proofs.Math.Seq.{take-append-add}
use Rattle.std.proofs.lemmas.List.{take_min}
use Rattle.std.specs.Result.{is_ok}
use Rattle.script_form.specs.Lines.{line_room}
use Rattle.script_form.proofs.line_buffer.LineBuffer.push_all.Goals as goal

-- as many bytes as find room, after a line
pushed : (n room count : ℕ) (items now new bytes part : List ℕ) (ok : Bool) → new ≡ cond ok (items ++ part) items → ok ≡ true → items ≡ now
    → part ≡ take count bytes → count ≡ min room (length bytes) → length now + room ≡ n → new ≡ take n (now ++ bytes)
pushed n room count items now new bytes part ok e is same front counted whole =
    e ∙ ap (λ t. cond t (items ++ part) items) is ∙ ap (λ l. l ++ part) same
    ∙ ap (λ l. now ++ l) (front ∙ ap (λ m. take m bytes) counted ∙ take_min room bytes) ∙ sym (take-append-add now bytes room) ∙ ap (λ m. take m (now ++ bytes)) whole

pub returns : goal.returns
unfolding line_room
returns c =
    let as_long = ap length c.self.view_is in
    let counted = c.self.inside.bytes.ok.0 in
    let ok : is_ok c.extend_from_slice.result ≡ true = c.extend_from_slice.ensures.succeeds (omega (arith, length-take {A = ℕ})) in
    pushed line_room (65538 - c.len-room.result) c.min.result _ _ _ c.args.bytes.now _ _ c.extend_from_slice.ensures.items ok c.self.view_is refl c.min.ensures (omega arith)
