-- What the texts of a line are refused by, after a name.
use Rattle.std.proofs.Common.{◌≡◌, ℕ, IsTrue, List, refl, ap, ◌⊎◌, inl, inr}
use Rattle.layer_expr.specs.Name.{is_name}
use Rattle.layer_expr.specs.declared.fault.ExprFault.{ExprFault}
use Rattle.layer_expr.specs.declared.fault.ExprFault.TheVariants as expr_fault
use Rattle.layer_expr.specs.Grammar as expr
use Rattle.wkt_form.specs.Grammar as wkt
use Rattle.wkt_form.specs.declared.fault.WktFault.{WktFault}
use Rattle.wkt_form.specs.declared.fault.WktFault.TheVariants as wkt_fault
use Rattle.script_form.specs.declared.fault.CommandFault.TheVariants.{Wkt, Expression}
use Rattle.script_form.specs.BatchLines.{IsNoCommand}
use Rattle.script_form.specs.Fault.{code_of}
use Rattle.script_form.specs.Replies.{error_line}
use Rattle.script_form.specs.Reading.{IsMemory}
use Rattle.script_form.specs.Requests.{define_text, put_text}

-- a text that is refused after a name
pub put_text_refused : (name text : List ℕ) (wrong : WktFault) → IsTrue (is_name name) → (wrong ≡ wkt_fault.OutOfMemory) ⊎ wkt.IsRefusedBy text wrong → IsMemory name (Wkt wrong) ⊎ IsNoCommand (put_text name text) (Wkt wrong)
put_text_refused name text wrong named refused =
    elim refused [ inl memory ↦ inl (named, ap (λ w. error_line (Wkt w)) memory, ap (λ w. code_of (Wkt w)) memory) | inr by ↦ inr (inr (named, wrong, by, refl)) ]

pub define_text_refused : (name text : List ℕ) (wrong : ExprFault) → IsTrue (is_name name) → (wrong ≡ expr_fault.OutOfMemory) ⊎ expr.IsRefusedBy text wrong → IsMemory name (Expression wrong) ⊎ IsNoCommand (define_text name text) (Expression wrong)
define_text_refused name text wrong named refused =
    elim refused [ inl memory ↦ inl (named, ap (λ w. error_line (Expression w)) memory, ap (λ w. code_of (Expression w)) memory) | inr by ↦ inr (inr (named, wrong, by, refl)) ]
