-- What lines are read as: commands, or the fault that refuses the first line that is none.
use Rattle.std.specs.Prelude.{◌≡◌, ℕ, ◌⊎◌, IsTrue, List, [], ◌∷◌, ◌++◌, length}
use Rattle.overlay_terms.specs.Plane.{WholePoint}
use Rattle.overlay_terms.specs.Trees.{Tree}
use Rattle.overlay_terms.specs.Commands.{Command, put, define, remove}
use Rattle.overlay_terms.specs.Batches.{Batch}
use Rattle.layer_expr.specs.Name.{is_name}
use Rattle.layer_expr.specs.Grammar as expr
use Rattle.layer_expr.specs.declared.fault.ExprFault.{ExprFault}
use Rattle.wkt_form.specs.Grammar as wkt
use Rattle.wkt_form.specs.declared.fault.WktFault.{WktFault}
use Rattle.script_form.specs.declared.fault.CommandFault.{CommandFault}
use Rattle.script_form.specs.declared.fault.CommandFault.TheVariants.{CommandSyntax, Expression, LineTooLong, Wkt}
use Rattle.script_form.specs.Reading.{IsNoName}
use Rattle.script_form.specs.Requests.{Request, too_long, put_text, define_text, remove_name}

-- what a line asks for is a command: a name and the text of rings are a PUT, a name and the text of an expression a
-- DEFINE, a name alone is a DROP
abbrev pub IsCommandOf : Request → Command → Type 0
IsCommandOf (put_text name text) command =
    IsTrue (is_name name) × (rings : List (List WholePoint)) × wkt.ReadsAs text rings × (command ≡ put name rings)
IsCommandOf (define_text name text) command =
    IsTrue (is_name name) × (tree : Tree (List ℕ)) × expr.ReadsAs text tree × (command ≡ define name tree)
IsCommandOf (remove_name name) command = IsTrue (is_name name) × (command ≡ remove name)
IsCommandOf other command = ⊥

-- what a line asks for is no command, and why: the name is none, or by the fault of the text; whatever else a line of a
-- batch may ask for is none
abbrev pub IsNoCommand : Request → CommandFault → Type 0
IsNoCommand too_long fault = fault ≡ LineTooLong
IsNoCommand (put_text name text) fault =
    IsNoName name fault
    ⊎ (IsTrue (is_name name) × (wrong : WktFault) × wkt.IsRefusedBy text wrong × (fault ≡ Wkt wrong))
IsNoCommand (define_text name text) fault =
    IsNoName name fault
    ⊎ (IsTrue (is_name name) × (wrong : ExprFault) × expr.IsRefusedBy text wrong × (fault ≡ Expression wrong))
IsNoCommand (remove_name name) fault = IsNoName name fault
IsNoCommand other fault = fault ≡ CommandSyntax

-- a command for each line
abbrev pub AreCommandsOf : List Request → Batch → Type 0
AreCommandsOf [] [] = Unit {0}
AreCommandsOf (request ∷ requests) (command ∷ commands) = IsCommandOf request command × AreCommandsOf requests commands
AreCommandsOf requests commands = ⊥

-- the first line that is no command: its place, counted from 0, and why
pub record IsFirstUnread (requests : List Request) (place : ℕ) (fault : CommandFault) : Type 0 where
  pub before : List Request
  pub request : Request
  pub after : List Request
  pub lines : requests ≡ before ++ request ∷ after
  pub place_is : place ≡ length before
  pub commands : Batch
  pub read : AreCommandsOf before commands
  pub why : IsNoCommand request fault
