-- How the definition of a derived layer is spelled: by the text of its expression.
use Rattle.std.specs.Prelude.{ℕ, nat_le, Bool, ◌&&◌, List, length, Option, Some, None, bytes_eq, if◌then◌else◌}
use Rattle.std.specs.List.{list_all}
use Rattle.overlay_terms.specs.Trees.{Tree, leaves}
use Rattle.overlay_terms.specs.Layers.{Name}
use Rattle.layer_expr.specs.Name.{is_name}
use Rattle.layer_expr.specs.Token.{Kind, tokens_of}
use Rattle.layer_expr.specs.Grammar.{Written, written_kinds, written_tree, kinds_of, tokens_max}
use Rattle.layer_expr.specs.ReaderState.{written_making, after_kinds, at_start, finished}
use Rattle.layer_expr.specs.Spelling.{canonical, expression_text}
use Rattle.store_terms.specs.Fields.{◌>>?◌}

-- whether a tree is an expression: its leaves are names, and its text has few enough tokens
abbrev pub is_expression : Tree Name → Bool
is_expression tree = list_all is_name (leaves tree) && nat_le (length (written_kinds (canonical tree))) tokens_max

-- what some tokens spell
abbrev pub written_of : List Kind → Option Written
written_of kinds = after_kinds written_making (Some at_start) kinds >>? λ s. finished written_making s

-- the tree, if it is an expression and the bytes are its text
abbrev pub spelled_tree : List ℕ → Tree Name → Option (Tree Name)
spelled_tree bytes tree = if is_expression tree && bytes_eq (expression_text tree) bytes then Some tree else None

-- the expression whose text the bytes are: no other spelling of it will do
abbrev pub definition_of_record : List ℕ → Option (Tree Name)
definition_of_record bytes = written_of (kinds_of (tokens_of bytes)) >>? λ w. spelled_tree bytes (written_tree w)
