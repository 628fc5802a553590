-- Commands of the code as commands of the definitions.
use Rattle.overlay_terms.specs.Commands as terms
use Rattle.layer_book.specs.declared.command.Command.{Command}
use Rattle.layer_book.specs.declared.command.Command.TheVariants.{Put, Define, Remove}

-- the PUT, DEFINE or DROP that a command of the code is
abbrev pub command : Command → terms.Command
command (Put name rings) = terms.put name rings.value
command (Define name expression) = terms.define name expression.value
command (Remove name) = terms.remove name
