-- The word that asks for each command.
use Rattle.std.specs.Prelude.{ℕ, List, codes}
use Rattle.wotsirma.specs.declared.command.Command.{Command}
use Rattle.wotsirma.specs.declared.command.Command.TheVariants.{Show, Dump, Quote, Help}

abbrev pub word : Command → List ℕ
word Show = codes "show"
word Dump = codes "dump"
word (Quote items rates) = codes "quote"
word Help = codes "help"
