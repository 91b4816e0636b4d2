-- What an identifier is called.
use Rattle.std.specs.Prelude.{Some, None, Option}
use Rattle.hir.specs.declared.rows.Name.{Name}
use Rattle.hir.specs.declared.rows.IdentifierName.{IdentifierName}
use Rattle.hir.specs.declared.rows.IdentifierName.TheVariants.{Named, Promoted}
use Rattle.hir.specs.declared.rows.Identifier.{Identifier}

-- its name, of either sort
abbrev pub name_if : Option IdentifierName → Option Name
name_if None = None
name_if (Some (Named n)) = Some n
name_if (Some (Promoted n)) = Some n

abbrev pub given_name : Identifier → Option Name
given_name x = name_if x.name
