-- That a store can be read has one proof at most, so that a type can keep it.
use Rattle.std.proofs.Common.{Some, None, Option}
use mathlib.Core.HLevel.{Unit-prop}
use Rattle.std.proofs.Props.{props}
use Rattle.hir.specs.declared.rows.Name.{Name}
use Rattle.hir.specs.declared.rows.Counts.{Counts}
use Rattle.hir.specs.declared.rows.IdentifierName.{IdentifierName}
use Rattle.hir.specs.declared.rows.IdentifierName.TheVariants.{Named, Promoted}
use Rattle.hir.specs.Tables.{Tables}
use Rattle.hir.specs.WellFormed.{NameIfFits, IdentifierNameFits, Readable}
use Rattle.hir.specs.Legible.{Legible}

pub NameIfFits-prop : (c : Counts) (n : Option Name) → IsProp (NameIfFits c n)
NameIfFits-prop c None = Unit-prop
NameIfFits-prop c (Some n) = hlevel props

pub IdentifierNameFits-prop : (c : Counts) (n : Option IdentifierName) → IsProp (IdentifierNameFits c n)
IdentifierNameFits-prop c None = Unit-prop
IdentifierNameFits-prop c (Some (Named n)) = hlevel props
IdentifierNameFits-prop c (Some (Promoted n)) = hlevel props

ruleset fitting = (NameIfFits-prop, IdentifierNameFits-prop, props)

pub Readable-prop : (t : Tables) → IsProp (Readable t)
Readable-prop t = hlevel fitting

pub Legible-prop : (t : Tables) → IsProp (Legible t)
Legible-prop t = hlevel fitting
