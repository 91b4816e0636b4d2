-- What becomes of a tag: a function bears it, or it is abandoned; both are counted in the report.
use Rattle.std.specs.Prelude.{◌+◌, Some}
use Rattle.hir.specs.declared.rows.Name.{Name}
use Rattle.hir.specs.declared.rows.HirFunction.{HirFunction}
use Rattle.hir.specs.declared.tag.Report.{Report}

abbrev pub with_tag_name : HirFunction → Name → HirFunction
with_tag_name f n = record { fn_type = f.fn_type; blocks = f.blocks; params = f.params; context = f.context; returns = f.returns; tag = Some n; appended = f.appended }

abbrev pub one_appended : Report → Report
one_appended r = record { functions = r.functions + 1; abandoned = r.abandoned; properties = r.properties }

abbrev pub one_abandoned : Report → Report
one_abandoned r = record { functions = r.functions; abandoned = r.abandoned + 1; properties = r.properties }
