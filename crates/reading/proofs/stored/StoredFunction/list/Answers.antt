use Rattle.std.proofs.Common.{◌<◌, sym, ap, ◌∙◌, subst}
use Rattle.std.specs.List.{AllByRecursion}
use Rattle.hir.specs.Tables.{Tables, tables}
use Rattle.hir.specs.View.{rows, instructions_at}
use Rattle.hir.proofs.Seen.{blocks_counted, list_seen, list_read, list_listed}
use Rattle.reading.proofs.stored.StoredFunction.list.Goals as goal

pub invariant_of-result-clause-listed : goal.invariant_of-result-clause-listed
invariant_of-result-clause-listed c =
    let s = c.args.self.now in
    let t : Tables = tables s.store.now in
    let inside = subst (λ n. c.args.k < n) (blocks_counted t s.legible s.id.0 s.used) c.requires in
    subst (AllByRecursion (λ n. n < t.counts.instructions)) (sym (list_read t s.legible s.id.0 s.used c.args.k inside)) (list_listed t s.legible s.id.0 s.used c.args.k inside)

pub returns-clause-seen : goal.returns-clause-seen
returns-clause-seen c =
    let s = c.args.self.now in
    let t : Tables = tables s.store.now in
    let inside = subst (λ n. c.args.k < n) (blocks_counted t s.legible s.id.0 s.used) c.requires in
    ap (instructions_at (rows t)) (list_read t s.legible s.id.0 s.used c.args.k inside) ∙ sym (list_seen t s.legible s.id.0 s.used c.args.k inside)

pub returns-clause-numbers : goal.returns-clause-numbers
returns-clause-numbers c =
    let s = c.args.self.now in
    let t : Tables = tables s.store.now in
    list_read t s.legible s.id.0 s.used c.args.k (subst (λ n. c.args.k < n) (blocks_counted t s.legible s.id.0 s.used) c.requires)
