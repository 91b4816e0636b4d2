use Rattle.std.proofs.Common.{◌<◌, subst}
use Rattle.hir.specs.Tables.{tables}
use Rattle.hir.proofs.Seen.{blocks_counted}
use Rattle.sweep.proofs.Reading.{terminal_fit, terminal_seen}
use Rattle.sweep.proofs.mark.Marking.terminal_places.Goals as goal

pub returns : goal.returns
returns c =
    let s = c.args.self.now in
    let t = tables s.function.store.now in
    let f = s.function.id.0 in
    let inside = subst (λ n. c.args.k < n) (blocks_counted t s.function.legible f s.function.used) c.requires in
    record {
      seen = terminal_seen t s.function.legible f s.function.used s.terminals c.args.k inside;
      fit = terminal_fit t s.function.legible f s.function.used s.terminals c.args.k inside;
    }
