use Rattle.std.proofs.Common.{arith}
use Rattle.hir.specs.Tables.{tables}
use Rattle.hir.proofs.Seen.{row_fits, places_read, places_fit}
use Rattle.reading.proofs.row_places.Goals as goal

pub slice_bounds-result-end : goal.slice_bounds-result-end
slice_bounds-result-end c = let f = row_fits (tables c.args.store.now) c.requires.readable c.args.id.0 c.requires.used in omega (arith, f.places, c.requires.readable.counted.places.in_table)

pub returns : goal.returns
returns c = record {
  seen = places_read (tables c.args.store.now) c.requires.readable c.args.id.0 c.requires.used;
  fit = places_fit (tables c.args.store.now) c.requires.readable c.args.id.0 c.requires.used;
}
