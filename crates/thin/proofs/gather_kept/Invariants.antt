use Rattle.thin.proofs.Front.{Gathered}
use Rattle.thin.proofs.gather_kept.Given as goal

abbrev pub invariant-loop-i : goal.invariant-loop-i
invariant-loop-i g l = Gathered (g.K.Keeps.test l.keep) l.initial.store l.store l.fn.run l.i l.end
