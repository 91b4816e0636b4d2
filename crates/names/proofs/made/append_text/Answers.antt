use Rattle.std.proofs.Common.{rules}
use Rattle.names.proofs.Naming.{appended}
use Rattle.names.proofs.made.append_text.Goals as goal

pub returns : goal.returns
returns c =
    let room = rw (← c.store.view_is) at c.requires.room in
    rw (← c.store.view_is) (appended c.store.inside.lent _ c.args.text.now _ c.store.invariant room c.requires.some (search rules) (search rules) (search rules))

pub invariant_of-store : goal.invariant_of-store
invariant_of-store c = (returns c).does.well
