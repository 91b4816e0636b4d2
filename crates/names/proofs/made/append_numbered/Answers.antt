use Rattle.std.proofs.Common.{◌≡◌, ◌-◌, ◌++◌, length, arith, length-append, rules}
use Rattle.rules.specs.Names.{numeral}
use Rattle.names.proofs.Naming.{appended}
use Rattle.names.proofs.Pasted.{copied_before}
use Rattle.names.proofs.made.append_numbered.Goals as goal

pub returns : goal.returns
returns c =
    let s = c.store.inside.lent in
    let p = c.args.prefix.now in
    let k = numeral c.args.number in
    let a = length-append p k in
    let room = rw (← c.store.view_is) at c.requires.room in
    let size : c.write_decimal-end.result - s.counts.text ≡ length (p ++ k) = omega (arith, c.write_decimal-end.ensures.end) in
    let written = copied_before s.counts.text s.text.now _ p k c.write_decimal-end.new.text c.copy_from_slice.ensures.after (omega (arith, room.in_table)) c.write_decimal-end.ensures.text in
    rw (← c.store.view_is) (appended s _ (p ++ k) _ c.store.invariant (record { in_table = omega (arith, room.in_table); in_limit = omega (arith, room.in_limit) }) (omega (arith, c.requires.some))
    (search (rules, size)) (search (rules, size, written)) (search rules))

pub invariant_of-store : goal.invariant_of-store
invariant_of-store c = (returns c).does.well
