use Rattle.std.proofs.Common.{◌≡◌, ◌+◌, length, take, drop, sym, ap, ◌∙◌, ◌-◌, refl, arith}
use Rattle.rules.specs.Views.{Bytes}
use Rattle.rules.specs.Names.{numeral}
use lib.Seq.{paste}
use Rattle.hir.specs.Tables.{tables, hold_text}
use Rattle.hir.specs.View.{spelt, view}
use Rattle.hir.proofs.Runs.{pasted_both}
use Rattle.names.proofs.Naming.{spelt_in, length_spelt}
use Rattle.names.proofs.Pasted.{moved}
use Rattle.names.proofs.made.spell_renamed.Goals as goal

pub returns-clause-writes : goal.returns-clause-writes
returns-clause-writes c =
    let s = c.store.inside.lent in
    let w = c.store.invariant in
    let fits = rw (← c.store.view_is) at c.requires.fits in
    let room = rw (← c.store.view_is) at c.requires.room in
    let b = c.args.base in
    let text = s.text.now in
    let own : Bytes = spelt (view (tables s)).text b in
    let k = numeral c.args.number in
    let size : length own ≡ b.len = length_spelt (tables s) w b fits in
    let is : own ≡ take (length own) (drop b.start text) = spelt_in (tables s) w b fits ∙ ap (λ n. take n (drop b.start text)) (sym size) in
    let copy = c.copy_within.ensures.after ∙ ap (λ n. paste text s.counts.text (drop b.start text) (b.start + n - b.start)) (sym size) ∙ moved text b.start s.counts.text own is in
    let written = c.write_decimal-end.ensures.text ∙ (λ i. paste (copy i) (s.counts.text + sym size i) k (length k)) ∙ pasted_both text s.counts.text (length own) own k refl (omega (arith, room.in_table)) in
    rw (← c.store.view_is) (ap (hold_text (tables s) s.counts) written)
