use Rattle.std.proofs.Common.{sym, ◌∙◌, arith}
use borrow.Author.Tests.{ltb-true}
use Rattle.std.proofs.ByRecursion.{All-get_or, All-from_get_or}
use Rattle.hir.specs.View.{null_place}
use Rattle.refusals.proofs.Tests.{when_like}
use Rattle.store_form.specs.Parts.{Keyed, ReadsOne}
use Rattle.store_form.proofs.instructions.destructure_formed.Goals as goal
use Rattle.store_form.proofs.instructions.destructure_formed.Goals.{then-detail, else-detail}

pub returns-else-detail-lt-OBJECT_PATTERN : goal.returns-else-detail-lt-OBJECT_PATTERN
returns-else-detail-lt-OBJECT_PATTERN c = elim c.if-detail.branch [
  | then-detail w ↦
      let ps = c.args.places.now in
      let one : ReadsOne ps = rw (sym w.value-is ∙ c.if-reads_one.true) at w.reads_one.ensures in
      when_like c.each_keyed.result
      (λ h. record { low = omega arith; read = one.read; alone = one.alone; keys = λ _ k l. All-get_or Keyed ps k null_place l h })
      (λ h. All-from_get_or Keyed ps null_place (h.keys (omega arith)))
      c.each_keyed.ensures
  | else-detail w ↦ absurd (let l = ltb-true c.args.detail 16 (sym w.value-is ∙ c.if-reads_one.true) in omega arith)
]
