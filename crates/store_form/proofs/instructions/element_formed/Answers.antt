use Rattle.std.proofs.Common.{ℕ, Option, sym, subst, refl, add-one, arith, below_more}
use Rattle.refusals.specs.Form.{role_at}
use Rattle.store_form.specs.Parts.{MayFollow}
use Rattle.store_form.proofs.Parts.{formed, follows}
use Rattle.store_form.proofs.instructions.element_formed.Goals as goal

pub returns-then-not-may_follow : goal.returns-then-not-may_follow
returns-then-not-may_follow c =
    let ps = c.args.places.now in
    let k = c.loop-place.place-index in
    let F : Option ℕ → Type 0 = λ before. MayFollow before (role_at ps k) c.args.row.now.detail in
    λ h. c.if-not-may_follow.ensures (subst F (sym c.loop-place.invariant.0) (follows c.args.row.now.detail ps k (h.places k (omega arith))))

pub loop-place-preserved : goal.loop-place-preserved
loop-place-preserved c =
    let ps = c.args.places.now in
    let k = c.loop-place.place-index in
    let F : Option ℕ → Type 0 = λ before. MayFollow before (role_at ps k) c.args.row.now.detail in
    (rw add-one refl, below_more _ _ c.loop-place.invariant.1 (formed c.args.row.now.detail ps k (subst F c.loop-place.invariant.0 c.if-not-may_follow.ensures)))
