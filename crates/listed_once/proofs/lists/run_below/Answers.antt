use Rattle.std.proofs.Common.{◌≡◌, ℕ, ◌+◌, ◌-◌, ◌<◌, take, drop, sym, subst, arith}
use Rattle.std.specs.List.{AllByRecursion}
use Rattle.refusals.proofs.Tests.{when_like}
use Rattle.listed_once.proofs.lists.run_below.Goals as goal

pub returns : goal.returns
returns c =
    let first = c.args.run.first in
    let e : first + c.args.run.count - first ≡ c.args.run.count = omega arith in
    let F : ℕ → Type 0 = λ n. AllByRecursion (λ m. m < c.args.bound) (take n (drop first c.args.numbers.now)) in
    when_like c.all_below.result (subst F e) (subst F (sym e)) c.all_below.ensures
