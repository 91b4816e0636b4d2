use Rattle.std.proofs.Common.{◌≤◌, [], length, take, drop, sym, ap, ◌∙◌, zero-le, arith}
use Rattle.std.proofs.lemmas.List.{drop_all, take_all, take_rest, length-drop}
use Rattle.hir.proofs.keys.spelling.Goals as goal

pub returns-then-start-text : goal.returns-then-start-text
returns-then-start-text c =
    sym (ap (take c.args.name.len) (drop_all c.args.name.start c.args.text.now c.if-start-text.true) ∙ take_all c.args.name.len [] zero-le)

pub returns-then-len-text : goal.returns-then-len-text
returns-then-len-text c =
    let h : length (drop c.args.name.start c.args.text.now) ≤ c.args.name.len = simp length-drop (omega arith) in
    take_rest c.args.text.now c.args.name.start ∙ sym (take_all _ _ h)
