use denote.Text.{Utf8}
use denote.Shadow.{shadow}
use Rattle.screen_text.proofs.printer.Printer.put_list.Given as goal

-- what stands between two items is text
abbrev pub invariant-loop-item : goal.invariant-loop-item
invariant-loop-item g l =
    (goal.iterator-loop-item g).can_next l.item-iterator ×
    (goal.iterator-loop-item g).is_finite l.item-iterator ×
    shadow (Utf8 l.between)
