use Rattle.std.proofs.Common.{arith}
use Rattle.rules.proofs.first_tried.Goals as goal
use Rattle.rules.proofs.Drawn.{every_tag_once}

pub returns : goal.returns
returns c = record { above = omega arith; once = every_tag_once }
