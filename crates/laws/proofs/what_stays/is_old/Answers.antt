use Rattle.laws.proofs.what_stays.is_old.Goals as goal
use Rattle.laws.proofs.Staying.{outlines_go_onward, steps_go_onward}

pub returns-clause-onward : goal.returns-clause-onward
returns-clause-onward c = (outlines_go_onward, steps_go_onward)
