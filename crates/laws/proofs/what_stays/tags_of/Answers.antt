use Rattle.laws.proofs.what_stays.tags_of.Goals as goal
use Rattle.laws.proofs.Reports.{every_report_counts, every_property_counted}

pub returns-clause-counts : goal.returns-clause-counts
returns-clause-counts c = (every_report_counts, every_property_counted)
