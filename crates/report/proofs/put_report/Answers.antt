use Rattle.report.specs.RowsLaws.{report_put}
use Rattle.report.proofs.put_report.Goals as goal

pub returns : goal.returns
returns c = report_put _ _ c.requires c.put_answer_line-a.ensures c.put_steps-b.ensures c.put_state.ensures
