use Rattle.report_steps.specs.StepLaws.{line_short}
use Rattle.report_steps.proofs.put_step_line.Goals as goal

pub returns : goal.returns
returns c = line_short c.put_step_fields-a.ensures.short c.requires.3 c.put_step_fields-a.ensures.printed c.put_byte.ensures
