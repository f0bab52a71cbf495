-- `run_text::run_table` prints the report of a run.
use Rattle.std.proofs.Common.{sym}
use Rattle.text.proofs.ShapeLaws.{shaped}
use Rattle.run_text.specs.TextLaws.{reportable, report_is}
use Rattle.run_text.proofs.run_table.Goals as goal

pub run_valid-r-requires : goal.run_valid-r-requires
run_valid-r-requires c = sym c.requires.0

pub put_report-requires : goal.put_report-requires
put_report-requires c = let x = c.args in
    reportable x.t x.schedule.now x.values.now x.most x.log.now (shaped x.t (_, c.well_formed.0)) c.requires.0 c.requires.1 c.run_valid-r.ensures.answer c.run_valid-r.ensures.log

pub returns : goal.returns
returns c = let x = c.args in record { printed = report_is x.t x.schedule.now x.values.now x.most x.log.now c.run_valid-r.ensures.answer c.run_valid-r.ensures.log c.put_report.ensures; log = c.run_valid-r.ensures.log }
