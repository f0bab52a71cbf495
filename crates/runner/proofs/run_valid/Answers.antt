-- `runner::run_valid` runs a table that has no fault: it is ready, and its run is the definition's.
use Rattle.std.proofs.Common.{◌∙◌, ap}
use Rattle.text.proofs.ShapeLaws.{shaped}
use Rattle.machine.specs.Run.{Ran}
use Rattle.run_code.specs.ReadyLaws.{ready}
use Rattle.runner.proofs.Starts.{begun_is}
use Rattle.runner.proofs.run_valid.Goals as goal

pub run_ready-requires : goal.run_ready-requires
run_ready-requires c = ready c.args.t _ (shaped c.args.t (_, c.well_formed.0)) c.requires c.kept-keep.ensures.keeps

pub returns : goal.returns
returns c = let e = begun_is c.args.t _ _ _ _ c.requires in record { answer = c.run_ready.ensures.answer ∙ ap (λ (r : Ran). r.answer) e; log = c.run_ready.ensures.log ∙ ap (λ (r : Ran). r.log) e }
