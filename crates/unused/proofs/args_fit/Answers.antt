use Rattle.unused.specs.UnusedLaws.{call_args, no_args}
use Rattle.unused.proofs.args_fit.Goals as goal

pub returns-in-Call : goal.returns-in-Call
returns-in-Call c = call_args _ c.in-Call.is c.call_fits.ensures

pub returns-in_default : goal.returns-in_default
returns-in_default c = no_args _ c.in_default.not-Call
