use Rattle.bufshani.proofs.check.Goals as goal

pub returns-clause-number : goal.returns-clause-number
returns-clause-number c = c.fault.ensures.number
