use Rattle.put_fields.specs.ArgLaws.{args_one, args_two, args_three, args_four, last_count}
use Rattle.put_fields.proofs.fill_args.Goals as goal

pub returns-then-x-eq1 : goal.returns-then-x-eq1
returns-then-x-eq1 c = args_one _ c.if-x-eq1.true c.fill_variable-a.ensures

pub returns-then-x-eq2 : goal.returns-then-x-eq2
returns-then-x-eq2 c = args_two _ c.if-x-eq2.true c.fill_variable-a.ensures c.fill_further-b.ensures

pub returns-then-x-eq3 : goal.returns-then-x-eq3
returns-then-x-eq3 c = args_three _ c.if-x-eq3.true c.fill_variable-a.ensures c.fill_further-b.ensures c.fill_further-c.ensures

pub returns : goal.returns
returns c = args_four c.args.x (last_count _ c.requires.1 c.if-x-eq0.false c.if-x-eq1.false c.if-x-eq2.false c.if-x-eq3.false) c.fill_variable-a.ensures c.fill_further-b.ensures c.fill_further-c.ensures c.fill_further.ensures
