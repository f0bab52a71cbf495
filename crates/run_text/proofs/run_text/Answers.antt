use Rattle.run_text.specs.TextLaws.{sound_read, least_left, least_right, run_refused, run_whole}
use Rattle.run_text.proofs.run_text.Goals as goal

pub returns-then-r-ne0 : goal.returns-then-r-ne0
returns-then-r-ne0 c = run_refused c.args.s.now c.args.schedule.now c.args.values.now c.args.most c.args.log.now c.read-r.ensures c.if-r-ne0.true c.put_refused.ensures

pub run_part-requires : goal.run_part-requires
run_part-requires c = (sound_read c.args.s.now c.args.schedule.now c.args.values.now c.args.most c.args.log.now _ c.read-r.ensures c.if-r-ne0.false, least_left 800000 c.used-n.ensures, least_right _ c.used-n.ensures)

pub returns : goal.returns
returns c = run_whole c.args.s.now c.args.schedule.now c.args.values.now c.args.most c.args.log.now c.read-r.ensures c.if-r-ne0.false c.used-n.ensures c.run_part.ensures
