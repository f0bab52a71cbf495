use Rattle.std.proofs.Common.{sym, length-take-le}
use Rattle.run_text.specs.TextLaws.{part_size, part_run}
use Rattle.run_text.proofs.run_part.Goals as goal

pub slice_bounds-run_table-end-2 : goal.slice_bounds-run_table-end-2
slice_bounds-run_table-end-2 c = sym (length-take-le c.args.n c.args.log.now c.requires.1)

pub run_table-requires : goal.run_table-requires
run_table-requires c = (c.requires.0, part_size c.args.n c.args.log.now c.requires.1 c.requires.2)

pub returns : goal.returns
returns c = part_run c.args.t c.args.schedule.now c.args.values.now c.args.most c.args.n c.args.log.now c.run_table.ensures.log c.run_table.ensures.printed
