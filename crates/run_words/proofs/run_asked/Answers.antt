-- `run_words::run_asked` runs with a log buffer that begins all 0.
use Rattle.std.proofs.Common.{sym, take, length-take-le}
use Rattle.run_words.specs.WordsLaws.{within, log_zeros}
use Rattle.run_words.proofs.run_asked.Goals as goal

pub slice_bounds-run_text-end : goal.slice_bounds-run_text-end
slice_bounds-run_text-end c = sym (length-take-le _ _ c.requires.0)

pub slice_bounds-run_text-end-2 : goal.slice_bounds-run_text-end-2
slice_bounds-run_text-end-2 c = sym (length-take-le _ _ c.requires.1)

pub slice_bounds-run_text-end-3 : goal.slice_bounds-run_text-end-3
slice_bounds-run_text-end-3 c = sym (length-take-le _ _ (within 800000 c.log_buffer-log.ensures c.requires.2))

pub returns : goal.returns
returns c = let x = c.args in
    let a = x.asked in
    log_zeros x.s.now (take a.schedule x.schedule.now) (take a.values x.values.now) a.most a.log c.log_buffer-log.ensures c.requires.2 c.run_text.ensures.printed
