-- `callers::written_and_read` answers the table written, by the round trip of `promise`, or the writer's refusal.
use Rattle.std.proofs.Common.{sym, length-take-le}
use Rattle.text.proofs.ShapeLaws.{shaped}
use Rattle.promise.proofs.RoundTripCalls.{write_fits}
use Rattle.callers.specs.WrittenAndReadLaws.{refused_is, accepted_is}
use Rattle.callers.proofs.written_and_read.Goals as goal

pub returns-then-w-ne0 : goal.returns-then-w-ne0
returns-then-w-ne0 c = record { answer = refused_is _ _ _ _ (record { answered = c.write-w.ensures.answer; held = c.write-w.ensures.buffer }) c.if-w-ne0.true c.refused.ensures; buffer = c.write-w.ensures.buffer }

pub slice_bounds-read-end : goal.slice_bounds-read-end
slice_bounds-read-end c = write_fits _ _ _ _ (record { answered = c.write-w.ensures.answer; held = c.write-w.ensures.buffer })

pub slice_bounds-read-end-2 : goal.slice_bounds-read-end-2
slice_bounds-read-end-2 c = sym (length-take-le _ _ (write_fits _ _ _ _ (record { answered = c.write-w.ensures.answer; held = c.write-w.ensures.buffer })))

pub returns : goal.returns
returns c = record { answer = accepted_is _ _ _ _ (record { answered = c.write-w.ensures.answer; held = c.write-w.ensures.buffer }) (shaped c.args.t (_, c.well_formed.0)) c.if-w-ne0.false c.read.ensures; buffer = c.write-w.ensures.buffer }
