use Rattle.std.proofs.Common.{refl, sym, ◌∙◌, ap}
use Rattle.text.specs.Writer.{Written}
use Rattle.writer.specs.CountsLaws.{counts}
use Rattle.writer.specs.WriteLaws.{write_faulty, write_good}
use Rattle.bufshani.specs.Check.{fault_number, no_fault, not_zero}
use Rattle.bufshani.proofs.write_checked.Goals as goal

pub returns-in-Err : goal.returns-in-Err
returns-in-Err c = let e = write_faulty c.args.t _ c.number.result (fault_number c.args.t c.requires c.in-Err.is c.number.ensures) (not_zero c.in-Err.f c.number.ensures) in record { answer = ap (λ (w : Written). w.answer) e; buffer = ap (λ (w : Written). w.buffer) e }

pub write_ready-requires : goal.write_ready-requires
write_ready-requires c = counts c.args.t (sym (no_fault c.args.t c.requires c.in_default.is))

pub returns : goal.returns
returns c = let e = write_good c.args.t _ 0 (no_fault c.args.t c.requires c.in_default.is) refl in record { answer = c.write_ready.ensures.answer ∙ ap (λ (w : Written). w.answer) e; buffer = c.write_ready.ensures.buffer ∙ ap (λ (w : Written). w.buffer) e }
