use Rattle.std.proofs.Common.{sym, ◌∙◌, ap}
use Rattle.text.specs.declared.Writing.{Writing}
use Rattle.writer.specs.CountsLaws.{counts}
use Rattle.closed_text.specs.PrintLaws.{sound_read}
use Rattle.bufshani_c.specs.Texts.{Coded}
use Rattle.codes.specs.Code.{packed}
use Rattle.bufshani_c.specs.TextLaws.{rewritten_refused, rewritten_good}
use Rattle.bufshani_c.proofs.bufshani_write.Goals as goal

pub returns-then-r-ne0 : goal.returns-then-r-ne0
returns-then-r-ne0 c = let e = rewritten_refused _ _ _ c.read-r.ensures c.if-r-ne0.true in record { answer = c.pack.ensures ∙ ap (λ (x : Coded). x.answer) e; buffer = ap (λ (x : Coded). x.buffer) e }

pub write_ready-w-requires : goal.write_ready-w-requires
write_ready-w-requires c = counts _ (sym (sound_read _ _ c.read-r.ensures c.if-r-ne0.false))

pub returns : goal.returns
returns c = let e = rewritten_good _ _ _ c.read-r.ensures c.if-r-ne0.false in let w = c.write_ready-w.ensures in record { answer = c.pack-2.ensures ∙ ap (λ (x : Writing). packed x.number x.len) w.answer ∙ ap (λ (x : Coded). x.answer) e; buffer = w.buffer ∙ ap (λ (x : Coded). x.buffer) e }
