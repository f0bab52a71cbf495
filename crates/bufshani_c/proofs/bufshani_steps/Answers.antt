-- `bufshani_c::bufshani_steps` refuses a text, or runs its table, which has no fault.
use Rattle.std.proofs.Common.{sym, ◌∙◌, ap}
use Rattle.machine.specs.declared.Running.{Running}
use Rattle.codes.specs.Code.{packed}
use Rattle.closed_text.specs.PrintLaws.{sound_read}
use Rattle.bufshani_c.specs.Texts.{Coded}
use Rattle.bufshani_c.specs.TextLaws.{stepped_refused, stepped_good}
use Rattle.bufshani_c.proofs.bufshani_steps.Goals as goal

pub returns-then-r-ne0 : goal.returns-then-r-ne0
returns-then-r-ne0 c = let e = stepped_refused _ _ _ _ _ _ c.read-r.ensures c.if-r-ne0.true in record { answer = c.pack.ensures ∙ ap (λ (x : Coded). x.answer) e; log = ap (λ (x : Coded). x.buffer) e }

pub run_valid-a-requires : goal.run_valid-a-requires
run_valid-a-requires c = sym (sound_read _ _ c.read-r.ensures c.if-r-ne0.false)

pub returns : goal.returns
returns c = let e = stepped_good _ _ _ _ _ _ c.read-r.ensures c.if-r-ne0.false in
    let w = c.run_valid-a.ensures in record { answer = c.pack-2.ensures ∙ ap (λ (x : Running). packed x.stop x.steps) w.answer ∙ ap (λ (x : Coded). x.answer) e; log = w.log ∙ ap (λ (x : Coded). x.buffer) e }
