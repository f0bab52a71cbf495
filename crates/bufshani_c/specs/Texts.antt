-- What the library for Rust and C answers.
use Rattle.std.specs.Prelude.{ℕ, zero, suc, List, ℤ}
use Rattle.text.specs.declared.Reading.{Reading}
use Rattle.text.specs.Reader.{read}
use Rattle.text.specs.Writer.{Written, write_to}
use Rattle.machine.specs.Run.{Ran, run}
use Rattle.codes.specs.Code.{packed}

pub record Coded : Type 0 where
  pub answer : ℕ
  pub buffer : List ℕ

-- a text's table written into a buffer: its length, or the number and line of the refusal
abbrev pub after_writing : Written → Coded
after_writing w = record { answer = packed w.answer.number w.answer.len; buffer = w.buffer }

abbrev pub rewriting : ℕ → Reading → List ℕ → Coded
rewriting zero r out = after_writing (write_to r.table out)
rewriting (suc n) r out = record { answer = packed (suc n) r.line; buffer = out }

unfoldable pub rewritten : List ℕ → List ℕ → Coded
rewritten s out = let r = read s in rewriting r.number r out

-- a text's run: its stop number and the steps completed, with the log; or the number and line of the text's refusal
abbrev pub after_running : Ran → Coded
after_running w = record { answer = packed w.answer.stop w.answer.steps; buffer = w.log }

abbrev pub running : ℕ → Reading → List ℕ → List ℤ → ℕ → List ℕ → Coded
running zero r ks vs most log = after_running (run r.table ks vs most log)
running (suc n) r ks vs most log = record { answer = packed (suc n) r.line; buffer = log }

unfoldable pub stepped : List ℕ → List ℕ → List ℤ → ℕ → List ℕ → Coded
stepped s ks vs most log = let r = read s in running r.number r ks vs most log
