-- The program `run`: its words, `run SCHEDULE VALUES MOST LOG`, and what it answers to them and to the text on its standard input.
use Rattle.std.specs.Prelude.{ℕ, zero, suc, List, [], ◌∷◌, ◌++◌, leb, length, replicate, ℤ}
use Rattle.std.proofs.Math.Option.{Option, none, some}
use Rattle.table.specs.declared.Operand.{Operand}
use Rattle.table.specs.declared.Operand.TheVariants.{Var, Const}
use Rattle.text.specs.declared.Fault.{Fault}
use Rattle.text.specs.declared.Reading.{Reading}
use Rattle.text.specs.Number.{bytes}
use Rattle.text.specs.Value.{said_operand, said_list, operand_fault}
use Rattle.text.specs.Reader.{read}
use Rattle.closing.specs.Program.{refused_line}
use Rattle.machine.specs.Words.{filtered, said_up_to, Words, asks, unread, next, last, Answer, prints, says}
use Rattle.machine.specs.Run.{run}
use Rattle.machine.specs.Report.{report}

-- ---- what a word says, spelt as in a table's text

abbrev pub fitting : ℤ → Option Fault → Option ℤ
fitting z none = some z
fitting z (some f) = none

abbrev pub as_value : Option Operand → Option ℤ
as_value none = none
as_value (some (Var v)) = none
as_value (some (Const z)) = fitting z (operand_fault 0 (Const z))

-- a signed 32-bit number
unfoldable pub said_value : List ℕ → Option ℤ
said_value s = as_value (said_operand s)

-- a list of at most m items
unfoldable pub said_items : {A : Type 0} → ℕ → (List ℕ → Option A) → List ℕ → Option (List A)
said_items m f s = filtered (λ xs. leb (length xs) m) (said_list f s)

-- ---- the words, from the left

pub data Word : Type 0 where
  schedule values most log further : Word

-- the most items of a list, the largest number of nodes, and the most bytes of a log buffer, which are those of 100,000 steps
abbrev pub most_items : ℕ
most_items = 100000

abbrev pub most_nodes : ℕ
most_nodes = 18446744073709551615

abbrev pub most_bytes : ℕ
most_bytes = 800000

pub record Request : Type 0 where
  pub schedule : List ℕ
  pub values : List ℤ
  pub most : ℕ
  pub log : ℕ

unfoldable pub said : List (List ℕ) → Words Word Request
said xs =
    next schedule (said_items most_items (said_up_to 255)) xs (λ ks xs₁.
    next values (said_items most_items said_value) xs₁ (λ vs xs₂.
    next most (said_up_to most_nodes) xs₂ (λ m xs₃.
    next log (said_up_to most_bytes) xs₃ (λ n xs₄.
    last further (record { schedule = ks; values = vs; most = m; log = n }) xs₄))))

-- which word, and what was expected
abbrev pub word_line : Word → List ℕ
word_line schedule = bytes "word 1, SCHEDULE: expected at most 100000 task numbers from 0 to 255 with commas between, or none, or @FILE, a file with such a list, by commas or lines" ++ (10 ∷ [])
word_line values = bytes "word 2, VALUES: expected at most 100000 numbers from -2147483648 to 2147483647 with commas between, or none, or @FILE, a file with such a list, by commas or lines" ++ (10 ∷ [])
word_line most = bytes "word 3, MOST: expected a number of dropped nodes, at most 18446744073709551615" ++ (10 ∷ [])
word_line log = bytes "word 4, LOG: expected a number of bytes, at most 800000" ++ (10 ∷ [])
word_line further = bytes "word 5: expected no more than four words, SCHEDULE VALUES MOST LOG" ++ (10 ∷ [])

-- ---- what is answered

-- the report of a table's run
abbrev pub reported : ℕ → Reading → List ℕ → List ℤ → ℕ → List ℕ → List ℕ
reported zero r ks vs m l = let a = run r.table ks vs m l in report r.table a.answer a.log
reported (suc n) r ks vs m l = refused_line (suc n) r.line

-- for a text, a schedule, a value list, the most dropped nodes per step and a log buffer: the report, or the refusal of the text
unfoldable pub run_text : List ℕ → List ℕ → List ℤ → ℕ → List ℕ → List ℕ
run_text s ks vs m l = let r = read s in reported r.number r ks vs m l

-- the words are judged before the text; of one that can't be read nothing is printed
abbrev pub answer_for : Words Word Request → List ℕ → Answer
answer_for (asks q) s = prints (run_text s q.schedule q.values q.most (replicate q.log 0))
answer_for (unread w) s = says (word_line w)

unfoldable pub run_answer : List (List ℕ) → List ℕ → Answer
run_answer xs s = answer_for (said xs) s
