-- What a text's run leaves: its report, and the log buffer.
use Rattle.std.specs.Prelude.{ℕ, zero, suc, ◌≡◌, List, ◌++◌, take, drop, ℤ}
use Rattle.table.specs.declared.Table.{Table}
use Rattle.text.specs.declared.Reading.{Reading}
use Rattle.text.specs.Reader.{read}
use Rattle.machine.specs.Run.{run}
use Rattle.machine.specs.Report.{report}
use Rattle.machine.specs.Program.{run_text}
use Rattle.put.specs.Put.{Put}

-- the report of a table's run
abbrev pub run_report : Table → List ℕ → List ℤ → ℕ → List ℕ → List ℕ
run_report t ks vs m l = let a = run t ks vs m l in report t a.answer a.log

-- what the log buffer then holds; a refused text leaves it as it was
abbrev pub log_of : ℕ → Reading → List ℕ → List ℤ → ℕ → List ℕ → List ℕ
log_of zero r ks vs m l = (run r.table ks vs m l).log
log_of (suc n) r ks vs m l = l

abbrev pub log_after : List ℕ → List ℕ → List ℤ → ℕ → List ℕ → List ℕ
log_after s ks vs m l = let r = read s in log_of r.number r ks vs m l

-- the report of a table's run with the first n bytes of a log buffer, as far as the buffer for it reaches
pub record PartRun (t : Table) (ks : List ℕ) (vs : List ℤ) (m n : ℕ) (log log' out out' : List ℕ) (r : ℕ) : Type 0 where
  pub printed : Put 5925000 out 0 (run_report t ks vs m (take n log)) out' r
  pub logged : log' ≡ (run t ks vs m (take n log)).log ++ drop n log

-- what is printed is the report, or the refusal of the text, as far as the buffer reaches; of the log buffer the first 800,000 bytes are used
pub record TextRun (s ks : List ℕ) (vs : List ℤ) (m : ℕ) (log log' out out' : List ℕ) (n : ℕ) : Type 0 where
  pub printed : Put 5925000 out 0 (run_text s ks vs m (take 800000 log)) out' n
  pub logged : log' ≡ log_after s ks vs m (take 800000 log) ++ drop 800000 log
