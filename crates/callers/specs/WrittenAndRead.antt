-- A table written into a lent buffer and read back.
use Rattle.std.specs.Prelude.{ℕ, zero, suc, List}
use Rattle.table.specs.Table.{no_table}
use Rattle.table.specs.declared.Table.{Table}
use Rattle.text.specs.declared.Reading.{Reading}
use Rattle.text.specs.Writer.{write_to}

-- by the writer's number: the table itself; or the number of the refusal, with line 0 and a table all 0
abbrev pub read_back : Table → ℕ → Reading
read_back t zero = record { number = 0; line = 0; table = t }
read_back t (suc n) = record { number = suc n; line = 0; table = no_table }

abbrev pub written_and_read : Table → List ℕ → Reading
written_and_read t out = read_back t (write_to t out).answer.number
