-- The promise: the closed table, both round trips, the text that the closing program prints, and demand 3, which has no premise.
use Rattle.std.specs.Prelude.{ℕ, ◌≡◌, false, ◌↔◌, List}
use Rattle.std.proofs.Common.{◌∙◌, ap, ap₂}
use Rattle.table.specs.Shape.{Shaped}
use Rattle.table.specs.declared.Table.{Table}
use Rattle.text.specs.Reader.{read}
use Rattle.text.specs.Writer.{text, fault}
use Rattle.text.proofs.RoundTrip.{read_text, read_fault_0}
use Rattle.text.proofs.ReadShaped.{read_shaped}
use Rattle.text.proofs.TextLength.{write_read_whole}
use Rattle.closing.specs.declared.Closing.{Closing}
use Rattle.closing.specs.Close.{close_table, answer, close}
use Rattle.closing.specs.Program.{after_closing, after_reading, printed}
use Rattle.closing.proofs.CloseLaws.{accepted}
use Rattle.closing.specs.ClosedTable.{ClosedTable, Answers}
use Rattle.closing.proofs.ClosedTableLaws.{close_gives}
use Rattle.closing.proofs.ClosedTableLaws
use Rattle.closing.proofs.ClosedValid.{closed_fault}
use Rattle.closing.proofs.ClosedShaped.{closed_shaped}
use Rattle.promise.specs.Demand3.{Demand3, Demand3Stopped, SameStandstill, SameFailure}
use Rattle.promise.proofs.Sim.Wf.{Wf}
use Rattle.promise.proofs.Sim.Grants.{wf}
use Rattle.promise.proofs.Proof3

pub granted : (t : Table) → (close t).number ≡ 0 → Wf t
granted t ok = let a = accepted t ok in wf t a.sound a.open_form

-- "The closed table is exactly the one that the published closing algorithm, as laid down in document 01, gives"
pub close_is : (t : Table) (r : Closing) → (r ≡ close t) ↔ Answers t r
close_is = ClosedTableLaws.close_is

-- its closed table has no fault
pub closed_sound : (t : Table) → (close t).number ≡ 0 → fault (close t).table ≡ 0
closed_sound t ok = let a = accepted t ok in rw a.answer_is (closed_fault t a.sound a.open_form)

-- "a table written and read is the same table": t is a value of the declared type, which has so many places and bits
pub written_read : (t : Table) → Shaped t → fault t ≡ 0 → read (text t) ≡ record { number = 0; line = 0; table = t }
written_read = write_read_whole

-- "and an accepted text read and written is the same text"
pub read_written : (s : List ℕ) → (read s).number ≡ 0 → text (read s).table ≡ s
read_written = read_text

-- so the closed table's text reads back
pub closed_reads_back : (t : Table) → Shaped t → (close t).number ≡ 0 → read (text (close t).table) ≡ record { number = 0; line = 0; table = (close t).table }
closed_reads_back t s ok =
    let a = accepted t ok in
    written_read (close t).table (rw a.answer_is (closed_shaped t s (granted t ok).params)) (closed_sound t ok)

-- the way that an engineer goes: for an accepted open text the program `close` prints a text that the reader accepts and reads as the closed table
pub printed_reads_back : (s : List ℕ) → (read s).number ≡ 0 → (read s).table.closed ≡ false
    → ((close (read s).table).number ≡ 0)
    × (read (printed s) ≡ record { number = 0; line = 0; table = (close (read s).table).table })
    × ClosedTable (read s).table (read (printed s)).table
unfolding close printed
printed_reads_back s good form =
    let t = (read s).table in
    let is : close t ≡ record { number = 0; line = 0; table = close_table t } = ap₂ (answer t) (read_fault_0 s good) form in
    let ok : (close t).number ≡ 0 = ap (λ (c : Closing). c.number) is in
    let out : printed s ≡ text (close t).table = ap (λ (n : ℕ). after_reading n (read s)) good ∙ ap (λ (n : ℕ). after_closing n (close t)) ok in
    let back = ap read out ∙ closed_reads_back t (read_shaped s good) ok in
    (ok, back, rw back (close_gives t ok))

-- demand 3, also for a run that stops at a step, and its two consequences
pub demand_3 : Demand3
demand_3 = Proof3.demand_3 granted closed_sound

pub demand_3_stopped : Demand3Stopped
demand_3_stopped = Proof3.demand_3_stopped granted closed_sound

pub same_standstill : SameStandstill
same_standstill = Proof3.same_standstill granted closed_sound

pub same_failure : SameFailure
same_failure = Proof3.same_failure granted closed_sound
