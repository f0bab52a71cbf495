-- An accepted text, read and written, is the same text, and its table has no fault; a table without a fault, written and read, is the same table.
use Rattle.std.specs.Prelude.{ℕ, ◌≡◌, refl, List, true, ltb, length}
use Rattle.std.proofs.Common.{sym, ◌∙◌, ap, arith}
use Rattle.table.specs.Cases.{cases}
use Rattle.table.specs.Shape.{Shaped}
use Rattle.table.specs.declared.Table.{Table}
use Rattle.text.specs.declared.Fault.{Fault}
use Rattle.text.specs.declared.Fault.TheVariants.{Long, Unused}
use Rattle.text.specs.Fault.{number}
use Rattle.text.proofs.FaultLaws.{number_range}
use Rattle.text.specs.Reader.{Result, good, bad, read_lines, reading, read}
use Rattle.text.specs.Writer.{text, tidy, fault_in, fault}
use Rattle.text.proofs.TableLaws.{Fitting, Lines, accepted}

-- an accepted text, read and written, is the same text
pub read_write : (s : List ℕ) (t : Table) → read_lines s ≡ good t → text t ≡ s
read_write s t e = let a = accepted s t e in sym (a.0.same a.1)

-- and its table has no fault
pub read_fault : (s : List ℕ) (t : Table) → read_lines s ≡ good t → fault t ≡ 0
unfolding fault
read_fault s t e = ap (fault_in t) (ap read_lines (read_write s t e) ∙ e) ∙ rw ((accepted s t e).0.neat, fault_in)

-- every fault has a number above 0
fault_number : (f : Fault) → number f ≡ 0 → ⊥
fault_number f e = omega (arith, number_range f)

-- the same of texts that are not too long: where the reader's number is 0, the lines say its table
pub read_good : (s : List ℕ) → (read s).number ≡ 0 → read_lines s ≡ good (read s).table
unfolding read
read_good s e = cases (ltb 65536 (length s))
    (λ q. absurd (fault_number Long (rw (q, read) at e)))
    (λ q. rw (q, read) (go (read_lines s) refl (rw (q, read) at e)))
  where
    go : (o : Result) → read_lines s ≡ o → (reading o).number ≡ 0 → read_lines s ≡ good (reading (read_lines s)).table
    go (good t) q e = q ∙ rw q
    go (bad f l) q e = absurd (fault_number f e)

pub read_text : (s : List ℕ) → (read s).number ≡ 0 → text (read s).table ≡ s
read_text s e = read_write s (read s).table (read_good s e)

pub read_fault_0 : (s : List ℕ) → (read s).number ≡ 0 → fault (read s).table ≡ 0
read_fault_0 s e = read_fault s (read s).table (read_good s e)

-- a table without a fault is tidy, and its text says some table
pub fault_none : (t : Table) → fault t ≡ 0 → (r : Table) × (read_lines (text t) ≡ good r) × (tidy t ≡ true)
unfolding fault
fault_none t e = go (read_lines (text t)) refl e
  where
    go : (o : Result) → read_lines (text t) ≡ o → fault_in t o ≡ 0 → (r : Table) × (read_lines (text t) ≡ good r) × (tidy t ≡ true)
    go (good r) q e = (r, q, cases (tidy t) (λ h. h) (λ h. absurd (fault_number Unused (rw (h, fault_in) at e))))
    go (bad f l) q e = absurd (fault_number f e)

-- a table without a fault, written and read, is the same table
pub write_read : (t : Table) → Shaped t → fault t ≡ 0 → read_lines (text t) ≡ good t
write_read t v e =
    let f = fault_none t e in
    let a = accepted (text t) f.0 f.1 in
    f.1 ∙ ap good (sym (a.0.only a.1 t v f.2 refl))

-- the lines of an accepted text have no fault, and its calls fit
pub read_lines_lem : (s : List ℕ) (t : Table) → read_lines s ≡ good t → Lines t × Fitting t
read_lines_lem s t e = let a = accepted s t e in (a.0.lines, a.1)
