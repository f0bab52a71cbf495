-- Laws of a step's number, and of how long its line is.
use Rattle.std.specs.Prelude.{ℕ, ◌+◌, ◌<◌, ◌≤◌, List, [], ◌∷◌, ◌++◌, length}
use Rattle.std.proofs.Common.{arith, length-append}
use Rattle.text.specs.Number.{bytes, digits}
use Rattle.put.specs.Put.{Put, PutField}
use Rattle.put.specs.PutLaws.{put_after}
use Rattle.put_fields.specs.DigitLaws.{digits_few}
use Rattle.machine.specs.Report.{logged, spell_value, logged_value, step_fields, step_line}
use Rattle.report_steps.specs.Entries.{Entered}

-- it has at most five digits
pub short : {l m key : List ℕ} {at p k : ℕ} (n : ℕ) → n < 100000 → PutField k l at key (digits n) m p → PutField (length key + 5) l at key (digits n) m p
short {key = key} n h a = record {
  put = record { few = omega (arith, length-append key (digits n), digits_few 4 n h); bytes = a.put.bytes; same = a.put.same; next = a.put.next };
}

-- a number of at most k digits under its key, before the rest of its line
field_short : (key : List ℕ) (n k m : ℕ) (rest : List ℕ) → length (digits n) ≤ k → length rest ≤ m → length (key ++ (digits n ++ rest)) ≤ length key + k + m
field_short key n k m rest h g = omega (arith, length-append key (digits n ++ rest), length-append (digits n) rest)

-- the longest line: `step=99999 task=3 proc=7 node=31 flag=1 value=-2147483648`
pub fields_short : (i : ℕ) (log : List ℕ) (j : ℕ) → i < 100000 → length (bytes " value=" ++ spell_value (logged_value log j)) ≤ 18 → Entered log j → length (step_fields i log j) ≤ 57
fields_short i log j h v e =
    field_short (bytes "step=") i 5 47 _ (digits_few 4 i h)
    (field_short (bytes " task=") (logged log j 0) 1 40 _ (digits_few 0 _ e.task)
    (field_short (bytes " proc=") (logged log j 1) 1 33 _ (digits_few 0 _ e.proc)
    (field_short (bytes " node=") (logged log j 2) 2 25 _ (digits_few 1 _ e.node)
    (field_short (bytes " flag=") (logged log j 3) 1 18 _ (digits_few 0 _ e.flag) v))))

pub line_short : {k p r i : ℕ} {l m n log : List ℕ} {at : ℕ} → (Entered log i → length (step_fields i log i) ≤ 57) → Entered log i → Put k l at (step_fields i log i) m p → Put 1 m p (10 ∷ []) n r
    → Put 58 l at (step_line log i) n r
line_short {p = p} {i = i} {l = l} {m = m} {log = log} {at = at} h e a b =
    let f : Put 57 l at (step_fields i log i) m p = record { few = h e; bytes = a.bytes; same = a.same; next = a.next } in
    put_after f b
