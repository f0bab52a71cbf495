-- A log's bytes after an entry is stored.
use Rattle.std.specs.Prelude.{ℕ, zero, suc, ◌+◌, ◌*◌, ◌<◌, ◌≤◌, ◌≡◌, refl, List, [], ◌∷◌, length, get_or, set}
use Rattle.std.proofs.Common.{arith, add-zero, add-suc, suc-add, ◌∙◌, length-set, get_or-set_same, get_or-set_other}
use Rattle.std.proofs.lemmas.List.Edits.{sets}
use Rattle.machine.specs.Step.{Entry}
use Rattle.machine.specs.Run.{entry_bytes}
use Rattle.machine.specs.Report.{logged}
use Rattle.machine.proofs.ClosedRun.{bytes_length}

sets_before : {A : Type 0} (vs l : List A) (i j : ℕ) (d : A) → j < i → get_or (sets l i vs) j d ≡ get_or l j d
sets_before [] l i j d h = refl
sets_before (v ∷ vs) l i j d h = sets_before vs (set l i v) (suc i) j d (omega arith) ∙ get_or-set_other l i j v d (λ e. absurd (omega arith))

sets_at : {A : Type 0} (vs l : List A) (i b : ℕ) (d : A) → i + length vs ≤ length l → b < length vs → get_or (sets l i vs) (i + b) d ≡ get_or vs b d
sets_at [] l i b d h k = absurd (omega arith)
sets_at (v ∷ vs) l i zero d h k = rw add-zero (sets_before vs (set l i v) (suc i) i d (omega arith) ∙ get_or-set_same l i v d (omega arith))
sets_at (v ∷ vs) l i (suc b) d h k = rw (add-suc, ← suc-add i b) (sets_at vs (set l i v) (suc i) b d (rw length-set (omega arith)) (omega arith))

-- byte b of entry i after the store of entry n
pub byte_old : (log : List ℕ) (n i b : ℕ) (e : Entry) → i < n → b < 8 → logged (sets log (8 * n) (entry_bytes e)) i b ≡ logged log i b
byte_old log n i b e l m = sets_before (entry_bytes e) log (8 * n) (8 * i + b) 0 (omega arith)

pub byte_new : (log : List ℕ) (n b : ℕ) (e : Entry) → 8 * n + 8 ≤ length log → b < 8 → logged (sets log (8 * n) (entry_bytes e)) n b ≡ get_or (entry_bytes e) b 0
byte_new log n b e l m = sets_at (entry_bytes e) log (8 * n) b 0 (rw (bytes_length e) l) (rw (bytes_length e) m)
