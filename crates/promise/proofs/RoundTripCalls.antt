-- Both round trips for calls of the library: each premise is what the contract of a call says, as crates/bufshani states it, or `Shaped`, which
-- holds of every value of the declared type (`shaped`, text/ShapeLaws).
use Rattle.std.specs.Prelude.{ℕ, zero, suc, ◌≤◌, ◌≡◌, refl, Bool, true, false, List, [], ◌∷◌, ◌++◌, ltb, length, take, drop}
use Rattle.std.proofs.Common.{sym, ◌∙◌, ap, arith, le-ltb, ltb-false, length-append, length-drop}
use Rattle.table.specs.Shape.{Shaped}
use Rattle.table.specs.declared.Table.{Table}
use Rattle.text.specs.declared.Reading.{Reading}
use Rattle.text.specs.declared.Writing.{Writing}
use Rattle.text.specs.declared.Fault.TheVariants.{Short}
use Rattle.text.specs.Fault.{number}
use Rattle.text.specs.Reader.{read}
use Rattle.text.specs.Writer.{text, fault, Written, unwritten, whole, fitted, unless_fault, write_to}
use Rattle.text.proofs.RoundTrip.{read_good, read_fault}
use Rattle.promise.proofs.Theorems.{written_read, read_written}

-- `write(t, out)` answered w and left the buffer so
pub record WriteCall (t : Table) (out : List ℕ) (w : Writing) (left : List ℕ) : Type 0 where
  pub answered : w ≡ (write_to t out).answer
  pub held : left ≡ (write_to t out).buffer

take_first : (s r : List ℕ) → take (length s) (s ++ r) ≡ s
take_first [] r = refl
take_first (b ∷ s) r = ap (λ (l : List ℕ). b ∷ l) (take_first s r)

-- the writer's answer, by the fault, the text and whether the buffer is shorter
abbrev fits : List ℕ → List ℕ → Bool → Written
fits s out b = elim b [ true ↦ unwritten (number Short) out | false ↦ whole s out ]

write_is : (t : Table) (out : List ℕ) {n : ℕ} {s : List ℕ} {b : Bool} → fault t ≡ n → text t ≡ s → ltb (length out) (length s) ≡ b → write_to t out ≡ unless_fault n (fits s out b) out
unfolding write_to
write_is t out {n} {s} p q r = (λ ι. unless_fault (p ι) (fitted (q ι) out) out) ∙ (λ ι. unless_fault n (fits s out (r ι)) out)

-- a table that was written has no fault, and the buffer begins with its text
accepted : (t : Table) (out : List ℕ) → (write_to t out).answer.number ≡ 0 → (fault t ≡ 0) × (write_to t out ≡ whole (text t) out)
unfolding number
accepted t out e = go (fault t) refl (ltb (length out) (length (text t))) refl
  where
    go : (n : ℕ) → fault t ≡ n → (b : Bool) → ltb (length out) (length (text t)) ≡ b → (fault t ≡ 0) × (write_to t out ≡ whole (text t) out)
    go zero p true q = absurd (let z : ◌≡◌ {A = ℕ} 8 0 = ap (λ (x : Written). x.answer.number) (sym (write_is t out p refl q)) ∙ e in omega arith)
    go zero p false q = (p, write_is t out p refl q)
    go (suc n) p b q = absurd (let z : suc n ≡ 0 = ap (λ (x : Written). x.answer.number) (sym (write_is t out p refl q)) ∙ e in omega arith)

-- "a table written and read is the same table"
pub write_then_read : (t : Table) → Shaped t → (out : List ℕ) (w : Writing) (left : List ℕ) → WriteCall t out w left → w.number ≡ 0
    → (r : Reading) → r ≡ read (take w.len left) → r ≡ record { number = 0; line = 0; table = t }
write_then_read t s out w left m ok r e =
    let a = accepted t out (rw m.answered at ok) in
    let n : w.len ≡ length (text t) = ap (λ (x : Writing). x.len) m.answered ∙ ap (λ (x : Written). x.answer.len) a.1 in
    let b : left ≡ text t ++ drop (length (text t)) out = m.held ∙ ap (λ (x : Written). x.buffer) a.1 in
    e ∙ rw (n, b, take_first (text t) (drop (length (text t)) out)) (written_read t s a.0)

-- the text written fits the buffer, which keeps its length; on a refusal nothing is written
abbrev Fits : List ℕ → Written → Type 0
Fits out x = (length x.buffer ≡ length out) × (x.answer.len ≤ length out)

whole_fits : (s out : List ℕ) → length s ≤ length out → Fits out (whole s out)
whole_fits s out h = (simp (length-append, length-drop) (omega arith), h)

written_fits : (t : Table) (out : List ℕ) → Fits out (write_to t out)
written_fits t out = go (fault t) refl (ltb (length out) (length (text t))) refl
  where
    go : (n : ℕ) → fault t ≡ n → (b : Bool) → ltb (length out) (length (text t)) ≡ b → Fits out (write_to t out)
    go zero p true q = rw (write_is t out p refl q) (refl, omega arith)
    go zero p false q = rw (write_is t out p refl q) (whole_fits (text t) out (ltb-false (length out) (length (text t)) q))
    go (suc n) p b q = rw (write_is t out p refl q) (refl, omega arith)

-- the buffer keeps its length, whatever the writer answers
pub write_keeps_length : (t : Table) (out : List ℕ) (w : Writing) (left : List ℕ) → WriteCall t out w left → length left ≡ length out
write_keeps_length t out w left m = ap length m.held ∙ (written_fits t out).0

-- what is written fits the buffer, so that `&out[..w.len]` is a part of it
pub write_fits : (t : Table) (out : List ℕ) (w : Writing) (left : List ℕ) → WriteCall t out w left → w.len ≤ length left
write_fits t out w left m =
    let n : w.len ≡ (write_to t out).answer.len = ap (λ (x : Writing). x.len) m.answered in
    omega (arith, write_keeps_length t out w left m, (written_fits t out).1)

-- "and an accepted text read and written is the same text", with every byte behind it as before
pub read_then_write : (s : List ℕ) (r : Reading) → r ≡ read s → r.number ≡ 0
    → (out : List ℕ) → length s ≤ length out → (w : Writing) (left : List ℕ) → WriteCall r.table out w left
    → (w ≡ record { number = 0; line = 0; len = length s }) × (left ≡ s ++ drop (length s) out)
read_then_write s r e ok out h w left m =
    let ok' : (read s).number ≡ 0 = rw e at ok in
    let f : fault r.table ≡ 0 = rw e (read_fault s (read s).table (read_good s ok')) in
    let t : text r.table ≡ s = rw e (read_written s ok') in
    let a : write_to r.table out ≡ whole s out = write_is r.table out f t (le-ltb (length out) (length s) h) in
    (m.answered ∙ ap (λ (x : Written). x.answer) a, m.held ∙ ap (λ (x : Written). x.buffer) a)
