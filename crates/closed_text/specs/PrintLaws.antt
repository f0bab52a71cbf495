-- What the closing program prints, case by case.
use Rattle.std.specs.Prelude.{ℕ, zero, suc, ◌≡◌, refl, List, true, false}
use Rattle.std.proofs.Common.{sym, ◌∙◌, ap}
use Rattle.text.specs.declared.Reading.{Reading}
use Rattle.text.specs.Reader.{read}
use Rattle.text.specs.Writer.{text, fault}
use Rattle.text.proofs.RoundTrip.{read_good, read_fault}
use Rattle.closing.specs.declared.Closing.{Closing}
use Rattle.closing.specs.Close.{close_table, close}
use Rattle.closing.specs.Program.{refused_line, after_closing, after_reading, printed}
use Rattle.closed_text.specs.CloseLaws.{close_closed, close_open}

-- a table that was read has no fault
pub sound_read : (s : List ℕ) (r : Reading) → r ≡ read s → r.number ≡ 0 → 0 ≡ fault r.table
sound_read s r e h = let g : (read s).number ≡ 0 = rw e at h in rw e (sym (read_fault s (read s).table (read_good s g)))

module _ (s : List ℕ) (r : Reading) (e : r ≡ read s) where
  from_reading : after_reading r.number r ≡ printed s
  unfolding printed
  from_reading = rw e

  pub printed_refused : (r.number ≡ 0 → ⊥) → refused_line r.number r.line ≡ printed s
  printed_refused h = go r.number h ∙ from_reading
    where
      go : (n : ℕ) → (n ≡ 0 → ⊥) → refused_line n r.line ≡ after_reading n r
      go zero k = absurd (k refl)
      go (suc n) k = refl

  module _ (h : r.number ≡ 0) where
    from_closing : (c : Closing) → c ≡ close r.table → after_closing c.number c ≡ printed s
    from_closing c q = ap (λ (x : Closing). after_closing x.number x) q ∙ (rw h at from_reading)

    pub printed_closed : r.table.closed ≡ true → refused_line 9 0 ≡ printed s
    printed_closed d = from_closing _ (close_closed r.table 0 (sound_read s r e h) refl d)

    pub printed_open : r.table.closed ≡ false → text (close_table r.table) ≡ printed s
    printed_open d = from_closing _ (close_open r.table (close_table r.table) 0 (sound_read s r e h) refl d refl)
