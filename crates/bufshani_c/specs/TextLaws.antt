-- The answers, case by case.
use Rattle.std.specs.Prelude.{ℕ, zero, suc, ◌≡◌, refl, List, ℤ}
use Rattle.std.proofs.Common.{◌∙◌, ap}
use Rattle.text.specs.declared.Reading.{Reading}
use Rattle.text.specs.Reader.{read}
use Rattle.text.specs.Writer.{text, fitted}
use Rattle.closed_text.specs.PrintLaws.{sound_read}
use Rattle.writer.specs.WriteLaws.{write_good}
use Rattle.machine.specs.Run.{run}
use Rattle.bufshani_c.specs.Texts.{Coded, after_writing, rewriting, rewritten, after_running, running, stepped}
use Rattle.codes.specs.Code.{packed}

module _ (s out : List ℕ) (r : Reading) (e : r ≡ read s) where
  from_reading : rewriting r.number r out ≡ rewritten s out
  unfolding rewritten
  from_reading = rw e

  pub rewritten_refused : (r.number ≡ 0 → ⊥) → (let x : Coded = record { answer = packed r.number r.line; buffer = out } in x) ≡ rewritten s out
  rewritten_refused h = go r.number h ∙ from_reading
    where
      go : (n : ℕ) → (n ≡ 0 → ⊥) → (let x : Coded = record { answer = packed n r.line; buffer = out } in x) ≡ rewriting n r out
      go zero k = absurd (k refl)
      go (suc n) k = refl

  pub rewritten_good : r.number ≡ 0 → after_writing (fitted (text r.table) out) ≡ rewritten s out
  rewritten_good h = ap after_writing (write_good r.table out 0 (sound_read s r e h) refl) ∙ (rw h at from_reading)

module _ (s ks : List ℕ) (vs : List ℤ) (most : ℕ) (log : List ℕ) (r : Reading) (e : r ≡ read s) where
  from_text : running r.number r ks vs most log ≡ stepped s ks vs most log
  unfolding stepped
  from_text = rw e

  pub stepped_refused : (r.number ≡ 0 → ⊥) → (let x : Coded = record { answer = packed r.number r.line; buffer = log } in x) ≡ stepped s ks vs most log
  stepped_refused h = go r.number h ∙ from_text
    where
      go : (n : ℕ) → (n ≡ 0 → ⊥) → (let x : Coded = record { answer = packed n r.line; buffer = log } in x) ≡ running n r ks vs most log
      go zero k = absurd (k refl)
      go (suc n) k = refl

  pub stepped_good : r.number ≡ 0 → after_running (run r.table ks vs most log) ≡ stepped s ks vs most log
  stepped_good h = rw h at from_text
