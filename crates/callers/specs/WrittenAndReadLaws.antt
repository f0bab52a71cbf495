-- A table written and read back, by what the contracts of `write` and `read` say.
use Rattle.std.specs.Prelude.{ℕ, zero, suc, ◌≡◌, refl, List, [], take}
use Rattle.std.proofs.Common.{sym, ◌∙◌, ap}
use Rattle.table.specs.Shape.{Shaped}
use Rattle.table.specs.Table.{no_table}
use Rattle.table.specs.declared.Table.{Table}
use Rattle.text.specs.declared.Reading.{Reading}
use Rattle.text.specs.declared.Writing.{Writing}
use Rattle.text.specs.Line.{after, field_of, line}
use Rattle.text.specs.Reader.{read, read_lines, table}
use Rattle.promise.proofs.RoundTripCalls.{WriteCall, write_then_read}
use Rattle.callers.specs.WrittenAndRead.{read_back, written_and_read}

-- an empty text is refused, so its table is all 0
pub empty_table : {r : Reading} → r ≡ read [] → r.table ≡ no_table
unfolding read read_lines table line field_of after
empty_table e = ap (λ (x : Reading). x.table) e

module _ (t : Table) (out : List ℕ) (w : Writing) (left : List ℕ) (m : WriteCall t out w left) where
  by_number : {r : Reading} → r ≡ read_back t w.number → r ≡ written_and_read t out
  by_number e = e ∙ ap (λ (x : Writing). read_back t x.number) m.answered

  pub refused_is : {r : Reading} → (w.number ≡ 0 → ⊥) → r ≡ record { number = w.number; line = 0; table = no_table } → r ≡ written_and_read t out
  refused_is h e = by_number (e ∙ go w.number h)
    where
      go : (n : ℕ) → (n ≡ 0 → ⊥) → record { number = n; line = 0; table = no_table } ≡ read_back t n
      go zero z = absurd (z refl)
      go (suc n) z = refl

  pub accepted_is : {r : Reading} → Shaped t → w.number ≡ 0 → r ≡ read (take w.len left) → r ≡ written_and_read t out
  accepted_is s ok e = by_number (write_then_read t s out w left m ok _ e ∙ ap (read_back t) (sym ok))
