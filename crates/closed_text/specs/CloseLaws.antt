-- The closer's answer, case by case.
use Rattle.std.specs.Prelude.{ℕ, zero, suc, ◌≡◌, refl, Bool, true, false}
use Rattle.std.proofs.Common.{sym, ◌∙◌, ap}
use Rattle.table.specs.Table.{no_table}
use Rattle.table.specs.declared.Table.{Table}
use Rattle.text.specs.Writer.{fault}
use Rattle.closing.specs.declared.Closing.{Closing}
use Rattle.closing.specs.Close.{close_table, refusal, answer, close}

pub refusal_is : (n : ℕ) (u : Table) → u ≡ no_table → (let r : Closing = record { number = n; line = 0; table = u } in r) ≡ refusal n
refusal_is n u e = ap (λ (x : Table). let r : Closing = record { number = n; line = 0; table = x } in r) e

abbrev made : Table → Closing
made u = record { number = 0; line = 0; table = u }

answer_is : (t : Table) (n : ℕ) → n ≡ fault t → (b : Bool) → t.closed ≡ b → answer t n b ≡ close t
unfolding close
answer_is t n e b h = rw (e, ← h)

pub close_faulty : (t : Table) (n : ℕ) → n ≡ fault t → (n ≡ 0 → ⊥) → refusal n ≡ close t
close_faulty t zero e h = absurd (h refl)
close_faulty t (suc n) e h = answer_is t (suc n) e t.closed refl

pub close_closed : (t : Table) (n : ℕ) → n ≡ fault t → n ≡ 0 → t.closed ≡ true → refusal 9 ≡ close t
close_closed t zero e h c = answer_is t zero e true c
close_closed t (suc n) e h c = answer_is t zero (sym h ∙ e) true c

pub close_open : (t u : Table) (n : ℕ) → n ≡ fault t → n ≡ 0 → t.closed ≡ false → u ≡ close_table t → made u ≡ close t
close_open t u n e h c r = ap made r ∙ answer_is t zero (sym h ∙ e) false c
