-- An answer is a value or a stop, and not both.
use Rattle.std.specs.Prelude.{◌≡◌, Result, Ok, Err}
use Rattle.std.proofs.Common.{ap, subst}

abbrev Fine : {T E : Type 0} → Result T E → Type 0
Fine (Ok x) = Unit {0}
Fine (Err c) = ⊥

pub ok_err : {T E : Type 0} {x : T} {c : E} → ◌≡◌ {A = Result T E} (Ok x) (Err c) → ⊥
ok_err {T} {E} e = subst (λ (r : Result T E). Fine r) e tt

abbrev value_or : {T E : Type 0} → T → Result T E → T
value_or d (Ok x) = x
value_or d (Err c) = d

pub ok_same : {T E : Type 0} {x y : T} → ◌≡◌ {A = Result T E} (Ok x) (Ok y) → x ≡ y
ok_same {T} {E} {x} e = ap (value_or x) e

abbrev stop_or : {T E : Type 0} → E → Result T E → E
stop_or d (Ok x) = d
stop_or d (Err c) = c

pub err_same : {T E : Type 0} {c d : E} → ◌≡◌ {A = Result T E} (Err c) (Err d) → c ≡ d
err_same {T} {E} {c} e = ap (stop_or c) e
