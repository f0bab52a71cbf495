-- What nodes are judged by, and the answer, as the code finds them.
use Rattle.std.specs.Prelude.{ℕ, ◌+◌, ◌≤◌, ◌<◌, ◌≡◌, List, map, eqb, length, get_or, set, replicate}
use Rattle.std.proofs.Common.{sym, ◌∙◌, arith, length-set, get_or-set_same, get_or-set_other, ext_get_or, eqb-true}
use Rattle.std.proofs.lemmas.List.{length-map, length-replicate}
use Rattle.std.proofs.lemmas.Bool.{eqb-false}
use Rattle.table.specs.Cases.{cases}
use Rattle.table.specs.Table.{proc_at}
use Rattle.table.specs.declared.Table.{Table}
use Rattle.late_nodes.specs.declared.Callee.{Callee}
use Rattle.late_nodes.specs.declared.Terms.{Terms}
use Rattle.late_nodes.specs.Terms.{no_callee, callee_of, terms_of}
use Rattle.late_nodes.specs.NodeLaws.{callee_of_lem}

-- ---- what nodes are judged by, filled up to place n

pub record Filled (t : Table) (n : ℕ) (xs : List Callee) : Type 0 where
  pub long : length xs ≡ 8
  pub each : (k : ℕ) → k < n → get_or xs k no_callee ≡ callee_of (proc_at t k)

pub filled_none : (t : Table) → Filled t 0 (replicate 8 no_callee)
filled_none t = record { long = length-replicate 8 no_callee; each = λ k l. absurd (omega arith) }

pub filled_more : (t : Table) (n : ℕ) (xs : List Callee) → n < 8 → Filled t n xs → Filled t (n + 1) (set xs n (callee_of (proc_at t n)))
filled_more t n xs l f = record {
  long = length-set xs n (callee_of (proc_at t n)) ∙ f.long;
  each = λ k u. cases (eqb k n)
      (λ e. rw (eqb-true k n e) (get_or-set_same xs n (callee_of (proc_at t n)) no_callee (omega (arith, f.long))))
      (λ e. get_or-set_other xs n k (callee_of (proc_at t n)) no_callee (eqb-false k n e) ∙ f.each k (omega (arith, eqb-false k n e)));
}

filled_all : (t : Table) (n : ℕ) (xs : List Callee) → length t.proc ≡ 8 → 8 ≤ n → Filled t n xs → xs ≡ map callee_of t.proc
filled_all t n xs e l f = ext_get_or no_callee xs (map callee_of t.proc) (f.long ∙ sym (length-map t.proc callee_of ∙ e)) (λ k u. f.each k (omega (arith, f.long)) ∙ sym (callee_of_lem t k))

pub filled_terms : (t : Table) (n : ℕ) (xs : List Callee) → length t.proc ≡ 8 → 8 ≤ n → Filled t n xs → ◌≡◌ {A = Terms} (record { closed = t.closed; callee = xs; queue = t.queue }) (terms_of t)
filled_terms t n xs e l f = λ ι. record { closed = t.closed; callee = filled_all t n xs e l f ι; queue = t.queue }
