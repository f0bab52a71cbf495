-- Laws of the counts of variables.
use Rattle.std.specs.Prelude.{ℕ, ◌+◌, ◌≤◌, ◌<◌, ◌≡◌, List, length, get_or, set}
use Rattle.std.proofs.Common.{sym, ◌∙◌, ap, arith, length-set, get_or-set_same, get_or-set_other}
use Rattle.std.proofs.Math.ListN.{get_or-eq_default}
use Rattle.table.specs.Table.{outside}
use Rattle.table.specs.declared.Proc.{Proc}
use Rattle.text.proofs.NumberLaws.{by_order}
use Rattle.report_tasks.specs.Rows.{VariableCounts}

-- the counts of the procedures below i are there
pub record Counting (procs : List Proc) (counts : List ℕ) (i : ℕ) : Type 0 where
  pub size : length counts ≡ 8
  pub within : i ≤ 8
  pub same : (p : ℕ) → p < i → get_or counts p 0 ≡ (get_or procs p outside).vars

pub counting_start : {procs : List Proc} {counts : List ℕ} → length counts ≡ 8 → Counting procs counts 0
counting_start h = record { size = h; within = omega arith; same = λ p l. absurd (omega arith) }

pub counting_turn : {procs : List Proc} {counts : List ℕ} {i : ℕ} → Counting procs counts i → i < 8 → Counting procs (set counts i (get_or procs i outside).vars) (i + 1)
counting_turn {procs} {counts} {i} a h = record {
  size = length-set counts i _ ∙ a.size;
  within = omega arith;
  same = λ p l. by_order p i
      (λ s. get_or-set_other counts i p _ 0 (λ e. omega arith) ∙ a.same p s)
      (λ g. let e : p ≡ i = omega arith in rw e (get_or-set_same counts i _ 0 (omega (arith, a.size))));
}

pub counting_end : {procs : List Proc} {counts : List ℕ} {i : ℕ} → length procs ≡ 8 → Counting procs counts i → 8 ≤ i → VariableCounts procs counts
counting_end {procs} {counts} {i} n a h = record {
  same = λ p. by_order p 8
      (λ s. a.same p (omega arith))
      (λ g. get_or-eq_default counts 0 (omega (arith, a.size)) ∙ ap (λ (q : Proc). q.vars) (sym (get_or-eq_default procs outside (omega arith))));
}

pub count_past : (counts : List ℕ) (p : ℕ) → length counts ≡ 8 → 8 ≤ p → 0 ≡ get_or counts p 0
count_past counts p e h = sym (get_or-eq_default counts 0 (omega arith))
