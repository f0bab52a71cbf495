-- The logs of the two runs: entries that agree, written at the same place, leave logs that agree.
use Rattle.std.specs.Prelude.{ℕ, suc, ◌+◌, ◌*◌, ◌<◌, ◌≤◌, ◌≡◌, true, List, ◌∷◌, length, get_or, eqb, ℤ}
use Rattle.std.proofs.Common.{arith, add-zero, add_assoc, sym, ◌∙◌, ap, inl, inr, true≢false, eqb-true}
use Rattle.std.proofs.Math.Option.{Option, none}
use Rattle.std.proofs.lemmas.List.Edits.{sets}
use Rattle.std.proofs.lemmas.Bool.{eqb-false}
use Rattle.table.specs.Cases.{cases}
use Rattle.table.specs.declared.Table.{Table}
use Rattle.closing.specs.Dirty.{Unkept}
use Rattle.closing.proofs.KeptLaws.{unkept_is}
use Rattle.machine.specs.Step.{Entry}
use Rattle.machine.specs.Run.{flagged, entry_bytes, SameLog}
use Rattle.machine.proofs.LogLaws.{byte_old, byte_new}
use Rattle.promise.proofs.Sim.Locals.{kept_at}
use Rattle.promise.proofs.Sim.Exec.{SameValue}
use Rattle.promise.proofs.Sim.Step.{SameEntry}

-- the eight bytes of an entry of the open log, which is that of a kept node, and of the closed one
pub record SameBytes (t : Table) (f f' : ℕ → ℕ) : Type 0 where
  pub keeps : kept_at t (f 1) (f 2) ≡ true
  pub task : f 0 ≡ f' 0
  pub proc : f 1 ≡ f' 1
  pub node : f 2 ≡ f' 2
  pub flag : f' 3 ≡ 1 → f 3 ≡ 1
  pub value : (b : ℕ) → b < 4 → f' 3 ≡ 1 → f (4 + b) ≡ f' (4 + b)

-- byte b of entry i
abbrev pub byte : List ℕ → ℕ → ℕ → ℕ
byte log i b = get_or log (8 * i + b) 0

abbrev pub SameLogs : Table → ℕ → List ℕ → List ℕ → Type 0
SameLogs t n log log' = (i : ℕ) → i < n → SameBytes t (byte log i) (byte log' i)

pub same_log : (t : Table) (n : ℕ) (log log' : List ℕ) → SameLogs t n log log' → SameLog n log log'
same_log t n log log' q = record {
  task = λ i l. rw add-zero at (q i l).task;
  proc = λ i l. (q i l).proc;
  node = λ i l. (q i l).node;
  flag = λ i l. (q i l).flag;
  value = λ i b l c e. rw add_assoc ((q i l).value b c e);
}

pub kept_log : (t : Table) (n : ℕ) (log log' : List ℕ) → SameLogs t n log log' → (i : ℕ) → i < n → Unkept t (byte log i 1) (byte log i 2) → ⊥
kept_log t n log log' q i l u = true≢false (sym (q i l).keeps ∙ (unkept_is t _ _).1 u)

bytes_by : (t : Table) (f f' g g' : ℕ → ℕ) → ((b : ℕ) → b < 8 → g b ≡ f b) → ((b : ℕ) → b < 8 → g' b ≡ f' b) → SameBytes t f f' → SameBytes t g g'
bytes_by t f f' g g' e e' r = record {
  keeps = rw (e 1 (omega arith), e 2 (omega arith)) r.keeps;
  task = e 0 (omega arith) ∙ r.task ∙ sym (e' 0 (omega arith));
  proc = e 1 (omega arith) ∙ r.proc ∙ sym (e' 1 (omega arith));
  node = e 2 (omega arith) ∙ r.node ∙ sym (e' 2 (omega arith));
  flag = λ k. e 3 (omega arith) ∙ r.flag (sym (e' 3 (omega arith)) ∙ k);
  value = λ b l k. e (4 + b) (omega arith) ∙ r.value b l (sym (e' 3 (omega arith)) ∙ k) ∙ sym (e' (4 + b) (omega arith));
}

entry_bytes_lem : (t : Table) (e e' : Entry) → SameEntry t e e' → SameBytes t (λ b. get_or (entry_bytes e) b 0) (λ b. get_or (entry_bytes e') b 0)
entry_bytes_lem t e e' r = record {
  keeps = r.keeps;
  task = r.task;
  proc = r.proc;
  node = r.node;
  flag = λ k. flags e.value e'.value r.value k;
  value = λ b l k. values b r.value k;
}
  where
    unflagged : (o : Option ℤ) → o ≡ none → get_or (flagged o) 0 0 ≡ 1 → ⊥
    unflagged o i k = let z : ◌≡◌ {A = ℕ} 0 1 = sym (ap (λ (w : Option ℤ). get_or (flagged w) 0 0) i) ∙ k in absurd (omega arith)

    flags : (o o' : Option ℤ) → SameValue o o' → get_or (flagged o') 0 0 ≡ 1 → get_or (flagged o) 0 0 ≡ 1
    flags o o' (inl i) k = absurd (unflagged o' i k)
    flags o o' (inr i) k = rw i k

    values : (b : ℕ) → SameValue e.value e'.value → get_or (flagged e'.value) 0 0 ≡ 1 → get_or (entry_bytes e) (4 + b) 0 ≡ get_or (entry_bytes e') (4 + b) 0
    values b (inl i) k = absurd (unflagged e'.value i k)
    values b (inr i) k = λ j. get_or (r.task j ∷ r.proc j ∷ r.node j ∷ flagged (i j)) (4 + b) 0

pub log_next : (t : Table) (n : ℕ) (log log' : List ℕ) (e e' : Entry) → SameLogs t n log log' → SameEntry t e e' → length log' ≡ length log → 8 * n + 8 ≤ length log
    → SameLogs t (suc n) (sets log (8 * n) (entry_bytes e)) (sets log' (8 * n) (entry_bytes e'))
log_next t n log log' e e' q r size room i l = cases (eqb i n)
    (λ k. rw (eqb-true i n k) (bytes_by t (λ b. get_or (entry_bytes e) b 0) (λ b. get_or (entry_bytes e') b 0) _ _ (λ b m. byte_new log n b e room m) (λ b m. byte_new log' n b e' (omega arith) m) (entry_bytes_lem t e e' r)))
    (λ k. let l' : i < n = omega (arith, eqb-false i n k) in
    bytes_by t (byte log i) (byte log' i) _ _ (λ b m. byte_old log n i b e l' m) (λ b m. byte_old log' n i b e' l' m) (q i l'))
