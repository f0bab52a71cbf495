-- What is printed, case by case.
use Rattle.std.specs.Prelude.{ℕ, zero, suc, ◌-◌, ◌<◌, ◌≡◌, refl, true, false, List, map, ℤ}
use Rattle.std.proofs.Common.{arith, sym, ◌∙◌, ap, subst}
use Rattle.table.specs.declared.Table.{Table}
use Rattle.text.specs.declared.Reading.{Reading}
use Rattle.text.specs.Reader.{read}
use Rattle.text.specs.Writer.{fault}
use Rattle.text.proofs.RoundTrip.{read_good, read_fault}
use Rattle.closing.specs.Program.{refused_line}
use Rattle.machine.specs.declared.State.{State}
use Rattle.machine.specs.State.{first_state}
use Rattle.exploring.specs.declared.Found.TheVariants.{Nothing}
use Rattle.exploring.specs.declared.Exploring.{Exploring}
use Rattle.exploring.specs.Answers.{refusal, found_answer}
use Rattle.exploring.specs.Explore.{sought, explore}
use Rattle.exploring.proofs.RefusalLaws.{refused_open, refused_deep, explore_refused}
use Rattle.exploring.specs.Program.{none_line, answer_text, explored_text, after_reading, explore_text}
use Rattle.put.specs.Put.{Put}
use Rattle.put.specs.PutLaws.{put_more}
use Rattle.explorer.specs.declared.Sought.{Sought}
use Rattle.explorer.specs.Says.{Says}
use Rattle.explore_answer.specs.Rows.{step_of, no_rows}
use Rattle.explore_answer.specs.Ready.{Allowed, ending, met_bound, found_none}
use Rattle.explore_report.specs.Rows.{rows_text}
use Rattle.explore_text.specs.Text.{Answered, Met}
use Rattle.explore_text.specs.RowText.{rows_text_lem}
use Rattle.explore_text.specs.Reached.{Reached}

-- ---- a table without a fault

module _ {t : Table} {depth : ℕ} (bound : ℕ) {out : List ℕ} where
  -- an answer that is not 18
  prints : {out' : List ℕ} {len : ℕ} (e : Exploring) → e ≡ explore t depth bound → (e.number ≡ 18 → ⊥) → Put 131072 out 0 (answer_text t e e.number) out' len
      → Answered t depth bound out out' len
  prints e q n p = record { printed = rw (← q) p; enough = λ k. n (ap (λ (x : Exploring). x.number) q ∙ k) }

  module _ {out' : List ℕ} {len : ℕ} where
    pub prints_open : fault t ≡ 0 → t.closed ≡ false → Put 38 out 0 (refused_line 9 0) out' len → Answered t depth bound out out' len
    prints_open z c p = prints (refusal 9) (explore_refused t depth bound 9 (refused_open t depth z c) (λ e. omega arith)) (λ e. omega arith) (put_more (omega arith) p)

    pub prints_deep : fault t ≡ 0 → t.closed ≡ true → 24 < depth → Put 38 out 0 (refused_line 17 0) out' len → Answered t depth bound out out' len
    prints_deep z c l p = prints (refusal 17) (explore_refused t depth bound 17 (refused_deep t depth z c l) (λ e. omega arith)) (λ e. omega arith) (put_more (omega arith) p)

  module _ {r : Sought} {marks : List ℕ} {cells : List (List ℤ)} {rows : List (List ℕ)} (a : Allowed t depth) (h : Says 0 (first_state t) no_rows (sought t depth bound) r marks cells rows) where
    pub prints_met : r.kind ≡ 2 → Met t depth bound out out
    prints_met e = record { met = sym (ap (λ (x : Exploring). x.number) (met_bound bound a h e)); same = refl }

    pub prints_none : {out' : List ℕ} {len : ℕ} → r.kind ≡ 0 → Put 38 out 0 (none_line (bound - r.left)) out' len → Answered t depth bound out out' len
    prints_none e p = prints (ending Nothing (map step_of rows) 0 (bound - r.left)) (found_none bound a h e) (λ e. omega arith) (put_more (omega arith) p)

  pub prints_found : {r : Sought} {marks : List ℕ} {cells : List (List ℤ)} {rows : List (List ℕ)} {s : State} {out' : List ℕ} {len : ℕ} → Allowed t depth
      → (f : Reached t depth bound r marks cells rows) → s ≡ f.x.state → Put 131072 out 0 (rows_text t rows r.steps r.failed (bound - r.left) s) out' len
      → Answered t depth bound out out' len
  prints_found {r = r} {rows = rows} {s = s} {out' = out'} {len = len} a f e p =
      let q : rows_text t rows r.steps r.failed (bound - r.left) s ≡ answer_text t (found_answer f.p f.x (bound - r.left)) 0 =
      (λ ι. rows_text t (f.rows_are ι) (f.steps ι) (f.failed ι) (bound - r.left) (e ι))
      ∙ rows_text_lem f.p (omega (arith, f.leads.short, a.shallow)) t a.sound a.closed f.x (bound - r.left) f.leads.path
      in
      prints (found_answer f.p f.x (bound - r.left)) (sym f.answer) (λ e. omega arith) (subst (λ (u : List ℕ). Put 131072 out 0 u out' len) q p)

-- ---- a text

module _ (s : List ℕ) (depth bound : ℕ) {r : Reading} (e : r ≡ read s) where
  from_text : after_reading r.number r depth bound ≡ explore_text s depth bound
  unfolding explore_text
  from_text = rw e

  -- a table that was read has no fault
  pub text_sound : r.number ≡ 0 → fault r.table ≡ 0
  text_sound h = let g : (read s).number ≡ 0 = rw e at h in rw e (read_fault s (read s).table (read_good s g))

  pub text_refused : {out out' : List ℕ} {len : ℕ} → (r.number ≡ 0 → ⊥) → Put 38 out 0 (refused_line r.number r.line) out' len → Put 131072 out 0 (explore_text s depth bound) out' len
  text_refused h p = rw (← from_text, ← go r.number h) (put_more (omega arith) p)
    where
      go : (n : ℕ) → (n ≡ 0 → ⊥) → refused_line n r.line ≡ after_reading n r depth bound
      go zero k = absurd (k refl)
      go (suc n) k = refl

  pub text_explored : {out out' : List ℕ} {len : ℕ} → r.number ≡ 0 → Put 131072 out 0 (explored_text r.table depth bound) out' len → Put 131072 out 0 (explore_text s depth bound) out' len
  text_explored h p = rw (← from_text, h) p

-- the bound is met: nothing is printed yet
pub prints_bound : {t : Table} {depth bound : ℕ} {out out' out'' : List ℕ} {len : ℕ} → Met t depth bound out out' → Put 38 out' 0 (refused_line 18 0) out'' len
    → Put 131072 out 0 (explored_text t depth bound) out'' len
prints_bound h p = rw (h.met, ← h.same) (put_more (omega arith) p)
