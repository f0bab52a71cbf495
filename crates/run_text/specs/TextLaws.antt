-- Laws of a text's run, case by case.
use Rattle.std.specs.Prelude.{ℕ, zero, suc, ◌+◌, ◌≤◌, min, ◌≡◌, refl, List, ◌++◌, length, take, drop, ℤ}
use Rattle.std.proofs.Common.{sym, ◌∙◌, ap, arith, length-append, take-append-drop, drop_of_length-le, take_all, length-take-le}
use Rattle.table.specs.Shape.{Shaped}
use Rattle.table.specs.declared.Table.{Table}
use Rattle.text.specs.declared.Reading.{Reading}
use Rattle.text.specs.Reader.{read}
use Rattle.text.specs.Writer.{fault}
use Rattle.text.proofs.NumberLaws.{by_order}
use Rattle.text.proofs.RoundTrip.{read_good, read_fault}
use Rattle.closing.specs.Program.{refused_line}
use Rattle.machine.specs.declared.Running.{Running}
use Rattle.machine.specs.Run.{run}
use Rattle.machine.specs.Report.{report}
use Rattle.machine.specs.Program.{reported, run_text}
use Rattle.put.specs.Put.{Put}
use Rattle.put.specs.PutLaws.{put_more}
use Rattle.report.specs.Rows.{Reportable}
use Rattle.writer.specs.CountsLaws.{counts}
use Rattle.run_text.specs.RunLaws.{sound}
use Rattle.run_text.specs.EntryLaws.{all_entered}
use Rattle.run_text.specs.Text.{run_report, log_of, log_after, PartRun, TextRun}

-- ---- a run's report

pub reportable : (t : Table) (ks : List ℕ) (vs : List ℤ) (m : ℕ) (l : List ℕ) {r : Running} {l' : List ℕ} → Shaped t → 0 ≡ fault t → length l ≤ 800000
    → r ≡ (run t ks vs m l).answer → l' ≡ (run t ks vs m l).log → Reportable t r l'
reportable t ks vs m l w z h e d =
    let c = counts t (sym z) in
    let o = sound t ks vs m l in
    rw (e, d) (record {
      shown = record { tasks = c.front.tasks; sems = c.front.sems; queues = c.front.queues; depth = record { few = λ k i. o.few.few k } };
      steps = omega (arith, o.steps);
      logged = omega (arith, o.steps, o.size);
      entries = all_entered t ks vs m l w (sym z);
    })

pub report_is : {k : ℕ} {b a : List ℕ} {n : ℕ} (t : Table) (ks : List ℕ) (vs : List ℤ) (m : ℕ) (l : List ℕ) {r : Running} {l' : List ℕ}
    → r ≡ (run t ks vs m l).answer → l' ≡ (run t ks vs m l).log → Put k b 0 (report t r l') a n → Put k b 0 (run_report t ks vs m l) a n
report_is t ks vs m l e d p = rw (← e, ← d) p

-- ---- a text

module _ (s ks : List ℕ) (vs : List ℤ) (m : ℕ) (l : List ℕ) (r : Reading) (e : r ≡ read s) where
  from_text : reported r.number r ks vs m l ≡ run_text s ks vs m l
  unfolding run_text
  from_text = rw e

  from_log : log_of r.number r ks vs m l ≡ log_after s ks vs m l
  from_log = rw e

  pub text_refused : (r.number ≡ 0 → ⊥) → refused_line r.number r.line ≡ run_text s ks vs m l
  text_refused h = go r.number h ∙ from_text
    where
      go : (n : ℕ) → (n ≡ 0 → ⊥) → refused_line n r.line ≡ reported n r ks vs m l
      go zero k = absurd (k refl)
      go (suc n) k = refl

  pub log_refused : (r.number ≡ 0 → ⊥) → l ≡ log_after s ks vs m l
  log_refused h = go r.number h ∙ from_log
    where
      go : (n : ℕ) → (n ≡ 0 → ⊥) → l ≡ log_of n r ks vs m l
      go zero k = absurd (k refl)
      go (suc n) k = refl

  pub text_run : r.number ≡ 0 → run_report r.table ks vs m l ≡ run_text s ks vs m l
  text_run h = rw h at from_text

  pub log_run : r.number ≡ 0 → (run r.table ks vs m l).log ≡ log_after s ks vs m l
  log_run h = rw h at from_log

  -- a table that was read has no fault
  pub sound_read : r.number ≡ 0 → 0 ≡ fault r.table
  sound_read h = let g : (read s).number ≡ 0 = rw e at h in rw e (sym (read_fault s (read s).table (read_good s g)))

-- ---- of the log buffer the first 800,000 bytes are used

pub part_size : (n : ℕ) (log : List ℕ) → n ≤ length log → n ≤ 800000 → length (take n log) ≤ 800000
part_size n log h u = omega (arith, length-take-le n log h)

module _ (t : Table) (ks : List ℕ) (vs : List ℤ) (m n : ℕ) (log : List ℕ) {x : List ℕ} (d : x ≡ (run t ks vs m (take n log)).log) where
  pub same_size : length (x ++ drop n log) ≡ length log
  same_size =
      let e : length x ≡ length (take n log) = ap length d ∙ (sound t ks vs m (take n log)).size in
      length-append x (drop n log) ∙ ap (λ (k : ℕ). k + length (drop n log)) e ∙ sym (length-append (take n log) (drop n log)) ∙ ap length (take-append-drop n log)

  pub part_run : {out out' : List ℕ} {r : ℕ} → Put 5925000 out 0 (run_report t ks vs m (take n log)) out' r → PartRun t ks vs m n log (x ++ drop n log) out out' r
  part_run p = record { printed = p; logged = ap (λ (l : List ℕ). l ++ drop n log) d }

pub least_left : {n a : ℕ} (b : ℕ) → n ≡ min a b → n ≤ a
least_left b e = omega arith

pub least_right : {n b : ℕ} (a : ℕ) → n ≡ min a b → n ≤ b
least_right a e = omega arith

same_part : (n b : ℕ) (log : List ℕ) → n ≡ min (length log) b → (take n log ≡ take b log) × (drop n log ≡ drop b log)
same_part n b log e =
    by_order (length log) b
    (λ h. (take_all n log (omega arith) ∙ sym (take_all b log (omega arith)), drop_of_length-le log (let k : length log ≤ n = omega arith in k) ∙ sym (drop_of_length-le log (let k : length log ≤ b = omega arith in k))))
    (λ h. let k : n ≡ b = omega arith in (ap (λ (i : ℕ). take i log) k, ap (λ (i : ℕ). drop i log) k))

module _ (s ks : List ℕ) (vs : List ℤ) (m : ℕ) (log : List ℕ) {r : Reading} (e : r ≡ read s) {out out' : List ℕ} {k : ℕ} where
  pub run_refused : (r.number ≡ 0 → ⊥) → Put 38 out 0 (refused_line r.number r.line) out' k → TextRun s ks vs m log log out out' k
  run_refused h p = record {
    printed = rw (← text_refused s ks vs m (take 800000 log) r e h) (put_more (omega arith) p);
    logged = sym (take-append-drop 800000 log) ∙ ap (λ (l : List ℕ). l ++ drop 800000 log) (log_refused s ks vs m (take 800000 log) r e h);
  }

  pub run_whole : {n : ℕ} {log' : List ℕ} → r.number ≡ 0 → n ≡ min (length log) 800000 → PartRun r.table ks vs m n log log' out out' k → TextRun s ks vs m log log' out out' k
  run_whole {n} {log'} h u p =
      let w = same_part n 800000 log u in
      record {
        printed = rw (← text_run s ks vs m (take 800000 log) r e h) (rw w.0 at p.printed);
        logged = p.logged ∙ ap (λ (l : List ℕ). (run r.table ks vs m l).log ++ drop n log) w.0
            ∙ ap (λ (l : List ℕ). (run r.table ks vs m (take 800000 log)).log ++ l) w.1
            ∙ ap (λ (l : List ℕ). l ++ drop 800000 log) (log_run s ks vs m (take 800000 log) r e h);
      }
