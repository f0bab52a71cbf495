-- What a search that finds a path leaves: the path's rows, and the arrays of the state to which it leads.
use Rattle.std.specs.Prelude.{ℕ, ◌-◌, ◌≤◌, ◌≡◌, refl, true, List, map, length, ℤ}
use Rattle.std.proofs.Common.{arith, zero-add, sym, ◌∙◌, ap}
use Rattle.std.proofs.lemmas.List.Edits.{sets}
use Rattle.table.specs.Shape.{Shaped}
use Rattle.table.specs.declared.Table.{Table}
use Rattle.text.specs.Writer.{fault}
use Rattle.text.proofs.ValidLaws.{valid_of}
use Rattle.machine.specs.declared.State.{State}
use Rattle.machine.specs.declared.Running.{Running}
use Rattle.machine.specs.State.{first_state}
use Rattle.machine.proofs.KeptLaws.{masks_closed}
use Rattle.exploring.specs.Paths.{Move, Spot, Path, stays, goes}
use Rattle.exploring.specs.Answers.{found_answer, Leads}
use Rattle.exploring.specs.Search.{Outcome, found, nothing, out}
use Rattle.exploring.specs.Explore.{sought, answered, explore}
use Rattle.exploring.proofs.RefusalLaws.{refused_none, explore_sought}
use Rattle.exploring.proofs.ProgramLaws.{found_leads}
use Rattle.run_code.specs.Ready.{Ready}
use Rattle.run_code.specs.ReadyLaws.{ready}
use Rattle.run_state.specs.Good.{Shape, Good}
use Rattle.run_state.specs.GoodLaws.{first_good}
use Rattle.run_state.specs.StepGood.{step_good}
use Rattle.run_state.specs.Arrays.{marks_of, cells_of}
use Rattle.run_state.specs.Begins.{first_marks, no_cells, Stated, running_of}
use Rattle.run_state.specs.BeginLaws.{first_marks_lem}
use Rattle.report.specs.Rows.{Shown}
use Rattle.explore_step.specs.Tries.{row_of}
use Rattle.explorer.specs.declared.Sought.{Sought}
use Rattle.explorer.specs.Says.{Says}
use Rattle.explorer.specs.SeekLaws.{keep_all}
use Rattle.explore_answer.specs.Rows.{no_rows}
use Rattle.explore_answer.specs.Ready.{Allowed}

pub allowed_ready : {t : Table} {depth : ℕ} → Allowed t depth → Shaped t → Ready t keep_all
allowed_ready {t} a s = ready t keep_all s a.sound (masks_closed t a.closed)

pub allowed_few : {t : Table} {depth : ℕ} → Allowed t depth → t.tasks ≤ 4
allowed_few {t} a = (valid_of t a.sound).lines.tasks

-- what the search asks for
pub allowed_begins : {t : Table} {depth : ℕ} {marks : List ℕ} → Allowed t depth → Shaped t → marks ≡ first_marks t.tasks t.task t.sem
    → (fault t ≡ 0) × ((t.closed ≡ true) × ((depth ≤ 24) × ((marks ≡ marks_of (first_state t)) × (no_cells ≡ no_cells))))
allowed_begins {t} a s e = (a.sound, (a.closed, (a.shallow, (e ∙ first_marks_lem t keep_all (allowed_ready a s), refl))))

path_good : {t : Table} → Ready t keep_all → {x y : Spot} {p : List Move} → Path t x p y → Good t x.state → Good t y.state
path_good r stays g = g
path_good {t} r (goes {x = x} {y = y} {m = m} a p) g = path_good r p (step_good t keep_all r x.state g 0 _ a.low _ _ a.dropped y.state _ a.steps)

pub record Reached (t : Table) (depth bound : ℕ) (r : Sought) (marks : List ℕ) (cells : List (List ℤ)) (rows : List (List ℕ)) : Type 0 where
  pub p : List Move
  pub x : Spot
  pub leads : Leads t depth p x
  pub good : Good t x.state
  pub steps : r.steps ≡ length p
  pub failed : r.failed ≡ x.failed
  pub marks_are : marks ≡ marks_of x.state
  pub cells_are : cells ≡ cells_of x.state
  pub rows_are : rows ≡ sets no_rows 0 (map row_of p)
  pub answer : explore t depth bound ≡ found_answer p x (bound - r.left)

module _ {t : Table} {depth bound : ℕ} {r : Sought} {marks : List ℕ} {cells : List (List ℤ)} {rows : List (List ℕ)} (a : Allowed t depth) where
  pub reached : Shaped t → Says 0 (first_state t) no_rows (sought t depth bound) r marks cells rows → (r.kind ≡ 2 → ⊥) → (r.kind ≡ 0 → ⊥) → Reached t depth bound r marks cells rows
  reached shaped h e d = go (sought t depth bound) refl h
    where
      go : (o : Outcome Move Spot) → sought t depth bound ≡ o → Says 0 (first_state t) no_rows o r marks cells rows → Reached t depth bound r marks cells rows
      go (nothing c) q k = absurd (d (ap (λ (r : Sought). r.kind) k.answer))
      go out q k = absurd (e (ap (λ (r : Sought). r.kind) k.answer))
      go (found w c) q k =
          let l = found_leads t a.sound a.closed depth bound q in
          let z = allowed_ready a shaped in
          record {
            p = w.path;
            x = w.end;
            leads = l;
            good = path_good z l.path (first_good t keep_all z);
            steps = ap (λ (r : Sought). r.steps) k.answer ∙ zero-add (length w.path);
            failed = ap (λ (r : Sought). r.failed) k.answer;
            marks_are = k.left.0;
            cells_are = k.left.1;
            rows_are = k.noted;
            answer =
                sym (explore_sought t depth bound (refused_none t depth a.sound a.closed a.shallow)) ∙ ap (answered bound) q
                ∙ ap (λ (n : ℕ). found_answer w.path w.end (bound - n)) (sym (ap (λ (r : Sought). r.left) k.answer));
          }

  module _ (f : Reached t depth bound r marks cells rows) where
    pub reached_stated : Stated marks cells
    reached_stated = record { s = f.x.state; shape = f.good.shape; marks_are = f.marks_are; cells_are = f.cells_are }

    -- the state that the arrays hold
    pub reached_state : {e : Running} → ((s : State) → Shape s → marks ≡ marks_of s → cells ≡ cells_of s → e ≡ running_of 0 0 0 s) → e.state ≡ f.x.state
    reached_state h = ap (λ (e : Running). e.state) (h f.x.state f.good.shape f.marks_are f.cells_are)

    pub reached_shown : {s : State} → s ≡ f.x.state → Shown t s
    reached_shown e =
        let v = (valid_of t a.sound).lines in
        rw e (record { tasks = v.tasks; sems = v.sems; queues = v.queues; depth = record { few = λ k i. f.good.bounded k } })

    pub reached_short : r.steps ≤ 24
    reached_short = omega (arith, f.steps, f.leads.short, a.shallow)
