-- A run from its start: where the values are spent, and where the first state is begun with.
use mathlib.Core.Path.{◌≡◌, refl, sym, ◌∙◌, ap, subst}
use mathlib.Core.List.{List}
use Prim.Native.Nat.{ℕ, ◌-◌, ◌≤◌}
use native.Mathlib.Omega.{arith}
use lib.ListN.{length, drop}
use lib.IntN.{ℤ}
use Rattle.table.specs.declared.Table.{Table}
use Rattle.text.specs.Writer.{fault}
use Rattle.machine.specs.declared.State.{State}
use Rattle.machine.specs.declared.Running.{Running}
use Rattle.machine.specs.State.{Begun as Beginning, spent, begun, begin, first_state}
use Rattle.machine.specs.Step.{kept_in}
use Rattle.machine.specs.Run.{Ran, run_begun, run, run_from}
use Rattle.machine.proofs.RunLaws.{run_begun_lem}
use Rattle.run_state.specs.Good.{Shape}
use Rattle.run_state.specs.Arrays.{marks_of, cells_of}
use Rattle.run_state.specs.Begins.{Begins, Stated, running_of}
use Rattle.run_state.specs.GoodLaws.{first_shape, begun_good}
use Rattle.run_state.specs.StepGood.{run_good}
use Rattle.std.specs.Prelude.{Option, Some, None}
use Rattle.run_step.specs.Stops.{ValuesSpent}
use Rattle.run_step.specs.Steps.{Held}
use Rattle.runner.specs.declared.Advanced.{Advanced}
use Rattle.runner.specs.Advances.{stop_in, answer, Advances, Starting}

-- what `run_state::answer` answers for a state that the arrays hold
abbrev pub Answering : ℕ → ℕ → ℕ → List ℕ → List (List ℤ) → Running → Type 0
Answering steps used stop marks cells r = (s : State) → Shape s → marks ≡ marks_of s → cells ≡ cells_of s → r ≡ running_of steps used stop s

module _ {t : Table} {keep : List ℕ} {vs : List ℤ} {code words : List (List ℕ)} {r : Option ℕ} {marks : List ℕ} {cells : List (List ℤ)} (st : Starting t keep vs code words r marks cells) where
  -- ---- the values are spent

  spent_is : r ≡ None → (begin t vs ≡ spent) × (cells ≡ cells_of (first_state t))
  spent_is e = go (begin t vs) refl (rw e at st.begins)
    where
      go : (b : Beginning) → begin t vs ≡ b → Begins t vs b None cells → (begin t vs ≡ spent) × (cells ≡ cells_of (first_state t))
      go spent i h = (i, h)
      go (begun s rest) i h = absurd h

  pub spent_runs : r ≡ None → (ks : List ℕ) (most : ℕ) (log : List ℕ) → Advances (run_begun t ks vs most log (begin t vs)) (answer (Some ValuesSpent) 0 0) marks cells log
  spent_runs e ks most log =
      let u : 0 ≡ length vs - length vs = omega arith in
      let b = spent_is e in
      rw b.0 (record { steps = refl; used = u; stop = refl; marks_are = st.first; cells_are = b.1; log_is = refl })

  -- ---- the first state, with its inputs

  module _ (given : ℕ) (on : r ≡ Some given) where
    pub record Goes : Type 0 where
      pub s : State
      pub held : Held t s keep code words marks cells
      pub is : begin t vs ≡ begun s (drop given vs)
      pub within : given ≤ length vs

    pub goes : Goes
    goes = go (begin t vs) refl (rw on at st.begins)
      where
        go : (b : Beginning) → begin t vs ≡ b → Begins t vs b (Some given) cells → Goes
        go spent i h = absurd h
        go (begun s rest) i h = record {
          s = s;
          held = record {
            marked = record { ready = st.ready; coded = st.coded; good = begun_good t keep st.ready vs s rest i; marks_are = st.first ∙ sym h.marks_stay };
            worded = st.worded;
            cells_are = h.cells_are;
          };
          is = i ∙ ap (begun s) h.rest_is;
          within = h.within;
        }

    module _ (ks : List ℕ) (most : ℕ) (log : List ℕ) where
      abbrev ran : Ran
      ran = run_from t (kept_in t) most vs ks 0 goes.s (drop given vs) log

      is_run : ran ≡ run_begun t ks vs most log (begin t vs)
      is_run = sym (ap (run_begun t ks vs most log) goes.is ∙ run_begun_lem t ks vs most log goes.s (drop given vs))

      pub goes_runs : {a : Advanced} {marks' : List ℕ} {cells' : List (List ℤ)} {log' : List ℕ} → Advances ran a marks' cells' log' → Advances (run_begun t ks vs most log (begin t vs)) a marks' cells' log'
      goes_runs {a} {marks'} {cells'} {log'} h = subst (λ (x : Ran). Advances x a marks' cells' log') is_run h

      goes_shape : Shape (run_begun t ks vs most log (begin t vs)).answer.state
      goes_shape = subst (λ (x : Ran). Shape x.answer.state) is_run (run_good t keep st.ready most vs ks 0 goes.s (drop given vs) log goes.held.marked.good).shape

  -- ---- the answer

  module _ (ks : List ℕ) (most : ℕ) (log : List ℕ) where
    abbrev whole : Ran
    whole = run_begun t ks vs most log (begin t vs)

    shape : Shape whole.answer.state
    shape = by r refl
      where
        by : (o : Option ℕ) → r ≡ o → Shape whole.answer.state
        by None e = rw (spent_is e).0 (first_shape t keep st.ready)
        by (Some u) e = goes_shape u e ks most log

    module _ {a : Advanced} {marks' : List ℕ} {cells' : List (List ℤ)} {log' : List ℕ} (h : Advances whole a marks' cells' log') where
      pub stated : Stated marks' cells'
      stated = record { s = whole.answer.state; shape = shape; marks_are = h.marks_are; cells_are = h.cells_are }

      pub answers : (z : Running) → Answering a.steps a.used (stop_in a.stop) marks' cells' z → (z ≡ whole.answer) × (log' ≡ whole.log)
      answers z e = (e whole.answer.state shape h.marks_are h.cells_are ∙ (λ i. running_of (h.steps i) (h.used i) (h.stop i) whole.answer.state), h.log_is)

-- the run of a table that has no fault
pub begun_is : (t : Table) (ks : List ℕ) (vs : List ℤ) (most : ℕ) (log : List ℕ) → fault t ≡ 0 → run_begun t ks vs most log (begin t vs) ≡ run t ks vs most log
unfolding run
begun_is t ks vs most log z = rw z refl
