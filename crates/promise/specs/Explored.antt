-- What line 2 of the sheet says: `none` for the closed table of an accepted open table means that no open run of at most that many steps comes to a standstill or fails an
-- assertion that keeps its variable. Demand 3 carries it over from closed runs. This is the statement; its proof is ExploredHold.
use Rattle.std.specs.Prelude.{ℕ, ◌<◌, ◌≤◌, ◌≡◌, false, []}
use Rattle.std.proofs.Math.Option.{some}
use Rattle.std.proofs.Math.ListN.{get_elem?}
use Rattle.table.specs.Table.{node_at, removed, asserted}
use Rattle.table.specs.declared.Table.{Table}
use Rattle.closing.specs.Close.{close}
use Rattle.machine.specs.declared.State.{State}
use Rattle.machine.specs.State.{topmost, standstill}
use Rattle.machine.specs.Step.{failing}
use Rattle.exploring.specs.Answers.{none_answer}
use Rattle.exploring.specs.Explore.{explore}
use Rattle.promise.specs.Demand3.{OpenRun, open_ran, first}

-- in state s of open table t, task k stands before an assertion that keeps its variable in the closed table
pub record Keeps (t : Table) (s : State) (k : ℕ) : Type 0 where
  pub v : ℕ
  pub asserts : asserted (node_at (close t).table (topmost s k).proc (topmost s k).node) ≡ some v
  pub keeps : v ≡ removed → ⊥

-- an open run of t that begins and completes at most so many steps, whether or not it then stops
pub record ShortRun (t : Table) (depth : ℕ) (o : OpenRun) : Type 0 where
  pub of_table : o.table ≡ t
  pub begins : (open_ran o []).answer.stop ≡ 0
  pub short : (open_ran o o.schedule).answer.steps ≤ depth

pub record Clear (t : Table) (depth : ℕ) : Type 0 where
  -- at the start and after each of its steps it is at no standstill,
  pub no_standstill : (o : OpenRun) → ShortRun t depth o → (n : ℕ) → n ≤ (open_ran o o.schedule).answer.steps → standstill t (open_ran o (first o n)).answer.state ≡ false
  -- and no step, of task k after n others, fails such an assertion
  pub no_failure : (o : OpenRun) → ShortRun t depth o → (n k : ℕ) → n < (open_ran o o.schedule).answer.steps → get_elem? o.schedule n ≡ some k
      → Keeps t (open_ran o (first o n)).answer.state k → failing t (open_ran o (first o n)).answer.state k ≡ false

-- the closer accepts t, and its closed table is explored to that depth: none is found
abbrev pub LineTwo : Type 0
LineTwo = (t : Table) (depth bound tried : ℕ) → (close t).number ≡ 0 → explore (close t).table depth bound ≡ none_answer tried → Clear t depth
