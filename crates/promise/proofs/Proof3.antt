-- Demand 3 and its consequences, proved from what the reader grants of an accepted table, and from the closed table's having no fault.
use Prim.Native.Nat.{ℕ, zero, suc, ◌+◌, ◌-◌, ◌*◌, ◌<◌, ◌≤◌}
use Rattle.std.proofs.Common.{arith, zero-add, ◌∙◌, ap, subst, take_all}
use Rattle.std.specs.Prelude.{◌≡◌, ◌≢◌, Bool, true, false, List, [], length, take, get_or, eqb, ℤ, pos}
use Rattle.std.proofs.Math.Path.{refl, sym, ap₂}
use Rattle.std.proofs.Math.Bool.{not, ◌&&◌}
use Rattle.std.proofs.Math.Option.{Option, none, some}
use mathlib.Core.List.Memᴰ
use Rattle.table.specs.Cases.{cases}
use Rattle.table.specs.Values.{eq_z}
use Rattle.table.specs.Table.{node_at, proc_at, removed, asserted, parts, map_node}
use Rattle.table.specs.ByKind.{by_kind}
use Rattle.table.specs.declared.Node.{Node}
use Rattle.table.specs.declared.Node.TheVariants.{Assert}
use Rattle.table.specs.declared.Table.{Table}
use Rattle.text.specs.Writer.{fault}
use Rattle.text.specs.Reader.{all_below}
use Rattle.closing.specs.Dirty.{dirty_before, Dirty}
use Rattle.closing.specs.Close.{closed_node, closed_with, close_table, close}
use Rattle.closing.proofs.CloseLaws.{Accepted, accepted}
use Rattle.machine.specs.declared.State.{State}
use Rattle.machine.specs.declared.Running.{Running}
use Rattle.machine.specs.State.{open_frames, topmost, var_at, stands_before, standstill, Begun, spent, begun, begin}
use Rattle.machine.specs.Step.{values_spent, Kept, kept_of, kept_in, fails, failing}
use Rattle.machine.proofs.KeptLaws.{all_kept, kept_closed}
use Rattle.machine.proofs.StopLaws.{stopped_covered}
use Rattle.machine.proofs.ClosedRun.{AlikeRuns, closed_alike, few_tosses}
use Rattle.machine.specs.Run.{Ran, course_from, run_begun, run_checked, run, SameLog, run_from}
use Rattle.machine.proofs.RunLaws.{run_begun_lem, stop_number_lem}
use Rattle.promise.specs.History.{History, last_setting, history_from, history_begun, history}
use Rattle.promise.specs.Demand3.{CleanSetting, SameState, OpenRun, ClosedRun, first, open_ran, closed_ran, Partner, Tosses, cut, Demand3, Demand3Stopped, SameStandstill, SameFailure}
use Rattle.promise.proofs.Sim.Wf.{Wf}
use Rattle.promise.proofs.Sim.Locals.{setting_of, D, kept_at, not_dirty}
use Rattle.promise.proofs.Sim.Exec.{use_or, closing}
use Rattle.promise.proofs.Sim.Same.{Same}
use Rattle.promise.proofs.Sim.Blocked.{same_state, top_proc, stands_closed, same_blocked}
use Rattle.promise.proofs.Sim.Log.{same_log, kept_log}
use Rattle.promise.proofs.Sim.Begin.{WhenBegun, BothBegin, begin_sim}
use Rattle.promise.proofs.Sim.Run.{Strong, run_sim}

-- ---- the two runs, from their first states on

run_is : (u : Table) (ks : List ℕ) (vs : List ℤ) (most : ℕ) (log : List ℕ) (b : Begun) → fault u ≡ 0 → begin u vs ≡ b → run u ks vs most log ≡ run_begun u ks vs most log b
unfolding run
run_is u ks vs most log b e i = ap (run_checked u ks vs most log) e ∙ ap (run_begun u ks vs most log) i

history_is : (u : Table) (ks : List ℕ) (vs : List ℤ) (most room : ℕ) (b : Begun) → begin u vs ≡ b → history u ks vs most room ≡ history_begun u ks most room b
unfolding history
history_is u ks vs most room b i = ap (history_begun u ks most room) i

-- which nodes count as kept
open_kept : (t : Table) → t.closed ≡ false → kept_in t ≡ kept_at t
open_kept t e = ap (kept_of t) e

is_closed : (t : Table) → (close_table t).closed ≡ true
unfolding close_table closed_with
is_closed t = refl

module _ (wf : (t : Table) → (close t).number ≡ 0 → Wf t) (sound : (t : Table) → (close t).number ≡ 0 → fault (close t).table ≡ 0) where
  module _ (t : Table) (ok : (close t).number ≡ 0) (vs : List ℤ) (ks : List ℕ) (most most' : ℕ) (log log' : List ℕ) (size : length log' ≡ length log) where
    t_wf : Wf t
    t_wf = wf t ok

    acc : Accepted t
    acc = accepted t ok

    abbrev open_to : ℕ → Ran
    open_to n = run t (take n ks) vs most log

    abbrev shut : List ℤ → ℕ → Ran
    shut ts n = run (close t).table (take n ks) ts most' log'

    -- all that the proof knows of the runs
    record Followed (ts : List ℤ) : Type 0 where
      completes : (run (close t).table ks ts most' log').answer.stop ≡ 0
      used_up : (run (close t).table ks ts most' log').answer.used ≡ length ts
      small : Tosses ts
      each : (n : ℕ) → n ≤ length ks → Strong t t_wf most most' (history t (take n ks) vs most (length log)) n (open_to n) (shut ts n)

    open_is : (js : List ℕ) (s : State) (rest : List ℤ) → begin t vs ≡ begun s rest → run t js vs most log ≡ run_from t (kept_at t) most vs js 0 s rest log
    open_is js s rest i = run_is t js vs most log (begun s rest) acc.sound i ∙ run_begun_lem t js vs most log s rest ∙ ap (λ (keep : Kept). run_from t keep most vs js 0 s rest log) (open_kept t acc.open_form)

    noted_is : (js : List ℕ) (s : State) (rest : List ℤ) → begin t vs ≡ begun s rest → history t js vs most (length log) ≡ history_from t s (λ k j. []) (course_from t (kept_at t) most (length log) js 0 s rest).steps
    noted_is js s rest i = history_is t js vs most (length log) (begun s rest) i ∙ ap (λ (keep : Kept). history_from t s (λ k j. []) (course_from t keep most (length log) js 0 s rest).steps) (open_kept t acc.open_form)

    shut_is : (js : List ℕ) (ts : List ℤ) (s : State) → begin (close_table t) ts ≡ begun s ts → run (close t).table js ts most' log' ≡ run_from (close_table t) all_kept most' ts js 0 s ts log'
    shut_is js ts s i = ap (λ (u : Table). run u js ts most' log') acc.answer_is
        ∙ run_is (close_table t) js ts most' log' (begun s ts) (sym (ap fault acc.answer_is) ∙ sound t ok) i
        ∙ run_begun_lem (close_table t) js ts most' log' s ts
        ∙ ap (λ (keep : Kept). run_from (close_table t) keep most' ts js 0 s ts log') (kept_closed (close_table t) (is_closed t))

    follow : (run t ks vs most log).answer.stop ≡ 0 → (ts : List ℤ) × Followed ts
    follow c = go (begin t vs) refl (begin_sim t t_wf acc.open_form vs)
      where
        go : (b : Begun) → begin t vs ≡ b → WhenBegun (BothBegin t t_wf) b → (ts : List ℤ) × Followed ts
        go spent i q = absurd (stop_number_lem values_spent (sym (ap (λ (r : Ran). r.answer.stop) (run_is t ks vs most log spent acc.sound i)) ∙ c))
        go (begun s rest) i q =
            let r = run_sim t t_wf most most' vs ks 0 s q.state' (λ k j. []) rest log log' q.states (λ j l. absurd (omega arith)) size (sym (ap (λ (z : Ran). z.answer.stop) (open_is ks s rest i)) ∙ c) in
            let ts = r.0 in
            let f = r.1 ts in (
              ts,
              record {
                completes = ap (λ (z : Ran). z.answer.stop) (shut_is ks ts q.state' (q.closes ts)) ∙ f.completes;
                used_up = ap (λ (z : Ran). z.answer.used) (shut_is ks ts q.state' (q.closes ts)) ∙ f.used_up;
                small = f.small;
                each = λ n l. rw (noted_is (take n ks) s rest i, open_is (take n ks) s rest i, shut_is (take n ks) ts q.state' (q.closes ts)) (rw zero-add at (f.each n l));
              },
            )

  -- ---- demand 3: the tosses of the closed run with no dropped node allowed and the open run's log buffer serve every other

  -- a log whose first n entries are those of another
  log_by : (n : ℕ) (log l l' : List ℕ) → ((i : ℕ) → i < 8 * n → get_or l i 0 ≡ get_or l' i 0) → SameLog n log l → SameLog n log l'
  log_by n log l l' e q = record {
    task = λ i h. q.task i h ∙ e (8 * i) (omega arith);
    proc = λ i h. q.proc i h ∙ e (8 * i + 1) (omega arith);
    node = λ i h. q.node i h ∙ e (8 * i + 2) (omega arith);
    flag = λ i h f. q.flag i h (e (8 * i + 3) (omega arith) ∙ f);
    value = λ i b h k f. q.value i b h k (e (8 * i + 3) (omega arith) ∙ f) ∙ e (8 * i + 4 + b) (omega arith);
  }

  module _ (t : Table) (ok : (close t).number ≡ 0) (vs : List ℤ) (ks : List ℕ) (most : ℕ) (log : List ℕ) (ts : List ℤ) (f : Followed t ok vs ks most 0 log log refl ts) where
    abbrev c : Table
    c = (close t).table

    c_closed : c.closed ≡ true
    c_closed = ap (λ (u : Table). u.closed) (accepted t ok).answer_is ∙ is_closed t

    few : length ts ≤ length ks
    few =
        let steps : (run c ks ts 0 log).answer.steps ≡ length ks = ap (λ (js : List ℕ). (run c js ts 0 log).answer.steps) (sym (take_all (length ks) ks (omega arith))) ∙ (f.each (length ks) (omega arith)).closed_steps in
        omega (arith, few_tosses c c_closed ks ts 0 log, f.used_up)

    module _ (most' : ℕ) (log' : List ℕ) (size : length log' ≡ length log) where
      alike : (n : ℕ) → AlikeRuns (run c (take n ks) ts 0 log) (run c (take n ks) ts most' log')
      alike n = closed_alike c c_closed (take n ks) ts 0 most' log log' (sym size)

      whole : AlikeRuns (run c ks ts 0 log) (run c ks ts most' log')
      whole = closed_alike c c_closed ks ts 0 most' log log' (sym size)

      partner : Partner (record { table = t; schedule = ks; inputs = vs; most = most; log = log }) (record { tosses = ts; most = most'; log = log' })
      partner = record {
        completes = ap (λ (r : Running). r.stop) (sym whole.answers) ∙ f.completes;
        used_up = ap (λ (r : Running). r.used) (sym whole.answers) ∙ f.used_up;
        agree = λ n l. let g = f.each n l in let a = alike n in let open-run = run t (take n ks) vs most log in let shut = run c (take n ks) ts 0 log in record {
          open_completes = g.open_completes;
          closed_completes = ap (λ (r : Running). r.stop) (sym a.answers) ∙ g.closed_completes;
          open_steps = g.open_steps;
          closed_steps = ap (λ (r : Running). r.steps) (sym a.answers) ∙ g.closed_steps;
          logs = log_by n open-run.log shut.log (run c (take n ks) ts most' log').log (λ i h. a.logs i (omega (arith, g.closed_steps))) (same_log t n open-run.log shut.log g.logs);
          kept_nodes = kept_log t n open-run.log shut.log g.logs;
          states = subst (λ (r : Running). SameState t (history t (take n ks) vs most (length log)) open-run.answer.state r.state) a.answers (same_state t _ _ _ g.states);
        };
      }

  pub demand_3 : Demand3
  demand_3 o ok e =
      let t = o.table in
      let r = follow t ok o.inputs o.schedule o.most 0 o.log o.log refl e in
      (r.0, r.1.small, few t ok o.inputs o.schedule o.most o.log r.0 r.1, λ most' log' size. partner t ok o.inputs o.schedule o.most o.log r.0 r.1 most' log' size)

  pub demand_3_stopped : Demand3Stopped
  demand_3_stopped o ok c =
      let e = stopped_covered o.table o.schedule o.inputs o.most o.log c in
      (e, demand_3 (cut o (open_ran o o.schedule).answer.steps) ok (ap (λ (r : Ran). r.answer.stop) e))

  -- ---- its consequences: of the open run the proof knows more than a partner says

  all_below_lem : (n : ℕ) (f g : ℕ → Bool) → ((k : ℕ) → k < n → f k ≡ g k) → all_below n f ≡ all_below n g
  unfolding all_below
  all_below_lem zero f g e = refl
  all_below_lem (suc n) f g e = ap₂ ◌&&◌ (e n (omega arith)) (all_below_lem n f g (λ k l. e k (omega arith)))

  module _ (t : Table) (w : Wf t) (h : History) (s s' s'' : State) (q : SameState t h s s') (r : Same t h s s'') where
    stand_still : standstill t s ≡ standstill (close_table t) s'
    unfolding standstill close_table closed_with
    stand_still = all_below_lem t.tasks _ _ (λ k l. ap₂ (λ a b. not a && b) (q.open_stands k l ∙ sym (q.closed_stands k l))
        (same_blocked t h s s' w q k l (r.task k l).some_open (r.task k l).keeps))

    module _ (k : ℕ) (k< : k < t.tasks) where
      abbrev p : ℕ
      p = (topmost s k).proc

      abbrev n : ℕ
      n = (topmost s k).node

      clean_of : (v : ℕ) (o : Option ℕ) → (Dirty t (setting_of p v o) → ⊥) → CleanSetting t p v o
      clean_of v none c = c
      clean_of v (some m) c = c

      -- a clean use finds the same value
      same_use : (u : ℕ) → u < (proc_at t p).vars → (Dirty t (dirty_before p n u) → ⊥) → var_at (topmost s k).vars u ≡ var_at (topmost s' k).vars u
      same_use u l c =
          let j = open_frames s k - 1 in
          let b = r.task k k< in
          let j< : j < open_frames s k = omega (arith, b.some_open) in
          rw (← q.frames k k<) (q.vars k j u k< j< l (clean_of u (last_setting t p u none (h k j)) (λ d. c ((b.frame j j<).locals.reach u l d))))

      fail_assert : (u to : ℕ) → node_at t p n ≡ Assert u to → use_or t p n u ≢ removed → fails (topmost s k).vars (some u) ≡ fails (topmost s' k).vars (some (use_or t p n u))
      unfolding parts
      fail_assert u to e c = cases (D t (dirty_before p n u))
          (λ b. absurd (c (rw b)))
          (λ b. rw b (ap (λ (x : ℤ). not (eqb u removed) && eq_z x (pos 0)) (same_use u (w.uses< p n u (rw e (Memᴰ.head refl))) (not_dirty t (dirty_before p n u) b))))

      fail_kept : (u to : ℕ) → node_at t p n ≡ Assert u to → (v : ℕ) → asserted (closing t p n (Assert u to)) ≡ some v → v ≢ removed
          → fails (topmost s k).vars (asserted (Assert u to)) ≡ fails (topmost s' k).vars (asserted (closing t p n (Assert u to)))
      unfolding closed_node map_node parts
      fail_kept u to e v i c = let z : use_or t p n u ≡ v = cc in fail_assert u to e (λ b. c (sym z ∙ b))

      -- an assertion that keeps its variable
      fail_at : (x : Node) → node_at t p n ≡ x → (v : ℕ) → asserted (closing t p n x) ≡ some v → v ≢ removed → fails (topmost s k).vars (asserted x) ≡ fails (topmost s' k).vars (asserted (closing t p n x))
      unfolding closed_node map_node parts
      fail_at = by_kind (search fail_kept)

      fail_alike : (v : ℕ) → asserted (stands_before (close_table t) s' k) ≡ some v → v ≢ removed → failing t s k ≡ failing (close_table t) s' k
      fail_alike v i c =
          let z = stands_closed t h s s' w q k k< (r.task k k<).some_open (r.task k k<).keeps in
          fail_at (stands_before t s k) refl v (sym (ap asserted z) ∙ i) c ∙ ap (λ (y : Node). fails (topmost s' k).vars (asserted y)) (sym z)

  -- what the proof knows of the open run beside a partner
  module _ (o : OpenRun) (ok : (close o.table).number ≡ 0) (c : ClosedRun) (f : Partner o c) where
    open_is_complete : (open_ran o o.schedule).answer.stop ≡ 0
    open_is_complete = ap (λ (js : List ℕ). (open_ran o js).answer.stop) (sym (take_all (length o.schedule) o.schedule (omega arith))) ∙ (f.agree (length o.schedule) (omega arith)).open_completes

    known : (n : ℕ) → n ≤ length o.schedule → (s'' : State) × Same o.table (history o.table (first o n) o.inputs o.most (length o.log)) (open_ran o (first o n)).answer.state s''
    known n l = (_, ((follow o.table ok o.inputs o.schedule o.most 0 o.log o.log refl open_is_complete).1.each n l).states)

  pub same_standstill : SameStandstill
  same_standstill o ok c f n l =
      let g = known o ok c f n l in
      let a = (accepted o.table ok).answer_is in
      rw a (stand_still o.table (wf o.table ok) _ _ _ g.0 (rw a at (f.agree n l).states) g.1)

  pub same_failure : SameFailure
  same_failure o ok c f n l k v k< i j =
      let g = known o ok c f n l in
      let a = (accepted o.table ok).answer_is in
      rw a (fail_alike o.table (wf o.table ok) _ _ _ g.0 (rw a at (f.agree n l).states) g.1 k k< v (rw a at i) j)

  -- in the closed table, the node before which a task stands in the open run is the one before which it stands in the closed run
  pub same_node : (o : OpenRun) → (close o.table).number ≡ 0 → (c : ClosedRun) → Partner o c → (n : ℕ) → n ≤ length o.schedule → (k : ℕ) → k < o.table.tasks
      → let f = topmost (open_ran o (first o n)).answer.state k in
      node_at (close o.table).table f.proc f.node ≡ stands_before (close o.table).table (closed_ran o c (first o n)).answer.state k
  same_node o ok c f n l k k< =
      let g = (known o ok c f n l).1.task k k< in
      let q = (f.agree n l).states in
      ap₂ (node_at (close o.table).table) (top_proc o.table _ _ _ (wf o.table ok) q k k< g.some_open g.keeps) (q.next k k<)
