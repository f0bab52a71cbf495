-- What holds before each turn of the run's loop, after it, and behind the loop.
use mathlib.Core.Path.{◌≡◌, refl, sym, ◌∙◌, ap, subst}
use mathlib.Core.Bool.{Bool, true, false}
use mathlib.Core.List.{List, [], ◌∷◌}
use Prim.Native.Nat.{ℕ, zero, suc, ◌+◌, ◌-◌, ◌*◌, ◌/◌, ◌<◌, ◌≤◌}
use native.Mathlib.Omega.{arith}
use lib.ListN.{length, get_or, drop, length-drop}
use lib.Seq.{sets, length-sets}
use lib.Dec.{eqb, leb, ltb}
use lib.IntN.{ℤ}
use borrow.Author.Tests.{leb-true, leb-false, ltb-true, ltb-false, eqb-true, eqb-false, lt-ltb, le-ltb}
use Rattle.table.specs.Cases.{cases}
use Rattle.table.specs.Mask.{pick}
use Rattle.table.specs.declared.Table.{Table}
use Rattle.machine.specs.declared.State.{State}
use Rattle.machine.specs.Step as step
use Rattle.machine.specs.Step.{no_such_task, log_full, stop_number, kept_in, Entry, Step, stopped, stepped, step}
use Rattle.machine.specs.Run.{word, entry_bytes, Ran, ended, turn, run_from}
use Rattle.machine.proofs.StepLaws.{step_task}
use Rattle.machine.proofs.RunLaws.{after_step, run_end, run_next}
use Rattle.run_code.specs.Code.{byte}
use Rattle.run_state.specs.ArrayLaws.{depth_at}
use Rattle.run_state.specs.StepGood.{step_good, step_rest}
use Rattle.run_step.specs.declared.Stepped.{Stepped}
use Rattle.run_step.specs.StepLaws.{entry_bytes_lem}
use Rattle.run_step.specs.Results.{ok_err, ok_same, err_same}
use Rattle.run_step.specs.Stops.{Stop, NoSuchTask, LogFull, said, number_of, number_said}
use Rattle.run_step.specs.Steps.{Held, Lent, Steps, flag_of, bits_of}
use Rattle.std.specs.Prelude.{Option, Some, None, Result, Ok, Err}
use Rattle.runner.specs.Advances.{stop_before, stop_in, answer, Holding, Advances}

-- ---- a turn of the definition

module _ (t : Table) (most : ℕ) (vs : List ℤ) (n : ℕ) (s : State) (rest : List ℤ) (log : List ℕ) where
  abbrev runs : List ℕ → Ran
  runs ks = run_from t (kept_in t) most vs ks n s rest log

  abbrev turns : ℕ → Step
  turns k = turn t (kept_in t) most (length log) k n s rest

  runs_end : (ks : List ℕ) → length ks ≡ 0 → runs ks ≡ ended 0 vs n s rest log
  runs_end [] h = run_end t (kept_in t) most vs n s rest log
  runs_end (k ∷ ks) h = absurd (omega arith)

  -- the run after the turn of its first task number
  runs_turn : (ks : List ℕ) (r : Step) → (length ks ≡ 0 → ⊥) → turns (get_or ks 0 0) ≡ r → runs ks ≡ after_step t (kept_in t) most vs (drop 1 ks) n s rest log r
  runs_turn [] r h e = absurd (h refl)
  runs_turn (k ∷ ks) r h e = run_next t (kept_in t) most vs k ks n s rest log ∙ ap (after_step t (kept_in t) most vs ks n s rest log) e

  turn_none : (k : ℕ) → t.tasks ≤ k → turns k ≡ stopped no_such_task
  unfolding turn
  turn_none k h = rw (turn, le-ltb k t.tasks h) refl

  turn_full : (k : ℕ) → k < t.tasks → length log < 8 * n + 8 → turns k ≡ stopped log_full
  unfolding turn
  turn_full k l h = rw (turn, lt-ltb k t.tasks l, lt-ltb (length log) (8 * n + 8) h) refl

  turn_steps : (k : ℕ) → k < t.tasks → 8 * n + 8 ≤ length log → turns k ≡ step t (kept_in t) most s k rest
  unfolding turn
  turn_steps k l h = rw (turn, lt-ltb k t.tasks l, le-ltb (length log) (8 * n + 8) h) refl

-- what is left of a schedule behind its next task number
drop_next : (i : ℕ) (l : List ℕ) → drop 1 (drop i l) ≡ drop (suc i) l
drop_next zero l = refl
drop_next (suc i) [] = refl
drop_next (suc i) (k ∷ ks) = drop_next i ks

module _ (keep : List ℕ) (code words : List (List ℕ)) (most : ℕ) (vs : List ℤ) where
  -- ---- the code's tests before a turn

  module _ {t : Table} {s : State} {marks : List ℕ} {cells : List (List ℤ)} (h : Held t s keep code words marks cells) where
    few : t.tasks ≤ 4
    few = h.marked.ready.tasks

    open_at : (k : ℕ) → k < 4 → byte marks k ≡ get_or s.depth k 0
    open_at k l = ap (λ (m : List ℕ). byte m k) h.marked.marks_are ∙ depth_at s h.marked.good.shape k l

    -- what has a frame open is a task
    is_task : (k : ℕ) → k < 4 → (byte marks k ≡ 0 → ⊥) → k < t.tasks
    is_task k l e = cases (ltb k t.tasks) (λ a. ltb-true k t.tasks a) (λ a. absurd (e (open_at k l ∙ h.marked.good.closed k (ltb-false k t.tasks a))))

    no_task : (k : ℕ) → k < 4 → byte marks k ≡ 0 → t.tasks ≤ k
    no_task k l e = cases (ltb k t.tasks) (λ a. absurd (omega (arith, open_at k l, h.marked.good.opened k (ltb-true k t.tasks a)))) (λ a. ltb-false k t.tasks a)

    module _ (k room : ℕ) where
      -- nothing stops the turn
      pub clear : stop_before k marks room ≡ Ok (tt {0}) → (k < t.tasks) × (8 ≤ room)
      clear e = go (leb 4 k) (eqb (byte marks k) 0) (ltb room 8) refl refl refl e
        where
          go : (x y z : Bool) → leb 4 k ≡ x → eqb (byte marks k) 0 ≡ y → ltb room 8 ≡ z → pick x (Err NoSuchTask) (pick y (Err NoSuchTask) (pick z (Err LogFull) (Ok (tt {0})))) ≡ Ok (tt {0})
              → (k < t.tasks) × (8 ≤ room)
          go true y z a b c e = absurd (ok_err (sym e))
          go false true z a b c e = absurd (ok_err (sym e))
          go false false true a b c e = absurd (ok_err (sym e))
          go false false false a b c e = (is_task k (leb-false 4 k a) (eqb-false (byte marks k) 0 b), ltb-false room 8 c)

      -- something does
      stops : (n : ℕ) (rest : List ℤ) (log : List ℕ) → 8 * n ≤ length log → room ≡ length log - 8 * n → (b : Stop) → stop_before k marks room ≡ Err b
          → (c : step.Stop) × (b ≡ said c) × (turn t (kept_in t) most (length log) k n s rest ≡ stopped c)
      stops n rest log i r b e = go (leb 4 k) (eqb (byte marks k) 0) (ltb room 8) refl refl refl e
        where
          go : (x y z : Bool) → leb 4 k ≡ x → eqb (byte marks k) 0 ≡ y → ltb room 8 ≡ z → pick x (Err NoSuchTask) (pick y (Err NoSuchTask) (pick z (Err LogFull) (Ok (tt {0})))) ≡ Err b
              → (c : step.Stop) × (b ≡ said c) × (turn t (kept_in t) most (length log) k n s rest ≡ stopped c)
          go true y z a b c e = (no_such_task, sym (err_same e), turn_none t most vs n s rest log k (omega (arith, few, leb-true 4 k a)))
          go false true z a b c e = (no_such_task, sym (err_same e), turn_none t most vs n s rest log k (no_task k (leb-false 4 k a) (eqb-true (byte marks k) 0 b)))
          go false false true a b c e = (log_full, sym (err_same e), turn_full t most vs n s rest log k (is_task k (leb-false 4 k a) (eqb-false (byte marks k) 0 b)) (omega (arith, ltb-true room 8 c)))
          go false false false a b c e = absurd (ok_err e)

    -- ---- a step of the code

    -- it is completed
    pub record Went (k used : ℕ) (e : Stepped) (marks' : List ℕ) (cells' : List (List ℤ)) : Type 0 where
      pub entry : Entry
      pub dropped : List ℕ
      pub state : State
      pub rest : List ℤ
      pub is : step t (kept_in t) most s k (drop used vs) ≡ stepped entry dropped state rest
      pub held : Held t state keep code words marks' cells'
      pub left : drop e.used vs ≡ rest
      pub within : e.used ≤ length vs
      pub bytes : ◌≡◌ {A = List ℕ} (k ∷ e.proc ∷ e.node ∷ flag_of e.shown ∷ word (bits_of e.shown)) (entry_bytes entry)

    module _ (k used : ℕ) (task : k < t.tasks) (within : used ≤ length vs) (marks' : List ℕ) (cells' : List (List ℤ)) where
      abbrev told : Step
      told = step t (kept_in t) most s k (drop used vs)

      pub went : (e : Stepped) → Steps vs s told (Ok e) marks' cells' → Went k used e marks' cells'
      went e = go told refl
        where
          go : (z : Step) → told ≡ z → Steps vs s z (Ok e) marks' cells' → Went k used e marks' cells'
          go (stopped c) i a = absurd (ok_err a.answer)
          go (stepped b ns z rest) i a =
              let r = step_rest t most s k vs used within b ns z rest i in
              let same = ok_same a.answer in
              let uses = ap (λ (x : Stepped). x.used) same in
              record {
                entry = b;
                dropped = ns;
                state = z;
                rest = rest;
                is = i;
                held = record {
                  marked = record {
                    ready = h.marked.ready;
                    coded = h.marked.coded;
                    good = step_good t keep h.marked.ready s h.marked.good most k task (drop used vs) b ns z rest i;
                    marks_are = a.marks_are;
                  };
                  worded = h.worded;
                  cells_are = a.cells_are;
                };
                left = ap (λ (x : ℕ). drop x vs) uses ∙ r.0;
                within = rw uses r.1;
                bytes = (λ j. sym (step_task t (kept_in t) most s k (drop used vs) b ns z rest i) j ∷ (same j).proc ∷ (same j).node ∷ flag_of (same j).shown ∷ word (bits_of (same j).shown))
                    ∙ ap (λ (l : List ℕ). b.task ∷ b.proc ∷ b.node ∷ l) (entry_bytes_lem b.value);
              }

      -- it is not: "A stopped step leaves state .. as before it"
      pub record Stayed (e : Stop) : Type 0 where
        pub why : step.Stop
        pub is : told ≡ stopped why
        pub stop : e ≡ said why
        pub held : Held t s keep code words marks' cells'

      pub stayed : (e : Stop) → Steps vs s told (Err e) marks' cells' → Stayed e
      stayed e = go told refl
        where
          go : (z : Step) → told ≡ z → Steps vs s z (Err e) marks' cells' → Stayed e
          go (stopped c) i a = record {
            why = c;
            is = i;
            stop = err_same a.answer;
            held = record { marked = record { ready = h.marked.ready; coded = h.marked.coded; good = h.marked.good; marks_are = a.marks_are }; worded = h.worded; cells_are = a.cells_are };
          }
          go (stepped b ns z rest) i a = absurd (ok_err (sym a.answer))

  -- ---- the run

  -- n steps of a run of table t are completed: what is left is the run of the rest of the schedule from the state that the arrays hold
  pub record Runs (t : Table) (ran : Ran) (marks : List ℕ) (cells : List (List ℤ)) (log ks : List ℕ) (at used : ℕ) : Type 0 where
    pub n : ℕ
    pub s : State
    pub held : Held t s keep code words marks cells
    pub at_n : at ≡ 8 * n
    pub is : ran ≡ run_from t (kept_in t) most vs ks n s (drop used vs) log

  -- the number of what stops a run
  number_is : (b : Stop) (c : step.Stop) → b ≡ said c → stop_number c ≡ number_of b
  number_is b c e = sym (ap number_of e ∙ number_said c)

  module _ {t : Table} {ran : Ran} {marks : List ℕ} {cells : List (List ℤ)} {log ks : List ℕ} {at used : ℕ} (r : Runs t ran marks cells log ks at used) (within : used ≤ length vs) where
    abbrev k : ℕ
    k = get_or ks 0 0

    -- with arrays that hold the state still
    ends : (c : Option Stop) (marks' : List ℕ) (cells' : List (List ℤ)) → Held t r.s keep code words marks' cells'
        → run_from t (kept_in t) most vs ks r.n r.s (drop used vs) log ≡ ended (stop_in c) vs r.n r.s (drop used vs) log → Advances ran (answer c at used) marks' cells' log
    ends c marks' cells' h e =
        let u : used ≡ length vs - length (drop used vs) = omega (arith, length-drop used vs) in
        let n : at / 8 ≡ r.n = omega (arith, r.at_n) in
        subst (λ (x : Ran). Advances x (answer c at used) marks' cells' log) (sym (r.is ∙ e))
        (record { steps = n; used = u; stop = refl; marks_are = h.marked.marks_are; cells_are = h.cells_are; log_is = refl })

    pub at_end : length ks ≡ 0 → Advances ran (answer None at used) marks cells log
    at_end e = ends None marks cells r.held (runs_end t most vs r.n r.s (drop used vs) log ks e)

    module _ (some : length ks ≡ 0 → ⊥) (room : at ≤ length log) where
      after : (z : Step) → turn t (kept_in t) most (length log) k r.n r.s (drop used vs) ≡ z
          → run_from t (kept_in t) most vs ks r.n r.s (drop used vs) log ≡ after_step t (kept_in t) most vs (drop 1 ks) r.n r.s (drop used vs) log z
      after z e = runs_turn t most vs r.n r.s (drop used vs) log ks z some e

      pub stop_before_lem : (b : Stop) → stop_before k marks (length log - at) ≡ Err b → Advances ran (answer (Some b) at used) marks cells log
      stop_before_lem b e =
          let q : length log - at ≡ length log - 8 * r.n = ap (λ (x : ℕ). length log - x) r.at_n in
          let z = stops r.held k (length log - at) r.n (drop used vs) log (omega (arith, room, r.at_n)) q b e in
          ends (Some b) marks cells r.held (after (stopped z.0) z.2 ∙ ap (λ (x : ℕ). ended x vs r.n r.s (drop used vs) log) (number_is b z.0 z.1))

      module _ (task : k < t.tasks) (fits : 8 ≤ length log - at) (marks' : List ℕ) (cells' : List (List ℤ)) where
        steps : turn t (kept_in t) most (length log) k r.n r.s (drop used vs) ≡ step t (kept_in t) most r.s k (drop used vs)
        steps = turn_steps t most vs r.n r.s (drop used vs) log k task (omega (arith, fits, r.at_n))

        pub stop_step : (e : Stop) → Steps vs r.s (step t (kept_in t) most r.s k (drop used vs)) (Err e) marks' cells' → Advances ran (answer (Some e) at used) marks' cells' log
        stop_step e a =
            let z = stayed r.held k used task within marks' cells' e a in
            ends (Some e) marks' cells' z.held (after (stopped z.why) (steps ∙ z.is) ∙ ap (λ (x : ℕ). ended x vs r.n r.s (drop used vs) log) (number_is e z.why z.stop))

        pub next : (e : Stepped) → Steps vs r.s (step t (kept_in t) most r.s k (drop used vs)) (Ok e) marks' cells' → (log' : List ℕ)
            → log' ≡ sets log at (k ∷ e.proc ∷ e.node ∷ flag_of e.shown ∷ word (bits_of e.shown)) → Runs t ran marks' cells' log' (drop 1 ks) (at + 8) e.used
        next e a log' puts =
            let z = went r.held k used task within marks' cells' e a in
            let l : sets log (8 * r.n) (entry_bytes z.entry) ≡ log' = sym (puts ∙ (λ j. sets log (r.at_n j) (z.bytes j))) in
            let w = sym z.left in
            record {
              n = suc r.n;
              s = z.state;
              held = z.held;
              at_n = omega (arith, r.at_n);
              is = r.is ∙ after (stepped z.entry z.dropped z.state z.rest) (steps ∙ z.is)
                  ∙ (λ j. run_from t (kept_in t) most vs (drop 1 ks) (suc r.n) z.state (w j) (l j));
            }

  -- ---- the loop: some table is held, and every table that was held first runs on
  module _ (schedule : List ℕ) (given : ℕ) (marks₀ : List ℕ) (cells₀ : List (List ℤ)) (log₀ : List ℕ) where
    abbrev run : Table → State → Ran
    run t s = run_from t (kept_in t) most vs schedule 0 s (drop given vs) log₀

    pub record Turning (marks : List ℕ) (cells : List (List ℤ)) (log ks : List ℕ) (at used : ℕ) : Type 0 where
      pub lent : Holding keep code words marks cells
      pub within : used ≤ length vs
      pub room : at ≤ length log
      pub same : length log ≡ length log₀
      pub each : (t : Table) (s : State) → Held t s keep code words marks₀ cells₀ → Runs t (run t s) marks cells log ks at used

    pub first : Holding keep code words marks₀ cells₀ → given ≤ length vs → Turning marks₀ cells₀ log₀ schedule 0 given
    first l w = record { lent = l; within = w; room = omega arith; same = refl; each = λ t s h. record { n = 0; s = s; held = h; at_n = refl; is = refl } }

    module _ {marks : List ℕ} {cells : List (List ℤ)} {log ks : List ℕ} {at used : ℕ} (v : Turning marks cells log ks at used) where
      abbrev pub Ends : Option Stop → List ℕ → List (List ℤ) → Type 0
      Ends c marks' cells' = (t : Table) (s : State) → Held t s keep code words marks₀ cells₀ → Advances (run t s) (answer c at used) marks' cells' log

      pub ends_last : length ks ≡ 0 → Ends None marks cells
      ends_last e t s h = at_end (v.each t s h) v.within e

      module _ (some : length ks ≡ 0 → ⊥) where
        pub ends_before : (b : Stop) → stop_before (get_or ks 0 0) marks (length log - at) ≡ Err b → Ends (Some b) marks cells
        ends_before b e t s h = stop_before_lem (v.each t s h) v.within some v.room b e

        module _ (none : stop_before (get_or ks 0 0) marks (length log - at) ≡ Ok (tt {0})) where
          pub asked : (k : ℕ) → k ≡ get_or ks 0 0 → Lent k keep code words marks cells
          asked k e = rw e (record { t = v.lent.t; s = v.lent.s; held = v.lent.held; task = (clear v.lent.held (get_or ks 0 0) (length log - at) none).0 })

          pub fits : 8 ≤ length log - at
          fits = (clear v.lent.held (get_or ks 0 0) (length log - at) none).1

          task_in : (t : Table) (s : State) → Held t s keep code words marks cells → get_or ks 0 0 < t.tasks
          task_in t s h = (clear h (get_or ks 0 0) (length log - at) none).0

          -- what the code's step answers
          abbrev pub Did : Result Stepped Stop → List ℕ → List (List ℤ) → Type 0
          Did r marks' cells' = (t : Table) (s : State) → Held t s keep code words marks cells → get_or ks 0 0 < t.tasks → Steps vs s (step t (kept_in t) most s (get_or ks 0 0) (drop used vs)) r marks' cells'

          pub ends_step : (e : Stop) (marks' : List ℕ) (cells' : List (List ℤ)) → Did (Err e) marks' cells' → Ends (Some e) marks' cells'
          ends_step e marks' cells' did t s h =
              let r = v.each t s h in
              let l = task_in t r.s r.held in
              stop_step r v.within some v.room l fits marks' cells' e (did t r.s r.held l)

          pub turned : (e : Stepped) (marks' : List ℕ) (cells' : List (List ℤ)) → Did (Ok e) marks' cells' → (log' : List ℕ)
              → log' ≡ sets log at (get_or ks 0 0 ∷ e.proc ∷ e.node ∷ flag_of e.shown ∷ word (bits_of e.shown)) → Turning marks' cells' log' (drop 1 ks) (at + 8) e.used
          turned e marks' cells' did log' puts =
              let t = v.lent.t in
              let l = task_in t v.lent.s v.lent.held in
              let z = went v.lent.held (get_or ks 0 0) used l v.within marks' cells' e (did t v.lent.s v.lent.held l) in
              let long : length log' ≡ length log = ap length puts ∙ length-sets log at (get_or ks 0 0 ∷ e.proc ∷ e.node ∷ flag_of e.shown ∷ word (bits_of e.shown)) in
              record {
                lent = record { t = t; s = z.state; held = z.held };
                within = z.within;
                room = omega (arith, fits, long, v.room);
                same = long ∙ v.same;
                each = λ t s h.
                    let r = v.each t s h in
                    let l = task_in t r.s r.held in
                    next r v.within some v.room l fits marks' cells' e (did t r.s r.held l) log' puts;
              }

    -- behind the next task number
    pub turning_next : {marks : List ℕ} {cells : List (List ℤ)} {log : List ℕ} {at used : ℕ} (i : ℕ) → Turning marks cells log (drop 1 (drop i schedule)) at used → Turning marks cells log (drop (i + 1) schedule) at used
    turning_next {marks} {cells} {log} {at} {used} i v =
        let e : suc i ≡ i + 1 = omega arith in
        subst (λ (ks : List ℕ). Turning marks cells log ks at used) (drop_next i schedule ∙ ap (λ (n : ℕ). drop n schedule) e) v
