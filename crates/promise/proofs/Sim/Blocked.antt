-- What follows from the states' agreement alone: each task stands before the same node, closed, and is blocked in the one run exactly if in the other.
use Rattle.std.specs.Prelude.{ℕ, ◌-◌, ◌<◌, ◌≤◌, ◌≡◌, true}
use Rattle.std.proofs.Common.{arith, sym, ◌∙◌}
use Rattle.std.proofs.Math.Path.{refl, ap, ap₂}
use Rattle.std.proofs.Math.Dec.{eqb, leb}
use Rattle.table.specs.Table.{node_at, Act, alone, waits, signals, sends, receives, calls, returns, act}
use Rattle.table.specs.NodeLaws.{map_act, mapped}
use Rattle.table.specs.declared.Table.{Table}
use Rattle.closing.specs.Closing.{dirty}
use Rattle.closing.specs.Close.{var_or, closed_node, close_table}
use Rattle.closing.proofs.CloseLaws.{close_cap, kept_node}
use Rattle.machine.specs.declared.State.{State}
use Rattle.machine.specs.State.{open_frames, frame_at, topmost, sem_count, stands_before, blocked_at, blocked}
use Rattle.promise.specs.History.{History, last_setting}
use Rattle.promise.specs.Demand3.{SameState}
use Rattle.promise.proofs.Sim.Wf.{Declared, Wf}
use Rattle.promise.proofs.Sim.Locals.{kept_at, clean_is}
use Rattle.promise.proofs.Sim.Exec.{arc_of, closing}
use Rattle.promise.proofs.Sim.Same.{Same}

module _ (t : Table) (h : History) (s s' : State) where
  -- what the proof carries says that the states agree
  pub same_state : Same t h s s' → SameState t h s s'
  same_state q = record {
    frames = λ k l. (q.task k l).depth;
    procs = λ k j l i. ((q.task k l).frame j i).proc;
    calls = λ k j l i. ((q.task k l).frame j i).node;
    next = λ k l. let r = q.task k l in rw (← r.depth) (r.frame (open_frames s k - 1) (omega (arith, r.some_open))).node;
    open_stands = λ k l. (q.task k l).open_stands;
    closed_stands = λ k l. (q.task k l).closed_stands;
    sems = λ i l. ap (λ z. sem_count z i) q.shared.sems;
    lengths = λ i l. q.shared.lens i;
    entries = λ i l c. q.shared.keeps i c;
    vars = λ k j v l i m c. let r = (q.task k l).frame j i in r.locals.agree v m (clean_is t (frame_at s k j).proc v (last_setting t _ v _ (h k j)) c);
  }

  module _ (wf : Wf t) (q : SameState t h s s') (k : ℕ) (k< : k < t.tasks) (d≥1 : 1 ≤ open_frames s k) (keeps : kept_at t (topmost s k).proc (topmost s k).node ≡ true) where
    pub top_proc : (topmost s k).proc ≡ (topmost s' k).proc
    top_proc = rw (← q.frames k k<) (q.procs k (open_frames s k - 1) k< (omega arith))

    -- the node before which the task stands
    pub stands_closed : stands_before (close_table t) s' k ≡ closing t (topmost s k).proc (topmost s k).node (stands_before t s k)
    stands_closed = ap₂ (node_at (close_table t)) (sym top_proc) (sym (q.next k k<)) ∙ kept_node t (topmost s k).proc (topmost s k).node keeps

    blocked_at_lem : (var : ℕ → ℕ → ℕ) (a : Act) → Declared t a → blocked_at t s k a ≡ blocked_at (close_table t) s' k (map_act var a)
    unfolding blocked_at
    blocked_at_lem var alone i = refl
    blocked_at_lem var (waits j) i = ap (λ z. eqb z 0) (q.sems j i)
    blocked_at_lem var (signals j) i = ap (leb 255) (q.sems j i)
    blocked_at_lem var (sends c v) i = ap₂ leb (sym (close_cap t c)) (q.lengths c i)
    blocked_at_lem var (receives c v) i = ap (λ z. eqb z 0) (q.lengths c i)
    blocked_at_lem var (calls c xs) i = ap (leb 8) (q.frames k k<)
    blocked_at_lem var returns i = ap (λ z. leb z 1) (q.frames k k<)

    pub same_blocked : blocked t s k ≡ blocked (close_table t) s' k
    unfolding closed_node
    same_blocked =
        let p = (topmost s k).proc in
        let n = (topmost s k).node in
        let x = stands_before t s k in
        let var = var_or t (dirty t) p n (act x) in
        blocked_at_lem var (act x) (wf.declared p n)
        ∙ ap (blocked_at (close_table t) s' k) (sym (mapped (arc_of t p) var x).act ∙ ap act (sym stands_closed))
