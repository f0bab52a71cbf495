-- A function that is handed a table knows its shape and its bounds, since the value is of its type. A proof says of its first parameter
-- `shaped c.args.t (_, c.good.0)`, and of what a call of f gave `shaped c.f.result (_, c.f.ok)`.
use Rattle.std.specs.Prelude.{ℕ, zero, suc, ◌^◌, ◌≤◌, ◌<◌, ◌≡◌, List, [], ◌∷◌, length, get_or}
use Rattle.std.proofs.Common.{arith, rules}
use mir.Val.{Val}
use denote.Laws.{Is}
use denote.Shadow.{shadow}
use denote.Array.{Array, each}
use denote.RattleType.{RattleType}
use Rattle.table.specs.contracts.Node as node
use Rattle.table.specs.contracts.Slot as slot
use Rattle.table.specs.contracts.Task as task
use Rattle.table.specs.contracts.Sem as sem
use Rattle.table.specs.contracts.Queue as queue
use Rattle.table.specs.contracts.Proc as proc
use Rattle.table.specs.contracts.Table as table
use Rattle.table.specs.Table.{no_slot, no_task, no_sem, no_queue, outside, task_at, sem_at, queue_at, proc_at, node_in, arc_to, arc_no, parts}
use Rattle.table.specs.declared.Node.{Node}
use Rattle.table.specs.declared.Node.TheVariants.{Absent}
use Rattle.table.specs.declared.Proc.{Proc}
use Rattle.table.specs.declared.Table.{Table}
use Rattle.table.specs.Shape.{Shaped}
use Rattle.table.specs.ByKind.{by_kind}

-- x is a value of the type: some machine values are its
abbrev pub Of : (R : RattleType) → R.Denot → Type 0
Of R x = (vs : List Val) × Is R x vs

-- ---- arrays

each_place : (R : RattleType) (H : R.Denot → Type 0) → ((x : R.Denot) → Of R x → H x) → (d : R.Denot) (l : List R.Denot) (us : List Val)
    → shadow (each R.Denot R.own_val l us) → (i : ℕ) → (length l ≤ i → H d) → H (get_or l i d)
each_place R H h d [] us g i e = e (omega arith)
each_place R H h d (x ∷ l) [] g i e = absurd g
each_place R H h d (x ∷ l) (u ∷ us) g zero e = h x (u ∷ [], g.0)
each_place R H h d (x ∷ l) (u ∷ us) g (suc i) e = each_place R H h d l us g.1 i (λ k. e (omega arith))

module _ (R : RattleType) (n : ℕ) (l : List R.Denot) (g : Of (Array R n) l) where
  long : length l ≡ n
  long = g.1.1.0.1

  -- what holds of every value of the elements' type holds at each place; past the end it is to hold of d
  place : (H : R.Denot → Type 0) → ((x : R.Denot) → Of R x → H x) → (d : R.Denot) (i : ℕ) → (n ≤ i → H d) → H (get_or l i d)
  place H h d i e = each_place R H h d l g.1.0 g.1.1.1 i (λ k. e (let m = long in omega arith))

-- ---- a node, a procedure

abbrev pub SmallArcs : Node → Type 0
SmallArcs x = (arc_to x < 2 ^ 32) × (arc_no x < 2 ^ 32)

pub node_arcs : (x : Node) → Of node.the_row x → SmallArcs x
unfolding parts
node_arcs = by_kind (search rules)

pub absent_arcs : SmallArcs Absent
unfolding parts
absent_arcs = (search rules, search rules)

slots_of : (q : Proc) → Of proc.the_row q → Of (Array slot.the_row 32) q.slots
slots_of q g = (_, g.1.1.1.1.1.1.1.0)

pub proc_long : (q : Proc) → Of proc.the_row q → length q.slots ≡ 32
proc_long q g = long slot.the_row 32 q.slots (slots_of q g)

pub proc_arcs : (q : Proc) → Of proc.the_row q → (n : ℕ) → SmallArcs (node_in q n)
proc_arcs q g n = place slot.the_row 32 q.slots (slots_of q g) (λ x. SmallArcs x.node) (λ x h. node_arcs x.node (_, h.1.1.1.0)) no_slot n (λ k. absent_arcs)

-- ---- a table

-- every byte of its counts and rows
pub record Bounded (t : Table) : Type 0 where
  pub trap : t.trap < 256
  pub tasks : t.tasks < 256
  pub procs : t.procs < 256
  pub sems : t.sems < 256
  pub queues : t.queues < 256
  pub top : (i : ℕ) → (task_at t i).top < 256
  pub count : (i : ℕ) → (sem_at t i).count < 256
  pub cap : (i : ℕ) → (queue_at t i).cap < 256
  pub params : (p : ℕ) → (proc_at t p).params < 256
  pub vars : (p : ℕ) → (proc_at t p).vars < 256
  pub nodes : (p : ℕ) → (proc_at t p).nodes < 256
  pub drop : (p : ℕ) → (proc_at t p).drop < 256

module _ (t : Table) (g : Of table.the_row t) where
  tasks_of : Of (Array task.the_row 4) t.task
  tasks_of = (_, g.1.1.1.1.1.1.1.1.1.0)

  sems_of : Of (Array sem.the_row 8) t.sem
  sems_of = (_, g.1.1.1.1.1.1.1.1.1.1.0)

  queues_of : Of (Array queue.the_row 8) t.queue
  queues_of = (_, g.1.1.1.1.1.1.1.1.1.1.1.0)

  procs_of : Of (Array proc.the_row 8) t.proc
  procs_of = (_, g.1.1.1.1.1.1.1.1.1.1.1.1.0)

  each_proc : (H : Proc → Type 0) → ((q : Proc) → Of proc.the_row q → H q) → (p : ℕ) → (8 ≤ p → H outside) → H (proc_at t p)
  each_proc H h p = place proc.the_row 8 t.proc procs_of H h outside p

  pub shaped : Shaped t
  shaped = record {
    tasks = long task.the_row 4 t.task tasks_of;
    sems = long sem.the_row 8 t.sem sems_of;
    queues = long queue.the_row 8 t.queue queues_of;
    procs = long proc.the_row 8 t.proc procs_of;
    slots = λ p h. each_proc (λ q. length q.slots ≡ 32) proc_long p (λ k. absurd (omega arith));
    drops = λ p. each_proc (λ q. q.drop < 2 ^ 32) (λ q k. search rules) p (λ k. search rules);
    arcs = λ p n. each_proc (λ q. SmallArcs (node_in q n)) (λ q k. proc_arcs q k n) p (λ k. absent_arcs);
  }

  pub bounded : Bounded t
  bounded = record {
    trap = search rules;
    tasks = search rules;
    procs = search rules;
    sems = search rules;
    queues = search rules;
    top = λ i. place task.the_row 4 t.task tasks_of (λ x. x.top < 256) (λ x h. search rules) no_task i (λ k. search rules);
    count = λ i. place sem.the_row 8 t.sem sems_of (λ x. x.count < 256) (λ x h. search rules) no_sem i (λ k. search rules);
    cap = λ i. place queue.the_row 8 t.queue queues_of (λ x. x.cap < 256) (λ x h. search rules) no_queue i (λ k. search rules);
    params = λ p. each_proc (λ q. q.params < 256) (λ q k. search rules) p (λ k. search rules);
    vars = λ p. each_proc (λ q. q.vars < 256) (λ q k. search rules) p (λ k. search rules);
    nodes = λ p. each_proc (λ q. q.nodes < 256) (λ q k. search rules) p (λ k. search rules);
    drop = λ p. each_proc (λ q. q.drop < 256) (λ q k. search rules) p (λ k. search rules);
  }
