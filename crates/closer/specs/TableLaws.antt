-- The parts that the code computes are the definition's.
use Rattle.std.specs.Prelude.{ℕ, ◌+◌, ◌*◌, ◌%◌, ◌^◌, ◌<◌, ◌≤◌, ◌≡◌, Bool, true, false, List, length, get_or, ltb}
use Rattle.std.proofs.Common.{arith, ◌∙◌, ap, inr, ltb-true, ltb-false}
use Rattle.std.proofs.Math.Nat.{mod-eq_of_lt}
use Rattle.std.proofs.Math.Path.{refl, sym}
use mathlib.Core.List.Memᴰ
use Rattle.std.proofs.Math.Pow.{pow-lt}
use Rattle.table.specs.Cases.{cases}
use Rattle.table.specs.Mask.{pick, bit, mask_of}
use Rattle.table.specs.MaskLaws.{mask_of_lt, bit_mask_of, bit_mask_of_above, bit_ext}
use Rattle.table.specs.Table.{removed, proc_at, node_at, no_slot, no_queue, outside, parts, map_node}
use Rattle.table.specs.declared.Node.{Node}
use Rattle.table.specs.declared.Node.TheVariants.{Absent, Start, Set, Test, Read, Call, Wait, Signal, Send, Recv, Assert, Out, Return}
use Rattle.table.specs.declared.Slot.{Slot}
use Rattle.table.specs.declared.Queue.{Queue}
use Rattle.table.specs.declared.Proc.{Proc}
use Rattle.table.specs.declared.Table.{Table}
use Rattle.closing.specs.Dirty.{Fact, dirty_before, dropped, blank}
use Rattle.closing.specs.Closing.{dirty, is_dirty, kept}
use Rattle.closing.proofs.DirtyLaws.{dropped_low}
use Rattle.closing.specs.Close.{map_from, unkept_arcs, new_arc, closed_node, closed_slot, closed_proc, closed_queue, closed_with, close_table}
use Rattle.masks.specs.Cells.{cell}
use Rattle.analysis.specs.Ready.{One, FitsNode, Ready}
use Rattle.analysis.specs.Decides.{Decides}
use Rattle.analysis.specs.Steps.{kept_in}
use Rattle.analysis.specs.NodeLaws.{var_mod}
use Rattle.analysis.specs.KeptLaws.{read_use, read_drop, read_blank, kept_bit}
use Rattle.closer.specs.Parts.{node_with, drop_in, arc_in, slot_with, ClosedQueues, Counted, ClosedProc}
use Rattle.closer.specs.ListLaws.{mapped}
use Rattle.closer.specs.ArcLaws.{arc_right}

-- ---- a kept node

module _ (t : Table) (d : List Fact) (p n i b vars : ℕ) (D arc arc' : ℕ → ℕ) (few : vars ≤ 16)
    (hi : (v : ℕ) → bit v i ≡ is_dirty d (dirty_before p n v)) (hb : (q : ℕ) → bit q b ≡ is_dirty d (blank q))
    (hd : (q k : ℕ) → q < 8 → bit k (D q) ≡ is_dirty d (dropped q k)) (ha : (to : ℕ) → One to → arc to ≡ arc' to) where
  queue_is : (q v : ℕ) → q < 8 → pick (bit (q % 32) b) removed v ≡ pick (is_dirty d (blank q)) removed v
  queue_is q v l = let e : q % 32 ≡ q = mod-eq_of_lt (omega arith) in rw (e, hb q)

  use_is : (v : ℕ) → v < vars → pick (bit (v % 32) i) removed v ≡ pick (is_dirty d (dirty_before p n v)) removed v
  use_is v l = rw (var_mod few l, hi v)

  node_is : (x : Node) → FitsNode t vars x → node_with i D b arc x ≡ closed_node t d p n arc' x
  unfolding node_with closed_node map_node parts
  node_is Absent f = refl
  node_is (Start to) f = rw (ha to f.exit)
  node_is (Set v o x y to) f = rw (ha to f.exit)
  node_is (Test o x y g s) f = rw (ha g f.exit.0, ha s f.exit.1)
  node_is (Read v to) f = rw (ha to f.exit)
  node_is (Call q xs to) f = let l = f.act.0 in rw (hd q 0 l, hd q 1 l, hd q 2 l, hd q 3 l, ha to f.exit)
  node_is (Wait s to) f = rw (ha to f.exit)
  node_is (Signal s to) f = rw (ha to f.exit)
  node_is (Send q v to) f = rw (queue_is q v f.act.0, ha to f.exit)
  node_is (Recv q v to) f = rw (queue_is q v f.act, ha to f.exit)
  node_is (Assert v to) f = rw (use_is v (f.uses v (Memᴰ.head refl)), ha to f.exit)
  node_is (Out v to) f = rw (use_is v (f.uses v (Memᴰ.head refl)), ha to f.exit)
  node_is Return f = refl

-- ---- a procedure

pub counted : (t : Table) → Ready t → (p : ℕ) → Counted (proc_at t p)
counted t o p = record { few = o.nodes_few p; beyond = λ n h. o.beyond p n (inr h) }

module _ (t : Table) (o : Ready t) (l : List ℕ) (d : Decides t l) where
  drop_is : (p : ℕ) → p < 8 → cell l (256 + p) ≡ mask_of (proc_at t p).params (λ i. is_dirty (dirty t) (dropped p i))
  drop_is p hp = bit_ext 32 (cell l (256 + p)) (mask_of params marks) (d.masks.below (256 + p)) small bits
    where
      params : ℕ
      params = (proc_at t p).params

      marks : ℕ → Bool
      marks i = is_dirty (dirty t) (dropped p i)

      small : mask_of params marks < 2 ^ 32
      small = omega (arith, mask_of_lt params marks, pow-lt {i = params} {j = 32} (omega (arith, o.params_few p)))

      none : (k : ℕ) → params ≤ k → bit k (cell l (256 + p)) ≡ false
      none k h = cases (bit k (cell l (256 + p))) (λ e. absurd (omega (arith, dropped_low t p k ((d.drops p k hp).0 e)))) (λ e. e)

      bits : (k : ℕ) → k < 32 → bit k (cell l (256 + p)) ≡ bit k (mask_of params marks)
      bits k h = cases (ltb k params)
          (λ e. read_drop t o l d p k hp ∙ sym (bit_mask_of params k marks (ltb-true k params e)))
          (λ e. none k (ltb-false k params e) ∙ sym (bit_mask_of_above params k marks (ltb-false k params e)))

  drop_fits : (p : ℕ) → p < 8 → cell l (256 + p) % 256 ≡ mask_of (proc_at t p).params (λ i. is_dirty (dirty t) (dropped p i))
  drop_fits p hp = let e = drop_is p hp in
      let m = mask_of_lt (proc_at t p).params (λ i. is_dirty (dirty t) (dropped p i)) in
      let k = pow-lt {i = (proc_at t p).params} {j = 8} (omega (arith, o.params_few p)) in
      mod-eq_of_lt (omega (arith, e, m, k)) ∙ e

  slot_is : (p n : ℕ) → p < 8 → n < 32 → (arcs : List ℕ) → ((to : ℕ) → One to → arc_in arcs to ≡ new_arc t (dirty t) p (unkept_arcs t (dirty t) p) to)
      → slot_with (proc_at t p) (p * 32) (mask_of 32 (kept_in (proc_at t p) (p * 32) l)) l arcs n ≡ closed_slot t (dirty t) p (unkept_arcs t (dirty t) p) n (get_or (proc_at t p).slots n no_slot)
  unfolding slot_with closed_slot
  slot_is p n hp hn arcs ha = let e : n % 32 ≡ n = mod-eq_of_lt hn in
      rw (e, kept_bit t o l d p n hp hn) (go (kept (dirty t) p n (node_at t p n)))
    where
      inside : node_with (cell l (p * 32 + n)) (drop_in l) (cell l 264) (arc_in arcs) (node_at t p n) ≡ closed_node t (dirty t) p n (new_arc t (dirty t) p (unkept_arcs t (dirty t) p)) (node_at t p n)
      inside = node_is t (dirty t) p n (cell l (p * 32 + n)) (cell l 264) (proc_at t p).vars (drop_in l) (arc_in arcs) (new_arc t (dirty t) p (unkept_arcs t (dirty t) p)) (o.vars_few p)
          (λ v. read_use t o l d p n v hp hn) (λ q. read_blank t o l d q)
          (λ q k h. let j : q % 8 ≡ q = mod-eq_of_lt h in rw j (read_drop t o l d q k h)) ha (node_at t p n) (o.fits p n)

      go : (x : Bool) → ◌≡◌ {A = Slot} (record { node = pick x (node_with (cell l (p * 32 + n)) (drop_in l) (cell l 264) (arc_in arcs) (node_at t p n)) Absent })
          (elim x [ true ↦ record { node = closed_node t (dirty t) p n (new_arc t (dirty t) p (unkept_arcs t (dirty t) p)) (node_at t p n) } | false ↦ record { node = Absent } ])
      go true = ap (λ (x : Node). record { node = x }) inside
      go false = refl

  pub proc_is : (p : ℕ) → p < 8 → (r : Proc) → ClosedProc (proc_at t p) p l r → r ≡ closed_proc t (dirty t) p (proc_at t p)
  unfolding closed_proc
  proc_is p hp r c = c.is ∙ rw (drop_fits p hp, slots)
    where
      slots : c.slots ≡ map_from (closed_slot t (dirty t) p (unkept_arcs t (dirty t) p)) 0 (proc_at t p).slots
      slots = mapped (closed_slot t (dirty t) p (unkept_arcs t (dirty t) p)) no_slot no_slot (proc_at t p).slots c.slots (c.size ∙ sym (o.slots_size p hp))
          (λ n h. let hn : n < 32 = omega (arith, o.slots_size p hp) in c.slots_are n hn ∙ slot_is p n hp hn c.arcs (arc_right t o l d p hp c.ends c.ends_are c.arcs c.reaches))

  -- ---- the table

  procs_are : (r : List Proc) → length r ≡ 8 → ((p : ℕ) → p < 8 → ClosedProc (proc_at t p) p l (get_or r p outside)) → r ≡ map_from (closed_proc t (dirty t)) 0 t.proc
  procs_are r e h = mapped (closed_proc t (dirty t)) outside outside t.proc r (e ∙ sym o.procs_size)
      (λ p b. let hp : p < 8 = omega (arith, o.procs_size) in proc_is p hp (get_or r p outside) (h p hp))

  pub queues_are : (r : List Queue) → ClosedQueues (cell l 264) t.queue r → r ≡ map_from (closed_queue t (dirty t)) 0 t.queue
  queues_are r h = mapped (closed_queue t (dirty t)) no_queue no_queue t.queue r (h.0 ∙ sym o.queues_size)
      (λ i b. let hi : i < 8 = omega (arith, o.queues_size) in
      let j : i % 32 ≡ i = mod-eq_of_lt (omega arith) in
      h.1 i hi ∙ rw (j, read_blank t o l d i))

  pub table_is : (queues : List Queue) (procs : List Proc)
      → (length procs ≡ 8) × ((p : ℕ) → p < 8 → ClosedProc (proc_at t p) p l (get_or procs p outside))
      → ClosedQueues (cell l 264) t.queue queues
      → ◌≡◌ {A = Table} (record { trap = t.trap; closed = true; tasks = t.tasks; procs = t.procs; sems = t.sems; queues = t.queues; task = t.task; sem = t.sem; queue = queues; proc = procs }) (close_table t)
  unfolding close_table closed_with
  table_is queues procs c q = rw (procs_are procs c.0 c.1, queues_are queues q)
