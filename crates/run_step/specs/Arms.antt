-- What each arm of a step leaves: the step of its kind's node.
use Prim.Native.Nat.{ℕ, suc, ◌+◌, ◌-◌, ◌/◌, ◌<◌, ◌≤◌}
use native.Mathlib.Omega.{arith}
use Rattle.std.specs.Prelude.{◌≡◌, Bool, List, [], ◌∷◌, ◌++◌, length, get_or, set, drop, replicate, leb, ltb, ℤ, pos}
use Rattle.std.proofs.Math.Path.{refl, ap}
use Rattle.std.proofs.Common.{sym, ◌∙◌, subst, drop_of_length-le, drop-cons, SFits, to_z, of_z, to_z-of_z, leb-true, leb-false, eq-eqb, ne_eqb, eqb-true, ltb-true, ltb-false}
use Rattle.std.proofs.Math.Bool.{true, false}
use Rattle.std.specs.Prelude.{Some, Result, Ok, Err}
use Rattle.std.proofs.Math.Option.{Option, none}
use Rattle.std.proofs.Math.ListN.{get_or-append}
use Rattle.std.proofs.Math.Seq.{set_out}
use Rattle.std.proofs.lemmas.List.{set-append_left}
use Rattle.std.proofs.Math.Dec.{eqb}
use Rattle.std.specs.Int.{w32}
use Rattle.std.proofs.lemmas.Bool.{eqb-false}
use Rattle.table.specs.Mask.{pick}
use Rattle.table.specs.Table.{queue_at, removed}
use Rattle.table.specs.Values.{holds}
use Rattle.table.specs.declared.Node.{Node}
use Rattle.table.specs.declared.Node.TheVariants.{Absent, Start}
use Rattle.table.specs.declared.Table.{Table}
use Rattle.machine.specs.declared.Entries.{Entries}
use Rattle.machine.specs.declared.State.{State}
use Rattle.machine.specs.State.{sem_count, entries_at, var_at}
use Rattle.machine.specs.Step.{values_spent, Memory, assign, with_sem, with_entries, appended, oldest, shortened, value_of, goes, stops, read_of, exec, kept_in, stopped, memory, step_of}
use Rattle.tosses.specs.declared.Stop.{Stop}
use Rattle.tosses.specs.declared.Stop.TheVariants.{ValuesSpent}
use Rattle.run_code.specs.Code.{byte, node_of}
use Rattle.run_code.specs.CodeLaws.{is_start, is_set, is_test, is_read, is_wait, is_signal, is_send, is_recv, is_assert, is_out, is_absent}
use Rattle.run_state.specs.Good.{frame_in, Shape}
use Rattle.run_state.specs.Arrays.{marks_of, entry_cells, cells_of}
use Rattle.run_state.specs.ArrayLaws.{sem_at, len_at, items_at, sem_set, queue_marks, queue_cells, cells_wide, cells_sems}
use Rattle.run_step.specs.declared.Effect.{Effect}
use Rattle.run_step.specs.declared.Done.{Done}
use Rattle.run_step.specs.Results.{ok_err, ok_same, err_same}
use Rattle.run_step.specs.Effects.{goes_to, read_to}
use Rattle.run_step.specs.EffectLaws.{result_of}
use Rattle.run_step.specs.Steps.{Stands, Goes, way_of, went_to, Did, gone_done, Plain, Shown, shifted_of}
use Rattle.run_step.specs.Standing.{shape_of, frame_long, vars_here, name_here, stands_as, arc_absent, GoesOn, goes_to_lem, free_wait, free_signal, free_send, free_recv}
use Rattle.run_step.specs.StepLaws.{shared_in, went_sems, went_queues, went_shape, way_lands, Onto, step_does, did_stop, did_go, did_shown, did_plain}

-- ---- a queue's row

-- an entry appended: in the row only where the eight places have room
append_cells : (l : List ℤ) (i : ℕ) (x : ℤ) → length l ≡ 8 → pick (ltb i 8) (set (l ++ replicate 8 (pos 0)) i x) (l ++ replicate 8 (pos 0)) ≡ set l i x ++ replicate 8 (pos 0)
append_cells l i x h = go (ltb i 8) refl
  where
    go : (b : Bool) → ltb i 8 ≡ b → pick b (set (l ++ replicate 8 (pos 0)) i x) (l ++ replicate 8 (pos 0)) ≡ set l i x ++ replicate 8 (pos 0)
    go true e = set-append_left l (replicate 8 (pos 0)) i x (omega (arith, ltb-true i 8 e))
    go false e = ap (λ (r : List ℤ). r ++ replicate 8 (pos 0)) (sym (set_out l i x (omega (arith, ltb-false i 8 e))))

-- the oldest removed
shift_cells : (l : List ℤ) → length l ≡ 8 → shifted_of (l ++ replicate 8 (pos 0)) ≡ (drop 1 l ++ (pos 0 ∷ [])) ++ replicate 8 (pos 0)
shift_cells (a ∷ b ∷ c ∷ d ∷ e ∷ f ∷ g ∷ h ∷ []) n = refl
shift_cells [] n = absurd (omega arith)
shift_cells (a ∷ []) n = absurd (omega arith)
shift_cells (a ∷ b ∷ []) n = absurd (omega arith)
shift_cells (a ∷ b ∷ c ∷ []) n = absurd (omega arith)
shift_cells (a ∷ b ∷ c ∷ d ∷ []) n = absurd (omega arith)
shift_cells (a ∷ b ∷ c ∷ d ∷ e ∷ []) n = absurd (omega arith)
shift_cells (a ∷ b ∷ c ∷ d ∷ e ∷ f ∷ []) n = absurd (omega arith)
shift_cells (a ∷ b ∷ c ∷ d ∷ e ∷ f ∷ g ∷ []) n = absurd (omega arith)
shift_cells (a ∷ b ∷ c ∷ d ∷ e ∷ f ∷ g ∷ h ∷ i ∷ l) n = absurd (omega arith)

-- ---- a read

-- what `read` answers, where it does not stop
pub record Reads (v : ℕ) (vs : List ℤ) (used arc near : ℕ) (o : Effect) : Type 0 where
  pub more : used < length vs
  pub effect : o ≡ goes_to v (get_or vs used (pos 0)) (used + 1) arc near

module _ (v : ℕ) (vs : List ℤ) (used arc near : ℕ) (r : Result Effect Stop) (e : r ≡ read_to v vs used arc near) where
  by_values : (b : Bool) → leb (length vs) used ≡ b → r ≡ pick b (Err ValuesSpent) (Ok (goes_to v (get_or vs used (pos 0)) (used + 1) arc near))
  by_values b k = e ∙ ap (λ (b : Bool). pick b (Err ValuesSpent) (Ok (goes_to v (get_or vs used (pos 0)) (used + 1) arc near))) k

  pub reads_on : (o : Effect) → r ≡ Ok o → Reads v vs used arc near o
  reads_on o n = go (leb (length vs) used) refl
    where
      go : (b : Bool) → leb (length vs) used ≡ b → Reads v vs used arc near o
      go true k = absurd (ok_err (sym n ∙ by_values true k))
      go false k = record { more = leb-false (length vs) used k; effect = ok_same (sym n ∙ by_values false k) }

  -- and where it does
  pub record Spent (c : Stop) : Type 0 where
    pub none : length vs ≤ used
    pub stop : c ≡ ValuesSpent

  pub reads_none : (c : Stop) → r ≡ Err c → Spent c
  reads_none c n = go (leb (length vs) used) refl
    where
      go : (b : Bool) → leb (length vs) used ≡ b → Spent c
      go true k = record { none = leb-true (length vs) used k; stop = err_same (sym n ∙ by_values true k) }
      go false k = absurd (ok_err (sym (by_values false k) ∙ n))

-- row i, as `push` leaves it
abbrev pushed_in : List (List ℤ) → ℕ → ℕ → ℤ → List (List ℤ)
pushed_in cells i n x = set cells i (pick (ltb n 8) (set (get_or cells i []) n x) (get_or cells i []))

module _ {t : Table} {s : State} {keep : List ℕ} {code words : List (List ℕ)} {marks : List ℕ} {cells : List (List ℤ)} {vs : List ℤ} {used f a : ℕ}
    (z : Stands t s keep code words marks cells vs used f a) (most : ℕ) where
  -- the node's rows
  abbrev b : List ℕ
  b = get_or code a []

  abbrev w : List ℕ
  w = get_or words a []

  abbrev vars : List ℤ
  vars = (frame_in s.frames f).vars

  abbrev here : Memory
  here = memory s (frame_in s.frames f)

  -- by the arc, no variable being set
  abbrev by_arc : Effect
  by_arc = goes_to removed (pos 0) used (byte w 2) (byte b 7)

  no_var : (x : ℤ) → vars ≡ set vars removed x
  no_var x = sym (set_out vars 255 x (omega (arith, frame_long z)))

  onto_as : (x : Node) (o : Effect) (m : Memory) (v : Option ℤ) → node_of b w ≡ x → exec t (f / 8) x here (drop used vs) ≡ goes o.arc m (drop o.used vs) v
      → m.vars ≡ set vars o.var o.value → Onto t s vs used f o m v
  onto_as x o m v n e h = record { does = ap (λ (y : Node). exec t (f / 8) y here (drop used vs)) (stands_as z ∙ n) ∙ e; vars = h }

  -- ---- nodes that leave semaphores and queues alone

  onto_plain : Plain (byte b 0) → Onto t s vs used f by_arc here none
  unfolding exec
  onto_plain p = go (eqb (byte b 0) 1) refl
    where
      go : (c : Bool) → eqb (byte b 0) 1 ≡ c → Onto t s vs used f by_arc here none
      go true e = onto_as (Start (byte w 2)) by_arc here none (is_start b w (eqb-true (byte b 0) 1 e)) refl (no_var (pos 0))
      go false e =
          let n : node_of b w ≡ Absent = is_absent b w (eqb-false (byte b 0) 1 e, p.set, p.test, p.read, p.call, p.wait, p.signal, p.send, p.receive, p.assert, p.out, p.return) in
          onto_as Absent by_arc here none n (ap (λ (arc : ℕ). goes arc here (drop used vs) none) (sym (arc_absent z n))) (no_var (pos 0))

  -- what a set or a test computes
  abbrev result : ℤ
  result = result_of b w vars

  abbrev setting : Effect
  setting = goes_to (byte b 4) result used (byte w 2) (byte b 7)

  onto_set : byte b 0 ≡ 2 → Onto t s vs used f setting (assign (byte b 4) result here) none
  unfolding exec
  onto_set e = onto_as _ setting (assign (byte b 4) result here) none (is_set b w e) refl refl

  -- by the arc that it says
  abbrev testing : Bool → ℕ → Effect
  testing c near = goes_to removed (pos 0) used (pick c (byte w 2) (byte w 3)) near

  onto_test : byte b 0 ≡ 3 → (near : ℕ) → Onto t s vs used f (testing (holds result) near) here none
  unfolding exec
  onto_test e near = onto_as _ (testing (holds result) near) here none (is_test b w e) refl (no_var (pos 0))

  -- a read's next value
  abbrev taken : ℤ
  taken = get_or vs used (pos 0)

  abbrev reading : Effect
  reading = goes_to (byte b 4) taken (used + 1) (byte w 2) (byte b 7)

  onto_read : byte b 0 ≡ 4 → used < length vs → Onto t s vs used f reading (assign (byte b 4) taken here) none
  unfolding exec
  onto_read e h =
      let n : suc used ≡ used + 1 = omega arith in
      onto_as _ reading (assign (byte b 4) taken here) none (is_read b w e)
      (ap (read_of (byte b 4) (byte w 2) here) (drop-cons vs used (pos 0) h) ∙ ap (λ (u : ℕ). goes (byte w 2) (assign (byte b 4) taken here) (drop u vs) none) n) refl

  step_spent : byte b 0 ≡ 4 → length vs ≤ used → step_of t (kept_in t) most s (f / 8) (drop used vs) ≡ stopped values_spent
  unfolding exec
  step_spent e h =
      step_does z most (stops values_spent)
      (ap (λ (y : Node). exec t (f / 8) y here (drop used vs)) (stands_as z ∙ is_read b w e) ∙
      ap (read_of (byte b 4) (byte w 2) here) (drop_of_length-le vs h))

  onto_shown : Shown (byte b 0) → Onto t s vs used f by_arc here (value_of vars (byte b 2))
  unfolding exec
  onto_shown h = go (eqb (byte b 0) 10) refl
    where
      go : (c : Bool) → eqb (byte b 0) 10 ≡ c → Onto t s vs used f by_arc here (value_of vars (byte b 2))
      go true e = onto_as _ by_arc here (value_of vars (byte b 2)) (is_assert b w (eqb-true (byte b 0) 10 e)) refl (no_var (pos 0))
      go false e = onto_as _ by_arc here (value_of vars (byte b 2)) (is_out b w (h (eqb-false (byte b 0) 10 e))) refl (no_var (pos 0))

  -- ---- nodes that store into a semaphore or a queue

  abbrev sem : ℕ
  sem = sem_count s.sems (byte b 1)

  abbrev entries : Entries
  entries = entries_at s.queues (byte b 1)

  items_long : length entries.items ≡ 8
  items_long = (shape_of z).items (byte b 1) (name_here z)

  abbrev waited : Memory
  waited = with_sem (byte b 1) (sem - 1) here

  onto_wait : byte b 0 ≡ 6 → Onto t s vs used f by_arc waited none
  unfolding exec
  onto_wait e = onto_as _ by_arc waited none (is_wait b w e) refl (no_var (pos 0))

  abbrev signalled : Memory
  signalled = with_sem (byte b 1) (sem + 1) here

  onto_signal : byte b 0 ≡ 7 → Onto t s vs used f by_arc signalled none
  unfolding exec
  onto_signal e = onto_as _ by_arc signalled none (is_signal b w e) refl (no_var (pos 0))

  abbrev sent : Memory
  sent = with_entries (byte b 1) (appended (var_at vars (byte b 2)) entries) here

  onto_send : byte b 0 ≡ 8 → Onto t s vs used f by_arc sent none
  unfolding exec
  onto_send e = onto_as _ by_arc sent none (is_send b w e) refl (no_var (pos 0))

  abbrev onto_oldest : Effect
  onto_oldest = goes_to (byte b 2) (oldest entries) used (byte w 2) (byte b 7)

  abbrev received : Memory
  received = assign (byte b 2) (oldest entries) (with_entries (byte b 1) (shortened entries) here)

  onto_recv : byte b 0 ≡ 9 → Onto t s vs used f onto_oldest received none
  unfolding exec
  onto_recv e = onto_as _ onto_oldest received none (is_recv b w e) refl refl

  -- the oldest entry, as the row has it
  oldest_is : get_or (get_or cells (32 + byte b 1) []) 0 (pos 0) ≡ oldest entries
  oldest_is =
      ap (λ (l : List (List ℤ)). get_or (get_or l (32 + byte b 1) []) 0 (pos 0)) z.held.cells_are ∙
      ap (λ (l : List ℤ). get_or l 0 (pos 0)) (items_at s (shape_of z) (byte b 1) (name_here z)) ∙
      get_or-append entries.items (replicate 8 (pos 0)) (pos 0) 0 (omega (arith, items_long))

  -- what a set or a test computes, by the cells
  pub result_is : (x : ℤ) → x ≡ result_of b w (get_or cells f []) → x ≡ result
  result_is x h = h ∙ ap (result_of b w) (vars_here z)

  -- ---- what go_on left, and what is stored after it

  module _ (o : Effect) {r : Result ℕ Stop} {marks₁ : List ℕ} {cells₁ : List (List ℤ)} (g : Goes vs s f (way_of t most s vs f o) r marks₁ cells₁) where
    abbrev went : State
    went = went_to s f (way_of t most s vs f o)

    shape₁ : Shape went
    shape₁ = went_shape s f (way_of t most s vs f o) (shape_of z) (way_lands t most s vs f o (frame_long z))

    sems₁ : went.sems ≡ s.sems
    sems₁ = went_sems s f 16 (way_of t most s vs f o) (way_lands t most s vs f o (frame_long z))

    queues₁ : went.queues ≡ s.queues
    queues₁ = went_queues s f 16 (way_of t most s vs f o) (way_lands t most s vs f o (frame_long z))

    pub sem_now : get_or marks₁ (8 + byte b 1) 0 ≡ sem
    sem_now = ap (λ (l : List ℕ). get_or l (8 + byte b 1) 0) g.marks_are ∙ sem_at went shape₁ (byte b 1) (name_here z) ∙ ap (λ (l : List ℕ). sem_count l (byte b 1)) sems₁

    pub len_now : get_or marks₁ (16 + byte b 1) 0 ≡ entries.len
    len_now = ap (λ (l : List ℕ). get_or l (16 + byte b 1) 0) g.marks_are ∙ len_at went shape₁ (byte b 1) (name_here z) ∙ ap (λ (l : List Entries). (entries_at l (byte b 1)).len) queues₁

    pub items_now : get_or cells₁ (32 + byte b 1) [] ≡ entry_cells entries
    items_now = ap (λ (l : List (List ℤ)). get_or l (32 + byte b 1) []) g.cells_are ∙ items_at went shape₁ (byte b 1) (name_here z) ∙ ap (λ (l : List Entries). entry_cells (entries_at l (byte b 1))) queues₁

    queue_wide : length (get_or cells₁ (32 + byte b 1) []) ≡ 16
    queue_wide =
        let e = name_here z in
        ap (λ (l : List (List ℤ)). length (get_or l (32 + byte b 1) [])) g.cells_are ∙ cells_wide went shape₁ (32 + byte b 1) (omega arith)

    sem_stored : (c : ℕ) → set marks₁ (8 + byte b 1) c ≡ marks_of (shared_in went (set s.sems (byte b 1) c) s.queues)
    sem_stored c = ap (λ (l : List ℕ). set l (8 + byte b 1) c) g.marks_are ∙ sem_set went shape₁ (byte b 1) c (name_here z) ∙ (λ i. marks_of (shared_in went (set (sems₁ i) (byte b 1) c) (queues₁ i)))

    sem_cells : (l : List ℕ) → cells₁ ≡ cells_of (shared_in went l s.queues)
    sem_cells l = g.cells_are ∙ sym (cells_sems went l) ∙ (λ i. cells_of (shared_in went l (queues₁ i)))

    queue_stored : (e : Entries) → set marks₁ (16 + byte b 1) e.len ≡ marks_of (shared_in went s.sems (set s.queues (byte b 1) e))
    queue_stored e = ap (λ (l : List ℕ). set l (16 + byte b 1) e.len) g.marks_are ∙ queue_marks went shape₁ (byte b 1) e (name_here z) ∙ (λ i. marks_of (shared_in went (sems₁ i) (set (queues₁ i) (byte b 1) e)))

    items_stored : (e : Entries) → set cells₁ (32 + byte b 1) (entry_cells e) ≡ cells_of (shared_in went s.sems (set s.queues (byte b 1) e))
    items_stored e = ap (λ (l : List (List ℤ)). set l (32 + byte b 1) (entry_cells e)) g.cells_are ∙ queue_cells went shape₁ (byte b 1) e (name_here z) ∙ (λ i. cells_of (shared_in went (sems₁ i) (set (queues₁ i) (byte b 1) e)))

  -- ---- the arms

  abbrev Made : Result Done Stop → List ℕ → List (List ℤ) → Type 0
  Made y l c = Did vs s (step_of t (kept_in t) most s (f / 8) (drop used vs)) y l c

  abbrev Went : Effect → Result ℕ Stop → List ℕ → List (List ℤ) → Type 0
  Went o r l c = Goes vs s f (way_of t most s vs f o) r l c

  -- the value list is spent
  pub read_stop : byte b 0 ≡ 4 → (c : Stop) → c ≡ ValuesSpent → length vs ≤ used → Made (Err c) marks cells
  read_stop e c h k = rw (step_spent e k) (record { answer = ap (λ (c : Stop). Err c) h; marks_are = z.held.marked.marks_are; cells_are = z.held.cells_are })

  module _ {r : Result ℕ Stop} {marks₁ : List ℕ} {cells₁ : List (List ℤ)} where
    pub plain_did : Plain (byte b 0) → Went by_arc r marks₁ cells₁ → Made (gone_done r) marks₁ cells₁
    plain_did e g = did_plain z most by_arc here (onto_plain e) refl refl r marks₁ cells₁ g

    pub set_did : byte b 0 ≡ 2 → Went setting r marks₁ cells₁ → Made (gone_done r) marks₁ cells₁
    set_did e g = did_plain z most setting (assign (byte b 4) result here) (onto_set e) refl refl r marks₁ cells₁ g

    test_did : byte b 0 ≡ 3 → (near : ℕ) → Went (testing (holds result) near) r marks₁ cells₁ → Made (gone_done r) marks₁ cells₁
    test_did e near g = did_plain z most (testing (holds result) near) here (onto_test e near) refl refl r marks₁ cells₁ g

    pub yes_did : byte b 0 ≡ 3 → (x : ℤ) → x ≡ result → holds x ≡ true → Went by_arc r marks₁ cells₁ → Made (gone_done r) marks₁ cells₁
    yes_did e x i h g = test_did e (byte b 7) (subst (λ (c : Bool). Went (testing c (byte b 7)) r marks₁ cells₁) (sym h ∙ ap holds i) g)

    pub no_did : byte b 0 ≡ 3 → (x : ℤ) → x ≡ result → holds x ≡ false → Went (goes_to removed (pos 0) used (byte w 3) (byte b 6)) r marks₁ cells₁ → Made (gone_done r) marks₁ cells₁
    no_did e x i h g = test_did e (byte b 6) (subst (λ (c : Bool). Went (testing c (byte b 6)) r marks₁ cells₁) (sym h ∙ ap holds i) g)

    pub read_did : byte b 0 ≡ 4 → used < length vs → Went reading r marks₁ cells₁ → Made (gone_done r) marks₁ cells₁
    read_did e h g = did_plain z most reading (assign (byte b 4) taken here) (onto_read e h) refl refl r marks₁ cells₁ g

    -- a value shown; none of `-`
    pub shown_did : Shown (byte b 0) → Went by_arc r marks₁ cells₁ → (u : ℕ) → r ≡ Ok u → (x : ℤ) → x ≡ var_at vars (byte b 2) → (byte b 2 ≡ removed → ⊥)
        → Made (Ok (record { shown = Some x; used = u })) marks₁ cells₁
    shown_did e g u n x h v =
        did_shown z most by_arc here (value_of vars (byte b 2)) (onto_shown e) g refl refl u n (Ok (record { shown = Some x; used = u }))
        (rw (ne_eqb (byte b 2) removed v) (ap (λ (y : ℤ). Ok (record { shown = Some y; used = u })) h))

    pub hidden_did : Shown (byte b 0) → Went by_arc r marks₁ cells₁ → (u : ℕ) → r ≡ Ok u → byte b 2 ≡ removed → Made (gone_done (Ok u)) marks₁ cells₁
    hidden_did e g u n v =
        did_shown z most by_arc here (value_of vars (byte b 2)) (onto_shown e) g refl refl u n (gone_done (Ok u))
        (rw (eq-eqb (byte b 2) removed v) refl)

    pub show_stop : Shown (byte b 0) → Went by_arc r marks₁ cells₁ → (c : Stop) → r ≡ Err c → Made (Err c) marks₁ cells₁
    show_stop e g c n = did_stop z most by_arc here (value_of vars (byte b 2)) (onto_shown e) g c n

    -- it was not blocked
    pub wait_some : byte b 0 ≡ 6 → Went by_arc r marks₁ cells₁ → 1 ≤ get_or marks₁ (8 + byte b 1) 0
    wait_some e g = let h : sem ≡ 0 → ⊥ = free_wait z (byte b 1) (byte w 2) (is_wait b w e) in let n = sem_now by_arc g in omega arith

    pub wait_did : byte b 0 ≡ 6 → Went by_arc r marks₁ cells₁ → (u : ℕ) → r ≡ Ok u → Made (gone_done (Ok u)) (set marks₁ (8 + byte b 1) (get_or marks₁ (8 + byte b 1) 0 - 1)) cells₁
    wait_did e g u n =
        did_go z most by_arc waited none (onto_wait e) g u n (gone_done (Ok u)) (set marks₁ (8 + byte b 1) (get_or marks₁ (8 + byte b 1) 0 - 1)) cells₁ refl
        (rw (sem_now by_arc g) (sem_stored by_arc g (sem - 1))) (sem_cells by_arc g (set s.sems (byte b 1) (sem - 1)))

    pub wait_stop : byte b 0 ≡ 6 → Went by_arc r marks₁ cells₁ → (c : Stop) → r ≡ Err c → Made (Err c) marks₁ cells₁
    wait_stop e g c n = did_stop z most by_arc waited none (onto_wait e) g c n

    pub signal_room : byte b 0 ≡ 7 → Went by_arc r marks₁ cells₁ → get_or marks₁ (8 + byte b 1) 0 < 255
    signal_room e g = let h : sem < 255 = free_signal z (byte b 1) (byte w 2) (is_signal b w e) in let n = sem_now by_arc g in omega arith

    pub signal_did : byte b 0 ≡ 7 → Went by_arc r marks₁ cells₁ → (u : ℕ) → r ≡ Ok u → Made (gone_done (Ok u)) (set marks₁ (8 + byte b 1) (get_or marks₁ (8 + byte b 1) 0 + 1)) cells₁
    signal_did e g u n =
        did_go z most by_arc signalled none (onto_signal e) g u n (gone_done (Ok u)) (set marks₁ (8 + byte b 1) (get_or marks₁ (8 + byte b 1) 0 + 1)) cells₁ refl
        (rw (sem_now by_arc g) (sem_stored by_arc g (sem + 1))) (sem_cells by_arc g (set s.sems (byte b 1) (sem + 1)))

    pub signal_stop : byte b 0 ≡ 7 → Went by_arc r marks₁ cells₁ → (c : Stop) → r ≡ Err c → Made (Err c) marks₁ cells₁
    signal_stop e g c n = did_stop z most by_arc signalled none (onto_signal e) g c n

    pub send_wide : Went by_arc r marks₁ cells₁ → length (get_or cells₁ (32 + byte b 1) []) ≡ 16
    send_wide g = queue_wide by_arc g

    pub send_room : byte b 0 ≡ 8 → Went by_arc r marks₁ cells₁ → get_or marks₁ (16 + byte b 1) 0 < 8
    send_room e g =
        let h : entries.len < (queue_at t (byte b 1)).cap = free_send z (byte b 1) (byte b 2) (byte w 2) (is_send b w e) in
        let l : (queue_at t (byte b 1)).cap ≤ 8 = z.held.marked.ready.caps (byte b 1) in
        let n = len_now by_arc g in omega arith

    pub send_did : byte b 0 ≡ 8 → Went by_arc r marks₁ cells₁ → (u : ℕ) → r ≡ Ok u → (x : ℤ) → x ≡ var_at vars (byte b 2)
        → Made (gone_done (Ok u)) (set marks₁ (16 + byte b 1) (get_or marks₁ (16 + byte b 1) 0 + 1)) (pushed_in cells₁ (32 + byte b 1) (get_or marks₁ (16 + byte b 1) 0) x)
    send_did e g u n x h =
        let y = appended (var_at vars (byte b 2)) entries in
        did_go z most by_arc sent none (onto_send e) g u n (gone_done (Ok u)) (set marks₁ (16 + byte b 1) (get_or marks₁ (16 + byte b 1) 0 + 1)) (pushed_in cells₁ (32 + byte b 1) (get_or marks₁ (16 + byte b 1) 0) x) refl
        (rw (len_now by_arc g) (queue_stored by_arc g y))
        (rw (len_now by_arc g, items_now by_arc g, h) (ap (set cells₁ (32 + byte b 1)) (append_cells entries.items entries.len (var_at vars (byte b 2)) items_long) ∙ items_stored by_arc g y))

    pub send_stop : byte b 0 ≡ 8 → Went by_arc r marks₁ cells₁ → (c : Stop) → r ≡ Err c → Made (Err c) marks₁ cells₁
    send_stop e g c n = did_stop z most by_arc sent none (onto_send e) g c n

    -- by the value that was loaded
    pub recv_goes : {o : Effect} → SFits w32 (get_or (get_or cells (32 + byte b 1) []) 0 (pos 0))
        → o ≡ goes_to (byte b 2) (to_z w32 (of_z w32 (get_or (get_or cells (32 + byte b 1) []) 0 (pos 0)))) used (byte w 2) (byte b 7) → GoesOn keep code words marks cells vs most f o r marks₁ cells₁ → Went onto_oldest r marks₁ cells₁
    recv_goes i e g = goes_to_lem z most g (byte b 2) (oldest entries) used z.within (e ∙ ap (λ (x : ℤ). goes_to (byte b 2) x used (byte w 2) (byte b 7)) (to_z-of_z i ∙ oldest_is))

    pub recv_wide : Went onto_oldest r marks₁ cells₁ → length (get_or cells₁ (32 + byte b 1) []) ≡ 16
    recv_wide g = queue_wide onto_oldest g

    pub recv_some : byte b 0 ≡ 9 → Went onto_oldest r marks₁ cells₁ → 1 ≤ get_or marks₁ (16 + byte b 1) 0
    recv_some e g = let h : entries.len ≡ 0 → ⊥ = free_recv z (byte b 1) (byte b 2) (byte w 2) (is_recv b w e) in let n = len_now onto_oldest g in omega arith

    pub recv_did : byte b 0 ≡ 9 → Went onto_oldest r marks₁ cells₁ → (u : ℕ) → r ≡ Ok u
        → Made (gone_done (Ok u)) (set marks₁ (16 + byte b 1) (get_or marks₁ (16 + byte b 1) 0 - 1)) (set cells₁ (32 + byte b 1) (shifted_of (get_or cells₁ (32 + byte b 1) [])))
    recv_did e g u n =
        let y = shortened entries in
        did_go z most onto_oldest received none (onto_recv e) g u n (gone_done (Ok u))
        (set marks₁ (16 + byte b 1) (get_or marks₁ (16 + byte b 1) 0 - 1)) (set cells₁ (32 + byte b 1) (shifted_of (get_or cells₁ (32 + byte b 1) []))) refl
        (rw (len_now onto_oldest g) (queue_stored onto_oldest g y))
        (rw (items_now onto_oldest g) (ap (set cells₁ (32 + byte b 1)) (shift_cells entries.items items_long) ∙ items_stored onto_oldest g y))

    pub recv_stop : byte b 0 ≡ 9 → Went onto_oldest r marks₁ cells₁ → (c : Stop) → r ≡ Err c → Made (Err c) marks₁ cells₁
    recv_stop e g c n = did_stop z most onto_oldest received none (onto_recv e) g c n
