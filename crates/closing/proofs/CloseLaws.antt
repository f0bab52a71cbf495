-- Reading the closed table: each of its places is the closing of the open one's.
use Prim.Native.Nat.{ℕ, zero, suc, ◌+◌, ◌<◌, ◌≤◌}
use Rattle.std.proofs.Common.{arith, add-zero, zero-add, add-suc, suc-add, sym, ◌∙◌, ap₂}
use Rattle.std.specs.Prelude.{◌≡◌, Bool, true, false, length, get_or}
use Rattle.std.proofs.Math.Path.{refl, ap}
use mathlib.Core.List.{List, [], ◌∷◌}
use Rattle.table.specs.Mask.{bit, mask_of}
use Rattle.table.specs.MaskLaws.{bit_mask_of}
use Rattle.table.specs.Table.{node_at, proc_at, queue_at, no_slot, no_queue, outside, parts}
use Rattle.table.specs.declared.Node.TheVariants.{Absent}
use Rattle.table.specs.declared.Slot.{Slot}
use Rattle.table.specs.declared.Queue.{Queue}
use Rattle.table.specs.declared.Proc.{Proc}
use Rattle.table.specs.declared.Table.{Table}
use Rattle.text.specs.Writer.{fault}
use Rattle.closing.specs.Dirty.{dropped}
use Rattle.closing.specs.Closing.{dirty, is_dirty, kept}
use Rattle.closing.specs.Close.{map_from, unkept_arcs, new_arc, closed_node, closed_slot, closed_proc, closed_queue, closed_with, close_table, answer, close}

-- place k of a list that `map_from` made; past the list's end the two defaults must agree
map_from_at : {A B : Type 0} (f : ℕ → A → B) (i k : ℕ) (xs : List A) (a : A) (b : B) → (length xs ≤ k → f (i + k) a ≡ b) → get_or (map_from f i xs) k b ≡ f (i + k) (get_or xs k a)
unfolding map_from
map_from_at f i k [] a b h = sym (h (omega arith))
map_from_at f i zero (x ∷ xs) a b h = rw add-zero
map_from_at f i (suc k) (x ∷ xs) a b h = rw (add-suc, ← suc-add i k) (map_from_at f (suc i) k xs a b (λ l. rw (suc-add, ← add-suc i k) (h (omega arith))))

-- the same of a list counted from 0
pub map_at : {A B : Type 0} (f : ℕ → A → B) (k : ℕ) (xs : List A) (a : A) (b : B) → (length xs ≤ k → f k a ≡ b) → get_or (map_from f zero xs) k b ≡ f k (get_or xs k a)
map_at f k xs a b h = rw zero-add at (map_from_at f zero k xs a b (λ l. rw zero-add (h l)))

-- it is as long as the list that it was made from
pub map_from_length : {A B : Type 0} (f : ℕ → A → B) (i : ℕ) (xs : List A) → length (map_from f i xs) ≡ length xs
unfolding map_from
map_from_length f i [] = refl
map_from_length f i (x ∷ xs) = ap suc (map_from_length f (suc i) xs)

module _ (t : Table) where
  -- ---- procedures

  -- a closed procedure is the closing of the open one
  pub close_proc : (p : ℕ) → proc_at (close_table t) p ≡ closed_proc t (dirty t) p (proc_at t p)
  unfolding close_table closed_with closed_proc mask_of map_from
  close_proc p = map_at (closed_proc t (dirty t)) p t.proc outside outside (λ _. refl)

  -- "Node numbers and counts remain"
  pub close_params : (p : ℕ) → (proc_at (close_table t) p).params ≡ (proc_at t p).params
  unfolding closed_proc
  close_params p = ap (λ (q : Proc). q.params) (close_proc p)

  pub close_vars : (p : ℕ) → (proc_at (close_table t) p).vars ≡ (proc_at t p).vars
  unfolding closed_proc
  close_vars p = ap (λ (q : Proc). q.vars) (close_proc p)

  pub close_nodes : (p : ℕ) → (proc_at (close_table t) p).nodes ≡ (proc_at t p).nodes
  unfolding closed_proc
  close_nodes p = ap (λ (q : Proc). q.nodes) (close_proc p)

  -- `drop` holds the dropped parameters
  pub close_drop : (p i : ℕ) → i < (proc_at t p).params → bit i (proc_at (close_table t) p).drop ≡ is_dirty (dirty t) (dropped p i)
  unfolding closed_proc
  close_drop p i l = ap (λ (q : Proc). bit i q.drop) (close_proc p) ∙ bit_mask_of (proc_at t p).params i (λ j. is_dirty (dirty t) (dropped p j)) l

  -- ---- nodes

  -- a closed node is the closing of the open one
  pub close_node : (p n : ℕ) → node_at (close_table t) p n ≡ (closed_slot t (dirty t) p (unkept_arcs t (dirty t) p) n (record { node = node_at t p n })).node
  unfolding closed_proc closed_slot kept parts
  close_node p n = ap (λ (q : Proc). (get_or q.slots n no_slot).node) (close_proc p)
      ∙ ap (λ (x : Slot). x.node) (map_at (closed_slot t (dirty t) p (unkept_arcs t (dirty t) p)) n (proc_at t p).slots no_slot no_slot (λ _. refl))

  pub kept_node : (p n : ℕ) → kept (dirty t) p n (node_at t p n) ≡ true → node_at (close_table t) p n ≡ closed_node t (dirty t) p n (new_arc t (dirty t) p (unkept_arcs t (dirty t) p)) (node_at t p n)
  unfolding closed_slot
  kept_node p n e = close_node p n ∙ rw (e, closed_slot)

  pub unkept_node : (p n : ℕ) → kept (dirty t) p n (node_at t p n) ≡ false → node_at (close_table t) p n ≡ Absent
  unfolding closed_slot
  unkept_node p n e = close_node p n ∙ rw (e, closed_slot)

  -- ---- queues

  -- a capacity remains
  pub close_cap : (q : ℕ) → (queue_at (close_table t) q).cap ≡ (queue_at t q).cap
  unfolding close_table closed_with map_from
  close_cap q = go zero q t.queue
    where
      go : (i q : ℕ) (qs : List Queue) → (get_or (map_from (closed_queue t (dirty t)) i qs) q no_queue).cap ≡ (get_or qs q no_queue).cap
      go i q [] = refl
      go i zero (x ∷ qs) = refl
      go i (suc q) (x ∷ qs) = go (suc i) q qs

-- ---- a table that the closer accepts: it has no fault and is open, and the answer holds its closing

pub record Accepted (t : Table) : Type 0 where
  pub sound : fault t ≡ 0
  pub open_form : t.closed ≡ false
  pub answer_is : (close t).table ≡ close_table t

pub accepted : (t : Table) → (close t).number ≡ 0 → Accepted t
unfolding close
accepted t e = go (fault t) t.closed refl refl e
  where
    go : (n : ℕ) (c : Bool) → fault t ≡ n → t.closed ≡ c → (answer t n c).number ≡ 0 → Accepted t
    go zero false i j e = record { sound = i; open_form = j; answer_is = ap₂ (λ (n : ℕ) (c : Bool). (answer t n c).table) i j }
    go zero true i j e = absurd (omega arith)
    go (suc n) c i j e = absurd (omega arith)
