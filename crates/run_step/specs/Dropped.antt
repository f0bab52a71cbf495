-- A walk over dropped nodes leaves semaphores and queues alone, and does not depend on them.
use Prim.Native.Nat.{ℕ, zero, suc}
use Rattle.std.specs.Prelude.{◌≡◌, Bool, true, false, List, [], ◌∷◌, length, set, ℤ}
use Rattle.std.proofs.Math.Path.{refl}
use Rattle.std.proofs.Common.{sym, ◌∙◌, ap, subst, length-set}
use Rattle.std.proofs.Math.Option.{none, some}
use Rattle.table.specs.Mask.{pick}
use Rattle.table.specs.Table.{node_at, parts}
use Rattle.table.specs.Values.{apply, holds}
use Rattle.table.specs.declared.Node.{Node}
use Rattle.table.specs.declared.Node.TheVariants.{Absent, Start, Set, Test, Read, Call, Wait, Signal, Send, Recv, Assert, Out, Return}
use Rattle.table.specs.declared.Table.{Table}
use Rattle.machine.specs.declared.Entries.{Entries}
use Rattle.machine.specs.Step.{Stop, too_many, values_spent, Memory, operand_in, Does, goes, stops, exec, Choice, nowhere, node, bad, choose, kept_in, Walk, halts, arrives, along, onward, noting, walk}
use Rattle.run_step.specs.Walks.{Sometimes, unkept}

abbrev pub mem : List ℤ → List ℕ → List Entries → Memory
mem l a b = record { vars = l; sems = a; queues = b }

-- the walk with other semaphores and queues
abbrev pub sharing : List ℕ → List Entries → Walk → Walk
sharing a b (halts c) = halts c
sharing a b (arrives w m vs ns) = arrives w (mem m.vars a b) vs ns

-- it ends with n variables, semaphores a and queues b
abbrev pub Lands : ℕ → List ℕ → List Entries → Walk → Type 0
Lands n a b (halts c) = Unit {0}
Lands n a b (arrives w m vs ns) = (length m.vars ≡ n) × ((m.sems ≡ a) × (m.queues ≡ b))

-- a walk of n variables, whatever the semaphores and queues are
pub record Apart (n : ℕ) (w : List ℕ → List Entries → Walk) : Type 0 where
  pub same : (a a₂ : List ℕ) (b b₂ : List Entries) → w a₂ b₂ ≡ sharing a₂ b₂ (w a b)
  pub lands : (a : List ℕ) (b : List Entries) → Lands n a b (w a b)

apart_by : (n : ℕ) (w v : List ℕ → List Entries → Walk) → ((a : List ℕ) (b : List Entries) → w a b ≡ v a b) → Apart n v → Apart n w
apart_by n w v e h = subst (λ (u : List ℕ → List Entries → Walk). Apart n u) (sym (λ i a b. e a b i)) h

-- ---- a node that is not kept

-- it goes on with as many variables, or stops
data Passed (t : Table) (k : ℕ) (x : Node) (l ws : List ℤ) : Type 0 where
  onto : (arc : ℕ) (l' ws' : List ℤ) → length l' ≡ length l → ((a : List ℕ) (b : List Entries) → exec t k x (mem l a b) ws ≡ goes arc (mem l' a b) ws' none) → Passed t k x l ws
  halting : (c : Stop) → ((a : List ℕ) (b : List Entries) → exec t k x (mem l a b) ws ≡ stops c) → Passed t k x l ws

read_passed : (t : Table) (k v to : ℕ) (l ws : List ℤ) → Passed t k (Read v to) l ws
unfolding exec
read_passed t k v to l [] = halting values_spent (λ a b. refl)
read_passed t k v to l (x ∷ ws) = onto to (set l v x) ws (length-set l v x) (λ a b. refl)

passed : (t : Table) (k : ℕ) (x : Node) (l ws : List ℤ) → Sometimes x → Passed t k x l ws
unfolding exec parts
passed t k Absent l ws s = onto 0 l ws refl (λ a b. refl)
passed t k (Start to) l ws s = absurd (s refl)
passed t k (Set v o a b to) l ws s = onto to _ ws (length-set l v (apply o (operand_in l a) (operand_in l b))) (λ a b. refl)
passed t k (Test o a b y n) l ws s = onto (pick (holds (apply o (operand_in l a) (operand_in l b))) y n) l ws refl (λ a b. refl)
passed t k (Read v to) l ws s = read_passed t k v to l ws
passed t k (Call q xs to) l ws s = absurd (s refl)
passed t k (Wait i to) l ws s = absurd (s refl)
passed t k (Signal i to) l ws s = absurd (s refl)
passed t k (Send q v to) l ws s = absurd (s refl)
passed t k (Recv q v to) l ws s = absurd (s refl)
passed t k (Assert v to) l ws s = absurd (s refl)
passed t k (Out v to) l ws s = absurd (s refl)
passed t k Return l ws s = absurd (s refl)

-- ---- the walk

note_share : (n : ℕ) (a : List ℕ) (b : List Entries) (w : Walk) → noting n (sharing a b w) ≡ sharing a b (noting n w)
note_share n a b (halts c) = refl
note_share n a b (arrives w m vs ns) = refl

note_lands : (n k : ℕ) (a : List ℕ) (b : List Entries) (w : Walk) → Lands k a b w → Lands k a b (noting n w)
note_lands n k a b (halts c) h = h
note_lands n k a b (arrives w m vs ns) h = h

noted : (n k : ℕ) (w : List ℕ → List Entries → Walk) → Apart k w → Apart k (λ a b. noting n (w a b))
noted n k w h = record {
  same = λ a a₂ b b₂. ap (noting n) (h.same a a₂ b b₂) ∙ note_share n a₂ b₂ (w a b);
  lands = λ a b. note_lands n k a b (w a b) (h.lands a b);
}

alongs : (k : ℕ) (go : ℕ → Memory → List ℤ → Walk) (l : List ℤ) → length l ≡ k → ((n : ℕ) (ws : List ℤ) → Apart k (λ a b. go n (mem l a b) ws))
    → (c : Choice) → Apart k (λ a b. along go (mem l a b) c)
alongs k go l e h (nowhere vs) = record { same = λ a a₂ b b₂. refl; lands = λ a b. (e, (refl, refl)) }
alongs k go l e h (node n vs) = h n vs
alongs k go l e h (bad c) = record { same = λ a a₂ b b₂. refl; lands = λ a b. tt }

halted : (j : ℕ) (c : Stop) → Apart j (λ a b. halts c)
halted j c = record { same = λ a a₂ b b₂. refl; lands = λ a b. tt }

arrived : (j n : ℕ) (l ws : List ℤ) → length l ≡ j → Apart j (λ a b. arrives (some n) (mem l a b) ws [])
arrived j n l ws h = record { same = λ a a₂ b b₂. refl; lands = λ a b. (h, (refl, refl)) }

module _ (t : Table) (k p : ℕ) where
  at_kept : (d n : ℕ) (m : Memory) (ws : List ℤ) → kept_in t p n ≡ true → walk t (kept_in t) k p d n m ws ≡ arrives (some n) m ws []
  unfolding walk
  at_kept zero n m ws e = rw (walk, e) refl
  at_kept (suc d) n m ws e = rw (walk, e) refl

  at_last : (n : ℕ) (m : Memory) (ws : List ℤ) → kept_in t p n ≡ false → walk t (kept_in t) k p 0 n m ws ≡ halts too_many
  unfolding walk
  at_last n m ws e = rw (walk, e) refl

  at_dropped : (d n : ℕ) (m : Memory) (ws : List ℤ) → kept_in t p n ≡ false
      → walk t (kept_in t) k p (suc d) n m ws ≡ noting n (onward (λ n m ws. walk t (kept_in t) k p d n m ws) m ws (exec t k (node_at t p n) m ws))
  unfolding walk
  at_dropped d n m ws e = rw (walk, e) refl

  module _ (j : ℕ) where
    abbrev Walks : ℕ → Type 0
    Walks d = (n : ℕ) (l ws : List ℤ) → length l ≡ j → Apart j (λ a b. walk t (kept_in t) k p d n (mem l a b) ws)

    walks_last : (n : ℕ) (l ws : List ℤ) → length l ≡ j → (c : Bool) → kept_in t p n ≡ c → Apart j (λ a b. walk t (kept_in t) k p 0 n (mem l a b) ws)
    walks_last n l ws h true e = apart_by j _ (λ a b. arrives (some n) (mem l a b) ws []) (λ a b. at_kept 0 n (mem l a b) ws e) (arrived j n l ws h)
    walks_last n l ws h false e = apart_by j _ (λ a b. halts too_many) (λ a b. at_last n (mem l a b) ws e) (halted j too_many)

    passes : (d n : ℕ) (l ws : List ℤ) → length l ≡ j → Walks d → kept_in t p n ≡ false → Passed t k (node_at t p n) l ws → Apart j (λ a b. walk t (kept_in t) k p (suc d) n (mem l a b) ws)
    passes d n l ws h r e (onto arc l' ws' i x) =
        apart_by j _ (λ a b. noting n (along (λ n m ws. walk t (kept_in t) k p d n m ws) (mem l' a b) (choose arc ws')))
        (λ a b. at_dropped d n (mem l a b) ws e ∙ ap (λ (y : Does). noting n (onward (λ n m ws. walk t (kept_in t) k p d n m ws) (mem l a b) ws y)) (x a b))
        (noted n j _ (alongs j (λ n m ws. walk t (kept_in t) k p d n m ws) l' (i ∙ h) (λ n ws. r n l' ws (i ∙ h)) (choose arc ws')))
    passes d n l ws h r e (halting c x) =
        apart_by j _ (λ a b. halts c)
        (λ a b. at_dropped d n (mem l a b) ws e ∙ ap (λ (y : Does). noting n (onward (λ n m ws. walk t (kept_in t) k p d n m ws) (mem l a b) ws y)) (x a b))
        (halted j c)

    walks_on : (d n : ℕ) (l ws : List ℤ) → length l ≡ j → Walks d → (c : Bool) → kept_in t p n ≡ c → Apart j (λ a b. walk t (kept_in t) k p (suc d) n (mem l a b) ws)
    walks_on d n l ws h r true e = apart_by j _ (λ a b. arrives (some n) (mem l a b) ws []) (λ a b. at_kept (suc d) n (mem l a b) ws e) (arrived j n l ws h)
    walks_on d n l ws h r false e = passes d n l ws h r e (passed t k (node_at t p n) l ws (unkept t t.closed p n e))

    walks : (d : ℕ) → Walks d
    walks zero n l ws h = walks_last n l ws h (kept_in t p n) refl
    walks (suc d) n l ws h = walks_on d n l ws h (walks d) (kept_in t p n) refl

  -- from an arc on
  pub walk_shared : (d : ℕ) (l : List ℤ) (c : Choice) → Apart (length l) (λ a b. along (λ n m ws. walk t (kept_in t) k p d n m ws) (mem l a b) c)
  walk_shared d l c = alongs (length l) (λ n m ws. walk t (kept_in t) k p d n m ws) l refl (λ n ws. walks (length l) d n l ws refl) c
