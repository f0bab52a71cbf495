-- What each node of a table does, if it has one target: a list for all procedures.
use Rattle.std.specs.Prelude.{ℕ, zero, suc, ◌+◌, ◌*◌, ◌<◌, ◌≤◌, ◌≡◌, Bool, true, false, List, length, get_or, set, replicate, eqb}
use Rattle.std.proofs.Common.{arith, add-one, ◌∙◌, length-set, get_or-set_same, get_or-set_other, eqb-true}
use Rattle.std.proofs.Math.Path.{refl}
use Rattle.std.proofs.lemmas.List.{length-replicate, get_or-replicate}
use Rattle.std.proofs.lemmas.Bool.{eqb-false}
use Rattle.table.specs.Mask.{mask_of}
use Rattle.table.specs.Table.{proc_at, node_in, node_at, parts}
use Rattle.table.specs.declared.Node.{Node}
use Rattle.table.specs.declared.Proc.{Proc}
use Rattle.table.specs.declared.Table.{Table}
use Rattle.flow.specs.declared.Pass.{Pass}
use Rattle.flow.specs.Flow.{plain_pass, pass_of}
use Rattle.flow.specs.FlowLaws.{pass_low}
use Rattle.analysis.specs.Ready.{Ready}
use Rattle.analysis.specs.Marked.{Marked, marked_start, marked_next}
use Rattle.analysis.specs.Sources.{is_read, is_recv, read_in, recv_in, Reads, Receivers, marks}

pub pass_small : {s : Pass} (x : Node) (n : ℕ) → s ≡ pass_of x n → n ≤ 32 → s.to ≤ 32
pass_small x n e h = rw e (pass_low x n h)

-- n values stored from the place b on
unfoldable pub stored_from : {A : Type 0} → ℕ → (ℕ → A) → ℕ → List A → List A
stored_from b f zero l = l
stored_from b f (suc n) l = set (stored_from b f n l) (b + n) (f n)

pub stored_next : {A : Type 0} {l' : List A} {v : A} (b : ℕ) (f : ℕ → A) (n : ℕ) (l : List A) → l' ≡ stored_from b f n l → v ≡ f n → set l' (b + n) v ≡ stored_from b f (n + 1) l
unfolding stored_from
stored_next b f n l e z = rw (add-one n, e, z)

-- what place a has
abbrev pub plan_at : List Pass → ℕ → Pass
plan_at l a = get_or l a (record { uses = 0; sets = 0; to = 0 })

-- what s says of node n, which is x: what it does if it has one target. With 32 for the target it says nothing
abbrev pub Tells : Node → ℕ → Pass → Type 0
Tells x n s = (s.to ≤ 32) × (s.to < 32 → s ≡ pass_of x n)

-- the list is right for procedure p, which is q
pub record Planned (q : Proc) (p : ℕ) (l : List Pass) : Type 0 where
  pub each : (n : ℕ) → n < 32 → Tells (node_in q n) n (plan_at l (p * 32 + n))

-- the list is right for all procedures
pub record Passes (t : Table) (l : List Pass) : Type 0 where
  pub size : length l ≡ 256
  pub each : (p : ℕ) → p < 8 → Planned (proc_at t p) p l

-- it is at first, when it says nothing,
passes_start : (t : Table) → Passes t (replicate 256 (plain_pass 32))
passes_start t = record {
  size = length-replicate {A = Pass} 256 (plain_pass 32);
  each = λ p hp. record { each = λ n hn. rw (get_or-replicate {A = Pass} 256 (p * 32 + n) (plain_pass 32) _ (omega arith)) (omega arith, λ l. absurd (omega arith)) };
}

-- and with one more node
passes_next : {t : Table} {l : List Pass} (x : Pass) (p n : ℕ) → p < 8 → n < 32 → x ≡ pass_of (node_at t p n) n → Passes t l → Passes t (set l (p * 32 + n) x)
passes_next {t} {l} x p n hp hn e g = record {
  size = length-set l k _ ∙ g.size;
  each = λ a ha. record { each = λ b hb. go a b ha hb (eqb (a * 32 + b) k) refl };
}
  where
    k : ℕ
    k = p * 32 + n

    go : (a b : ℕ) → a < 8 → b < 32 → (y : Bool) → eqb (a * 32 + b) k ≡ y → Tells (node_at t a b) b (plan_at (set l k x) (a * 32 + b))
    go a b ha hb true q =
        let z = eqb-true (a * 32 + b) k q in
        let d : a ≡ p = omega arith in
        let m : b ≡ n = omega arith in
        rw (d, m, get_or-set_same l k x _ (omega (arith, g.size))) (pass_small (node_at t p n) n e (omega arith), λ l. e)
    go a b ha hb false q = rw (get_or-set_other l k (a * 32 + b) x _ (eqb-false (a * 32 + b) k q)) ((g.each a ha).each b hb)

-- or with the first n nodes of a procedure
passes_stored : {t : Table} {l : List Pass} (p n : ℕ) → p < 8 → n ≤ 32 → Passes t l → Passes t (stored_from (p * 32) (λ k. pass_of (node_at t p k) k) n l)
unfolding stored_from
passes_stored p zero hp h g = g
passes_stored {t} p (suc n) hp h g = passes_next (pass_of (node_at t p n) n) p n hp (omega arith) refl (passes_stored p n hp (omega arith) g)

pub passes_are : {t : Table} {l l' : List Pass} (p n : ℕ) → p < 8 → n ≤ 32 → l' ≡ stored_from (p * 32) (λ k. pass_of (node_at t p k) k) n l → Passes t l → Passes t l'
passes_are p n hp h e g = rw e (passes_stored p n hp h g)

-- ---- over the procedures

-- of the first p procedures: the receives, the reads, and what the nodes do
pub record Scanned (t : Table) (p : ℕ) (r w : List ℕ) (l : List Pass) : Type 0 where
  pub recvs : Marked t (λ j. recv_in (proc_at t j)) p r
  pub reads : Marked t (λ j. read_in (proc_at t j)) p w
  pub passes : Passes t l

pub scanned_start : (t : Table) → Scanned t 0 (replicate 8 0) (replicate 8 0) (replicate 256 (plain_pass 32))
scanned_start t = record { recvs = marked_start t _; reads = marked_start t _; passes = passes_start t }

-- of all procedures
pub record Known (t : Table) (r : List ℕ) (l : List Pass) : Type 0 where
  pub recvs : Receivers t r
  pub plans : (p : ℕ) → p < 8 → Planned (proc_at t p) p l

module _ {t : Table} {p : ℕ} {r w : List ℕ} {l : List Pass} (o : Ready t) (g : Scanned t p r w l) where
  pub scanned_next : {l' : List Pass} {m k : ℕ} → p < t.procs → m ≡ mask_of (proc_at t p).nodes (recv_in (proc_at t p)) → k ≡ mask_of (proc_at t p).nodes (read_in (proc_at t p)) → Passes t l' → Scanned t (p + 1) (set r p m) (set w p k) l'
  scanned_next h e e' f = let z : p < 8 = omega (arith, o.procs_few) in record { recvs = marked_next p z e g.recvs; reads = marked_next p z e' g.reads; passes = f }

  pub scanned_known : t.procs ≤ p → Known t r l
  unfolding parts
  scanned_known h = record { recvs = marks is_recv refl o h g.recvs; plans = g.passes.each }

  pub scanned_reads : t.procs ≤ p → Reads t w
  unfolding parts
  scanned_reads h = marks is_read refl o h g.reads
