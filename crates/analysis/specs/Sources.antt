-- The sources: reads and receives. After them a variable can be dirty though none is dirty before them; a receive goes by the blank queues.
use Rattle.std.specs.Prelude.{ℕ, ◌%◌, ◌^◌, ◌<◌, ◌≤◌, ◌≡◌, refl, Bool, true, false, ◌⊎◌, ◌≢◌, List}
use Rattle.std.proofs.Common.{sym, ◌∙◌, ap, inl, inr}
use Rattle.std.proofs.Math.Option.{Option, none, some}
use Rattle.std.proofs.lemmas.Bool.{false≢true}
use Rattle.table.specs.Cases.{cases}
use Rattle.table.specs.Mask.{bit}
use Rattle.table.specs.Table.{node_at, node_in, Exit, ends, by, either, Act, alone, waits, signals, sends, receives, calls, returns, parts, variable_set, keeping, act}
use Rattle.table.specs.declared.Node.{Node}
use Rattle.table.specs.declared.Node.TheVariants.{Absent}
use Rattle.table.specs.declared.Proc.{Proc}
use Rattle.table.specs.declared.Table.{Table}
use Rattle.masks.specs.Bits.{bit_zero}
use Rattle.masks.specs.Cells.{cell, Masks}
use Rattle.flow.specs.Flow.{after_set, is_never, receives_by, from_blank, set_dirty, after_any, out_by, add_by, flow_of}
use Rattle.analysis.specs.Ready.{Ready}
use Rattle.analysis.specs.Steps.{Held}
use Rattle.analysis.specs.Marked.{Marked, marked_masks, marked_right}
use Rattle.analysis.specs.NodeLaws.{after_out, ByRule, by_never, by_use, by_blank, rule_of, passed_out, sent_out}

abbrev pub is_read : Node → Bool
is_read x = is_never (keeping x)

abbrev pub is_recv : Node → Bool
is_recv x = receives_by (act x)

pub flow_blank : (x : Node) (n i b b' : ℕ) → (is_recv x ≡ true → b' ≡ b) → flow_of x n i b' ≡ flow_of x n i b
unfolding flow_of
flow_blank x n i b b' h = rw (go (act x) h)
  where
    go : (a : Act) → (receives_by a ≡ true → b' ≡ b) → from_blank a b' ≡ from_blank a b
    go alone h = refl
    go (waits s) h = refl
    go (signals s) h = refl
    go (sends q v) h = refl
    go (receives q v) h = rw (h refl)
    go (calls q xs) h = refl
    go returns h = refl

-- ---- while nothing is dirty

none_in : (k : ℕ) → bit k 0 ≡ true → ⊥
none_in k h = false≢true (sym (bit_zero k) ∙ h)

setting_clean : (d : Bool) (w k : ℕ) → d ≡ false → bit k (after_set 0 d (2 ^ w)) ≡ true → ⊥
setting_clean d w k z h = go (after_out 0 w k d h)
  where
    go : ((d ≡ true) × (k ≡ w)) ⊎ ((bit k 0 ≡ true) × (w ≢ k)) → ⊥
    go (inl e) = false≢true (sym z ∙ e.0)
    go (inr e) = none_in k e.0

-- a node that is no read sets nothing dirty
clean : (x : Node) → is_read x ≡ false → set_dirty x 0 0 ≡ false
clean x h = cases (set_dirty x 0 0) (λ e. absurd (go (rule_of x 0 0 e))) (λ e. e)
  where
    go : ByRule x 0 0 → ⊥
    go (by_never e) = false≢true (sym h ∙ ap is_never e)
    go (by_use u m e) = none_in (u % 32) e
    go (by_blank q v e f) = none_in (q % 32) f

-- and adds nothing
pub flow_nothing : (x : Node) (n p : ℕ) (l : List ℕ) → is_read x ≡ false → Held (flow_of x n 0 0) p l
unfolding flow_of
flow_nothing x n p l h = record { first = λ k e. absurd (out (parts x).exit (variable_set x) k e); second = λ k e. absurd (out (parts x).exit (variable_set x) k e); extra = λ k e. absurd (add (act x) k e) }
  where
    after : (s : Option ℕ) (k : ℕ) → bit k (after_any s 0 (set_dirty x 0 0)) ≡ true → ⊥
    after none k e = none_in k e
    after (some v) k e = setting_clean (set_dirty x 0 0) (v % 32) k (clean x h) e

    out : (e : Exit) (s : Option ℕ) (k : ℕ) → bit k (out_by e 0 (after_any s 0 (set_dirty x 0 0))) ≡ true → ⊥
    out ends s k e = none_in k e
    out (by m) s k e = after s k e
    out (either y z) s k e = after s k e

    add : (a : Act) (k : ℕ) → bit k (add_by a 0).1 ≡ true → ⊥
    add alone k e = none_in k e
    add (waits s) k e = none_in k e
    add (signals s) k e = none_in k e
    add (sends q v) k e = none_in _ (sent_out 0 q v k e).1
    add (receives q v) k e = none_in k e
    add (calls q xs) k e = none_in _ (passed_out 0 k xs e).2
    add returns k e = none_in k e

-- the reads of a procedure, and its receives
abbrev pub read_in : Proc → ℕ → Bool
read_in q n = is_read (node_in q n)

abbrev pub recv_in : Proc → ℕ → Bool
recv_in q n = is_recv (node_in q n)

-- a mask for each procedure: its nodes of one kind
pub record Marks (f : Node → Bool) (t : Table) (r : List ℕ) : Type 0 where
  pub masks : Masks 8 32 r
  pub right : (p n : ℕ) → p < 8 → n < 32 → bit n (cell r p) ≡ f (node_at t p n)

abbrev pub Reads : Table → List ℕ → Type 0
Reads t r = Marks is_read t r

abbrev pub Receivers : Table → List ℕ → Type 0
Receivers t r = Marks is_recv t r

pub marks : {t : Table} {p : ℕ} {r : List ℕ} (f : Node → Bool) → f Absent ≡ false → Ready t → t.procs ≤ p → Marked t (λ a n. f (node_at t a n)) p r → Marks f t r
marks f z o h g = record { masks = marked_masks o g; right = λ a n ha hn. marked_right o g h (λ a n e. ap f e ∙ z) a n }
