-- The walk over dropped nodes, as the code goes: a node is executed and its arc taken, until a kept node is met.
use Rattle.std.specs.Prelude.{◌≡◌, Bool, List, [], length, get_or, set, drop, ℤ, pos}
use Rattle.std.proofs.Math.Path.{refl, ap}
use Rattle.std.proofs.Common.{sym, ◌∙◌, subst, length-set, drop_of_length-le, drop-cons}
use Rattle.std.proofs.Math.Bool.{true, false}
use Rattle.std.specs.Prelude.{Option, Some, None, Result, Ok, Err}
use Rattle.std.proofs.Math.Option as maybe
use Rattle.std.proofs.Math.Option.{none, some}
use Prim.Native.Nat.{ℕ, zero, suc, ◌+◌, ◌-◌, ◌*◌, ◌<◌, ◌≤◌}
use native.Mathlib.Omega.{arith}
use Rattle.std.proofs.Math.Seq.{set_out}
use Rattle.std.proofs.Math.Dec.{leb}
use borrow.Author.Tests.{leb-true, leb-false}
use Rattle.table.specs.Mask.{pick, bit}
use Rattle.table.specs.Table.{node_at, arc_to, uses, removed, Keeping, always, keeping, parts}
use Rattle.table.specs.ByKind.{by_kind}
use Rattle.table.specs.Values.{apply, holds}
use Rattle.table.specs.declared.Node.{Node}
use Rattle.table.specs.declared.Node.TheVariants.{Absent, Start, Set, Test, Read, Call, Wait, Signal, Send, Recv, Assert, Out, Return}
use Rattle.table.specs.declared.Table.{Table}
use Rattle.closing.specs.Dirty.{Fact}
use Rattle.closing.specs.Closing.{dirty, kept_by, kept}
use Rattle.machine.specs.Step.{Memory, operand_in, assign, Does, goes, stops, read_of, exec, Choice, choose, kept_of, kept_in, Walk, halts, arrives, along, onward, noting, walk}
use Rattle.tosses.specs.declared.Stop.{Stop}
use Rattle.tosses.specs.declared.Stop.TheVariants.{TooMany, ValuesSpent}
use Rattle.tosses.specs.declared.Target.{Target}
use Rattle.tosses.specs.declared.Target.TheVariants.{Nowhere, Kept, Dropped}
use Rattle.tosses.specs.Stops.{said, meant, said_meant}
use Rattle.tosses.specs.Tosses.{arrived_of}
use Rattle.tosses.specs.TossLaws.{choice_of, Sound, Arrived, arrived as arrived-at}
use Rattle.run_code.specs.Code.{byte, node_of}
use Rattle.run_step.specs.declared.Effect.{Effect}
use Rattle.run_step.specs.Effects.{goes_to, read_to, pass_of}

-- ---- where a walk ends, without the nodes on the way

pub data Met : Type 0 where
  halted : Stop → Met
  arrived : maybe.Option ℕ → Memory → List ℤ → Met

abbrev pub met : Walk → Met
met (halts c) = halted (said c)
met (arrives w m vs ns) = arrived w m vs

met_noting : (n : ℕ) (w : Walk) → met (noting n w) ≡ met w
met_noting n (halts c) = refl
met_noting n (arrives w m vs ns) = refl

abbrev pub with_vars : Memory → List ℤ → Memory
with_vars m l = record { vars = l; sems = m.sems; queues = m.queues }

-- the kept node that is met, or none
abbrev pub node_in : Option ℕ → maybe.Option ℕ
node_in None = none
node_in (Some n) = some n

-- an arc that leads to it
abbrev pub ending : Option ℕ → Target
ending None = Nowhere
ending (Some n) = Kept n

abbrev pub met_of : List ℤ → Memory → Result (Option ℕ × ℕ) Stop → Met
met_of vs m (Ok p) = arrived (node_in p.0) m (drop p.1 vs)
met_of vs m (Err c) = halted c

-- no more values are used than there are
abbrev pub Within : List ℤ → Result (Option ℕ × ℕ) Stop → Type 0
Within vs (Ok p) = p.1 ≤ length vs
Within vs (Err c) = Unit {0}

-- ---- the procedure's rows

-- row base + n is node n of procedure p, and `keep` is the mask of the kept ones
pub record Rows (t : Table) (p : ℕ) (code words : List (List ℕ)) (base keep : ℕ) : Type 0 where
  pub inside : p < 8
  pub from : base ≡ 32 * p
  pub nodes : (n : ℕ) → n < 32 → node_of (get_or code (base + n) []) (get_or words (base + n) []) ≡ node_at t p n
  pub arcs : (n : ℕ) → n < 32 → byte (get_or words (base + n) []) 2 ≡ arc_to (node_at t p n)
  pub keeps : (n : ℕ) → n < 32 → bit n keep ≡ kept_in t p n

-- ---- a dropped node is a `read`, a `set` or a `test`, or none at all

abbrev pub Sometimes : Node → Type 0
Sometimes x = keeping x ≡ always → ⊥

kept_always : (d : List Fact) (p n : ℕ) (x : Node) → keeping x ≡ always → kept d p n x ≡ true
unfolding kept
kept_always d p n x k = ap (λ (z : Keeping). kept_by d z p n (uses x)) k

false_true : (b : Bool) → b ≡ false → b ≡ true → ⊥
false_true b e h = let z : ◌≡◌ {A = Bool} false true = sym e ∙ h in let y : ◌≡◌ {A = ℕ} 0 1 = cc in omega arith

pub unkept : (t : Table) (b : Bool) (p n : ℕ) → kept_of t b p n ≡ false → Sometimes (node_at t p n)
unkept t true p n e k = false_true true e refl
unkept t false p n e k = false_true (kept (dirty t) p n (node_at t p n)) e (kept_always (dirty t) p n (node_at t p n) k)

-- ---- a dropped node executed as the code does it

abbrev pub did_of : List ℤ → Memory → Result Effect Stop → Does
did_of vs m (Ok o) = goes o.arc (assign o.var o.value m) (drop o.used vs) none
did_of vs m (Err c) = stops (meant c)

unset : (m : Memory) (x : ℤ) → length m.vars ≡ 16 → assign removed x m ≡ m
unset m x h = ap (λ (l : List ℤ). with_vars m l) (set_out m.vars removed x (omega arith))

-- it uses no more values than there are
abbrev pub Sane : List ℤ → ℕ → Result Effect Stop → Type 0
Sane vs used (Ok o) = used ≤ length vs → o.used ≤ length vs
Sane vs used (Err c) = Unit {0}

module _ (vs : List ℤ) (used : ℕ) where
  goes_sane : (v : ℕ) (x : ℤ) (arc near : ℕ) → Sane vs used (Ok (goes_to v x used arc near))
  goes_sane v x arc near = λ u. u

  read_sane : (v arc : ℕ) → Sane vs used (read_to v vs used arc 0)
  read_sane v arc = go (leb (length vs) used) refl
    where
      go : (b : Bool) → leb (length vs) used ≡ b → Sane vs used (pick b (Err ValuesSpent) (Ok (goes_to v (get_or vs used (pos 0)) (used + 1) arc 0)))
      go true e = tt
      go false e = λ u. omega (arith, leb-false (length vs) used e)

  read_did : (v arc : ℕ) (m : Memory) → read_of v arc m (drop used vs) ≡ did_of vs m (read_to v vs used arc 0)
  read_did v arc m = go (leb (length vs) used) refl
    where
      go : (b : Bool) → leb (length vs) used ≡ b → read_of v arc m (drop used vs) ≡ did_of vs m (pick b (Err ValuesSpent) (Ok (goes_to v (get_or vs used (pos 0)) (used + 1) arc 0)))
      go true e = rw (drop_of_length-le vs (leb-true (length vs) used e)) refl
      go false e = let s : used + 1 ≡ suc used = omega arith in rw (drop-cons vs used (pos 0) (leb-false (length vs) used e), s) refl

  pub pass_sane : (l : List ℤ) (x : Node) → Sane vs used (pass_of x l vs used)
  unfolding pass_of
  pass_sane l = by_kind (search (goes_sane, read_sane))

  passes : (t : Table) (k : ℕ) (x : Node) (m : Memory) → Sometimes x → length m.vars ≡ 16 → exec t k x m (drop used vs) ≡ did_of vs m (pass_of x m.vars vs used)
  unfolding exec pass_of parts
  passes t k Absent m s h = ap (λ (y : Memory). goes 0 y (drop used vs) none) (sym (unset m (pos 0) h))
  passes t k (Start to) m s h = absurd (s refl)
  passes t k (Set v o a b to) m s h = refl
  passes t k (Test o a b y n) m s h = ap (λ (z : Memory). goes (pick (holds (apply o (operand_in m.vars a) (operand_in m.vars b))) y n) z (drop used vs) none) (sym (unset m (pos 0) h))
  passes t k (Read v to) m s h = read_did v to m
  passes t k (Call q xs to) m s h = absurd (s refl)
  passes t k (Wait i to) m s h = absurd (s refl)
  passes t k (Signal i to) m s h = absurd (s refl)
  passes t k (Send q v to) m s h = absurd (s refl)
  passes t k (Recv q v to) m s h = absurd (s refl)
  passes t k (Assert v to) m s h = absurd (s refl)
  passes t k (Out v to) m s h = absurd (s refl)
  passes t k Return m s h = absurd (s refl)

-- ---- the walk

-- of task k from node n of procedure p on, at most d dropped nodes, `used` values being used
abbrev pub walking : Table → ℕ → List ℤ → ℕ → ℕ → ℕ → Memory → ℕ → Walk
walking t k vs p d n m used = walk t (kept_in t) k p d n m (drop used vs)

-- the same from an arc on
abbrev pub heading : Table → ℕ → List ℤ → ℕ → ℕ → Memory → ℕ → ℕ → Walk
heading t k vs p d m arc used = along (λ n m ws. walk t (kept_in t) k p d n m ws) m (choose arc (drop used vs))

module _ (t : Table) (k : ℕ) (vs : List ℤ) (p : ℕ) where
  -- an arc's answer: the walk is over, or a dropped node is met
  module _ (keep : ℕ) (keeps : (n : ℕ) → n < 32 → bit n keep ≡ kept_in t p n) (d : ℕ) (m : Memory) (arc used : ℕ) (r : Result (Target × ℕ) Stop) (a : Arrived arc keep vs used r) where
    at_kept : (d n : ℕ) (m : Memory) (ws : List ℤ) → kept_in t p n ≡ true → walk t (kept_in t) k p d n m ws ≡ arrives (some n) m ws []
    unfolding walk
    at_kept zero n m ws e = rw (walk, e) refl
    at_kept (suc d) n m ws e = rw (walk, e) refl

    abbrev on : Choice → Met
    on z = met (along (λ n m ws. walk t (kept_in t) k p d n m ws) m z)

    pub arc_halts : (c : Stop) → r ≡ Err c → met (heading t k vs p d m arc used) ≡ halted c
    arc_halts c e = ap on (a.choice ∙ ap (choice_of vs) e) ∙ ap halted (said_meant c)

    pub arc_over : (at : Option ℕ) (u : ℕ) → r ≡ Ok (ending at, u) → met (heading t k vs p d m arc used) ≡ arrived (node_in at) m (drop u vs)
    arc_over None u e = ap on (a.choice ∙ ap (choice_of vs) e)
    arc_over (Some n) u e =
        let s : Sound keep vs (Ok (Kept n, u)) = rw e at a.sound in
        ap on (a.choice ∙ ap (choice_of vs) e) ∙ ap met (at_kept d n m (drop u vs) (sym (keeps n s.0.0) ∙ s.0.1))

    pub arc_on : (n u : ℕ) → r ≡ Ok (Dropped n, u) → met (heading t k vs p d m arc used) ≡ met (walking t k vs p d n m u)
    arc_on n u e = ap on (a.choice ∙ ap (choice_of vs) e)

  -- from a dropped node on
  module _ (n : ℕ) (u : kept_in t p n ≡ false) (m : Memory) (used : ℕ) where
    pub walk_spent : (d : ℕ) → d ≡ 0 → met (walking t k vs p d n m used) ≡ halted TooMany
    unfolding walk
    walk_spent zero z = rw (walk, u) refl
    walk_spent (suc d) z = absurd (omega arith)

    module _ (a : Result Effect Stop) (long : length m.vars ≡ 16) (e : a ≡ pass_of (node_at t p n) m.vars vs used) where
      step_on : (d : ℕ) → (d ≡ 0 → ⊥) → met (walking t k vs p d n m used) ≡ met (onward (λ n m ws. walk t (kept_in t) k p (d - 1) n m ws) m (drop used vs) (did_of vs m a))
      unfolding walk
      step_on zero z = absurd (z refl)
      step_on (suc d) z =
          let i : suc d - 1 ≡ d = omega arith in
          let x : exec t k (node_at t p n) m (drop used vs) ≡ did_of vs m a = passes vs used t k (node_at t p n) m (unkept t t.closed p n u) long ∙ ap (did_of vs m) (sym e) in
          rw (i, walk, u)
          (met_noting n (onward (λ n m ws. walk t (kept_in t) k p d n m ws) m (drop used vs) (exec t k (node_at t p n) m (drop used vs))) ∙
          ap (λ (y : Does). met (onward (λ n m ws. walk t (kept_in t) k p d n m ws) m (drop used vs) y)) x)

      pub walk_halts : (d : ℕ) → (d ≡ 0 → ⊥) → (c : Stop) → a ≡ Err c → met (walking t k vs p d n m used) ≡ halted c
      walk_halts d z c h = step_on d z ∙ rw h (ap halted (said_meant c))

      pub walk_goes : (d : ℕ) → (d ≡ 0 → ⊥) → (o : Effect) → a ≡ Ok o → met (walking t k vs p d n m used) ≡ met (heading t k vs p (d - 1) (assign o.var o.value m) o.arc o.used)
      walk_goes d z o h = step_on d z ∙ rw h refl

-- ---- what the code's walk leans on and leaves

module _ (code words : List (List ℕ)) (base keep first : ℕ) (w vs : List ℤ) (before : ℕ) where
  pub record Walks : Type 0 where
    pub t : Table
    pub p : ℕ
    pub rows : Rows t p code words base keep
    pub place : first < 32
    pub unkept : bit first keep ≡ false
    pub long : length w ≡ 16
    pub within : before ≤ length vs

  module _ (most : ℕ) where
    -- where it stops, the variables are of no meaning
    pub record Walked (r : Result (Option ℕ × ℕ) Stop) (w' : List ℤ) : Type 0 where
      pub within : Within vs r
      pub long : length w' ≡ 16
      pub ends : (t : Table) (p k : ℕ) (m : Memory) → Rows t p code words base keep → met (walking t k vs p most first (with_vars m w) before) ≡ met_of vs (with_vars m w') r

    -- on the way: before the dropped node n, with l as the variables, `used` values used, d more nodes allowed
    pub record Midway (l : List ℤ) (n used d : ℕ) : Type 0 where
      pub place : n < 32
      pub unkept : bit n keep ≡ false
      pub long : length l ≡ 16
      pub within : used ≤ length vs
      pub fewer : d ≤ most
      pub same : (t : Table) (p k : ℕ) (m : Memory) → Rows t p code words base keep → met (walking t k vs p most first (with_vars m w) before) ≡ met (walking t k vs p d n (with_vars m l) used)

    pub begins : Walks → Midway w first before most
    begins h = record { place = h.place; unkept = h.unkept; long = h.long; within = h.within; fewer = omega arith; same = λ t p k m r. refl }

    module _ (l : List ℤ) (n used d : ℕ) (g : Midway l n used d) where
      dropped : (t : Table) (p : ℕ) → Rows t p code words base keep → kept_in t p n ≡ false
      dropped t p r = sym (r.keeps n g.place) ∙ g.unkept

      pub spent : d ≡ 0 → Walked (Err TooMany) l
      spent z = record { within = tt; long = g.long; ends = λ t p k m r. g.same t p k m r ∙ walk_spent t k vs p n (dropped t p r) (with_vars m l) used d z }

      module _ (z : d ≡ 0 → ⊥) (a : Result Effect Stop) (e : a ≡ pass_of (node_of (get_or code (base + n) []) (get_or words (base + n) [])) l vs used) where
        of_node : (t : Table) (p : ℕ) → Rows t p code words base keep → a ≡ pass_of (node_at t p n) l vs used
        of_node t p r = e ∙ ap (λ (x : Node). pass_of x l vs used) (r.nodes n g.place)

        pub stops_at : (c : Stop) → a ≡ Err c → Walked (Err c) l
        stops_at c h = record { within = tt; long = g.long; ends = λ t p k m r. g.same t p k m r ∙ walk_halts t k vs p n (dropped t p r) (with_vars m l) used a g.long (of_node t p r) d z c h }

        module _ (o : Effect) (h : a ≡ Ok o) where
          pub pass_within : o.used ≤ length vs
          pass_within =
              let s : Sane vs used (Ok o) = subst (Sane vs used) (sym e ∙ h) (pass_sane vs used l (node_of (get_or code (base + n) []) (get_or words (base + n) []))) in
              s g.within

          module _ (y : Result (Target × ℕ) Stop) (i : y ≡ arrived_of o.arc keep vs o.used) (l' : List ℤ) (j : l' ≡ set l o.var o.value) where
            taken : Arrived o.arc keep vs o.used y
            taken = arrived-at o.arc keep vs o.used pass_within i

            still_long : length l' ≡ 16
            still_long = ap length j ∙ length-set l o.var o.value ∙ g.long

            going : (t : Table) (p k : ℕ) (m : Memory) → Rows t p code words base keep → met (walking t k vs p most first (with_vars m w) before) ≡ met (heading t k vs p (d - 1) (with_vars m l') o.arc o.used)
            going t p k m r =
                g.same t p k m r
                ∙ walk_goes t k vs p n (dropped t p r) (with_vars m l) used a g.long (of_node t p r) d z o h
                ∙ ap (λ (x : List ℤ). met (heading t k vs p (d - 1) (with_vars m x) o.arc o.used)) (sym j)

            pub halts_there : (c : Stop) → y ≡ Err c → Walked (Err c) l'
            halts_there c b = record {
              within = tt;
              long = still_long;
              ends = λ t p k m r. going t p k m r ∙ arc_halts t k vs p keep r.keeps (d - 1) (with_vars m l') o.arc o.used y taken c b;
            }

            pub ends_there : (at : Option ℕ) (u : ℕ) → y ≡ Ok (ending at, u) → Walked (Ok (at, u)) l'
            ends_there at u b =
                let s : Sound keep vs (Ok (ending at, u)) = rw b at taken.sound in
                record {
                  within = s.1;
                  long = still_long;
                  ends = λ t p k m r. going t p k m r ∙ arc_over t k vs p keep r.keeps (d - 1) (with_vars m l') o.arc o.used y taken at u b;
                }

            pub goes_on : (n' u : ℕ) → y ≡ Ok (Dropped n', u) → Midway l' n' u (d - 1)
            goes_on n' u b =
                let s : Sound keep vs (Ok (Dropped n', u)) = rw b at taken.sound in
                record {
                  place = s.0.0;
                  unkept = s.0.1;
                  long = still_long;
                  within = s.1;
                  fewer = omega (arith, g.fewer);
                  same = λ t p k m r. going t p k m r ∙ arc_on t k vs p keep r.keeps (d - 1) (with_vars m l') o.arc o.used y taken n' u b;
                }
