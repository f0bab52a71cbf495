-- On from a node: the open run executes nodes that are not kept until it meets a kept one, and the closed run takes the new arc there.
use Prim.Native.Nat.{ℕ, zero, suc}
use Rattle.std.specs.Prelude.{◌≡◌, true, false, pos}
use Rattle.std.proofs.Math.Path.{refl}
use Rattle.std.proofs.Common.{◌∙◌, ap}
use Rattle.std.proofs.Math.Option.{Option, some}
use mathlib.Core.List.{List, [], ◌∷◌, ◌++◌, map, Memᴰ}
use Rattle.std.proofs.Math.IntN.{ℤ}
use Rattle.table.specs.Cases.{cases}
use Rattle.table.specs.Mask.{members}
use Rattle.table.specs.MaskLaws.{members_is}
use Rattle.table.specs.Table.{node_at, is_absent}
use Rattle.table.specs.declared.Table.{Table}
use Rattle.closing.specs.Dirty.{Leads, target, through}
use Rattle.closing.specs.Close.{close_table}
use Rattle.closing.proofs.KeptLaws.{unkept_is, kept_is}
use Rattle.closing.proofs.ListLaws.{all_map}
use Rattle.closing.proofs.ArcLaws.{leads_below, arc_is}
use Rattle.machine.specs.Step.{Memory, Does, opens, closes, goes, stops, exec, choose, Walk, halts, arrives, along, onward, noting, walk}
use Rattle.machine.proofs.StepLaws.{choose_one, choose_some}
use Rattle.machine.proofs.KeptLaws.{all_kept}
use Rattle.machine.proofs.ClosedStep.{closed_walk}
use Rattle.promise.specs.History.{last_setting}
use Rattle.promise.specs.Demand3.{Toss, Tosses}
use Rattle.promise.proofs.Sim.Wf.{Wf}
use Rattle.promise.proofs.Sim.Locals.{Last, kept_at, mark, marks, Locals, Shared}
use Rattle.promise.proofs.Sim.Exec.{WhenGoes, arc_of, Leading, Passed, dropped_sim}

-- ---- what holds of a walk where it arrives

abbrev pub WhenArrives : (Option ℕ → Memory → List ℤ → List ℕ → Type 0) → Walk → Type 0
WhenArrives P (halts c) = Unit {0}
WhenArrives P (arrives w m vs ns) = P w m vs ns

when_noting : (P : Option ℕ → Memory → List ℤ → List ℕ → Type 0) (n : ℕ) (w : Walk) → WhenArrives (λ k m vs ns. P k m vs (n ∷ ns)) w → WhenArrives P (noting n w)
when_noting P n (halts c) q = tt
when_noting P n (arrives w m vs ns) q = q

when_onward : (P : Option ℕ → Memory → List ℤ → List ℕ → Type 0) (Q : ℕ → Memory → List ℤ → Type 0) (k : ℕ → Memory → List ℤ → Walk) (h : Memory) (ws : List ℤ) (r : Does) → WhenGoes Q r
    → ((a : ℕ) (m : Memory) (vs : List ℤ) → Q a m vs → WhenArrives P (along k m (choose a vs))) → WhenArrives P (onward k h ws r)
when_onward P Q k h ws (opens g) q f = absurd q
when_onward P Q k h ws closes q f = absurd q
when_onward P Q k h ws (goes a m vs o) q f = f a m vs q
when_onward P Q k h ws (stops c) q f = tt

module _ (t : Table) (wf : Wf t) (k₀ p : ℕ) where
  -- the new arc lists the kept nodes to which the old one leads
  new_in : (a k : ℕ) → Leads t p (members a) k → kept_at t p k ≡ true → Memᴰ k (members (arc_of t p a))
  new_in a k l e = (members_is k (arc_of t p a)).1 ((arc_is t p a k).1 (l, (kept_is t p k).0 e), leads_below t p a k l)

  module _ (a : ℕ) (g : Memory) where
    -- the open run has met a kept node, to which arc a leads
    record Arrived (la : Last) (w : Option ℕ) (m : Memory) (vs : List ℤ) (ns : List ℕ) : Type 0 where
      at : ℕ
      is : w ≡ some at
      keeps : kept_at t p at ≡ true
      leads : Leads t p (members a) at
      locals : Locals t p at (marks t p la ns) m.vars g.vars
      shared : Shared t m.sems m.queues g.sems g.queues

    later : (n : ℕ) (la : Last) (w : Walk) → WhenArrives (Arrived (mark t p n la)) w → WhenArrives (λ k m vs ns. Arrived la k m vs (n ∷ ns)) w
    unfolding last_setting
    later n la (halts c) r = tt
    later n la (arrives w m vs ns) r = record { at = r.at; is = r.is; keeps = r.keeps; leads = r.leads; locals = r.locals; shared = r.shared }

    met : (m : ℕ) (la : Last) (h : Memory) (vs : List ℤ) → Leads t p (members a) m → Locals t p m la h.vars g.vars → Shared t h.sems h.queues g.sems g.queues → kept_at t p m ≡ true → Arrived la (some m) h vs []
    unfolding last_setting
    met m la h vs l r s e = record { at = m; is = refl; keeps = e; leads = l; locals = r; shared = s }

    walk_sim : (d m : ℕ) (la : Last) (h : Memory) (vs : List ℤ) → is_absent (node_at t p m) ≡ false → Leads t p (members a) m → Locals t p m la h.vars g.vars → Shared t h.sems h.queues g.sems g.queues
        → WhenArrives (Arrived la) (walk t (kept_at t) k₀ p d m h vs)
    unfolding walk
    walk_sim zero m la h vs i l r s = cases (kept_at t p m)
        (λ e. rw (e, walk) (met m la h vs l r s e))
        (λ e. rw (e, walk) tt)
    walk_sim (suc d) m la h vs i l r s = cases (kept_at t p m)
        (λ e. rw (e, walk) (met m la h vs l r s e))
        (λ e.
        let k : ℕ → Memory → List ℤ → Walk = λ m' h' ws. walk t (kept_at t) k₀ p d m' h' ws in
        let r₀ = exec t k₀ (node_at t p m) h vs in
        let x = onward k h vs r₀ in
        rw (e, walk) (when_noting (Arrived la) m x (later m la x
        (when_onward (Arrived (mark t p m la)) (Passed t wf k₀ p m la h g r s) k h vs r₀
        (dropped_sim t wf k₀ p m la h g r s (node_at t p m) refl i e vs)
        (λ b h' vs' q.
        let c = q.leading in
        rw (choose_one b c.to vs' c.one) (walk_sim d c.to (mark t p m la) h' vs' (wf.present p m c.to c.into) (through m ((unkept_is t p m).0 e) c.into l) q.locals q.shared))))))

  -- ---- both runs go on from node n by arc a

  pub record Landed (most' a : ℕ) (g : Memory) (la : Last) (w : Option ℕ) (m : Memory) (vs : List ℤ) (ns : List ℕ) : Type 0 where
    pub at : ℕ
    pub is : w ≡ some at
    pub keeps : kept_at t p at ≡ true
    pub tosses : List ℤ
    pub small : Tosses tosses
    pub closes : (ws : List ℤ) → along (λ k x us. walk (close_table t) all_kept k₀ p most' k x us) g (choose (arc_of t p a) (tosses ++ ws)) ≡ arrives (some at) g ws []
    pub locals : Locals t p at (marks t p la ns) m.vars g.vars
    pub shared : Shared t m.sems m.queues g.sems g.queues

  land : (most' a : ℕ) (g : Memory) (la : Last) (w : Walk) → WhenArrives (Arrived a g la) w → WhenArrives (Landed most' a g la) w
  land most' a g la (halts c) r = tt
  land most' a g la (arrives w m vs ns) r =
      let c = choose_some r.at (arc_of t p a) (new_in a r.at r.leads r.keeps) in
      record {
        at = r.at;
        is = r.is;
        keeps = r.keeps;
        tosses = map pos c.0;
        small = all_map Toss pos c.0 (λ i m. (i, refl, c.1 i m));
        closes = λ ws. ap (along (λ k x us. walk (close_table t) all_kept k₀ p most' k x us) g) (c.2 ws) ∙ closed_walk (close_table t) k₀ p most' r.at g ws;
        locals = r.locals;
        shared = r.shared;
      }

  pub along_sim : (most most' n a : ℕ) (la : Last) (h g : Memory) (vs : List ℤ) (l : Leading t p n a) → Locals t p l.to la h.vars g.vars → Shared t h.sems h.queues g.sems g.queues
      → WhenArrives (Landed most' a g la) (along (λ k m ws. walk t (kept_at t) k₀ p most k m ws) h (choose a vs))
  along_sim most most' n a la h g vs l r s = rw (choose_one a l.to vs l.one)
      (land most' a g la (walk t (kept_at t) k₀ p most l.to h vs) (walk_sim a g most l.to la h vs (wf.present p n l.to l.into) (target (rw l.one (Memᴰ.head refl))) r s))
