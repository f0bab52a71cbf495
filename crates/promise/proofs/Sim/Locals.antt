-- What is the same of a frame's variables, and of what tasks share, in the open run and in the closed one.
use Rattle.std.specs.Prelude.{ℕ, ◌<◌, ◌≡◌, ◌≢◌, Bool, true, false, length, set, eqb, ℤ, pos}
use Rattle.std.proofs.Common.{arith, sym, ◌∙◌, true≢false, length-set, get_or-set_same, get_or-set_other, eqb-true, eq-eqb}
use Rattle.std.proofs.Math.Path.{refl}
use Rattle.std.proofs.Math.Option.{Option, none, some}
use mathlib.Core.List.{List, [], ◌∷◌, ◌++◌, Memᴰ}
use Rattle.std.proofs.lemmas.Bool.{eqb-false}
use Rattle.table.specs.Cases.{cases}
use Rattle.table.specs.Mask.{pick}
use Rattle.table.specs.Table.{node_at, proc_at, variable_set, arcs}
use Rattle.table.specs.declared.Table.{Table}
use Rattle.closing.specs.Dirty.{Fact, setting_at, entry_at, dirty_before, blank, Dirty, here, from_node}
use Rattle.closing.specs.Closing.{sets_var, dirty, is_dirty, kept}
use Rattle.closing.proofs.DirtyLaws.{dirty_is, use_on, sets_var_other}
use Rattle.machine.specs.declared.Entries.{Entries}
use Rattle.machine.specs.State.{var_at, entries_at}
use Rattle.promise.specs.History.{last_setting}
use Rattle.promise.specs.Demand3.{CleanSetting}

-- by variable, where it was last set: at a node, or by the entry
abbrev pub Last : Type 0
Last = ℕ → Option ℕ

abbrev pub setting_of : ℕ → ℕ → Option ℕ → Fact
setting_of p v none = entry_at p v
setting_of p v (some n) = setting_at p n

module _ (t : Table) where
  -- ---- what the closer computes

  abbrev pub D : Fact → Bool
  D f = is_dirty (dirty t) f

  abbrev pub kept_at : ℕ → ℕ → Bool
  kept_at p n = kept (dirty t) p n (node_at t p n)

  pub not_dirty : (f : Fact) → D f ≡ false → Dirty t f → ⊥
  not_dirty f e d = true≢false (sym ((dirty_is t f).1 d) ∙ e)

  pub is_dirty_lem : (f : Fact) → D f ≡ true → Dirty t f
  is_dirty_lem f e = (dirty_is t f).0 e

  pub D-false : (f : Fact) → (Dirty t f → ⊥) → D f ≡ false
  D-false f h = cases (D f) (λ e. absurd (h (is_dirty_lem f e))) (λ e. e)

  -- ---- last settings

  -- after node n of p
  abbrev pub mark : ℕ → ℕ → Last → Last
  mark p n la v = pick (sets_var (variable_set (node_at t p n)) v) (some n) (la v)

  -- after the nodes ns
  abbrev pub marks : ℕ → Last → List ℕ → Last
  marks p la ns v = last_setting t p v (la v) ns

  pub marks_append : (p : ℕ) (v : ℕ) (o : Option ℕ) (ns ms : List ℕ) → last_setting t p v o (ns ++ ms) ≡ last_setting t p v (last_setting t p v o ns) ms
  unfolding last_setting
  marks_append p v o [] ms = refl
  marks_append p v o (n ∷ ns) ms = marks_append p v (pick (sets_var (variable_set (node_at t p n)) v) (some n) o) ns ms

  pub mark_other : (p n v : ℕ) (la : Last) → variable_set (node_at t p n) ≢ some v → mark p n la v ≡ la v
  mark_other p n v la h = rw (sets_var_other (variable_set (node_at t p n)) v h)

  pub mark_same : (p n v : ℕ) (la : Last) → variable_set (node_at t p n) ≡ some v → mark p n la v ≡ some n
  mark_same p n v la e = rw (e, eq-eqb v v refl)

  pub sets_nothing : (p n v : ℕ) → variable_set (node_at t p n) ≡ none → variable_set (node_at t p n) ≢ some v
  sets_nothing p n v e e' = let z : ◌≡◌ {A = ℕ} 0 1 = cc in absurd (omega arith)

  pub clean_is : (p v : ℕ) (o : Option ℕ) → CleanSetting t p v o → Dirty t (setting_of p v o) → ⊥
  clean_is p v none c = c
  clean_is p v (some n) c = c

  -- ---- the variables of two frames that stand before node n of p, lo in the open run and lc in the closed one: the values agree
  -- where the last setting is clean, and where it is dirty a use here is dirty
  pub record Locals (p n : ℕ) (la : Last) (lo lc : List ℤ) : Type 0 where
    pub open_size : length lo ≡ 16
    pub closed_size : length lc ≡ 16
    pub agree : (v : ℕ) → v < (proc_at t p).vars → (Dirty t (setting_of p v (la v)) → ⊥) → var_at lo v ≡ var_at lc v
    pub reach : (v : ℕ) → v < (proc_at t p).vars → Dirty t (setting_of p v (la v)) → Dirty t (dirty_before p n v)

  -- a use that is not dirty finds the same value
  pub clean_use : (p n u : ℕ) (la : Last) (lo lc : List ℤ) → Locals p n la lo lc → u < (proc_at t p).vars → (Dirty t (dirty_before p n u) → ⊥) → var_at lo u ≡ var_at lc u
  clean_use p n u la lo lc r l c = r.agree u l (λ d. c (r.reach u l d))

  -- the same last settings
  pub still : (p n : ℕ) (la la' : Last) (lo lc : List ℤ) → ((v : ℕ) → la' v ≡ la v) → Locals p n la lo lc → Locals p n la' lo lc
  still p n la la' lo lc e r = record {
    open_size = r.open_size;
    closed_size = r.closed_size;
    agree = λ v l c. r.agree v l (rw (e v) at c);
    reach = λ v l d. r.reach v l (rw (e v) at d);
  }

  -- along an arc of a node that sets nothing
  pub move : (p n m : ℕ) (la : Last) (lo lc : List ℤ) → variable_set (node_at t p n) ≡ none → Memᴰ m (arcs (node_at t p n)) → Locals p n la lo lc → Locals p m (mark p n la) lo lc
  move p n m la lo lc e a r = still p m la (mark p n la) lo lc (λ v. mark_other p n v la (sets_nothing p n v e)) (record {
    open_size = r.open_size;
    closed_size = r.closed_size;
    agree = r.agree;
    reach = λ v l d. use_on t (sets_nothing p n v e) a (r.reach v l d);
  })

  -- along an arc of a node that sets v, in the open run to x and in the closed run as lc' says
  module _ (p n m v : ℕ) (x : ℤ) (la : Last) (lo lc lc' : List ℤ) (e : variable_set (node_at t p n) ≡ some v) (a : Memᴰ m (arcs (node_at t p n))) (r : Locals p n la lo lc)
      (size : length lc' ≡ 16) (other : (w : ℕ) → w ≢ v → var_at lc' w ≡ var_at lc w) (new : (Dirty t (setting_at p n) → ⊥) → x ≡ var_at lc' v) (v< : v < 16) where
    not_set : (w : ℕ) → w ≢ v → variable_set (node_at t p n) ≢ some w
    not_set w i e' = i cc

    set_agree : (w : ℕ) → w < (proc_at t p).vars → (Dirty t (setting_of p w (mark p n la w)) → ⊥) → var_at (set lo v x) w ≡ var_at lc' w
    set_agree w l c = cases (eqb w v)
        (λ j. let i = eqb-true w v j in rw i (rw (get_or-set_same lo v x (pos 0) (omega (arith, r.open_size))) (new (rw (i, mark_same p n v la e) at c))))
        (λ j. let i : w ≢ v = eqb-false w v j in rw (get_or-set_other lo v w x (pos 0) i) (r.agree w l (rw (mark_other p n w la (not_set w i)) at c) ∙ sym (other w i)))

    set_reach : (w : ℕ) → w < (proc_at t p).vars → Dirty t (setting_of p w (mark p n la w)) → Dirty t (dirty_before p m w)
    set_reach w l d = cases (eqb w v)
        (λ j. let i = eqb-true w v j in from_node n m l (rw i e) a here (rw (i, mark_same p n v la e) at d))
        (λ j. let i : w ≢ v = eqb-false w v j in use_on t (not_set w i) a (r.reach w l (rw (mark_other p n w la (not_set w i)) at d)))

    pub move_set : Locals p m (mark p n la) (set lo v x) lc'
    move_set = record { open_size = length-set lo v x ∙ r.open_size; closed_size = size; agree = set_agree; reach = set_reach }

  -- ---- what tasks share
  pub record Shared (so : List ℕ) (qo : List Entries) (sc : List ℕ) (qc : List Entries) : Type 0 where
    pub sems : so ≡ sc
    pub sizes : length qo ≡ length qc
    pub lens : (q : ℕ) → (entries_at qo q).len ≡ (entries_at qc q).len
    pub keeps : (q : ℕ) → (Dirty t (blank q) → ⊥) → entries_at qo q ≡ entries_at qc q
