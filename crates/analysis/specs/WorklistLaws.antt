-- Laws of the nodes that are to be seen: each step of the code moves the cells and them, and where the code goes on is to be seen.
use Prim.Native.Nat.{ℕ, zero, suc, ◌+◌, ◌-◌, ◌*◌, ◌^◌, ◌<◌, ◌≤◌}
use native.Mathlib.Omega.{arith}
use Rattle.std.proofs.Common.{◌∙◌, subst, get_or-set_same, ext_get_or, eq-eqb, ltb-true, ltb-false, eqb-true}
use Rattle.std.specs.Prelude.{◌≡◌, Bool, ◌≢◌, Option, Some, None, List, [], ◌∷◌, length, ltb}
use Rattle.std.specs.List.{position_or_len}
use Rattle.std.specs.Bool.{then_some}
use Rattle.std.proofs.Math.Path.{refl, sym, ap}
use Rattle.std.proofs.Math.Bool.{true, false}
use Rattle.std.specs.Int.Bits.{bit_or, or_zero_r}
use Rattle.std.proofs.lemmas.Bool.{eqb-false, not-true, not-false}
use Rattle.std.proofs.lemmas.List.Quantifiers.{position-Some}
use Rattle.std.proofs.lemmas.List.Sums.{fails_before_first}
use Rattle.table.specs.Cases.{cases}
use Rattle.table.specs.Mask.{pick}
use Rattle.table.specs.Table.{node_in}
use Rattle.table.specs.declared.Node.{Node}
use Rattle.table.specs.declared.Proc.{Proc}
use Rattle.masks.specs.Bits.{bit_one, or_twice}
use Rattle.masks.specs.Cells.{cell, grown, is_new, Masks, Flag, grown_flag, grown_adds, Filled}
use Rattle.flow.specs.declared.Flow.{Flow}
use Rattle.flow.specs.declared.Pass.{Pass}
use Rattle.flow.specs.Flow.{low, flow_of, pass_of, after_pass}
use Rattle.flow.specs.FlowLaws.{pass_flow, pass_flow_lem}
use Rattle.analysis.specs.NodeLaws.{Places, flow_places}
use Rattle.analysis.specs.Steps.{entered, passed_on, step_with}
use Rattle.analysis.specs.Todo.{Leads, LeadsTo, leads_to, Took, took}
use Rattle.analysis.specs.Worklist.{todo_reached, woken, todo_blank, todo_passed, todo_stepped, next_to, todo_taken, flow_at, next_at, Seen, none, lowest, along, is_pending, pending_of}
use Rattle.analysis.specs.Work.{Sized, Moves, moves_refl, moves_trans, sized_after, reach_new, leads_on, drop_moves, blank_moves, stepped, left_of, next_less, Along, along_next}

-- ---- something comes to a node

module _ (l w : List ℕ) (p n m : ℕ) where
  module _ (hp : p < 8) (hn : n < 32) (s : Sized l w) where
    flag : Flag l (grown l (p * 32 + n) m) (is_new l (p * 32 + n) m)
    flag = grown_flag l (p * 32 + n) m (omega (arith, s.0))

    pub reached_moves : (r : List ℕ) → Moves r l w (grown l (p * 32 + n) m) (todo_reached l w p n m)
    unfolding todo_reached
    reached_moves r = go (is_new l (p * 32 + n) m) flag
      where
        go : (y : Bool) → Flag l (grown l (p * 32 + n) m) y → Moves r l w (grown l (p * 32 + n) m) (pick y (grown w p (2 ^ n)) w)
        go true f = reach_new p n m hp hn s refl f r refl refl
        go false f = rw (f.same refl) (moves_refl r l w)

    pub reached_leads : Leads p n (is_new l (p * 32 + n) m) (todo_reached l w p n m)
    unfolding todo_reached
    reached_leads = record { low = hn; marked = λ y. rw y (grown_adds w p (2 ^ n) n (omega (arith, s.1)) (bit_one n)) }

pub reached_sized : {l' w' : List ℕ} (l w : List ℕ) (p n m : ℕ) → p < 8 → n < 32 → Sized l w → l' ≡ grown l (p * 32 + n) m → w' ≡ todo_reached l w p n m → Sized l' w'
reached_sized l w p n m hp hn s e z = rw (e, z) (sized_after s (reached_moves l w p n m hp hn s []))

-- ---- the nodes r are to be seen, too

woken_size : (w r : List ℕ) → length (woken w r) ≡ length w
unfolding woken
woken_size [] r = refl
woken_size (x ∷ w) [] = refl
woken_size (x ∷ w) (y ∷ r) = ap suc (woken_size w r)

woken_cell : (w r : List ℕ) (a : ℕ) → a < length w → cell (woken w r) a ≡ bit_or (cell w a) (cell r a)
unfolding woken
woken_cell [] r a h = absurd (omega arith)
woken_cell (x ∷ w) [] zero h = sym (or_zero_r x)
woken_cell (x ∷ w) [] (suc a) h = sym (or_zero_r (cell w a))
woken_cell (x ∷ w) (y ∷ r) zero h = refl
woken_cell (x ∷ w) (y ∷ r) (suc a) h = woken_cell w r a (omega arith)

-- of the nodes w₀ those below i are woken
pub record Waking (r w₀ w : List ℕ) (i : ℕ) : Type 0 where
  pub size : length w ≡ 8
  pub before : Filled (λ a. bit_or (cell w₀ a) (cell r a)) i w
  pub after : (a : ℕ) → i ≤ a → cell w a ≡ cell w₀ a

pub waking_end : {r w₀ w : List ℕ} {i : ℕ} → length w₀ ≡ 8 → Waking r w₀ w i → 8 ≤ i → w ≡ woken w₀ r
waking_end {r} {w₀} {w} {i} s k h = ext_get_or 0 w (woken w₀ r) (k.size ∙ sym (woken_size w₀ r ∙ s)) (λ a j. k.before a (omega (arith, k.size)) ∙ sym (woken_cell w₀ r a (omega (arith, k.size, s))))

-- ---- blank queues, and what a node adds

module _ (r l w : List ℕ) (m : ℕ) where
  blanked_moves : Sized l w → Masks 8 32 r → Moves r l w (grown l 264 m) (todo_blank r l w m)
  unfolding todo_blank
  blanked_moves s g = go (is_new l 264 m) (grown_flag l 264 m (omega (arith, s.0)))
    where
      go : (y : Bool) → Flag l (grown l 264 m) y → Moves r l w (grown l 264 m) (pick y (woken w r) w)
      go true f = blank_moves m g s.1 refl f refl (woken_size w r ∙ s.1) (λ a h. woken_cell w r a (omega (arith, s.1)))
      go false f = rw (f.same refl) (moves_refl r l w)

entered_moves : (r l w : List ℕ) (k m : ℕ) → k < 8 → Sized l w → Moves r l w (entered l k m) (todo_reached l w k 0 m)
unfolding entered
entered_moves r l w k m h s = moves_trans (reached_moves l w k 0 m h (omega arith) s r) (drop_moves k m h refl)

pub enter_moves : {r l w l' w' : List ℕ} (k m : ℕ) → k < 8 → Sized l w → l' ≡ entered l k m → w' ≡ todo_reached l w k 0 m → Moves r l w l' w'
enter_moves {r} {l} {w} k m h s e z = rw (e, z) (entered_moves r l w k m h s)

passed_moves : (r l w : List ℕ) (a m : ℕ) → 256 ≤ a → a < 265 → Sized l w → Masks 8 32 r → Moves r l w (passed_on l a m) (todo_passed r l w a m)
unfolding passed_on todo_passed
passed_moves r l w a m lo hi s g = go (ltb a 264) refl
  where
    go : (y : Bool) → ltb a 264 ≡ y → Moves r l w (pick y (entered l (a - 256) m) (grown l a m)) (pick y (todo_reached l w (a - 256) 0 m) (todo_blank r l w m))
    go true e = entered_moves r l w (a - 256) m (omega (arith, ltb-true a 264 e)) s
    go false e = let z : a ≡ 264 = omega (arith, ltb-false a 264 e) in rw z (blanked_moves r l w m s g)

-- ---- the step of a node

module _ (r l w : List ℕ) (f : Flow) (p : ℕ) (k : Places f) (hp : p < 8) (s : Sized l w) (g : Masks 8 32 r) where
  l1 : List ℕ
  l1 = grown l (p * 32 + f.first) f.out

  abbrev w1 : List ℕ
  w1 = todo_reached l w p f.first f.out

  first_moves : Moves r l w (grown l (p * 32 + f.first) f.out) w1
  first_moves = reached_moves l w p f.first f.out hp k.first_low s r

  second_moves : Moves r (grown l (p * 32 + f.first) f.out) w1 (grown (grown l (p * 32 + f.first) f.out) (p * 32 + f.second) f.out) (todo_reached (grown l (p * 32 + f.first) f.out) w1 p f.second f.out)
  second_moves = reached_moves _ w1 p f.second f.out hp k.second_low (sized_after s first_moves) r

  third_moves : Moves r (grown (grown l (p * 32 + f.first) f.out) (p * 32 + f.second) f.out) (todo_reached (grown l (p * 32 + f.first) f.out) w1 p f.second f.out) (step_with f p l) (todo_stepped r f p l w)
  unfolding step_with todo_stepped
  third_moves = passed_moves r _ _ f.extra f.add k.extra_high k.extra_low (sized_after (sized_after s first_moves) second_moves) g

  pub stepped_moves : Moves r l w (step_with f p l) (todo_stepped r f p l w)
  stepped_moves = moves_trans (moves_trans first_moves second_moves) third_moves

  pub stepped_leads : Leads p f.first (is_new l (p * 32 + f.first) f.out) (todo_stepped r f p l w)
  stepped_leads = leads_on hp (leads_on hp (reached_leads l w p f.first f.out hp k.first_low s) second_moves) third_moves

pub visited_moves : {l w l' w' r : List ℕ} (x : Node) (p n : ℕ) → p < 8 → n < 32 → Sized l w → Masks 8 32 r → l' ≡ stepped x p n l → w' ≡ todo_stepped r (flow_of x n (cell l (p * 32 + n)) (cell l 264)) p l w → Moves r l w l' w'
visited_moves {l} {w} {l'} {w'} {r} x p n hp hn s g e z = rw (e, z) (stepped_moves r l w _ p (flow_places x n _ _ hn) hp s g)

pub visited_leads : {w' : List ℕ} {y : Option ℕ} (r l w : List ℕ) (x : Node) (p n : ℕ) → p < 8 → n < 32 → Sized l w → Masks 8 32 r → w' ≡ todo_stepped r (flow_of x n (cell l (p * 32 + n)) (cell l 264)) p l w
    → y ≡ next_to l p (flow_of x n (cell l (p * 32 + n)) (cell l 264)).first (flow_of x n (cell l (p * 32 + n)) (cell l 264)).out → LeadsTo p y w'
visited_leads r l w x p n hp hn s g z e = rw (z, e) (leads_to _ (stepped_leads r l w _ p (flow_places x n _ _ hn) hp s g))

pub todo_is : {f : Flow} {w3 : List ℕ} (r l l1 l2 w w1 w2 : List ℕ) (x : Node) (p n i b : ℕ) → f ≡ flow_of x n i b → l1 ≡ grown l (p * 32 + f.first) f.out → l2 ≡ grown l1 (p * 32 + f.second) f.out
    → w1 ≡ todo_reached l w p f.first f.out → w2 ≡ todo_reached l1 w1 p f.second f.out → w3 ≡ todo_passed r l2 w2 f.extra f.add → w3 ≡ todo_stepped r (flow_of x n i b) p l w
unfolding todo_stepped
todo_is r l l1 l2 w w1 w2 x p n i b e u v a c d = rw (← e, ← u, ← v, ← a, ← c) d

pub next_is : {f : Flow} {on : Bool} (l : List ℕ) (x : Node) (p n i b : ℕ) → f ≡ flow_of x n i b → on ≡ is_new l (p * 32 + f.first) f.out
    → then_some on f.first ≡ next_to l p (flow_of x n i b).first (flow_of x n i b).out
next_is l x p n i b e z = rw (← e, z)

-- a node with one target
not_new : (l : List ℕ) (a m : ℕ) → a < length l → is_new (grown l a m) a m ≡ false
unfolding grown
not_new l a m h = rw (get_or-set_same l a (bit_or (cell l a) m) 0 h, or_twice (cell l a) m, eq-eqb (bit_or (cell l a) m) (bit_or (cell l a) m) refl)

nothing_new : (l : List ℕ) (a : ℕ) → is_new l a 0 ≡ false
nothing_new l a = rw (or_zero_r (cell l a), eq-eqb (cell l a) (cell l a) refl)

once_todo : (r l w : List ℕ) (s : Pass) (i p : ℕ) → p < 8 → s.to < 32 → length l ≡ 265 → todo_stepped r (pass_flow s i) p l w ≡ todo_reached l w p s.to (after_pass s i)
unfolding todo_stepped todo_passed todo_blank todo_reached
once_todo r l w s i p hp h z = rw (not_new l (p * 32 + s.to) (after_pass s i) (omega arith), nothing_new _ 264)

module _ {s : Pass} (l : List ℕ) (x : Node) (p n i b : ℕ) (e : s ≡ pass_of x n) (h : s.to < 32) where
  same_flow : pass_flow s i ≡ flow_of x n i b
  same_flow = ap (λ (y : Pass). pass_flow y i) e ∙ sym (pass_flow_lem x n i b (subst (λ (y : Pass). y.to < 32) e h))

  pub pass_todo : {w' : List ℕ} (r w : List ℕ) → p < 8 → length l ≡ 265 → w' ≡ todo_reached l w p s.to (after_pass s i) → w' ≡ todo_stepped r (flow_of x n i b) p l w
  pass_todo r w hp z d = d ∙ sym (once_todo r l w s i p hp h z) ∙ ap (λ (y : Flow). todo_stepped r y p l w) same_flow

  pub pass_next : {y : Option ℕ} → y ≡ next_to l p s.to (after_pass s i) → y ≡ next_to l p (flow_of x n i b).first (flow_of x n i b).out
  pass_next d = d ∙ ap (λ (f : Flow). next_to l p f.first f.out) same_flow

-- ---- the nodes of one procedure

module _ {q : Proc} {p : ℕ} {r l₀ w₀ l w w1 l' w' : List ℕ} {next : Option ℕ} (n : ℕ) (hp : p < 8) (gr : Masks 8 32 r) (g : Along r q p l₀ w₀ l w next) (h : next ≡ Some n) (t : w1 ≡ todo_taken w p n)
    (e : l' ≡ stepped (node_in q n) p n l) (z : w' ≡ todo_stepped r (flow_at q p n l) p l w1) where
  seen_took : Took w p n w1
  seen_took = took p n hp g.going.todo (g.leads n h) t

  seen_sized : Sized l w1
  seen_sized = (g.going.masks.size, seen_took.small.size)

  seen_moves : Moves r l w1 l' w'
  seen_moves = visited_moves (node_in q n) p n hp (g.leads n h).low seen_sized gr e z

  pub seen_less : left_of l' w' < left_of l w
  seen_less = next_less q n hp g.going.masks seen_took e seen_moves

  pub seen_along : {y : Option ℕ} → y ≡ next_at q p n l → Along r q p l₀ w₀ l' w' y
  seen_along d = along_next n hp g seen_took e seen_moves (visited_leads r l w1 (node_in q n) p n hp (g.leads n h).low seen_sized gr z d)

-- the cells and the nodes at the end are one
pub seen_same : {r : List ℕ} {q : Proc} {p : ℕ} {next : Option ℕ} {l w l1 w1 l2 w2 : List ℕ} → Seen r q p next l w l1 w1 → Seen r q p next l w l2 w2 → (l1 ≡ l2) × (w1 ≡ w2)
seen_same (none h) (none k) = (refl, refl)
seen_same (none h) (lowest k e) = absurd (k h)
seen_same (lowest h d) (none k) = absurd (h k)
seen_same (lowest h d) (lowest k e) = seen_same d e
seen_same (along d) (along e) = seen_same d e

-- what is left to see from l and w ends where all ends from l₀ and w₀
pub record Toward (r : List ℕ) (q : Proc) (p : ℕ) (l₀ w₀ : List ℕ) (next : Option ℕ) (l w : List ℕ) : Type 0 where
  pub ends : (l' w' : List ℕ) → Seen r q p next l w l' w' → Seen r q p None l₀ w₀ l' w'

pub toward_lowest : (r : List ℕ) (q : Proc) {p n : ℕ} (l w : List ℕ) → cell w p ≢ 0 → n ≡ low (cell w p) → Toward r q p l w (Some n) l w
toward_lowest r q {p} {n} l w h e = record { ends = λ l' w' d. lowest h (subst (λ (k : ℕ). Seen r q p (Some k) l w l' w') e d) }

pub toward_along : {r : List ℕ} {q : Proc} {p : ℕ} {l₀ w₀ l w l1 w1 w2 : List ℕ} {next y : Option ℕ} (n : ℕ) → Toward r q p l₀ w₀ next l w → next ≡ Some n → w1 ≡ todo_taken w p n → l1 ≡ stepped (node_in q n) p n l
    → w2 ≡ todo_stepped r (flow_at q p n l) p l w1 → y ≡ next_at q p n l → Toward r q p l₀ w₀ y l1 w2
toward_along {r} {q} {p} {l₀} {w₀} {l} {w} n g h t e z y =
    let g' : Toward r q p l₀ w₀ (Some n) l w = rw h at g in
    rw (e, z, t, y) (record { ends = λ l' w' d. g'.ends l' w' (along d) })

pub toward_end : {r : List ℕ} {q : Proc} {p : ℕ} {next : Option ℕ} {l₀ w₀ l w l1 w1 : List ℕ} → Toward r q p l₀ w₀ None l w → Toward r q p l w next l1 w1 → next ≡ None → Toward r q p l₀ w₀ None l1 w1
toward_end {r} {q} {p} {next} {l₀} {w₀} {l} {w} {l1} {w1} g f h = let f' : Toward r q p l w None l1 w1 = rw h at f in record { ends = λ l' w' d. g.ends l' w' (f'.ends l' w' d) }

pub toward_done : {r : List ℕ} {q : Proc} {p : ℕ} {l₀ w₀ l w : List ℕ} → Toward r q p l₀ w₀ None l w → cell w p ≡ 0 → Seen r q p None l₀ w₀ l w
toward_done {r} {q} {p} {l₀} {w₀} {l} {w} g h = g.ends l w (none h)

-- ---- the first procedure with a node that is to be seen

pub pending_some : (w : List ℕ) (p : ℕ) → length w ≡ 8 → Some p ≡ pending_of w → (p < 8) × (cell w p ≢ 0)
pending_some w p s e = let z = position-Some is_pending w p 0 (sym e) in (omega (arith, z.0, s), eqb-false (cell w p) 0 (not-true _ z.1))

pub pending_none : (w : List ℕ) → None ≡ pending_of w → (a : ℕ) → a < length w → cell w a ≡ 0
pending_none w e a h = cases (ltb (position_or_len is_pending w) (length w))
    (λ y. let z : ◌≡◌ {A = Option ℕ} None (Some (position_or_len is_pending w)) = rw y at e in cc)
    (λ y. eqb-true (cell w a) 0 (not-false _ (fails_before_first is_pending w a 0 (omega (arith, ltb-false _ _ y)))))
