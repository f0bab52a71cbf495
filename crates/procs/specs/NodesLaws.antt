-- Node line after node line: what is left to do from here gives the whole.
use Prim.Native.Nat.{ℕ, zero, suc, ◌+◌, ◌-◌, ◌≤◌, ◌<◌}
use Rattle.std.specs.Prelude.{◌≡◌, refl, Bool, List, [], ◌∷◌, ltb, length, set, Result, Ok, Err}
use Rattle.std.proofs.Common.{sym, ◌∙◌, add-one, length-set}
use Rattle.std.proofs.Math.Path.{ap}
use Rattle.std.proofs.Math.Bool.{true, false}
use native.Mathlib.Omega.{arith}
use Rattle.std.proofs.Math.ListN.{drop}
use borrow.Author.Tests.{ltb-true, ltb-false, lt-ltb}
use Rattle.table.specs.Cases.{cases}
use Rattle.table.specs.Table.{no_slots}
use Rattle.table.specs.declared.Node.{Node}
use Rattle.table.specs.declared.Slot.{Slot}
use Rattle.text.specs.declared.Fault.{Fault}
use Rattle.text.specs.declared.Fault.TheVariants.{Index, Ended}
use Rattle.text.specs.Number.{bytes}
use Rattle.text.specs.Value.{check, number}
use Rattle.text.proofs.ValueLaws.{no}
use Rattle.text.specs.Line.{took, refused, Parser, ◌>>=◌, give, After, at as stands, differs, broken, line, line_fault}
use Rattle.text.proofs.LineLaws.{line_read}
use Rattle.text.proofs.RowLaws.{or_left}
use Rattle.text.proofs.NodeLaws.{number_fact}
use Rattle.text.specs.Format.{Scope as Judged, node_line}
use Rattle.text.specs.Reader.{rows, Numbered, node_row, slot_of, standing, further_nodes, nodes_of}
use Rattle.scan.specs.Place.{AfterKey, keyed}
use Rattle.fields.specs.FieldLaws.{onto_got}
use Rattle.nodes.specs.declared.Line.{Line}
use Rattle.nodes.specs.declared.Line.TheVariants.{Node as IsNode, Refused as NotNode}
use Rattle.nodes.specs.Answer.{numbered, NodeAt}
use Rattle.rows.specs.declared.Refusal.{Refusal}
use Rattle.procs.specs.Answer.{node_stands, is_further, line_due, number_below, SlotsAt}

-- ---- a line beginning `node=`

-- bytes are left
some_left : (s : List ℕ) (at : ℕ) → at < length s → standing broken (drop at s) ≡ true
some_left [] at h = absurd (omega arith)
some_left (b ∷ s) zero h = refl
some_left (b ∷ s) (suc n) h = some_left s n (omega arith)

none_left : (s : List ℕ) (at : ℕ) → length s ≤ at → standing broken (drop at s) ≡ false
none_left [] zero h = refl
none_left [] (suc n) h = refl
none_left (b ∷ s) zero h = absurd (omega arith)
none_left (b ∷ s) (suc n) h = none_left s n (omega arith)

left : (s : List ℕ) (at : ℕ) → ltb at (length s) ≡ standing broken (drop at s)
left s at = cases (ltb at (length s)) (λ e. e ∙ sym (some_left s at (ltb-true at (length s) e))) (λ e. e ∙ sym (none_left s at (ltb-false at (length s) e)))

key_stands : (a : After) (t : List ℕ) {u : List ℕ} → ◌≡◌ {A = Result (List ℕ) Fault} (Ok u) (keyed a) → true ≡ standing a t
key_stands (stands t) s e = refl
key_stands differs s e = no (cc)
key_stands broken s e = no (cc)

key_broken : (a : After) (t : List ℕ) → ◌≡◌ {A = Result (List ℕ) Fault} (Err Ended) (keyed a) → standing broken t ≡ standing a t
key_broken (stands t) s e = no (cc)
key_broken differs s e = no (cc)
key_broken broken s e = refl

key_differs : (a : After) (t : List ℕ) {f : Fault} → ◌≡◌ {A = Result (List ℕ) Fault} (Err f) (keyed a) → (f ≡ Ended → ⊥) → false ≡ standing a t
key_differs (stands t) s e n = no (cc)
key_differs differs s e n = refl
key_differs broken s e n = absurd (n (cc))

module _ {s : List ℕ} {at : ℕ} where
  pub stands_at : {b : ℕ} → AfterKey (bytes "node=") s at (Ok b) → true ≡ node_stands s at
  stands_at m = key_stands _ (drop at s) m.same

  pub stands_broken : AfterKey (bytes "node=") s at (Err Ended) → ltb at (length s) ≡ node_stands s at
  stands_broken m = left s at ∙ key_broken _ (drop at s) m.same

  pub stands_differs : {f : Fault} → AfterKey (bytes "node=") s at (Err f) → (f ≡ Ended → ⊥) → false ≡ node_stands s at
  stands_differs m n = key_differs _ (drop at s) m.same n

-- ---- one node line
module _ {c : Judged} {lo n : ℕ} {s : List ℕ} {p l : ℕ} {r : Line} (m : NodeAt c lo n s p l r) where
  node_took : {x : Node} {j e : ℕ} → r ≡ IsNode x j e → node_row c lo n l (drop p s) ≡ took (record { at = j; node = x }) (suc l) (drop e s)
  node_took q = sym (m.is.same l) ∙ rw q

  node_refused : {f : Fault} {k : ℕ} → r ≡ NotNode f k → node_row c lo n l (drop p s) ≡ refused f l
  node_refused q = sym (m.is.same l) ∙ rw q

  node_line_lem : {f : Fault} {k : ℕ} → r ≡ NotNode f k → k ≡ l
  node_line_lem q = rw q at m.fits

  node_within : {x : Node} {j e : ℕ} → r ≡ IsNode x j e → e ≤ length s
  node_within q = rw q at m.is.within

  node_below : {x : Node} {j e : ℕ} → r ≡ IsNode x j e → j < n
  node_below q = rw q at m.fits

  -- a number that was read is in its range
  node_from : {x : Node} {j e : ℕ} → r ≡ IsNode x j e → lo ≤ j
  unfolding line_fault
  node_from {x} {j} {e} q =
      let t = onto_got (line (node_line c lo n) l (drop p s)) (numbered c lo n) {b = record { at = j; node = x }} {l = suc l} {s = drop e s} (node_took q) in
      let w = t.0 in
      let f = (line_read (node_line c lo n) l (drop p s) w (suc l) (drop e s) t.1).2 in
      let h : lo ≤ w.0 = (number_fact lo n Index w.0 (or_left (check (number lo n Index) w.0) _ f)).0 in
      let d : w.0 ≡ j = ap (λ (y : Numbered). y.at) t.2 in
      omega arith

-- ---- whether a line is due, and what its number stays below
pub further_closed : (closed : Bool) (next : ℕ) → closed ≡ true → ltb 0 next ≡ is_further closed next
further_closed true zero e = refl
further_closed true (suc last) e = lt-ltb 0 (suc last) (omega arith)
further_closed false next e = no (cc)

pub further_open : (closed : Bool) (next : ℕ) → closed ≡ false → false ≡ is_further closed next
further_open closed next e = rw e

module _ (closed : Bool) (next n : ℕ) {b : Bool} (g : b ≡ is_further closed next) where
  pub due_further : b ≡ true → (s : List ℕ) (p : ℕ) {d : Bool} → d ≡ node_stands s p → d ≡ line_due closed next n s p
  due_further e s p h = rw (← g, e) h

  pub due_next : b ≡ false → (s : List ℕ) (p : ℕ) → ltb next n ≡ line_due closed next n s p
  due_next e s p = rw (← g, e)

  pub below_further : b ≡ true → n ≡ number_below closed next n
  below_further e = rw (← g, e)

  pub below_next : b ≡ false → next + 1 ≡ number_below closed next n
  below_next e = rw (← g, e, add-one next)

-- ---- node line after node line

-- what is left to read: in open form the lines from number next on; in closed form all lines, or the further ones, of which at most f are looked at
abbrev pub nodes_from : Judged → Bool → ℕ → ℕ → List Slot → Parser (List Slot)
nodes_from c false f next l = rows (λ j. node_row c j (suc j) >>= λ x. give (slot_of x)) (c.nodes - next) next l
nodes_from c true f zero l = node_row c 0 1 >>= λ x. further_nodes c c.nodes 0 (set l 0 (slot_of x))
nodes_from c true f (suc last) l = further_nodes c f last l

-- the lines whose numbers are below next are in acc
pub record Noding (c : Judged) (closed : Bool) (s : List ℕ) (at line : ℕ) (acc : List Slot) (p l next : ℕ) : Type 0 where
  pub fuel : ℕ
  pub same : nodes_from c closed fuel next acc l (drop p s) ≡ nodes_of c closed line (drop at s)
  pub enough : c.nodes ≤ fuel + (next - 1)
  pub count : next ≤ c.nodes
  pub place : p ≤ length s
  pub lines : l ≤ line + next
  pub size : length acc ≡ 32
  pub some : 0 < c.nodes
  pub few : c.nodes ≤ 32

from_start : (c : Judged) (closed : Bool) (l : ℕ) (s : List ℕ) → nodes_from c closed c.nodes 0 no_slots l s ≡ nodes_of c closed l s
from_start c false l s = let e : c.nodes - 0 ≡ c.nodes = omega arith in rw e
from_start c true l s = refl

pub nodes_start : {c : Judged} {closed : Bool} {s : List ℕ} {at line : ℕ} {acc : List Slot} → acc ≡ no_slots → at ≤ length s → 0 < c.nodes → c.nodes ≤ 32 → Noding c closed s at line acc at line 0
nodes_start {c} {closed} {s} {at} {line} d h k few = rw d (record {
  fuel = c.nodes;
  same = from_start c closed line (drop at s);
  enough = omega arith;
  count = omega arith;
  place = h;
  lines = omega arith;
  size = refl;
  some = k;
  few = few;
})

-- one line more in each form: it was read, it was refused, or there is none
module _ {c : Judged} {s : List ℕ} {at line : ℕ} {acc : List Slot} {p l : ℕ} where
  below_count : (closed : Bool) (next : ℕ) → Noding c closed s at line acc p l next → line_due closed next c.nodes s p ≡ true → number_below closed next c.nodes ≤ c.nodes
  below_count false next o d = ltb-true next c.nodes d
  below_count true zero o d = ltb-true 0 c.nodes d
  below_count true (suc last) o d = omega arith

  from_took : (closed : Bool) (next : ℕ) (o : Noding c closed s at line acc p l next) → line_due closed next c.nodes s p ≡ true
      → {r : Line} → NodeAt c next (number_below closed next c.nodes) s p l r → {x : Node} {j e : ℕ} → r ≡ IsNode x j e
      → (f : ℕ) × (nodes_from c closed f (suc j) (set acc j (record { node = x })) (suc l) (drop e s) ≡ nodes_of c closed line (drop at s)) × (c.nodes ≤ f + j)
  unfolding rows further_nodes
  from_took false next o d m {x} {j} q =
      let h : next < c.nodes = ltb-true next c.nodes d in
      let a : c.nodes - next ≡ suc (c.nodes - suc next) = omega arith in
      let z : j ≡ next = omega (arith, node_from m q, node_below m q) in
      (c.nodes, rw z (rw (a, node_took m q) at o.same), omega arith)
  from_took true zero o d m {x} {j} q =
      let z : j ≡ 0 = omega (arith, node_below m q) in
      (c.nodes, rw z (rw (node_took m q) at o.same), omega arith)
  from_took true (suc last) o d m q =
      let a : o.fuel ≡ suc (o.fuel - 1) = omega (arith, o.enough, o.count) in
      let h = node_from m q in
      (o.fuel - 1, rw (a, d, node_took m q) at o.same, omega (arith, o.enough))

  from_refused : (closed : Bool) (next : ℕ) (o : Noding c closed s at line acc p l next) → line_due closed next c.nodes s p ≡ true
      → {r : Line} → NodeAt c next (number_below closed next c.nodes) s p l r → {f : Fault} {k : ℕ} → r ≡ NotNode f k → refused f l ≡ nodes_of c closed line (drop at s)
  unfolding rows further_nodes
  from_refused false next o d m q =
      let h : next < c.nodes = ltb-true next c.nodes d in
      let a : c.nodes - next ≡ suc (c.nodes - suc next) = omega arith in
      rw (a, node_refused m q) at o.same
  from_refused true zero o d m q = rw (node_refused m q) at o.same
  from_refused true (suc last) o d m q =
      let a : o.fuel ≡ suc (o.fuel - 1) = omega (arith, o.enough, o.count) in
      rw (a, d, node_refused m q) at o.same

  from_end : (closed : Bool) (next : ℕ) (o : Noding c closed s at line acc p l next) → line_due closed next c.nodes s p ≡ false → took acc l (drop p s) ≡ nodes_of c closed line (drop at s)
  unfolding rows further_nodes
  from_end false next o d =
      let h : c.nodes ≤ next = ltb-false next c.nodes d in
      let a : c.nodes - next ≡ 0 = omega arith in
      rw a at o.same
  from_end true zero o d = let h : c.nodes ≤ 0 = ltb-false 0 c.nodes d in absurd (omega (arith, o.some))
  from_end true (suc last) o d =
      let a : o.fuel ≡ suc (o.fuel - 1) = omega (arith, o.enough, o.count) in
      rw (a, d) at o.same

module _ {c : Judged} {closed : Bool} {s : List ℕ} {at line : ℕ} {acc : List Slot} {p l next : ℕ} (o : Noding c closed s at line acc p l next)
    {d : Bool} (due : d ≡ line_due closed next c.nodes s p) where
  pub nodes_end : d ≡ false → SlotsAt c closed s at line acc (Ok (record { at = p; line = l }))
  nodes_end e = record {
    same = from_end closed next o (sym due ∙ e);
    within = o.place;
    blank = tt;
    lines = omega (arith, o.lines, o.count, o.few);
  }

  module _ (e : d ≡ true) {n : ℕ} (b : n ≡ number_below closed next c.nodes) where
    within : n ≤ c.nodes
    within = rw b (below_count closed next o (sym due ∙ e))

    pub nodes_below : n ≤ 32
    nodes_below = omega (arith, within, o.few)

    module _ {r : Line} (m : NodeAt c next n s p l r) where
      pub nodes_stop : {y : Refusal} {z : List Slot} → r ≡ NotNode y.fault y.line → z ≡ no_slots → SlotsAt c closed s at line z (Err y)
      nodes_stop {y} q k =
          let z : y.line ≡ l = node_line_lem m q in
          record {
            same = rw z (from_refused closed next o (sym due ∙ e) (rw b at m) q);
            within = tt;
            blank = k;
            lines = omega (arith, o.lines, o.count, o.few);
          }

      module _ {x : Node} {j to : ℕ} (q : r ≡ IsNode x j to) where
        pub nodes_index : j < 32
        nodes_index = omega (arith, node_below m q, within, o.few)

        pub nodes_less : {k : ℕ} → k ≡ c.nodes → k - (j + 1) < k - next
        nodes_less h = omega (arith, node_below m q, node_from m q, within)

        pub nodes_turn : Noding c closed s at line (set acc j (record { node = x })) to (l + 1) (j + 1)
        nodes_turn =
            let h = node_from m q in
            let t = from_took closed next o (sym due ∙ e) (rw b at m) q in
            record {
              fuel = t.0;
              same = rw (add-one l, add-one j) t.1;
              enough = omega (arith, t.2);
              count = omega (arith, node_below m q, within);
              place = node_within m q;
              lines = omega (arith, o.lines);
              size = length-set acc j (record { node = x }) ∙ o.size;
              some = o.some;
              few = o.few;
            }
