-- Rows laid one by one, and procedure by procedure.
use Prim.Native.Nat.{ℕ, ◌+◌, ◌*◌, ◌<◌, ◌≤◌}
use native.Mathlib.Omega.{arith}
use mathlib.Core.Path.{◌≡◌, refl, sym, ◌∙◌, ap}
use mathlib.Core.List.{List, [], ◌∷◌}
use lib.ListN.{length, get_or, set, replicate, length-set, length-replicate, get_or-replicate}
use lib.Seq.{get_or-set_same, get_or-set_other}
use Rattle.table.specs.Table.{parts, no_queue, node_at}
use Rattle.table.specs.declared.Table.{Table}
use Rattle.table.specs.declared.Node.{Node}
use Rattle.table.specs.declared.Node.TheVariants.{Absent}
use Rattle.table.specs.declared.Queue.{Queue}
use Rattle.text.proofs.NumberLaws.{by_order}
use Rattle.run_code.specs.Code.{eight, bytes_of, consts_of, words_of, queue_caps, Laid}

-- the rows of node n of procedure p
abbrev pub bytes_at : Table → List ℕ → List ℕ → ℕ → ℕ → List ℕ
bytes_at t caps keep p n = bytes_of caps (get_or keep p 0) (node_at t p n)

abbrev pub words_at : Table → ℕ → ℕ → List ℕ
words_at t p n = words_of (node_at t p n)

-- eight queues' capacities
pub caps_are : (l : List Queue) → length l ≡ 8
    → eight (get_or l 0 no_queue).cap (get_or l 1 no_queue).cap (get_or l 2 no_queue).cap (get_or l 3 no_queue).cap (get_or l 4 no_queue).cap (get_or l 5 no_queue).cap (get_or l 6 no_queue).cap (get_or l 7 no_queue).cap ≡ queue_caps l
caps_are (a ∷ b ∷ c ∷ d ∷ e ∷ f ∷ g ∷ h ∷ []) z = refl
caps_are [] z = absurd (omega arith)
caps_are (a ∷ []) z = absurd (omega arith)
caps_are (a ∷ b ∷ []) z = absurd (omega arith)
caps_are (a ∷ b ∷ c ∷ []) z = absurd (omega arith)
caps_are (a ∷ b ∷ c ∷ d ∷ []) z = absurd (omega arith)
caps_are (a ∷ b ∷ c ∷ d ∷ e ∷ []) z = absurd (omega arith)
caps_are (a ∷ b ∷ c ∷ d ∷ e ∷ f ∷ []) z = absurd (omega arith)
caps_are (a ∷ b ∷ c ∷ d ∷ e ∷ f ∷ g ∷ []) z = absurd (omega arith)
caps_are (a ∷ b ∷ c ∷ d ∷ e ∷ f ∷ g ∷ h ∷ i ∷ l) z = absurd (omega arith)

-- where no node is, rows are 0
pub bytes_none : (cs : List ℕ) (k : ℕ) (x : Node) → x ≡ Absent → bytes_of cs k x ≡ replicate 8 0
unfolding bytes_of
bytes_none cs k x e = rw e

pub words_none : (x : Node) → x ≡ Absent → words_of x ≡ replicate 4 0
unfolding consts_of parts
words_none x e = rw e

-- ---- the rows of a procedure

module _ (base : ℕ) (f : ℕ → List ℕ) (l : List (List ℕ)) where
  pub laid_none : Laid base 0 f l l
  laid_none = record { long = refl; laid = λ i h. absurd (omega arith); others = λ a h. refl }

  pub laid_more : (n : ℕ) (v : List ℕ) (m : List (List ℕ)) → base + n < length l → v ≡ f n → Laid base n f l m → Laid base (n + 1) f l (set m (base + n) v)
  laid_more n v m h e d = record {
    long = length-set m (base + n) v ∙ d.long;
    laid = λ i k. by_order i n
        (λ u. get_or-set_other m (base + n) (base + i) v [] (λ q. omega arith) ∙ d.laid i u)
        (λ u. let q : i ≡ n = omega arith in rw q (get_or-set_same m (base + n) v [] (omega (arith, d.long)) ∙ e));
    others = λ a k. get_or-set_other m (base + n) a v [] (λ q. k (omega arith) (omega arith)) ∙ d.others a (λ u w. k u (omega arith));
  }

-- ---- the rows of p procedures; those behind are z

pub record Rowed (f : ℕ → ℕ → List ℕ) (z : List ℕ) (p : ℕ) (l : List (List ℕ)) : Type 0 where
  pub long : length l ≡ 256
  pub done : (r n : ℕ) → r < p → n < 32 → get_or l (32 * r + n) [] ≡ f r n
  pub rest : (r n : ℕ) → p ≤ r → r < 8 → n < 32 → get_or l (32 * r + n) [] ≡ z

module _ (f : ℕ → ℕ → List ℕ) (z : List ℕ) where
  pub rowed_none : {l : List (List ℕ)} → l ≡ replicate 256 z → Rowed f z 0 l
  rowed_none e = record {
    long = ap length e ∙ length-replicate 256 z;
    done = λ r n h k. absurd (omega arith);
    rest = λ r n h u k. ap (λ (l : List (List ℕ)). get_or l (32 * r + n) []) e ∙ get_or-replicate 256 (32 * r + n) z [] (omega arith);
  }

  pub rowed_more : (p k : ℕ) (l m : List (List ℕ)) → p < 8 → k ≤ 32 → ((n : ℕ) → k ≤ n → f p n ≡ z) → Rowed f z p l → Laid (32 * p) k (f p) l m → Rowed f z (p + 1) m
  rowed_more p k l m h u e d g = record {
    long = g.long ∙ d.long;
    done = λ r n w x. by_order r p
        (λ y. g.others (32 * r + n) (λ a b. omega arith) ∙ d.done r n y x)
        (λ y. let q : r ≡ p = omega arith in rw q (by_order n k (g.laid n) (λ a. g.others (32 * p + n) (λ b c. omega arith) ∙ d.rest p n (omega arith) h x ∙ sym (e n a))));
    rest = λ r n w x y. g.others (32 * r + n) (λ a b. omega arith) ∙ d.rest r n (omega arith) x y;
  }

  pub rowed_all : (p : ℕ) (l : List (List ℕ)) → ((r n : ℕ) → p ≤ r → f r n ≡ z) → Rowed f z p l → (r n : ℕ) → r < 8 → n < 32 → get_or l (32 * r + n) [] ≡ f r n
  rowed_all p l e d r n h k = by_order r p (λ w. d.done r n w k) (λ w. d.rest r n w h k ∙ sym (e r n w))
