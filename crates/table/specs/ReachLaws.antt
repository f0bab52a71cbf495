-- `closure` computes the least set: what it holds is reached, and what is reached it holds.
use Prim.Native.Nat.{ℕ, zero, suc, ◌<◌, ◌≤◌}
use native.Mathlib.Omega.{arith}
use Rattle.std.specs.Prelude.{◌≡◌, refl, Bool, ◌⊎◌, length}
use Rattle.std.proofs.Common.{sym, ◌∙◌, true≢false}
use Rattle.std.proofs.Math.Bool.{true, false}
use Rattle.std.proofs.lemmas.Bool.{false≢true}
use Rattle.std.proofs.Math.Logic.{inl, inr}
use mathlib.Core.List.Memᴰ
use mathlib.Core.List.{List, [], ◌∷◌, Memᴰ}
use Rattle.table.specs.Cases.{cases}
use Rattle.table.specs.Reach.{Reach, source, edge, mem, add, grown, rest, stuck, sweeps, closure}

module _ {A : Type 0} (same : A → A → Bool) (same_eq : (x y : A) → same x y ≡ true → x ≡ y) (same_refl : (x : A) → same x x ≡ true) where
  pub mem_in : (x : A) (s : List A) → mem same x s ≡ true → Memᴰ x s
  unfolding mem
  mem_in x [] h = absurd (false≢true h)
  mem_in x (y ∷ s) h = cases (same x y)
      (λ e. Memᴰ.head (same_eq x y e))
      (λ e. Memᴰ.tail (mem_in x s (rw (e, mem) at h)))

  pub in_mem : (x : A) (s : List A) → Memᴰ x s → mem same x s ≡ true
  unfolding mem
  in_mem x s (Memᴰ.head {x = y} e) = rw (← e, same_refl x, mem)
  in_mem x s (Memᴰ.tail {x = y} {xs = r} m) = cases (same x y)
      (λ e. rw (e, mem))
      (λ e. rw (e, mem) (in_mem x r m))

  add_keeps : (x y : A) (s : List A) → mem same x s ≡ true → mem same x (add same y s) ≡ true
  unfolding mem add
  add_keeps x y s h = cases (mem same y s)
      (λ e. rw (e, add) h)
      (λ e. rw (e, add) (cases (same x y) (λ k. rw (k, mem)) (λ k. rw (k, mem) h)))

  add_has : (y : A) (s : List A) → mem same y (add same y s) ≡ true
  unfolding mem add
  add_has y s = cases (mem same y s)
      (λ e. rw (e, add) e)
      (λ e. rw (e, add) (rw (same_refl y, mem)))

  grown_keeps : (x : A) (s : List A) (es : List (A × A)) → mem same x s ≡ true → mem same x (grown same s es) ≡ true
  unfolding grown
  grown_keeps x s [] h = h
  grown_keeps x s (e ∷ es) h = cases (mem same e.0 s)
      (λ k. rw (k, grown) (grown_keeps x (add same e.1 s) es (add_keeps x e.1 s h)))
      (λ k. rw (k, grown) (grown_keeps x s es h))

  -- after a sweep an edge's second end is there, or the edge is left
  grown_or_rest : (e : A × A) (s : List A) (es : List (A × A)) → Memᴰ e es → (mem same e.1 (grown same s es) ≡ true) ⊎ Memᴰ e (rest same s es)
  unfolding grown rest
  grown_or_rest e s es (Memᴰ.head {x = d} {xs = r} k) = cases (mem same d.0 s)
      (λ h. rw (h, grown, rest) (inl (grown_keeps e.1 (add same d.1 s) r (rw k (add_has d.1 s)))))
      (λ h. rw (h, grown, rest) (inr (Memᴰ.head k)))
  grown_or_rest e s es (Memᴰ.tail {x = d} {xs = r} m) = cases (mem same d.0 s)
      (λ h. rw (h, grown, rest) (grown_or_rest e (add same d.1 s) r m))
      (λ h. rw (h, grown, rest) (left (grown_or_rest e s r m)))
    where
      left : (mem same e.1 (grown same s r) ≡ true) ⊎ Memᴰ e (rest same s r) → (mem same e.1 (grown same s r) ≡ true) ⊎ Memᴰ e (d ∷ rest same s r)
      left (inl x) = inl x
      left (inr x) = inr (Memᴰ.tail x)

  rest_in : (s : List A) (es : List (A × A)) (e : A × A) → Memᴰ e (rest same s es) → Memᴰ e es
  unfolding rest
  rest_in s [] e m = m
  rest_in s (d ∷ r) e m = cases (mem same d.0 s)
      (λ h. Memᴰ.tail (rest_in (add same d.1 s) r e (rw (h, rest) at m)))
      (λ h. up (λ x. rest_in s r e x) (rw (h, rest) at m))
    where
      up : (Memᴰ e (rest same s r) → Memᴰ e r) → Memᴰ e (d ∷ rest same s r) → Memᴰ e (d ∷ r)
      up f (Memᴰ.head k) = Memᴰ.head k
      up f (Memᴰ.tail x) = Memᴰ.tail (f x)

  rest_le : (s : List A) (es : List (A × A)) → length (rest same s es) ≤ length es
  unfolding rest
  rest_le s [] = omega arith
  rest_le s (d ∷ r) = cases (mem same d.0 s)
      (λ h. rw (h, rest) (omega (arith, rest_le (add same d.1 s) r)))
      (λ h. rw (h, rest) (omega (arith, rest_le s r)))

  rest_lt : (s : List A) (es : List (A × A)) → stuck same s es ≡ false → length (rest same s es) < length es
  unfolding rest stuck
  rest_lt s [] h = absurd (true≢false h)
  rest_lt s (d ∷ r) h = cases (mem same d.0 s)
      (λ k. rw (k, rest) (omega (arith, rest_le (add same d.1 s) r)))
      (λ k. rw (k, rest) (omega (arith, rest_lt s r (rw (k, stuck) at h))))

  stuck_all : (s : List A) (e : A × A) (es : List (A × A)) → stuck same s es ≡ true → Memᴰ e es → mem same e.0 s ≡ false
  unfolding stuck
  stuck_all s e es h (Memᴰ.head {x = d} k) = cases (mem same d.0 s)
      (λ j. absurd (false≢true (rw (j, stuck) at h)))
      (λ j. rw k j)
  stuck_all s e es h (Memᴰ.tail {x = d} {xs = r} m) = cases (mem same d.0 s)
      (λ j. absurd (false≢true (rw (j, stuck) at h)))
      (λ j. stuck_all s e r (rw (j, stuck) at h) m)

  sweeps_keeps : (d : ℕ) (s : List A) (es : List (A × A)) (x : A) → mem same x s ≡ true → mem same x (sweeps same d s es) ≡ true
  unfolding sweeps
  sweeps_keeps zero s es x h = h
  sweeps_keeps (suc d) s es x h = cases (stuck same s es)
      (λ k. rw (k, sweeps) h)
      (λ k. rw (k, sweeps) (sweeps_keeps d (grown same s es) (rest same s es) x (grown_keeps x s es h)))

  -- the result is closed under the edges
  sweeps_closed : (d : ℕ) (s : List A) (es : List (A × A)) (e : A × A) → length es ≤ d → Memᴰ e es → mem same e.0 (sweeps same d s es) ≡ true → mem same e.1 (sweeps same d s es) ≡ true
  unfolding sweeps
  sweeps_closed zero s [] e l m h = absurd (Memᴰ.not-nil m)
  sweeps_closed zero s (x ∷ es) e l m h = absurd (omega arith)
  sweeps_closed (suc d) s es e l m h = cases (stuck same s es)
      (λ k. absurd (false≢true (sym (stuck_all s e es k m) ∙ (rw (k, sweeps) at h))))
      (λ k. rw (k, sweeps) (left k (grown_or_rest e s es m)
      (λ m'. sweeps_closed d (grown same s es) (rest same s es) e (omega (arith, rest_lt s es k)) m' (rw (k, sweeps) at h))))
    where
      left : stuck same s es ≡ false → (mem same e.1 (grown same s es) ≡ true) ⊎ Memᴰ e (rest same s es) → (Memᴰ e (rest same s es) → mem same e.1 (sweeps same d (grown same s es) (rest same s es)) ≡ true) → mem same e.1 (sweeps same d (grown same s es) (rest same s es)) ≡ true
      left k (inl x) f = sweeps_keeps d (grown same s es) (rest same s es) e.1 x
      left k (inr x) f = f x

  -- nothing is found that is not in a set closed under the edges
  module _ (P : A → Type 0) where
    add_sound : (y : A) (s : List A) → P y → ((x : A) → mem same x s ≡ true → P x) → (x : A) → mem same x (add same y s) ≡ true → P x
    unfolding add mem
    add_sound y s py f x h = cases (mem same y s)
        (λ k. f x (rw (k, add) at h))
        (λ k. cases (same x y)
        (λ j. rw (same_eq x y j) py)
        (λ j. f x (rw (j, mem) at (rw (k, add) at h))))

    grown_sound : (s : List A) (es : List (A × A)) → ((e : A × A) → Memᴰ e es → P e.0 → P e.1) → ((x : A) → mem same x s ≡ true → P x) → (x : A) → mem same x (grown same s es) ≡ true → P x
    unfolding grown
    grown_sound s [] g f x h = f x h
    grown_sound s (e ∷ es) g f x h = cases (mem same e.0 s)
        (λ k. grown_sound (add same e.1 s) es (λ d m. g d (Memᴰ.tail m)) (add_sound e.1 s (g e (Memᴰ.head refl) (f e.0 k)) f) x (rw (k, grown) at h))
        (λ k. grown_sound s es (λ d m. g d (Memᴰ.tail m)) f x (rw (k, grown) at h))

    sweeps_sound : (d : ℕ) (s : List A) (es : List (A × A)) → ((e : A × A) → Memᴰ e es → P e.0 → P e.1) → ((x : A) → mem same x s ≡ true → P x) → (x : A) → mem same x (sweeps same d s es) ≡ true → P x
    unfolding sweeps
    sweeps_sound zero s es g f x h = f x h
    sweeps_sound (suc d) s es g f x h = cases (stuck same s es)
        (λ k. f x (rw (k, sweeps) at h))
        (λ k. sweeps_sound d (grown same s es) (rest same s es) (λ e m. g e (rest_in s es e m)) (grown_sound s es g f) x (rw (k, sweeps) at h))

  pub closure_sound : (s : List A) (es : List (A × A)) (x : A) → mem same x (closure same s es) ≡ true → Reach s es x
  unfolding closure
  closure_sound s es x h = sweeps_sound (Reach s es) (length es) s es (λ e m r. edge m r) (λ y k. source (mem_in y s k)) x h

  pub closure_complete : (s : List A) (es : List (A × A)) (x : A) → Reach s es x → mem same x (closure same s es) ≡ true
  unfolding closure
  closure_complete s es x (source m) = sweeps_keeps (length es) s es x (in_mem x s m)
  closure_complete s es x (edge {a = a} m r) = sweeps_closed (length es) s es (a, x) (omega arith) m (closure_complete s es a r)
