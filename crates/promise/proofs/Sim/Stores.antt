-- Lists as stores: what a place holds after a store, in one list and in two lists that are stored to alike.
use Rattle.std.specs.Prelude.{ℕ, zero, suc, ◌+◌, ◌<◌, ◌≤◌, ◌≡◌, refl, ◌≢◌, length, get_or, set, take, eqb, ltb}
use Rattle.std.proofs.Common.{arith, add-zero, add-suc, suc-add, ap, get_or-set_same, get_or-set_other, eqb-true, ltb-true, ltb-false}
use Rattle.std.proofs.Math.Option.{some}
use mathlib.Core.List.{List, [], ◌∷◌, Memᴰ}
use Rattle.std.proofs.Math.ListN.{get_elem?}
use Rattle.std.proofs.Math.Seq.{set_out}
use Rattle.std.proofs.lemmas.Bool.{eqb-false}
use Rattle.text.specs.Reader.{concat_from}
use Rattle.machine.specs.State.{place}
use Rattle.table.specs.Cases.{cases}

-- ---- two lists of one length, stored to at one place: what relates their elements, place by place, still does

pub set_both : {A B : Type 0} (R : A → B → Type 0) (l : List A) (l' : List B) (i j : ℕ) (a d : A) (b d' : B) → length l ≡ length l'
    → (j ≡ i → R a b) → R (get_or l j d) (get_or l' j d') → R (get_or (set l i a) j d) (get_or (set l' i b) j d')
set_both R l l' i j a d b d' e new old = cases (eqb j i)
    (λ k. cases (ltb i (length l))
    (λ m. let i< = ltb-true i (length l) m in
    rw (eqb-true j i k) (rw (get_or-set_same l i a d i<, get_or-set_same l' i b d' (omega arith)) (new (eqb-true j i k))))
    (λ m. let ≤i = ltb-false i (length l) m in rw (set_out l i a ≤i, set_out l' i b (omega arith)) old))
    (λ k. rw (get_or-set_other l i j a d (eqb-false j i k), get_or-set_other l' i j b d' (eqb-false j i k)) old)

-- ---- places of frames

-- two frames' places differ if the tasks or the frames do
place_other : (k j k' j' : ℕ) → j < 8 → j' < 8 → (k' ≡ k → j' ≢ j) → place k' j' ≢ place k j
place_other k j k' j' l l' h e = let z : k' ≡ k = omega arith in h z (omega arith)

pub frame_same : {A : Type 0} (l : List A) (k j : ℕ) (a d : A) → length l ≡ 32 → k < 4 → j < 8 → get_or (set l (place k j) a) (place k j) d ≡ a
frame_same l k j a d e lk lj = get_or-set_same l (place k j) a d (omega arith)

pub frame_other : {A : Type 0} (l : List A) (k j k' j' : ℕ) (a d : A) → j < 8 → j' < 8 → (k' ≡ k → j' ≢ j) → get_or (set l (place k j) a) (place k' j') d ≡ get_or l (place k' j') d
frame_other l k j k' j' a d lj lj' h = get_or-set_other l (place k j) (place k' j') a d (place_other k j k' j' lj lj' h)

-- ---- lists made place by place

pub concat_at : {A : Type 0} (f : ℕ → A) (n i j : ℕ) (d : A) → j < n → get_or (concat_from (λ m. f m ∷ []) n i) j d ≡ f (i + j)
unfolding concat_from
concat_at f zero i j d l = absurd (omega arith)
concat_at f (suc n) i zero d l = rw add-zero
concat_at f (suc n) i (suc j) d l = rw (add-suc, ← suc-add i j) (concat_at f n (suc i) j d (omega arith))

pub concat_length : {A : Type 0} (f : ℕ → A) (n i : ℕ) → length (concat_from (λ m. f m ∷ []) n i) ≡ n
unfolding concat_from
concat_length f zero i = refl
concat_length f (suc n) i = ap suc (concat_length f n (suc i))

-- ---- an element by its index

pub take_at? : {A : Type 0} (l : List A) (n i : ℕ) (d : A) → i < n → n ≤ length l → get_elem? (take n l) i ≡ some (get_or l i d)
take_at? [] n i d l h = absurd (omega arith)
take_at? (x ∷ xs) zero i d l h = absurd (omega arith)
take_at? (x ∷ xs) (suc n) zero d l h = refl
take_at? (x ∷ xs) (suc n) (suc i) d l h = take_at? xs n i d (omega arith) (omega arith)

pub at_in : {A : Type 0} (l : List A) (i : ℕ) (a : A) → get_elem? l i ≡ some a → Memᴰ a l
at_in [] i a e = let z : ◌≡◌ {A = ℕ} 0 1 = cc in absurd (omega arith)
at_in (x ∷ xs) zero a e = let z : a ≡ x = cc in Memᴰ.head z
at_in (x ∷ xs) (suc i) a e = Memᴰ.tail (at_in xs i a e)
