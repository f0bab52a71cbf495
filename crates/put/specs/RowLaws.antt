-- Laws of rows of text, written one after another.
use Rattle.std.specs.Prelude.{ℕ, zero, suc, ◌+◌, ◌*◌, ◌≤◌, ◌≡◌, refl, List, ◌++◌}
use Rattle.std.proofs.Common.{sym, ◌∙◌, ap, append-nil, append_assoc, arith, add-zero, add-one}
use Rattle.text.specs.Reader.{concat_from}
use Rattle.put.specs.Put.{Put}
use Rattle.put.specs.PutLaws.{put_after, put_more}

pub concat_last : {A : Type 0} (f : ℕ → List A) (n i : ℕ) → concat_from f (suc n) i ≡ concat_from f n i ++ f (i + n)
unfolding concat_from
concat_last f zero i = append-nil (f i) ∙ ap f (sym (add-zero i))
concat_last {A} f (suc n) i =
    let e : suc i + n ≡ i + suc n = omega arith in
    ap (λ (x : List A). f i ++ x) (concat_last f n (suc i)) ∙ sym (append_assoc (f i) (concat_from f n (suc i)) (f (suc i + n))) ∙ ap (λ (k : ℕ). (f i ++ concat_from f n (suc i)) ++ f k) e

pub concat_same : (f g : ℕ → List ℕ) → ((i : ℕ) → f i ≡ g i) → (n i : ℕ) → concat_from f n i ≡ concat_from g n i
unfolding concat_from
concat_same f g h zero i = refl
concat_same f g h (suc n) i = rw (h i, concat_same f g h n (suc i))

-- i rows of at most k bytes stand there
pub record PutRows (k : ℕ) (f : ℕ → List ℕ) (before : List ℕ) (at : ℕ) (after : List ℕ) (p i : ℕ) : Type 0 where
  pub put : Put (k * i) before at (concat_from f i 0) after p

pub rows_start : {k : ℕ} {f : ℕ → List ℕ} {l : List ℕ} {at : ℕ} → PutRows k f l at l at 0
unfolding concat_from
rows_start {k} = record { put = record { few = omega arith; bytes = refl; same = refl; next = omega arith } }

pub rows_turn : {k i p q at : ℕ} {f : ℕ → List ℕ} {l m n : List ℕ} → PutRows k f l at m p i → Put k m p (f i) n q → PutRows k f l at n q (i + 1)
rows_turn {k} {i} {f = f} a b =
    let z : 0 + i ≡ i = omega arith in
    record { put = rw (add-one i, concat_last f i 0, z) (put_more (omega arith) (put_after a.put b)) }

pub rows_end : {k i n p at : ℕ} {f : ℕ → List ℕ} {l m : List ℕ} → PutRows k f l at m p i → i ≤ n → n ≤ i → Put (k * n) l at (concat_from f n 0) m p
rows_end {k} {i} {n} {p} {at} {f} {l} {m} a h g = let e : i ≡ n = omega arith in rw (← e) a.put
