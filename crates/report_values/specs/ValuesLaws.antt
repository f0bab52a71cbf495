-- Laws of lists of values, written one value after another.
use Rattle.std.specs.Prelude.{ℕ, zero, suc, ◌+◌, ◌*◌, ◌≤◌, ◌≡◌, refl, List, [], ◌∷◌, ◌++◌, ℤ}
use Rattle.std.proofs.Common.{sym, subst, ◌∙◌, ap, append_assoc, arith, ne_eqb}
use Rattle.text.specs.Number.{bytes}
use Rattle.text.specs.Value.{commas}
use Rattle.text.specs.Reader.{concat_from}
use Rattle.put.specs.Put.{Put}
use Rattle.put.specs.PutLaws.{put_after, put_more}
use Rattle.put.specs.RowLaws.{concat_last}
use Rattle.machine.specs.State.{var_at}
use Rattle.machine.specs.Report.{spell_value, values_text}
use Rattle.report_values.specs.Values.{item_text}

abbrev items : List ℤ → ℕ → List (List ℕ)
items l n = concat_from (λ i. spell_value (var_at l i) ∷ []) n 0

commas_last : (x : List ℕ) (xs : List (List ℕ)) (y : List ℕ) → commas (x ∷ xs) ++ (44 ∷ y) ≡ commas ((x ∷ xs) ++ (y ∷ []))
unfolding commas
commas_last x [] y = refl
commas_last x (z ∷ xs) y = append_assoc x _ _ ∙ ap (λ (r : List ℕ). x ++ (44 ∷ r)) (commas_last z xs y)

abbrev item : List ℤ → ℕ → List (List ℕ)
item l i = spell_value (var_at l i) ∷ []

items_last : (l : List ℤ) (k : ℕ) → items l (suc (suc k)) ≡ items l (suc k) ++ item l (suc k)
items_last l k = let o : 0 + suc k ≡ suc k = omega arith in concat_last (item l) (suc k) 0 ∙ ap (λ (i : ℕ). items l (suc k) ++ item l i) o

commas_more : (l : List ℤ) (k : ℕ) → commas (items l (suc k)) ++ (44 ∷ spell_value (var_at l (suc k))) ≡ commas (items l (suc (suc k)))
unfolding concat_from
commas_more l k = commas_last (spell_value (var_at l 0)) (concat_from (item l) k 1) (spell_value (var_at l (suc k))) ∙ ap commas (sym (items_last l k))

-- the first i values stand there
pub record Listing (l : List ℤ) (before : List ℕ) (at : ℕ) (after : List ℕ) (p i : ℕ) : Type 0 where
  pub put : Put (12 * i) before at (commas (items l i)) after p

pub listing_none : {b a : List ℕ} {at p n : ℕ} (l : List ℤ) → n ≡ 0 → Put 4 b at (bytes "none") a p → Put 3060 b at (values_text l n) a p
unfolding concat_from
listing_none l z u = rw z (put_more (omega arith) u)

pub listing_start : {l : List ℤ} {b : List ℕ} {at : ℕ} → Listing l b at b at 0
unfolding concat_from commas
listing_start = record { put = record { few = omega arith; bytes = refl; same = refl; next = omega arith } }

pub listing_turn : {l : List ℤ} {b a c : List ℕ} {at p q i : ℕ} {z : ℤ} → Listing l b at a p i → z ≡ var_at l i → Put 12 a p (item_text i z) c q → Listing l b at c q (i + 1)
unfolding concat_from commas
listing_turn {l} {b} {a} {c} {at} {p} {q} {i} {z} g e u = record { put = go i g.put (rw e at u) }
  where
    go : (i : ℕ) → Put (12 * i) b at (commas (items l i)) a p → Put 12 a p (item_text i (var_at l i)) c q → Put (12 * (i + 1)) b at (commas (items l (i + 1))) c q
    go zero v w = put_more (omega arith) (put_after v w)
    go (suc k) v w =
        let e : suc k + 1 ≡ suc (suc k) = omega arith in
        subst (λ (n : ℕ). Put (12 * n) b at (commas (items l n)) c q) (sym e)
        (subst (λ (t : List ℕ). Put (12 * suc (suc k)) b at t c q) (commas_more l k) (put_more (omega arith) (put_after v (rw (ne_eqb (suc k) 0 (λ y. omega arith)) at w))))

pub listing_end : {l : List ℤ} {b a : List ℕ} {at p i n : ℕ} → Listing l b at a p i → i ≤ n → n ≤ i → (n ≡ 0 → ⊥) → n ≤ 255 → Put 3060 b at (values_text l n) a p
unfolding concat_from
listing_end {l} {b} {a} {at} {p} {i} {n} g h k z u = let e : i ≡ n = omega arith in rw (← e) (go i (λ y. z (omega arith)) (omega arith) g.put)
  where
    go : (i : ℕ) → (i ≡ 0 → ⊥) → i ≤ 255 → Put (12 * i) b at (commas (items l i)) a p → Put 3060 b at (values_text l i) a p
    go zero h x v = absurd (h refl)
    go (suc k) h x v = put_more (omega arith) v

-- ---- one value
pub item_first : {b a : List ℕ} {at p i : ℕ} (z : ℤ) → i ≡ 0 → Put 11 b at (spell_value z) a p → Put 12 b at (item_text i z) a p
item_first z e u = rw e (put_more (omega arith) u)

pub item_next : {b a c : List ℕ} {at p q i : ℕ} (z : ℤ) → (i ≡ 0 → ⊥) → Put 1 b at (44 ∷ []) a p → Put 11 a p (spell_value z) c q → Put 12 b at (item_text i z) c q
item_next {i = i} z h u v = rw (ne_eqb i 0 h) (put_after u v)
