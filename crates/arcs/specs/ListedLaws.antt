-- Laws of the numbers in a mask, taken one by one, and of rows of text, one for each of them.
use Prim.Native.Nat.{ℕ, zero, suc, ◌+◌, ◌*◌, ◌/◌, ◌%◌, ◌^◌, ◌≤◌, ◌<◌}
use Rattle.std.specs.Prelude.{◌≡◌, refl, Bool, true, false, List, [], ◌∷◌, get_or, ltb}
use Rattle.std.proofs.Common.{sym, ◌∙◌, append-nil, arith, mul-le-mul_left, add-one, drop-cons, ne_eqb, pow-suc}
use Rattle.std.proofs.Math.Path.{ap}
use Rattle.std.proofs.Math.ListN.{length, drop, length-drop}
use Rattle.std.specs.Int.Count.{ones, ones-ones}
use Rattle.std.proofs.lemmas.Nat.{ones_cat}
use Rattle.table.specs.Cases.{cases}
use Rattle.text.proofs.NumberLaws.{by_order}
use Rattle.std.proofs.Math.Nat.{div-div-eq-div-mul}
use Rattle.table.specs.Mask.{pick, bit, members_from, members}
use Rattle.text.specs.Reader.{concat_from}
use Rattle.put.specs.Put.{Put}
use Rattle.put.specs.PutLaws.{put_after, put_more}
use Rattle.put.specs.RowLaws.{PutRows, rows_start, rows_turn, rows_end}
use Rattle.labels.specs.Graph.{edges_text, arc_text}

mod_small : (k : ℕ) → k < 32 → k % 32 ≡ k
mod_small k h = omega arith

-- ---- how many numbers a mask holds

ones_half : (r : ℕ) → ones r ≡ ones (r / 2) + ones (r % 2)
ones_half r = let e : r / 2 * 2 + r % 2 ≡ r = omega arith in rw e at (ones_cat 1 (r / 2) (r % 2) (omega arith))

count_from : (n k m : ℕ) → m / 2 ^ k < 2 ^ n → length (members_from n k m) ≡ ones (m / 2 ^ k)
unfolding members_from bit
count_from zero k m h = let z : m / 2 ^ k ≡ 0 = omega arith in rw z (sym (ones-ones 0))
count_from (suc n) k m h =
    let r = m / 2 ^ k in
    let g : r < 2 ^ n * 2 = rw pow-suc at h in
    let e : m / 2 ^ suc k ≡ r / 2 = ap (λ (x : ℕ). m / x) (pow-suc 2 k) ∙ sym (div-div-eq-div-mul m (2 ^ k) 2) in
    let i : length (members_from n (suc k) m) ≡ ones (r / 2) = count_from n (suc k) m (rw e (omega arith)) ∙ ap ones e in
    by_order (r % 2) 1
    (λ d. let z : r % 2 ≡ 0 = omega arith in rw z (omega (arith, i, ones_half r, ap ones z, ones-ones 0)))
    (λ d. let z : r % 2 ≡ 1 = omega arith in rw z (omega (arith, i, ones_half r, ap ones z, ones-ones 1)))

pub count_members : (m : ℕ) → m < 4294967296 → ones m ≡ length (members m)
count_members m h = let e : m / 1 ≡ m = omega arith in sym (count_from 32 0 m (omega arith) ∙ ap ones e)

-- ---- their rows

-- what a list has at i, and behind
at_head : (ks : List ℕ) (i x : ℕ) (xs : List ℕ) → x ∷ xs ≡ drop i ks → (i < length ks) × ((x ≡ get_or ks i 0) × (xs ≡ drop (suc i) ks))
at_head ks i x xs e =
    let h : i < length ks = omega (arith, ap length e, length-drop i ks) in
    let d = drop-cons ks i 0 h in
    (h, ((cc), (cc)))

-- of the numbers in m those below k, i of them, have their rows of at most w bytes; f gives the row of one by its place and itself
pub record Listed (w : ℕ) (f : ℕ → ℕ → List ℕ) (m : ℕ) (l : List ℕ) (at : ℕ) (o : List ℕ) (a i k : ℕ) : Type 0 where
  pub left : ℕ
  pub places : k + left ≡ 32
  pub few : i ≤ k
  pub within : i ≤ length (members m)
  pub rest : members_from left k m ≡ drop i (members m)
  pub rows : PutRows w (λ j. f j (get_or (members m) j 0)) l at o a i

pub listed_start : {w : ℕ} {f : ℕ → ℕ → List ℕ} {l : List ℕ} {at : ℕ} (m : ℕ) → Listed w f m l at l at 0 0
listed_start m = record { left = 32; places = refl; few = omega arith; within = omega arith; rest = refl; rows = rows_start }

rows_same : {w c i p q at : ℕ} {f : ℕ → List ℕ} {l m n : List ℕ} → PutRows c f l at m p i → Put w m p [] n q → PutRows c f l at n q i
rows_same {i = i} {f = f} a b =
    let d = put_after a.put b in
    let e = append-nil (concat_from f i 0) in
    record { put = record { few = a.put.few; bytes = rw e at d.bytes; same = d.same; next = rw e at d.next } }

module _ {f : ℕ → ℕ → List ℕ} {w m at a i k : ℕ} {l o : List ℕ} (b : Listed w f m l at o a i k) where
  pub listed_place : k ≤ 32 → a ≤ at + w * 32
  listed_place g = let h : w * i ≤ w * 32 = mul-le-mul_left w (omega (arith, b.few)) in omega (arith, b.rows.put.few, b.rows.put.next)

  pub listed_few : k < 32 → i ≤ 32
  listed_few h = omega (arith, b.few)

  pub listed_turn : {held : Bool} {o' : List ℕ} {a' r : ℕ} → k < 32 → held ≡ bit (k % 32) m → Put w o a (pick held (f i k) []) o' a' → r ≡ pick held (i + 1) i → Listed w f m l at o' a' r (k + 1)
  unfolding members_from
  listed_turn {held} {o'} {a'} {r} h e x g = go b.left b.places b.rest
    where
      y : held ≡ bit k m
      y = e ∙ ap (λ (j : ℕ). bit j m) (mod_small k h)

      go : (left : ℕ) → k + left ≡ 32 → members_from left k m ≡ drop i (members m) → Listed w f m l at o' a' r (k + 1)
      go zero p s = absurd (omega arith)
      go (suc left) p s = cases held
          (λ z.
          let u : r ≡ i + 1 = rw z at g in
          let v : k ∷ members_from left (suc k) m ≡ drop i (members m) = rw (sym y ∙ z) at s in
          let t = at_head (members m) i k (members_from left (suc k) m) v in
          rw u (record {
            left = left;
            places = omega arith;
            few = omega (arith, b.few);
            within = omega (arith, t.0);
            rest = rw (add-one k, add-one i) t.1.1;
            rows = rows_turn b.rows (rw (← t.1.0) (rw z at x));
          }))
          (λ z.
          let u : r ≡ i = rw z at g in
          let v : members_from left (suc k) m ≡ drop i (members m) = rw (sym y ∙ z) at s in
          rw u (record { left = left; places = omega arith; few = omega (arith, b.few); within = b.within; rest = rw (add-one k) v; rows = rows_same b.rows (rw z at x) }))

  pub listed_held : {o' : List ℕ} {a' : ℕ} → k < 32 → true ≡ bit (k % 32) m → Put w o a (f i k) o' a' → Listed w f m l at o' a' (i + 1) (k + 1)
  listed_held h e x = listed_turn {held = true} h e x refl

  pub listed_passed : k < 32 → false ≡ bit (k % 32) m → Listed w f m l at o a i (k + 1)
  listed_passed h e = listed_turn {held = false} h e (record { few = omega arith; bytes = refl; same = refl; next = omega arith }) refl

  pub listed_end : k ≤ 32 → 32 ≤ k → Put (w * 32) l at (concat_from (λ j. f j (get_or (members m) j 0)) (length (members m)) 0) o a
  unfolding members_from
  listed_end u h = go b.left b.places b.rest
    where
      go : (left : ℕ) → k + left ≡ 32 → members_from left k m ≡ drop i (members m) → Put (w * 32) l at (concat_from (λ j. f j (get_or (members m) j 0)) (length (members m)) 0) o a
      go zero p s =
          let n : length (members m) ≤ i = omega (arith, ap length s, length-drop i (members m)) in
          put_more (mul-le-mul_left w (omega (arith, b.few, b.within))) (rows_end b.rows b.within n)
      go (suc left) p s = absurd (omega arith)

-- an arc with targets, k of them
pub arc_edges : {l o : List ℕ} {at a k : ℕ} (p n : ℕ) (word : List ℕ) (to : ℕ) → k ≡ length (members to) → (k ≡ 0 → ⊥) → Put 1728 l at (edges_text p n word (ltb 1 k) (members to)) o a
    → Put 1728 l at (arc_text p n word to) o a
unfolding arc_text
arc_edges p n word to e h w = rw (ne_eqb (length (members to)) 0 (λ z. h (e ∙ z))) (rw e at w)
