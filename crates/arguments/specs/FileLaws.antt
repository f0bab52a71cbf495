-- Laws of a file's word: each says what a step of the code shows.
use Rattle.std.specs.Prelude.{ℕ, zero, suc, ◌+◌, ◌≤◌, ◌<◌, ◌≡◌, refl, List, [], ◌∷◌, ◌++◌, map, eqb, length, get_or, set, take, drop}
use Rattle.std.proofs.Common.{sym, ◌∙◌, ap, ap₂, append_assoc, append-nil, arith, add-one, length-append, length-drop, length-take-le, take-suc, take_all, drop-cons, drop_of_length-le, ne_eqb}
use Rattle.std.proofs.lemmas.List.Edits.{sets, sets-eq}
use Rattle.std.proofs.Math.Seq.{length-sets}
use Rattle.std.proofs.lemmas.List.{get_or_at, set_at}
use Rattle.table.specs.Mask.{pick}
use Rattle.put.specs.Put.{Put}
use Rattle.machine.specs.Words.{file_word}

abbrev separator : ℕ → ℕ
separator b = pick (eqb b 10) 44 b

abbrev commas : List ℕ → List ℕ
commas s = map separator s

length_commas : (s : List ℕ) → length (commas s) ≡ length s
length_commas [] = refl
length_commas (b ∷ s) = ap suc (length_commas s)

commas_append : (s r : List ℕ) → commas (s ++ r) ≡ commas s ++ commas r
commas_append [] r = refl
commas_append (b ∷ s) r = ap (λ (l : List ℕ). separator b ∷ l) (commas_append s r)

-- the last byte is left out, or stands as it is
file_is : (s : List ℕ) (k : ℕ) → length s ≡ suc k → file_word s ≡ commas (take k s) ++ pick (eqb (get_or s k 0) 10) [] (get_or s k 0 ∷ [])
unfolding file_word
file_is [] k e = absurd (omega arith)
file_is (b ∷ []) zero e = refl
file_is (b ∷ []) (suc k) e = absurd (omega arith)
file_is (b ∷ c ∷ s) zero e = absurd (omega arith)
file_is (b ∷ c ∷ s) (suc k) e = ap (λ (l : List ℕ). separator b ∷ l) (file_is (c ∷ s) k (omega arith))

-- a word in the place of the first bytes
front : {s w m : List ℕ} {r : ℕ} → length w ≤ length s → m ≡ w ++ drop (length w) s → r ≡ length w → Put (length s) s 0 w m r
front {s} {w} {m} h e q =
    let z : 0 + length w ≡ length w = omega arith in
    let d : m ≡ sets s 0 w = e ∙ sym (sets-eq w s 0 (omega arith) ∙ rw z) in
    record { few = h; bytes = d; same = ap length d ∙ length-sets s 0 w; next = omega arith }

pub file_empty : (s : List ℕ) → length s ≡ 0 → Put (length s) s 0 (file_word s) s 0
unfolding file_word
file_empty [] h = record { few = omega arith; bytes = refl; same = refl; next = refl }
file_empty (b ∷ s) h = absurd (omega arith)

-- the first i bytes are turned, the others are as they were
pub record Turned (s m : List ℕ) (i : ℕ) : Type 0 where
  pub so_far : m ≡ commas (take i s) ++ drop i s

pub turned_start : {s : List ℕ} → Turned s s 0
turned_start = record { so_far = refl }

module _ {s m : List ℕ} {i : ℕ} (a : Turned s m i) where
  pub turned_same : i ≤ length s → length m ≡ length s
  turned_same h =
      let before : length (commas (take i s)) ≡ i = length_commas (take i s) ∙ length-take-le i s h in
      ap length a.so_far ∙ length-append (commas (take i s)) (drop i s) ∙ omega (arith, before, length-drop i s)

  pub turned_next : {b : ℕ} → i < length s → b ≡ separator (get_or m i 0) → Turned s (set m i b) (i + 1)
  turned_next {b} h e =
      let before : length (commas (take i s)) ≡ i = length_commas (take i s) ∙ length-take-le i s (omega arith) in
      let here : m ≡ commas (take i s) ++ (get_or s i 0 ∷ drop (suc i) s) = a.so_far ∙ ap (λ (l : List ℕ). commas (take i s) ++ l) (drop-cons s i 0 h) in
      let byte : get_or m i 0 ≡ get_or s i 0 = ap (λ (l : List ℕ). get_or l i 0) here ∙ get_or_at (commas (take i s)) (get_or s i 0) (drop (suc i) s) 0 i before in
      let d : b ≡ separator (get_or s i 0) = e ∙ ap separator byte in
      let t : commas (take (suc i) s) ≡ commas (take i s) ++ (b ∷ []) = ap commas (take-suc s i 0 h) ∙ commas_append (take i s) (get_or s i 0 ∷ []) ∙ ap (λ (x : ℕ). commas (take i s) ++ (x ∷ [])) (sym d) in
      record {
        so_far = ap (λ (l : List ℕ). set l i b) here ∙ set_at (commas (take i s)) (get_or s i 0) (drop (suc i) s) b i before
            ∙ sym (append_assoc (commas (take i s)) (b ∷ []) (drop (suc i) s)) ∙ ap (λ (l : List ℕ). l ++ drop (suc i) s) (sym t)
            ∙ ap (λ (n : ℕ). commas (take n s) ++ drop n s) (sym (add-one i));
      }

  turned_all : length s ≤ i → m ≡ commas s
  turned_all h = a.so_far ∙ ap₂ (λ (x y : List ℕ). commas x ++ y) (take_all i s h) (drop_of_length-le s h) ∙ append-nil (commas s)

-- all bytes of a file but the last, i of them, became m
module _ (f m : List ℕ) (i : ℕ) {k : ℕ} (z : length f ≡ suc i) (a : Turned (take i f) m k) (all : length (take i f) ≤ k) where
  size : length (take i f) ≡ i
  size = length-take-le i f (omega arith)

  turned : m ≡ commas (take i f)
  turned = turned_all a all

  last : drop i f ≡ get_or f i 0 ∷ []
  last = drop-cons f i 0 (omega arith) ∙ ap (λ (l : List ℕ). get_or f i 0 ∷ l) (let e : length f ≤ suc i = omega arith in drop_of_length-le f e)

  before : length (commas (take i f)) ≡ i
  before = length_commas (take i f) ∙ size

  byte : get_or (m ++ drop i f) i 0 ≡ get_or f i 0
  byte = ap₂ (λ (x y : List ℕ). get_or (x ++ y) i 0) turned last ∙ get_or_at (commas (take i f)) (get_or f i 0) [] 0 i before

  pub file_fed : get_or (m ++ drop i f) i 0 ≡ 10 → Put (length f) f 0 (file_word f) (m ++ drop i f) i
  file_fed e =
      let w : file_word f ≡ commas (take i f) = file_is f i z ∙ rw (sym byte ∙ e) (append-nil (commas (take i f))) in
      rw w (front (omega (arith, before)) (rw before (ap (λ (l : List ℕ). l ++ drop i f) turned)) (sym before))

  pub file_unfed : (get_or (m ++ drop i f) i 0 ≡ 10 → ⊥) → Put (length f) f 0 (file_word f) (m ++ drop i f) (length f)
  file_unfed e =
      let w : file_word f ≡ commas (take i f) ++ (get_or f i 0 ∷ []) = file_is f i z ∙ rw (ne_eqb (get_or f i 0) 10 (λ x. e (byte ∙ x))) refl in
      let k : length (commas (take i f) ++ (get_or f i 0 ∷ [])) ≡ suc i = length-append (commas (take i f)) (get_or f i 0 ∷ []) ∙ ap (λ (j : ℕ). j + 1) before ∙ add-one i in
      let none : drop (length (commas (take i f) ++ (get_or f i 0 ∷ []))) f ≡ [] = drop_of_length-le f (omega arith) in
      rw w
      (front (omega (arith, k)) (ap₂ ◌++◌ turned last ∙ sym (append-nil (commas (take i f) ++ (get_or f i 0 ∷ []))) ∙ ap (λ (l : List ℕ). (commas (take i f) ++ (get_or f i 0 ∷ [])) ++ l) (sym none))
      (omega (arith, k)))
