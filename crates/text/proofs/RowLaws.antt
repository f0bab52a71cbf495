-- Lines without fault, and rows: what a reader of rows took from a text is what the rows write, and no other rows write it.
use Prim.Native.Nat.{ℕ, zero, suc, ◌+◌, ◌-◌, ◌≤◌, ◌<◌}
use Rattle.std.specs.Prelude.{◌≡◌, refl, Bool, true, false, length, set}
use Rattle.std.proofs.Math.Path.{sym, ap}
use Rattle.std.proofs.Common.{◌∙◌, subst}
use mathlib.Core.List.{List, ◌++◌, append_assoc}
use Rattle.std.proofs.Math.Option.{Option, none, some}
use native.Mathlib.Omega.{arith}
use Rattle.std.proofs.Math.ListN.{get_or, drop, length-set}
use Rattle.std.proofs.Math.Seq.{get_or-set_same, get_or-set_other, drop-set-lt, get_or-drop, ext_get_or}
use Rattle.text.specs.declared.Fault.{Fault}
use Rattle.text.proofs.NumberLaws.{by_order}
use Rattle.text.specs.Value.{unless, or_else, check}
use Rattle.text.proofs.ValueLaws.{no}
use Rattle.text.specs.Line.{Line, end, field, Vals, write, took, Parser, line, line_fault}
use Rattle.text.proofs.LineLaws.{Sound, judgement, line_write, onto_read}
use Rattle.text.specs.Reader.{rows, concat_from}

-- ---- lines

-- no value of the line has a fault
abbrev pub Faultless : (d : Line) → Vals d → Type 0
Faultless end w = Unit {0}
Faultless (field key k next) w = (check k w.0 ≡ none) × Faultless (next w.0) w.1

pub or_left : (f g : Option Fault) → or_else f g ≡ none → f ≡ none
or_left none g e = refl
or_left (some f) g e = no (cc)

pub or_right : (f g : Option Fault) → or_else f g ≡ none → g ≡ none
or_right none g e = e
or_right (some f) g e = no (cc)

pub unless_none : (b : Bool) (f : Fault) → unless b f ≡ none → b ≡ true
unless_none true f e = refl
unless_none false f e = no (cc)

pub faultless : (d : Line) (w : Vals d) → line_fault d w ≡ none → Faultless d w
unfolding line_fault
faultless end w e = tt
faultless (field key k next) w e =
    let f = check k w.0 in
    let g = line_fault (next w.0) w.1 in
    (or_left f g e, faultless (next w.0) w.1 (or_right f g e))

-- a text from which a line was read begins with no other values of that line
pub line_only : (d : Line) → Sound d → (l : ℕ) (s : List ℕ) (w : Vals d) (l' : ℕ) (r : List ℕ) → line d l s ≡ took w l' r
    → (v : Vals d) (s' : List ℕ) → s ≡ write d v ++ s' → (v ≡ w) × (s' ≡ r)
line_only d g l s w l' r e v s' q = go (line_fault d v) (sym (line_write d g v l s') ∙ (rw q at e))
  where
    go : (f : Option Fault) → judgement v f l s' ≡ took w l' r → (v ≡ w) × (s' ≡ r)
    go none e = (cc e, cc e)
    go (some f) e = no (cc)

-- ---- rows

-- rows of one kind: what row i writes; the place with no row; what is true of every row that was read; which rows say all that
-- their lines said; what a row made by hand must keep to, to be known by what it writes; and which texts may stand behind row i - 1
pub record Rows (A : Type 0) : Type 1 where
  pub text : ℕ → A → List ℕ
  pub empty : A
  pub Fine : ℕ → A → Type 0
  pub Fits : A → Type 0
  pub Clean : A → Type 0
  pub Next : ℕ → List ℕ → Type 0
  pub next : (i : ℕ) (b : A) (s : List ℕ) → Next (suc i) s → Next i (text i b ++ s)

-- row i, read from s with r left
pub record Row {A : Type 0} (R : Rows A) (i : ℕ) (s : List ℕ) (a : A) (r : List ℕ) : Type 0 where
  pub fine : R.Fine i a
  pub same : R.Fits a → s ≡ R.text i a ++ r
  pub only : R.Fits a → (b : A) (s' : List ℕ) → R.Clean b → R.Next (suc i) s' → s ≡ R.text i b ++ s' → (b ≡ a) × (s' ≡ r)

-- the n rows of L from row i on
abbrev pub written : {A : Type 0} → Rows A → List A → ℕ → ℕ → List ℕ
written R L n i = concat_from (λ j. R.text j (get_or L j R.empty)) n i

abbrev pub Each : {A : Type 0} → Rows A → (ℕ → A → Type 0) → List A → ℕ → ℕ → Type 0
Each R P L i e = (j : ℕ) → i ≤ j → j < e → P j (get_or L j R.empty)

-- the n rows from row i to e, read from s with r left, were put into l and made L
pub record Filled {A : Type 0} (R : Rows A) (n i e : ℕ) (l L : List A) (s r : List ℕ) : Type 0 where
  pub long : length L ≡ length l
  pub earlier : (j : ℕ) → j < i → get_or L j R.empty ≡ get_or l j R.empty
  pub later : drop e L ≡ drop e l
  pub fine : Each R R.Fine L i e
  pub same : Each R (λ j a. R.Fits a) L i e → s ≡ written R L n i ++ r
  pub only : Each R (λ j a. R.Fits a) L i e
      → (M : List A) (s' : List ℕ) → length M ≡ length l → ((j : ℕ) → j < i → get_or M j R.empty ≡ get_or l j R.empty) → drop e M ≡ drop e l
      → Each R (λ j a. R.Clean a) M i e → R.Next e s' → s ≡ written R M n i ++ s' → (M ≡ L) × (s' ≡ r)

-- what holds at i, and at j if that is later
pub at_or_later {ℓ} : (P : ℕ → Type ℓ) (i j : ℕ) → i ≤ j → P i → (suc i ≤ j → P j) → P j
at_or_later P i j h p q = by_order i j q (λ k. let e : i ≡ j = omega arith in subst P e p)

module _ {A : Type 0} (R : Rows A) where
  -- what stands behind a row may be more rows
  next_all : (M : List A) (n i e : ℕ) → e ≡ i + n → (s : List ℕ) → R.Next e s → R.Next i (written R M n i ++ s)
  unfolding concat_from
  next_all M zero i e q s x = let p : e ≡ i = omega arith in rw p at x
  next_all M (suc n) i e q s x = rw (append_assoc (R.text i (get_or M i R.empty)) (written R M n (suc i)) s)
      (R.next i (get_or M i R.empty) (written R M n (suc i) ++ s) (next_all M n (suc i) e (omega arith) s x))

  -- no row, and one row before others
  pub fill_done : (e : ℕ) (l : List A) (s : List ℕ) → Filled R 0 e e l l s s
  unfolding concat_from
  fill_done e l s =
      let z = R.empty in
      record {
        long = refl;
        earlier = λ j h. refl;
        later = refl;
        fine = λ j h k. absurd (omega arith);
        same = λ f. refl;
        only = λ f M s' a b c d x q. (
          ext_get_or z M l a (λ j h. by_order j e (b j)
              (λ k.
              let p : e + (j - e) ≡ j = omega arith in
              rw p at (sym (get_or-drop e M (j - e) z) ∙ ap (λ (m : List A). get_or m (j - e) z) c ∙ get_or-drop e l (j - e) z))),
          sym q,
        );
      }

  pub fill_step : (n i e : ℕ) (l : List A) (s : List ℕ) (a : A) (t : List ℕ) (L : List A) (r : List ℕ) → e ≡ i + suc n → i < length l
      → Row R i s a t → Filled R n (suc i) e (set l i a) L t r → Filled R (suc n) i e l L s r
  unfolding concat_from
  fill_step n i e l s a t L r p h w f =
      let z = R.empty in
      let here : get_or L i z ≡ a = f.earlier i (omega arith) ∙ get_or-set_same l i a z h in
      let past : drop e (set l i a) ≡ drop e l = drop-set-lt e l i a (omega arith) in
      record {
        long = f.long ∙ length-set l i a;
        earlier = λ j k. f.earlier j (omega arith) ∙ get_or-set_other l i j a z (λ q. omega arith);
        later = f.later ∙ past;
        fine = λ j k u. at_or_later (λ j. R.Fine j (get_or L j z)) i j k (rw here w.fine) (λ k. f.fine j k u);
        same = λ g.
            w.same (rw here at (g i (omega arith) (omega arith)))
            ∙ rw (here, f.same (λ j k u. g j (omega arith) u)) (sym (append_assoc (R.text i a) (written R L n (suc i)) r));
        only = λ g M s' b c d m x q.
            let o = w.only (rw here at (g i (omega arith) (omega arith))) (get_or M i z) (written R M n (suc i) ++ s') (m i (omega arith) (omega arith))
            (next_all M n (suc i) e (omega arith) s' x) (q ∙ append_assoc (R.text i (get_or M i z)) (written R M n (suc i)) s') in
            f.only (λ j k u. g j (omega arith) u) M s' (b ∙ sym (length-set l i a))
            (λ j k. by_order j i (λ u. c j u ∙ sym (get_or-set_other l i j a z (λ q. omega arith)))
            (λ u. let y : j ≡ i = omega arith in rw y (o.0 ∙ sym (get_or-set_same l i a z h))))
            (d ∙ sym past) (λ j k u. m j (omega arith) u) x (sym o.1);
      }

  -- so many rows, counted up
  pub rows_fill : (f : ℕ → Parser A) → ((i l : ℕ) (s : List ℕ) (a : A) (l' : ℕ) (r : List ℕ) → f i l s ≡ took a l' r → Row R i s a r)
      → (n i e : ℕ) (l : List A) (k : ℕ) (s : List ℕ) (L : List A) (k' : ℕ) (r : List ℕ) → e ≡ i + n → e ≤ length l
      → rows f n i l k s ≡ took L k' r → Filled R n i e l L s r
  unfolding rows
  rows_fill f row zero i e l k s L k' r p h q =
      let a : e ≡ i = omega arith in
      let b : l ≡ L = cc q in
      let c : s ≡ r = cc q in
      rw (← a, ← b, ← c) (fill_done e l s)
  rows_fill f row (suc n) i e l k s L k' r p h q = onto_read (f i k s) _ L k' r q (λ a k₁ t u v.
      fill_step n i e l s a t L r p (omega arith) (row i k s a k₁ t u)
      (rows_fill f row n (suc i) e (set l i a) k₁ t L k' r (omega arith) (rw (length-set l i a) h) v))
