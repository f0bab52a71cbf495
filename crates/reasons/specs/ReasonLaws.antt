-- Laws of reading the first line of a text and of writing its reason: each says what a step of the code shows.
use Rattle.std.specs.Prelude.{ℕ, zero, suc, ◌+◌, ◌≤◌, ◌<◌, ◌≡◌, refl, List, [], ◌∷◌, ◌++◌, length, get_or, drop, Option, Some, None, Ok, Err}
use Rattle.std.proofs.Common.{arith}
use Rattle.text.specs.declared.Fault.{Fault}
use Rattle.text.specs.declared.Fault.TheVariants.{Range}
use Rattle.text.specs.Number.{bytes, digits}
use Rattle.text.specs.Value.{from}
use Rattle.text.proofs.ValueLaws.{no}
use Rattle.text.specs.Line.{Line, end, field, Vals, line}
use Rattle.closing.specs.Reasons.{reasons, reason, place, reason_line, stop_line, refusal_line, stopped_line, of_stop, explained}
use Rattle.scan.specs.Place.{Answer, AfterKey, FeedAt}
use Rattle.numbers.specs.Numerals.{NumeralAt}
use Rattle.numbers.specs.ValueLaws.{is_low, is_high, is_good, number_wide, number_refused, number_found, number_unfound}
use Rattle.put.specs.Put.{Put, PutField}
use Rattle.put.specs.PutLaws.{put_after, put_more, field_then}
use Rattle.reasons.specs.Answer.{count_of, CountIn, CountAt, Stands, Fails, RefusalIs, StopIs}

-- ---- a number at a place, and behind a key

module _ {s : List ℕ} {at v e : ℕ} (m : NumeralAt s at (Ok (v, e))) where
  pub count_low : {lo hi : ℕ} → hi < 4294967296 → v < lo → CountIn lo hi s at None
  count_low {lo} {hi} h l = record { number = Err Range; is = refl; there = number_wide m (omega arith) (is_low lo (hi + 1) Range v e l) }

  pub count_high : {lo hi : ℕ} → hi < 4294967296 → hi < v → CountIn lo hi s at None
  count_high {lo} {hi} h l = record { number = Err Range; is = refl; there = number_wide m (omega arith) (is_high lo (hi + 1) Range v e (omega arith)) }

  pub count_good : {lo hi : ℕ} → hi < 4294967296 → lo ≤ v → v ≤ hi → CountIn lo hi s at (Some (v, e))
  count_good {lo} {hi} h l g = record { number = Ok (v, e); is = refl; there = number_wide m (omega arith) (is_good lo (hi + 1) Range v e l (omega arith)) }

pub count_unread : {s : List ℕ} {at : ℕ} {g : Fault} (lo hi : ℕ) → NumeralAt s at (Err g) → CountIn lo hi s at None
count_unread {g = g} lo hi m = record { number = Err g; is = refl; there = number_refused m lo (hi + 1) Range }

pub key_within : {key s : List ℕ} {at b : ℕ} → AfterKey key s at (Ok b) → b ≤ length s
key_within m = m.within

pub count_found : {lo hi : ℕ} {key s : List ℕ} {at b : ℕ} {a : Option (ℕ × ℕ)} → AfterKey key s at (Ok b) → CountIn lo hi s b a → CountAt lo hi key s at a
count_found m u = record { number = u.number; is = u.is; there = number_found m u.there }

pub count_unfound : {key s : List ℕ} {at : ℕ} {g : Fault} (lo hi : ℕ) → AfterKey key s at (Err g) → CountAt lo hi key s at None
count_unfound {g = g} lo hi m = record { number = Err g; is = refl; there = number_unfound m lo (hi + 1) Range }

-- ---- a line, number by number

number_of : {v e : ℕ} (x : Answer ℕ) → ◌≡◌ {A = Option (ℕ × ℕ)} (Some (v, e)) (count_of x) → x ≡ Ok (v, e)
number_of (Ok p) q = cc
number_of (Err f) q = no (cc)

fault_of : (x : Answer ℕ) → None ≡ count_of x → (f : Fault) × (x ≡ Err f)
fault_of (Ok p) q = no (cc)
fault_of (Err f) q = (f, refl)

module _ {lo hi : ℕ} {key s : List ℕ} {at v e : ℕ} (m : CountAt lo hi key s at (Some (v, e))) where
  pub count_within : e ≤ length s
  count_within = let h = rw (number_of m.number m.is) at m.there.within in omega (arith, h.0)

  pub count_least : lo ≤ v
  count_least = (rw (number_of m.number m.is) at m.there.within).1

  pub count_most : v ≤ hi
  count_most = let h = rw (number_of m.number m.is) at m.there.within in omega (arith, h.2)

  -- the number, and then the rest of its line
  module _ {next : ℕ → Line} where
    pub count_then : {w : Vals (next v)} → Stands (next v) w s e → Stands (field key (from lo hi) next) (v, w) s at
    unfolding line
    count_then a = record { read = λ l. ((a.read l).0, rw (← m.there.same l, number_of m.number m.is, (a.read l).1)) }

    pub count_but : Fails (next v) s e → Fails (field key (from lo hi) next) s at
    unfolding line
    count_but a = record { unread = λ l. ((a.unread l).0, rw (← m.there.same l, number_of m.number m.is, (a.unread l).1)) }

module _ {lo hi : ℕ} {key s : List ℕ} {at : ℕ} (m : CountAt lo hi key s at None) {next : ℕ → Line} where
  fails : {f : Fault} → m.number ≡ Err f → Fails (field key (from lo hi) next) s at
  unfolding line
  fails {f} e = record { unread = λ l. (f, rw (← m.there.same l, e)) }

  pub count_not : Fails (field key (from lo hi) next) s at
  count_not = fails (fault_of m.number m.is).1

pub feed_stands : {s : List ℕ} {at e : ℕ} → FeedAt s at (Ok e) → Stands end tt s at
unfolding line
feed_stands {s} {at} {e} m = record { read = λ l. (drop e s, rw (← m.same l)) }

pub feed_fails : {s : List ℕ} {at : ℕ} {f : Fault} → FeedAt s at (Err f) → Fails end s at
unfolding line
feed_fails {f = f} m = record { unread = λ l. (f, rw (← m.same l)) }

-- ---- what is said

-- the words of number k
pub words_of : (k : ℕ) {n at r : ℕ} {l m : List ℕ} → n ≡ k → length (get_or reasons k []) ≤ 96 → Put (length (get_or reasons k [])) l at (get_or reasons k []) m r → Put 96 l at (reason n) m r
unfolding reason
words_of k e h a = rw e (put_more h a)

pub words_end : (n : ℕ) {at p r : ℕ} {l m o : List ℕ} → Put 96 l at (reason n) m p → Put 1 m p (10 ∷ []) o r → Put 97 l at (reason n ++ (10 ∷ [])) o r
words_end n a b = put_after a b

pub place_put : {k at p r : ℕ} {l m o key : List ℕ} (n : ℕ) → k ≤ 5 → PutField (k + 20) l at key (digits n) m p → Put 2 m p (bytes ": ") o r → Put 27 l at (place key n) o r
place_put n h a b = put_more (omega arith) (field_then a b)

pub unplaced : (n line : ℕ) {r : ℕ} {l m : List ℕ} → line ≡ 0 → Put 97 l 0 (reason n ++ (10 ∷ [])) m r → Put 124 l 0 (reason_line n line) m r
unplaced n line e a = rw e (put_more (omega arith) a)

pub placed : (n line : ℕ) {p r : ℕ} {l m o : List ℕ} → (line ≡ 0 → ⊥) → Put 27 l 0 (place (bytes "line ") line) m p → Put 97 m p (reason n ++ (10 ∷ [])) o r → Put 124 l 0 (reason_line n line) o r
placed n zero h a b = absurd (h refl)
placed n (suc i) h a b = put_after a b

pub stop_placed : (n k : ℕ) {p r : ℕ} {l m o : List ℕ} → 1 ≤ n → Put 27 l 0 (place (bytes "step ") k) m p → Put 97 m p (reason n ++ (10 ∷ [])) o r → Put 124 l 0 (stop_line k n) o r
stop_placed zero k h a b = absurd (omega arith)
stop_placed (suc i) k h a b = put_after a b

nothing : {k : ℕ} {l : List ℕ} → Put k l 0 [] l 0
nothing = record { few = omega arith; bytes = refl; same = refl; next = refl }

module _ {s : List ℕ} where
  pub stop_said : {n k r : ℕ} {l m : List ℕ} → StopIs s n k → Put 124 l 0 (stop_line k n) m r → Put 124 l 0 (of_stop (line stopped_line 1 s)) m r
  stop_said a p = rw (a.stands.read 1).1 p

  pub stop_unsaid : {l : List ℕ} → Fails stopped_line s 0 → Put 124 l 0 (of_stop (line stopped_line 1 s)) l 0
  stop_unsaid a = rw (a.unread 1).1 nothing

  pub refusal_said : {n k r : ℕ} {l m : List ℕ} → RefusalIs s n k → Put 124 l 0 (reason_line n k) m r → Put 124 l 0 (explained s) m r
  unfolding explained
  refusal_said a p = rw (a.stands.read 1).1 p

  pub refusal_unsaid : {r : ℕ} {l m : List ℕ} → Fails refusal_line s 0 → Put 124 l 0 (of_stop (line stopped_line 1 s)) m r → Put 124 l 0 (explained s) m r
  unfolding explained
  refusal_unsaid a p = rw (a.unread 1).1 p

pub stop_is : {s : List ℕ} {u n k : ℕ} → Stands stopped_line (k, (u, (n, tt))) s 0 → 1 ≤ n → n ≤ 20 → StopIs s n k
stop_is {u = u} a h g = record { used = u; stands = a; low = h; high = g }
