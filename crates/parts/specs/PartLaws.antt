-- A part, as the code reads it: a law for each return.
use Rattle.std.specs.Prelude.{ℕ, ◌+◌, ◌≤◌, ◌<◌, ◌≡◌, refl, Bool, true, false, cond, List, ◌++◌, eqb, length, take, drop, Ok, Err}
use Rattle.std.specs.declared.result.Result.{Result}
use Rattle.std.proofs.Common.{◌∙◌, arith, length-take-le, drop_at, le-leb, eq-eqb, ne_eqb}
use Rattle.std.proofs.Math.Option.{some}
use Rattle.std.proofs.Math.Seq.{length_front}
use Rattle.std.proofs.lemmas.Bool.{lt-leb}
use Rattle.parts.specs.declared.Missing.{Missing}
use Rattle.parts.specs.declared.Missing.TheVariants.{Long, Cut}
use Rattle.parts.specs.Parts.{digit_of, size_of, read_of, PartOf, Bytes, Next, Word}

-- ---- five digits

-- the bytes of the digits have the digits' values
pub digit_is : (d : ℕ) → d < 10 → digit_of (48 + d) ≡ d
digit_is d l = omega arith

-- ---- a part

pub too_long : (l : List ℕ) {k : ℕ} → length l < k → Bytes k l l (Err (Long k))
too_long l {k} g = record {
  part = record { read = 0; most = omega arith; answer = rw (lt-leb k (length l) g); behind = refl };
  lengths = refl;
  within = omega arith;
}

-- m is what the first k bytes became
module _ (l m : List ℕ) {k j : ℕ} (g : k ≤ length l) (same : length m ≡ length (take k l)) (few : j ≤ length m) where
  long : length m ≡ k
  long = same ∙ length-take-le k l g

  read_in : (b : Bool) → eqb j k ≡ b → PartOf k l (m ++ drop k l) (cond b (Ok k) (Err (Cut k j)))
  read_in b q = record {
    read = j;
    most = rw (le-leb k (length l) g) (omega (arith, long));
    answer = rw (le-leb k (length l) g, q);
    behind = rw (le-leb k (length l) g) (drop_at m (drop k l) k long);
  }

  pub cut : j < k → Bytes k l (m ++ drop k l) (Err (Cut k j))
  cut f = record { part = read_in false (ne_eqb j k (λ (q : j ≡ k). omega arith)); lengths = length_front l m k same; within = omega (arith, long, length_front l m k same) }

  pub whole : k ≤ j → Bytes k l (m ++ drop k l) (Ok k)
  whole f = record { part = read_in true (eq-eqb j k (omega (arith, long))); lengths = length_front l m k same; within = omega (arith, length_front l m k same) }

pub next_is : (h : List ℕ) {before after : List ℕ} {r : Result ℕ Missing} {n : ℕ} → n ≡ size_of h → Bytes n before after r → Next before after r
next_is h e p = record { header = some h; part = rw e at p.part; lengths = p.lengths; within = p.within }

pub word_is : {l m : List ℕ} {r : Result ℕ Missing} {n : ℕ} → Next l m r → n ≡ read_of r → Word l m n
word_is {r = r} p e = record { part = r; next = p; read = e; within = rw (← e) at p.within }
