-- Laws of a call's arguments.
use Rattle.std.specs.Prelude.{ℕ, ◌≤◌, ◌≡◌, List, ◌∷◌}
use Rattle.std.proofs.Common.{arith}
use Rattle.table.specs.declared.Args.{Args}
use Rattle.text.specs.Value.{spell_variable, commas}
use Rattle.text.specs.Format.{name_of}
use Rattle.put.specs.Put.{Put}
use Rattle.put.specs.PutLaws.{put_after, put_more}
use Rattle.put_fields.specs.Args.{args_text}

abbrev arg : ℕ → List ℕ
arg v = spell_variable (name_of v)

pub args_one : {l m : List ℕ} {at p : ℕ} (x : Args) → x.len ≡ 1 → Put 3 l at (arg x.a0) m p → Put 16 l at (args_text x) m p
unfolding commas
args_one x h a = rw h (put_more (omega arith) a)

pub args_two : {l m n : List ℕ} {at p q : ℕ} (x : Args) → x.len ≡ 2 → Put 3 l at (arg x.a0) m p → Put 4 m p (44 ∷ arg x.a1) n q → Put 16 l at (args_text x) n q
unfolding commas
args_two x h a b = rw h (put_more (omega arith) (put_after a b))

pub args_three : {l m n o : List ℕ} {at p q r : ℕ} (x : Args) → x.len ≡ 3 → Put 3 l at (arg x.a0) m p → Put 4 m p (44 ∷ arg x.a1) n q
    → Put 4 n q (44 ∷ arg x.a2) o r → Put 16 l at (args_text x) o r
unfolding commas
args_three x h a b c = rw h (put_more (omega arith) (put_after a (put_after b c)))

pub args_four : {l m n o i : List ℕ} {at p q r s : ℕ} (x : Args) → x.len ≡ 4 → Put 3 l at (arg x.a0) m p → Put 4 m p (44 ∷ arg x.a1) n q
    → Put 4 n q (44 ∷ arg x.a2) o r → Put 4 o r (44 ∷ arg x.a3) i s → Put 16 l at (args_text x) i s
unfolding commas
args_four x h a b c d = rw h (put_more (omega arith) (put_after a (put_after b (put_after c d))))

pub last_count : (n : ℕ) → n ≤ 4 → (n ≡ 0 → ⊥) → (n ≡ 1 → ⊥) → (n ≡ 2 → ⊥) → (n ≡ 3 → ⊥) → n ≡ 4
last_count n h a b c d = omega arith
