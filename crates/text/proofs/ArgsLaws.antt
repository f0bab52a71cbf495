-- A call's arguments: the names on the line that they stand for, and the arguments that the reader makes of names.
use Rattle.std.specs.Prelude.{ℕ, zero, suc, ◌+◌, ◌-◌, ◌≤◌, ◌<◌, min, ◌≡◌, refl, List, ◌++◌, Bool, length, get_or, take, replicate}
use Rattle.std.proofs.Common.{◌∙◌, ap, arith, length-take, get_or-take, ne_eqb}
use Rattle.std.proofs.Math.Option.{Option, none, some}
use Rattle.std.proofs.lemmas.List.{length-replicate, length-map}
use Rattle.std.proofs.Math.ListN.{get_or-map}
use Rattle.table.specs.Table.{removed, arg_places, arg_at}
use Rattle.table.specs.declared.Args.{Args}
use Rattle.text.specs.Value.{arguments, check}
use Rattle.text.specs.Format.{variable_of, name_of, arg_of, args_of, arg_names}
use Rattle.text.specs.Right.{NameIn}
use Rattle.text.proofs.RightLaws.{check_right, right_check}

-- ---- names

-- as many as arguments: those of the four places, and then the fourth again
pub names_length : (x : Args) → length (arg_names x) ≡ x.len
names_length x = simp (length-map, length-take, length-replicate) (omega arith)

repeated : (x : Args) (n i : ℕ) → i < 4 + n → get_or (arg_places x ++ replicate n x.a3) i 0 ≡ arg_at x (min i 3)
repeated x n zero l = refl
repeated x n (suc zero) l = refl
repeated x n (suc (suc zero)) l = refl
repeated x n (suc (suc (suc zero))) l = refl
repeated x n (suc (suc (suc (suc i)))) l = let e : min (suc (suc (suc (suc i)))) 3 ≡ 3 = omega arith in rw e (go n i (omega arith))
  where
    go : (n i : ℕ) → i < n → get_or (replicate n x.a3) i 0 ≡ x.a3
    go zero i l = absurd (omega arith)
    go (suc n) zero l = refl
    go (suc n) (suc i) l = go n i (omega arith)

pub name_any : (x : Args) (i : ℕ) → i < x.len → get_or (arg_names x) i (some 0) ≡ name_of (arg_at x (min i 3))
name_any x i l = get_or-map name_of (take x.len _) i 0 ∙ ap name_of (get_or-take x.len _ i 0 l ∙ repeated x (x.len - 4) i (omega arith))

pub name_at : (x : Args) (i : ℕ) → i < x.len → i < 4 → get_or (arg_names x) i (some 0) ≡ name_of (arg_at x i)
name_at x i l u = let e : min i 3 ≡ i = omega arith in rw e at (name_any x i l)

-- ---- arguments made of names

pub made_at : (xs : List (Option ℕ)) (i : ℕ) → i < 4 → arg_at (args_of xs) i ≡ arg_of xs i
made_at xs zero l = refl
made_at xs (suc zero) l = refl
made_at xs (suc (suc zero)) l = refl
made_at xs (suc (suc (suc zero))) l = refl
made_at xs (suc (suc (suc (suc i)))) l = absurd (omega arith)

name_again : (c : Bool) (n : ℕ) (v : Option ℕ) → n ≤ removed → NameIn c n v → NameIn c n (name_of (variable_of v))
name_again c n none h r = r
name_again c n (some v) h r = rw (ne_eqb v removed (λ q. omega arith)) r

-- any number of names without fault make arguments whose line has no fault either
pub args_again : (c : Bool) (n : ℕ) (xs : List (Option ℕ)) → n ≤ removed → check (arguments c n) xs ≡ none → check (arguments c n) (arg_names (args_of xs)) ≡ none
args_again c n xs h e =
    let r = check_right (arguments c n) xs e in
    right_check (arguments c n) (arg_names (args_of xs)) (λ i l.
    let u : i < min (length xs) 5 = omega (arith, names_length (args_of xs)) in
    rw (name_any (args_of xs) i u, made_at xs (min i 3) (omega arith)) (name_again c n (get_or xs (min i 3) (some 0)) h (r (min i 3) (omega arith))))
