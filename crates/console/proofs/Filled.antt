-- What two reads took from a reader, one behind the other.
use Rattle.std.proofs.Common.{◌≡◌, ℕ, ◌+◌, ◌-◌, ◌≤◌, List, ◌++◌, sym, ap, ◌∙◌, length, take, drop, append_assoc, drop_at, length-take-le, le_refl}
use Rattle.std.specs.Prelude.{None, Some}
use Rattle.std.specs.declared.option.Option.{Option}
use Rattle.std.specs.Io.KnownBytes.{Consumes}
use Rattle.std.proofs.lemmas.Slice.{take-put_mid_below}
use lib.Seq.{take-add, take-append-le}
use borrow.Rule.Slice.PartMut.{put_mid, post_of}

pub consumes_more : (a b c : Option (List ℕ)) (s t : List ℕ) → Consumes a b s → Consumes b c t → Consumes a c (s ++ t)
consumes_more None b c s t p q = tt
consumes_more (Some x) None c s t p q = absurd p
consumes_more (Some x) (Some y) None s t p q = absurd q
consumes_more (Some x) (Some y) (Some z) s t p q = p ∙ ap (λ l. s ++ l) q ∙ sym (append_assoc s t z)

-- the part of a buffer behind its first f bytes was read into, and begins with n bytes that were read
pub read_behind : (f n : ℕ) (all part : List ℕ) → f ≤ length all → n ≤ length part → take f all ++ take n part ≡ take (f + n) (put_mid f (length all - f) all part)
read_behind f n all part within fits =
    let new = put_mid f (length all - f) all part in
    let rest : drop f new ≡ part ++ post_of f (length all - f) all = drop_at (take f all) (part ++ post_of f (length all - f) all) f (length-take-le f all within) in
    sym (take-add f n new
    ∙ ap (λ l. l ++ take n (drop f new)) (take-put_mid_below f (length all - f) all part f (le_refl f) within)
    ∙ ap (λ l. take f all ++ take n l) rest
    ∙ ap (λ l. take f all ++ l) (take-append-le n part (post_of f (length all - f) all) fits))
