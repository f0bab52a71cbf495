-- What counts as kept in a run, by the rules of closing: "Kept and dropped are as under Closing; in a closed table every node counts as kept".
use Rattle.std.specs.Prelude.{ℕ, ◌<◌, ◌≡◌, Bool, true, false, ◌↔◌, get_or, replicate}
use Rattle.std.proofs.Common.{sym, ◌∙◌, ap}
use Rattle.std.proofs.lemmas.List.{get_or-replicate}
use Rattle.table.specs.Mask.{bit, mask_of}
use Rattle.table.specs.MaskLaws.{bit_mask_of}
use Rattle.table.specs.declared.Table.{Table}
use Rattle.closing.specs.Dirty.{Unkept}
use Rattle.closing.proofs.KeptLaws.{unkept_is, kept_is}
use Rattle.machine.specs.Step.{Kept, kept_of, kept_in}

-- in an open table a node counts as dropped if and only if it is not kept under Closing,
pub dropped_open : (t : Table) (p n : ℕ) → t.closed ≡ false → (kept_in t p n ≡ false) ↔ Unkept t p n
dropped_open t p n o = rw (ap (λ (c : Bool). kept_of t c p n) o) (unkept_is t p n)

-- and as kept if and only if it is kept there
pub kept_open : (t : Table) (p n : ℕ) → t.closed ≡ false → (kept_in t p n ≡ true) ↔ (Unkept t p n → ⊥)
kept_open t p n o = rw (ap (λ (c : Bool). kept_of t c p n) o) (kept_is t p n)

-- in a closed table every node counts as kept
abbrev pub all_kept : Kept
all_kept p n = true

pub kept_closed : (t : Table) → t.closed ≡ true → kept_in t ≡ all_kept
kept_closed t c = ap (kept_of t) c

-- as masks: bit n of mask p for node n of procedure p
all_bits : (n : ℕ) → n < 32 → bit n 4294967295 ≡ true
unfolding mask_of
all_bits n l = bit_mask_of 32 n (λ i. true) l

pub masks_closed : (t : Table) → t.closed ≡ true → (p n : ℕ) → p < 8 → n < 32 → bit n (get_or (replicate 8 4294967295) p 0) ≡ kept_in t p n
masks_closed t c p n l m = ap (bit n) (get_or-replicate 8 p 4294967295 0 l) ∙ all_bits n m ∙ ap (λ (b : Bool). kept_of t b p n) (sym c)
