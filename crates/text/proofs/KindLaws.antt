-- What `if let` tells of a node: in its `else` the kind is another.
use Rattle.std.specs.Prelude.{ℕ, zero, suc, ◌≡◌, refl, List, [], ◌∷◌, true, false, eqb}
use Rattle.std.proofs.Common.{sym, ◌∙◌, ap, inl, inr, eq-eqb, ne_eqb}
use types.Run.{OneOf}
use denote.Enum.Declared.{tag_of}
use Rattle.std.proofs.lemmas.Bool.{eqb-false}
use Rattle.table.specs.Cases.{cases}
use Rattle.table.specs.contracts.Node as node
use Rattle.table.specs.Mask.{pick}
use Rattle.table.specs.Table.{Keeping, always, if_clean, never, absent, Act, alone, waits, signals, sends, receives, calls, returns, parts, keeping, act, is_absent}
use Rattle.table.specs.declared.Args.{Args}
use Rattle.table.specs.declared.Node.{Node}
use Rattle.table.specs.ByKind.{by_kind}
use Rattle.text.proofs.ValueLaws.{no}
use Rattle.text.specs.Format.{elem}
use Rattle.text.proofs.NodeLaws.{absent_is}

-- the n numbers from i on, without k
abbrev pub but : ℕ → ℕ → ℕ → List ℕ
but zero i k = []
but (suc n) i k = pick (eqb i k) (but n (suc i) k) (i ∷ but n (suc i) k)

elem_but : (n i k : ℕ) → elem k (but n i k) ≡ false
unfolding elem
elem_but zero i k = refl
elem_but (suc n) i k = cases (eqb i k) (λ e. rw e (elem_but n (suc i) k)) (λ e. rw (e, ne_eqb k i (λ q. eqb-false i k e (sym q))) (elem_but n (suc i) k))

one_elem : (ks : List ℕ) (k : ℕ) → OneOf ks k → elem k ks ≡ true
unfolding elem
one_elem [] k h = absurd h
one_elem (j ∷ []) k h = rw (eq-eqb k j h)
one_elem (j ∷ i ∷ ks) k (inl h) = rw (eq-eqb k j h)
one_elem (j ∷ i ∷ ks) k (inr h) = cases (eqb k j) (λ e. rw e) (λ e. rw e (one_elem (i ∷ ks) k h))

-- the number of a node's kind, in the order in which the kinds are declared
abbrev pub kind_no : Node → ℕ
kind_no x = tag_of node.the_type x

-- its kind is one of the thirteen, and not the k-th
abbrev pub Other : ℕ → Node → Type 0
Other k x = OneOf (but 13 0 k) (kind_no x)

other : (k : ℕ) (x : Node) → Other k x → kind_no x ≡ k → ⊥
other k x h e = let a = one_elem (but 13 0 k) k (rw e at h) in let b = elem_but 13 0 k in no (cc)

-- the number is known by the act, but where a node acts alone, and by the keeping of a `read` and of no node
abbrev act_kind : ℕ → Act → ℕ
act_kind k alone = k
act_kind k (waits i) = 6
act_kind k (signals i) = 7
act_kind k (sends q v) = 8
act_kind k (receives q v) = 9
act_kind k (calls q xs) = 5
act_kind k returns = 12

abbrev keeping_kind : ℕ → Keeping → ℕ
keeping_kind k always = k
keeping_kind k if_clean = k
keeping_kind k never = 4
keeping_kind k absent = 0

pub kind_is : (x : Node) → (kind_no x ≡ act_kind (kind_no x) (act x)) × (kind_no x ≡ keeping_kind (kind_no x) (keeping x))
unfolding parts
kind_is = by_kind (search)

pub not_absent : (x : Node) → Other 0 x → is_absent x ≡ false
not_absent x h = cases (is_absent x) (λ e. absurd (other 0 x h (ap kind_no (absent_is x e)))) (λ e. e)

pub not_call : (x : Node) → Other 5 x → (q : ℕ) (xs : Args) → act x ≡ calls q xs → ⊥
not_call x h q xs e = other 5 x h ((kind_is x).0 ∙ ap (act_kind (kind_no x)) e)

pub not_recv : (x : Node) → Other 9 x → (q v : ℕ) → act x ≡ receives q v → ⊥
not_recv x h q v e = other 9 x h ((kind_is x).0 ∙ ap (act_kind (kind_no x)) e)

pub not_return : (x : Node) → Other 12 x → act x ≡ returns → ⊥
not_return x h e = other 12 x h ((kind_is x).0 ∙ ap (act_kind (kind_no x)) e)

pub not_read : (x : Node) → Other 4 x → keeping x ≡ never → ⊥
not_read x h e = other 4 x h ((kind_is x).1 ∙ ap (keeping_kind (kind_no x)) e)
