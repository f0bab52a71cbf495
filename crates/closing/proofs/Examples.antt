-- Document 01, "Bench examples": P1 to P8, as a table under one theorem.
use Rattle.std.specs.Prelude.{ℕ, ◌≡◌, refl, List, [], ◌∷◌, ◌++◌, ℤ, pos, negsuc}
use Prim.Native.String.{String}
use Rattle.table.specs.declared.Op.{Op}
use Rattle.table.specs.declared.Op.TheVariants.{Add, Shr}
use Rattle.table.specs.Values.{apply}
use Rattle.text.specs.Number.{bytes}
use Rattle.closing.specs.Program.{printed}
use Rattle.closing.proofs.Computing.{computing}

pub data Example : Type 0 where
  -- the closing program, given the first text, prints the second; a text by its lines
  closes : List String → List String → Example
  -- an operation on two values gives the third
  gives : Op → ℤ → ℤ → ℤ → Example

-- each line ended by LF
abbrev pub joined : List String → List ℕ
joined [] = []
joined (s ∷ ss) = bytes s ++ (10 ∷ joined ss)

abbrev pub Holds : Example → Type 0
Holds (closes s r) = printed (joined s) ≡ joined r
Holds (gives o a b r) = apply o a b ≡ r

abbrev pub AllHold : List Example → Type 0
AllHold [] = Unit {0}
AllHold (e ∷ es) = Holds e × AllHold es

-- the pair of listings
abbrev pub p1 : Example
p1 =
    closes
    ("trap=1 form=open"
    ∷ "tasks=1 procs=1 sems=1 queues=0"
    ∷ "task=0 top=0"
    ∷ "sem=0 count=1"
    ∷ "proc=0 params=0 vars=3 nodes=8"
    ∷ "node=0 kind=start to=1"
    ∷ "node=1 kind=read var=0 to=2"
    ∷ "node=2 kind=set var=1 op=add a=v2 b=1 to=3"
    ∷ "node=3 kind=test op=lt a=v0 b=100 yes=4 no=5"
    ∷ "node=4 kind=wait sem=0 to=6"
    ∷ "node=5 kind=out var=0 to=7"
    ∷ "node=6 kind=signal sem=0 to=3"
    ∷ "node=7 kind=return"
    ∷ [])
    ("trap=1 form=closed"
    ∷ "tasks=1 procs=1 sems=1 queues=0"
    ∷ "task=0 top=0"
    ∷ "sem=0 count=1"
    ∷ "proc=0 params=0 vars=3 nodes=8 drop=none"
    ∷ "node=0 kind=start to=2"
    ∷ "node=2 kind=set var=1 op=add a=v2 b=1 to=4,5"
    ∷ "node=4 kind=wait sem=0 to=6"
    ∷ "node=5 kind=out var=- to=7"
    ∷ "node=6 kind=signal sem=0 to=4,5"
    ∷ "node=7 kind=return"
    ∷ [])

-- 2147483647 add 1 is -2147483648
abbrev pub p2 : Example
p2 = gives Add (pos 2147483647) (pos 1) (negsuc 2147483647)

-- -8 shr 33 is -4
abbrev pub p3 : Example
p3 = gives Shr (negsuc 7) (pos 33) (negsuc 3)

-- v0 read and tested, v1 set to -1 or 1 by the arms: `out` of v1 keeps it
abbrev pub p4 : Example
p4 =
    closes
    ("trap=1 form=open"
    ∷ "tasks=1 procs=1 sems=0 queues=0"
    ∷ "task=0 top=0"
    ∷ "proc=0 params=0 vars=2 nodes=7"
    ∷ "node=0 kind=start to=1"
    ∷ "node=1 kind=read var=0 to=2"
    ∷ "node=2 kind=test op=lt a=v0 b=0 yes=3 no=4"
    ∷ "node=3 kind=set var=1 op=add a=-1 b=0 to=5"
    ∷ "node=4 kind=set var=1 op=add a=1 b=0 to=5"
    ∷ "node=5 kind=out var=1 to=6"
    ∷ "node=6 kind=return"
    ∷ [])
    ("trap=1 form=closed"
    ∷ "tasks=1 procs=1 sems=0 queues=0"
    ∷ "task=0 top=0"
    ∷ "proc=0 params=0 vars=2 nodes=7 drop=none"
    ∷ "node=0 kind=start to=3,4"
    ∷ "node=3 kind=set var=1 op=add a=-1 b=0 to=5"
    ∷ "node=4 kind=set var=1 op=add a=1 b=0 to=5"
    ∷ "node=5 kind=out var=1 to=6"
    ∷ "node=6 kind=return"
    ∷ [])

-- v0 read, v1 = v0+1, v2 = v1-v0: v2 is dirty
abbrev pub p5 : Example
p5 =
    closes
    ("trap=1 form=open"
    ∷ "tasks=1 procs=1 sems=0 queues=0"
    ∷ "task=0 top=0"
    ∷ "proc=0 params=0 vars=3 nodes=6"
    ∷ "node=0 kind=start to=1"
    ∷ "node=1 kind=read var=0 to=2"
    ∷ "node=2 kind=set var=1 op=add a=v0 b=1 to=3"
    ∷ "node=3 kind=set var=2 op=sub a=v1 b=v0 to=4"
    ∷ "node=4 kind=out var=2 to=5"
    ∷ "node=5 kind=return"
    ∷ [])
    ("trap=1 form=closed"
    ∷ "tasks=1 procs=1 sems=0 queues=0"
    ∷ "task=0 top=0"
    ∷ "proc=0 params=0 vars=3 nodes=6 drop=none"
    ∷ "node=0 kind=start to=4"
    ∷ "node=4 kind=out var=- to=5"
    ∷ "node=5 kind=return"
    ∷ [])

-- a read v0 set to 0 is clean
abbrev pub p6 : Example
p6 =
    closes
    ("trap=1 form=open"
    ∷ "tasks=1 procs=1 sems=0 queues=0"
    ∷ "task=0 top=0"
    ∷ "proc=0 params=0 vars=1 nodes=5"
    ∷ "node=0 kind=start to=1"
    ∷ "node=1 kind=read var=0 to=2"
    ∷ "node=2 kind=set var=0 op=add a=0 b=0 to=3"
    ∷ "node=3 kind=out var=0 to=4"
    ∷ "node=4 kind=return"
    ∷ [])
    ("trap=1 form=closed"
    ∷ "tasks=1 procs=1 sems=0 queues=0"
    ∷ "task=0 top=0"
    ∷ "proc=0 params=0 vars=1 nodes=5 drop=none"
    ∷ "node=0 kind=start to=2"
    ∷ "node=2 kind=set var=0 op=add a=0 b=0 to=3"
    ∷ "node=3 kind=out var=0 to=4"
    ∷ "node=4 kind=return"
    ∷ [])

-- start to a read, then a test of it whose arms reach only those two: `to=none`
abbrev pub p7 : Example
p7 =
    closes
    ("trap=1 form=open"
    ∷ "tasks=1 procs=1 sems=0 queues=0"
    ∷ "task=0 top=0"
    ∷ "proc=0 params=0 vars=1 nodes=3"
    ∷ "node=0 kind=start to=1"
    ∷ "node=1 kind=read var=0 to=2"
    ∷ "node=2 kind=test op=eq a=v0 b=0 yes=1 no=2"
    ∷ [])
    ("trap=1 form=closed"
    ∷ "tasks=1 procs=1 sems=0 queues=0"
    ∷ "task=0 top=0"
    ∷ "proc=0 params=0 vars=1 nodes=3 drop=none"
    ∷ "node=0 kind=start to=none"
    ∷ [])

-- one dirty and one constant caller: both args `-`
abbrev pub p8 : Example
p8 =
    closes
    ("trap=1 form=open"
    ∷ "tasks=1 procs=2 sems=0 queues=0"
    ∷ "task=0 top=0"
    ∷ "proc=0 params=0 vars=2 nodes=6"
    ∷ "node=0 kind=start to=1"
    ∷ "node=1 kind=read var=0 to=2"
    ∷ "node=2 kind=call proc=1 args=0 to=3"
    ∷ "node=3 kind=set var=1 op=add a=5 b=0 to=4"
    ∷ "node=4 kind=call proc=1 args=1 to=5"
    ∷ "node=5 kind=return"
    ∷ "proc=1 params=1 vars=1 nodes=3"
    ∷ "node=0 kind=start to=1"
    ∷ "node=1 kind=out var=0 to=2"
    ∷ "node=2 kind=return"
    ∷ [])
    ("trap=1 form=closed"
    ∷ "tasks=1 procs=2 sems=0 queues=0"
    ∷ "task=0 top=0"
    ∷ "proc=0 params=0 vars=2 nodes=6 drop=none"
    ∷ "node=0 kind=start to=2"
    ∷ "node=2 kind=call proc=1 args=- to=3"
    ∷ "node=3 kind=set var=1 op=add a=5 b=0 to=4"
    ∷ "node=4 kind=call proc=1 args=- to=5"
    ∷ "node=5 kind=return"
    ∷ "proc=1 params=1 vars=1 nodes=3 drop=0"
    ∷ "node=0 kind=start to=1"
    ∷ "node=1 kind=out var=- to=2"
    ∷ "node=2 kind=return"
    ∷ [])

abbrev pub examples : List Example
examples = p1 ∷ p2 ∷ p3 ∷ p4 ∷ p5 ∷ p6 ∷ p7 ∷ p8 ∷ []

pub examples_hold : AllHold examples
unfolding computing
examples_hold = (refl, (refl, (refl, (refl, (refl, (refl, (refl, (refl, tt))))))))
