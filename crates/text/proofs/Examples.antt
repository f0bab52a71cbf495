-- Document 02, Change 2, at examples: which of 2, 19 and 20 a text gets, and at which line; and a hand-made table.
use Rattle.std.specs.Prelude.{ℕ, ◌<◌, ◌≡◌, refl, List, [], ◌∷◌, ◌++◌, length, set}
use Prim.Native.String.{String}
use Rattle.std.proofs.Common.{lt-ltb}
use Rattle.table.specs.Table.{no_table, proc_at}
use Rattle.table.specs.declared.Node.{Node}
use Rattle.table.specs.declared.Node.TheVariants.{Absent, Read, Out}
use Rattle.table.specs.declared.Proc.{Proc}
use Rattle.text.specs.Number.{bytes}
use Rattle.text.specs.Fault.{number}
use Rattle.text.specs.Reader.{read}
use Rattle.text.specs.Writer.{fault}
use Rattle.text.specs.Cut.{with_proc}
use Rattle.text.proofs.Computing.{computing}

pub data Example : Type 0 where
  -- some lines, each ended by LF, and then some bytes get a number at a line
  gets : List String → String → ℕ → ℕ → Example
  -- the table of some lines with another node at a place has a fault
  changed : List String → (p n : ℕ) → Node → ℕ → Example

abbrev pub joined : List String → String → List ℕ
joined [] rest = bytes rest
joined (s ∷ ss) rest = bytes s ++ (10 ∷ joined ss rest)

abbrev pub with_node : Proc → ℕ → Node → Proc
with_node q n x = record { params = q.params; vars = q.vars; nodes = q.nodes; drop = q.drop; slots = set q.slots n (record { node = x }) }

abbrev pub Holds : Example → Type 0
Holds (gets ss rest n l) = let r = read (joined ss rest) in (r.number ≡ n) × (r.line ≡ l)
Holds (changed ss p n x f) = let t = (read (joined ss "")).table in fault (with_proc t p (with_node (proc_at t p) n x)) ≡ f

abbrev pub AllHold : List Example → Type 0
AllHold [] = Unit {0}
AllHold (e ∷ es) = Holds e × AllHold es

-- ---- texts up to where a fault stands

-- an open table before its node 1, and with all its lines
abbrev open_lines : List String → List String
open_lines ss =
    "trap=1 form=open"
    ∷ "tasks=1 procs=1 sems=1 queues=1"
    ∷ "task=0 top=0"
    ∷ "sem=0 count=0"
    ∷ "queue=0 cap=1"
    ∷ "proc=0 params=0 vars=3 nodes=3"
    ∷ "node=0 kind=start to=1"
    ∷ ss

abbrev whole_lines : List String → List String
whole_lines ss = open_lines ("node=1 kind=read var=0 to=2" ∷ "node=2 kind=return" ∷ ss)

-- a closed table before its second procedure, and before the third node of that
abbrev closed_lines : List String → List String
closed_lines ss =
    "trap=1 form=closed"
    ∷ "tasks=1 procs=2 sems=0 queues=1"
    ∷ "task=0 top=0"
    ∷ "queue=0 cap=1 blank=no"
    ∷ "proc=0 params=0 vars=3 nodes=3 drop=none"
    ∷ "node=0 kind=start to=1"
    ∷ "node=1 kind=return"
    ∷ ss

abbrev last_lines : List String → List String
last_lines ss = closed_lines ("proc=1 params=0 vars=1 nodes=3 drop=none" ∷ "node=0 kind=start to=1" ∷ "node=1 kind=return" ∷ ss)

-- a line where node 1 of the one is due, and one where the second procedure of the other may stand
abbrev in_open : String → ℕ → Example
in_open line n = gets (open_lines (line ∷ [])) "" n 8

abbrev in_closed : String → ℕ → Example
in_closed line n = gets (closed_lines (line ∷ [])) "" n 8

-- an open table of two procedures
abbrev two_lines : List String
two_lines =
    "trap=1 form=open"
    ∷ "tasks=1 procs=2 sems=0 queues=0"
    ∷ "task=0 top=0"
    ∷ "proc=0 params=0 vars=1 nodes=3"
    ∷ "node=0 kind=start to=1"
    ∷ "node=1 kind=out var=0 to=2"
    ∷ "node=2 kind=return"
    ∷ "proc=1 params=0 vars=1 nodes=3"
    ∷ "node=0 kind=start to=1"
    ∷ "node=1 kind=out var=0 to=2"
    ∷ "node=2 kind=return"
    ∷ []

-- a wrong word, key, order or spacing
abbrev pub wrong_words : List Example
wrong_words =
    in_open "node=1 kind=set var=0 op=mul a=v0 b=1 to=2" 2
    ∷ in_open "node=1 kind=test op=add a=v0 b=1 yes=2 no=2" 2
    ∷ in_open "node=1 kind=test op=sub a=v0 b=1 yes=2 no=2" 2
    ∷ in_open "node=1 kind=test op=and a=v0 b=1 yes=2 no=2" 2
    ∷ in_open "node=1 kind=test op=or a=v0 b=1 yes=2 no=2" 2
    ∷ in_open "node=1 kind=test op=xor a=v0 b=1 yes=2 no=2" 2
    ∷ in_open "node=1 kind=test op=shr a=v0 b=1 yes=2 no=2" 2
    ∷ in_open "node=1 kind=jump to=2" 2
    ∷ in_open "node=1  kind=read var=0 to=2" 2
    ∷ in_open "node=1 kind=read to=2 var=0" 2
    ∷ in_open "proc=1 params=0 vars=0 nodes=2" 2
    ∷ in_open "node=1 kind=return\r" 2
    ∷ in_closed "node=2 kind=read var=0 to=1" 2
    ∷ in_closed "node=2 kind=return " 2
    ∷ gets ("trap=1 form=Open" ∷ []) "" 2 1
    ∷ gets ("trap=1 form=closed" ∷ "tasks=1 procs=2 sems=0 queues=1" ∷ "task=0 top=0" ∷ "queue=0 cap=1 blank=maybe" ∷ []) "" 2 4
    ∷ gets ("" ∷ []) "" 2 1
    ∷ []

-- a misspelt number, operand or list
abbrev pub misspelt : List Example
misspelt =
    gets ("trap=01 form=open" ∷ []) "" 19 1
    ∷ gets ("trap= form=open" ∷ []) "" 19 1
    ∷ in_open "node=x kind=return" 19
    ∷ in_open "node=1 kind=read var=v0 to=2" 19
    ∷ in_open "node=1 kind=out var=v0 to=2" 19
    ∷ in_open "node=1 kind=out var= to=2" 19
    ∷ in_open "node=1 kind=out var=- to=2" 19
    ∷ in_open "node=1 kind=set var=0 op=add a=V0 b=1 to=2" 19
    ∷ in_open "node=1 kind=set var=0 op=add a=-0 b=1 to=2" 19
    ∷ in_open "node=1 kind=set var=0 op=add a=- b=1 to=2" 19
    ∷ in_open "node=1 kind=out var=0 to=1,2" 19
    ∷ in_open "node=1 kind=out var=0 to=none" 19
    ∷ in_open "node=1 kind=out var=0 to=2\r" 19
    ∷ in_open "node=1 kind=call proc=0 args=x to=2" 19
    ∷ in_open "node=1 kind=call proc=0 args=- to=2" 19
    ∷ in_closed "node=2 kind=set var=- op=add a=v0 b=1 to=1" 19
    ∷ in_closed "node=2 kind=out var=0 to=2,1" 19
    ∷ in_closed "node=2 kind=out var=0 to=1,1" 19
    ∷ in_closed "node=2 kind=out var=0 to=1," 19
    ∷ in_closed "node=2 kind=out var=0 to=none,1" 19
    ∷ in_closed "proc=1 params=1 vars=1 nodes=3 drop=nono" 19
    ∷ []

-- the other faults, and a list's order before any item's 5
abbrev pub other_faults : List Example
other_faults =
    in_closed "node=2 kind=out var=0 to=40,3" 19
    ∷ in_closed "node=2 kind=out var=0 to=1,40" 5
    ∷ in_open "node=1 kind=call proc=0 args=9 to=2" 5
    ∷ gets ("trap=1 form=open" ∷ "tasks=9 procs=1 sems=0 queues=0" ∷ []) "" 3 2
    ∷ in_open "node=2 kind=return" 4
    ∷ gets (open_lines ("node=1 kind=call proc=0 args=0 to=2" ∷ "node=2 kind=return" ∷ [])) "" 6 8
    ∷ gets (closed_lines ("proc=1 params=0 vars=1 nodes=3 drop=none" ∷ "node=0 kind=start to=2" ∷ [])) "" 7 9
    ∷ []

-- the text ends where more is due
abbrev pub early_ends : List Example
early_ends =
    gets [] "" 20 1
    ∷ gets (open_lines []) "" 20 8
    ∷ gets (open_lines []) "no" 20 8
    ∷ gets (open_lines []) "node=1" 20 8
    ∷ gets (open_lines []) "node=1 ki" 20 8
    ∷ gets (open_lines []) "node=1 kx" 2 8
    ∷ gets (open_lines []) "node=1 kind=return" 20 8
    ∷ gets (closed_lines []) "" 20 8
    ∷ gets (closed_lines []) "nod" 20 8
    ∷ gets (closed_lines []) "nox" 2 8
    ∷ gets (closed_lines []) "pro" 20 8
    ∷ gets (closed_lines ("proc=1 params=0 vars=1 nodes=3 drop=none" ∷ [])) "" 20 9
    ∷ gets (closed_lines ("proc=1 params=0 vars=1 nodes=3 drop=none" ∷ [])) "x" 2 9
    ∷ []

-- a value that the text's end breaks off is not judged
abbrev pub broken_off : List Example
broken_off =
    gets ("trap=1 form=open" ∷ []) "tasks=x" 20 2
    ∷ gets ("trap=1 form=open" ∷ []) "tasks=x " 19 2
    ∷ gets ("trap=1 form=open" ∷ []) "tasks=9" 20 2
    ∷ gets ("trap=1 form=open" ∷ []) "tasks=9 " 3 2
    ∷ []

-- bytes after the last line; a further node line of a closed table is none
abbrev pub after_the_end : List Example
after_the_end =
    gets (whole_lines []) "" 0 0
    ∷ gets (whole_lines []) "x" 20 10
    ∷ gets (whole_lines ("node=3 kind=return" ∷ [])) "" 20 10
    ∷ gets (whole_lines ("" ∷ [])) "" 20 10
    ∷ gets (last_lines []) "" 0 0
    ∷ gets (last_lines []) "nox" 20 11
    ∷ gets (last_lines []) "nod" 20 11
    ∷ gets (last_lines []) "node=2 kind=ret" 20 11
    ∷ gets (last_lines ("node=2 kind=return" ∷ [])) "" 0 0
    ∷ []

-- a hand-made table: two targets or none in an open arc, `-` in an open table; a node that is missing inside a procedure, at the end of one that another
-- follows, at the end of the last; a place behind the nodes; in a closed table node 0 missing, and a `read`
abbrev pub hand_made : List Example
hand_made =
    changed two_lines 0 1 (Out 0 6) 19
    ∷ changed two_lines 0 1 (Out 0 0) 19
    ∷ changed two_lines 0 1 (Out 255 4) 19
    ∷ changed two_lines 0 1 Absent 4
    ∷ changed two_lines 0 2 Absent 2
    ∷ changed two_lines 1 2 Absent 20
    ∷ changed two_lines 1 3 (Out 0 4) 2
    ∷ changed (last_lines []) 0 0 Absent 4
    ∷ changed (last_lines []) 0 1 (Read 0 2) 2
    ∷ []

-- ---- they hold

-- "text over 65,536 bytes"; "1 gives line 0"
pub too_long : (s : List ℕ) → 65536 < length s → read s ≡ record { number = 1; line = 0; table = no_table }
unfolding read number
too_long s h = rw (lt-ltb 65536 (length s) h, read)

pub wrong_words_lem : AllHold wrong_words
unfolding computing
wrong_words_lem = ((refl, refl), ((refl, refl), ((refl, refl), ((refl, refl), ((refl, refl), ((refl, refl), ((refl, refl), ((refl, refl), ((refl, refl), ((refl, refl), ((refl, refl), ((refl, refl), ((refl, refl), ((refl, refl), ((refl, refl), ((refl, refl), ((refl, refl), tt)))))))))))))))))

pub misspelt_values : AllHold misspelt
unfolding computing
misspelt_values = ((refl, refl), ((refl, refl), ((refl, refl), ((refl, refl), ((refl, refl), ((refl, refl), ((refl, refl), ((refl, refl), ((refl, refl), ((refl, refl), ((refl, refl), ((refl, refl), ((refl, refl), ((refl, refl), ((refl, refl), ((refl, refl), ((refl, refl), ((refl, refl), ((refl, refl), ((refl, refl), ((refl, refl), tt)))))))))))))))))))))

pub other_faults_lem : AllHold other_faults
unfolding computing
other_faults_lem = ((refl, refl), ((refl, refl), ((refl, refl), ((refl, refl), ((refl, refl), ((refl, refl), ((refl, refl), tt)))))))

pub early_ends_lem : AllHold early_ends
unfolding computing
early_ends_lem = ((refl, refl), ((refl, refl), ((refl, refl), ((refl, refl), ((refl, refl), ((refl, refl), ((refl, refl), ((refl, refl), ((refl, refl), ((refl, refl), ((refl, refl), ((refl, refl), ((refl, refl), tt)))))))))))))

pub broken_off_lem : AllHold broken_off
unfolding computing
broken_off_lem = ((refl, refl), ((refl, refl), ((refl, refl), ((refl, refl), tt))))

pub after_the_end_lem : AllHold after_the_end
unfolding computing
after_the_end_lem = ((refl, refl), ((refl, refl), ((refl, refl), ((refl, refl), ((refl, refl), ((refl, refl), ((refl, refl), ((refl, refl), ((refl, refl), tt)))))))))

pub hand_made_lem : AllHold hand_made
unfolding computing
hand_made_lem = (refl, (refl, (refl, (refl, (refl, (refl, (refl, (refl, (refl, tt)))))))))
