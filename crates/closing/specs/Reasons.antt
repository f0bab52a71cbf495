-- What the programs say of a refusal, and of a run that stopped, on the standard error stream.
use Rattle.std.specs.Prelude.{ℕ, zero, suc, List, [], ◌∷◌, ◌++◌, get_or}
use Rattle.text.specs.Number.{bytes, digits}
use Rattle.text.specs.Value.{ValueKind, from}
use Rattle.text.specs.Line.{Line, end, field, Vals, Outcome, took, refused, line}

-- ---- what was found wrong, in words

-- by number: document 01's conditions, from 17 on those of document 02; 0 has none
abbrev pub reasons : List (List ℕ)
reasons =
    bytes ""
    ∷ bytes "the text is longer than 65,536 bytes"
    ∷ bytes "wrong key, key order, kind, other word or spacing"
    ∷ bytes "number outside its range"
    ∷ bytes "index is not the one due, node 0 is not a start, or a start stands elsewhere"
    ∷ bytes "reference to an undeclared item, or a target outside 1 to nodes-1"
    ∷ bytes "the call's argument count differs from the callee's params"
    ∷ bytes "in closed form: absent target, wrong `-`, or a top procedure's parameter is not dropped"
    ∷ bytes "the buffer is shorter than the text"
    ∷ bytes "the table has the wrong form: an open one can be closed, a closed one explored"
    ∷ bytes "no such task"
    ∷ bytes "fewer than 8 log bytes are left"
    ∷ bytes "the task is lost"
    ∷ bytes "the task is blocked"
    ∷ bytes "one dropped node more than allowed"
    ∷ bytes "the value list is spent"
    ∷ bytes "toss value below 0 or not below the arc's count of targets"
    ∷ bytes "the depth is over 24"
    ∷ bytes "one step more than the bound is needed before an answer"
    ∷ bytes "misspelt number, operand or list, or a list out of order"
    ∷ bytes "the text ends early, or carries on after its last line"
    ∷ []

unfoldable pub reason : ℕ → List ℕ
reason n = get_or reasons n []

-- `line L: ` or `step K: `
abbrev pub place : List ℕ → ℕ → List ℕ
place key n = key ++ (digits n ++ bytes ": ")

-- of a refusal: `line L: WORDS` and an LF, with no `line L: ` where L is 0
abbrev pub line_place : ℕ → List ℕ
line_place zero = []
line_place (suc l) = place (bytes "line ") (suc l)

abbrev pub reason_line : ℕ → ℕ → List ℕ
reason_line n l = line_place l ++ (reason n ++ (10 ∷ []))

-- of a run that stopped with k steps completed: `step K: WORDS` and an LF; nothing for stop 0
abbrev pub stop_line : ℕ → ℕ → List ℕ
stop_line k zero = []
stop_line k (suc n) = place (bytes "step ") k ++ (reason (suc n) ++ (10 ∷ []))

-- ---- the lines that are explained

-- a text has at most 65,536 bytes, a run of the programs at most 100,000 steps and values
abbrev pub count : ValueKind
count = from 0 999999

-- a number that has words
abbrev pub in_words : ValueKind
in_words = from 1 20

-- `refused=N line=L`
abbrev pub refusal_line : Line
refusal_line = field (bytes "refused=") in_words (λ n. field (bytes " line=") count (λ l. end))

-- `steps=S used=U stop=N`, the first line of the report of a run that stopped
abbrev pub stopped_line : Line
stopped_line = field (bytes "steps=") count (λ k. field (bytes " used=") count (λ u. field (bytes " stop=") in_words (λ n. end)))

abbrev pub of_stop : Outcome (Vals stopped_line) → List ℕ
of_stop (took w l s) = stop_line w.0 w.1.1.0
of_stop (refused f l) = []

abbrev pub of_refusal : Outcome (Vals refusal_line) → List ℕ → List ℕ
of_refusal (took w l s) stop = reason_line w.0 w.1.0
of_refusal (refused f l) stop = stop

-- what is said of a text that was printed: by its first line
unfoldable pub explained : List ℕ → List ℕ
explained s = of_refusal (line refusal_line 1 s) (of_stop (line stopped_line 1 s))

-- ---- what is said last, when all of a text was written

-- `written=N`: of a text of N bytes
abbrev pub written_line : ℕ → List ℕ
written_line n = bytes "written=" ++ (digits n ++ (10 ∷ []))
