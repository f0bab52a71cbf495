-- An arc taken, as the code answers.
use Rattle.std.specs.Prelude.{ℕ, ◌+◌, List, [], ◌∷◌, ℤ, pos, negsuc, slice_get, Option, Some, None, Result, Ok, Err}
use Rattle.table.specs.Mask.{pick, bit, members}
use Rattle.tosses.specs.declared.Stop.{Stop}
use Rattle.tosses.specs.declared.Stop.TheVariants.{ValuesSpent, BadToss}
use Rattle.tosses.specs.declared.Target.{Target}
use Rattle.tosses.specs.declared.Target.TheVariants.{Nowhere, Kept, Dropped}

-- a node is met
abbrev pub meeting : ℕ → ℕ → Target
meeting keep j = pick (bit j keep) (Kept j) (Dropped j)

-- the target that a value chooses
abbrev pub target_at : List ℕ → ℤ → Option ℕ
target_at ms (pos i) = slice_get ms i
target_at ms (negsuc i) = None

-- a toss that chooses a target, or none
abbrev pub chosen : ℕ → ℕ → Option ℕ → Result (Target × ℕ) Stop
chosen keep used None = Err BadToss
chosen keep used (Some j) = Ok (meeting keep j, used)

-- a toss among targets, by the next value
abbrev pub tossed : List ℕ → ℕ → ℕ → Option ℤ → Result (Target × ℕ) Stop
tossed ms keep used None = Err ValuesSpent
tossed ms keep used (Some x) = chosen keep (used + 1) (target_at ms x)

-- "One target: a plain arc. Two or more: a toss .. None: `none`."
abbrev pub arrived_among : List ℕ → ℕ → List ℤ → ℕ → Result (Target × ℕ) Stop
arrived_among [] keep vs used = Ok (Nowhere, used)
arrived_among (j ∷ []) keep vs used = Ok (meeting keep j, used)
arrived_among (j ∷ k ∷ ms) keep vs used = tossed (j ∷ k ∷ ms) keep used (slice_get vs used)

-- an arc taken, `used` values being used
abbrev pub arrived_of : ℕ → ℕ → List ℤ → ℕ → Result (Target × ℕ) Stop
arrived_of arc keep vs used = arrived_among (members arc) keep vs used

-- the kept node that an arc leads straight to: its one target, if that is kept; else 0
abbrev pub one_kept : ℕ → List ℕ → ℕ
one_kept keep [] = 0
one_kept keep (j ∷ []) = pick (bit j keep) j 0
one_kept keep (j ∷ k ∷ l) = 0

abbrev pub straight_of : ℕ → ℕ → ℕ
straight_of arc keep = one_kept keep (members arc)
