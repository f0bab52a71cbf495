-- Every fault has a number from 1 to 20.
use Rattle.std.specs.Prelude.{◌≤◌}
use Rattle.std.proofs.Common.{arith}
use Rattle.text.specs.declared.Fault.{Fault}
use Rattle.text.specs.declared.Fault.TheVariants.{Long, Form, Misspelt, Ended, Range, Index, Reference, Arguments, Unclosed, Unused, Short}
use Rattle.text.specs.Fault.{number}

pub number_range : (f : Fault) → (1 ≤ number f) × (number f ≤ 20)
unfolding number
number_range Long = (omega arith, omega arith)
number_range Form = (omega arith, omega arith)
number_range Misspelt = (omega arith, omega arith)
number_range Ended = (omega arith, omega arith)
number_range Range = (omega arith, omega arith)
number_range Index = (omega arith, omega arith)
number_range Reference = (omega arith, omega arith)
number_range Arguments = (omega arith, omega arith)
number_range Unclosed = (omega arith, omega arith)
number_range Unused = (omega arith, omega arith)
number_range Short = (omega arith, omega arith)
