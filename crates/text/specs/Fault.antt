-- The number of each fault, document 01's and from 19 on document 02's (Change 2: "Number 2 stays for a wrong key, key order, kind, other word or spacing, and for an
-- unused place", "19 for a misspelt number, operand or list, one out of order included", "20 for text that ends early or carries on after its last line").
use Rattle.std.specs.Prelude.{ℕ}
use Rattle.text.specs.declared.Fault.{Fault}
use Rattle.text.specs.declared.Fault.TheVariants.{Long, Form, Misspelt, Ended, Range, Index, Reference, Arguments, Unclosed, Unused, Short}

unfoldable pub number : Fault → ℕ
number Long = 1
number Form = 2
number Misspelt = 19
number Ended = 20
number Range = 3
number Index = 4
number Reference = 5
number Arguments = 6
number Unclosed = 7
number Unused = 2
number Short = 8
