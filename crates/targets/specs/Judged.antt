-- What a check answers: nothing, or the fault that it found.
use Rattle.std.specs.Prelude.{Result, Ok, Err}
use Rattle.std.proofs.Math.Option.{Option, none, some}
use Rattle.text.specs.declared.Fault.{Fault}

abbrev pub judged : Option Fault → Result (Unit {0}) Fault
judged none = Ok tt
judged (some f) = Err f
