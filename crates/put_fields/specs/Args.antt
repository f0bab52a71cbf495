-- How a call's arguments are written.
use Rattle.std.specs.Prelude.{ℕ, List, map}
use Rattle.table.specs.declared.Args.{Args}
use Rattle.text.specs.Value.{spell_variable, spell_list}
use Rattle.text.specs.Format.{arg_names}

abbrev pub args_text : Args → List ℕ
args_text x = spell_list (map spell_variable (arg_names x))
