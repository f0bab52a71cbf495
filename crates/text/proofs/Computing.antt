-- `unfolding computing` opens every definition, of this crate and below, that an example computes with.
use Rattle.std.specs.Prelude.{ℕ}
use Rattle.table.specs.Computing as Below
use Rattle.text.specs.Number.{digits_in, digits, all_digits, spelt, value_from, value}
use Rattle.text.specs.Fault.{number}
use Rattle.text.specs.Value.{same, named, said_operand, commas, split, each, spell, said, unsaid, ascends, check}
use Rattle.text.specs.Line.{write, after, run, field_of, line, line_fault}
use Rattle.text.specs.Format.{elem, node_of, describe}
use Rattle.text.specs.Reader.{rows, further_nodes, body, table, all_below, concat_from, late, first_late, read_lines, read}
use Rattle.text.specs.Writer.{text, every, tidy, fault, write_to}

unfoldable pub computing : ℕ
unfolding Below.computing digits_in digits all_digits spelt value_from value number same named said_operand commas split each spell said unsaid ascends every check write after run field_of line line_fault elem node_of describe rows further_nodes body table all_below concat_from late first_late read_lines read text tidy fault write_to
computing = 0
