use Rattle.std.proofs.Common.{refl, sym, ◌∙◌}
use Rattle.text.proofs.ShapeLaws.{shaped}
use Rattle.analysis.specs.ReadyLaws.{ready}
use Rattle.closed_text.specs.CloseLaws.{close_faulty, close_closed, close_open}
use Rattle.bufshani.specs.Check.{fault_number, no_fault, not_zero}
use Rattle.bufshani.proofs.close_checked.Goals as goal

pub returns-in-Err : goal.returns-in-Err
returns-in-Err c = c.refused.ensures ∙ close_faulty c.args.t _ (fault_number c.args.t c.requires c.in-Err.is c.number.ensures) (not_zero c.in-Err.f c.number.ensures)

pub returns-then-t : goal.returns-then-t
returns-then-t c = c.refused-then-t.ensures ∙ close_closed c.args.t 0 (no_fault c.args.t c.requires c.in_default.is) refl c.if-t.true

pub closed_table-table-requires : goal.closed_table-table-requires
closed_table-table-requires c = ready c.args.t (shaped c.args.t (_, c.well_formed.0)) (sym (no_fault c.args.t c.requires c.in_default.is)) c.if-t.false

pub returns : goal.returns
returns c = close_open c.args.t c.closed_table-table.result 0 (no_fault c.args.t c.requires c.in_default.is) refl c.if-t.false c.closed_table-table.ensures
