-- `bufshani::explore_checked` answers with a table's fault, with 9 or 17, or explores a table that has none of them.
use Rattle.std.proofs.Common.{arith, sym, ◌∙◌}
use Rattle.exploring.proofs.RefusalLaws.{refused_fault, refused_open, refused_deep, explore_refused}
use Rattle.bufshani.specs.Check.{fault_number, no_fault, not_zero}
use Rattle.bufshani.proofs.explore_checked.Goals as goal

pub returns-in-Err : goal.returns-in-Err
returns-in-Err c = let h = not_zero c.in-Err.f c.number.ensures in
    c.refused.ensures ∙ explore_refused c.args.t c.args.depth c.args.bound c.number.result (refused_fault c.args.t c.args.depth c.number.result (sym (fault_number c.args.t c.requires c.in-Err.is c.number.ensures)) h) h

pub returns-then-depth-gt24 : goal.returns-then-depth-gt24
returns-then-depth-gt24 c = let sound = sym (no_fault c.args.t c.requires c.in_default.is) in
    c.refused-then-depth-gt24.ensures ∙ explore_refused c.args.t c.args.depth c.args.bound 17
    (refused_deep c.args.t c.args.depth sound c.if-t.true c.if-depth-gt24.true) (λ e. omega arith)

pub returns : goal.returns
returns c = let sound = sym (no_fault c.args.t c.requires c.in_default.is) in
    c.refused-2.ensures ∙ explore_refused c.args.t c.args.depth c.args.bound 9 (refused_open c.args.t c.args.depth sound c.if-t.false) (λ e. omega arith)

pub explore_ready-requires : goal.explore_ready-requires
explore_ready-requires c = record { sound = sym (no_fault c.args.t c.requires c.in_default.is); closed = c.if-t.true; shallow = c.if-depth-gt24.false }
