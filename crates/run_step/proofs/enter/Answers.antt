-- The frame that a call opens: its arguments, and zeros.
use Rattle.std.proofs.Common.{arith}
use Rattle.run_step.proofs.Leaves.{entering_is, passed, beyond}
use Rattle.run_step.proofs.enter.Goals as goal

pub returns-then-len-eq0 : goal.returns-then-len-eq0
returns-then-len-eq0 c = let a = c.args in
    entering_is a.vars.now 0 (record { len = a.len; a0 = a.a0; a1 = a.a1; a2 = a.a2; a3 = a.a3 }) c.requires.1
    (beyond a.vars.now a.len 0 a.a0 (omega arith))
    (beyond a.vars.now a.len 1 a.a1 (omega arith))
    (beyond a.vars.now a.len 2 a.a2 (omega arith))
    (beyond a.vars.now a.len 3 a.a3 (omega arith))

pub returns-then-len-eq1 : goal.returns-then-len-eq1
returns-then-len-eq1 c = let a = c.args in
    entering_is a.vars.now 0 (record { len = a.len; a0 = a.a0; a1 = a.a1; a2 = a.a2; a3 = a.a3 }) c.requires.1
    (passed a.vars.now a.len 0 a.a0 c.var_at.result (record { sfits = c.var_at.type_inv }) (omega arith) c.var_at.ensures)
    (beyond a.vars.now a.len 1 a.a1 (omega arith))
    (beyond a.vars.now a.len 2 a.a2 (omega arith))
    (beyond a.vars.now a.len 3 a.a3 (omega arith))

pub returns-then-len-eq2 : goal.returns-then-len-eq2
returns-then-len-eq2 c = let a = c.args in
    entering_is a.vars.now 0 (record { len = a.len; a0 = a.a0; a1 = a.a1; a2 = a.a2; a3 = a.a3 }) c.requires.1
    (passed a.vars.now a.len 0 a.a0 c.var_at.result (record { sfits = c.var_at.type_inv }) (omega arith) c.var_at.ensures)
    (passed a.vars.now a.len 1 a.a1 c.var_at-2.result (record { sfits = c.var_at-2.type_inv }) (omega arith) c.var_at-2.ensures)
    (beyond a.vars.now a.len 2 a.a2 (omega arith))
    (beyond a.vars.now a.len 3 a.a3 (omega arith))

pub returns-then-len-eq3 : goal.returns-then-len-eq3
returns-then-len-eq3 c = let a = c.args in
    entering_is a.vars.now 0 (record { len = a.len; a0 = a.a0; a1 = a.a1; a2 = a.a2; a3 = a.a3 }) c.requires.1
    (passed a.vars.now a.len 0 a.a0 c.var_at.result (record { sfits = c.var_at.type_inv }) (omega arith) c.var_at.ensures)
    (passed a.vars.now a.len 1 a.a1 c.var_at-2.result (record { sfits = c.var_at-2.type_inv }) (omega arith) c.var_at-2.ensures)
    (passed a.vars.now a.len 2 a.a2 c.var_at-3.result (record { sfits = c.var_at-3.type_inv }) (omega arith) c.var_at-3.ensures)
    (beyond a.vars.now a.len 3 a.a3 (omega arith))

pub returns : goal.returns
returns c = let a = c.args in
    entering_is a.vars.now 0 (record { len = a.len; a0 = a.a0; a1 = a.a1; a2 = a.a2; a3 = a.a3 }) c.requires.1
    (passed a.vars.now a.len 0 a.a0 c.var_at.result (record { sfits = c.var_at.type_inv }) (omega arith) c.var_at.ensures)
    (passed a.vars.now a.len 1 a.a1 c.var_at-2.result (record { sfits = c.var_at-2.type_inv }) (omega arith) c.var_at-2.ensures)
    (passed a.vars.now a.len 2 a.a2 c.var_at-3.result (record { sfits = c.var_at-3.type_inv }) (omega arith) c.var_at-3.ensures)
    (passed a.vars.now a.len 3 a.a3 c.var_at-4.result (record { sfits = c.var_at-4.type_inv }) (omega arith) c.var_at-4.ensures)
