use Rattle.checks.specs.Judging.{judged_first, judged_then}
use Rattle.checks.specs.NodeChecks.{absent_line, start_line, set_line, test_line, read_line, call_line, sem_line, queue_line, variable_line, return_line}
use Rattle.checks.proofs.line.Goals as goal

pub returns-in-Absent : goal.returns-in-Absent
returns-in-Absent c = absent_line _ _ c.in-Absent.is

pub returns-in_err-due-in-Start : goal.returns-in_err-due-in-Start
returns-in_err-due-in-Start c = start_line _ _ _ c.in-Start.is (judged_first _ _ c.in_err-due-in-Start.ensures c.from_residual.ensures.1)

pub returns-in_ok-due-in-Start : goal.returns-in_ok-due-in-Start
returns-in_ok-due-in-Start c = start_line _ _ _ c.in-Start.is (judged_then _ _ c.in_ok-due-in-Start.ensures c.targets.ensures)

pub returns-in_err-due-in-Set : goal.returns-in_err-due-in-Set
returns-in_err-due-in-Set c = set_line _ _ _ _ _ _ _ c.in-Set.is (judged_first _ _ c.in_err-due-in-Set.ensures c.from_residual-in_err-due-in-Set.ensures.1)

pub returns-in_err-reference-in-Set : goal.returns-in_err-reference-in-Set
returns-in_err-reference-in-Set c = set_line _ _ _ _ _ _ _ c.in-Set.is (judged_then _ _ c.in_ok-due-in-Set.ensures (judged_first _ _ c.in_err-reference-in-Set.ensures c.from_residual-in_err-reference-in-Set.ensures.1))

pub returns-in_err-operand-in-Set : goal.returns-in_err-operand-in-Set
returns-in_err-operand-in-Set c = set_line _ _ _ _ _ _ _ c.in-Set.is (judged_then _ _ c.in_ok-due-in-Set.ensures (judged_then _ _ c.in_ok-reference-in-Set.ensures (judged_first _ _ c.in_err-operand-in-Set.ensures c.from_residual-in_err-operand-in-Set.ensures.1)))

pub returns-in_err-operand-in-Set-2 : goal.returns-in_err-operand-in-Set-2
returns-in_err-operand-in-Set-2 c = set_line _ _ _ _ _ _ _ c.in-Set.is (judged_then _ _ c.in_ok-due-in-Set.ensures (judged_then _ _ c.in_ok-reference-in-Set.ensures (judged_then _ _ c.in_ok-operand-in-Set.ensures (judged_first _ _ c.in_err-operand-in-Set-2.ensures c.from_residual-in_err-operand-in-Set-2.ensures.1))))

pub returns-in_ok-operand-in-Set-2 : goal.returns-in_ok-operand-in-Set-2
returns-in_ok-operand-in-Set-2 c = set_line _ _ _ _ _ _ _ c.in-Set.is (judged_then _ _ c.in_ok-due-in-Set.ensures (judged_then _ _ c.in_ok-reference-in-Set.ensures (judged_then _ _ c.in_ok-operand-in-Set.ensures (judged_then _ _ c.in_ok-operand-in-Set-2.ensures c.targets-in-Set.ensures))))

pub returns-in_err-due-in-Test : goal.returns-in_err-due-in-Test
returns-in_err-due-in-Test c = test_line _ _ _ _ _ _ _ c.in-Test.is (judged_first _ _ c.in_err-due-in-Test.ensures c.from_residual-in_err-due-in-Test.ensures.1)

pub returns-in_err-compares-in-Test : goal.returns-in_err-compares-in-Test
returns-in_err-compares-in-Test c = test_line _ _ _ _ _ _ _ c.in-Test.is (judged_then _ _ c.in_ok-due-in-Test.ensures (judged_first _ _ c.in_err-compares-in-Test.ensures c.from_residual-in_err-compares-in-Test.ensures.1))

pub returns-in_err-operand-in-Test : goal.returns-in_err-operand-in-Test
returns-in_err-operand-in-Test c = test_line _ _ _ _ _ _ _ c.in-Test.is (judged_then _ _ c.in_ok-due-in-Test.ensures (judged_then _ _ c.in_ok-compares-in-Test.ensures (judged_first _ _ c.in_err-operand-in-Test.ensures c.from_residual-in_err-operand-in-Test.ensures.1)))

pub returns-in_err-operand-in-Test-2 : goal.returns-in_err-operand-in-Test-2
returns-in_err-operand-in-Test-2 c = test_line _ _ _ _ _ _ _ c.in-Test.is (judged_then _ _ c.in_ok-due-in-Test.ensures (judged_then _ _ c.in_ok-compares-in-Test.ensures (judged_then _ _ c.in_ok-operand-in-Test.ensures (judged_first _ _ c.in_err-operand-in-Test-2.ensures c.from_residual-in_err-operand-in-Test-2.ensures.1))))

pub returns-in_err-targets-in-Test : goal.returns-in_err-targets-in-Test
returns-in_err-targets-in-Test c = test_line _ _ _ _ _ _ _ c.in-Test.is (judged_then _ _ c.in_ok-due-in-Test.ensures (judged_then _ _ c.in_ok-compares-in-Test.ensures (judged_then _ _ c.in_ok-operand-in-Test.ensures (judged_then _ _ c.in_ok-operand-in-Test-2.ensures (judged_first _ _ c.in_err-targets-in-Test.ensures c.from_residual-in_err-targets-in-Test.ensures.1)))))

pub returns-in_ok-targets-in-Test : goal.returns-in_ok-targets-in-Test
returns-in_ok-targets-in-Test c = test_line _ _ _ _ _ _ _ c.in-Test.is (judged_then _ _ c.in_ok-due-in-Test.ensures (judged_then _ _ c.in_ok-compares-in-Test.ensures (judged_then _ _ c.in_ok-operand-in-Test.ensures (judged_then _ _ c.in_ok-operand-in-Test-2.ensures (judged_then _ _ c.in_ok-targets-in-Test.ensures c.targets-in-Test-2.ensures)))))

pub returns-in_err-reads-in-Read : goal.returns-in_err-reads-in-Read
returns-in_err-reads-in-Read c = read_line _ _ _ _ c.in-Read.is (judged_first _ _ c.in_err-reads-in-Read.ensures c.from_residual-in_err-reads-in-Read.ensures.1)

pub returns-in_err-reference-in-Read : goal.returns-in_err-reference-in-Read
returns-in_err-reference-in-Read c = read_line _ _ _ _ c.in-Read.is (judged_then _ _ c.in_ok-reads-in-Read.ensures (judged_first _ _ c.in_err-reference-in-Read.ensures c.from_residual-in_err-reference-in-Read.ensures.1))

pub returns-in_ok-reference-in-Read : goal.returns-in_ok-reference-in-Read
returns-in_ok-reference-in-Read c = read_line _ _ _ _ c.in-Read.is (judged_then _ _ c.in_ok-reads-in-Read.ensures (judged_then _ _ c.in_ok-reference-in-Read.ensures c.targets-in-Read.ensures))

pub returns-in_err-due-in-Call : goal.returns-in_err-due-in-Call
returns-in_err-due-in-Call c = call_line _ _ _ _ _ c.in-Call.is (judged_first _ _ c.in_err-due-in-Call.ensures c.from_residual-in_err-due-in-Call.ensures.1)

pub returns-in_err-reference-in-Call : goal.returns-in_err-reference-in-Call
returns-in_err-reference-in-Call c = call_line _ _ _ _ _ c.in-Call.is (judged_then _ _ c.in_ok-due-in-Call.ensures (judged_first _ _ c.in_err-reference-in-Call.ensures c.from_residual-in_err-reference-in-Call.ensures.1))

pub returns-in_err-arguments-in-Call : goal.returns-in_err-arguments-in-Call
returns-in_err-arguments-in-Call c = call_line _ _ _ _ _ c.in-Call.is (judged_then _ _ c.in_ok-due-in-Call.ensures (judged_then _ _ c.in_ok-reference-in-Call.ensures (judged_first _ _ c.in_err-arguments-in-Call.ensures c.from_residual-in_err-arguments-in-Call.ensures.1)))

pub returns-in_ok-arguments-in-Call : goal.returns-in_ok-arguments-in-Call
returns-in_ok-arguments-in-Call c = call_line _ _ _ _ _ c.in-Call.is (judged_then _ _ c.in_ok-due-in-Call.ensures (judged_then _ _ c.in_ok-reference-in-Call.ensures (judged_then _ _ c.in_ok-arguments-in-Call.ensures c.targets-in-Call.ensures)))

pub returns-in_err-due-in-Wait : goal.returns-in_err-due-in-Wait
returns-in_err-due-in-Wait c = sem_line _ _ _ _ c.in-Wait.is (judged_first _ _ c.in_err-due-in-Wait.ensures c.from_residual-in_err-due-in-Wait.ensures.1)

pub returns-in_err-reference-in-Wait : goal.returns-in_err-reference-in-Wait
returns-in_err-reference-in-Wait c = sem_line _ _ _ _ c.in-Wait.is (judged_then _ _ c.in_ok-due-in-Wait.ensures (judged_first _ _ c.in_err-reference-in-Wait.ensures c.from_residual-in_err-reference-in-Wait.ensures.1))

pub returns-in_ok-reference-in-Wait : goal.returns-in_ok-reference-in-Wait
returns-in_ok-reference-in-Wait c = sem_line _ _ _ _ c.in-Wait.is (judged_then _ _ c.in_ok-due-in-Wait.ensures (judged_then _ _ c.in_ok-reference-in-Wait.ensures c.targets-in-Wait.ensures))

pub returns-in_err-due-in-Send : goal.returns-in_err-due-in-Send
returns-in_err-due-in-Send c = queue_line _ _ _ _ _ c.in-Send.is (judged_first _ _ c.in_err-due-in-Send.ensures c.from_residual-in_err-due-in-Send.ensures.1)

pub returns-in_err-reference-in-Send : goal.returns-in_err-reference-in-Send
returns-in_err-reference-in-Send c = queue_line _ _ _ _ _ c.in-Send.is (judged_then _ _ c.in_ok-due-in-Send.ensures (judged_first _ _ c.in_err-reference-in-Send.ensures c.from_residual-in_err-reference-in-Send.ensures.1))

pub returns-in_err-variable-in-Send : goal.returns-in_err-variable-in-Send
returns-in_err-variable-in-Send c = queue_line _ _ _ _ _ c.in-Send.is (judged_then _ _ c.in_ok-due-in-Send.ensures (judged_then _ _ c.in_ok-reference-in-Send.ensures (judged_first _ _ c.in_err-variable-in-Send.ensures c.from_residual-in_err-variable-in-Send.ensures.1)))

pub returns-in_ok-variable-in-Send : goal.returns-in_ok-variable-in-Send
returns-in_ok-variable-in-Send c = queue_line _ _ _ _ _ c.in-Send.is (judged_then _ _ c.in_ok-due-in-Send.ensures (judged_then _ _ c.in_ok-reference-in-Send.ensures (judged_then _ _ c.in_ok-variable-in-Send.ensures c.targets-in-Send.ensures)))

pub returns-in_err-due-in-Assert : goal.returns-in_err-due-in-Assert
returns-in_err-due-in-Assert c = variable_line _ _ _ _ c.in-Assert.is (judged_first _ _ c.in_err-due-in-Assert.ensures c.from_residual-in_err-due-in-Assert.ensures.1)

pub returns-in_err-variable-in-Assert : goal.returns-in_err-variable-in-Assert
returns-in_err-variable-in-Assert c = variable_line _ _ _ _ c.in-Assert.is (judged_then _ _ c.in_ok-due-in-Assert.ensures (judged_first _ _ c.in_err-variable-in-Assert.ensures c.from_residual-in_err-variable-in-Assert.ensures.1))

pub returns-in_ok-variable-in-Assert : goal.returns-in_ok-variable-in-Assert
returns-in_ok-variable-in-Assert c = variable_line _ _ _ _ c.in-Assert.is (judged_then _ _ c.in_ok-due-in-Assert.ensures (judged_then _ _ c.in_ok-variable-in-Assert.ensures c.targets-in-Assert.ensures))

pub returns-in-Return : goal.returns-in-Return
returns-in-Return c = return_line _ _ c.in-Return.is c.due-in-Return.ensures
