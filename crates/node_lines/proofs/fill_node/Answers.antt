use Rattle.std.proofs.Common.{arith}
use Rattle.node_lines.specs.NodeLineLaws.{few_call, node_none, node_start, node_set, node_test, node_read, node_call, node_wait, node_signal, node_send, node_recv, node_assert, node_out, node_return}
use Rattle.node_lines.proofs.fill_node.Goals as goal

pub fill_call-requires : goal.fill_call-requires
fill_call-requires c = (omega arith, few_call c.in-Call.is c.requires.1)

pub returns-in-Absent : goal.returns-in-Absent
returns-in-Absent c = rw c.in-Absent.is (node_none _)

pub returns-in-Start : goal.returns-in-Start
returns-in-Start c = rw (c.in-Start.is, node_start) c.fill_start.ensures

pub returns-in-Set : goal.returns-in-Set
returns-in-Set c = rw (c.in-Set.is, node_set) c.fill_set.ensures

pub returns-in-Test : goal.returns-in-Test
returns-in-Test c = rw (c.in-Test.is, node_test) c.fill_test.ensures

pub returns-in-Read : goal.returns-in-Read
returns-in-Read c = rw (c.in-Read.is, node_read) c.fill_number_node.ensures

pub returns-in-Call : goal.returns-in-Call
returns-in-Call c = rw (c.in-Call.is, node_call) c.fill_call.ensures

pub returns-in-Wait : goal.returns-in-Wait
returns-in-Wait c = rw (c.in-Wait.is, node_wait) c.fill_number_node-in-Wait.ensures

pub returns-in-Signal : goal.returns-in-Signal
returns-in-Signal c = rw (c.in-Signal.is, node_signal) c.fill_number_node-in-Signal.ensures

pub returns-in-Send : goal.returns-in-Send
returns-in-Send c = rw (c.in-Send.is, node_send) c.fill_pass.ensures

pub returns-in-Recv : goal.returns-in-Recv
returns-in-Recv c = rw (c.in-Recv.is, node_recv) c.fill_pass-in-Recv.ensures

pub returns-in-Assert : goal.returns-in-Assert
returns-in-Assert c = rw (c.in-Assert.is, node_assert) c.fill_variable_node.ensures

pub returns-in-Out : goal.returns-in-Out
returns-in-Out c = rw (c.in-Out.is, node_out) c.fill_variable_node-in-Out.ensures

pub returns-in-Return : goal.returns-in-Return
returns-in-Return c = rw (c.in-Return.is, node_return) c.fill_return.ensures
