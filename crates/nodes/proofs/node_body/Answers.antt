use Rattle.nodes.specs.NodeLaws.{body_of}
use Rattle.nodes.proofs.node_body.Goals as goal

pub returns-in-Start : goal.returns-in-Start
returns-in-Start c = body_of c.in-Start.is c.start_node.ensures

pub returns-in-Set : goal.returns-in-Set
returns-in-Set c = body_of c.in-Set.is c.set_node.ensures

pub returns-in-Test : goal.returns-in-Test
returns-in-Test c = body_of c.in-Test.is c.test_node.ensures

pub returns-in-Read : goal.returns-in-Read
returns-in-Read c = body_of c.in-Read.is c.read_node.ensures

pub returns-in-Call : goal.returns-in-Call
returns-in-Call c = body_of c.in-Call.is c.call_node.ensures

pub returns-in-Wait : goal.returns-in-Wait
returns-in-Wait c = body_of c.in-Wait.is c.wait_node.ensures

pub returns-in-Signal : goal.returns-in-Signal
returns-in-Signal c = body_of c.in-Signal.is c.signal_node.ensures

pub returns-in-Send : goal.returns-in-Send
returns-in-Send c = body_of c.in-Send.is c.send_node.ensures

pub returns-in-Recv : goal.returns-in-Recv
returns-in-Recv c = body_of c.in-Recv.is c.recv_node.ensures

pub returns-in-Assert : goal.returns-in-Assert
returns-in-Assert c = body_of c.in-Assert.is c.assert_node.ensures

pub returns-in-Out : goal.returns-in-Out
returns-in-Out c = body_of c.in-Out.is c.out_node.ensures

pub returns-in-Return : goal.returns-in-Return
returns-in-Return c = body_of c.in-Return.is c.return_node.ensures
