use Rattle.std.proofs.Common.{refl, arith}
use Rattle.labels.specs.Label.{node_says}
use Rattle.node_lines.specs.NodeLineLaws.{few_call}
use Rattle.labels.proofs.put_says.Goals as goal

pub put_call-requires : goal.put_call-requires
put_call-requires c = (omega arith, few_call c.in-Call.is c.requires.1)

pub returns-in-Absent : goal.returns-in-Absent
unfolding node_says
returns-in-Absent c = rw c.in-Absent.is (record { few = omega arith; bytes = refl; same = refl; next = omega arith })

pub returns-in-Start : goal.returns-in-Start
unfolding node_says
returns-in-Start c = rw c.in-Start.is c.put_word.ensures

pub returns-in-Set : goal.returns-in-Set
unfolding node_says
returns-in-Set c = rw c.in-Set.is c.put_set.ensures

pub returns-in-Test : goal.returns-in-Test
unfolding node_says
returns-in-Test c = rw c.in-Test.is c.put_test.ensures

pub returns-in-Read : goal.returns-in-Read
unfolding node_says
returns-in-Read c = rw c.in-Read.is c.put_number.ensures

pub returns-in-Call : goal.returns-in-Call
unfolding node_says
returns-in-Call c = rw c.in-Call.is c.put_call.ensures

pub returns-in-Wait : goal.returns-in-Wait
unfolding node_says
returns-in-Wait c = rw c.in-Wait.is c.put_number-in-Wait.ensures

pub returns-in-Signal : goal.returns-in-Signal
unfolding node_says
returns-in-Signal c = rw c.in-Signal.is c.put_number-in-Signal.ensures

pub returns-in-Send : goal.returns-in-Send
unfolding node_says
returns-in-Send c = rw c.in-Send.is c.put_pass.ensures

pub returns-in-Recv : goal.returns-in-Recv
unfolding node_says
returns-in-Recv c = rw c.in-Recv.is c.put_pass-in-Recv.ensures

pub returns-in-Assert : goal.returns-in-Assert
unfolding node_says
returns-in-Assert c = rw c.in-Assert.is c.put_use.ensures

pub returns-in-Out : goal.returns-in-Out
unfolding node_says
returns-in-Out c = rw c.in-Out.is c.put_use-in-Out.ensures

pub returns-in-Return : goal.returns-in-Return
unfolding node_says
returns-in-Return c = rw c.in-Return.is c.put_word-in-Return.ensures
