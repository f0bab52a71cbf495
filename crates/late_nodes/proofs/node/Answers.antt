use Rattle.std.proofs.Common.{refl, inl, inr}
use Rattle.table.specs.Table.{parts}
use Rattle.checks.specs.Judging.{judged_first, judged_then}
use Rattle.late_nodes.specs.Terms.{node_fault_by}
use Rattle.late_nodes.specs.Steps.{node_is}
use Rattle.late_nodes.proofs.node.Goals as goal

pub returns-in-Absent : goal.returns-in-Absent
unfolding node_fault_by parts
returns-in-Absent c = elim c.in-Absent.is [ inl e ↦ node_is _ _ e refl | inr e ↦ node_is _ _ e refl ]

pub returns-in-Start : goal.returns-in-Start
unfolding node_fault_by parts
returns-in-Start c =
    let h = c.arc-in-Start.ensures in
    elim c.in-Start.is [
      | inl e ↦ node_is _ _ e h
      | inr k ↦ elim k [
        | inl q ↦ node_is _ _ q.4 h
        | inr k ↦ elim k [
          | inl q ↦ node_is _ _ q.1 h
          | inr k ↦ elim k [
            | inl q ↦ node_is _ _ q.1 h
            | inr k ↦ elim k [ inl q ↦ node_is _ _ q.1 h | inr k ↦ elim k [ inl q ↦ node_is _ _ q.1 h | inr q ↦ node_is _ _ q.1 h ] ]
          ]
        ]
      ]
    ]

pub returns-in-Send : goal.returns-in-Send
unfolding node_fault_by parts
returns-in-Send c = elim c.in-Send.is [ inl e ↦ node_is _ _ e c.transfer.ensures | inr e ↦ node_is _ _ e c.transfer.ensures ]

pub returns-in-Call : goal.returns-in-Call
unfolding node_fault_by parts
returns-in-Call c = node_is _ _ c.in-Call.is c.call.ensures

pub returns-in_err-arc-in-Test : goal.returns-in_err-arc-in-Test
unfolding node_fault_by parts
returns-in_err-arc-in-Test c = node_is _ _ c.in-Test.is (judged_first _ _ c.in_err-arc-in-Test.ensures c.from_residual.ensures.1)

pub returns-in_ok-arc-in-Test : goal.returns-in_ok-arc-in-Test
unfolding node_fault_by parts
returns-in_ok-arc-in-Test c = node_is _ _ c.in-Test.is (judged_then _ _ c.in_ok-arc-in-Test.ensures c.arc-in-Test.ensures)
