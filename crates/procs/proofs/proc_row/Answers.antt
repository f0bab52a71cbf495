use Rattle.std.proofs.Common.{◌≡◌, rules, refl, Ok}
use Rattle.procs.specs.ProcLaws.{row_refused, row_is, row_stop, head_within, scope_fits, head_nodes}
use Rattle.procs.proofs.proc_row.Goals as goal

pub returns-in_err-head : goal.returns-in_err-head
returns-in_err-head c = row_refused c.args.counts c.next_proc.ensures (search rules)

pub node_rows-requires : goal.node_rows-requires
node_rows-requires c =
    let q : c.next_proc.result ≡ Ok (c.in_ok-head.head, c.in_ok-head.e) = search rules in
    let m = rw q at c.next_proc.ensures in
    (head_within m, scope_fits m c.requires.1, head_nodes m, search rules, refl)

pub returns-in_err-reached : goal.returns-in_err-reached
returns-in_err-reached c =
    let q : c.next_proc.result ≡ Ok (c.in_ok-head.head, c.in_ok-head.e) = search rules in
    row_stop (rw q at c.next_proc.ensures) c.args.counts c.args.line c.in_err-reached.ensures c.from_residual-in_err-reached.ensures.1

pub returns : goal.returns
returns c =
    let q : c.next_proc.result ≡ Ok (c.in_ok-head.head, c.in_ok-head.e) = search rules in
    row_is (rw q at c.next_proc.ensures) c.args.counts c.args.line c.in_ok-reached.ensures
