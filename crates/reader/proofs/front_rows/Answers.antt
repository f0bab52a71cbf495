-- `reader::front_rows` reads the lines before the procedures.
use Rattle.std.proofs.Common.{◌≡◌, rules, Ok}
use Rattle.reader.specs.ReaderLaws.{head_stop, head_place, counts_stop, counts_place, counts_fit, front_stop, front_end}
use Rattle.reader.proofs.front_rows.Goals as goal

pub returns-in_err-trap : goal.returns-in_err-trap
returns-in_err-trap c = head_stop c.next_head.ensures (search rules)

pub next_counts-requires : goal.next_counts-requires
next_counts-requires c =
    let q : c.next_head.result ≡ Ok ((c.in_ok-trap.trap, c.in_ok-trap.closed), c.in_ok-trap.a) = search rules in
    head_place c.next_head.ensures q

pub returns-in_err-counts : goal.returns-in_err-counts
returns-in_err-counts c =
    let q : c.next_head.result ≡ Ok ((c.in_ok-trap.trap, c.in_ok-trap.closed), c.in_ok-trap.a) = search rules in
    counts_stop c.next_head.ensures q c.next_counts.ensures (search rules)

pub object_rows-requires : goal.object_rows-requires
object_rows-requires c =
    let q : c.next_head.result ≡ Ok ((c.in_ok-trap.trap, c.in_ok-trap.closed), c.in_ok-trap.a) = search rules in
    let p : c.next_counts.result ≡ Ok (c.in_ok-counts.counts, c.in_ok-counts.b) = search rules in
    (counts_place c.next_head.ensures q c.next_counts.ensures p, counts_fit c.next_head.ensures q c.next_counts.ensures p, search rules)

pub returns-in_err-objects : goal.returns-in_err-objects
returns-in_err-objects c =
    let q : c.next_head.result ≡ Ok ((c.in_ok-trap.trap, c.in_ok-trap.closed), c.in_ok-trap.a) = search rules in
    let p : c.next_counts.result ≡ Ok (c.in_ok-counts.counts, c.in_ok-counts.b) = search rules in
    front_stop c.next_head.ensures q c.next_counts.ensures p c.in_err-objects.ensures c.from_residual-in_err-objects.ensures.1

pub returns : goal.returns
returns c =
    let q : c.next_head.result ≡ Ok ((c.in_ok-trap.trap, c.in_ok-trap.closed), c.in_ok-trap.a) = search rules in
    let p : c.next_counts.result ≡ Ok (c.in_ok-counts.counts, c.in_ok-counts.b) = search rules in
    front_end c.next_head.ensures q c.next_counts.ensures p c.in_ok-objects.ensures
