use Rattle.std.proofs.Common.{◌≡◌, rules, arith, Ok}
use Rattle.rows.specs.RowLaws.{rows_start, rows_turn, rows_refused, rows_end}
use Rattle.rows.proofs.rows.Goals as goal

pub loop-i-init : goal.loop-i-init
loop-i-init g c = record { place = search rules; lines = omega arith; rows = λ f h. rows_start }

pub returns-in_err-x : goal.returns-in_err-x
returns-in_err-x g c = λ f h.
    let o = c.loop-i.invariant in
    rows_refused (o.rows f h) c.loop-i-test.true (h _ _ _ o.place c.loop-i-test.true c.row.ensures) (omega arith) (search rules)

pub loop-i-preserved : goal.loop-i-preserved
loop-i-preserved g c =
    let o = c.loop-i.invariant in
    let q : c.row.result ≡ Ok (c.in_ok-x.x, c.in_ok-x.e) = search rules in
    record {
      place = c.requires.within _ _ _ o.place c.loop-i-test.true (rw q at c.row.ensures);
      lines = omega arith;
      rows = λ f h. rows_turn (o.rows f h) c.loop-i-test.true (h _ _ _ o.place c.loop-i-test.true (rw q at c.row.ensures));
    }

pub returns : goal.returns
returns g c = λ f h. let o = c.loop-i.invariant in rows_end (o.rows f h) c.loop-i-test.false o.place (omega arith)
