-- The loop's invariant: the rows before stand one after another, whatever they say.
use Rattle.std.proofs.Common.{◌≡◌, arith, rules}
use Rattle.put.specs.RowLaws.{rows_start, rows_turn, rows_end}
use Rattle.put.proofs.put_rows.Goals as goal

pub loop-i-init : goal.loop-i-init
loop-i-init g c = (omega arith, λ f h. rows_start)

pub row-p-requires : goal.row-p-requires
row-p-requires g c = search (rules, c.requires.takes)

pub loop-i-preserved : goal.loop-i-preserved
loop-i-preserved g c = (
  omega (arith, c.loop-i.invariant.0, c.requires.short _ _ _ _ _ (omega arith) c.row-p.ensures),
  λ f h. rows_turn (c.loop-i.invariant.1 f h) (h _ _ _ _ _ (omega arith) c.row-p.ensures),
)

pub returns : goal.returns
returns g c = record {
  within = let e : c.loop-i.i ≡ c.args.n = omega arith in rw e at c.loop-i.invariant.0;
  rows = λ f h. rows_end (c.loop-i.invariant.1 f h) (omega arith) (omega arith);
}
