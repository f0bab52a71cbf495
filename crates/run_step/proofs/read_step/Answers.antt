-- A read: it takes the next value, or the values are spent.
use Rattle.std.proofs.Common.{arith, ◌+◌}
use Rattle.run_step.specs.Standing.{goings_to, goes_to_lem}
use Rattle.run_step.specs.Arms.{reads_on, reads_none, read_stop, read_did}
use Rattle.std.proofs.lemmas.Result.{err_from_is_err_and}
use Rattle.run_step.proofs.read_step.Goals as goal

pub returns-in_err-o : goal.returns-in_err-o
returns-in_err-o c =
    let p = err_from_is_err_and c.from_residual.result c.from_residual.ensures.1 in
    let n = reads_none _ c.args.values.now c.args.used _ _ c.read_at.result c.read_at.ensures _ c.in_err-o.was in
    rw (p.1, p.2) (λ t s z. read_stop z c.args.most c.requires.1 _ n.stop n.none)

pub go_on-requires : goal.go_on-requires
go_on-requires c = let o = reads_on _ c.args.values.now c.args.used _ _ c.read_at.result c.read_at.ensures c.in_ok-o.o c.in_ok-o.was in goings_to c.requires.0 c.in_ok-o.o _ _ (c.args.used + 1) (omega (arith, o.more)) o.effect

pub returns : goal.returns
returns c = λ t s z.
    let o = reads_on _ c.args.values.now c.args.used _ _ c.read_at.result c.read_at.ensures c.in_ok-o.o c.in_ok-o.was in
    read_did z c.args.most c.requires.1 o.more (goes_to_lem z c.args.most c.go_on.ensures _ _ (c.args.used + 1) (omega (arith, o.more)) o.effect)
