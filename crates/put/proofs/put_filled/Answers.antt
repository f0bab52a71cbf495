use Rattle.std.proofs.Common.{arith}
use Rattle.std.proofs.lemmas.List.{length-replicate}
use Rattle.put.specs.PutLaws.{put_filled}
use Rattle.put.proofs.put_filled.Goals as goal

pub returns : goal.returns
returns g c = λ k t h.
    let e = length-replicate g.row.N 0 in
    let s = c.requires.short _ _ _ e c.fill-k.ensures in
    put_filled (omega (arith, e, s)) (h _ _ _ e c.fill-k.ensures) c.put_bytes.ensures
