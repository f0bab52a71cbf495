-- `runner::run_begun` is the run from how it begins.
use Rattle.runner.proofs.Starts.{goes, goes_runs}
use Rattle.runner.proofs.run_begun.Goals as goal

pub advance-requires : goal.advance-requires
advance-requires c = let p = c.requires in
    let st = p.starting in
    let g = goes st c.in-Some.given c.in-Some.is in
    (record { t = p.t; s = g.s; held = g.held }, g.within)

pub returns : goal.returns
returns c = λ t st.
    let g = goes st c.in-Some.given c.in-Some.is in
    goes_runs st c.in-Some.given c.in-Some.is _ _ _ (c.advance.ensures t g.s g.held)
