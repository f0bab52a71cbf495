-- `run_code::decode_proc` lays a procedure's rows. The invariant: those of the nodes so far are laid.
use Rattle.table.specs.Table.{node_in}
use Rattle.run_code.specs.Code.{bytes_of, words_of, Laid}
use Rattle.run_code.proofs.decode_proc.Given as goal

abbrev pub invariant-loop-n : goal.invariant-loop-n
invariant-loop-n l = Laid l.base l.n (λ i. bytes_of l.caps l.keep (node_in l.q i)) l.initial.code l.code × Laid l.base l.n (λ i. words_of (node_in l.q i)) l.initial.words l.words
