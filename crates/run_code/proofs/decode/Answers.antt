-- `run_code::decode` lays the rows of every procedure. The invariant: those of the procedures so far are laid, and how many inputs their tasks take is known.
use Rattle.std.proofs.Common.{arith, ◌≡◌, refl, ◌∙◌, ap, List, ℕ, zero, suc, ◌≤◌, ◌<◌, get_or, length-set, replicate, get_or-set_other}
use Rattle.table.specs.Table.{proc_at, node_at}
use Rattle.table.specs.declared.Node.TheVariants.{Absent}
use Rattle.table.specs.declared.Table.{Table}
use Rattle.masks.specs.Cells.{set_more}
use Rattle.run_code.specs.Ready.{Ready}
use Rattle.run_code.specs.Code.{bytes_of, takes_of}
use Rattle.run_code.proofs.Rows.{bytes_at, words_at, bytes_none, words_none, rowed_none, rowed_more, rowed_all}
use Rattle.run_code.proofs.decode.Goals as goal

zeros : (n k : ℕ) → get_or {A = ℕ} (replicate n 0) k 0 ≡ 0
zeros zero k = refl
zeros (suc n) zero = refl
zeros (suc n) (suc k) = zeros n k

-- behind a procedure's count is no node
beyond : (t : Table) (keep : List ℕ) → Ready t keep → (p n : ℕ) → (proc_at t p).nodes ≤ n → node_at t p n ≡ Absent
beyond t keep y p n h = y.beyond p n (λ u k. omega arith)

pub loop-p-init : goal.loop-p-init
loop-p-init c = let q = c.requires in (rowed_none _ _ q.1.0, rowed_none _ _ q.1.1, refl, (λ k h. absurd (omega arith)), λ k h. zeros 8 k)

pub loop-p-preserved : goal.loop-p-preserved
loop-p-preserved c = let d = c.decode_proc.ensures in
    let t = c.args.t in
    let keep = c.args.keep.now in
    let cs = c.caps-caps.result in
    let y = c.requires.0 in
    let p = c.loop-p.p in
    let i = c.loop-p.invariant in
    let l : p < 8 = omega (arith, y.procs) in (
      rowed_more (bytes_at t cs keep) (replicate 8 0) p (proc_at t p).nodes c.loop-p.code _ l (y.counts p) (λ n h. bytes_none cs (get_or keep p 0) (node_at t p n) (beyond t keep y p n h)) i.0 d.code,
      rowed_more (words_at t) (replicate 4 0) p (proc_at t p).nodes c.loop-p.words _ l (y.counts p) (λ n h. words_none (node_at t p n) (beyond t keep y p n h)) i.1 d.words,
      simp length-set i.2,
      set_more 0 (takes_of t) p _ c.loop-p.r (omega (arith, i.2)) c.inputs.ensures i.3,
      λ k h. get_or-set_other c.loop-p.r p k _ 0 (λ e. omega arith) ∙ i.4 k (omega arith),
    )

pub returns : goal.returns
returns c = let t = c.args.t in
    let keep = c.args.keep.now in
    let cs = c.caps-caps.result in
    let y = c.requires.0 in
    let i = c.loop-p.invariant in
    let e : c.loop-p.p ≡ t.procs = omega arith in
    let none : (p n : ℕ) → c.loop-p.p ≤ p → node_at t p n ≡ Absent = λ p n h. y.beyond p n (λ u k. omega arith) in record {
      code = λ p n h k. rowed_all (bytes_at t cs keep) (replicate 8 0) c.loop-p.p c.loop-p.code (λ p n h. bytes_none cs (get_or keep p 0) (node_at t p n) (none p n h)) i.0 p n h k
          ∙ ap (λ (l : List ℕ). bytes_of l (get_or keep p 0) (node_at t p n)) c.caps-caps.ensures;
      words = rowed_all (words_at t) (replicate 4 0) c.loop-p.p c.loop-p.words (λ p n h. words_none (node_at t p n) (none p n h)) i.1;
      takes = (λ p h. i.3 p (omega arith));
      rest = λ p h. i.4 p (omega arith);
    }
