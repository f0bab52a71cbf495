use Rattle.std.proofs.Common.{◌≡◌, ◌<◌, refl, rules, arith}
use Rattle.analysis.specs.StepLaws.{top_is}
use Rattle.analysis.specs.Plans.{passes_are, scanned_start, scanned_next, scanned_known, scanned_reads}
use Rattle.analysis.specs.Work.{work_start, work_top, work_end}
use Rattle.analysis.specs.WorklistLaws.{enter_moves, pending_some, pending_none}
use Rattle.analysis.proofs.dirty_cells.Goals as goal

pub loop-p-init : goal.loop-p-init
loop-p-init c = scanned_start _

pub loop-p-preserved : goal.loop-p-preserved
loop-p-preserved c = let h = c.loop-p in
    let k = c.loop-p-test.true in
    let o = c.requires in
    let e = c.plan-s.ensures in
    scanned_next o h.invariant k e.recvs e.reads (passes_are h.p _ (omega (arith, k, o.procs_few)) (o.nodes_few h.p) e.plans h.invariant.passes)

pub loop-k-init : goal.loop-k-init
loop-k-init c = let h = c.loop-p.invariant in let z = c.loop-p-test.false in (scanned_known c.requires h z, λ o. work_start _ o (scanned_reads o h z))

pub enter-requires : goal.enter-requires
enter-requires c = let g = c.loop-k.invariant.1 c.requires in (c.requires.tops_low c.loop-k.k c.loop-k-test.true, (g.good.masks.size, g.todo.size))

pub loop-k-preserved : goal.loop-k-preserved
loop-k-preserved c = let b = c.requires in
    let h = c.loop-k in
    let g = h.invariant.1 b in
    (h.invariant.0, λ o. work_top _ o h.k c.loop-k-test.true h.invariant.0.recvs (h.invariant.1 o) (top_is _ _ _ _ c.low_bits.ensures c.enter.ensures.list) (enter_moves _ _ (b.tops_low h.k c.loop-k-test.true) (g.good.masks.size, g.todo.size) c.enter.ensures.list c.enter.ensures.todo))

pub loop-p-2-init : goal.loop-p-2-init
loop-p-2-init c = let h = c.loop-k in let z : h.k ≡ c.args.t.tasks = omega (arith, c.loop-k-test.false, h.auto.k-end) in (h.invariant.0, rw z at h.invariant.1)

pub proc_work-requires : goal.proc_work-requires
proc_work-requires c = let h = c.loop-p-2.invariant in let k = h.1 c.requires in let l : c.in-Some.p < 8 = search rules in (l, (k.good.masks, (k.todo, (h.0.recvs.masks, h.0.plans _ l))))

pub loop-p-2-smaller : goal.loop-p-2-smaller
loop-p-2-smaller c = let k = c.loop-p-2.invariant.1 c.requires in c.proc_work.ensures.works.less (pending_some _ _ k.todo.size (c.in-Some.ensures.first)).1

pub loop-p-2-preserved : goal.loop-p-2-preserved
loop-p-2-preserved c = let h = c.loop-p-2.invariant in (h.0, λ o. c.proc_work.ensures.works.keeps _ o refl h.0.recvs (h.1 o))

pub returns : goal.returns
returns c = let o = c.requires in let k = c.loop-p-2.invariant.1 o in work_end _ o k (λ p h. pending_none _ c.in_default.ensures.first p (omega (arith, k.todo.size)))
