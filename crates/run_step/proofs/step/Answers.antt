-- A step: what stops it before, or its node executed.
use Rattle.std.proofs.Common.{◌≡◌, Ok, Err, arith, refl, sym, ◌∙◌}
use Rattle.run_step.specs.BlockedLaws.{top_asks, row_asks}
use Rattle.run_step.specs.Whole.{asked, row_top, before_open, before_stops, stands_there, step_stops, step_done}
use Rattle.std.proofs.lemmas.Result.{err_from_is_err_and}
use Rattle.run_step.proofs.step.Goals as goal

pub top-f-requires : goal.top-f-requires
top-f-requires c = let p = c.requires.0 in top_asks (asked p.held c.args.i p.task)

pub bounds-marks-f : goal.bounds-marks-f
bounds-marks-f c = let p = c.requires.0 in
    omega (arith, (row_asks (asked p.held c.args.i p.task) c.top-f.result c.top-f.ensures).0)

pub bounds-marks-f-2 : goal.bounds-marks-f-2
bounds-marks-f-2 c = let p = c.requires.0 in
    omega (arith, (row_asks (asked p.held c.args.i p.task) c.top-f.result c.top-f.ensures).0)

pub row-a-requires : goal.row-a-requires
row-a-requires c = let p = c.requires.0 in
    (row_asks (asked p.held c.args.i p.task) c.top-f.result c.top-f.ensures).1

pub before_at-requires : goal.before_at-requires
before_at-requires c = let p = c.requires.0 in (
  asked p.held c.args.i p.task,
  (row_top p.held c.args.i p.task c.top-f.result c.top-f.ensures c.row-a.result c.row-a.ensures, refl),
)

pub returns-in_err-before_at : goal.returns-in_err-before_at
returns-in_err-before_at c =
    let p = err_from_is_err_and c.from_residual.result c.from_residual.ensures.1 in
    rw (p.1, p.2) (λ t s h k.
    before_stops t s c.args.i c.args.values.now c.args.used c.args.most c.args.marks.now c.args.cells.now _ (sym (c.before_at.ensures t s c.args.keep.now h.marked k) ∙ c.in_err-before_at.was) h.marked.marks_are h.cells_are)

pub execute-requires : goal.execute-requires
execute-requires c = let p = c.requires.0 in
    let t = p.t in let s = p.s in let h = p.held in let k = p.task in
    let o = (before_open t s c.args.i (sym (c.before_at.ensures t s c.args.keep.now h.marked k) ∙ c.in_ok-before_at.was)) in
    record { t = t; s = s; stands = stands_there h c.args.i k c.top-f.result c.top-f.ensures o c.args.values.now c.args.used c.row-a.result c.requires.1 c.row-a.ensures }

pub returns-in_err-shown : goal.returns-in_err-shown
returns-in_err-shown c =
    let p = err_from_is_err_and c.from_residual-in_err-shown.result c.from_residual-in_err-shown.ensures.1 in
    rw (p.1, p.2) (λ t s h k.
    let o = (before_open t s c.args.i (sym (c.before_at.ensures t s c.args.keep.now h.marked k) ∙ c.in_ok-before_at.was)) in
    let z = stands_there h c.args.i k c.top-f.result c.top-f.ensures o c.args.values.now c.args.used c.row-a.result c.requires.1 c.row-a.ensures in
    let w : c.execute.result ≡ Err c.in_err-shown.field-0.0 = c.in_err-shown.was in
    step_stops h c.args.i k c.top-f.result c.top-f.ensures o c.args.values.now c.args.used c.args.most _ _ _ (rw w at (c.execute.ensures t s z)))

pub returns : goal.returns
returns c = λ t s h k.
    let o = (before_open t s c.args.i (sym (c.before_at.ensures t s c.args.keep.now h.marked k) ∙ c.in_ok-before_at.was)) in
    let z = stands_there h c.args.i k c.top-f.result c.top-f.ensures o c.args.values.now c.args.used c.row-a.result c.requires.1 c.row-a.ensures in
    let w : c.execute.result ≡ Ok c.in_ok-shown.field-0 = c.in_ok-shown.was in
    step_done h c.args.i k c.top-f.result c.top-f.ensures o c.args.values.now c.args.used c.args.most _ _ c.in_ok-shown.field-0 (rw w at (c.execute.ensures t s z))
