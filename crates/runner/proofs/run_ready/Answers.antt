-- `runner::run_ready` runs a ready table as `run_begun` says.
use Rattle.std.proofs.Common.{ℕ, refl, subst, ◌∙◌}
use Rattle.run_state.specs.Begins.{Takes}
use Rattle.run_state.specs.BeginLaws.{first_marks_lem}
use Rattle.runner.specs.Advances.{Starting}
use Rattle.runner.proofs.Starts.{Answering, stated, answers}
use Rattle.runner.proofs.run_ready.Goals as goal

pub begin-b-requires : goal.begin-b-requires
begin-b-requires c = (
  record { t = c.args.t; have = record { keep = _; ready = c.requires; tasks_are = refl; task_are = refl; takes_are = c.decode-takes.ensures.takes } },
  refl,
)

pub run_begun-e-requires : goal.run_begun-e-requires
run_begun-e-requires c =
    let k : Takes c.args.t c.args.t.tasks c.args.t.task c.decode-takes.result = record { keep = _; ready = c.requires; tasks_are = refl; task_are = refl; takes_are = c.decode-takes.ensures.takes } in
    let s : Starting c.args.t c.args.keep c.args.values.now c.decode-takes.new.code c.decode-takes.new.words c.begin-b.result c.first-marks.result c.begin-b.new.cells = record {
      ready = c.requires;
      coded = c.decode-takes.ensures.code;
      worded = c.decode-takes.ensures.words;
      first = c.first-marks.ensures ∙ first_marks_lem c.args.t _ c.requires;
      begins = c.begin-b.ensures c.args.t k;
    } in
    record { t = c.args.t; starting = s }

pub answer-requires : goal.answer-requires
answer-requires c =
    let k : Takes c.args.t c.args.t.tasks c.args.t.task c.decode-takes.result = record { keep = _; ready = c.requires; tasks_are = refl; task_are = refl; takes_are = c.decode-takes.ensures.takes } in
    let s : Starting c.args.t c.args.keep c.args.values.now c.decode-takes.new.code c.decode-takes.new.words c.begin-b.result c.first-marks.result c.begin-b.new.cells = record {
      ready = c.requires;
      coded = c.decode-takes.ensures.code;
      worded = c.decode-takes.ensures.words;
      first = c.first-marks.ensures ∙ first_marks_lem c.args.t _ c.requires;
      begins = c.begin-b.ensures c.args.t k;
    } in
    stated s _ _ _ (c.run_begun-e.ensures c.args.t s)

pub returns : goal.returns
returns c =
    let k : Takes c.args.t c.args.t.tasks c.args.t.task c.decode-takes.result = record { keep = _; ready = c.requires; tasks_are = refl; task_are = refl; takes_are = c.decode-takes.ensures.takes } in
    let s : Starting c.args.t c.args.keep c.args.values.now c.decode-takes.new.code c.decode-takes.new.words c.begin-b.result c.first-marks.result c.begin-b.new.cells = record {
      ready = c.requires;
      coded = c.decode-takes.ensures.code;
      worded = c.decode-takes.ensures.words;
      first = c.first-marks.ensures ∙ first_marks_lem c.args.t _ c.requires;
      begins = c.begin-b.ensures c.args.t k;
    } in
    let e = c.run_begun-e in
    let w = subst (λ (n : ℕ). Answering e.result.steps e.result.used n e.new.marks e.new.cells c.answer.result) c.number.ensures c.answer.ensures in
    let a = answers s _ _ _ (e.ensures c.args.t s) _ w in
    record { answer = a.0; log = a.1 }
