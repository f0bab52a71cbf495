-- `run_words::ask` reads the words from the left.
use Rattle.std.proofs.Common.{◌≡◌, Some, None, Err, sym, ◌∙◌, arith}
use Rattle.machine.specs.Words.{said_up_to}
use Rattle.machine.specs.Program.{said_value}
use Rattle.arguments.specs.ListLaws.{list_read, list_unread}
use Rattle.run_words.specs.declared.Word.TheVariants.{Schedule, Values}
use Rattle.run_words.specs.WordsLaws.{schedule_missing, schedule_unread, values_missing, values_unread, lists_said, lists_fit}
use Rattle.run_words.proofs.ask.Goals as goal

pub returns-then-n-eq0-clause-says : goal.returns-then-n-eq0-clause-says
returns-then-n-eq0-clause-says c = let x = c.args in schedule_missing x.first.now x.second.now x.third.now x.fourth.now x.n c.if-n-eq0.true

pub returns-in_err-a-clause-says : goal.returns-in_err-a-clause-says
returns-in_err-a-clause-says c =
    let x = c.args in
    let e : c.schedule.result ≡ None = grind arith in
    let q : c.from_residual.result ≡ Err Schedule = grind arith in
    rw q (schedule_unread x.first.now x.second.now x.third.now x.fourth.now x.n c.if-n-eq0.false x.schedule.now c.requires.0 (list_unread (said_up_to 255) x.first.now x.schedule.now (sym e ∙ c.schedule.ensures.answer)))

pub returns-then-left-eq0-clause-says : goal.returns-then-left-eq0-clause-says
returns-then-left-eq0-clause-says c =
    let x = c.args in
    let e : c.schedule.result ≡ Some c.in_ok-a.a = grind arith in
    let k = list_read (said_up_to 255) x.first.now x.schedule.now (sym e ∙ c.schedule.ensures.answer) c.schedule.ensures.list in
    values_missing x.first.now x.second.now x.third.now x.fourth.now x.n c.if-n-eq0.false x.schedule.now c.requires.0 k.0 c.if-left-eq0.true

pub returns-in_err-b-clause-says : goal.returns-in_err-b-clause-says
returns-in_err-b-clause-says c =
    let x = c.args in
    let e : c.schedule.result ≡ Some c.in_ok-a.a = grind arith in
    let k = list_read (said_up_to 255) x.first.now x.schedule.now (sym e ∙ c.schedule.ensures.answer) c.schedule.ensures.list in
    let f : c.values.result ≡ None = grind arith in
    let u = list_unread said_value x.second.now x.values.now (sym f ∙ c.values.ensures.answer) in
    let q : c.from_residual-in_err-b.result ≡ Err Values = grind arith in
    rw q (values_unread x.first.now x.second.now x.third.now x.fourth.now x.n c.if-n-eq0.false x.schedule.now c.requires.0 k.0 c.if-left-eq0.false x.values.now c.requires.1 u)

pub returns : goal.returns
returns c =
    let x = c.args in
    let e : c.schedule.result ≡ Some c.in_ok-a.a = grind arith in
    let k = list_read (said_up_to 255) x.first.now x.schedule.now (sym e ∙ c.schedule.ensures.answer) c.schedule.ensures.list in
    let f : c.values.result ≡ Some c.in_ok-b.b = grind arith in
    let v = list_read said_value x.second.now x.values.now (sym f ∙ c.values.ensures.answer) c.values.ensures.list in
    let w = c.ask_numbers.ensures in
    record { says = lists_said x.first.now x.second.now x.third.now x.fourth.now x.n c.if-n-eq0.false x.schedule.now c.requires.0 k.0 c.if-left-eq0.false x.values.now c.requires.1 v.0 ∙ w.says _ _; fits = lists_fit _ _ c.ask_numbers.result k.1 v.1 w.fits }
