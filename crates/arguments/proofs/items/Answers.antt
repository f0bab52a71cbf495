use Rattle.std.proofs.Common.{◌<◌, ◌≤◌, length, ◌∙◌, arith}
use Rattle.std.proofs.lemmas.List.{set-get_or}
use Rattle.arguments.specs.ItemLaws.{heard_some, heard_none}
use Rattle.arguments.specs.ListLaws.{none_answer, none_list, taking_start, taking_same, bad_answer, bad_list, last_answer, last_list, taking_turn, full_answer, full_list}
use Rattle.arguments.proofs.items.Goals as goal

pub returns-then-is_word : goal.returns-then-is_word
returns-then-is_word g c = record { answer = none_answer _ _ c.args.out.now c.is_word.ensures c.if-is_word.true; list = none_list _ _ c.args.out.now c.is_word.ensures c.if-is_word.true }

pub loop-n-init : goal.loop-n-init
loop-n-init g c = taking_start _ _ _ c.is_word.ensures c.if-is_word.false

pub returns-in_err-slot : goal.returns-in_err-slot
returns-in_err-slot g c =
    let e = heard_none _ c.in_err-slot.ensures in
    record { answer = c.from_residual.ensures ∙ bad_answer c.loop-n.invariant c.comma-to.ensures e; list = set-get_or _ _ _ ∙ bad_list c.loop-n.invariant c.comma-to.ensures e }

pub returns-then-word-to : goal.returns-then-word-to
returns-then-word-to g c =
    let h : c.loop-n.n < length c.args.out.now = omega (arith, taking_same c.loop-n.invariant) in
    let e = heard_some _ c.in_ok-slot.ensures in
    record { answer = last_answer c.loop-n.invariant c.comma-to.ensures e h c.if-word-to.true; list = last_list c.loop-n.invariant c.comma-to.ensures e h c.if-word-to.true }

pub loop-n-preserved : goal.loop-n-preserved
loop-n-preserved g c = taking_turn c.loop-n.invariant c.comma-to.ensures (heard_some _ c.in_ok-slot.ensures) (omega (arith, taking_same c.loop-n.invariant)) c.if-word-to.false

pub returns : goal.returns
returns g c =
    let h : length c.args.out.now ≤ c.loop-n.n = omega (arith, taking_same c.loop-n.invariant) in
    record { answer = full_answer c.loop-n.invariant h; list = full_list c.loop-n.invariant h }
