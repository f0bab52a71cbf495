use Rattle.std.proofs.Common.{rules}
use Rattle.text.specs.Fault.{number}
use Rattle.codes.proofs.number.Goals as goal

pub returns-in-Long : goal.returns-in-Long
unfolding number
returns-in-Long c = search rules

pub returns-in-Form : goal.returns-in-Form
unfolding number
returns-in-Form c = search rules

pub returns-in-Misspelt : goal.returns-in-Misspelt
unfolding number
returns-in-Misspelt c = search rules

pub returns-in-Ended : goal.returns-in-Ended
unfolding number
returns-in-Ended c = search rules

pub returns-in-Range : goal.returns-in-Range
unfolding number
returns-in-Range c = search rules

pub returns-in-Index : goal.returns-in-Index
unfolding number
returns-in-Index c = search rules

pub returns-in-Reference : goal.returns-in-Reference
unfolding number
returns-in-Reference c = search rules

pub returns-in-Arguments : goal.returns-in-Arguments
unfolding number
returns-in-Arguments c = search rules

pub returns-in-Unclosed : goal.returns-in-Unclosed
unfolding number
returns-in-Unclosed c = search rules

pub returns-in-Unused : goal.returns-in-Unused
unfolding number
returns-in-Unused c = search rules

pub returns-in-Short : goal.returns-in-Short
unfolding number
returns-in-Short c = search rules
