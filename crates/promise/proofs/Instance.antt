-- Demand 3 at P1's table, with the sensor answering 120 and the task numbers 0, 0, 0: its premises hold, so the theorem gives tosses; and not every list of
-- tosses will do. Line 2 of the sheet at that run: explored two deep nothing is found, and it is its third step that leads to a standstill.
use Rattle.std.specs.Prelude.{ℕ, ◌≤◌, ◌<◌, ◌≡◌, refl, true, false, List, [], ◌∷◌, get_or, replicate, ℤ, pos}
use Prim.Native.String.{String}
use Rattle.std.proofs.Common.{sym, ◌∙◌, arith}
use Rattle.table.specs.declared.Table.{Table}
use Rattle.text.specs.Reader.{read}
use Rattle.closing.specs.Close.{close}
use Rattle.closing.proofs.Examples.{Example, closes, gives, joined, p1}
use Rattle.machine.specs.State.{standstill}
use Rattle.machine.specs.Run.{run}
use Rattle.exploring.proofs.Computing.{computing}
use Rattle.exploring.specs.Answers.{none_answer}
use Rattle.exploring.specs.Explore.{explore}
use Rattle.promise.specs.Demand3.{OpenRun, open_ran, first, Partner, HasPartner, cut}
use Rattle.promise.proofs.Theorems.{demand_3}
use Rattle.promise.specs.Explored.{Clear}
use Rattle.promise.proofs.ExploredHold.{line_two}

abbrev lines : Example → List String
lines (closes s r) = s
lines (gives o a b r) = []

abbrev pub t : Table
t = (read (joined (lines p1))).table

abbrev pub inputs : List ℤ
inputs = pos 120 ∷ []

abbrev pub ks : List ℕ
ks = 0 ∷ 0 ∷ 0 ∷ []

abbrev pub log : List ℕ
log = replicate 24 0

-- the closer accepts the table, and the open run completes
pub accepted : (close t).number ≡ 0
unfolding computing
accepted = refl

pub completes : (run t ks inputs 5 log).answer.stop ≡ 0
unfolding computing
completes = refl

-- so it has a partner
abbrev pub original : OpenRun
original = record { table = t; schedule = ks; inputs = inputs; most = 5; log = log }

pub partner : HasPartner original
partner = demand_3 original accepted completes

-- the third node executed
abbrev third_node : Table → List ℤ → ℕ
third_node u vs = get_or (run u ks vs 5 log).log 18 0

third_open : third_node t inputs ≡ 5
unfolding computing
third_open = refl

third_0 : third_node (close t).table (pos 0 ∷ []) ≡ 4
unfolding computing
third_0 = refl

none_stops : (run (close t).table ks [] 5 log).answer.stop ≡ 15
unfolding computing
none_stops = refl

-- the toss 0 leads elsewhere, though that run completes too
pub not_0 : Partner original (record { tosses = pos 0 ∷ []; most = 5; log = log }) → ⊥
not_0 p =
    let whole : 3 ≤ 3 = omega arith in
    let third : 2 < 3 = omega arith in
    let same : third_node t inputs ≡ third_node (close t).table (pos 0 ∷ []) = (p.agree 3 whole).logs.node 2 third in
    absurd (let z : ◌≡◌ {A = ℕ} 5 4 = sym third_open ∙ same ∙ third_0 in omega arith)

-- and with no toss the closed run does not complete
pub not_none : Partner original (record { tosses = []; most = 5; log = log }) → ⊥
not_none p = absurd (let z : ◌≡◌ {A = ℕ} 15 0 = sym none_stops ∙ p.completes in omega arith)

-- ---- line 2 of the sheet

begins : (run t [] inputs 5 log).answer.stop ≡ 0
unfolding computing
begins = refl

two_steps : (open_ran original (first original 2)).answer.steps ≡ 2
unfolding computing
two_steps = refl

none_found : explore (close t).table 2 3 ≡ none_answer 3
unfolding computing
none_found = refl

clear : Clear t 2
clear = line_two t 2 3 3 accepted none_found

pub two_stand : standstill t (open_ran original (first original 2)).answer.state ≡ false
two_stand = clear.no_standstill (cut original 2) (record { of_table = refl; begins = begins; short = omega (arith, two_steps) }) 2 (omega (arith, two_steps))

pub three_still : standstill t (open_ran original ks).answer.state ≡ true
unfolding computing
three_still = refl
