-- Demand 3 and line 2 of the sheet for calls of the library: each premise is what the contract of a call says, as crates/bufshani states it.
use Rattle.std.specs.Prelude.{ℕ, ◌<◌, ◌≤◌, ◌≡◌, List, length, ℤ}
use Rattle.std.proofs.Common.{sym, ◌∙◌, subst}
use Rattle.std.proofs.Math.Option.{some}
use Rattle.table.specs.Table.{removed, asserted}
use Rattle.table.specs.declared.Table.{Table}
use Rattle.closing.specs.declared.Closing.{Closing}
use Rattle.closing.specs.Close.{close}
use Rattle.machine.specs.declared.Running.{Running}
use Rattle.machine.specs.State.{stands_before, standstill}
use Rattle.machine.specs.Step.{failing}
use Rattle.machine.specs.Run.{Ran, run}
use Rattle.exploring.specs.declared.Found.TheVariants.{Nothing}
use Rattle.exploring.specs.declared.Exploring.{Exploring}
use Rattle.exploring.specs.Answers.{none_answer}
use Rattle.exploring.specs.Explore.{explore}
use Rattle.exploring.proofs.AnswerLaws.{none_answer_lem}
use Rattle.promise.specs.History.{history}
use Rattle.promise.specs.Demand3.{SameRun, OpenRun, ClosedRun, first, Tosses}
use Rattle.promise.proofs.Theorems.{demand_3, same_standstill, same_failure}
use Rattle.promise.specs.Explored.{Clear}
use Rattle.promise.proofs.ExploredHold.{line_two}

-- `run(t, schedule, values, most, log)` answered r and left the log so
pub record RunCall (t : Table) (schedule : List ℕ) (values : List ℤ) (most : ℕ) (log : List ℕ) (r : Running) (left : List ℕ) : Type 0 where
  pub answered : r ≡ (run t schedule values most log).answer
  pub logged : left ≡ (run t schedule values most log).log

abbrev pub ran_of : Running → List ℕ → Ran
ran_of r left = record { answer = r; log = left }

ran_is : {t : Table} {ks : List ℕ} {vs : List ℤ} {most : ℕ} {log : List ℕ} {r : Running} {left : List ℕ} → RunCall t ks vs most log r left → run t ks vs most log ≡ ran_of r left
ran_is m = sym (λ ι. record { answer = m.answered ι; log = m.logged ι })

-- what two such calls agree on after n steps, of the open table t and of the closed table c
pub record AgreeAfter (o : OpenRun) (c : Table) (n : ℕ) (r r' : Running) (left left' : List ℕ) : Type 0 where
  pub same : SameRun o.table (history o.table (first o n) o.inputs o.most (length o.log)) n (ran_of r left) (ran_of r' left')
  pub at_standstill : standstill o.table r.state ≡ standstill c r'.state
  pub at_failure : (k v : ℕ) → k < o.table.tasks → asserted (stands_before c r'.state k) ≡ some v → (v ≡ removed → ⊥) → failing o.table r.state k ≡ failing c r'.state k

-- The calls of the closed table c beside those of the open table.
pub record CallsAgree (o : OpenRun) (c : Table) (b : ClosedRun) : Type 0 where
  -- the whole run completes and uses the tosses up
  pub completes : (r : Running) (left : List ℕ) → RunCall c o.schedule b.tosses b.most b.log r left → (r.stop ≡ 0) × (r.used ≡ length b.tosses)
  -- the runs of the first n task numbers
  pub agree : (n : ℕ) → n ≤ length o.schedule → (r r' : Running) (left left' : List ℕ)
      → RunCall o.table (first o n) o.inputs o.most o.log r left → RunCall c (first o n) b.tosses b.most b.log r' left' → AgreeAfter o c n r r' left left'

-- `close(t)` answered c with number 0, and `run(t, schedule, inputs, most, log)` answered r with stop 0: there are tosses, each of which can be passed as an i32 and at
-- most one for each step, with which every call of the closed table agrees, whatever number of dropped nodes it allows and whatever its log buffer held
pub closed_calls : (o : OpenRun) (c : Closing) → c ≡ close o.table → c.number ≡ 0
    → (r : Running) (left : List ℕ) → RunCall o.table o.schedule o.inputs o.most o.log r left → r.stop ≡ 0
    → (ts : List ℤ) × Tosses ts × (length ts ≤ length o.schedule)
    × ((most : ℕ) (log : List ℕ) → length log ≡ length o.log → CallsAgree o c.table (record { tosses = ts; most = most; log = log }))
closed_calls o c e ok r left m stop =
    let ok' : (close o.table).number ≡ 0 = rw e at ok in
    let d = demand_3 o ok' (rw (ran_is m) stop) in (
      d.0,
      d.1,
      d.2,
      λ most log long. let p = d.3 most log long in let b : ClosedRun = record { tosses = d.0; most = most; log = log } in rw e (record {
        completes = λ x l u. (rw (ran_is u) at p.completes, rw (ran_is u) at p.used_up);
        agree = λ n h x y l l' u w. record {
          same = rw (ran_is u, ran_is w) at (p.agree n h);
          at_standstill = rw (ran_is u, ran_is w) at (same_standstill o ok' b p n h);
          at_failure = λ k v i j g. rw (ran_is u, ran_is w) at (same_failure o ok' b p n h k v i (rw (ran_is w) j) g);
        };
      }),
    )

-- `close(t)` answered c with number 0, and `explore(c.table, depth, bound)` answered r with number 0 and nothing found: this is line 2 of the sheet
pub explored_calls : (t : Table) (c : Closing) → c ≡ close t → c.number ≡ 0 → (depth bound : ℕ) (r : Exploring) → r ≡ explore c.table depth bound → r.number ≡ 0 → r.found ≡ Nothing → Clear t depth
explored_calls t c e ok depth bound r is sound none =
    let n = none_answer_lem c.table depth bound r is sound none in
    let found : explore c.table depth bound ≡ none_answer n.0 = sym is ∙ n.1 in
    line_two t depth bound n.0 (rw e at ok) (subst (λ (z : Closing). explore z.table depth bound ≡ none_answer n.0) e found)
