-- Demand 3 of one call, by what the contracts of `close` and `run` say.
use Rattle.std.specs.Prelude.{ℕ, ◌≡◌, refl, List, length, take, ℤ}
use Rattle.std.proofs.Common.{arith, ◌∙◌, ap}
use Rattle.std.proofs.Math.Seq.{take-length}
use Rattle.table.specs.declared.Table.{Table}
use Rattle.closing.specs.declared.Closing.{Closing}
use Rattle.closing.specs.Close.{close}
use Rattle.machine.specs.declared.Running.{Running}
use Rattle.machine.specs.Run.{run}
use Rattle.promise.proofs.Calls.{RunCall, CallsAgree, closed_calls}
use Rattle.callers.specs.declared.Beside.{Beside}
use Rattle.callers.specs.SideBySide.{beside_of, original_of, Partners, Agrees}

-- `close(t)` answered c, `run(t, ks, vs, most, log)` and `run(c.table, ks, ts, most', log')` answered r and r' and left the logs so
module _ (t : Table) (c : Closing) (closes : c ≡ close t) (ks : List ℕ) (vs : List ℤ) (most : ℕ) (log : List ℕ) (r : Running) (left : List ℕ) (runs : RunCall t ks vs most log r left)
    (ts : List ℤ) (most' : ℕ) (log' : List ℕ) (r' : Running) (left' : List ℕ) (closed-runs : RunCall c.table ks ts most' log' r' left') where
  abbrev beside : Beside
  beside = record { number = c.number; original = r; closed = r' }

  pub beside_is : beside ≡ beside_of t ks vs ts most most' log log'
  beside_is =
      let d = closed-runs.answered ∙ ap (λ (x : Closing). (run x.table ks ts most' log').answer) closes in
      λ ι. record { number = (closes ι).number; original = runs.answered ι; closed = d ι }

  pub beside_log : left' ≡ (run (close t).table ks ts most' log').log
  beside_log = closed-runs.logged ∙ ap (λ (x : Closing). (run x.table ks ts most' log').log) closes

  -- the calls of the first `length ks` task numbers are these
  all_steps : (x : Table) (ws : List ℤ) (n : ℕ) (l : List ℕ) (a : Running) (k : List ℕ) → RunCall x ks ws n l a k → RunCall x (take (length ks) ks) ws n l a k
  all_steps x ws n l a k u = rw take-length u

  pub beside_agrees : Agrees t ks vs ts most log log' beside left left'
  beside_agrees ok stop =
      let d = closed_calls (original_of t ks vs most log) (close t) refl (rw closes at ok) r left runs stop in
      record {
        tosses = d.0;
        small = d.1;
        few = d.2;
        calls = d.3;
        here = λ p long. partners d.0 p (d.3 most' log' long);
      }
    where
      partners : (ws : List ℤ) → ts ≡ ws → CallsAgree (original_of t ks vs most log) (close t).table (record { tosses = ws; most = most'; log = log' })
          → Partners (original_of t ks vs most log) ws beside left left'
      partners ws p a =
          let u : RunCall (close t).table ks ws most' log' r' left' = rw (closes, p) at closed-runs in
          record {
            completes = (a.completes r' left' u).0;
            used_up = (a.completes r' left' u).1;
            agree = a.agree (length ks) (omega arith) r r' left left' (all_steps t vs most log r left runs) (all_steps (close t).table ws most' log' r' left' u);
          }
