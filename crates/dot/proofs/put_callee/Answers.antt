-- Nothing stands for a node that is no call.
use Rattle.std.proofs.Common.{◌≡◌, refl, arith, ℕ, []}
use Rattle.table.specs.Table.{parts, act}
use Rattle.table.specs.ByKind.{by_kind}
use Rattle.table.specs.declared.Args.{Args}
use Rattle.table.specs.declared.Node.{Node}
use Rattle.table.specs.declared.Node.TheVariants.{Call}
use Rattle.labels.specs.Graph.{callee_text}
use Rattle.dot.proofs.put_callee.Goals as goal

no_callee : (p n : ℕ) (x : Node) → ((q : ℕ) (xs : Args) (to : ℕ) → x ≡ Call q xs to → ⊥) → callee_text p n (act x) ≡ []
unfolding parts
no_callee p n = by_kind {P = λ x. ((q : ℕ) (xs : Args) (to : ℕ) → x ≡ Call q xs to → ⊥) → callee_text p n (act x) ≡ []} (record {
  absent = λ h. refl;
  start = λ to h. refl;
  set = λ v o a b to h. refl;
  test = λ o a b y n h. refl;
  read = λ v to h. refl;
  call = λ q xs to h. absurd (h q xs to refl);
  wait = λ s to h. refl;
  signal = λ s to h. refl;
  send = λ q v to h. refl;
  recv = λ q v to h. refl;
  assert = λ v to h. refl;
  out = λ v to h. refl;
  return = λ h. refl;
})

pub returns-in-Call : goal.returns-in-Call
unfolding parts
returns-in-Call c = rw c.in-Call.is c.put_call_edge.ensures

pub returns-in_default : goal.returns-in_default
returns-in_default c = rw (no_callee c.args.p c.args.n c.args.x c.in_default.not-Call) (record { few = omega arith; bytes = refl; same = refl; next = omega arith })
