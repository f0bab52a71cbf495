-- A step from the lists that the code makes on the way.
use Rattle.std.specs.Prelude.{ℕ, ◌+◌, ◌-◌, ◌*◌, ◌^◌, ◌<◌, ◌≡◌, List}
use Rattle.std.proofs.Common.{sym, ◌∙◌, ap, subst}
use Rattle.table.specs.Table.{proc_at, task_at}
use Rattle.table.specs.declared.Node.{Node}
use Rattle.table.specs.declared.Table.{Table}
use Rattle.masks.specs.Cells.{grown, grown_twice, grown_none}
use Rattle.flow.specs.declared.Flow.{Flow}
use Rattle.flow.specs.declared.Pass.{Pass}
use Rattle.flow.specs.Flow.{flow_of, pass_of, after_pass}
use Rattle.flow.specs.FlowLaws.{pass_flow, pass_flow_lem}
use Rattle.analysis.specs.NodeLaws.{Places, flow_places}
use Rattle.analysis.specs.Steps.{entered, passed_on, step_with, top_step}

pub places : {f : Flow} (x : Node) (n i b : ℕ) → n < 32 → f ≡ flow_of x n i b → Places f
places x n i b h e = rw e (flow_places x n i b h)

pub step_is : {f : Flow} {l3 : List ℕ} (l l1 l2 : List ℕ) (x : Node) (p n i b : ℕ) → f ≡ flow_of x n i b → l1 ≡ grown l (p * 32 + f.first) f.out → l2 ≡ grown l1 (p * 32 + f.second) f.out → l3 ≡ passed_on l2 f.extra f.add → l3 ≡ step_with (flow_of x n i b) p l
unfolding step_with
step_is l l1 l2 x p n i b e u v r = rw (← e, ← u, ← v) r

once : (s : Pass) (i p : ℕ) (l : List ℕ) → step_with (pass_flow s i) p l ≡ grown l (p * 32 + s.to) (after_pass s i)
unfolding step_with passed_on
once s i p l = grown_none _ 264 ∙ grown_twice l (p * 32 + s.to) (after_pass s i)

-- the step of a node with one target
pub pass_is : {s : Pass} {l1 : List ℕ} (l : List ℕ) (x : Node) (p n i b : ℕ) → s ≡ pass_of x n → s.to < 32 → l1 ≡ grown l (p * 32 + s.to) (after_pass s i) → l1 ≡ step_with (flow_of x n i b) p l
pass_is {s} l x p n i b e h f = f ∙ sym (once s i p l) ∙ ap (λ (y : Flow). step_with y p l) (ap (λ (y : Pass). pass_flow y i) e ∙ sym (pass_flow_lem x n i b (subst (λ (y : Pass). y.to < 32) e h)))

pub top_is : {l1 : List ℕ} (t : Table) (l : List ℕ) (k m : ℕ) → m ≡ 2 ^ (proc_at t (task_at t k).top).params - 1 → l1 ≡ entered l (task_at t k).top m → l1 ≡ top_step t l k
unfolding top_step
top_is t l k m e f = rw (← e) f
