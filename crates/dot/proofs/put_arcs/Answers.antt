use Rattle.std.proofs.Common.{◌≡◌, refl, inl, inr, arith, ℕ, List}
use Rattle.table.specs.Table.{parts}
use Rattle.table.specs.declared.Node.{Node}
use Rattle.put.specs.Put.{Put}
use Rattle.labels.specs.Graph.{arcs_text}
use Rattle.dot.proofs.put_arcs.Goals as goal

arcs_of : {l o : List ℕ} {at a : ℕ} (p n : ℕ) {x y : Node} → x ≡ y → Put 3456 l at (arcs_text p n y) o a → Put 3456 l at (arcs_text p n x) o a
arcs_of p n e h = rw e h

pub returns-in-Absent : goal.returns-in-Absent
unfolding parts
returns-in-Absent c =
    elim c.in-Absent.is [
      | inl e ↦ arcs_of _ _ e (record { few = omega arith; bytes = refl; same = refl; next = omega arith })
      | inr e ↦ arcs_of _ _ e (record { few = omega arith; bytes = refl; same = refl; next = omega arith })
    ]

pub returns-in-Test : goal.returns-in-Test
unfolding parts
returns-in-Test c = arcs_of _ _ c.in-Test.is c.put_arms.ensures

pub returns-in-Start : goal.returns-in-Start
unfolding parts
returns-in-Start c =
    let h = c.put_plain.ensures in
    elim c.in-Start.is [
      | inl e ↦ arcs_of _ _ e h
      | inr k ↦ elim k [
        | inl q ↦ arcs_of _ _ q.4 h
        | inr k ↦ elim k [
          | inl q ↦ arcs_of _ _ q.1 h
          | inr k ↦ elim k [
            | inl q ↦ arcs_of _ _ q.2 h
            | inr k ↦ elim k [
              | inl q ↦ arcs_of _ _ q.1 h
              | inr k ↦ elim k [
                | inl q ↦ arcs_of _ _ q.1 h
                | inr k ↦ elim k [
                  | inl q ↦ arcs_of _ _ q.2 h
                  | inr k ↦ elim k [ inl q ↦ arcs_of _ _ q.2 h | inr k ↦ elim k [ inl q ↦ arcs_of _ _ q.1 h | inr q ↦ arcs_of _ _ q.1 h ] ]
                ]
              ]
            ]
          ]
        ]
      ]
    ]
