-- `run_state::entries` answers the first eight cells of a row.
use Rattle.std.proofs.Common.{[], arith, ◌∙◌, ap, List, ◌∷◌, ℤ, pos, w32, to_z-of_z, ℕ}
use Rattle.machine.specs.declared.Entries.{Entries}
use Rattle.run_state.specs.BeginLaws.{tab_take}
use Rattle.run_state.proofs.entries.Goals as goal

abbrev entries_in : ℕ → List ℤ → Entries
entries_in n l = record { len = n; items = l }

pub returns : goal.returns
returns c = let x0 = to_z-of_z {w = w32} (record { sfits = c.result-1.given }) in
    let x1 = to_z-of_z {w = w32} (record { sfits = c.result-2-1.given }) in
    let x2 = to_z-of_z {w = w32} (record { sfits = c.result-3-1.given }) in
    let x3 = to_z-of_z {w = w32} (record { sfits = c.result-4-1.given }) in
    let x4 = to_z-of_z {w = w32} (record { sfits = c.result-5-1.given }) in
    let x5 = to_z-of_z {w = w32} (record { sfits = c.result-6-1.given }) in
    let x6 = to_z-of_z {w = w32} (record { sfits = c.result-7-1.given }) in
    let x7 = to_z-of_z {w = w32} (record { sfits = c.result-8-1.given }) in
    let row = tab_take (pos 0) c.args.row.now 8 (omega (arith, c.requires)) in
    ap (λ (l : List ℤ). entries_in c.args.len l) ((λ ι. x0 ι ∷ x1 ι ∷ x2 ι ∷ x3 ι ∷ x4 ι ∷ x5 ι ∷ x6 ι ∷ x7 ι ∷ []) ∙ row)
