-- What is printed from the rows of a path is what is printed of the path.
use Rattle.std.specs.Prelude.{ℕ, zero, suc, ◌+◌, ◌*◌, ◌<◌, ◌≤◌, ◌≡◌, refl, Bool, List, [], ◌∷◌, ◌++◌, map, length, get_or, drop}
use Rattle.std.proofs.Common.{arith, sym, ◌∙◌, ap₂}
use Rattle.std.proofs.Math.Path.{ap}
use Rattle.std.proofs.Math.Bool.{true, false}
use Rattle.std.proofs.lemmas.List.{length-map}
use Rattle.std.proofs.lemmas.List.Edits.{sets, sets-eq}
use Rattle.std.proofs.Math.Seq.{length-sets}
use Rattle.table.specs.declared.Table.{Table}
use Rattle.text.specs.Reader.{concat_from}
use Rattle.text.specs.Writer.{fault}
use Rattle.closing.specs.Closing.{for_each}
use Rattle.machine.specs.Run.{entry_bytes}
use Rattle.machine.specs.Report.{state_lines}
use Rattle.machine.proofs.ClosedRun.{bytes_length}
use Rattle.exploring.specs.Paths.{Move, Spot, start, Path}
use Rattle.exploring.specs.Answers.{no_step, path_of, what_of, found_answer}
use Rattle.exploring.specs.Program.{path_line, path_text, got_line, found_text}
use Rattle.exploring.proofs.PathRuns.{bytes_of}
use Rattle.exploring.proofs.ProgramLaws.{path_text_lem}
use Rattle.run_state.specs.ArrayLaws.{at_behind, at_front}
use Rattle.explore_step.specs.Tries.{row_of}
use Rattle.explore_answer.specs.Rows.{step_of, no_rows, map_at, path_steps}
use Rattle.explore_report.specs.Rows.{got_key, row_line, rows_text}

concat_below : (f g : ℕ → List ℕ) (n i : ℕ) → ((j : ℕ) → j < i + n → f j ≡ g j) → concat_from f n i ≡ concat_from g n i
unfolding concat_from
concat_below f g zero i h = refl
concat_below f g (suc n) i h = ap₂ ◌++◌ (h i (omega arith)) (concat_below f g n (suc i) (λ j l. h j (omega arith)))

-- the log's entry i is the row's
entry_at : (p : List Move) (i b j : ℕ) → i < length p → b < 8 → j ≡ 8 * i + b → get_or (bytes_of p) j 0 ≡ get_or (get_or (map row_of p) i []) b 0
unfolding for_each
entry_at [] i b j h l e = absurd (omega arith)
entry_at (m ∷ p) zero b j h l e =
    let k : j ≡ b = omega arith in
    rw k (at_front (entry_bytes m.entry) (bytes_of p) (bytes_length m.entry) b 0 l ∙ sym (at_front (entry_bytes m.entry) _ (bytes_length m.entry) b 0 l))
entry_at (m ∷ p) (suc i) b j h l e =
    at_behind (entry_bytes m.entry) (bytes_of p) (bytes_length m.entry) (8 * i + b) j 0 (omega arith) ∙ entry_at p i b (8 * i + b) (omega arith) l refl

module _ (p : List Move) (few : length p ≤ 24) where
  abbrev rows : List (List ℕ)
  rows = sets no_rows 0 (map row_of p)

  rows_are : rows ≡ map row_of p ++ drop (0 + length (map row_of p)) no_rows
  rows_are = sets-eq (map row_of p) no_rows 0 (omega (arith, length-map p row_of))

  row_at : (i : ℕ) → i < length p → get_or rows i [] ≡ get_or (map row_of p) i []
  row_at i h = ap (λ l. get_or l i []) rows_are ∙ at_front (map row_of p) _ (length-map p row_of) i [] h

  rows_many : length rows ≡ 24
  rows_many = length-sets no_rows 0 (map row_of p)

  step_at : (i : ℕ) → i < length p → get_or (path_of p) i no_step ≡ step_of (get_or rows i [])
  step_at i h = ap (λ l. get_or l i no_step) (sym (path_steps p few)) ∙ map_at step_of rows [] no_step i (omega (arith, rows_many))

  line_at : (i : ℕ) → i < length p → path_line (bytes_of p) (path_of p) i ≡ row_line i (get_or rows i [])
  line_at i h =
      let at : (b : ℕ) → b < 8 → get_or (bytes_of p) (8 * i + b) 0 ≡ get_or (get_or rows i []) b 0 = λ b l. entry_at p i b (8 * i + b) h l refl ∙ ap (λ r. get_or r b 0) (sym (row_at i h)) in
      rw (at 0 (omega arith), at 1 (omega arith), at 2 (omega arith), at 3 (omega arith), at 4 (omega arith), at 5 (omega arith), at 6 (omega arith), at 7 (omega arith), step_at i h) refl

  module _ (t : Table) (sound : fault t ≡ 0) (closed : t.closed ≡ true) (x : Spot) (tried : ℕ) (a : Path t (start t) p x) where
    rest : concat_from (λ i. row_line i (get_or rows i [])) (length p) 0 ++ state_lines t x.state ≡ path_text t (found_answer p x tried)
    rest = ap (λ l. l ++ state_lines t x.state) (concat_below _ _ (length p) 0 (λ i h. sym (line_at i (omega arith)))) ∙ sym (path_text_lem t sound closed p x tried a)

    pub rows_text_lem : rows_text t rows (length p) x.failed tried x.state ≡ found_text t (found_answer p x tried) (what_of x.failed)
    unfolding rows_text
    rows_text_lem = go x.failed
      where
        go : (b : Bool) → got_line (got_key b) (length p) tried ++ (concat_from (λ i. row_line i (get_or rows i [])) (length p) 0 ++ state_lines t x.state) ≡ found_text t (found_answer p x tried) (what_of b)
        go true = ap (λ l. got_line (got_key true) (length p) tried ++ l) rest
        go false = ap (λ l. got_line (got_key false) (length p) tried ++ l) rest
