-- What is said of what the graph program prints: the reason of the text's refusal, and nothing of graphs.
use Rattle.std.specs.Prelude.{ℕ, zero, suc, ◌≡◌, refl, List, []}
use Rattle.std.proofs.Common.{arith}
use Rattle.text.specs.Reader.{read}
use Rattle.closing.specs.Reasons.{reason_line, explained}
use Rattle.closing.proofs.ReasonLaws.{other_explained, reader_said}
use Rattle.labels.specs.Graph.{graph, after_reading, graph_printed}

pub graph_refused : (s : List ℕ) → ((read s).number ≡ 0 → ⊥) → explained (graph_printed s) ≡ reason_line (read s).number (read s).line
unfolding graph_printed
graph_refused s h = go (read s).number refl
  where
    go : (n : ℕ) → (read s).number ≡ n → explained (after_reading n (read s)) ≡ reason_line n (read s).line
    go zero e = absurd (h e)
    go (suc n) e = reader_said s e

pub graph_shown : (s : List ℕ) → (read s).number ≡ 0 → explained (graph_printed s) ≡ []
unfolding graph_printed graph
graph_shown s e = rw e (other_explained 100 _ (λ e. omega arith) (λ e. omega arith))
