-- What the words from LOG on say.
use Rattle.std.specs.Prelude.{ℕ, List, ℤ, Result, Ok, Err}
use Rattle.machine.specs.Words.{Words, asks, unread, next, last, said_up_to}
use Rattle.machine.specs.Program.{Word, Request, log, further, most_bytes}
use Rattle.log_word.specs.declared.Unread.{Unread}
use Rattle.log_word.specs.declared.Unread.TheVariants.{Log, Further}

-- the words from LOG on
abbrev pub from_log : List ℕ → List ℤ → ℕ → List (List ℕ) → Words Word Request
from_log ks vs m xs = next log (said_up_to most_bytes) xs (λ n ys. last further (record { schedule = ks; values = vs; most = m; log = n }) ys)

-- what the code finds
abbrev pub rest_words : List ℕ → List ℤ → ℕ → Result ℕ Unread → Words Word Request
rest_words ks vs m (Ok k) = asks (record { schedule = ks; values = vs; most = m; log = k })
rest_words ks vs m (Err Log) = unread log
rest_words ks vs m (Err Further) = unread further
