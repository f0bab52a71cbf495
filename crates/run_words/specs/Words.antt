-- What the words that are left ask for, and what the code finds.
use Rattle.std.specs.Prelude.{ℕ, ◌≤◌, ◌≡◌, List, length, take, ℤ, Result, Ok, Err}
use Rattle.machine.specs.Words.{Words, asks, unread, next, said_up_to}
use Rattle.machine.specs.Program.{Word, Request, schedule, values, most, log, further, said_value, said_items, most_items, most_nodes, most_bytes}
use Rattle.log_word.specs.declared.Unread.{Unread}
use Rattle.log_word.specs.declared.Unread.TheVariants.{Log as NoLog, Further as FurtherWord}
use Rattle.log_word.specs.Words.{from_log}
use Rattle.run_words.specs.declared.Word.{Word as Found}
use Rattle.run_words.specs.declared.Word.TheVariants.{Schedule, Values, Most, Log, Further}
use Rattle.run_words.specs.declared.Asked.{Asked}

-- the words from MOST and VALUES on
abbrev pub from_most : List ℕ → List ℤ → List (List ℕ) → Words Word Request
from_most ks vs xs = next most (said_up_to most_nodes) xs (λ m ys. from_log ks vs m ys)

abbrev pub from_values : List ℕ → List (List ℕ) → Words Word Request
from_values ks xs = next values (said_items most_items said_value) xs (λ vs ys. from_most ks vs ys)

-- a word by its name
abbrev pub word_of : Found → Word
word_of Schedule = schedule
word_of Values = values
word_of Most = most
word_of Log = log
word_of Further = further

-- a word of log_word's
abbrev pub unread_of : Unread → Found
unread_of NoLog = Log
unread_of FurtherWord = Further

-- what was found, with the lists that the buffers begin with
abbrev pub asked_words : List ℕ → List ℤ → Result Asked Found → Words Word Request
asked_words ks vs (Ok a) = asks (record { schedule = take a.schedule ks; values = take a.values vs; most = a.most; log = a.log })
asked_words ks vs (Err w) = unread (word_of w)

-- the counts are those given, and the log is not too long
abbrev pub NumbersFit : ℕ → ℕ → Asked → Type 0
NumbersFit i j a = (a.schedule ≡ i) × (a.values ≡ j) × (a.log ≤ most_bytes)

-- the lists are in their buffers, and the log is not too long
abbrev pub Fits : List ℕ → List ℤ → Asked → Type 0
Fits ks vs a = (a.schedule ≤ length ks) × (a.values ≤ length vs) × (a.log ≤ most_bytes)
