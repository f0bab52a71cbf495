-- Laws of the words, one after another, and of the answer.
use Rattle.std.specs.Prelude.{ℕ, zero, suc, ◌-◌, ◌≤◌, ◌≡◌, List, [], ◌∷◌, length, take, replicate, Result, Ok, Err, IfOk, ℤ}
use Rattle.std.proofs.Math.Path.{refl, ap}
use Rattle.std.proofs.Common.{sym, subst, ◌∙◌, arith, take_all}
use Rattle.std.proofs.Math.Option.{none, some}
use Rattle.machine.specs.Words.{unread, next, given, said_up_to, Answer as Answered}
use Rattle.machine.proofs.WordLaws.{next_missing, next_unread, next_said}
use Rattle.machine.specs.Program.{schedule, values, most, said_value, said_items, most_items, most_nodes, most_bytes, said, word_line, run_text, answer_for, run_answer}
use Rattle.put.specs.Put.{Put}
use Rattle.put.specs.PutLaws.{put_more}
use Rattle.arguments.specs.Answers.{AnswerPut}
use Rattle.arguments.specs.declared.Answer.TheVariants.{Prints, Says}
use Rattle.log_word.specs.declared.Unread.{Unread}
use Rattle.log_word.specs.declared.Unread.TheVariants.{Log as NoLog, Further as FurtherWord}
use Rattle.log_word.specs.Words.{from_log, rest_words}
use Rattle.run_words.specs.declared.Word.{Word as Found}
use Rattle.run_words.specs.declared.Word.TheVariants.{Most}
use Rattle.run_words.specs.declared.Asked.{Asked}
use Rattle.run_words.specs.Words.{from_most, from_values, word_of, unread_of, asked_words, NumbersFit, Fits}

-- ---- all the words

module _ (y x c d : List ℕ) (n : ℕ) where
  abbrev all_words : List (List ℕ)
  all_words = given n (y ∷ x ∷ c ∷ d ∷ [])

  all_said : said all_words ≡ next schedule (said_items most_items (said_up_to 255)) all_words (λ ks ys. from_values ks ys)
  unfolding said
  all_said = refl

  pub schedule_missing : n ≡ 0 → said all_words ≡ unread schedule
  schedule_missing h = all_said ∙ next_missing schedule (said_items most_items (said_up_to 255)) (λ ks ys. from_values ks ys) y (x ∷ c ∷ d ∷ []) n h

  module _ (h : n ≡ 0 → ⊥) (l : List ℕ) (e : most_items ≡ length l) where
    pub schedule_unread : said_items (length l) (said_up_to 255) y ≡ none → said all_words ≡ unread schedule
    schedule_unread q = all_said ∙ next_unread schedule (said_items most_items (said_up_to 255)) (λ ks ys. from_values ks ys) y (x ∷ c ∷ d ∷ []) n h (rw (← e) at q)

    module _ {ks : List ℕ} (q : said_items (length l) (said_up_to 255) y ≡ some ks) where
      schedule_said : said all_words ≡ from_values ks (given (n - 1) (x ∷ c ∷ d ∷ []))
      schedule_said = all_said ∙ next_said schedule (said_items most_items (said_up_to 255)) (λ ks ys. from_values ks ys) y (x ∷ c ∷ d ∷ []) n h (rw (← e) at q)

      pub values_missing : n - 1 ≡ 0 → said all_words ≡ unread values
      values_missing g = schedule_said ∙ next_missing values (said_items most_items said_value) (λ vs ys. from_most ks vs ys) x (c ∷ d ∷ []) (n - 1) g

      module _ (g : n - 1 ≡ 0 → ⊥) (k : List ℤ) (i : most_items ≡ length k) where
        pub values_unread : said_items (length k) said_value x ≡ none → said all_words ≡ unread values
        values_unread u = schedule_said ∙ next_unread values (said_items most_items said_value) (λ vs ys. from_most ks vs ys) x (c ∷ d ∷ []) (n - 1) g (rw (← i) at u)

        pub lists_said : {vs : List ℤ} → said_items (length k) said_value x ≡ some vs → said all_words ≡ from_most ks vs (given (n - 1 - 1) (c ∷ d ∷ []))
        lists_said u = schedule_said ∙ next_said values (said_items most_items said_value) (λ vs ys. from_most ks vs ys) x (c ∷ d ∷ []) (n - 1) g (rw (← i) at u)

pub lists_fit : {a b : ℕ} (ks : List ℕ) (vs : List ℤ) (r : Result Asked Found) → a ≤ length ks → b ≤ length vs → IfOk r (NumbersFit a b) → IfOk r (Fits ks vs)
lists_fit ks vs (Ok x) h g f = (omega (arith, f.0), omega (arith, f.1), f.2)
lists_fit ks vs (Err w) h g f = tt

-- ---- the log buffer

abbrev zs : ℕ → List ℕ
zs n = replicate n 0

first_zeros : (b k : ℕ) → k ≤ b → take k (zs b) ≡ zs k
first_zeros b zero h = refl
first_zeros zero (suc k) h = absurd (omega arith)
first_zeros (suc b) (suc k) h = ap (λ (l : List ℕ). 0 ∷ l) (first_zeros b k (omega arith))

count_zeros : (k : ℕ) → length (zs k) ≡ k
count_zeros zero = refl
count_zeros (suc k) = ap suc (count_zeros k)

zeros : (b k : ℕ) {l : List ℕ} → l ≡ zs b → k ≤ b → take b (take k l) ≡ zs k
zeros b k {l} e h = ap (λ (x : List ℕ). take b (take k x)) e ∙ ap (take b) (first_zeros b k h) ∙ take_all b (zs k) (omega (arith, count_zeros k))

pub within : (b : ℕ) {k : ℕ} {l : List ℕ} → l ≡ zs b → k ≤ b → k ≤ length l
within b {k} {l} e h = let c : length l ≡ b = ap length e ∙ count_zeros b in omega arith

pub log_zeros : (s ks : List ℕ) (vs : List ℤ) (m k : ℕ) {l b a : List ℕ} {i r : ℕ} → l ≡ zs most_bytes → k ≤ most_bytes
    → Put i b 0 (run_text s ks vs m (take most_bytes (take k l))) a r → Put i b 0 (run_text s ks vs m (zs k)) a r
log_zeros s ks vs m k {l} {b} {a} {i} {r} e h p = subst (λ (y : List ℕ). Put i b 0 (run_text s ks vs m y) a r) (zeros most_bytes k e h) p

-- ---- the answer

pub line_of : {k r : ℕ} {l m : List ℕ} {w x : Found} → w ≡ x → k ≤ 256 → Put k l 0 (word_line (word_of x)) m r → Put 256 l 0 (word_line (word_of w)) m r
line_of e h p = rw e (put_more h p)

module _ (ws : List (List ℕ)) (s ks : List ℕ) (vs : List ℤ) where
  answered : (x : Result Asked Found) → said ws ≡ asked_words ks vs x → run_answer ws s ≡ answer_for (asked_words ks vs x) s
  unfolding run_answer
  answered x e = ap (λ u. answer_for u s) e

  pub answer_run : (a : Asked) → said ws ≡ asked_words ks vs (Ok a)
      → {l o : List ℕ} {n : ℕ} → Put 5925000 l 0 (run_text s (take a.schedule ks) (take a.values vs) a.most (replicate a.log 0)) o n → AnswerPut 5925000 l (run_answer ws s) o (Prints n)
  answer_run a e {l} {o} {n} p = subst (λ (u : Answered). AnswerPut 5925000 l u o (Prints n)) (sym (answered (Ok a) e)) p

  pub answer_unread : (w : Found) → said ws ≡ asked_words ks vs (Err w) → {l o : List ℕ} {n : ℕ} → Put 256 l 0 (word_line (word_of w)) o n → AnswerPut 5925000 l (run_answer ws s) o (Says n)
  answer_unread w e {l} {o} {n} p =
      let q : Put 5925000 l 0 (word_line (word_of w)) o n = put_more (omega arith) p in
      subst (λ (u : Answered). AnswerPut 5925000 l u o (Says n)) (sym (answered (Err w) e)) q
