-- Laws of the words, one after another, and of searches of growing bounds.
use Rattle.std.specs.Prelude.{ℕ, ◌-◌, ◌≤◌, ◌≡◌, List, [], ◌∷◌, Result, Ok, Err}
use Rattle.std.proofs.Math.Path.{refl, ap}
use Rattle.std.proofs.Common.{sym, ◌∙◌, subst, arith}
use Rattle.std.proofs.Math.Option.{none, some}
use Rattle.table.specs.declared.Table.{Table}
use Rattle.closing.specs.Program.{refused_line}
use Rattle.machine.specs.Words.{Words, asks, unread, next, last, given, said_up_to}
use Rattle.machine.specs.Words.{Answer as Answered}
use Rattle.machine.proofs.WordLaws.{next_missing, next_unread, next_said, last_asks, last_further}
use Rattle.exploring.specs.declared.Exploring.{Exploring}
use Rattle.exploring.proofs.AnswerLaws.{explore_more}
use Rattle.exploring.specs.Program.{Word, Request, depth, bound, further, most_steps, said, word_line, answer_text, explored_text, explore_text, answer_for, explore_answer}
use Rattle.put.specs.Put.{Put}
use Rattle.put.specs.PutLaws.{put_more}
use Rattle.arguments.specs.Answers.{AnswerPut}
use Rattle.arguments.specs.declared.Answer.TheVariants.{Prints, Says}
use Rattle.explore_text.specs.Text.{Answered as AnswerFor, Met}
use Rattle.explore_text.specs.TextLaws.{prints_bound}
use Rattle.explore_words.specs.declared.Word.{Word as Found}
use Rattle.explore_words.specs.declared.Asked.{Asked}
use Rattle.explore_words.specs.Words.{word_of, asked_words}

-- ---- the words

module _ (y x : List ℕ) (n : ℕ) where
  abbrev all_words : List (List ℕ)
  all_words = given n (y ∷ x ∷ [])

  abbrev depth_then : ℕ → List (List ℕ) → Words Word Request
  depth_then d xs = next bound (said_up_to most_steps) xs (λ b ys. last further (record { depth = d; bound = b }) ys)

  all_said : said all_words ≡ next depth (said_up_to most_steps) all_words depth_then
  unfolding said
  all_said = refl

  pub depth_missing : n ≡ 0 → said all_words ≡ unread depth
  depth_missing h = all_said ∙ next_missing depth (said_up_to most_steps) depth_then y (x ∷ []) n h

  module _ (h : n ≡ 0 → ⊥) where
    pub depth_unread : said_up_to most_steps y ≡ none → said all_words ≡ unread depth
    depth_unread e = all_said ∙ next_unread depth (said_up_to most_steps) depth_then y (x ∷ []) n h e

    module _ {d : ℕ} (e : said_up_to most_steps y ≡ some d) where
      abbrev bound_then : ℕ → List (List ℕ) → Words Word Request
      bound_then b ys = last further (record { depth = d; bound = b }) ys

      depth_said : said all_words ≡ next bound (said_up_to most_steps) (given (n - 1) (x ∷ [])) bound_then
      depth_said = all_said ∙ next_said depth (said_up_to most_steps) depth_then y (x ∷ []) n h e

      pub bound_missing : n - 1 ≡ 0 → said all_words ≡ unread bound
      bound_missing g = depth_said ∙ next_missing bound (said_up_to most_steps) bound_then x [] (n - 1) g

      module _ (g : n - 1 ≡ 0 → ⊥) where
        pub bound_unread : said_up_to most_steps x ≡ none → said all_words ≡ unread bound
        bound_unread q = depth_said ∙ next_unread bound (said_up_to most_steps) bound_then x [] (n - 1) g q

        pub words_further : {b : ℕ} → said_up_to most_steps x ≡ some b → (n - 1 ≡ 1 → ⊥) → said all_words ≡ unread further
        words_further {b} q u = depth_said ∙ next_said bound (said_up_to most_steps) bound_then x [] (n - 1) g q ∙ last_further further (record { depth = d; bound = b }) (n - 1) g u

        pub words_ask : {b : ℕ} → said_up_to most_steps x ≡ some b → n - 1 ≡ 1 → said all_words ≡ asks (record { depth = d; bound = b })
        words_ask {b} q u = depth_said ∙ next_said bound (said_up_to most_steps) bound_then x [] (n - 1) g q ∙ last_asks further (record { depth = d; bound = b }) (n - 1) u

-- ---- the answer

pub line_of : {k r : ℕ} {l m : List ℕ} {w x : Found} → w ≡ x → k ≤ 256 → Put k l 0 (word_line (word_of x)) m r → Put 256 l 0 (word_line (word_of w)) m r
line_of e h p = rw e (put_more h p)

module _ (ws : List (List ℕ)) (s : List ℕ) where
  answered : (x : Result Asked Found) → said ws ≡ asked_words x → explore_answer ws s ≡ answer_for (asked_words x) s
  unfolding explore_answer
  answered x e = ap (λ u. answer_for u s) e

  pub answer_search : (a : Asked) → said ws ≡ asked_words (Ok a) → {l o : List ℕ} {n : ℕ} → Put 131072 l 0 (explore_text s a.depth a.bound) o n → AnswerPut 131072 l (explore_answer ws s) o (Prints n)
  answer_search a e {l} {o} {n} p = subst (λ (u : Answered). AnswerPut 131072 l u o (Prints n)) (sym (answered (Ok a) e)) p

  pub answer_unread : (w : Found) → said ws ≡ asked_words (Err w) → {l o : List ℕ} {n : ℕ} → Put 256 l 0 (word_line (word_of w)) o n → AnswerPut 131072 l (explore_answer ws s) o (Says n)
  answer_unread w e {l} {o} {n} p =
      let q : Put 131072 l 0 (word_line (word_of w)) o n = put_more (omega arith) p in
      subst (λ (u : Answered). AnswerPut 131072 l u o (Says n)) (sym (answered (Err w) e)) q

-- ---- searches of growing bounds: those in vain print nothing

module _ {t : Table} {d most m : ℕ} {out₀ out out' : List ℕ} (e : out ≡ out₀) (l : m ≤ most) where
  -- a smaller bound that suffices gives the same answer
  pub loud_printed : {len : ℕ} → AnswerFor t d m out out' len → Put 131072 out₀ 0 (explored_text t d most) out' len
  loud_printed {len} h = rw (← e) (subst (λ (x : Exploring). Put 131072 out 0 (answer_text t x x.number) out' len) (explore_more t d m most l h.enough) h.printed)

  module _ (h : Met t d m out out') where
    pub loud_same : out' ≡ out₀
    loud_same = h.same ∙ e

    -- the bound asked for is met
    pub loud_bound : {out'' : List ℕ} {len : ℕ} → most ≤ m → Put 38 out' 0 (refused_line 18 0) out'' len → Put 131072 out₀ 0 (explored_text t d most) out'' len
    loud_bound g p = let q : most ≡ m = omega arith in rw (← e, q) (prints_bound h p)
