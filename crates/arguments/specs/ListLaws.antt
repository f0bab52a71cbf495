-- Laws of a word's list, item by item: each says what a step of the code shows.
use Rattle.std.specs.Prelude.{ℕ, ◌+◌, ◌≤◌, ◌<◌, ◌≡◌, refl, Bool, true, false, leb, length, set, take, drop, None, Some}
use Rattle.std.proofs.Math.Path.{sym, ap}
use Rattle.std.proofs.Common.{◌∙◌, arith, add-one, length-append}
use mathlib.Core.List.{List, [], ◌∷◌, ◌++◌, append-nil, append_assoc}
use Rattle.std.proofs.Math.Option.{Option, none, some}
use Rattle.std.proofs.lemmas.List.Edits.{sets, sets-eq}
use Rattle.std.proofs.Math.Seq.{length-sets, take-append_seam}
use borrow.Author.Tests.{le-leb, lt-leb, lt-ltb, le-ltb, leb-true}
use Rattle.table.specs.Cases.{cases}
use Rattle.table.specs.Mask.{pick}
use Rattle.table.specs.Places.{sets_append, sets_out}
use Rattle.text.specs.Number.{bytes}
use Rattle.text.specs.Value.{same, split, each, followed}
use Rattle.machine.specs.Words.{filtered}
use Rattle.machine.specs.Program.{said_items}
use Rattle.lists.specs.Items.{CommaAt, part, more, next_comma}
use Rattle.lists.specs.ItemLaws.{comma_split, comma_here}
use Rattle.arguments.specs.ItemLaws.{heard_some, heard_none}
use Rattle.arguments.specs.Answers.{answer_of, count_of, before, leading_of, leading}

-- ---- the items so far

abbrev prefixed : {A : Type 0} → List A → Option (List A) → Option (List A)
prefixed xs none = none
prefixed xs (some ys) = some (xs ++ ys)

prefixed_none : {A : Type 0} (o : Option (List A)) → o ≡ prefixed [] o
prefixed_none none = refl
prefixed_none (some xs) = refl

prefixed_more : {A : Type 0} (xs : List A) (x : A) (o : Option (List A)) → prefixed xs (followed (some x) o) ≡ prefixed (xs ++ (x ∷ [])) o
prefixed_more xs x none = refl
prefixed_more xs x (some ys) = ap some (sym (append_assoc xs (x ∷ []) ys))

module _ {A : Type 0} where
  -- the items before a place of the word are stored
  pub record Taking (f : List ℕ → Option A) (w : List ℕ) (l m : List A) (from n : ℕ) : Type 0 where
    pub passed : List A
    pub count : length passed ≡ n
    pub fits : n ≤ length l
    pub within : from ≤ length w
    pub list : same (bytes "none") w ≡ false
    pub stored : m ≡ sets l 0 passed
    pub lead : leading_of f (split w) ≡ passed ++ leading_of f (split (drop from w))
    pub says : each f (split w) ≡ prefixed passed (each f (split (drop from w)))

  module _ (f : List ℕ → Option A) (w : List ℕ) (l : List A) {b : Bool} (d : b ≡ same (bytes "none") w) where
    pub none_answer : b ≡ true → Some 0 ≡ answer_of (count_of (said_items (length l) f w))
    unfolding said_items
    none_answer e = rw (← d, e, le-leb 0 (length l) (omega arith))

    pub none_list : b ≡ true → l ≡ sets l 0 (leading f w)
    none_list e = rw (← d, e)

    pub taking_start : b ≡ false → Taking f w l l 0 0
    taking_start e = record
        { passed = []; count = refl; fits = omega arith; within = omega arith; list = sym d ∙ e; stored = refl; lead = refl; says = prefixed_none (each f (split w)) }

  module _ {f : List ℕ → Option A} {w : List ℕ} {l m : List A} {from n : ℕ} (a : Taking f w l m from n) where
    pub taking_same : length m ≡ length l
    taking_same = ap length a.stored ∙ length-sets l 0 a.passed

    answer : (o : Option (List A)) → each f (split w) ≡ o → count_of (said_items (length l) f w) ≡ count_of (filtered (λ xs. leb (length xs) (length l)) o)
    unfolding said_items
    answer o e = rw (a.list, e)

    lead_is : (xs : List A) → leading_of f (split w) ≡ xs → leading f w ≡ xs
    lead_is xs e = rw a.list e

    -- an item that says nothing
    module _ {to : ℕ} (c : CommaAt w from to) (e : f (part w from to) ≡ none) where
      bad : count_of (said_items (length l) f w) ≡ none
      unfolding each
      bad = answer none (a.says ∙ rw (comma_split c, e))

      pub bad_answer : None ≡ answer_of (count_of (said_items (length l) f w))
      bad_answer = ap answer_of (sym bad)

      pub bad_list : m ≡ sets l 0 (leading f w)
      unfolding leading_of
      bad_list = a.stored ∙ ap (sets l 0) (sym (lead_is a.passed (a.lead ∙ rw (comma_split c, e) (append-nil a.passed))))

    module _ {to : ℕ} (c : CommaAt w from to) {x : A} (e : f (part w from to) ≡ some x) where
      lead_more : leading_of f (split w) ≡ a.passed ++ (x ∷ leading_of f (more w to))
      unfolding leading_of
      lead_more = a.lead ∙ rw (comma_split c, e)

      says_more : each f (split w) ≡ prefixed (a.passed ++ (x ∷ [])) (each f (more w to))
      unfolding each
      says_more = a.says ∙ rw (comma_split c, e) (prefixed_more a.passed x (each f (more w to)))

      longer : length (a.passed ++ (x ∷ [])) ≡ n + 1
      longer = length-append a.passed (x ∷ []) ∙ ap (λ (k : ℕ). k + 1) a.count

      over : length l ≤ n → count_of (said_items (length l) f w) ≡ none
      over h = answer _ says_more ∙ go (each f (more w to))
        where
          go : (o : Option (List A)) → count_of (filtered (λ xs. leb (length xs) (length l)) (prefixed (a.passed ++ (x ∷ [])) o)) ≡ none
          go none = refl
          go (some ys) = rw (lt-leb (length ((a.passed ++ (x ∷ [])) ++ ys)) (length l) (omega (arith, length-append (a.passed ++ (x ∷ [])) ys, longer)))

      over_list : length l ≤ n → m ≡ sets l 0 (leading f w)
      over_list h =
          let z : 0 + length a.passed ≡ n = omega (arith, a.count) in
          let r = leading_of f (more w to) in
          a.stored ∙ sym (ap (sets l 0) (lead_is _ lead_more) ∙ sets_append a.passed (x ∷ r) l 0
          ∙ sets_out (x ∷ r) (sets l 0 a.passed) (0 + length a.passed) (omega (arith, length-sets l 0 a.passed)))

      stores : set m n x ≡ sets l 0 (a.passed ++ (x ∷ []))
      stores =
          let z : 0 + length a.passed ≡ n = omega (arith, a.count) in
          rw (sets_append a.passed (x ∷ []) l 0, z, a.stored)

      -- the last item
      module _ (h : n < length l) (k : length w ≤ to) where
        no_more : more w to ≡ []
        no_more = rw (le-ltb to (length w) k)

        pub last_answer : Some (n + 1) ≡ answer_of (count_of (said_items (length l) f w))
        unfolding each
        last_answer =
            let q : each f (split w) ≡ some (a.passed ++ (x ∷ [])) = says_more ∙ ap (λ (s : List (List ℕ)). prefixed (a.passed ++ (x ∷ [])) (each f s)) no_more ∙ ap some (append-nil (a.passed ++ (x ∷ []))) in
            let u : count_of (said_items (length l) f w) ≡ some (n + 1) = answer _ q ∙ rw (le-leb (length (a.passed ++ (x ∷ []))) (length l) (omega (arith, longer))) (ap some longer) in
            ap answer_of (sym u)

        pub last_list : set m n x ≡ sets l 0 (leading f w)
        unfolding leading_of
        last_list = stores ∙ ap (sets l 0) (sym (lead_is _ (lead_more ∙ ap (λ (s : List (List ℕ)). a.passed ++ (x ∷ leading_of f s)) no_more)))

      -- one more item
      pub taking_turn : n < length l → to < length w → Taking f w l (set m n x) (to + 1) (n + 1)
      taking_turn h k =
          let s : more w to ≡ split (drop (to + 1) w) = rw (add-one to, lt-ltb to (length w) k) in
          record {
            passed = a.passed ++ (x ∷ []);
            count = longer;
            fits = omega arith;
            within = omega arith;
            list = a.list;
            stored = stores;
            lead = lead_more ∙ sym (append_assoc a.passed (x ∷ []) _) ∙ ap (λ (r : List (List ℕ)). (a.passed ++ (x ∷ [])) ++ leading_of f r) s;
            says = says_more ∙ ap (λ (r : List (List ℕ)). prefixed (a.passed ++ (x ∷ [])) (each f r)) s;
          }

    -- the lent list is full, and there is an item more
    module _ (h : length l ≤ n) where
      here : CommaAt w from (next_comma w from)
      here = comma_here w from a.within

      pub full_answer : None ≡ answer_of (count_of (said_items (length l) f w))
      full_answer = go (f (part w from (next_comma w from))) refl
        where
          go : (o : Option A) → f (part w from (next_comma w from)) ≡ o → None ≡ answer_of (count_of (said_items (length l) f w))
          go none e = bad_answer here e
          go (some x) e = ap answer_of (sym (over here e h))

      pub full_list : m ≡ sets l 0 (leading f w)
      full_list = go (f (part w from (next_comma w from))) refl
        where
          go : (o : Option A) → f (part w from (next_comma w from)) ≡ o → m ≡ sets l 0 (leading f w)
          go none e = bad_list here e
          go (some x) e = over_list here e h

-- ---- what a caller gets

leading_each : {A : Type 0} (f : List ℕ → Option A) (ss : List (List ℕ)) {xs : List A} → each f ss ≡ some xs → leading_of f ss ≡ xs
unfolding each leading_of
leading_each f [] e = cc
leading_each {A} f (s ∷ ss) {xs} e = go (f s) (each f ss) (λ ys q. leading_each f ss q) e
  where
    go : (x : Option A) (o : Option (List A)) → ((ys : List A) → o ≡ some ys → leading_of f ss ≡ ys) → followed x o ≡ some xs → before x (leading_of f ss) ≡ xs
    go none o h q = absurd (let z : ◌≡◌ {A = ℕ} 0 1 = cc in omega arith)
    go (some x) none h q = absurd (let z : ◌≡◌ {A = ℕ} 0 1 = cc in omega arith)
    go (some x) (some ys) h q = let p : x ∷ ys ≡ xs = cc in ap (λ (r : List A). x ∷ r) (h ys refl) ∙ p

filtered_is : {A : Type 0} (m : ℕ) (o : Option (List A)) {xs : List A} → filtered (λ ys. leb (length ys) m) o ≡ some xs → (o ≡ some xs) × (length xs ≤ m)
filtered_is m none e = absurd (let z : ◌≡◌ {A = ℕ} 0 1 = cc in omega arith)
filtered_is {A} m (some ys) {xs} e =
    cases (leb (length ys) m)
    (λ h. let q : some ys ≡ some xs = rw h at e in let p : ys ≡ xs = cc in (q, rw (← p) (leb-true (length ys) m h)))
    (λ h. absurd (let q : none ≡ some xs = rw h at e in let z : ◌≡◌ {A = ℕ} 0 1 = cc in omega arith))

module _ {A : Type 0} (f : List ℕ → Option A) (w : List ℕ) where
  leading_said : (m : ℕ) {xs : List A} → said_items m f w ≡ some xs → (leading f w ≡ xs) × (length xs ≤ m)
  unfolding said_items
  leading_said m {xs} e =
      let k = filtered_is m (pick (same (bytes "none") w) (some []) (each f (split w))) e in (
        cases (same (bytes "none") w)
            (λ h. let q : some [] ≡ some xs = rw h at k.0 in rw h (cc))
            (λ h. let q : each f (split w) ≡ some xs = rw h at k.0 in rw h (leading_each f (split w) q)),
        k.1,
      )

  -- the list that the word says stands in the buffer, and the answer is its length
  pub list_read : (l : List A) {m : List A} {n : ℕ} → Some n ≡ answer_of (count_of (said_items (length l) f w)) → m ≡ sets l 0 (leading f w)
      → (said_items (length l) f w ≡ some (take n m)) × (n ≤ length m)
  list_read l {m} {n} d e = go (said_items (length l) f w) refl (heard_some _ d)
    where
      go : (o : Option (List A)) → said_items (length l) f w ≡ o → count_of o ≡ some n → (o ≡ some (take n m)) × (n ≤ length m)
      go none h c = absurd (let z : ◌≡◌ {A = ℕ} 0 1 = cc in omega arith)
      go (some xs) h c =
          let k = leading_said (length l) h in
          let i : length xs ≡ n = cc in
          let z : 0 + length xs ≡ n = omega arith in
          let v : m ≡ xs ++ drop (0 + length xs) l = e ∙ ap (sets l 0) k.0 ∙ sets-eq xs l 0 (omega (arith, k.1)) in
          (ap some (sym (rw (v, ← i) (take-append_seam xs _))), omega (arith, ap length v, length-append xs (drop (0 + length xs) l)))

  pub list_unread : (l : List A) → None ≡ answer_of (count_of (said_items (length l) f w)) → said_items (length l) f w ≡ none
  list_unread l d = go (said_items (length l) f w) (heard_none _ d)
    where
      go : (o : Option (List A)) → count_of o ≡ none → o ≡ none
      go none c = refl
      go (some xs) c = absurd (let z : ◌≡◌ {A = ℕ} 0 1 = cc in omega arith)
