-- Sets of ordinals as words: which ordinal is the lowest, and the numbers of the words that aren't 0.
use Rattle.std.proofs.Common.{◌≡◌, ◌≢◌, inl, inr, ℕ, zero, suc, ◌+◌, ◌*◌, ◌/◌, ◌%◌, ◌^◌, ◌<◌, ◌≤◌, ◌==◌, if◌then◌else◌, true, false, List, length, replicate, slice_index, refl, ap, sym, subst, ◌∙◌, arith}
use Rattle.std.specs.Int.{bit_at, w64, trailing_zeros}
use Rattle.std.proofs.Math.ListN.{get_or-eq_default}
use Rattle.std.proofs.lemmas.Bool.{cases_eq, cases_lt, false≢true}
use Rattle.std.proofs.lemmas.Nat.Bits.{bit_at-zero, bit_at-trailing_zeros}
use Rattle.std.proofs.lemmas.List.{length-replicate, get_or-replicate}
use Rattle.kz_queue.specs.Ordinals.{has, IsFirstWord, IsLowest, IsSummed}

-- a word that is 0 has no ordinal
has_none : (words : List ℕ) (ordinal : ℕ) → slice_index words (ordinal / 64) ≡ 0 → has words ordinal ≡ false
has_none words ordinal none = ap (λ word. bit_at word (ordinal % 64) == 1) none ∙ ap (λ n. n == 1) (bit_at-zero (ordinal % 64))

-- ---- the lowest ordinal

-- the lowest bit of the first word that isn't 0 is the lowest ordinal
pub lowest_there : (words : List ℕ) (word : ℕ) → IsFirstWord words word → slice_index words word < 2 ^ 64 → IsLowest words (64 * word + trailing_zeros w64 (slice_index words word))
lowest_there words word first fits =
    let t = bit_at-trailing_zeros w64 (slice_index words word) first.some fits in
    let bit = trailing_zeros w64 (slice_index words word) in
    let bit_is : (64 * word + bit) % 64 ≡ bit = omega (arith, t.0) in
    let word_is : (64 * word + bit) / 64 ≡ word = omega (arith, t.0) in
    record {
      within = omega (arith, t.0, first.there);
      there = ap (λ w. bit_at (slice_index words w) ((64 * word + bit) % 64) == 1) word_is ∙ ap (λ b. bit_at (slice_index words word) b == 1) bit_is ∙ ap (λ n. n == 1) t.1;
      none_before = λ other lt. elim (cases_eq (other / 64) word) [
        | inl same ↦
            let below : other % 64 < bit = omega (arith, lt, same, t.0) in
            ap (λ w. bit_at (slice_index words w) (other % 64) == 1) same ∙ ap (λ n. n == 1) (t.2 (other % 64) below)
        | inr differ ↦ has_none words other (first.none_before (other / 64) (omega (arith, lt, differ, t.0)))
      ];
    }

-- ---- the summary

-- its lowest number is that of the first word that isn't 0
pub first_summed : (words summary : List ℕ) (word : ℕ) → IsSummed words summary → IsLowest summary word → IsFirstWord words word
first_summed words summary word s low =
    let within : word < length words = elim (cases_lt word (length words)) [
      | inl lt ↦ lt
      | inr far ↦ absurd (false≢true (sym (s.beyond word low.within far) ∙ low.there))
    ] in
    record {
      there = within;
      some = s.there word within low.there;
      none_before = λ other lt. s.not_there other (omega (arith, lt, within)) (low.none_before other lt);
    }

-- where it is empty there is no ordinal
pub none_summed : (words summary : List ℕ) → IsSummed words summary → ((word : ℕ) → word < length summary → slice_index summary word ≡ 0) → (ordinal : ℕ) → ordinal < 64 * length words → has words ordinal ≡ false
none_summed words summary s none ordinal lt =
    let word : ordinal / 64 < length words = omega (arith, lt) in
    let sum : ordinal / 64 / 64 < length summary = omega (arith, word, s.covered) in
    has_none words ordinal (s.not_there (ordinal / 64) word (has_none summary (ordinal / 64) (none (ordinal / 64 / 64) sum)))

zero_at : (many place : ℕ) → slice_index (replicate many 0) place ≡ 0
zero_at many place = elim (cases_lt place many) [
  | inl lt ↦ get_or-replicate many place 0 0 lt
  | inr far ↦
      let past : length (replicate {A = ℕ} many 0) ≤ place = omega (arith, far, length-replicate {A = ℕ} many 0) in
      get_or-eq_default (replicate many 0) 0 past
]

pub summed_none : (words sums : ℕ) → words ≤ 2 ^ 26 → sums ≤ 2 ^ 26 → words ≤ 64 * sums → IsSummed (replicate words 0) (replicate sums 0)
summed_none words sums few few_sums covered =
    let long = length-replicate {A = ℕ} words 0 in
    let long_sums = length-replicate {A = ℕ} sums 0 in
    let no_sum = λ (word : ℕ). has_none (replicate sums 0) word (zero_at sums (word / 64)) in
    record {
      few = omega (arith, few, long);
      few_sums = omega (arith, few_sums, long_sums);
      covered = omega (arith, covered, long, long_sums);
      there = λ word lt some. absurd (false≢true (sym (no_sum word) ∙ some));
      not_there = λ word lt none. zero_at words word;
      beyond = λ word lt far. no_sum word;
    }

-- a word that changes, with its number in the summary
summed_with : (words new summary after : List ℕ) (word : ℕ) → IsSummed words summary → word < length words → length new ≡ length words → length after ≡ length summary →
    ((other : ℕ) → other ≢ word → slice_index new other ≡ slice_index words other) → ((other : ℕ) → other < 64 * length summary → other ≢ word → has after other ≡ has summary other) →
    (has after word ≡ true → 0 < slice_index new word) → (has after word ≡ false → slice_index new word ≡ 0) → IsSummed new after
summed_with words new summary after word s within long long_sums others other_sums some none =
    record {
      few = omega (arith, s.few, long);
      few_sums = omega (arith, s.few_sums, long_sums);
      covered = omega (arith, s.covered, long, long_sums);
      there = λ other lt is. elim (cases_eq other word) [
        | inl e ↦ subst (λ n. 0 < slice_index new n) (sym e) (some (subst (λ n. has after n ≡ true) e is))
        | inr ne ↦ subst (λ n. 0 < n) (sym (others other ne)) (s.there other (omega (arith, lt, long)) (sym (other_sums other (omega (arith, lt, long, s.covered)) ne) ∙ is))
      ];
      not_there = λ other lt is. elim (cases_eq other word) [
        | inl e ↦ subst (λ n. slice_index new n ≡ 0) (sym e) (none (subst (λ n. has after n ≡ false) e is))
        | inr ne ↦ others other ne ∙ s.not_there other (omega (arith, lt, long)) (sym (other_sums other (omega (arith, lt, long, s.covered)) ne) ∙ is)
      ];
      beyond = λ other lt far.
          let apart : other ≢ word = λ e. absurd (omega (arith, far, within, long, e)) in
          other_sums other (omega (arith, lt, long_sums)) apart ∙ s.beyond other (omega (arith, lt, long_sums)) (omega (arith, far, long));
    }

apart : (m n : ℕ) → m ≢ n → (m == n) ≡ false
apart m n ne = grind arith

module _ (words new summary after : List ℕ) (word : ℕ) (s : IsSummed words summary) (within : word < length words) (long : length new ≡ length words)
    (others : (other : ℕ) → other ≢ word → slice_index new other ≡ slice_index words other) where
  same : (word == word) ≡ true
  same = grind arith

  in_summary : word < 64 * length summary
  in_summary = omega (arith, within, s.covered)

  -- the word has an ordinal, and its number is taken into the summary
  pub summed_more : length after ≡ length summary → ((other : ℕ) → other < 64 * length summary → has after other ≡ (if other == word then true else has summary other)) → 0 < slice_index new word → IsSummed new after
  summed_more long_sums sums some =
      let here : has after word ≡ true = sums word in_summary ∙ ap (λ b. if b then true else has summary word) same in
      summed_with words new summary after word s within long long_sums others (λ other lt ne. sums other lt ∙ ap (λ b. if b then true else has summary other) (apart other word ne)) (λ _. some)
      (λ none. absurd (false≢true (sym none ∙ here)))

  -- the word has none, and its number is let go
  pub summed_less : length after ≡ length summary → ((other : ℕ) → other < 64 * length summary → has after other ≡ (if other == word then false else has summary other)) → slice_index new word ≡ 0 → IsSummed new after
  summed_less long_sums sums none =
      let here : has after word ≡ false = sums word in_summary ∙ ap (λ b. if b then false else has summary word) same in
      summed_with words new summary after word s within long long_sums others (λ other lt ne. sums other lt ∙ ap (λ b. if b then false else has summary other) (apart other word ne))
      (λ some. absurd (false≢true (sym here ∙ some))) (λ _. none)

  -- the word had ordinals, and still has some
  pub summed_still : slice_index new word ≤ slice_index words word → 0 < slice_index new word → IsSummed new summary
  summed_still less some =
      summed_with words new summary summary word s within long refl others (λ other lt ne. refl) (λ _. some)
      (λ none. absurd (omega (arith, less, some, s.not_there word within none)))

-- a word with a bit isn't 0
pub some_of_bit : (word bit : ℕ) → bit_at word bit ≡ 1 → 0 < word
some_of_bit zero bit is = absurd (omega (arith, is, bit_at-zero bit))
some_of_bit (suc word) bit is = omega arith
