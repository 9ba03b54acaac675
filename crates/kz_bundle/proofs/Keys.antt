-- Short texts packed into numbers, and what an index finds after one more text.
use Rattle.std.proofs.Common.{◌≡◌, ◌≢◌, ◌⊎◌, ℕ, ◌<◌, ◌≤◌, true, false, List, [], ◌∷◌, length, Some, cond, nat_eq, nat_le, get_or, Fits, w8, refl, ap, sym, ◌∙◌, inl, inr, rules, arith, tests}
use Rattle.std.specs.Map.{lookup}
use Rattle.std.specs.Str.{bytes_eq}
use Rattle.std.specs.HashMap as hash
use Rattle.std.specs.Cmp.Lexicographic.{bytes_decides}
use Rattle.std.proofs.lemmas.Bool.{cases_Bool, cases_lt, cond-true, cond-false}
use Rattle.std.proofs.lemmas.Bool.Decides.{Decides-eqb, same_from_decides}
use Rattle.std.proofs.lemmas.List.Elements.{All-head, All-tail, All-from_get_or}
use Rattle.std.proofs.lemmas.Map.Text.{hash_map_updates_str}
use Rattle.kz_bundle.specs.declared.form.index.Index.{Index}
use Rattle.kz_bundle.specs.Table.{AreBytes, key_of, found}

-- the elements of a slice of bytes
pub are_bytes : (text : List ℕ) → ((at : ℕ) → Fits w8 (get_or text at 0)) → AreBytes text
are_bytes text fits = All-from_get_or (λ byte. byte < 256) text 0 (λ at lt. let fit = fits at in omega arith)

-- ---- no two texts have one key

some_key : (text : List ℕ) → 1 ≤ key_of text
some_key [] = omega arith
some_key (byte ∷ text) = let rest = some_key text in omega arith

pub text_of_key : (text other : List ℕ) → AreBytes text → AreBytes other → key_of text ≡ key_of other → text ≡ other
text_of_key [] [] are bytes e = refl
text_of_key [] (byte ∷ other) are bytes e = absurd (let rest = some_key other in omega arith)
text_of_key (byte ∷ text) [] are bytes e = absurd (let rest = some_key text in omega arith)
text_of_key (byte ∷ text) (by ∷ other) are bytes e =
    let one = All-head (λ byte. byte < 256) byte text are in
    let two = All-head (λ byte. byte < 256) by other bytes in
    let same : byte ≡ by = omega arith in
    let later : key_of text ≡ key_of other = omega arith in
    let rest = text_of_key text other (All-tail (λ byte. byte < 256) byte text are) (All-tail (λ byte. byte < 256) by other bytes) later in
    ap (λ b. b ∷ text) same ∙ ap (λ t. by ∷ t) rest

key_test : (text other : List ℕ) → AreBytes text → AreBytes other → nat_eq (key_of text) (key_of other) ≡ bytes_eq text other
key_test text other are bytes =
    same_from_decides (nat_eq (key_of text) (key_of other)) (bytes_eq text other)
    (λ y. text_of_key text other are bytes ((Decides-eqb (key_of text) (key_of other)).0 y), λ e. (Decides-eqb (key_of text) (key_of other)).1 (ap key_of e))
    (bytes_decides text other)

-- ---- one more text

-- texts of other lengths are others
others : (text other : List ℕ) → length text ≢ length other → bytes_eq text other ≡ false
others text other apart = by (cases_Bool (bytes_eq text other))
  where
    by : (bytes_eq text other ≡ true) ⊎ (bytes_eq text other ≡ false) → bytes_eq text other ≡ false
    by (inl y) = absurd (apart (ap length ((bytes_decides text other).0 y)))
    by (inr n) = n

found_short : (index : Index) (text : List ℕ) → length text ≤ 7 → found index text ≡ lookup (nat_eq (key_of text)) index.short.entries
found_short index text short = cond-true (nat_le (length text) 7) _ _ (search (rules, tests))

found_long : (index : Index) (text : List ℕ) → 7 < length text → found index text ≡ lookup (λ key. bytes_eq text key.now) index.long.entries
found_long index text long = cond-false (nat_le (length text) 7) _ _ (search (rules, tests))

pub found_more_short : (old new : Index) (text : List ℕ) (number : ℕ) → AreBytes text → length text ≤ 7 →
    ((key : ℕ) → lookup (nat_eq key) new.short.entries ≡ cond (nat_eq (key_of text) key) (Some number) (lookup (nat_eq key) old.short.entries)) → new.long.entries ≡ old.long.entries →
    (other : List ℕ) → AreBytes other → found new other ≡ cond (bytes_eq text other) (Some number) (found old other)
found_more_short old new text number are short puts same other bytes = by (cases_lt 7 (length other))
  where
    by : (7 < length other) ⊎ (length other ≤ 7) → found new other ≡ cond (bytes_eq text other) (Some number) (found old other)
    by (inr le) =
        found_short new other le ∙ puts (key_of other) ∙ ap (λ b. cond b (Some number) (lookup (nat_eq (key_of other)) old.short.entries)) (key_test text other are bytes)
        ∙ ap (λ n. cond (bytes_eq text other) (Some number) n) (sym (found_short old other le))
    by (inl lt) =
        found_long new other lt ∙ ap (λ es. lookup (λ key. bytes_eq other key.now) es) same ∙ sym (found_long old other lt)
        ∙ sym (cond-false (bytes_eq text other) (Some number) (found old other) (others text other (λ e. omega (arith, e))))

pub found_more_long : (old new : Index) (text : List ℕ) (number : ℕ) → 7 < length text →
    hash.UpdatesBy (λ x y. bytes_eq x.now y.now) (λ key. bytes_eq text key.now) old.long new.long (Some number) → new.short.entries ≡ old.short.entries →
    (other : List ℕ) → found new other ≡ cond (bytes_eq text other) (Some number) (found old other)
found_more_long old new text number long puts same other = by (cases_lt 7 (length other))
  where
    by : (7 < length other) ⊎ (length other ≤ 7) → found new other ≡ cond (bytes_eq text other) (Some number) (found old other)
    by (inr le) =
        found_short new other le ∙ ap (λ es. lookup (nat_eq (key_of other)) es) same ∙ sym (found_short old other le)
        ∙ sym (cond-false (bytes_eq text other) (Some number) (found old other) (others text other (λ e. omega (arith, e))))
    by (inl lt) =
        found_long new other lt ∙ hash_map_updates_str text old.long new.long (Some number) puts other
        ∙ ap (λ n. cond (bytes_eq text other) (Some number) n) (sym (found_long old other lt))
