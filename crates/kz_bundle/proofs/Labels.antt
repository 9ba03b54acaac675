-- A word cut at its first bracket.
use Rattle.std.proofs.Common.{◌≡◌, ◌≢◌, ℕ, ◌+◌, ◌<◌, ◌==◌, List, length, take, drop, get_or, subst, Bool, true, false, ap, sym, ◌∙◌, arith}
use Rattle.std.specs.List.{list_any, position_or_len, before_first, after_first}
use Rattle.std.proofs.lemmas.Grind.{common_steps}
use Rattle.std.proofs.lemmas.List.{get_or-take, length-take-le}
use Rattle.std.proofs.lemmas.List.Folds.{list_any_none, list_any_at}
use Rattle.std.proofs.lemmas.List.Sums.{position_or_len_is}
use Rattle.kz_bundle.specs.Bodies.{HasNoBracket, IsFirstBracket}

abbrev is_bracket : ℕ → Bool
is_bracket b = b == 91

no_bracket : (byte : ℕ) → byte ≢ 91 → is_bracket byte ≡ false
no_bracket byte h = grind (arith, common_steps)

a_bracket : (byte : ℕ) → byte ≡ 91 → is_bracket byte ≡ true
a_bracket byte h = grind (arith, common_steps)

pub none_there : (word : List ℕ) → HasNoBracket word → list_any (λ b. b == 91) word ≡ false
none_there word none = list_any_none is_bracket word (λ i d h. no_bracket _ (none i d h))

place : (word : List ℕ) (at : ℕ) → IsFirstBracket word at → position_or_len is_bracket word ≡ at
place word at h = position_or_len_is is_bracket word at 0 (omega (arith, h.within)) before (λ lt. a_bracket (get_or word at 0) h.bracket)
  where
    before : (k : ℕ) → k < at → is_bracket (get_or word k 0) ≡ false
    before k lt =
        let long : length (take at word) ≡ at = length-take-le at word (omega (arith, h.within)) in
        let P : ℕ → Type 0 = λ byte. byte ≢ 91 in
        no_bracket (get_or word k 0) (subst P (get_or-take at word k 0 lt) (h.none_before k 0 (omega (arith, lt, long))))

pub first_there : (word rest : List ℕ) (at : ℕ) → IsFirstBracket word at → rest ≡ drop (at + 1) word →
    (list_any (λ b. b == 91) word ≡ true) × (take at word ≡ before_first (λ b. b == 91) word) × (rest ≡ after_first (λ b. b == 91) word)
first_there word rest at h is =
    (list_any_at is_bracket word at 0 h.within (a_bracket (get_or word at 0) h.bracket), ap (λ n. take n word) (sym (place word at h)), is ∙ ap (λ n. drop (n + 1) word) (sym (place word at h)))
