use Rattle.std.proofs.Common.{◌≡◌, ℕ, suc, ◌+◌, ◌*◌, ◌<◌, ◌≤◌, ◌^◌, List, [], ◌∷◌, length, get_or, IsTrue, sym, ap, ◌∙◌, arith, add-one, lit<}
use Rattle.std.proofs.Math.Nat.{pow-le-pow_right, pow-suc}
use Rattle.std.proofs.lemmas.Grind.{common_steps}
use Rattle.std.proofs.lemmas.Int.Digits.{digits_value_more}
use Rattle.std.specs.Char.{digit_value}
use Rattle.kz_model.specs.Grammar.Tokens.{is_decimal}
use Rattle.kz_text.proofs.numbers.value_of.Goals as goal

-- a decimal text is short
few : (text : List ℕ) → IsTrue (is_decimal text) → length text ≤ 20
few [] h = omega arith
few (first ∷ others) h = grind (arith, common_steps)

-- what fewer than 20 digits write is below 10^20
below : (v i n : ℕ) → v < 10 ^ i → i < n → n ≤ 20 → v < 10 ^ 20
below v i n small lt most = let le : i ≤ 20 = omega arith in let p : 10 ^ i ≤ 10 ^ 20 = pow-le-pow_right (lit< tt) le in omega arith

pub with_digit-value-requires-clause-few : goal.with_digit-value-requires-clause-few
with_digit-value-requires-clause-few c =
    below _ c.loop-byte.byte-index (length c.args.text.now) c.loop-byte.invariant.small (omega arith) (few c.args.text.now c.requires)

-- a digit more
more_small : (v i r : ℕ) → v < 10 ^ i → r < v * 10 + 10 → r < 10 ^ (i + 1)
more_small v i r h lt = let e : 10 ^ suc i ≡ 10 ^ i * 10 = pow-suc 10 i in let s : i + 1 ≡ suc i = add-one i in rw s (omega arith)

pub loop-byte-preserved : goal.loop-byte-preserved
loop-byte-preserved c = record {
  so_far = c.with_digit-value.ensures.value ∙ ap (λ n. n * 10 + digit_value (get_or c.args.text.now c.loop-byte.byte-index 0)) c.loop-byte.invariant.so_far
      ∙ sym (digits_value_more 10 c.args.text.now c.loop-byte.byte-index c.loop-byte-test.true);
  small = more_small c.loop-byte.value c.loop-byte.byte-index _ c.loop-byte.invariant.small c.with_digit-value.ensures.small;
}
