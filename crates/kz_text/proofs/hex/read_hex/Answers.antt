use Rattle.std.proofs.Common.{◌≡◌, ℕ, ◌+◌, ◌*◌, ◌/◌, ◌<◌, ◌≤◌, true, List, ◌++◌, length, get_or, drop, slice_set, refl, ap, sym, ◌∙◌, arith, zero-add}
use Rattle.std.proofs.Math.Seq.{paste}
use Rattle.std.proofs.lemmas.List.Edits.{paste_more, paste_all}
use Rattle.std.proofs.lemmas.Grind.{common_steps}
use Rattle.kz_model.specs.Grammar.Tokens.{is_hex, bytes_of_hex}
use Rattle.kz_text.proofs.HexBytes.{length-bytes_of_hex, get-bytes_of_hex}
use Rattle.kz_text.proofs.hex.read_hex.Goals as goal

-- a hexadecimal text is short
at_most_64 : (text : List ℕ) → is_hex text ≡ true → length text ≤ 64
at_most_64 text h = grind (arith, common_steps)

-- one byte more stands over the front
one_more : (old bytes into : List ℕ) (k byte : ℕ) → into ≡ paste old 0 bytes k → byte ≡ get_or bytes k 0 → k < length old → k < length bytes → slice_set into k byte ≡ paste old 0 bytes (k + 1)
one_more old bytes into k byte so_far is fits within =
    let same : 0 + k ≡ k = zero-add k in
    ap (λ xs. slice_set xs k byte) so_far ∙ ap (λ b. slice_set (paste old 0 bytes k) k b) is ∙ ap (λ n. slice_set (paste old 0 bytes k) n (get_or bytes k 0)) (sym same)
    ∙ paste_more old 0 bytes k 0 (omega arith) within

-- all of them do
all_over : (old bytes into : List ℕ) (n m : ℕ) → into ≡ paste old 0 bytes n → n ≡ m → m ≡ length bytes → into ≡ bytes ++ drop m old
all_over old bytes into n m so_far whole is =
    let same : 0 + m ≡ m = zero-add m in
    so_far ∙ ap (λ n. paste old 0 bytes n) whole ∙ paste_all old 0 bytes m is ∙ ap (λ n. bytes ++ drop n old) same

pub loop-place-preserved : goal.loop-place-preserved
loop-place-preserved c =
    let text = c.args.text.now in
    let k = c.loop-place.place in
    let few : length text ≤ 64 = at_most_64 text (sym c.if-not-is_hex.ensures) in
    let here : k < length text / 2 = c.loop-place-test.true in
    one_more _ (bytes_of_hex text) _ k _ c.loop-place.invariant (c.byte_of.ensures ∙ sym (get-bytes_of_hex text k (2 * k) (2 * k + 1) refl refl (omega arith))) (omega (arith, c.told-into)) (omega (arith, length-bytes_of_hex text))

pub returns-clause-filled : goal.returns-clause-filled
returns-clause-filled c = all_over _ (bytes_of_hex c.args.text.now) _ c.loop-place.place (length c.args.text.now / 2) c.loop-place.invariant (omega arith) (sym (length-bytes_of_hex c.args.text.now))
