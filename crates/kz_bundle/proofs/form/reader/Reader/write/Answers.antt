use Rattle.std.proofs.Common.{◌≡◌, Bool, true, false, if◌then◌else◌, List, ℕ, Option, Some, None, refl, sym, subst, ap, ◌∙◌}
use Rattle.kz_model.specs.declared.grammar.Mark.{Mark}
use Rattle.kz_model.specs.Grammar.Tokens.{is_hex, bytes_of_hex, number_in}
use Rattle.kz_model.specs.Grammar.Steps.{NamedStep, Write}
use Rattle.kz_model.specs.Grammar.Form.{as_line, Does, judged}
use Rattle.kz_bundle.specs.Reading.{so_far, Takes}
use Rattle.kz_bundle.proofs.form.reader.Reader.write.Goals as goal

-- what is made of an answer, where there is one
not_told : {A B : Type 0} (f : A → B) (test : Bool) (a : A) → None ≡ (if test then Some a else None) → (if test then Some (f a) else None) ≡ None
not_told f true a e = absurd (cc)
not_told f false a e = refl

is_told : {A B : Type 0} (f : A → B) (test : Bool) (a told : A) → Some told ≡ (if test then Some a else None) → (if test then Some (f a) else None) ≡ Some (f told)
is_told f true a told e = (let same : told ≡ a = cc in ap (λ x. Some (f x)) (sym same))
is_told f false a told e = absurd (cc)

written : List ℕ → ℕ × Mark → List ℕ → NamedStep × Mark
written name off bytes = (Write name off.0 bytes, off.1)

pub returns-in_default-clause-takes : goal.returns-in_default-clause-takes
unfolding written
returns-in_default-clause-takes c =
    let told = not_told (written c.args.name.now (number_in 0 8191 c.args.off.now)) (is_hex c.args.bytes.now) (bytes_of_hex c.args.bytes.now) (sym c.in_default.is ∙ c.piece_of.ensures) in
    ap (λ found. judged (so_far c.args.self.now) c.args.number (as_line Does found)) told

pub returns-clause-takes : goal.returns-clause-takes
unfolding written
returns-clause-takes c =
    let bytes = c.in-Some.bytes in
    let name = c.args.name.now in
    let told = is_told (written name (number_in 0 8191 c.args.off.now)) (is_hex c.args.bytes.now) (bytes_of_hex c.args.bytes.now) bytes (sym c.in-Some.is ∙ c.piece_of.ensures) in
    let P : Option (NamedStep × Mark) → Type 0 = λ found. Takes c.judge_step.result (so_far c.judge_step.new.self) (judged (so_far c.args.self.now) c.args.number (as_line Does found)) in
    subst P (sym (told ∙ ap (λ (off : ℕ × Mark). Some (written name off bytes)) (sym c.small_in-off.ensures.given))) c.judge_step.ensures.takes
