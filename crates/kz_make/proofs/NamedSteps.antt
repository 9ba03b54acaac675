-- The texts of steps, as they are written.
use Rattle.std.proofs.Common.{◌≡◌, ℕ, List, ◌++◌, codes, ap, sym, ◌∙◌, append_assoc, subst, arith}
use Rattle.std.specs.Fmt.{decimal}
use Rattle.std.proofs.lemmas.Fmt.{decimal_digit}
use Rattle.kz_model.specs.Text.Made.{name_text, four_bytes, named_step_by}
use Rattle.kz_model.specs.Grammar.Spelling.{named_step_text, spaced}
use Rattle.kz_model.specs.Text.Lines.{hex_bytes}

zero_text : decimal 0 ≡ codes "0"
zero_text = decimal_digit 0 (omega arith)

eight_text : decimal 8 ≡ codes "8"
eight_text = decimal_digit 8 (omega arith)

-- a word behind a name
behind : (out word name s t more : List ℕ) → s ≡ out ++ (word ++ name) → t ≡ s ++ more → t ≡ out ++ (word ++ (name ++ more))
behind out word name s t more e f =
    f ∙ ap (λ (s : List ℕ). s ++ more) e ∙ append_assoc out (word ++ name) more ∙ ap (λ (text : List ℕ). out ++ text) (append_assoc word name more)

pub read_said : (out s t : List ℕ) (cpu k w n : ℕ) → n ≡ 11 → s ≡ out ++ spaced (codes "r") (name_text cpu k) → t ≡ s ++ codes " 0 8" → t ≡ out ++ named_step_text (named_step_by cpu k w n)
read_said out s t cpu k w n e before after =
    subst (λ n. t ≡ out ++ named_step_text (named_step_by cpu k w n)) (sym e) (
    behind out (codes "r ") (name_text cpu k) s t (codes " 0 8") before after
    ∙ ap (λ (text : List ℕ). out ++ (codes "r " ++ text)) (sym (append_assoc (name_text cpu k) (codes " ") (codes "0 8")))
    ∙ ap (λ (zero : List ℕ). out ++ (codes "r " ++ ((name_text cpu k ++ codes " ") ++ (zero ++ codes " " ++ codes "8")))) (sym zero_text)
    ∙ ap (λ (eight : List ℕ). out ++ (codes "r " ++ ((name_text cpu k ++ codes " ") ++ (decimal 0 ++ codes " " ++ eight)))) (sym eight_text)
    )

pub write_said : (out s1 s2 t : List ℕ) (cpu k w n : ℕ) → n ≡ 12 → s1 ≡ out ++ spaced (codes "w") (name_text cpu k) → s2 ≡ s1 ++ codes " 0 " → t ≡ s2 ++ hex_bytes (four_bytes w) →
    t ≡ out ++ named_step_text (named_step_by cpu k w n)
write_said out s1 s2 t cpu k w n e before zero after =
    subst (λ n. t ≡ out ++ named_step_text (named_step_by cpu k w n)) (sym e) (
    behind out (codes "w ") (name_text cpu k) s1 t (codes " 0 " ++ hex_bytes (four_bytes w)) before (after ∙ ap (λ (s : List ℕ). s ++ hex_bytes (four_bytes w)) zero ∙ append_assoc s1 (codes " 0 ") (hex_bytes (four_bytes w)))
    ∙ ap (λ (text : List ℕ). out ++ (codes "w " ++ text)) (sym (append_assoc (name_text cpu k) (codes " ") (codes "0 " ++ hex_bytes (four_bytes w))))
    ∙ ap (λ (zero : List ℕ). out ++ (codes "w " ++ ((name_text cpu k ++ codes " ") ++ (zero ++ codes " " ++ hex_bytes (four_bytes w))))) (sym zero_text)
    )
