-- The lines of a text, one taken off.
use Rattle.std.proofs.Common.{◌≡◌, ◌≢◌, ℕ, ◌+◌, ◌==◌, List, ◌∷◌, Result, Ok, Err, IfErr, refl, subst, sym, ap, ◌∙◌}
use Rattle.std.specs.List.{All}
use Rattle.kz_text.specs.Lines.{Lines, TakesLine}
use Rattle.kz_text.proofs.Cut.{lines_of-TakesLine, lines_of-no_end}
use Rattle.kz_model.specs.declared.grammar.Refusal.{Refusal}
use Rattle.kz_model.specs.Grammar.Tokens.{lines_of, tokens_of}
use Rattle.kz_model.specs.Grammar.Form.{Draft, after_line, go_on, form_from, rest_at}
use Rattle.kz_bundle.specs.declared.fault.ReadBundleFault.{ReadBundleFault}
use Rattle.kz_bundle.specs.declared.fault.ReadBundleFault.TheVariants as whole
use Rattle.kz_bundle.specs.declared.form.parts.Parts.{Parts}
use Rattle.kz_bundle.specs.declared.form.reader.Fault.{Fault}
use Rattle.kz_bundle.specs.declared.form.reader.Fault.TheVariants.{Refused, Memory}
use Rattle.kz_bundle.specs.Reading.{Takes, Forms, fault_at}
use Rattle.kz_bundle.proofs.Cut.{Starts, some_part}

-- a line with others behind it
first_of_lines : (d : Draft) (n : ℕ) (text : List ℕ) (lines : List (List ℕ)) → Starts lines →
    form_from d n (text ∷ lines) ≡ go_on n (after_line d.place d n (tokens_of text)) (λ more. form_from more (n + 1) lines)
first_of_lines d n text lines some =
    let P : List (List ℕ) → Type 0 = λ lines. form_from d n (text ∷ lines) ≡ go_on n (after_line d.place d n (tokens_of text)) (λ more. form_from more (n + 1) lines) in
    subst P (sym some.all) refl

-- one line is taken off
takes_line : (d : Draft) (n : ℕ) (old new : Lines) (text : List ℕ) (number : ℕ) → TakesLine old new text number →
    form_from d n (lines_of old.rest) ≡ go_on n (after_line d.place d n (tokens_of text)) (λ more. form_from more (n + 1) (lines_of new.rest))
takes_line d n old new text number h =
    ap (form_from d n) (lines_of-TakesLine h) ∙ first_of_lines d n text (lines_of new.rest) (some_part (λ byte. byte == 10) new.rest)

module _ (d : Draft) (n m : ℕ) (old new : Lines) (text : List ℕ) (total : Result Draft Refusal) (h : TakesLine old new text n) (is : m ≡ old.number + 1)
    (so_far : form_from d m (lines_of old.rest) ≡ total) where
  taken : go_on n (after_line d.place d n (tokens_of text)) (λ more. form_from more (n + 1) (lines_of new.rest)) ≡ total
  taken = sym (takes_line d n old new text n h) ∙ ap (λ k. form_from d k (lines_of old.rest)) (h.told ∙ sym is) ∙ so_far

  -- what the whole has, after one line more
  pub goes_on : (more : Draft) → after_line d.place d n (tokens_of text) ≡ Ok more → form_from more (n + 1) (lines_of new.rest) ≡ total
  goes_on more e = sym (ap (λ given. go_on n given (λ more. form_from more (n + 1) (lines_of new.rest))) e) ∙ taken

  -- a line's fault is the text's
  pub line_refused : (fault : Fault) (after : Draft) (refusal : Refusal) → Takes (Err fault) after (after_line d.place d n (tokens_of text)) → fault_at n fault ≡ whole.Refused refusal → total ≡ Err refusal
  line_refused (Refused cause) after refusal takes e =
      let same : record { line = n; cause = cause } ≡ refusal = cc in
      sym taken ∙ ap (λ given. go_on n given (λ more. form_from more (n + 1) (lines_of new.rest))) takes ∙ ap Err same
  line_refused Memory after refusal takes e = absurd (cc)

-- no line is left
ends : (d : Draft) (n : ℕ) (rest : List ℕ) (total : Result Draft Refusal) → All (λ byte. byte ≢ 10) rest → form_from d n (lines_of rest) ≡ total → total ≡ rest_at d.place d n rest
ends d n rest total none so_far = sym so_far ∙ ap (form_from d n) (lines_of-no_end rest none)

pub refused_of : (result : Result Parts ReadBundleFault) (given total : Result Draft Refusal) → total ≡ given → Forms result given →
    IfErr result (λ fault. (refusal : Refusal) → fault ≡ whole.Refused refusal → total ≡ Err refusal)
refused_of (Ok parts) given total e h = tt
refused_of (Err (whole.Refused refusal)) given total e h = λ other same. e ∙ h ∙ ap Err (let is : refusal ≡ other = cc in is)
refused_of (Err whole.Memory) given total e h = λ other same. absurd (cc)

-- what is said where no line is left
pub ends_with : (d : Draft) (n : ℕ) (old new : Lines) (rest : List ℕ) (total : Result Draft Refusal) → All (λ byte. byte ≢ 10) old.rest → new ≡ old → rest ≡ new.rest →
    form_from d n (lines_of old.rest) ≡ total → total ≡ rest_at d.place d n rest
ends_with d n old new rest total none same is so_far =
    let stays : rest ≡ old.rest = is ∙ ap (λ (l : Lines). l.rest) same in
    ends d n old.rest total none so_far ∙ ap (λ rest. rest_at d.place d n rest) (sym stays)
