use Rattle.std.proofs.Common.{◌≡◌, ℕ, suc, ◌+◌, List, ◌∷◌, ◌++◌, take, drop, refl, ap, sym, ◌∙◌, add-one}
use Rattle.std.proofs.Math.Seq.{drop-cons}
use Rattle.std.proofs.lemmas.List.{take-append-drop, take_rest}
use Rattle.kz_text.specs.Lines.{TakesLine, EndsAt}
use Rattle.kz_text.proofs.lines.Lines.next.Goals as goal

-- a text is its first line, the end and what follows
line_is : (text : List ℕ) (at : ℕ) → EndsAt text at → text ≡ take at text ++ 10 ∷ drop (at + 1) text
line_is text at h =
    sym (take-append-drop at text) ∙ ap (λ xs. take at text ++ xs) (drop-cons text at 0 h.within ∙ ap (λ byte. byte ∷ drop (suc at) text) h.end)
    ∙ ap (λ n. take at text ++ 10 ∷ drop n text) (sym (add-one at))

-- the clause over the fields
takes_line : (text rest : List ℕ) (at number : ℕ) → EndsAt text at → rest ≡ drop (at + 1) text →
    TakesLine (record { rest = text; number = number }) (record { rest = rest; number = number + 1 }) (take at text) (number + 1)
takes_line text rest at number h is =
    record { line = line_is text at h ∙ ap (λ xs. take at text ++ 10 ∷ xs) (sym is); one = h.none_before; counted = refl; told = refl }

pub returns-clause-some : goal.returns-clause-some
returns-clause-some c =
    let text = c.self.inside.rest.now in
    rw (← c.self.view_is) (takes_line text _ c.in-Some.at c.self.inside.number c.in-Some.ensures.some (take_rest text (c.in-Some.at + 1)))
