-- A line adds one line to the order section at most.
use Rattle.std.proofs.Common.{◌≡◌, ℕ, ◌+◌, ◌≤◌, ◌==◌, Bool, true, false, if◌then◌else◌, List, [], ◌∷◌, ◌++◌, length, Option, None, Some, Result, Ok, Err, refl, subst, ap, ◌∙◌, arith, length-append}
use Rattle.kz_model.specs.declared.bundle.OrderLine.{OrderLine}
use Rattle.kz_model.specs.declared.grammar.Cause.{Cause}
use Rattle.kz_model.specs.declared.grammar.Cause.TheVariants as cause
use Rattle.kz_model.specs.declared.grammar.Counted.TheVariants as counted
use Rattle.kz_model.specs.declared.grammar.Mark.{Mark}
use Rattle.kz_model.specs.declared.grammar.Mark.TheVariants.{Fine, OutOfRange, BadNumber}
use Rattle.kz_model.specs.declared.grammar.Place.{Place}
use Rattle.kz_model.specs.declared.grammar.Place.TheVariants.{Header, Types, Steps, Order, Ended}
use Rattle.kz_model.specs.Grammar.Form.{Line, Machine, SeedOf, Cpus, Frames, Pages, Budget, Magazine, Depot, Declares, Opens, Does, Break, Orders, Turns, Ends, Draft, turns_of, with_break, with_section, with_line, judged, line_at, after_line}

-- it has one line of the order more at most
abbrev HasOneMore : Draft → Draft → Type 0
HasOneMore d more = length (turns_of more.order) ≤ length (turns_of d.order) + 1

abbrev ok : Draft → Result Draft Cause
ok d = Ok d

kept : (d x more : Draft) → ok x ≡ ok more → x.order ≡ d.order → HasOneMore d more
kept d x more e same = let is : x ≡ more = cc in let P : Draft → Type 0 = HasOneMore d in subst P is (let long : length (turns_of x.order) ≡ length (turns_of d.order) = ap (λ o. length (turns_of o)) same in omega arith)

kept_if : (test : Bool) (fault : Cause) (d x more : Draft) → (if test then Err fault else Ok x) ≡ Ok more → x.order ≡ d.order → HasOneMore d more
kept_if true fault d x more e same = absurd (cc)
kept_if false fault d x more e same = kept d x more e same

one_more : (d x more : Draft) (entry : OrderLine) → ok x ≡ ok more → x.order ≡ Some (turns_of d.order ++ entry ∷ []) → HasOneMore d more
one_more d x more entry e is =
    let same : x ≡ more = cc in
    let long : length (turns_of x.order) ≡ length (turns_of d.order) + 1 = ap (λ o. length (turns_of o)) is ∙ length-append (turns_of d.order) (entry ∷ []) in
    let P : Draft → Type 0 = HasOneMore d in subst P same (omega arith)

of_break : (place : Place) (d more : Draft) → with_break place d ≡ Ok more → HasOneMore d more
of_break Order d more e = one_more d _ more _ e refl
of_break (Header at) d more e = kept_if (d.section.breaks == 999) (cause.TooMany counted.Rounds) d _ more e refl
of_break Types d more e = kept_if (d.section.breaks == 999) (cause.TooMany counted.Rounds) d _ more e refl
of_break Steps d more e = kept_if (d.section.breaks == 999) (cause.TooMany counted.Rounds) d _ more e refl
of_break Ended d more e = kept_if (d.section.breaks == 999) (cause.TooMany counted.Rounds) d _ more e refl

of_section : (place : Place) (d : Draft) (number : ℕ) → (with_section place d number).order ≡ d.order
of_section (Header at) d number = refl
of_section Types d number = refl
of_section Steps d number = refl
of_section Order d number = refl
of_section Ended d number = refl

of_line : (d more : Draft) (number : ℕ) (line : Line) → with_line d number line ≡ Ok more → HasOneMore d more
of_line d more number (Machine n) e = kept d _ more e refl
of_line d more number (SeedOf seed) e = kept d _ more e refl
of_line d more number (Cpus n) e = kept d _ more e refl
of_line d more number (Frames n) e = kept d _ more e refl
of_line d more number (Pages n) e = kept d _ more e refl
of_line d more number (Budget n) e = kept d _ more e refl
of_line d more number (Magazine n) e = kept d _ more e refl
of_line d more number (Depot n) e = kept d _ more e refl
of_line d more number (Declares decl) e = kept_if (length d.types == 1024) (cause.TooMany counted.Types) d _ more e refl
of_line d more number (Opens cpu) e = kept d _ more e (of_section d.place d number)
of_line d more number (Does said) e = kept_if (d.steps == 1000000) (cause.TooMany counted.Steps) d _ more e refl
of_line d more number Break e = of_break d.place d more e
of_line d more number Orders e = none d _ more e refl
  where
    none : (d x more : Draft) → ok x ≡ ok more → x.order ≡ Some [] → HasOneMore d more
    none d x more e is =
        let same : x ≡ more = cc in
        let long : length (turns_of x.order) ≡ 0 = ap (λ o. length (turns_of o)) is in
        let P : Draft → Type 0 = HasOneMore d in subst P same (omega arith)
of_line d more number (Turns cpu) e = one_more d _ more _ e refl
of_line d more number Ends e = kept d _ more e refl

of_judged : (d more : Draft) (number : ℕ) (found : Option (Line × Mark)) → judged d number found ≡ Ok more → HasOneMore d more
of_judged d more number None e = absurd (cc)
of_judged d more number (Some (line, BadNumber)) e = absurd (cc)
of_judged d more number (Some (line, OutOfRange)) e = absurd (cc)
of_judged d more number (Some (line, Fine)) e = of_line d more number line e

pub of_any : (place : Place) (d more : Draft) (number : ℕ) (words : List (List ℕ)) → after_line place d number words ≡ Ok more → HasOneMore d more
of_any Ended d more number words e = absurd (cc)
of_any (Header at) d more number words e = of_judged d more number (line_at (Header at) d words) e
of_any Types d more number words e = of_judged d more number (line_at Types d words) e
of_any Steps d more number words e = of_judged d more number (line_at Steps d words) e
of_any Order d more number words e = of_judged d more number (line_at Order d words) e
