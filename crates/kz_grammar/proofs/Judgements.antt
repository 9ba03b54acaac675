-- What is found of a line is right by the forms of its place, and so each judgement says what it should.
use Rattle.std.proofs.Common.{◌≡◌, ℕ, List, Option, Some, None, refl, ap, sym, ◌∙◌, subst}
use Rattle.kz_model.specs.declared.grammar.Mark.{Mark}
use Rattle.kz_model.specs.declared.grammar.Mark.TheVariants.{Fine, OutOfRange, BadNumber}
use Rattle.kz_model.specs.declared.grammar.Place.{Place}
use Rattle.kz_model.specs.declared.grammar.Place.TheVariants as place
use Rattle.kz_model.specs.Grammar.Form.{Line, Draft, line_at}
use Rattle.kz_bundle.proofs.Choices.{found_same, none_found}
use Rattle.kz_bundle.proofs.LineTexts.{InHeader, line_says}
use Rattle.kz_grammar.specs.Forms.{Token, holes_of, IsForm, HasForm}
use Rattle.kz_grammar.specs.FormLaws.{HasNoForm, IsMarked, OneForm, BadLines, BadNumbers, OutOfRanges, FineLines, IsPlace, FineLinesSay}
use Rattle.kz_grammar.proofs.Rows.{Fits, IsRightBy}
use Rattle.kz_grammar.proofs.LineForms.{header_judged, section_judged, order_judged}
use Rattle.kz_grammar.proofs.TypeForms.{types_judged}
use Rattle.kz_grammar.proofs.Marks.{AreMarked, are_marked, one_mark}

pub line_judged : (p : Place) (d : Draft) (words : List (List ℕ)) → IsRightBy (IsForm p d) words (line_at p d words)
line_judged (place.Header at) d words = (header_judged at words).judged
line_judged place.Types d words = types_judged d words
line_judged place.Steps d words = (section_judged d words).judged
line_judged place.Order d words = (order_judged d words).judged
line_judged place.Ended d words = λ tokens form same. form

module _ (p : Place) (d : Draft) (words : List (List ℕ)) where
  abbrev Finding : Type 0
  Finding = Option (Line × Mark)

  abbrev IsJudged : Finding → Type 0
  IsJudged found = IsRightBy (IsForm p d) words found

  -- a form whose runs have this mark
  record HasMark (mark : Mark) : Type 0 where
    tokens : List Token
    form : HasForm p d words tokens
    marked : AreMarked (holes_of tokens) mark

  has_form : (mark : Mark) (fits : Fits (IsForm p d) words mark) → HasForm p d words fits.tokens
  has_form mark fits = record { form = fits.form; text = fits.text }

  holes_marked : (mark : Mark) (fits : Fits (IsForm p d) words mark) → AreMarked (holes_of fits.tokens) mark
  holes_marked mark fits = subst (AreMarked (holes_of fits.tokens)) (sym fits.marked) (are_marked (holes_of fits.tokens))

  no_form : (found : Finding) → IsJudged found → (found ≡ None → HasNoForm p d words) × (HasNoForm p d words → found ≡ None)
  no_form None judged = (λ e tokens form. judged tokens form.form form.text, λ no. refl)
  no_form (Some found) judged = (λ e. none_found found (sym e), λ no. absurd (no judged.tokens (has_form found.1 judged)))

  mark_says : (found : Finding) (mark : Mark) → IsJudged found → IsMarked found mark → HasMark mark
  mark_says None mark judged is = none_found (is.0, mark) is.1
  mark_says (Some found) mark judged is =
      let same : found.1 ≡ mark = ap (λ (f : Line × Mark). f.1) (found_same found (is.0, mark) is.1) in
      record { tokens = judged.tokens; form = has_form found.1 judged; marked = subst (AreMarked (holes_of judged.tokens)) same (holes_marked found.1 judged) }

  says_mark : (found : Finding) (mark : Mark) → IsJudged found → HasMark mark → IsMarked found mark
  says_mark None mark judged has = absurd (judged has.tokens has.form.form has.form.text)
  says_mark (Some found) mark judged has =
      let same = judged.alone has.tokens has.form.form has.form.text in
      let marked = subst (λ tokens. AreMarked (holes_of tokens) mark) same has.marked in
      (found.0, ap (λ (mark : Mark). Some (found.0, mark)) (one_mark (holes_of judged.tokens) found.1 mark (holes_marked found.1 judged) marked))

  one : (found : Finding) → IsJudged found → (tokens others : List Token) → HasForm p d words tokens → HasForm p d words others → tokens ≡ others
  one None judged tokens others form other = absurd (judged tokens form.form form.text)
  one (Some found) judged tokens others form other = judged.alone tokens form.form form.text ∙ sym (judged.alone others other.form other.text)

pub one_form : OneForm
one_form p d words = one p d words (line_at p d words) (line_judged p d words)

pub bad_lines : BadLines
bad_lines p d words = no_form p d words (line_at p d words) (line_judged p d words)

pub bad_numbers : BadNumbers
bad_numbers p d words =
    let found = line_at p d words in
    let judged = line_judged p d words in (
      λ is. let has = mark_says p d words found BadNumber judged is in record { tokens = has.tokens; form = has.form; bad = has.marked },
      λ has. says_mark p d words found BadNumber judged (record { tokens = has.tokens; form = has.form; marked = has.bad }),
    )

pub out_of_ranges : OutOfRanges
out_of_ranges p d words =
    let found = line_at p d words in
    let judged = line_judged p d words in (
      λ is. let has = mark_says p d words found OutOfRange judged is in record { tokens = has.tokens; form = has.form; numbers = has.marked.0; out = has.marked.1 },
      λ has. says_mark p d words found OutOfRange judged (record { tokens = has.tokens; form = has.form; marked = (has.numbers, has.out) }),
    )

pub fine_lines : FineLines
fine_lines p d words =
    let found = line_at p d words in
    let judged = line_judged p d words in (
      λ is. let has = mark_says p d words found Fine judged is in record { tokens = has.tokens; form = has.form; within = has.marked },
      λ has. says_mark p d words found Fine judged (record { tokens = has.tokens; form = has.form; marked = has.within }),
    )

pub fine_lines_say : FineLinesSay
fine_lines_say p d text line here e = line_says p d text line (in_header p here) e
  where
    in_header : (p : Place) → IsPlace p → InHeader p
    in_header (place.Header at) here = here
    in_header place.Types here = tt
    in_header place.Steps here = tt
    in_header place.Order here = tt
    in_header place.Ended here = tt
