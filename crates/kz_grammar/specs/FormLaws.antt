-- The judgements of a line, in terms of the forms of its place.
use Rattle.std.specs.Prelude.{◌≡◌, ◌≢◌, ℕ, ◌+◌, ◌≤◌, List, ◌∷◌, ◌++◌, length, map, Option, Some, None}
use Rattle.kz_model.specs.declared.grammar.Mark.{Mark}
use Rattle.kz_model.specs.declared.grammar.Mark.TheVariants.{Fine, OutOfRange, BadNumber}
use Rattle.kz_model.specs.declared.grammar.Place.{Place}
use Rattle.kz_model.specs.declared.grammar.Place.TheVariants as place
use Rattle.kz_model.specs.declared.grammar.Cause.{Cause}
use Rattle.kz_model.specs.declared.grammar.Cause.TheVariants as cause
use Rattle.kz_model.specs.Grammar.Tokens.{tokens_of, lines_of}
use Rattle.kz_model.specs.Grammar.Form.{Line, Draft, empty_draft, line_at, refused, form_of}
use Rattle.kz_model.specs.Grammar.Spelling.{line_text, IsAllowed, Leads, IsFirstFault}
use Rattle.kz_grammar.specs.Forms.{Token, holes_of, HasForm, IsTextOf, IsNumber, IsInRange, EachHole, SomeHole}

-- ---- what is wrong with a line

-- none of its place's forms, with any runs of bytes in the places of numbers
abbrev pub HasNoForm : Place → Draft → List (List ℕ) → Type 0
HasNoForm p d words = (tokens : List Token) → ¬ HasForm p d words tokens

-- a form, with some run that is no number
pub record HasBadNumber (p : Place) (d : Draft) (words : List (List ℕ)) : Type 0 where
  pub tokens : List Token
  pub form : HasForm p d words tokens
  pub bad : SomeHole (λ hole. ¬ IsNumber hole) (holes_of tokens)

-- a form, with numbers alone, of which some is out of its range
pub record IsOutOfRange (p : Place) (d : Draft) (words : List (List ℕ)) : Type 0 where
  pub tokens : List Token
  pub form : HasForm p d words tokens
  pub numbers : EachHole IsNumber (holes_of tokens)
  pub out : SomeHole (λ hole. ¬ IsInRange hole) (holes_of tokens)

-- a form, with each number in its range
pub record IsFine (p : Place) (d : Draft) (words : List (List ℕ)) : Type 0 where
  pub tokens : List Token
  pub form : HasForm p d words tokens
  pub within : EachHole IsInRange (holes_of tokens)

-- ---- laws of a line

-- a line has one form, with the same runs
abbrev pub OneForm : Type 0
OneForm = (p : Place) (d : Draft) (words : List (List ℕ)) (tokens others : List Token) →
    HasForm p d words tokens → HasForm p d words others → tokens ≡ others

-- what is found of a line has this mark
abbrev pub IsMarked : Option (Line × Mark) → Mark → Type 0
IsMarked found mark = (line : Line) × (found ≡ Some (line, mark))

abbrev pub BadLines : Type 0
BadLines = (p : Place) (d : Draft) (words : List (List ℕ)) → (line_at p d words ≡ None → HasNoForm p d words) ×
    (HasNoForm p d words → line_at p d words ≡ None)

abbrev pub BadNumbers : Type 0
BadNumbers = (p : Place) (d : Draft) (words : List (List ℕ)) →
    (IsMarked (line_at p d words) BadNumber → HasBadNumber p d words) ×
    (HasBadNumber p d words → IsMarked (line_at p d words) BadNumber)

abbrev pub OutOfRanges : Type 0
OutOfRanges = (p : Place) (d : Draft) (words : List (List ℕ)) →
    (IsMarked (line_at p d words) OutOfRange → IsOutOfRange p d words) ×
    (IsOutOfRange p d words → IsMarked (line_at p d words) OutOfRange)

abbrev pub FineLines : Type 0
FineLines = (p : Place) (d : Draft) (words : List (List ℕ)) → (IsMarked (line_at p d words) Fine → IsFine p d words) ×
    (IsFine p d words → IsMarked (line_at p d words) Fine)

-- a place of a text: the header has eight lines
abbrev pub IsPlace : Place → Type 0
IsPlace (place.Header at) = at ≤ 7
IsPlace other = Unit {0}

-- a line with each number in its range is the text of what it says, which may stand there
abbrev pub FineLinesSay : Type 0
FineLinesSay = (p : Place) (d : Draft) (text : List ℕ) (line : Line) → IsPlace p →
    line_at p d (tokens_of text) ≡ Some (line, Fine) → (text ≡ line_text line) × IsAllowed p d line

-- the tokens of a text are those of a form just where the text is that of the form
abbrev pub FormsAreTexts : Type 0
FormsAreTexts = (p : Place) (d : Draft) (text : List ℕ) (tokens : List Token) →
    (HasForm p d (tokens_of text) tokens → IsTextOf p d text tokens) ×
    (IsTextOf p d text tokens → HasForm p d (tokens_of text) tokens)

-- ---- laws of a text

-- The lines of the bytes begin with these, which may stand one after the other and lead to this draft. Then comes this
-- text, which is ended, on the line of this number.
pub record StandsAt (bytes : List ℕ) (number : ℕ) (d : Draft) (text : List ℕ) : Type 0 where
  pub lines : List Line
  pub next : List ℕ
  pub rest : List (List ℕ)
  pub parts : lines_of bytes ≡ map line_text lines ++ text ∷ next ∷ rest
  pub leads : Leads empty_draft 1 lines d
  pub open_yet : d.place ≢ place.Ended
  pub nth : number ≡ 1 + length lines

-- so it is of the line of this number, at its place
pub record IsAtLine (Is : Place → Draft → List (List ℕ) → Type 0) (bytes : List ℕ) (number : ℕ) : Type 0 where
  pub said : Draft
  pub text : List ℕ
  pub stands : StandsAt bytes number said text
  pub is : Is said.place said (tokens_of text)

-- a text's form has this fault just where it is so of a line
abbrev pub IsFormFault : (Place → Draft → List (List ℕ) → Type 0) → Cause → Type 0
IsFormFault Is cause = (bytes : List ℕ) (number : ℕ) →
    (form_of bytes ≡ refused number cause → IsAtLine Is bytes number) ×
    (IsAtLine Is bytes number → form_of bytes ≡ refused number cause)

abbrev pub BadLineForms : Type 0
BadLineForms = IsFormFault HasNoForm cause.BadLine

abbrev pub BadNumberForms : Type 0
BadNumberForms = IsFormFault HasBadNumber cause.BadNumber

abbrev pub OutOfRangeForms : Type 0
OutOfRangeForms = IsFormFault IsOutOfRange cause.OutOfRange

-- and it is then the first fault of the bytes
abbrev pub IsFirstOf : (Place → Draft → List (List ℕ) → Type 0) → Cause → Type 0
IsFirstOf Is cause = (bytes : List ℕ) (number : ℕ) →
    (IsFirstFault bytes (record { line = number; cause = cause }) → IsAtLine Is bytes number) ×
    (IsAtLine Is bytes number → IsFirstFault bytes (record { line = number; cause = cause }))

abbrev pub FirstBadLine : Type 0
FirstBadLine = IsFirstOf HasNoForm cause.BadLine

abbrev pub FirstBadNumber : Type 0
FirstBadNumber = IsFirstOf HasBadNumber cause.BadNumber

abbrev pub FirstOutOfRange : Type 0
FirstOutOfRange = IsFirstOf IsOutOfRange cause.OutOfRange
