-- Type lines, read and written.
use Rattle.std.proofs.Common.{◌≡◌, ℕ, ◌-◌, true, ◌&&◌, List, [], ◌∷◌, ◌++◌, length, codes, Option, Some, None, All, refl, ap, sym, ◌∙◌, subst, arith, if◌then◌else◌}
use Rattle.std.specs.Option.{option_map_or}
use Rattle.std.proofs.lemmas.List.Elements.{All-nil}
use Rattle.kz_model.specs.declared.bundle.Field.{Field}
use Rattle.kz_model.specs.declared.bundle.TypeDecl.{TypeDecl}
use Rattle.kz_model.specs.declared.grammar.Mark.{Mark}
use Rattle.kz_model.specs.declared.grammar.Mark.TheVariants.{Fine}
use Rattle.kz_model.specs.Grammar.Tokens.{tokens_of, is, is_name}
use Rattle.kz_model.specs.Grammar.TypeLine.{type_line}
use Rattle.kz_bundle.specs.BodyStates.{Body, Next, Open, First, More, Size, Of, Label, Close, Done, whole, body_of, no_body, line_by_words}
use Rattle.kz_model.specs.Grammar.Form.{Declares}
use Rattle.kz_model.specs.Grammar.Spelling.{spaced, line_text, IsField, IsDeclared, body_text}
use Rattle.kz_bundle.proofs.Choices.{all_append, left, right, found_same, none_found, only, is_same}
use Rattle.kz_bundle.proofs.Splits.{is_inked, inked, inked_dark, after_spaces, line_is}
use Rattle.kz_bundle.proofs.NameTexts.{name_dark}
use Rattle.kz_bundle.proofs.StepTexts.{spaced_words, spaced_is}
use Rattle.kz_bundle.proofs.BodyReads.{body_reads}
use Rattle.kz_bundle.proofs.BodySays.{IsSound, FitsNext, consumed, around, inside, body_says}
use Rattle.kz_bundle.proofs.BodyBytes.{body_inked}
use Rattle.kz_bundle.proofs.Grammar.{type_line-by_words}

-- ---- how a type line is read

pub type_words : (decl : TypeDecl) → IsDeclared decl → tokens_of (line_text (Declares decl)) ≡ codes "type" ∷ decl.name ∷ tokens_of (body_text decl.fields)
type_words decl is =
    spaced_words (codes "type") (spaced decl.name (body_text decl.fields)) (decl.name ∷ tokens_of (body_text decl.fields)) refl
    (spaced_words decl.name (body_text decl.fields) (tokens_of (body_text decl.fields)) (name_dark decl.name is.0) refl)

pub type_reads : (decl : TypeDecl) → IsDeclared decl → type_line (codes "type" ∷ decl.name ∷ tokens_of (body_text decl.fields)) ≡ Some (decl, Fine)
type_reads decl is =
    type_line-by_words (codes "type" ∷ decl.name ∷ tokens_of (body_text decl.fields))
    ∙ ap (λ b. if b then option_map_or {U = Option (TypeDecl × Mark)} (λ b. whole decl.name b.next b) (body_of no_body (tokens_of (body_text decl.fields))) None else None) is.0
    ∙ ap (λ o. option_map_or {U = Option (TypeDecl × Mark)} (λ b. whole decl.name b.next b) o None) (body_reads decl.fields is.1)

pub type_inked : (decl : TypeDecl) → IsDeclared decl → inked (line_text (Declares decl)) ≡ true
type_inked decl is =
    all_append is_inked (codes "type ") (spaced decl.name (body_text decl.fields)) refl
    (all_append is_inked (decl.name ++ codes " ") (body_text decl.fields) (all_append is_inked decl.name (codes " ") (inked_dark decl.name (name_dark decl.name is.0)) refl) (body_inked decl.fields is.1))

-- ---- what a type line says

sound_first : IsSound no_body
sound_first = record { few = omega arith; outer = tt; fields = All-nil (IsField 8); next = refl }

-- the words of a whole body
done_says : (b : Body) (words : List (List ℕ)) → b.next ≡ Done → IsSound b → consumed b ≡ after_spaces words → ((32 ∷ body_text b.fields) ≡ after_spaces words) × All (IsField 8) b.fields
done_says b words done sound text =
    by_outer b.outer (subst (FitsNext (8 - length b.outer) b.outer b.fields) done sound.next) (ap (λ next. around b.outer ++ inside b.fields next) (sym done) ∙ text) sound.fields
  where
    by_outer : (outer : List (List Field)) → outer ≡ [] → around outer ++ inside b.fields Done ≡ after_spaces words → All (IsField (8 - length outer)) b.fields →
        ((32 ∷ body_text b.fields) ≡ after_spaces words) × All (IsField 8) b.fields
    by_outer [] none text all = (text, all)
    by_outer (first ∷ outer) none text all = absurd (some first outer none)
      where
        some : (first : List Field) (outer : List (List Field)) → first ∷ outer ≡ [] → ⊥
        some first outer e = cc

abbrev SaysType : List ℕ → TypeDecl → Type 0
SaysType text decl = (text ≡ line_text (Declares decl)) × IsDeclared decl

abbrev type_of : List ℕ → List Field → TypeDecl
type_of name fields = record { name = name; fields = fields }

pub type_says : (text : List ℕ) (decl : TypeDecl) → type_line (tokens_of text) ≡ Some (decl, Fine) → (text ≡ line_text (Declares decl)) × IsDeclared decl
type_says text decl e = by_words (tokens_of text) refl (sym (type_line-by_words (tokens_of text)) ∙ e)
  where
    by_words : (words : List (List ℕ)) → tokens_of text ≡ words → line_by_words words ≡ Some (decl, Fine) → SaysType text decl
    by_words [] cut e = none_found (decl, Fine) e
    by_words (w ∷ []) cut e = none_found (decl, Fine) e
    by_words (w ∷ name ∷ words) cut e =
        only (is (codes "type") w && is_name name) _ _ (λ t e. by_body (right (is (codes "type") w) (is_name name) t) (is_same (codes "type") w (left (is (codes "type") w) (is_name name) t)) (body_of no_body words) refl e) e
      where
        by_next : is_name name ≡ true → w ≡ codes "type" → (b : Body) → body_of no_body words ≡ Some b → (next : Next) → b.next ≡ next → whole name next b ≡ Some (decl, Fine) → SaysType text decl
        by_next named first b read Done done e =
            let same = found_same (type_of name b.fields, b.mark) (decl, Fine) e in
            let says = body_says words no_body b sound_first read (ap (λ (d : TypeDecl × Mark). d.1) same) in
            let text = done_says b words done says.1 says.0 in
            subst (SaysType _) (ap (λ (d : TypeDecl × Mark). d.0) same) (
              line_is _ w (name ∷ words) cut
                  ∙ ap (λ (w : List ℕ). w ++ 32 ∷ (name ++ after_spaces words)) first
                  ∙ ap (λ (more : List ℕ). codes "type" ++ 32 ∷ (name ++ more)) (sym text.0)
                  ∙ ap (λ (more : List ℕ). codes "type " ++ more) (sym (spaced_is name (body_text b.fields))),
              (named, text.1),
            )
        by_next named first b read Open done e = none_found (decl, Fine) e
        by_next named first b read First done e = none_found (decl, Fine) e
        by_next named first b read More done e = none_found (decl, Fine) e
        by_next named first b read Size done e = none_found (decl, Fine) e
        by_next named first b read Of done e = none_found (decl, Fine) e
        by_next named first b read (Label kind) done e = none_found (decl, Fine) e
        by_next named first b read Close done e = none_found (decl, Fine) e

        by_body : is_name name ≡ true → w ≡ codes "type" → (o : Option Body) → body_of no_body words ≡ o →
            option_map_or {U = Option (TypeDecl × Mark)} (λ b. whole name b.next b) o None ≡ Some (decl, Fine) → SaysType text decl
        by_body named first None read e = none_found (decl, Fine) e
        by_body named first (Some b) read e = by_next named first b read b.next refl e
