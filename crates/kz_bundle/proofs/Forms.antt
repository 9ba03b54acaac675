-- The form of a line by its first words.
use Rattle.std.proofs.Common.{◌≡◌, ◌≢◌, ℕ, Bor, List, [], ◌∷◌, Option, Some, None, MatchOption, IfSome, length, subst, false, codes, refl, ap, sym, ◌∙◌}
use Rattle.std.proofs.lemmas.Bool.{cond-false}
use Rattle.kz_model.specs.declared.grammar.Place.{Place}
use Rattle.kz_model.specs.declared.grammar.Place.TheVariants.{Header, Types, Steps, Order, Ended}
use Rattle.kz_model.specs.Grammar.Tokens.{tokens_of, is, is_name}
use Rattle.kz_model.specs.Grammar.Steps.{step_of_2, step_of_3, step_of_4, step_line}
use Rattle.std.proofs.Math.Bool.{and-false}
use Rattle.kz_model.specs.Grammar.Form.{Draft, as_line, Does, is_head, header_line, cpu_line, line_of_types, line_of_steps, line_of_order, line_at, judged, after_line}
use Rattle.kz_bundle.specs.declared.form.tokens.LineTokens.{LineTokens}
use Rattle.kz_bundle.specs.declared.form.tokens.LineTokens.TheVariants.{One, Two, Three, Four, More}
use Rattle.kz_bundle.specs.Cut.{list_of, AreWords, AreMany, HasNoName}
use Rattle.kz_model.specs.declared.grammar.Mark.{Mark}
use Rattle.kz_bundle.specs.declared.form.lines.Line.{Line}
use Rattle.kz_bundle.specs.declared.form.reader.Reader.{Reader}
use Rattle.kz_bundle.specs.Lines.{Fits, FitsSteps}
use Rattle.kz_bundle.specs.Reading.{FoundFits}

-- a function that tells five words or more by the first alone
same_line : {X : Type 0} (f : List (List ℕ) → X) → ((first second third fourth fifth : List ℕ) (others : List (List ℕ)) →
    f (first ∷ [] ∷ [] ∷ [] ∷ [] ∷ []) ≡ f (first ∷ second ∷ third ∷ fourth ∷ fifth ∷ others)) → (words : LineTokens) (all : List (List ℕ)) → AreWords words all → f (list_of words) ≡ f all
same_line f by (One w) all h = ap f (sym h)
same_line f by (Two w x) all h = ap f (sym h)
same_line f by (Three w x y) all h = ap f (sym h)
same_line f by (Four w x y v) all h = ap f (sym h)
same_line f by (More w) all h = by w.now h.second h.third h.fourth h.fifth h.others ∙ ap f (sym h.all)

pub same_header : (at : ℕ) (words : LineTokens) (all : List (List ℕ)) → AreWords words all → header_line at (list_of words) ≡ header_line at all
same_header at words all h = same_line (header_line at) (λ a b c d e f. refl) words all h

pub same_cpu : (cpu : ℕ) (words : LineTokens) (all : List (List ℕ)) → AreWords words all → cpu_line cpu (list_of words) ≡ cpu_line cpu all
same_cpu cpu words all h = same_line (cpu_line cpu) (λ a b c d e f. refl) words all h

pub same_order : (d : Draft) (words : LineTokens) (all : List (List ℕ)) → AreWords words all → line_of_order d (list_of words) ≡ line_of_order d all
same_order d words all h = same_line (line_of_order d) (λ a b c d e f. refl) words all h

-- the first word of a line that is cut
pub first_word : (text first word : List ℕ) (rest : Option (Bor (List ℕ))) → MatchOption rest (tokens_of text ≡ first ∷ []) (λ rest. tokens_of text ≡ first ∷ tokens_of rest.now) → is_head word (tokens_of text) ≡ is word first
first_word text first word None h = ap (is_head word) h
first_word text first word (Some rest) h = ap (is_head word) h

-- a line that is no type line
pub no_type : (words : List (List ℕ)) → is_head (codes "type") words ≡ false → line_of_types words ≡ cpu_line 0 words
no_type words e = cond-false (is_head (codes "type") words) _ (cpu_line 0 words) e

-- five words or more are no step line
pub no_step : (d : Draft) (first : List ℕ) (words : List (List ℕ)) → AreMany first words → is (codes "cpu") first ≡ false → line_of_steps d words ≡ None
no_step d first words many other = ap (line_of_steps d) many.all ∙ cond-false (is (codes "cpu") first) _ None other

-- no step line has a second word that isn't a NAME
no_two : (w x : List ℕ) → is_name x ≡ false → step_of_2 w x ≡ None
no_two w x none = simp (none, and-false)

no_three : (cpus : ℕ) (w x y : List ℕ) → is_name x ≡ false → step_of_3 cpus w x y ≡ None
no_three cpus w x y none = simp (none, and-false)

no_four : (w x y v : List ℕ) → is_name x ≡ false → step_of_4 w x y v ≡ None
no_four w x y v none = simp (none, and-false)

no_named_step : (cpus : ℕ) (first : List ℕ) (words : List (List ℕ)) → HasNoName words → step_line cpus (first ∷ words) ≡ None
no_named_step cpus w [] none = absurd none
no_named_step cpus w (x ∷ []) none = no_two w x none
no_named_step cpus w (x ∷ y ∷ []) none = no_three cpus w x y none
no_named_step cpus w (x ∷ y ∷ v ∷ []) none = no_four w x y v none
no_named_step cpus w (x ∷ y ∷ v ∷ u ∷ words) none = refl

pub no_name : (d : Draft) (first : List ℕ) (words : List (List ℕ)) → HasNoName words → is (codes "cpu") first ≡ false → line_of_steps d (first ∷ words) ≡ None
no_name d first [] none other = absurd none
no_name d first (word ∷ words) none other = cond-false (is (codes "cpu") first) _ _ other ∙ ap (as_line Does) (no_named_step d.header.cpus first (word ∷ words) none)

-- before the last line
pub before_end : (place : Place) (d : Draft) (number : ℕ) (words : List (List ℕ)) → place ≢ Ended → after_line place d number words ≡ judged d number (line_at place d words)
before_end (Header at) d number words h = refl
before_end Types d number words h = refl
before_end Steps d number words h = refl
before_end Order d number words h = refl
before_end Ended d number words h = absurd (h refl)

-- what is found among steps may stand there
pub fits_at_steps : (r : Reader) (found : Option (Line × Mark)) → r.place ≡ Steps → IfSome found (λ f. FitsSteps r.header.cpus (length r.before.items) f.0) → FoundFits r found
fits_at_steps r None at h = tt
fits_at_steps r (Some f) at h = λ fine. (let P : Place → Type 0 = λ p. Fits p r.header.cpus (length r.before.items) f.0 in subst P (sym at) h)
