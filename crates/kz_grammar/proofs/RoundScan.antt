-- Sections one after the other: all have as many rounds as the first, or the first that has not.
use Rattle.std.proofs.Common.{◌≡◌, ◌≢◌, ℕ, ◌==◌, true, false, not, List, [], ◌∷◌, ◌++◌, Option, Some, None, refl, sym, ◌∙◌, subst, arith}
use Rattle.std.specs.Prelude.{All}
use Rattle.std.proofs.lemmas.List.{append_assoc, append-nil}
use Rattle.std.proofs.lemmas.List.Elements.{All-nil, All-cons, All-push, All-contains}
use Rattle.kz_model.specs.declared.grammar.Cause.TheVariants as cause
use Rattle.kz_model.specs.declared.grammar.Refusal.{Refusal}
use Rattle.kz_model.specs.Grammar.Form.{Section}
use Rattle.kz_model.specs.Grammar.Stages.{rounds_from, rounds_of}
use Rattle.kz_grammar.specs.Rounds.{HaveEquallyManyBreaks, IsRoundsFault}
use Rattle.kz_grammar.proofs.Cases.{test_then}

abbrev HasBreaks : ℕ → Section → Type 0
HasBreaks breaks section = section.breaks ≡ breaks

pub equally_many : (breaks : ℕ) (sections : List Section) → All (λ section. section.breaks ≡ breaks) sections → HaveEquallyManyBreaks sections
equally_many breaks sections all one other there too = All-contains (HasBreaks breaks) sections one all there ∙ sym (All-contains (HasBreaks breaks) sections other all too)

-- all sections have equally many rounds, or the first that has not
abbrev pub RoundsOutcome : List Section → Option Refusal → Type 0
RoundsOutcome whole None = HaveEquallyManyBreaks whole
RoundsOutcome whole (Some refusal) = (refusal.cause ≡ cause.RoundsDiffer) × IsRoundsFault whole refusal.line

rounds_scan : (first : Section) (whole between sections : List Section) → whole ≡ first ∷ between ++ sections → All (λ section. section.breaks ≡ first.breaks) (first ∷ between) →
    RoundsOutcome whole (rounds_from first.breaks sections)
rounds_scan first whole between [] parts all =
    subst HaveEquallyManyBreaks (sym (parts ∙ append-nil (first ∷ between))) (equally_many first.breaks (first ∷ between) all)
rounds_scan first whole between (section ∷ sections) parts all =
    test_then (RoundsOutcome whole) (not (section.breaks == first.breaks)) section.line cause.RoundsDiffer (rounds_from first.breaks sections)
    (λ other. (
      refl,
      record {
        first = first;
        between = between;
        section = section;
        after = sections;
        parts = parts;
        numbered = refl;
        broken = differ section.breaks first.breaks other;
        fine = equally_many first.breaks (first ∷ between) all;
      },
    ))
    (λ same. rounds_scan first whole (between ++ section ∷ []) sections (parts ∙ sym (append_assoc (first ∷ between) (section ∷ []) sections))
    (All-push (HasBreaks first.breaks) (first ∷ between) section all (equal section.breaks first.breaks same)))
  where
    differ : (a b : ℕ) → not (a == b) ≡ true → a ≢ b
    differ a b e same = grind arith

    equal : (a b : ℕ) → not (a == b) ≡ false → a ≡ b
    equal a b e = grind arith

pub rounds_outcome : (sections : List Section) → RoundsOutcome sections (rounds_of sections)
rounds_outcome [] = λ one other there. absurd (omega (arith, there.1))
rounds_outcome (first ∷ sections) = rounds_scan first (first ∷ sections) [] sections refl (All-cons (HasBreaks first.breaks) first [] refl (All-nil (HasBreaks first.breaks)))
