-- A text cut at its first space.
use Rattle.std.proofs.Common.{◌≡◌, ◌≢◌, ℕ, Bor, Option, Some, subst, MatchOption, suc, ◌+◌, List, [], ◌∷◌, ◌++◌, take, drop, Bool, true, false, ◌==◌, if◌then◌else◌, refl, sym, ap, ◌∙◌, arith, add-one}
use Rattle.std.proofs.Math.Seq.{drop-cons}
use Rattle.std.specs.List.{onto_first, slice_split}
use Rattle.std.proofs.lemmas.List.{take-append-drop}
use Rattle.std.proofs.lemmas.List.Splits.{slice_split_at, slice_split_none}
use Rattle.std.proofs.lemmas.Grind.{common_steps}
use Rattle.kz_model.specs.Grammar.Tokens.{tokens_of}
use Rattle.kz_bundle.specs.Cut.{HasNoSpace, SpaceAt, AreMany}

no_space : (byte : ℕ) → byte ≢ 32 → (byte == 32) ≡ false
no_space byte h = grind (arith, common_steps)

-- a text is what stands before its first space, the space, and what follows
parts_at : (text : List ℕ) (at : ℕ) → SpaceAt text at → text ≡ take at text ++ 32 ∷ drop (at + 1) text
parts_at text at h =
    sym (take-append-drop at text) ∙ ap (λ xs. take at text ++ xs) (drop-cons text at 0 h.within ∙ ap (λ byte. byte ∷ drop (suc at) text) h.space)
    ∙ ap (λ n. take at text ++ 32 ∷ drop n text) (sym (add-one at))

pub cut_at : (text rest : List ℕ) (at : ℕ) → SpaceAt text at → rest ≡ drop (at + 1) text → tokens_of text ≡ take at text ∷ tokens_of rest
cut_at text rest at h is =
    ap tokens_of (parts_at text at h) ∙ slice_split_at (λ byte. byte == 32) (take at text) 32 (drop (at + 1) text) (λ i d lt. no_space _ (h.none_before i d lt)) refl
    ∙ ap (λ more. take at text ∷ tokens_of more) (sym is)

pub cut_none : (text : List ℕ) → HasNoSpace text → tokens_of text ≡ text ∷ []
cut_none text none = slice_split_none (λ byte. byte == 32) text (λ i d lt. no_space _ (none i d lt))

-- there is a first part
pub record Starts (words : List (List ℕ)) : Type 0 where
  pub first : List ℕ
  pub others : List (List ℕ)
  pub all : words ≡ first ∷ others

onto : (byte : ℕ) (words : List (List ℕ)) → Starts (onto_first byte words)
onto byte [] = record { first = byte ∷ []; others = []; all = refl }
onto byte (word ∷ words) = record { first = byte ∷ word; others = words; all = refl }

cut_step : (at : Bool) (byte : ℕ) (words : List (List ℕ)) → Starts (if at then [] ∷ words else onto_first byte words)
cut_step true byte words = record { first = []; others = words; all = refl }
cut_step false byte words = onto byte words

pub some_part : (cuts : ℕ → Bool) (text : List ℕ) → Starts (slice_split cuts text)
some_part cuts [] = record { first = []; others = []; all = refl }
some_part cuts (byte ∷ text) = cut_step (cuts byte) byte (slice_split cuts text)

-- four words, and a rest behind them
pub five_words : (line a b c d : List ℕ) (w x y v : List ℕ) → tokens_of line ≡ w ∷ tokens_of a → tokens_of a ≡ x ∷ tokens_of b → tokens_of b ≡ y ∷ tokens_of c → tokens_of c ≡ v ∷ tokens_of d →
    AreMany w (tokens_of line)
five_words line a b c d w x y v one two three four =
    let last = some_part (λ byte. byte == 32) d in
    record {
      second = x;
      third = y;
      fourth = v;
      fifth = last.first;
      others = last.others;
      all = one ∙ ap (λ ws. w ∷ ws) (two ∙ ap (λ ws. x ∷ ws) (three ∙ ap (λ ws. y ∷ ws) (four ∙ ap (λ ws. v ∷ ws) last.all)));
    }

-- a cut with a rest
pub cut_to : (line w : List ℕ) (rest : Option (Bor (List ℕ))) (r : Bor (List ℕ)) → rest ≡ Some r → MatchOption rest (tokens_of line ≡ w ∷ []) (λ rest. tokens_of line ≡ w ∷ tokens_of rest.now) →
    tokens_of line ≡ w ∷ tokens_of r.now
cut_to line w rest r is h =
    let P : Option (Bor (List ℕ)) → Type 0 = λ rest. MatchOption rest (tokens_of line ≡ w ∷ []) (λ rest. tokens_of line ≡ w ∷ tokens_of rest.now) in subst P is h
