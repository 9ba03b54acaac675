-- A line cut into its words.
use Rattle.std.specs.Prelude.{◌≡◌, ◌≢◌, ℕ, ◌<◌, true, false, List, [], ◌∷◌, length, take, All, slice_index}
use Rattle.kz_model.specs.Grammar.Tokens.{is_name_byte, is_name}
use Rattle.kz_bundle.specs.declared.form.tokens.LineTokens.{LineTokens}
use Rattle.kz_bundle.specs.declared.form.tokens.LineTokens.TheVariants.{One, Two, Three, Four, More}

abbrev pub HasNoSpace : List ℕ → Type 0
HasNoSpace text = All (λ byte. byte ≢ 32) text

abbrev pub AreNameBytes : List ℕ → Type 0
AreNameBytes text = All (λ byte. is_name_byte byte ≡ true) text

-- the first word isn't a NAME
abbrev pub HasNoName : List (List ℕ) → Type 0
HasNoName [] = ⊥
HasNoName (word ∷ words) = is_name word ≡ false

-- the first space
pub record SpaceAt (text : List ℕ) (at : ℕ) : Type 0 where
  pub within : at < length text
  pub space : slice_index text at ≡ 32
  pub none_before : HasNoSpace (take at text)

-- the words that are told; more than four stand as five, of which only the first is told
abbrev pub list_of : LineTokens → List (List ℕ)
list_of (One w) = w.now ∷ []
list_of (Two w x) = w.now ∷ x.now ∷ []
list_of (Three w x y) = w.now ∷ x.now ∷ y.now ∷ []
list_of (Four w x y v) = w.now ∷ x.now ∷ y.now ∷ v.now ∷ []
list_of (More w) = w.now ∷ [] ∷ [] ∷ [] ∷ [] ∷ []

-- five words or more, the first of them this one
pub record AreMany (first : List ℕ) (words : List (List ℕ)) : Type 0 where
  pub second : List ℕ
  pub third : List ℕ
  pub fourth : List ℕ
  pub fifth : List ℕ
  pub others : List (List ℕ)
  pub all : words ≡ first ∷ second ∷ third ∷ fourth ∷ fifth ∷ others

-- these words are told
abbrev pub AreWords : LineTokens → List (List ℕ) → Type 0
AreWords (One w) words = words ≡ w.now ∷ []
AreWords (Two w x) words = words ≡ w.now ∷ x.now ∷ []
AreWords (Three w x y) words = words ≡ w.now ∷ x.now ∷ y.now ∷ []
AreWords (Four w x y v) words = words ≡ w.now ∷ x.now ∷ y.now ∷ v.now ∷ []
AreWords (More w) words = AreMany w.now words
