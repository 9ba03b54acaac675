-- Rows of names with one more behind them, and the entries that stand for them.
use Rattle.std.proofs.Common.{◌≡◌, ⊎_elim, subst, ℕ, zero, suc, ◌+◌, ◌<◌, ◌≤◌, ◌==◌, Bool, true, false, not, if◌then◌else◌, List, [], ◌∷◌, ◌++◌, length, map, take, replicate, Option, Some, None, refl, ap, sym, ◌∙◌, arith, length-append}
use Rattle.std.specs.Prelude.{slice_index, slice_index_or, slice_set, unwrap_or}
use Rattle.std.specs.List.{All}
use Rattle.std.specs.Option.{is_some}
use Rattle.std.specs.Str.{bytes_eq}
use Rattle.std.specs.Cmp.Lexicographic.{bytes_decides}
use Rattle.std.proofs.lemmas.Bool.{cases_Bool, cond-true}
use Rattle.std.proofs.Math.Seq.{get_or-append_seam}
use Rattle.std.proofs.lemmas.List.Elements.{All-append}
use Rattle.std.proofs.lemmas.List.{get_or_append_left, get_or-set_same, get_or-set_other, length-set, map-append, length-map, get_or-map, take_more}
use Rattle.kz_model.specs.Grammar.Stages.{Row, row_of, row_names, place_of}
use Rattle.kz_model.specs.Grammar.Spelling.{text_at}
use Rattle.kz_bundle.specs.declared.stages.entry.Entry.{Entry}
use Rattle.std.specs.Borrow.{Bor}
use Rattle.kz_model.specs.Grammar.Tokens.{texts}
use Rattle.kz_bundle.specs.Parts.{AreOnce}
use Rattle.kz_model.specs.declared.bundle.NameRow.{NameRow}
use Rattle.kz_bundle.specs.Rows.{name_row, numbered_row, ArePlacesOf, row_meant, rows_meant, no_entry, MatchesPlace, AreEntries, somes}
use Rattle.kz_bundle.proofs.Table.{is_itself}

-- ---- one more row

pub row_of-found : (name : List ℕ) (rows more : List Row) (row : Row) → row_of name rows ≡ Some row → row_of name (rows ++ more) ≡ Some row
row_of-found name [] more row e = absurd (cc)
row_of-found name (first ∷ rows) more row e =
    elim (bytes_eq first.name name) as (λ b. (if b then Some first else row_of name rows) ≡ Some row → (if b then Some first else row_of name (rows ++ more)) ≡ Some row) [
      | true ↦ λ f. f
      | false ↦ λ f. row_of-found name rows more row f
    ] e

pub row_of-last : (name : List ℕ) (rows : List Row) (row : Row) → row_of name rows ≡ None → row_of name (rows ++ row ∷ []) ≡ (if bytes_eq row.name name then Some row else None)
row_of-last name [] row e = refl
row_of-last name (first ∷ rows) row e =
    elim (bytes_eq first.name name) as (λ b. (if b then Some first else row_of name rows) ≡ None → (if b then Some first else row_of name (rows ++ row ∷ [])) ≡ (if bytes_eq row.name name then Some row else None)) [
      | true ↦ λ f. absurd (cc)
      | false ↦ λ f. row_of-last name rows row f
    ] e

-- a name that has no row stands behind all names
pub place_of-last : (name : List ℕ) (rows : List Row) (row : Row) → row_of name rows ≡ None → bytes_eq row.name name ≡ true → place_of name (row_names (rows ++ row ∷ [])) ≡ length rows
place_of-last name [] row e y = cond-true (bytes_eq row.name name) 0 1 y
place_of-last name (first ∷ rows) row e y =
    elim (bytes_eq first.name name) as (λ b. (if b then Some first else row_of name rows) ≡ None → (if b then 0 else place_of name (row_names (rows ++ row ∷ [])) + 1) ≡ suc (length rows)) [
      | true ↦ λ f. absurd (cc)
      | false ↦ λ f. omega (arith, place_of-last name rows row f y)
    ] e

place_of-first : (name : List ℕ) (rows more : List Row) (row : Row) → row_of name rows ≡ Some row → place_of name (row_names (rows ++ more)) ≡ place_of name (row_names rows)
place_of-first name [] more row e = absurd (cc)
place_of-first name (first ∷ rows) more row e =
    elim (bytes_eq first.name name) as (λ b. (if b then Some first else row_of name rows) ≡ Some row → (if b then 0 else place_of name (row_names (rows ++ more)) + 1) ≡ (if b then 0 else place_of name (row_names rows) + 1)) [
      | true ↦ λ f. refl
      | false ↦ λ f. ap (λ n. n + 1) (place_of-first name rows more row f)
    ] e

-- two texts of a list that has each once
pub others_differ : (names : List (List ℕ)) (a b : ℕ) → AreOnce names → a < length names → b < length names → (a ≡ b → ⊥) → bytes_eq (text_at names a) (text_at names b) ≡ false
others_differ names a b once la lb other =
    ⊎_elim
    (λ y. absurd (other (sym (once a la) ∙ ap (λ text. place_of text names) ((bytes_decides (text_at names a) (text_at names b)).0 y) ∙ once b lb)))
    (λ n. n)
    (cases_Bool (bytes_eq (text_at names a) (text_at names b)))

-- ---- counted

pub somes-set : (places : List (Option ℕ)) (n place : ℕ) → n < length places → slice_index_or places n None ≡ None → somes (slice_set places n (Some place)) ≡ somes places + 1
somes-set [] n place lt e = absurd (omega (arith, lt))
somes-set (None ∷ places) zero place lt e = omega arith
somes-set (Some x ∷ places) zero place lt e = absurd (cc)
somes-set (None ∷ places) (suc n) place lt e = somes-set places n place (omega (arith, lt)) e
somes-set (Some x ∷ places) (suc n) place lt e = omega (arith, somes-set places n place (omega (arith, lt)) e)

pub somes-le : (places : List (Option ℕ)) → somes places ≤ length places
somes-le [] = omega arith
somes-le (None ∷ places) = omega (arith, somes-le places)
somes-le (Some x ∷ places) = omega (arith, somes-le places)

somes-none : (n : ℕ) → somes (replicate n None) ≡ 0
somes-none zero = refl
somes-none (suc n) = somes-none n

none_at : (n k : ℕ) → slice_index_or {A = Option ℕ} (replicate n None) k None ≡ None
none_at zero k = refl
none_at (suc n) zero = refl
none_at (suc n) (suc k) = none_at n k

-- ---- the entries

pub no_entries : (names words : List (List ℕ)) (places : List (Option ℕ)) → places ≡ replicate (length names) None → length places ≡ length names → AreEntries names words [] places
no_entries names words places e long = record {
  lengths = long;
  counted = sym (ap somes e ∙ somes-none (length names));
  of_names = λ k d lt. absurd (omega (arith, lt));
  of_words = λ k d lt. absurd (omega (arith, lt));
  each = λ name lt.
      let none : slice_index_or places name None ≡ None = ap (λ (places : List (Option ℕ)). slice_index_or places name None) e ∙ none_at (length names) name in
      subst (MatchesPlace names words [] name) (sym none) refl;
}

matches_more : (names words : List (List ℕ)) (entries : List Entry) (entry : Entry) (name : ℕ) (place : Option ℕ) → bytes_eq (text_at names entry.name) (text_at names name) ≡ false →
    MatchesPlace names words entries name place → MatchesPlace names words (entries ++ entry ∷ []) name place
matches_more names words entries entry name None other h =
    ap (row_of (text_at names name)) (map-append (row_meant names words) entries (entry ∷ []))
    ∙ row_of-last (text_at names name) (rows_meant names words entries) (row_meant names words entry) h
    ∙ ap (λ b. if b then Some (row_meant names words entry) else None) other
matches_more names words entries entry name (Some place) other h =
    let same : slice_index_or (entries ++ entry ∷ []) place no_entry ≡ slice_index_or entries place no_entry = get_or_append_left entries (entry ∷ []) no_entry place h.within in
    let rows = rows_meant names words entries in
    record {
      within = omega (arith, h.within, length-append entries (entry ∷ []));
      row =
          ap (row_of (text_at names name)) (map-append (row_meant names words) entries (entry ∷ []))
          ∙ row_of-found (text_at names name) rows (row_meant names words entry ∷ []) _ h.row
          ∙ ap (λ (e : Entry). Some (row_meant names words e)) (sym same);
      number =
          ap (λ (rows : List Row). place_of (text_at names name) (row_names rows)) (map-append (row_meant names words) entries (entry ∷ []))
          ∙ place_of-first (text_at names name) rows (row_meant names words entry ∷ []) _ h.row
          ∙ h.number;
      same = ap (λ (e : Entry). e.name) same ∙ h.same;
    }

pub one_more_entry : (names words : List (List ℕ)) (entries more : List Entry) (places after : List (Option ℕ)) (entry : Entry) (place : ℕ) → AreOnce names → AreEntries names words entries places →
    entry.name < length names → entry.of < length words → slice_index_or places entry.name None ≡ None → place ≡ length entries →
    more ≡ entries ++ entry ∷ [] → after ≡ slice_set places entry.name (Some place) → AreEntries names words more after
one_more_entry names words entries more places after entry place once h there word none is pushed set =
    subst (λ more. AreEntries names words more after) (sym pushed) (subst (λ after. AreEntries names words (entries ++ entry ∷ []) after) (sym set) all)
  where
    within : entry.name < length places
    within = omega (arith, there, h.lengths)

    only : All (λ (e : Entry). e.of < length words) (entry ∷ [])
    only zero d lt = word
    only (suc k) d lt = absurd (omega (arith, lt))

    only_named : All (λ (e : Entry). e.name < length names) (entry ∷ [])
    only_named zero d lt = there
    only_named (suc k) d lt = absurd (omega (arith, lt))

    old : MatchesPlace names words entries entry.name None
    old = subst (MatchesPlace names words entries entry.name) none (h.each entry.name there)

    last : slice_index_or (entries ++ entry ∷ []) place no_entry ≡ entry
    last = ap (λ n. slice_index_or (entries ++ entry ∷ []) n no_entry) is ∙ get_or-append_seam entries entry [] no_entry

    here : MatchesPlace names words (entries ++ entry ∷ []) entry.name (Some place)
    here = record {
      within = omega (arith, is, length-append entries (entry ∷ []));
      row =
          ap (row_of (text_at names entry.name)) (map-append (row_meant names words) entries (entry ∷ []))
          ∙ row_of-last (text_at names entry.name) (rows_meant names words entries) (row_meant names words entry) old
          ∙ ap (λ b. if b then Some (row_meant names words entry) else None) (is_itself (text_at names entry.name))
          ∙ ap (λ (e : Entry). Some (row_meant names words e)) (sym last);
      number =
          ap (λ (rows : List Row). place_of (text_at names entry.name) (row_names rows)) (map-append (row_meant names words) entries (entry ∷ []))
          ∙ place_of-last (text_at names entry.name) (rows_meant names words entries) (row_meant names words entry) old (is_itself (text_at names entry.name))
          ∙ length-map entries (row_meant names words) ∙ sym is;
      same = ap (λ (e : Entry). e.name) last;
    }

    each : (name : ℕ) → name < length names → (b : Bool) → (entry.name == name) ≡ b → MatchesPlace names words (entries ++ entry ∷ []) name (slice_index_or (slice_set places entry.name (Some place)) name None)
    each name lt true e =
        let same : entry.name ≡ name = grind arith in
        let P : ℕ → Type 0 = λ name. MatchesPlace names words (entries ++ entry ∷ []) name (slice_index_or (slice_set places entry.name (Some place)) name None) in
        subst P same (subst (MatchesPlace names words (entries ++ entry ∷ []) entry.name) (sym (get_or-set_same places entry.name (Some place) None within)) here)
    each name lt false e =
        let other : name ≡ entry.name → ⊥ = λ same. grind arith in
        subst (MatchesPlace names words (entries ++ entry ∷ []) name) (sym (get_or-set_other places entry.name name (Some place) None other))
        (matches_more names words entries entry name (slice_index_or places name None) (others_differ names entry.name name once there lt (λ same. other (sym same))) (h.each name lt))

    all : AreEntries names words (entries ++ entry ∷ []) (slice_set places entry.name (Some place))
    all = record {
      lengths = length-set places entry.name (Some place) ∙ h.lengths;
      counted = omega (arith, length-append entries (entry ∷ []), h.counted, somes-set places entry.name place within none);
      of_names = All-append (λ (e : Entry). e.name < length names) entries (entry ∷ []) h.of_names only_named;
      of_words = All-append (λ (e : Entry). e.of < length words) entries (entry ∷ []) h.of_words only;
      each = λ name lt. each name lt (entry.name == name) refl;
    }

pub not_some : (o : Option ℕ) (b : Bool) → is_some o ≡ not b → b ≡ true → o ≡ None
not_some None b e t = refl
not_some (Some n) b e t = absurd (let h : true ≡ false = e ∙ ap not t in cc)

-- ---- numbers

place_of-none : (name : List ℕ) (rows : List Row) → row_of name rows ≡ None → place_of name (row_names rows) ≡ length rows
place_of-none name [] e = refl
place_of-none name (row ∷ rows) e =
    elim (bytes_eq row.name name) as (λ b. (if b then Some row else row_of name rows) ≡ None → (if b then 0 else place_of name (row_names rows) + 1) ≡ suc (length rows)) [
      | true ↦ λ f. absurd (cc)
      | false ↦ λ f. omega (arith, place_of-none name rows f)
    ] e

number_of-place : (names words : List (List ℕ)) (entries : List Entry) (name : ℕ) (place : Option ℕ) → MatchesPlace names words entries name place →
    unwrap_or place (length entries) ≡ place_of (text_at names name) (row_names (rows_meant names words entries))
number_of-place names words entries name None h = sym (place_of-none (text_at names name) (rows_meant names words entries) h ∙ length-map entries (row_meant names words))
number_of-place names words entries name (Some place) h = sym h.number

pub numbers_are : (names words : List (List ℕ)) (entries : List Entry) (places : List (Option ℕ)) (numbers : List ℕ) → AreEntries names words entries places →
    numbers ≡ map (λ place. unwrap_or place (length entries)) places → ArePlacesOf (row_names (rows_meant names words entries)) names numbers
numbers_are names words entries places numbers h e = (
  ap (λ (xs : List ℕ). length xs) e ∙ length-map places (λ place. unwrap_or place (length entries)) ∙ h.lengths,
  λ name lt.
      ap (λ (xs : List ℕ). slice_index xs name) e
      ∙ get_or-map (λ place. unwrap_or place (length entries)) places name None 0 (omega (arith, lt, h.lengths))
      ∙ number_of-place names words entries name (slice_index_or places name None) (h.each name lt),
)

pub rows_are : (names words types : List (List ℕ)) (places : List ℕ) (entries : List Entry) → All (λ (entry : Entry). entry.of < length words) entries → ArePlacesOf types words places →
    map (numbered_row names places) entries ≡ map (name_row types) (rows_meant names words entries)
rows_are names words types places [] all h = refl
rows_are names words types places (entry ∷ entries) all h =
    let rest : List NameRow = map (numbered_row names places) entries in
    ap (λ of. record { name = text_at names entry.name; of = of } ∷ rest) (h.1 entry.of (all 0 entry (omega arith)))
    ∙ ap (λ (others : List NameRow). name_row types (row_meant names words entry) ∷ others) (rows_are names words types places entries (λ k d lt. all (suc k) d (omega (arith, lt))) h)

-- one entry's row more
pub more_numbered : (names : List (Bor (List ℕ))) (types : List ℕ) (entries : List Entry) (entry : Entry) (name : Bor (List ℕ)) (text : List ℕ) (i : ℕ) → i < length entries → entry ≡ slice_index_or entries i entry →
    entry.name < length names → name ≡ slice_index_or names entry.name name → text ≡ name.now →
    map (numbered_row (texts names) types) (take i entries) ++ record { name = text; of = slice_index types entry.of } ∷ [] ≡ map (numbered_row (texts names) types) (take (i + 1) entries)
more_numbered names types entries entry name text i lt is there same told =
    let f = numbered_row (texts names) types in
    let taken : take (i + 1) entries ≡ take i entries ++ entry ∷ [] = take_more entries i entry lt ∙ ap (λ (last : Entry). take i entries ++ last ∷ []) (sym is) in
    let is_text : text ≡ text_at (texts names) entry.name = told ∙ ap (λ (b : Bor (List ℕ)). b.now) same ∙ sym (get_or-map (λ (b : Bor (List ℕ)). b.now) names entry.name name [] there) in
    ap (λ (text : List ℕ). map f (take i entries) ++ record { name = text; of = slice_index types entry.of } ∷ []) is_text
    ∙ sym (map-append f (take i entries) (entry ∷ []))
    ∙ ap (map f) (sym taken)
