-- The stage of names, by the rows of all lines.
use Rattle.std.proofs.Common.{◌≡◌, ⊎_elim, ℕ, ◌+◌, true, false, ◌||◌, List, [], ◌∷◌, length, map, Option, None, Some, refl, ap, sym, ◌∙◌, arith, subst}
use Rattle.std.specs.Prelude.{slice_index_or, unwrap_or, slice_index}
use Rattle.std.specs.Borrow.{Bor}
use Rattle.std.specs.Str.{bytes_eq}
use Rattle.std.specs.List.{position_from}
use Rattle.std.specs.Cmp.Lexicographic.{bytes_decides}
use Rattle.std.proofs.lemmas.Bool.{cases_Bool, cond-true, cond-false, or_parts}
use Rattle.std.proofs.lemmas.List.{length-map, get_or-map}
use Rattle.kz_model.specs.declared.bundle.TypeDecl.{TypeDecl}
use Rattle.kz_model.specs.declared.grammar.Refusal.{Refusal}
use Rattle.kz_model.specs.Grammar.Form.{Section}
use Rattle.kz_model.specs.Types.Layouts.{names_of, place_of as option_place}
use Rattle.kz_model.specs.Grammar.Stages.{names_from, names_fault, rows_of, lines_from, has, place_of}
use Rattle.kz_bundle.specs.declared.form.parts.Part.{Part}
use Rattle.kz_bundle.specs.declared.form.parts.Parts.{Parts}
use Rattle.kz_model.specs.Grammar.Tokens.{texts}
use Rattle.kz_bundle.specs.Parts.{section_meant, draft_of, AreParts}
use Rattle.kz_model.specs.Grammar.Spelling.{text_at}
use Rattle.kz_bundle.specs.Naming.{AreDeclared, MatchesDeclared}
use Rattle.kz_bundle.specs.Rows.{Rows, ArePlacesOf}
use Rattle.kz_bundle.specs.Numbers.{rows_in}
use Rattle.kz_bundle.proofs.AllRounds.{sections_back}

-- no row, with these tables
abbrev pub no_rows : List (List ℕ) → List (List ℕ) → Rows
no_rows names words = record { names = names; words = words; rows = [] }

-- what a scan of all lines from no row on gives
abbrev pub Scans : List (Option ℕ) → Rows → Rows → List Part → Option Refusal → Type 0
Scans declared all rows sections fault = (types : List (List ℕ)) → AreDeclared types rows.words declared →
    names_from types all.rows rows.rows (lines_from 0 (map (section_meant rows.names rows.words) sections)) ≡ fault

pub names_told : (parts : Parts) (declared : List (Option ℕ)) (all rows : Rows) (names words : List (Bor (List ℕ))) (sections : List Part) (fault : Option Refusal) → AreParts parts →
    AreDeclared (names_of parts.types) (texts parts.words.items) declared → all ≡ rows_in parts → rows ≡ no_rows (texts names) (texts words) →
    names ≡ parts.names.items → words ≡ parts.words.items → sections ≡ parts.sections.items → Scans declared all rows sections fault → names_fault (draft_of parts) ≡ fault
names_told parts declared all rows names words sections fault h are is_all is_rows is_names is_words is_sections told =
    let all_told = subst (λ a. Scans declared a rows sections fault) is_all told in
    let rows_told = subst (λ r. Scans declared (rows_in parts) r sections fault) is_rows all_told in
    let names_told = subst (λ n. Scans declared (rows_in parts) (no_rows (texts n) (texts words)) sections fault) is_names rows_told in
    let words_told = subst (λ w. Scans declared (rows_in parts) (no_rows (texts parts.names.items) (texts w)) sections fault) is_words names_told in
    let given = subst (λ s. Scans declared (rows_in parts) (no_rows (texts parts.names.items) (texts parts.words.items)) s fault) is_sections words_told in
    ap (λ (s : List Section). names_from (names_of parts.types) (rows_of (lines_from 0 s)) [] (lines_from 0 s)) (sections_back parts h)
    ∙ given (names_of parts.types) are

pub place_of-absent : (text : List ℕ) (table : List (List ℕ)) → has text table ≡ false → place_of text table ≡ length table
place_of-absent text [] h = refl
place_of-absent text (other ∷ table) h =
    let parts = or_parts (bytes_eq other text) (has text table) h in
    cond-false (bytes_eq other text) 0 (place_of text table + 1) parts.0 ∙ omega (arith, place_of-absent text table parts.1)

-- equality of bytes, either way round
flip : (a b : List ℕ) → bytes_eq a b ≡ bytes_eq b a
flip a b =
    ⊎_elim
    (λ y. y ∙ sym ((bytes_decides b a).1 (sym ((bytes_decides a b).0 y))))
    (λ n. ⊎_elim
    (λ y. absurd (let same : bytes_eq a b ≡ true = (bytes_decides a b).1 (sym ((bytes_decides b a).0 y)) in cc))
    (λ m. n ∙ sym m)
    (cases_Bool (bytes_eq b a)))
    (cases_Bool (bytes_eq a b))

-- where a name was found among these types, the first of which has this place
abbrev Found : List (List ℕ) → List ℕ → ℕ → Option ℕ → Type 0
Found types name at None = has name types ≡ false
Found types name at (Some place) = (has name types ≡ true) × (place ≡ at + place_of name types)

found_later : (other name : List ℕ) (types : List (List ℕ)) (at : ℕ) (found : Option ℕ) → bytes_eq other name ≡ false → Found types name (at + 1) found → Found (other ∷ types) name at found
found_later other name types at None isn't h = ap (λ b. b || has name types) isn't ∙ h
found_later other name types at (Some place) isn't h =
    let further : place_of name (other ∷ types) ≡ place_of name types + 1 = cond-false (bytes_eq other name) 0 (place_of name types + 1) isn't in
    (ap (λ b. b || has name types) isn't ∙ h.0, omega (arith, h.1, further))

found_here : (other name : List ℕ) (types : List (List ℕ)) (at : ℕ) → bytes_eq other name ≡ true → Found (other ∷ types) name at (Some at)
found_here other name types at is =
    let here : place_of name (other ∷ types) ≡ 0 = cond-true (bytes_eq other name) 0 (place_of name types + 1) is in
    (ap (λ b. b || has name types) is, omega (arith, here))

is_found : (types : List (List ℕ)) (name : List ℕ) (at : ℕ) → Found types name at (position_from (bytes_eq name) at types)
is_found [] name at = refl
is_found (other ∷ types) name at =
    let F : Option ℕ → Type 0 = Found (other ∷ types) name at in
    ⊎_elim
    (λ y. subst F (sym (cond-true (bytes_eq name other) (Some at) (position_from (bytes_eq name) (at + 1) types) y)) (found_here other name types at (sym (flip name other) ∙ y)))
    (λ n. subst F (sym (cond-false (bytes_eq name other) (Some at) (position_from (bytes_eq name) (at + 1) types) n))
    (found_later other name types at (position_from (bytes_eq name) (at + 1) types) (sym (flip name other) ∙ n) (is_found types name (at + 1))))
    (cases_Bool (bytes_eq name other))

matches : (types : List (List ℕ)) (name : List ℕ) (found : Option ℕ) → Found types name 0 found → MatchesDeclared types name found
matches types name None h = h
matches types name (Some place) h = (h.0, omega (arith, h.1))

pub are_declared : (types words : List (List ℕ)) (places : List (Option ℕ)) → places ≡ map (λ word. option_place word types) words → AreDeclared types words places
are_declared types words places e = record {
  lengths = ap length e ∙ length-map words (λ word. option_place word types);
  each = λ word lt.
      let is : slice_index_or places word None ≡ option_place (text_at words word) types =
      ap (λ (p : List (Option ℕ)). slice_index_or p word None) e ∙ get_or-map (λ word. option_place word types) words word [] None lt in
      subst (MatchesDeclared types (text_at words word)) (sym is) (matches types (text_at words word) (option_place (text_at words word) types) (is_found types (text_at words word) 0));
}

numbered : (types : List (List ℕ)) (word : List ℕ) (found : Option ℕ) → MatchesDeclared types word found → unwrap_or found (length types) ≡ place_of word types
numbered types word None h = sym (place_of-absent word types h)
numbered types word (Some place) h = h.1

pub types_numbered : (decls : List TypeDecl) (words : List (List ℕ)) (declared slice : List (Option ℕ)) (numbers : List ℕ) (other : ℕ) → AreDeclared (names_of decls) words declared →
    numbers ≡ map (λ place. unwrap_or place other) slice → slice ≡ declared → other ≡ length decls → ArePlacesOf (names_of decls) words numbers
types_numbered decls words declared slice numbers other h e is count =
    let types = names_of decls in
    let told : numbers ≡ map (λ place. unwrap_or place (length types)) declared =
    e ∙ ap (λ (s : List (Option ℕ)). map (λ place. unwrap_or place other) s) is
    ∙ ap (λ n. map (λ place. unwrap_or place n) declared) (count ∙ sym (length-map decls (λ decl. decl.name))) in (
      ap (λ (xs : List ℕ). length xs) told ∙ length-map declared (λ place. unwrap_or place (length types)) ∙ h.lengths,
      λ word lt.
          ap (λ (xs : List ℕ). slice_index xs word) told
          ∙ get_or-map (λ place. unwrap_or place (length types)) declared word None 0 (omega (arith, lt, h.lengths))
          ∙ numbered types (text_at words word) (slice_index_or declared word None) (h.each word lt),
    )

pub rows_told : (parts : Parts) (names words : List (Bor (List ℕ))) (sections : List Part) (all : Rows) → names ≡ parts.names.items → words ≡ parts.words.items → sections ≡ parts.sections.items →
    all ≡ record { names = texts names; words = texts words; rows = rows_of (lines_from 0 (map (section_meant (texts names) (texts words)) sections)) } → all ≡ rows_in parts
rows_told parts names words sections all is_names is_words is_sections e =
    let F : List (Bor (List ℕ)) → List (Bor (List ℕ)) → List Part → Rows =
    λ n w s. record { names = texts n; words = texts w; rows = rows_of (lines_from 0 (map (section_meant (texts n) (texts w)) s)) } in
    e ∙ ap (λ n. F n words sections) is_names ∙ ap (λ w. F parts.names.items w sections) is_words ∙ ap (λ s. F parts.names.items parts.words.items s) is_sections
