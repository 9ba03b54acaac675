-- The lines of a plan, as the code writes them.
use Rattle.std.proofs.Common.{◌≡◌, ℕ, ◌+◌, ◌<◌, List, [], ◌∷◌, ◌++◌, length, map, take, slice_index, slice_index_or, codes, decimal, ap, sym, ◌∙◌, arith, append_assoc}
use Rattle.std.specs.List.{enumerate_from, flat_map, range_with_len}
use Rattle.std.proofs.lemmas.List.{get_or_default, append-nil, map-append, take_more, length-take}
use Rattle.std.proofs.lemmas.List.FromFn.{map-range_with_len_more}
use Rattle.std.proofs.lemmas.Grind.{flat_map-append}
use Rattle.kz_model.specs.declared.bundle.Bundle.{Bundle}
use Rattle.kz_model.specs.declared.record.Layout.{Layout}
use Rattle.kz_model.specs.declared.record.Plan.{Plan}
use Rattle.kz_model.specs.declared.record.ZoneRow.{ZoneRow}
use Rattle.kz_model.specs.Run.Journal.{zone_row}
use Rattle.kz_model.specs.Text.Report.{type_line, zone_line, zone_name, submap_name, no_type, no_layout}
use Rattle.kz_model.specs.Text.Lines.{text_of_lines}
use Rattle.kz_model.proofs.TraceRounds.{range_push}
use Rattle.kz_report.specs.Lines.{type_line_of}

-- ---- a line's pieces, by twelve as a format has them

type_regrouped : (a name b size c align d letters e class f zone g : List ℕ) →
    (a ++ (name ++ (b ++ (size ++ (c ++ (align ++ (d ++ (letters ++ (e ++ (class ++ (f ++ zone))))))))))) ++ g
    ≡ (a ++ name ++ b ++ size ++ c ++ align ++ d ++ letters ++ e ++ class ++ f ++ zone) ++ g
type_regrouped a name b size c align d letters e class f zone g = simp append_assoc

pub type_text : (name : List ℕ) (layout : Layout) (class zone : ℕ) →
    (codes "type " ++ (name ++ (codes " size " ++ (decimal layout.size ++ (codes " align " ++ (decimal layout.align ++ (codes " letters " ++ (layout.letters ++ (codes " class " ++ (decimal class ++ (codes " zone " ++ decimal zone))))))))))) ++ codes "\n"
    ≡ type_line (record { name = name; fields = [] }) layout class zone ++ codes "\n"
type_text name layout class zone =
    type_regrouped (codes "type ") name (codes " size ") (decimal layout.size) (codes " align ") (decimal layout.align) (codes " letters ") layout.letters (codes " class ") (decimal class) (codes " zone ") (decimal zone) (codes "\n")

zone_regrouped : (a zone b name c element d count e pages f submap g types h : List ℕ) →
    (a ++ (zone ++ (b ++ (name ++ (c ++ (element ++ (d ++ (count ++ (e ++ (pages ++ (f ++ submap))))))))))) ++ (g ++ (types ++ h))
    ≡ (a ++ zone ++ b ++ name ++ c ++ element ++ d ++ count ++ e ++ pages ++ f ++ submap ++ g ++ types) ++ h
zone_regrouped a zone b name c element d count e pages f submap g types h = simp append_assoc

pub zone_text : (zone : ℕ) (row : ZoneRow) →
    (codes "zone " ++ (decimal zone ++ (codes " " ++ (zone_name row ++ (codes " element " ++ (decimal row.shape.element ++ (codes " count " ++ (decimal row.shape.count ++ (codes " pages " ++ (decimal row.shape.pages ++ (codes " submap " ++ submap_name row.submap))))))))))) ++ (codes " types " ++ (decimal row.types ++ codes "\n"))
    ≡ zone_line zone row ++ codes "\n"
zone_text zone row =
    zone_regrouped (codes "zone ") (decimal zone) (codes " ") (zone_name row) (codes " element ") (decimal row.shape.element) (codes " count ") (decimal row.shape.count) (codes " pages ") (decimal row.shape.pages) (codes " submap ") (submap_name row.submap) (codes " types ") (decimal row.types) (codes "\n")

-- ---- one line more

pub one_line : (base s t line : List ℕ) (lines : List (List ℕ)) → s ≡ base ++ text_of_lines lines → t ≡ s ++ (line ++ codes "\n") → t ≡ base ++ text_of_lines (lines ++ line ∷ [])
one_line base s t line lines before e =
    e ∙ ap (λ s. s ++ (line ++ codes "\n")) before
    ∙ append_assoc base (text_of_lines lines) (line ++ codes "\n")
    ∙ ap (λ l. base ++ (text_of_lines lines ++ l)) (sym (append-nil (line ++ codes "\n")))
    ∙ ap (λ l. base ++ l) (sym (flat_map-append (λ (line : List ℕ). line ++ 10 ∷ []) lines (line ∷ [])))

enumerate-push : {A : Type 0} (n : ℕ) (rows : List A) (row : A) (k : ℕ) → n + length rows ≡ k → enumerate_from n (rows ++ row ∷ []) ≡ enumerate_from n rows ++ (k, row) ∷ []
enumerate-push n [] row k e = ap (λ k. (k, row) ∷ []) (omega arith)
enumerate-push {A = A} n (r ∷ rows) row k e = ap (λ (more : List (ℕ × A)). (n, r) ∷ more) (enumerate-push (n + 1) rows row k (omega arith))

-- the lines of numbered rows
pub more_numbered : {A : Type 0} (line : ℕ × A → List ℕ) (rows : List A) (i : ℕ) (row d : A) (base s t : List ℕ) → i < length rows → row ≡ slice_index_or rows i d →
    s ≡ base ++ text_of_lines (map line (enumerate_from 0 (take i rows))) → t ≡ s ++ (line (i, row) ++ codes "\n") →
    t ≡ base ++ text_of_lines (map line (enumerate_from 0 (take (i + 1) rows)))
more_numbered {A = A} line rows i row d base s t lt is before e =
    let more : enumerate_from 0 (take (i + 1) rows) ≡ enumerate_from 0 (take i rows) ++ (i, row) ∷ [] =
    ap (enumerate_from 0) (take_more rows i d lt ∙ ap (λ (row : A). take i rows ++ row ∷ []) (sym is))
    ∙ enumerate-push 0 (take i rows) row i (omega (arith, length-take i rows)) in
    one_line base s t (line (i, row)) (map line (enumerate_from 0 (take i rows))) before e
    ∙ ap (λ lines. base ++ text_of_lines lines) (sym (ap (map line) more ∙ map-append line (enumerate_from 0 (take i rows)) ((i, row) ∷ [])))

-- a line for each of a range
pub more_of_range : (line : ℕ → List ℕ) (i : ℕ) (base s t : List ℕ) → s ≡ base ++ text_of_lines (map line (range_with_len 0 i)) → t ≡ s ++ (line i ++ codes "\n") →
    t ≡ base ++ text_of_lines (map line (range_with_len 0 (i + 1)))
more_of_range line i base s t before e =
    one_line base s t (line i) (map line (range_with_len 0 i)) before e
    ∙ ap (λ lines. base ++ text_of_lines lines) (sym (map-range_with_len_more line 0 i i (omega arith)))

-- the lines of a range
pub more_lines : (lines : ℕ → List (List ℕ)) (i : ℕ) (base s t : List ℕ) → s ≡ base ++ text_of_lines (flat_map lines (range_with_len 0 i)) → t ≡ s ++ text_of_lines (lines i) →
    t ≡ base ++ text_of_lines (flat_map lines (range_with_len 0 (i + 1)))
more_lines lines i base s t before e =
    let zero_on : 0 + i ≡ i = omega arith in
    e ∙ ap (λ s. s ++ text_of_lines (lines i)) before
    ∙ append_assoc base (text_of_lines (flat_map lines (range_with_len 0 i))) (text_of_lines (lines i))
    ∙ ap (λ l. base ++ l) (sym (flat_map-append (λ (line : List ℕ). line ++ 10 ∷ []) (flat_map lines (range_with_len 0 i)) (lines i)))
    ∙ ap (λ all. base ++ text_of_lines all) (sym (ap (flat_map lines) (range_push 0 i ∙ ap (λ next. range_with_len 0 i ++ next ∷ []) zero_on) ∙ flat_map-append lines (range_with_len 0 i) (i ∷ []) ∙ ap (λ (more : List (List ℕ)). flat_map lines (range_with_len 0 i) ++ more) (append-nil (lines i))))

-- the line that is written for type i is its line
pub one_type : (b : Bundle) (plan : Plan) (layouts : List Layout) (i : ℕ) (s t name : List ℕ) (layout : Layout) (class zone : ℕ) →
    name ≡ (slice_index_or b.types i no_type).name → layout ≡ slice_index_or layouts i no_layout → class ≡ (zone_row plan zone).shape.element → zone ≡ slice_index plan.of_type i →
    t ≡ s ++ (type_line (record { name = name; fields = [] }) layout class zone ++ codes "\n") → t ≡ s ++ (type_line_of b plan layouts i ++ codes "\n")
one_type b plan layouts i s t name layout class zone is_name is_layout is_class is_zone e =
    let F : List ℕ → Layout → ℕ → ℕ → List ℕ = λ name layout class zone. s ++ (type_line (record { name = name; fields = [] }) layout class zone ++ codes "\n") in
    let there = slice_index plan.of_type i in
    e ∙ ap (λ name. F name layout class zone) is_name
    ∙ ap (λ layout. F (slice_index_or b.types i no_type).name layout class zone) is_layout
    ∙ ap (λ class. F (slice_index_or b.types i no_type).name (slice_index_or layouts i no_layout) class zone) is_class
    ∙ ap (λ zone. F (slice_index_or b.types i no_type).name (slice_index_or layouts i no_layout) (zone_row plan zone).shape.element zone) is_zone

-- what is there doesn't depend on what would be there else
pub default_layout : (layouts : List Layout) (i : ℕ) (d : Layout) → i < length layouts → slice_index_or layouts i d ≡ slice_index_or layouts i no_layout
default_layout layouts i d lt = get_or_default layouts i d no_layout lt
