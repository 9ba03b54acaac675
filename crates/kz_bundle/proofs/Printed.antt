-- The text of a bundle, piece by piece, as the printer writes it.
use Rattle.std.proofs.Common.{◌≡◌, ℕ, suc, ◌+◌, ◌-◌, ◌<◌, List, [], ◌∷◌, ◌++◌, length, drop, map, replicate, codes, slice_index_or, refl, ap, sym, ◌∙◌, arith, append_assoc}
use Rattle.std.specs.List.{flat_map, enumerate_from}
use Rattle.std.proofs.lemmas.List.{append-nil, drop_more, map-append}
use Rattle.std.proofs.lemmas.Grind.{flat_map-append}
use Rattle.kz_model.specs.declared.bundle.Bundle.{Bundle}
use Rattle.kz_model.specs.declared.bundle.TypeDecl.{TypeDecl}
use Rattle.kz_model.specs.Grammar.Form.{Line, Machine, SeedOf, Cpus, Frames, Pages, Budget, Magazine, Depot, Declares, Break, Ends}
use Rattle.kz_model.specs.Grammar.Spelling.{line_text, numbered, seed_text, header_lines, cpu_lines, order_lines, bundle_text}
use Rattle.kz_model.specs.Store.TypeLines.{IsTypeLine, no_decl}
use Rattle.kz_bundle.specs.Printing.{lines_text}
use Rattle.kz_bundle.proofs.TypeTexts.{type_says}

-- ---- lines behind lines

pub then_lines : (out s t : List ℕ) (xs ys : List Line) → s ≡ out ++ lines_text xs → t ≡ s ++ lines_text ys → t ≡ out ++ lines_text (xs ++ ys)
then_lines out s t xs ys before e =
    e
    ∙ ap (λ s. s ++ lines_text ys) before
    ∙ append_assoc out (lines_text xs) (lines_text ys)
    ∙ ap (λ text. out ++ text) (
    sym (flat_map-append (λ (line : List ℕ). line ++ 10 ∷ []) (map line_text xs) (map line_text ys))
    ∙ ap (λ texts. flat_map (λ (line : List ℕ). line ++ 10 ∷ []) texts) (sym (map-append line_text xs ys))
    )

pub then_line : (out s t : List ℕ) (xs : List Line) (line : Line) → s ≡ out ++ lines_text xs → t ≡ s ++ (line_text line ++ codes "\n") → t ≡ out ++ lines_text (xs ++ line ∷ [])
then_line out s t xs line before e = then_lines out s t xs (line ∷ []) before (e ∙ ap (λ text. s ++ text) (sym (append-nil (line_text line ++ codes "\n"))))

pub no_lines : (out : List ℕ) → out ≡ out ++ lines_text []
no_lines out = sym (append-nil out)

-- ---- a loop over a list, by what is left to write

-- one more piece is written
pub piece_more : {X : Type 0} (text later : List X → List ℕ) (piece whole out now : List ℕ) (xs : List X) (i : ℕ) (x : X) →
    drop i xs ≡ x ∷ drop (i + 1) xs → text (x ∷ drop (i + 1) xs) ≡ piece ++ later (drop (i + 1) xs) →
    out ++ text (drop i xs) ≡ whole → now ≡ out ++ piece → now ++ later (drop (i + 1) xs) ≡ whole
piece_more text later piece whole out now xs i x there more before e =
    ap (λ s. s ++ later (drop (i + 1) xs)) e
    ∙ append_assoc out piece (later (drop (i + 1) xs))
    ∙ ap (λ s. out ++ s) (sym (ap text there ∙ more))
    ∙ before

-- so many of the same, one written and the others left
pub same_more : {X : Type 0} (x : X) (count i : ℕ) → i < count → replicate (count - i) x ≡ x ∷ replicate (count - (i + 1)) x
same_more x count i within = let e : count - i ≡ suc (count - (i + 1)) = omega arith in rw e refl

-- ---- the header

pub header_printed : (b : Bundle) (out s1 s2 s3 s4 s5 s6 s7 s8 : List ℕ) →
    s1 ≡ out ++ (numbered (codes "machine") b.machine ++ codes "\n") → s2 ≡ s1 ++ (seed_text b.seed ++ codes "\n") →
    s3 ≡ s2 ++ (numbered (codes "cpus") b.cpus ++ codes "\n") → s4 ≡ s3 ++ (numbered (codes "frames") b.frames ++ codes "\n") →
    s5 ≡ s4 ++ (numbered (codes "pages") b.pages ++ codes "\n") → s6 ≡ s5 ++ (numbered (codes "budget") b.budget ++ codes "\n") →
    s7 ≡ s6 ++ (numbered (codes "magazine") b.magazine ++ codes "\n") → s8 ≡ s7 ++ (numbered (codes "depot") b.depot ++ codes "\n") → s8 ≡ out ++ lines_text (header_lines b)
header_printed b out s1 s2 s3 s4 s5 s6 s7 s8 e1 e2 e3 e4 e5 e6 e7 e8 =
    let two = Machine b.machine ∷ SeedOf b.seed ∷ [] in
    let four = two ++ Cpus b.cpus ∷ Frames b.frames ∷ [] in
    let six = four ++ Pages b.pages ∷ Budget b.budget ∷ [] in
    then_line out s7 s8 (six ++ Magazine b.magazine ∷ []) (Depot b.depot)
    (then_line out s6 s7 six (Magazine b.magazine)
    (then_line out s5 s6 (four ++ Pages b.pages ∷ []) (Budget b.budget)
    (then_line out s4 s5 four (Pages b.pages)
    (then_line out s3 s4 (two ++ Cpus b.cpus ∷ []) (Frames b.frames)
    (then_line out s2 s3 two (Cpus b.cpus)
    (then_line out s1 s2 (Machine b.machine ∷ []) (SeedOf b.seed) (then_line out out s1 [] (Machine b.machine) (no_lines out) e1) e2)
    e3)
    e4)
    e5)
    e6)
    e7)
    e8

-- ---- a type line

pub type_more : (line whole out s1 s2 : List ℕ) (types : List TypeDecl) (at : ℕ) → at < length types → IsTypeLine line (slice_index_or types at no_decl) →
    out ++ lines_text (map Declares (drop at types)) ≡ whole → s1 ≡ out ++ line → s2 ≡ s1 ++ codes "\n" → s2 ++ lines_text (map Declares (drop (at + 1) types)) ≡ whole
type_more line whole out s1 s2 types at within is before e1 e2 =
    let decl = slice_index_or types at no_decl in
    let text = λ (types : List TypeDecl). lines_text (map Declares types) in
    piece_more text text (line_text (Declares decl) ++ codes "\n") whole out s2 types at decl (drop_more types at no_decl within) refl before (
    e2
    ∙ ap (λ s. s ++ codes "\n") e1
    ∙ append_assoc out line (codes "\n")
    ∙ ap (λ (line : List ℕ). out ++ (line ++ codes "\n")) (type_says line decl is).0
    )

-- ---- `--` lines

pub break_more : (whole out now : List ℕ) (count i : ℕ) → i < count → out ++ lines_text (replicate (count - i) Break) ≡ whole → now ≡ out ++ codes "--\n" →
    now ++ lines_text (replicate (count - (i + 1)) Break) ≡ whole
break_more whole out now count i within before e =
    ap (λ s. s ++ lines_text (replicate (count - (i + 1)) Break)) e
    ∙ append_assoc out (codes "--\n") (lines_text (replicate (count - (i + 1)) Break))
    ∙ ap (λ lines. out ++ lines_text lines) (sym (same_more Break count i within))
    ∙ before

-- ---- the whole

pub bundle_printed : (b : Bundle) (s0 s1 s2 s3 s4 s5 : List ℕ) → s0 ≡ [] → s1 ≡ s0 ++ lines_text (header_lines b) → s2 ≡ s1 ++ lines_text (map Declares b.types) →
    s3 ≡ s2 ++ lines_text (flat_map (cpu_lines b) (enumerate_from 0 b.traces)) → s4 ≡ s3 ++ lines_text (order_lines b.order) → s5 ≡ s4 ++ codes "end\n" → s5 ≡ bundle_text b
bundle_printed b s0 s1 s2 s3 s4 s5 e0 e1 e2 e3 e4 e5 =
    let header = header_lines b in
    let types = header ++ map Declares b.types in
    let sections = types ++ flat_map (cpu_lines b) (enumerate_from 0 b.traces) in
    then_line [] s4 s5 (sections ++ order_lines b.order) Ends
    (then_lines [] s3 s4 sections (order_lines b.order)
    (then_lines [] s2 s3 types (flat_map (cpu_lines b) (enumerate_from 0 b.traces))
    (then_lines [] s1 s2 header (map Declares b.types)
    (then_lines [] s0 s1 [] header e0 e1)
    e2)
    e3)
    e4)
    e5
