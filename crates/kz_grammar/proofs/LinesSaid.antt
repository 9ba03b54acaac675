-- The text's lines by what they say: type lines at their places, and all step lines.
use Rattle.std.proofs.Common.{◌≡◌, ⊎_elim, ℕ, zero, suc, ◌+◌, ◌-◌, List, [], ◌∷◌, ◌++◌, length, map, replicate, Option, Some, None, refl, ap, sym, ◌∙◌, subst, arith, length-append}
use Rattle.std.specs.Prelude.{All, Contains}
use Rattle.std.proofs.lemmas.List.{append_assoc, map-append, length-map}
use Rattle.std.proofs.lemmas.List.Elements.{All-cons, All-append, All-replicate, Contains-append_left, Contains-append_right, Contains-append_cases}
use Rattle.kz_model.specs.declared.bundle.TypeDecl.{TypeDecl}
use Rattle.kz_model.specs.declared.bundle.OrderLine.{OrderLine}
use Rattle.kz_model.specs.declared.bundle.OrderLine.TheVariants as turn
use Rattle.kz_model.specs.declared.grammar.Header.{Header}
use Rattle.kz_model.specs.declared.grammar.Place.TheVariants as place
use Rattle.kz_model.specs.Grammar.Steps.{NamedStep}
use Rattle.kz_model.specs.Grammar.Form.{Line, Machine, SeedOf, Cpus, Frames, Pages, Budget, Magazine, Depot, Declares, Opens, Does, Break, Orders, Turns, Ends, StepLine, Section, empty_draft}
use Rattle.kz_model.specs.Grammar.Stages.{CpuLine, of_cpu, lines_from, sections_of}
use Rattle.kz_model.specs.Grammar.Spelling.{Spells, turn_of, order_lines}
use Rattle.kz_bundle.proofs.NamedStepLines.{steps_said, section_said, sections_said, header_said, draft_said, said_is}
use Rattle.kz_grammar.specs.LineNumbers.{TypeLinesStand, NoStepLineIsMissing, steps_said_in, IsOfSection, SectionsStand}
use Rattle.kz_grammar.proofs.Members.{contains_first, contains_later, contains_cases, contains_none}

lines_are : (bytes : List ℕ) (b : _) (spells : Spells bytes b) → draft_said place.Ended spells.said ≡ spells.lines
lines_are bytes b spells =
    ap (λ place. draft_said place spells.said) (sym spells.ended) ∙ said_is empty_draft 1 spells.lines spells.said (refl, refl, refl) spells.leads

eight : (h : Header) → length (header_said h) ≡ 8
eight h = refl

-- the second of five parts, with those behind it
behind : (x y s o e : List Line) → x ++ y ++ s ++ o ++ e ≡ x ++ (y ++ s ++ o ++ e)
behind x y s o e =
    ap (λ (l : List Line). l ++ o ++ e) (append_assoc x y s) ∙ ap (λ (l : List Line). l ++ e) (append_assoc x (y ++ s) o) ∙ append_assoc x (y ++ s ++ o) e

pub type_lines_stand : TypeLinesStand
type_lines_stand bytes b spells before decl after parts =
    let d = spells.said in
    let header : List Line = header_said d.header in
    let sections : List Line = sections_said 0 (sections_of d) in
    let order : List Line = order_lines d.order in
    record {
      before = header ++ map Declares before;
      after = map Declares after ++ sections ++ order ++ Ends ∷ [];
      parts = sym (lines_are bytes b spells)
          ∙ ap (λ (types : List Line). header ++ types ++ sections ++ order ++ Ends ∷ []) (ap (map Declares) parts ∙ map-append Declares before (decl ∷ after))
          ∙ ap (λ (first : List Line). first ++ sections ++ order ++ Ends ∷ []) (sym (append_assoc header (map Declares before) (map Declares (decl ∷ after))))
          ∙ behind (header ++ map Declares before) (map Declares (decl ∷ after)) sections order (Ends ∷ []);
      numbered = omega (arith, length-append header (map Declares before), eight d.header, length-map before Declares);
    }

-- ---- step lines

-- none of these lines is a step line
abbrev HasNoStep : List Line → Type 0
HasNoStep lines = (said : NamedStep) → ¬ Contains lines (Does said)

no_step_first : (line : Line) (lines : List Line) → ((said : NamedStep) → line ≡ Does said → ⊥) → HasNoStep lines → HasNoStep (line ∷ lines)
no_step_first line lines other none said there = ⊎_elim (λ here. other said here) (λ later. none said later) (contains_cases line lines (Does said) there)

no_step_more : (one more : List Line) → HasNoStep one → HasNoStep more → HasNoStep (one ++ more)
no_step_more one more first later said there = ⊎_elim (λ here. first said here) (λ behind. later said behind) (Contains-append_cases one more (Does said) there)

no_lines : HasNoStep []
no_lines said there = contains_none (Does said) there

header_has_none : (h : Header) → HasNoStep (header_said h)
header_has_none h =
    let last_1 : HasNoStep (Depot h.depot ∷ []) = no_step_first (Depot h.depot) ([]) (λ said e. cc) no_lines in
    let last_2 : HasNoStep (Magazine h.magazine ∷ Depot h.depot ∷ []) = no_step_first (Magazine h.magazine) (Depot h.depot ∷ []) (λ said e. cc) last_1 in
    let last_3 : HasNoStep (Budget h.budget ∷ Magazine h.magazine ∷ Depot h.depot ∷ []) = no_step_first (Budget h.budget) (Magazine h.magazine ∷ Depot h.depot ∷ []) (λ said e. cc) last_2 in
    let last_4 : HasNoStep (Pages h.pages ∷ Budget h.budget ∷ Magazine h.magazine ∷ Depot h.depot ∷ []) = no_step_first (Pages h.pages) (Budget h.budget ∷ Magazine h.magazine ∷ Depot h.depot ∷ []) (λ said e. cc) last_3 in
    let last_5 : HasNoStep (Frames h.frames ∷ Pages h.pages ∷ Budget h.budget ∷ Magazine h.magazine ∷ Depot h.depot ∷ []) = no_step_first (Frames h.frames) (Pages h.pages ∷ Budget h.budget ∷ Magazine h.magazine ∷ Depot h.depot ∷ []) (λ said e. cc) last_4 in
    let last_6 : HasNoStep (Cpus h.cpus ∷ Frames h.frames ∷ Pages h.pages ∷ Budget h.budget ∷ Magazine h.magazine ∷ Depot h.depot ∷ []) = no_step_first (Cpus h.cpus) (Frames h.frames ∷ Pages h.pages ∷ Budget h.budget ∷ Magazine h.magazine ∷ Depot h.depot ∷ []) (λ said e. cc) last_5 in
    let last_7 : HasNoStep (SeedOf h.seed ∷ Cpus h.cpus ∷ Frames h.frames ∷ Pages h.pages ∷ Budget h.budget ∷ Magazine h.magazine ∷ Depot h.depot ∷ []) = no_step_first (SeedOf h.seed) (Cpus h.cpus ∷ Frames h.frames ∷ Pages h.pages ∷ Budget h.budget ∷ Magazine h.magazine ∷ Depot h.depot ∷ []) (λ said e. cc) last_6 in
    let last_8 : HasNoStep (Machine h.machine ∷ SeedOf h.seed ∷ Cpus h.cpus ∷ Frames h.frames ∷ Pages h.pages ∷ Budget h.budget ∷ Magazine h.magazine ∷ Depot h.depot ∷ []) = no_step_first (Machine h.machine) (SeedOf h.seed ∷ Cpus h.cpus ∷ Frames h.frames ∷ Pages h.pages ∷ Budget h.budget ∷ Magazine h.magazine ∷ Depot h.depot ∷ []) (λ said e. cc) last_7 in
    last_8

types_have_none : (types : List TypeDecl) → HasNoStep (map Declares types)
types_have_none [] = no_lines
types_have_none (decl ∷ types) = no_step_first (Declares decl) (map Declares types) (λ said e. cc) (types_have_none types)

turns_have_none : (turns : List OrderLine) → HasNoStep (map turn_of turns)
turns_have_none [] = no_lines
turns_have_none (turn.Cpu cpu ∷ turns) = no_step_first (Turns cpu) (map turn_of turns) (λ said e. cc) (turns_have_none turns)
turns_have_none (turn.Round ∷ turns) = no_step_first Break (map turn_of turns) (λ said e. cc) (turns_have_none turns)

order_has_none : (order : Option (List OrderLine)) → HasNoStep (order_lines order)
order_has_none None = no_lines
order_has_none (Some turns) = no_step_first Orders (map turn_of turns) (λ said e. cc) (turns_have_none turns)

breaks_have_none : (n : ℕ) → HasNoStep (replicate n Break)
breaks_have_none zero = no_lines
breaks_have_none (suc n) = no_step_first Break (replicate n Break) (λ said e. cc) (breaks_have_none n)

-- a step line among these
record Says (lines : List CpuLine) (said : NamedStep) : Type 0 where
  line : CpuLine
  there : Contains lines line
  is : line.1.said ≡ said

same_step : (one other : NamedStep) → Does one ≡ Does other → one ≡ other
same_step one other e = cc

in_steps : (cpu last round : ℕ) (steps : List StepLine) (said : NamedStep) → Contains (steps_said last round steps) (Does said) → Says (of_cpu cpu steps) said
in_steps cpu last round [] said there = absurd (breaks_have_none (last - round) said there)
in_steps cpu last round (step ∷ steps) said there =
    ⊎_elim
    (λ breaks. absurd (breaks_have_none (step.round - round) said breaks))
    (λ rest. ⊎_elim
    (λ here. record { line = (cpu, step); there = contains_first (cpu, step) (of_cpu cpu steps); is = same_step step.said said here })
    (λ later. let more = in_steps cpu last step.round steps said later in record { line = more.line; there = contains_later (cpu, step) (of_cpu cpu steps) more.line more.there; is = more.is })
    (contains_cases (Does step.said) (steps_said last step.round steps) (Does said) rest))
    (Contains-append_cases (replicate (step.round - round) Break) (Does step.said ∷ steps_said last step.round steps) (Does said) there)

in_sections : (cpu : ℕ) (sections : List Section) (said : NamedStep) → Contains (sections_said cpu sections) (Does said) → Says (lines_from cpu sections) said
in_sections cpu [] said there = contains_none (Does said) there
in_sections cpu (section ∷ sections) said there =
    ⊎_elim
    (λ opens. absurd (other opens))
    (λ rest. ⊎_elim
    (λ here. let of = in_steps cpu section.breaks 0 section.steps said here in record { line = of.line; there = Contains-append_left (of_cpu cpu section.steps) (lines_from (cpu + 1) sections) of.line of.there; is = of.is })
    (λ later. let of = in_sections (cpu + 1) sections said later in record { line = of.line; there = Contains-append_right (of_cpu cpu section.steps) (lines_from (cpu + 1) sections) of.line of.there; is = of.is })
    (Contains-append_cases (section_said section) (sections_said (cpu + 1) sections) (Does said) rest))
    (contains_cases (Opens cpu) (section_said section ++ sections_said (cpu + 1) sections) (Does said) there)
  where
    other : Opens cpu ≡ Does said → ⊥
    other e = cc

pub no_step_line_is_missing : NoStepLineIsMissing
no_step_line_is_missing bytes b spells said there =
    let d = spells.said in
    let first : List Line = header_said d.header ++ map Declares d.types in
    let sections : List Line = sections_said 0 (sections_of d) in
    let none_first = no_step_more (header_said d.header) (map Declares d.types) (header_has_none d.header) (types_have_none d.types) in
    let none_last = no_step_first Ends [] (λ said e. cc) no_lines in
    let all : Contains (first ++ sections ++ order_lines d.order ++ Ends ∷ []) (Does said) = subst (λ (lines : List Line). Contains lines (Does said)) (sym (lines_are bytes b spells)) there in
    ⊎_elim
    (λ rest. ⊎_elim
    (λ body. ⊎_elim
    (λ early. absurd (none_first said early))
    (λ here. let of = in_sections 0 (sections_of d) said here in (of.line, of.there, of.is))
    (Contains-append_cases first sections (Does said) body))
    (λ order. absurd (order_has_none d.order said order))
    (Contains-append_cases (first ++ sections) (order_lines d.order) (Does said) rest))
    (λ last. absurd (none_last said last))
    (Contains-append_cases (first ++ sections ++ order_lines d.order) (Ends ∷ []) (Does said) all)

-- ---- sections

breaks_say_none : (n : ℕ) (lines : List Line) → steps_said_in (replicate n Break ++ lines) ≡ steps_said_in lines
breaks_say_none zero lines = refl
breaks_say_none (suc n) lines = breaks_say_none n lines

last_breaks : (n : ℕ) → steps_said_in (replicate n Break) ≡ []
last_breaks zero = refl
last_breaks (suc n) = last_breaks n

body_says : (last round : ℕ) (steps : List StepLine) → steps_said_in (steps_said last round steps) ≡ map (λ (step : StepLine). step.said) steps
body_says last round [] = last_breaks (last - round)
body_says last round (step ∷ steps) =
    breaks_say_none (step.round - round) (Does step.said ∷ steps_said last step.round steps) ∙ ap (λ (more : List NamedStep). step.said ∷ more) (body_says last step.round steps)

body_is : (last round : ℕ) (steps : List StepLine) → All IsOfSection (steps_said last round steps)
body_is last round [] = All-replicate IsOfSection (last - round) Break tt
body_is last round (step ∷ steps) =
    All-append IsOfSection (replicate (step.round - round) Break) (Does step.said ∷ steps_said last step.round steps) (All-replicate IsOfSection (step.round - round) Break tt)
    (All-cons IsOfSection (Does step.said) (steps_said last step.round steps) tt (body_is last step.round steps))

sections_parts : (cpu : ℕ) (before : List Section) (section : Section) (after : List Section) →
    sections_said cpu (before ++ section ∷ after) ≡ sections_said cpu before ++ Opens (cpu + length before) ∷ (section_said section ++ sections_said (cpu + length before + 1) after)
sections_parts cpu [] section after = ap (λ n. Opens n ∷ (section_said section ++ sections_said (n + 1) after)) (same cpu)
  where
    same : (n : ℕ) → n ≡ n + 0
    same n = omega arith
sections_parts cpu (first ∷ before) section after =
    ap (λ (more : List Line). Opens cpu ∷ (section_said first ++ more))
    (sections_parts (cpu + 1) before section after ∙ ap (λ n. sections_said (cpu + 1) before ++ Opens n ∷ (section_said section ++ sections_said (n + 1) after)) (next cpu (length before)))
    ∙ ap (λ (more : List Line). Opens cpu ∷ more) (sym (append_assoc (section_said first) (sections_said (cpu + 1) before) (Opens (cpu + suc (length before)) ∷ (section_said section ++ sections_said (cpu + suc (length before) + 1) after))))
  where
    next : (n m : ℕ) → n + 1 + m ≡ n + suc m
    next n m = omega arith

pub sections_stand : SectionsStand
sections_stand bytes b spells before section after parts =
    let d = spells.said in
    let first : List Line = header_said d.header ++ map Declares d.types in
    let order : List Line = order_lines d.order in
    let later : List Line = sections_said (length before + 1) after in
    record {
      before = first ++ sections_said 0 before;
      body = section_said section;
      after = later ++ order ++ Ends ∷ [];
      parts = sym (lines_are bytes b spells)
          ∙ ap (λ (sections : List Line). first ++ sections ++ order ++ Ends ∷ []) (ap (sections_said 0) parts ∙ sections_parts 0 before section after
          ∙ ap (λ n. sections_said 0 before ++ Opens n ∷ (section_said section ++ sections_said (n + 1) after)) (none_first (length before)))
          ∙ ap (λ (head : List Line). head ++ order ++ Ends ∷ []) (sym (append_assoc first (sections_said 0 before) (Opens (length before) ∷ (section_said section ++ later))))
          ∙ regrouped (first ++ sections_said 0 before) (Opens (length before)) (section_said section) later order (Ends ∷ []);
      only = body_is section.breaks 0 section.steps;
      steps = body_says section.breaks 0 section.steps;
    }
  where
    none_first : (n : ℕ) → 0 + n ≡ n
    none_first n = omega arith

    regrouped : (x : List Line) (line : Line) (y s o e : List Line) → x ++ line ∷ (y ++ s) ++ o ++ e ≡ x ++ line ∷ (y ++ (s ++ o ++ e))
    regrouped x line y s o e =
        ap (λ (l : List Line). l ++ e) (append_assoc x (line ∷ (y ++ s)) o) ∙ append_assoc x (line ∷ (y ++ s) ++ o) e
        ∙ ap (λ (l : List Line). x ++ line ∷ l) (ap (λ (l : List Line). l ++ e) (append_assoc y s o) ∙ append_assoc y (s ++ o) e)
