-- The lines that a draft stands for.
use Rattle.std.proofs.Common.{◌≡◌, ℕ, suc, ◌+◌, ◌-◌, ◌≤◌, ◌==◌, Bool, true, false, List, [], ◌∷◌, ◌++◌, length, map, take, replicate, Some, None, Err, refl, ap, sym, ◌∙◌, arith, subst, if◌then◌else◌, append_assoc, append-nil}
use Rattle.std.proofs.lemmas.List.{replicate_more, map_push, length_push}
use Rattle.kz_model.specs.declared.bundle.OrderLine.{OrderLine}
use Rattle.kz_model.specs.declared.bundle.OrderLine.TheVariants as turn
use Rattle.kz_model.specs.declared.grammar.Place.{Place}
use Rattle.kz_model.specs.declared.grammar.Place.TheVariants as place
use Rattle.kz_model.specs.declared.grammar.Cause.TheVariants as cause
use Rattle.kz_model.specs.declared.grammar.Counted.TheVariants as counted
use Rattle.kz_model.specs.declared.grammar.Header.{Header}
use Rattle.kz_model.specs.Grammar.Steps.{NamedStep}
use Rattle.kz_model.specs.Grammar.Form.{Line, Machine, SeedOf, Cpus, Frames, Pages, Budget, Magazine, Depot, Declares, Opens, Does, Break, Orders, Turns, Ends, StepLine, Section, Draft, new_section, with_header, turns_of, with_line}
use Rattle.kz_model.specs.Grammar.Stages.{sections_of}
use Rattle.kz_model.specs.Grammar.Spelling.{IsAllowed, Leads, turn_of, order_lines}
use Rattle.kz_bundle.proofs.Walking.{leads_to, led_same, failed}

-- ---- the lines of a section

-- steps from this round on, with `--` lines up to the last round
abbrev pub steps_said : ℕ → ℕ → List StepLine → List Line
steps_said last round [] = replicate (last - round) Break
steps_said last round (line ∷ lines) = replicate (line.round - round) Break ++ Does line.said ∷ steps_said last line.round lines

-- the newest step is of no later round
abbrev pub IsUpTo : ℕ → ℕ → List StepLine → Type 0
IsUpTo last round [] = round ≤ last
IsUpTo last round (line ∷ lines) = IsUpTo last line.round lines

one_round : (last round : ℕ) → round ≤ last → last + 1 - round ≡ last - round + 1
one_round last round h = omega arith

steps_said-break : (last round : ℕ) (lines : List StepLine) → IsUpTo last round lines → steps_said (last + 1) round lines ≡ steps_said last round lines ++ Break ∷ []
steps_said-break last round [] up = ap (λ n. replicate n Break) (one_round last round up) ∙ sym (replicate_more (last - round) Break)
steps_said-break last round (line ∷ lines) up =
    ap (λ (more : List Line). replicate (line.round - round) Break ++ Does line.said ∷ more) (steps_said-break last line.round lines up)
    ∙ sym (append_assoc (replicate (line.round - round) Break) (Does line.said ∷ steps_said last line.round lines) (Break ∷ []))

is_up_to-break : (last round : ℕ) (lines : List StepLine) → IsUpTo last round lines → IsUpTo (last + 1) round lines
is_up_to-break last round [] up = omega (arith, up)
is_up_to-break last round (line ∷ lines) up = is_up_to-break last line.round lines up

steps_said-does : (last round number : ℕ) (said : NamedStep) (lines : List StepLine) → IsUpTo last round lines →
    steps_said last round (lines ++ record { line = number; round = last; said = said } ∷ []) ≡ steps_said last round lines ++ Does said ∷ []
steps_said-does last round number said [] up = ap (λ n. replicate (last - round) Break ++ Does said ∷ replicate n Break) (none last)
  where
    none : (n : ℕ) → n - n ≡ 0
    none n = omega arith
steps_said-does last round number said (line ∷ lines) up =
    ap (λ (more : List Line). replicate (line.round - round) Break ++ Does line.said ∷ more) (steps_said-does last line.round number said lines up)
    ∙ sym (append_assoc (replicate (line.round - round) Break) (Does line.said ∷ steps_said last line.round lines) (Does said ∷ []))

is_up_to-does : (last round number : ℕ) (said : NamedStep) (lines : List StepLine) → IsUpTo last round lines → IsUpTo last round (lines ++ record { line = number; round = last; said = said } ∷ [])
is_up_to-does last round number said [] up = omega arith
is_up_to-does last round number said (line ∷ lines) up = is_up_to-does last line.round number said lines up

-- ---- the lines of all sections

abbrev pub section_said : Section → List Line
section_said section = steps_said section.breaks 0 section.steps

abbrev pub sections_said : ℕ → List Section → List Line
sections_said cpu [] = []
sections_said cpu (section ∷ sections) = Opens cpu ∷ (section_said section ++ sections_said (cpu + 1) sections)

sections_said-last : (cpu : ℕ) (before : List Section) (section : Section) → sections_said cpu (before ++ section ∷ []) ≡ sections_said cpu before ++ Opens (cpu + length before) ∷ section_said section
sections_said-last cpu [] section = ap (λ (more : List Line). Opens cpu ∷ more) (append-nil (section_said section)) ∙ ap (λ n. Opens n ∷ section_said section) (same cpu)
  where
    same : (n : ℕ) → n ≡ n + 0
    same n = omega arith
sections_said-last cpu (first ∷ before) section =
    ap (λ (more : List Line). Opens cpu ∷ (section_said first ++ more)) (sections_said-last (cpu + 1) before section ∙ ap (λ n. sections_said (cpu + 1) before ++ Opens n ∷ section_said section) (next cpu (length before)))
    ∙ ap (λ (more : List Line). Opens cpu ∷ more) (sym (append_assoc (section_said first) (sections_said (cpu + 1) before) (Opens (cpu + suc (length before)) ∷ section_said section)))
  where
    next : (n m : ℕ) → n + 1 + m ≡ n + suc m
    next n m = omega arith

-- a line more of the newest section
section_more : (before : List Section) (old new : Section) (line : Line) → section_said new ≡ section_said old ++ line ∷ [] → sections_said 0 (before ++ new ∷ []) ≡ sections_said 0 (before ++ old ∷ []) ++ line ∷ []
section_more before old new line e =
    sections_said-last 0 before new
    ∙ ap (λ (more : List Line). sections_said 0 before ++ Opens (0 + length before) ∷ more) e
    ∙ sym (append_assoc (sections_said 0 before) (Opens (0 + length before) ∷ section_said old) (line ∷ []))
    ∙ ap (λ (more : List Line). more ++ line ∷ []) (sym (sections_said-last 0 before old))

-- ---- the lines of a draft

abbrev pub header_said : Header → List Line
header_said h =
    Machine h.machine ∷ SeedOf h.seed ∷ Cpus h.cpus ∷ Frames h.frames ∷ Pages h.pages ∷ Budget h.budget ∷ Magazine h.magazine ∷ Depot h.depot ∷ []

-- up to the last section
abbrev pub body_said : Draft → List Line
body_said d = header_said d.header ++ map Declares d.types ++ sections_said 0 (sections_of d)

abbrev pub draft_said : Place → Draft → List Line
draft_said (place.Header at) d = take at (header_said d.header)
draft_said place.Types d = header_said d.header ++ map Declares d.types
draft_said place.Steps d = body_said d
draft_said place.Order d = body_said d ++ order_lines d.order
draft_said place.Ended d = body_said d ++ order_lines d.order ++ Ends ∷ []

-- what is not said yet
abbrev pub IsInOrder : Place → Draft → Type 0
IsInOrder (place.Header at) d = (d.types ≡ []) × (d.before ≡ []) × (d.order ≡ None)
IsInOrder place.Types d = (d.before ≡ []) × (d.order ≡ None)
IsInOrder place.Steps d = IsUpTo d.section.breaks 0 d.section.steps × (d.order ≡ None)
IsInOrder place.Order d = (turns : List OrderLine) × (d.order ≡ Some turns)
IsInOrder place.Ended d = Unit {0}

pub record Adds (p : Place) (d : Draft) (line : Line) (more : Draft) : Type 0 where
  pub lines : draft_said more.place more ≡ draft_said p d ++ line ∷ []
  pub in_order : IsInOrder more.place more

adds : (p : Place) (d : Draft) (line : Line) (a more : Draft) → leads_to a ≡ leads_to more → Adds p d line a → Adds p d line more
adds p d line a more e is = subst (Adds p d line) (led_same a more e) is

more_of_body : (d : Draft) (new : Section) (line : Line) → section_said new ≡ section_said d.section ++ line ∷ [] →
    (header_said d.header ++ map Declares d.types ++ sections_said 0 (d.before ++ new ∷ [])) ≡ body_said d ++ line ∷ []
more_of_body d new line e =
    ap (λ (lines : List Line). header_said d.header ++ map Declares d.types ++ lines) (section_more d.before d.section new line e)
    ∙ sym (append_assoc (header_said d.header ++ map Declares d.types) (sections_said 0 (sections_of d)) (line ∷ []))

turn_more : (d : Draft) (t : OrderLine) (turns : List OrderLine) → d.order ≡ Some turns → body_said d ++ Orders ∷ map turn_of (turns_of d.order ++ t ∷ []) ≡ (body_said d ++ order_lines d.order) ++ turn_of t ∷ []
turn_more d t turns e =
    ap (λ order. body_said d ++ Orders ∷ map turn_of (turns_of order ++ t ∷ [])) e
    ∙ ap (λ (lines : List Line). body_said d ++ Orders ∷ lines) (map_push turn_of turns t)
    ∙ sym (append_assoc (body_said d) (Orders ∷ map turn_of turns) (turn_of t ∷ []))
    ∙ sym (ap (λ order. (body_said d ++ order_lines order) ++ turn_of t ∷ []) e)

-- a line of the header at its own place
header_at : (k : ℕ) (d : Draft) (number : ℕ) (line : Line) (more : Draft) → (with_line (record d { place = place.Header k }) number line ≡ leads_to more → Adds (place.Header k) d line more) →
    (at : ℕ) → at ≡ k → with_line (record d { place = place.Header at }) number line ≡ leads_to more → Adds (place.Header at) d line more
header_at k d number line more here at same = subst (λ at. with_line (record d { place = place.Header at }) number line ≡ leads_to more → Adds (place.Header at) d line more) (sym same) here

header_adds : (k : ℕ) (d : Draft) (line : Line) (h : Header) (more : Draft) → leads_to (with_header (record d { place = place.Header k }) h) ≡ leads_to more → Adds (place.Header k) d line (with_header (record d { place = place.Header k }) h) → Adds (place.Header k) d line more
header_adds k d line h more e is = adds (place.Header k) d line (with_header (record d { place = place.Header k }) h) more e is

-- each line is said once more
line_adds : (p : Place) (d : Draft) (number : ℕ) (line : Line) (more : Draft) → IsInOrder p d → IsAllowed p d line → with_line (record d { place = p }) number line ≡ leads_to more → Adds p d line more
line_adds (place.Header at) d number (Machine n) more free is = header_at 0 d number (Machine n) more (λ e. header_adds 0 d (Machine n) (record d.header { machine = n }) more e (record { lines = refl; in_order = free })) at is.0
line_adds (place.Header at) d number (SeedOf seed) more free is = header_at 1 d number (SeedOf seed) more (λ e. header_adds 1 d (SeedOf seed) (record d.header { seed = seed }) more e (record { lines = refl; in_order = free })) at is.0
line_adds (place.Header at) d number (Cpus n) more free is = header_at 2 d number (Cpus n) more (λ e. header_adds 2 d (Cpus n) (record d.header { cpus = n }) more e (record { lines = refl; in_order = free })) at is.0
line_adds (place.Header at) d number (Frames n) more free is = header_at 3 d number (Frames n) more (λ e. header_adds 3 d (Frames n) (record d.header { frames = n }) more e (record { lines = refl; in_order = free })) at is.0
line_adds (place.Header at) d number (Pages n) more free is = header_at 4 d number (Pages n) more (λ e. header_adds 4 d (Pages n) (record d.header { pages = n }) more e (record { lines = refl; in_order = free })) at is.0
line_adds (place.Header at) d number (Budget n) more free is = header_at 5 d number (Budget n) more (λ e. header_adds 5 d (Budget n) (record d.header { budget = n }) more e (record { lines = refl; in_order = free })) at is.0
line_adds (place.Header at) d number (Magazine n) more free is = header_at 6 d number (Magazine n) more (λ e. header_adds 6 d (Magazine n) (record d.header { magazine = n }) more e (record { lines = refl; in_order = free })) at is.0
line_adds (place.Header at) d number (Depot n) more free is =
    header_at 7 d number (Depot n) more (λ e. header_adds 7 d (Depot n) (record d.header { depot = n }) more e
    (record { lines = ap (λ types. header_said (record d.header { depot = n }) ++ map Declares types) free.0; in_order = (free.1, free.2) })) at is.0
line_adds place.Types d number (Declares decl) more free is =
    by_room (length d.types == 1024)
  where
    longer : Draft
    longer = record d { place = place.Types; types = d.types ++ decl ∷ [] }

    by_room : (b : Bool) → (if b then Err (cause.TooMany counted.Types) else leads_to longer) ≡ leads_to more → Adds place.Types d (Declares decl) more
    by_room true e = failed (cause.TooMany counted.Types) more e
    by_room false e =
        adds place.Types d (Declares decl) longer more e (record {
          lines = ap (λ (lines : List Line). header_said d.header ++ lines) (map_push Declares d.types decl) ∙ sym (append_assoc (header_said d.header) (map Declares d.types) (Declares decl ∷ []));
          in_order = free;
        })
line_adds place.Types d number (Opens cpu) more free is =
    λ e. adds place.Types d (Opens cpu) (record d { place = place.Steps; section = new_section number }) more e (record {
      lines = ap (λ before. header_said d.header ++ map Declares d.types ++ sections_said 0 (before ++ new_section number ∷ [])) free.0
          ∙ ap (λ n. header_said d.header ++ map Declares d.types ++ Opens n ∷ []) (sym is);
      in_order = (omega arith, free.1);
    })
line_adds place.Steps d number (Does said) more free is = by_room (d.steps == 1000000)
  where
    new : Section
    new = record d.section { steps = d.section.steps ++ record { line = number; round = d.section.breaks; said = said } ∷ [] }

    longer : Draft
    longer = record d { place = place.Steps; steps = d.steps + 1; section = new }

    by_room : (b : Bool) → (if b then Err (cause.TooMany counted.Steps) else leads_to longer) ≡ leads_to more → Adds place.Steps d (Does said) more
    by_room true e = failed (cause.TooMany counted.Steps) more e
    by_room false e =
        adds place.Steps d (Does said) longer more e (record {
          lines = more_of_body d new (Does said) (steps_said-does d.section.breaks 0 number said d.section.steps free.0);
          in_order = (is_up_to-does d.section.breaks 0 number said d.section.steps free.0, free.1);
        })
line_adds place.Steps d number Break more free is = by_room (d.section.breaks == 999)
  where
    new : Section
    new = record d.section { breaks = d.section.breaks + 1 }

    longer : Draft
    longer = record d { place = place.Steps; section = new }

    by_room : (b : Bool) → (if b then Err (cause.TooMany counted.Rounds) else leads_to longer) ≡ leads_to more → Adds place.Steps d Break more
    by_room true e = failed (cause.TooMany counted.Rounds) more e
    by_room false e =
        adds place.Steps d Break longer more e (record {
          lines = more_of_body d new Break (steps_said-break d.section.breaks 0 d.section.steps free.0);
          in_order = (is_up_to-break d.section.breaks 0 d.section.steps free.0, free.1);
        })
line_adds place.Steps d number (Opens cpu) more free is =
    λ e. adds place.Steps d (Opens cpu) (record d { place = place.Steps; before = d.before ++ d.section ∷ []; section = new_section number }) more e (record {
      lines = ap (λ (lines : List Line). header_said d.header ++ map Declares d.types ++ lines)
          (sections_said-last 0 (d.before ++ d.section ∷ []) (new_section number)
          ∙ ap (λ n. sections_said 0 (d.before ++ d.section ∷ []) ++ Opens n ∷ []) (same (length (d.before ++ d.section ∷ [])) (length d.before) cpu (length_push d.before d.section) is.1))
          ∙ sym (append_assoc (header_said d.header ++ map Declares d.types) (sections_said 0 (d.before ++ d.section ∷ [])) (Opens cpu ∷ []));
      in_order = (omega arith, free.1);
    })
  where
    same : (n m cpu : ℕ) → n ≡ m + 1 → cpu ≡ m + 1 → 0 + n ≡ cpu
    same n m cpu e f = omega arith
line_adds place.Steps d number Orders more free is =
    λ e. adds place.Steps d Orders (record d { place = place.Order; order = Some []; order_at = number }) more e (record { lines = refl; in_order = ([], refl) })
line_adds place.Steps d number Ends more free is =
    λ e. adds place.Steps d Ends (record d { place = place.Ended }) more e (record {
      lines = ap (λ order. body_said d ++ order_lines order ++ Ends ∷ []) free.1 ∙ ap (λ (lines : List Line). lines ++ Ends ∷ []) (append-nil (body_said d));
      in_order = tt;
    })
line_adds place.Order d number (Turns cpu) more free is =
    λ e. adds place.Order d (Turns cpu) (record d { place = place.Order; order = Some (turns_of d.order ++ turn.Cpu cpu ∷ []) }) more e (record {
      lines = turn_more d (turn.Cpu cpu) free.0 free.1;
      in_order = (turns_of d.order ++ turn.Cpu cpu ∷ [], refl);
    })
line_adds place.Order d number Break more free is =
    λ e. adds place.Order d Break (record d { place = place.Order; order = Some (turns_of d.order ++ turn.Round ∷ []) }) more e (record {
      lines = turn_more d turn.Round free.0 free.1;
      in_order = (turns_of d.order ++ turn.Round ∷ [], refl);
    })
line_adds place.Order d number Ends more free is =
    λ e. adds place.Order d Ends (record d { place = place.Ended }) more e (record { lines = refl; in_order = tt })
line_adds p d number line more free is = absurd is

pub said_is : (d : Draft) (number : ℕ) (lines : List Line) (end : Draft) → IsInOrder d.place d → Leads d number lines end → draft_said end.place end ≡ draft_said d.place d ++ lines
said_is d number [] end free leads = ap (λ (d : Draft). draft_said d.place d) (sym leads) ∙ sym (append-nil (draft_said d.place d))
said_is d number (line ∷ lines) end free leads =
    let step = line_adds d.place d number line leads.1.0 free leads.0 leads.1.1.0 in
    said_is leads.1.0 (number + 1) lines end step.in_order leads.1.1.1
    ∙ ap (λ (first : List Line). first ++ lines) step.lines
    ∙ append_assoc (draft_said d.place d) (line ∷ []) lines
