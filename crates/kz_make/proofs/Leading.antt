-- What lines lead to: the header's, type lines, sections of steps and rounds, and an order.
use Rattle.std.proofs.Common.{◌≡◌, ℕ, zero, suc, ◌+◌, ◌-◌, ◌<◌, ◌≤◌, ◌==◌, true, false, List, [], ◌∷◌, ◌++◌, length, map, All, Option, Some, None, Ok, Err, refl, ap, sym, ◌∙◌, arith, subst, if◌then◌else◌, append_assoc, append-nil, length-append}
use Rattle.std.proofs.lemmas.List.{length-map}
use Rattle.std.proofs.lemmas.List.Elements.{All-head, All-tail}
use Rattle.kz_model.specs.declared.bundle.Seed.TheVariants.{Number}
use Rattle.kz_model.specs.declared.bundle.TypeDecl.{TypeDecl}
use Rattle.kz_model.specs.declared.bundle.OrderLine.{OrderLine}
use Rattle.kz_model.specs.declared.bundle.OrderLine.TheVariants as turn
use Rattle.kz_model.specs.declared.grammar.Place.TheVariants as place
use Rattle.kz_model.specs.declared.grammar.Cause.TheVariants as cause
use Rattle.kz_model.specs.declared.grammar.Counted.TheVariants as counted
use Rattle.kz_model.specs.declared.grammar.Header.{Header}
use Rattle.kz_model.specs.Grammar.Steps.{NamedStep}
use Rattle.kz_model.specs.Grammar.Form.{Line, Machine, SeedOf, Cpus, Frames, Pages, Budget, Magazine, Depot, Declares, Opens, Does, Break, Orders, Turns, Ends, StepLine, Section, Draft, new_section, empty_draft, with_line}
use Rattle.kz_model.specs.Grammar.Spelling.{IsDeclared, IsNamedStep, IsFrom, IsAllowed, Leads, turn_of}
use Rattle.kz_model.specs.Text.Made.{later_lines}

-- ---- lines behind lines

pub leads-append : (d : Draft) (n : ℕ) (xs ys : List Line) (mid end : Draft) → Leads d n xs mid → Leads mid (n + length xs) ys end → Leads d n (xs ++ ys) end
leads-append d n [] ys mid end first later = subst (λ n. Leads d n ys end) (same n) (subst (λ d. Leads d (n + 0) ys end) (sym first) later)
  where
    same : (n : ℕ) → n + 0 ≡ n
    same n = omega arith
leads-append d n (line ∷ xs) ys mid end first later =
    (first.0, (first.1.0, (first.1.1.0, leads-append first.1.0 (n + 1) xs ys mid end first.1.1.1 (subst (λ n. Leads mid n ys end) (next n (length xs)) later))))
  where
    next : (n m : ℕ) → n + suc m ≡ n + 1 + m
    next n m = omega arith

not_full : (n m : ℕ) → n < m → (n == m) ≡ false
not_full n m h = grind arith

-- ---- drafts

abbrev pub in_types : Header → List TypeDecl → Draft
in_types h types = record { place = place.Types; header = h; types = types; before = []; section = new_section 0; steps = 0; order = None; order_at = 0 }

abbrev pub in_steps : Header → List TypeDecl → List Section → Section → ℕ → Draft
in_steps h types before section steps = record { place = place.Steps; header = h; types = types; before = before; section = section; steps = steps; order = None; order_at = 0 }

abbrev pub in_order : Header → List TypeDecl → List Section → Section → ℕ → ℕ → List OrderLine → Draft
in_order h types before section steps at turns = record { place = place.Order; header = h; types = types; before = before; section = section; steps = steps; order = Some turns; order_at = at }

-- ---- type lines

pub leads_types : (h : Header) (types decls : List TypeDecl) (n : ℕ) → length types + length decls ≤ 1024 → All IsDeclared decls → Leads (in_types h types) n (map Declares decls) (in_types h (types ++ decls))
leads_types h types [] n few all = ap (in_types h) (sym (append-nil types))
leads_types h types (decl ∷ decls) n few all =
    let free = not_full (length types) 1024 (omega (arith, few)) in
    let rest = leads_types h (types ++ decl ∷ []) decls (n + 1) (omega (arith, few, length-append types (decl ∷ []))) (All-tail IsDeclared decl decls all) in (
      All-head IsDeclared decl decls all,
      (
        in_types h (types ++ decl ∷ []),
        (
          ap (λ b. if b then Err (cause.TooMany counted.Types) else Ok (in_types h (types ++ decl ∷ []))) free,
          subst (λ all. Leads (in_types h (types ++ decl ∷ [])) (n + 1) (map Declares decls) (in_types h all)) (append_assoc types (decl ∷ []) decls) rest,
        ),
      ),
    )

-- ---- steps

-- step lines from this number on
abbrev pub numbered : ℕ → ℕ → List NamedStep → List StepLine
numbered line round [] = []
numbered line round (said ∷ saids) = record { line = line; round = round; said = said } ∷ numbered (line + 1) round saids

abbrev pub with_saids : Section → ℕ → List NamedStep → Section
with_saids section line saids = record section { steps = section.steps ++ numbered line section.breaks saids }

pub leads_saids : (h : Header) (types : List TypeDecl) (before : List Section) (section : Section) (steps n : ℕ) (saids : List NamedStep) → steps + length saids ≤ 1000000 → All (IsNamedStep h.cpus) saids →
    Leads (in_steps h types before section steps) n (map Does saids) (in_steps h types before (with_saids section n saids) (steps + length saids))
leads_saids h types before section steps n [] few all = let none : steps ≡ steps + 0 = omega arith in ap (λ section. in_steps h types before section steps) (ap (λ (lines : List StepLine). record section { steps = lines }) (sym (append-nil section.steps))) ∙ ap (in_steps h types before (with_saids section n [])) none
leads_saids h types before section steps n (said ∷ saids) few all =
    let one : Section = with_saids section n (said ∷ []) in
    let free = not_full steps 1000000 (omega (arith, few)) in
    let count : steps + 1 + length saids ≡ steps + suc (length saids) = omega arith in
    let rest = leads_saids h types before one (steps + 1) (n + 1) saids (omega (arith, few)) (All-tail (IsNamedStep h.cpus) said saids all) in (
      All-head (IsNamedStep h.cpus) said saids all,
      (
        in_steps h types before one (steps + 1),
        (
          ap (λ b. if b then Err (cause.TooMany counted.Steps) else Ok (in_steps h types before one (steps + 1))) free,
          subst (λ count. Leads (in_steps h types before one (steps + 1)) (n + 1) (map Does saids) (in_steps h types before (with_saids section n (said ∷ saids)) count)) count
              (subst (λ (lines : List StepLine). Leads (in_steps h types before one (steps + 1)) (n + 1) (map Does saids) (in_steps h types before (record section { steps = lines }) (steps + 1 + length saids)))
              (append_assoc section.steps (numbered n section.breaks (said ∷ [])) (numbered (n + 1) section.breaks saids)) rest),
        ),
      ),
    )

-- ---- rounds

abbrev pub with_break : Section → Section
with_break section = record section { breaks = section.breaks + 1 }

-- a section with more rounds, whose lines have these numbers
abbrev pub with_rounds : Section → ℕ → List (List NamedStep) → Section
with_rounds section line [] = section
with_rounds section line (round ∷ rounds) = with_rounds (with_saids (with_break section) (line + 1) round) (line + 1 + length round) rounds

-- how many steps they have
abbrev pub steps_of : List (List NamedStep) → ℕ
steps_of [] = 0
steps_of (round ∷ rounds) = length round + steps_of rounds

pub leads_rounds : (h : Header) (types : List TypeDecl) (before : List Section) (section : Section) (steps n : ℕ) (rounds : List (List NamedStep)) → section.breaks + length rounds ≤ 999 → steps + steps_of rounds ≤ 1000000 →
    All (All (IsNamedStep h.cpus)) rounds → Leads (in_steps h types before section steps) n (later_lines rounds) (in_steps h types before (with_rounds section n rounds) (steps + steps_of rounds))
leads_rounds h types before section steps n [] few short all = let none : steps ≡ steps + 0 = omega arith in ap (in_steps h types before section) none
leads_rounds h types before section steps n (round ∷ rounds) few short all =
    let free = not_full section.breaks 999 (omega (arith, few)) in
    let one = with_saids (with_break section) (n + 1) round in
    let first = leads_saids h types before (with_break section) steps (n + 1) round (omega (arith, short)) (All-head (All (IsNamedStep h.cpus)) round rounds all) in
    let later = leads_rounds h types before one (steps + length round) (n + 1 + length round) rounds (omega (arith, few)) (omega (arith, short)) (All-tail (All (IsNamedStep h.cpus)) round rounds all) in
    let count : steps + length round + steps_of rounds ≡ steps + (length round + steps_of rounds) = omega arith in
    let lines : n + 1 + length round ≡ n + 1 + length (map Does round) = omega (arith, length-map round Does) in (
      tt,
      (
        in_steps h types before (with_break section) steps,
        (
          ap (λ b. if b then Err (cause.TooMany counted.Rounds) else Ok (in_steps h types before (with_break section) steps)) free,
          leads-append (in_steps h types before (with_break section) steps) (n + 1) (map Does round) (later_lines rounds) (in_steps h types before one (steps + length round)) (in_steps h types before (with_rounds section n (round ∷ rounds)) (steps + (length round + steps_of rounds))) first
              (subst (λ m. Leads (in_steps h types before one (steps + length round)) m (later_lines rounds) (in_steps h types before (with_rounds section n (round ∷ rounds)) (steps + (length round + steps_of rounds)))) lines
              (subst (λ count. Leads (in_steps h types before one (steps + length round)) (n + 1 + length round) (later_lines rounds) (in_steps h types before (with_rounds section n (round ∷ rounds)) count)) count later)),
        ),
      ),
    )

-- ---- sections

-- a section of a first round and later ones, whose `cpu` line has this number
abbrev pub section_of : ℕ → List NamedStep → List (List NamedStep) → Section
section_of line first later = with_rounds (with_saids (new_section line) (line + 1) first) (line + 1 + length first) later

abbrev pub lines_of_section : List NamedStep → List (List NamedStep) → List Line
lines_of_section first later = map Does first ++ later_lines later

-- the lines behind a `cpu` line
pub leads_section : (h : Header) (types : List TypeDecl) (before : List Section) (steps n : ℕ) (first : List NamedStep) (later : List (List NamedStep)) → length later ≤ 999 → steps + (length first + steps_of later) ≤ 1000000 →
    All (IsNamedStep h.cpus) first → All (All (IsNamedStep h.cpus)) later →
    Leads (in_steps h types before (new_section n) steps) (n + 1) (lines_of_section first later) (in_steps h types before (section_of n first later) (steps + (length first + steps_of later)))
leads_section h types before steps n first later few short all_first all_later =
    let one = with_saids (new_section n) (n + 1) first in
    let head = leads_saids h types before (new_section n) steps (n + 1) first (omega (arith, short)) all_first in
    let tail = leads_rounds h types before one (steps + length first) (n + 1 + length first) later (omega (arith, few)) (omega (arith, short)) all_later in
    let count : steps + length first + steps_of later ≡ steps + (length first + steps_of later) = omega arith in
    let lines : n + 1 + length first ≡ n + 1 + length (map Does first) = omega (arith, length-map first Does) in
    leads-append (in_steps h types before (new_section n) steps) (n + 1) (map Does first) (later_lines later) (in_steps h types before one (steps + length first)) (in_steps h types before (section_of n first later) (steps + (length first + steps_of later))) head
    (subst (λ m. Leads (in_steps h types before one (steps + length first)) m (later_lines later) (in_steps h types before (section_of n first later) (steps + (length first + steps_of later)))) lines
    (subst (λ count. Leads (in_steps h types before one (steps + length first)) (n + 1 + length first) (later_lines later) (in_steps h types before (section_of n first later) count)) count tail))

-- ---- the order

abbrev pub IsTurn : ℕ → OrderLine → Type 0
IsTurn cpus (turn.Cpu cpu) = IsFrom 0 (cpus - 1) cpu
IsTurn cpus turn.Round = Unit {0}

pub leads_turns : (h : Header) (types : List TypeDecl) (before : List Section) (section : Section) (steps at n : ℕ) (turns more : List OrderLine) → All (IsTurn h.cpus) more →
    Leads (in_order h types before section steps at turns) n (map turn_of more) (in_order h types before section steps at (turns ++ more))
leads_turns h types before section steps at n turns [] all = ap (in_order h types before section steps at) (sym (append-nil turns))
leads_turns h types before section steps at n turns (turn.Cpu cpu ∷ more) all =
    let one = in_order h types before section steps at (turns ++ turn.Cpu cpu ∷ []) in (
      All-head (IsTurn h.cpus) (turn.Cpu cpu) more all,
      (
        one,
        (
          refl,
          subst (λ all. Leads one (n + 1) (map turn_of more) (in_order h types before section steps at all)) (append_assoc turns (turn.Cpu cpu ∷ []) more)
              (leads_turns h types before section steps at (n + 1) (turns ++ turn.Cpu cpu ∷ []) more (All-tail (IsTurn h.cpus) (turn.Cpu cpu) more all)),
        ),
      ),
    )
leads_turns h types before section steps at n turns (turn.Round ∷ more) all =
    let one = in_order h types before section steps at (turns ++ turn.Round ∷ []) in (
      tt,
      (
        one,
        (
          refl,
          subst (λ all. Leads one (n + 1) (map turn_of more) (in_order h types before section steps at all)) (append_assoc turns (turn.Round ∷ []) more)
              (leads_turns h types before section steps at (n + 1) (turns ++ turn.Round ∷ []) more (All-tail (IsTurn h.cpus) turn.Round more all)),
        ),
      ),
    )
