-- Each made text spells a bundle.
use Rattle.std.proofs.Common.{◌≡◌, ℕ, zero, suc, ◌+◌, ◌^◌, ◌<◌, ◌≤◌, ◌==◌, true, false, List, [], ◌∷◌, ◌++◌, length, map, replicate, All, Option, Some, None, IsTrue, refl, ap, sym, ◌∙◌, arith, subst, length-append}
use Rattle.std.proofs.lemmas.List.{length-map, map-append}
use Rattle.std.proofs.lemmas.List.Elements.{All-nil, All-cons, All-append, All-weaker}
use Rattle.kz_model.specs.declared.bundle.Bundle.{Bundle}
use Rattle.kz_model.specs.declared.bundle.Seed.TheVariants.{Number}
use Rattle.kz_model.specs.declared.bundle.TypeDecl.{TypeDecl}
use Rattle.kz_model.specs.declared.bundle.OrderLine.{OrderLine}
use Rattle.kz_model.specs.declared.bundle.OrderLine.TheVariants as turn
use Rattle.kz_model.specs.declared.grammar.Place.TheVariants as place
use Rattle.kz_model.specs.declared.grammar.Header.{Header}
use Rattle.kz_model.specs.declared.grammar.Refusal.{Refusal}
use Rattle.kz_model.specs.Grammar.Steps.{NamedStep}
use Rattle.kz_model.specs.Grammar.Form.{Line, Declares, Opens, Does, Break, Orders, Turns, Ends, StepLine, Section, Draft, empty_draft, new_section}
use Rattle.kz_model.specs.Grammar.Spelling.{line_text, IsNamedStep, IsDeclared, Leads, Spells, turn_of}
use Rattle.kz_model.specs.Grammar.Stages.{else_fault, CpuLine, of_cpu, lines_from, step_lines, rows_of, row_of, is_there, has, type_names, types_fault, names_fault, rounds_fault, later_fault, bundle_of, order_from, left_in}
use Rattle.kz_model.specs.Text.Made.{types_count, names_count, drawn_count, later_count, name_text, type_text, types_made, after_types, first_round, rounds_drawn, later_lines, section_made, sections_made, turns_made, later_turns, order_made, header_made, made_lines, made_text, MadeSpells}
use Rattle.kz_bundle.proofs.Choices.{equal}
use Rattle.kz_make.proofs.Counts.{types_are, names_are, drawn_are}
use Rattle.kz_make.proofs.Counts.{later_are as later_counted}
use Rattle.kz_make.proofs.Laid.{no_types_fault, types_declared, length-types_made, has_type}
use Rattle.kz_make.proofs.Leading.{leads-append, in_types, in_steps, in_order, leads_types, section_of, steps_of, leads_section, IsTurn, leads_turns}
use Rattle.kz_make.proofs.Ordered.{round_turns, later_round_turns, no_rounds_fault, no_order_fault}
use Rattle.kz_make.proofs.Rowed.{IsLineOfMade, IsBoundIn, IsRowOfMade, bound_left, bound_right, is_known, no_names_fault}
use Rattle.kz_make.proofs.Ruled.{length-rounds_drawn, steps_of_cpu, ruled, has_rounds, lines_are, lines_count, name_bound}
use Rattle.kz_make.proofs.NamedStepsMade.{IsStepOf, first_are, later_are}

-- ---- what the lines lead to

abbrev pub made_header : ℕ → Header
made_header number = record { machine = 1; seed = Number number; cpus = 4; frames = 2048; pages = 1024; budget = 24; magazine = 8; depot = 4 }

header_leads : (number : ℕ) → number < 2 ^ 64 → Leads empty_draft 1 (header_made number) (in_types (made_header number) [])
header_leads number small = (
  (refl, refl),
  (
    _,
    (
      refl,
      (
        (refl, small),
        (
          _,
          (
            refl,
            (
              (refl, (omega arith, omega arith)),
              (
                _,
                (
                  refl,
                  (
                    (refl, (omega arith, omega arith)),
                    (
                      _,
                      (
                        refl,
                        (
                          (refl, (omega arith, omega arith)),
                          (
                            _,
                            (
                              refl,
                              (
                                (refl, (omega arith, omega arith)),
                                (
                                  _,
                                  (
                                    refl,
                                    (
                                      (refl, (omega arith, omega arith)),
                                      (
                                        _,
                                        (
                                          refl,
                                          ((refl, (omega arith, omega arith)), (_, (refl, refl))),
                                        ),
                                      ),
                                    ),
                                  ),
                                ),
                              ),
                            ),
                          ),
                        ),
                      ),
                    ),
                  ),
                ),
              ),
            ),
          ),
        ),
      ),
    ),
  ),
)

-- a section's steps may stand
first_said : (number cpu j : ℕ) → cpu < 4 → All (IsNamedStep 4) (first_round number cpu j)
first_said number cpu j few = All-weaker (IsStepOf cpu) (IsNamedStep 4) (λ said is. is.said) (first_round number cpu j) (first_are cpu few number j)

later_said : (number cpu j more : ℕ) → cpu < 4 → All (All (IsNamedStep 4)) (rounds_drawn number cpu j more)
later_said number cpu j more few =
    All-weaker (All (IsStepOf cpu)) (All (IsNamedStep 4)) (λ round all. All-weaker (IsStepOf cpu) (IsNamedStep 4) (λ said is. is.said) round all) (rounds_drawn number cpu j more) (later_are cpu few number j more)

few_later : (number cpu j : ℕ) → length (rounds_drawn number cpu j later_count) ≤ 999
few_later number cpu j = omega (arith, length-rounds_drawn number cpu j later_count, later_counted)

-- the first section, and each later one
section_leads_first : (number j n : ℕ) (types : List TypeDecl) → Leads (in_types (made_header number) types) n (section_made number 0 j) (in_steps (made_header number) types [] (ruled number 0 j n) 20250)
section_leads_first number j n types =
    let h = made_header number in
    let first = first_round number 0 j in
    let later = rounds_drawn number 0 (j + 15000) later_count in
    let count : 0 + (length first + steps_of later) ≡ 20250 = omega (arith, steps_of_cpu number 0 j) in (
      refl,
      (
        in_steps h types [] (new_section n) 0,
        (
          refl,
          subst (λ steps. Leads (in_steps h types [] (new_section n) 0) (n + 1) (map Does first ++ later_lines later) (in_steps h types [] (ruled number 0 j n) steps)) count
              (leads_section h types [] 0 n first later (few_later number 0 (j + 15000)) (omega (arith, steps_of_cpu number 0 j)) (first_said number 0 j (omega arith)) (later_said number 0 (j + 15000) later_count (omega arith))),
        ),
      ),
    )

section_leads : (number cpu j n steps all : ℕ) (types : List TypeDecl) (before : List Section) (section : Section) → cpu < 4 → cpu ≡ length before + 1 → steps ≤ 900000 → all ≡ steps + 20250 →
    Leads (in_steps (made_header number) types before section steps) n (section_made number cpu j) (in_steps (made_header number) types (before ++ section ∷ []) (ruled number cpu j n) all)
section_leads number cpu j n steps all types before section few next short count_is =
    let h = made_header number in
    let first = first_round number cpu j in
    let later = rounds_drawn number cpu (j + 15000) later_count in
    let count : steps + (length first + steps_of later) ≡ all = omega (arith, steps_of_cpu number cpu j, count_is) in (
      ((λ last. let same = equal (length before + 1) 4 last in omega (arith, same, next, few)), next),
      (
        in_steps h types (before ++ section ∷ []) (new_section n) steps,
        (
          refl,
          subst (λ steps_now. Leads (in_steps h types (before ++ section ∷ []) (new_section n) steps) (n + 1) (map Does first ++ later_lines later) (in_steps h types (before ++ section ∷ []) (ruled number cpu j n) steps_now)) count
              (leads_section h types (before ++ section ∷ []) steps n first later (few_later number cpu (j + 15000)) (omega (arith, steps_of_cpu number cpu j, short)) (first_said number cpu j few) (later_said number cpu (j + 15000) later_count few)),
        ),
      ),
    )

-- the sections of the four CPUs
sections_lead : (number j n : ℕ) (types : List TypeDecl) →
    let n1 = n + length (section_made number 0 j) in
    let n2 = n1 + length (section_made number 1 (j + 60000)) in
    let n3 = n2 + length (section_made number 2 (j + 60000 + 60000)) in
    Leads (in_types (made_header number) types) n (sections_made number 0 j 4)
    (in_steps (made_header number) types (ruled number 0 j n ∷ ruled number 1 (j + 60000) n1 ∷ ruled number 2 (j + 60000 + 60000) n2 ∷ []) (ruled number 3 (j + 60000 + 60000 + 60000) n3) 81000)
sections_lead number j n types =
    let h = made_header number in
    let one = section_made number 0 j in
    let two = section_made number 1 (j + 60000) in
    let three = section_made number 2 (j + 60000 + 60000) in
    let four = section_made number 3 (j + 60000 + 60000 + 60000) in
    let n1 = n + length one in
    let n2 = n1 + length two in
    let n3 = n2 + length three in
    let a = ruled number 0 j n in
    let b = ruled number 1 (j + 60000) n1 in
    let c = ruled number 2 (j + 60000 + 60000) n2 in
    let d = ruled number 3 (j + 60000 + 60000 + 60000) n3 in
    let end = in_steps h types (a ∷ b ∷ c ∷ []) d 81000 in
    leads-append (in_types h types) n one (two ++ (three ++ (four ++ []))) (in_steps h types [] a 20250) end (section_leads_first number j n types)
    (leads-append (in_steps h types [] a 20250) n1 two (three ++ (four ++ [])) (in_steps h types (a ∷ []) b 40500) end (section_leads number 1 (j + 60000) n1 20250 40500 types [] a (omega arith) refl (omega arith) refl)
    (leads-append (in_steps h types (a ∷ []) b 40500) n2 three (four ++ []) (in_steps h types (a ∷ b ∷ []) c 60750) end (section_leads number 2 (j + 60000 + 60000) n2 40500 60750 types (a ∷ []) b (omega arith) refl (omega arith) refl)
    (leads-append (in_steps h types (a ∷ b ∷ []) c 60750) n3 four [] end end (section_leads number 3 (j + 60000 + 60000 + 60000) n3 60750 81000 types (a ∷ b ∷ []) c (omega arith) refl (omega arith) refl) refl)))

-- ---- the order

turns_text : (times : ℕ) → map turn_of (round_turns times) ≡ turns_made times
turns_text zero = refl
turns_text (suc times) = ap (λ (lines : List Line). Turns 0 ∷ Turns 1 ∷ Turns 2 ∷ Turns 3 ∷ lines) (turns_text times)

later_turns_text : (more : ℕ) → map turn_of (later_round_turns (replicate more drawn_count)) ≡ later_turns more
later_turns_text zero = refl
later_turns_text (suc more) =
    ap (λ (lines : List Line). Break ∷ lines) (
    map-append turn_of (round_turns drawn_count) (later_round_turns (replicate more drawn_count))
    ∙ ap (λ (lines : List Line). lines ++ map turn_of (later_round_turns (replicate more drawn_count))) (turns_text drawn_count)
    ∙ ap (λ (lines : List Line). turns_made drawn_count ++ lines) (later_turns_text more)
    )

abbrev all_turns : List OrderLine
all_turns = round_turns (names_count + drawn_count) ++ later_round_turns (replicate later_count drawn_count)

all_turns_text : map turn_of all_turns ≡ turns_made (names_count + drawn_count) ++ later_turns later_count
all_turns_text =
    map-append turn_of (round_turns (names_count + drawn_count)) (later_round_turns (replicate later_count drawn_count))
    ∙ ap (λ (lines : List Line). lines ++ map turn_of (later_round_turns (replicate later_count drawn_count))) (turns_text (names_count + drawn_count))
    ∙ ap (λ (lines : List Line). turns_made (names_count + drawn_count) ++ lines) (later_turns_text later_count)

turns_are : (times : ℕ) → All (IsTurn 4) (round_turns times)
turns_are zero = All-nil (IsTurn 4)
turns_are (suc times) =
    All-cons (IsTurn 4) (turn.Cpu 0) (turn.Cpu 1 ∷ turn.Cpu 2 ∷ turn.Cpu 3 ∷ round_turns times) (omega arith, omega arith)
    (All-cons (IsTurn 4) (turn.Cpu 1) (turn.Cpu 2 ∷ turn.Cpu 3 ∷ round_turns times) (omega arith, omega arith)
    (All-cons (IsTurn 4) (turn.Cpu 2) (turn.Cpu 3 ∷ round_turns times) (omega arith, omega arith) (All-cons (IsTurn 4) (turn.Cpu 3) (round_turns times) (omega arith, omega arith) (turns_are times))))

later_turns_are : (counts : List ℕ) → All (IsTurn 4) (later_round_turns counts)
later_turns_are [] = All-nil (IsTurn 4)
later_turns_are (count ∷ counts) =
    All-cons (IsTurn 4) turn.Round (round_turns count ++ later_round_turns counts) tt (All-append (IsTurn 4) (round_turns count) (later_round_turns counts) (turns_are count) (later_turns_are counts))

order_leads : (number n steps : ℕ) (types : List TypeDecl) (a b c d : Section) →
    Leads (in_steps (made_header number) types (a ∷ b ∷ c ∷ []) d steps) n order_made (in_order (made_header number) types (a ∷ b ∷ c ∷ []) d steps n all_turns)
order_leads number n steps types a b c d =
    let h = made_header number in
    let opened = in_order h types (a ∷ b ∷ c ∷ []) d steps n [] in (
      refl,
      (
        opened,
        (
          refl,
          subst (λ (lines : List Line). Leads opened (n + 1) lines (in_order h types (a ∷ b ∷ c ∷ []) d steps n all_turns)) all_turns_text
              (leads_turns h types (a ∷ b ∷ c ∷ []) d steps n (n + 1) [] all_turns
              (All-append (IsTurn 4) (round_turns (names_count + drawn_count)) (later_round_turns (replicate later_count drawn_count)) (turns_are (names_count + drawn_count)) (later_turns_are (replicate later_count drawn_count)))),
        ),
      ),
    )

-- ---- the later stages

-- all is said
abbrev ended : ℕ → List TypeDecl → Section → Section → Section → Section → ℕ → Draft
ended number types a b c d at = record {
  place = place.Ended;
  header = made_header number;
  types = types;
  before = a ∷ b ∷ c ∷ [];
  section = d;
  steps = 81000;
  order = Some all_turns;
  order_at = at;
}

-- four sections of made steps, and their lines
module _ (number ja jb jc jd la lb lc ld : ℕ) where
  abbrev one : List CpuLine
  one = of_cpu 0 (ruled number 0 ja la).steps

  abbrev two : List CpuLine
  two = of_cpu 1 (ruled number 1 jb lb).steps

  abbrev three : List CpuLine
  three = of_cpu 2 (ruled number 2 jc lc).steps

  abbrev four : List CpuLine
  four = of_cpu 3 (ruled number 3 jd ld).steps

  abbrev all_lines : List CpuLine
  all_lines = one ++ (two ++ (three ++ (four ++ [])))

  all_are : All IsLineOfMade all_lines
  all_are =
      All-append IsLineOfMade one (two ++ (three ++ (four ++ []))) (lines_are number 0 ja la (omega arith))
      (All-append IsLineOfMade two (three ++ (four ++ [])) (lines_are number 1 jb lb (omega arith))
      (All-append IsLineOfMade three (four ++ []) (lines_are number 2 jc lc (omega arith)) (All-append IsLineOfMade four [] (lines_are number 3 jd ld (omega arith)) (All-nil IsLineOfMade))))

  few_lines : length all_lines ≤ 100000
  few_lines =
      omega (
        arith,
        length-append one (two ++ (three ++ (four ++ []))),
        length-append two (three ++ (four ++ [])),
        length-append three (four ++ []),
        length-append four [],
        lines_count number 0 ja la,
        lines_count number 1 jb lb,
        lines_count number 2 jc lc,
        lines_count number 3 jd ld,
      )

  bound_in : (cpu k : ℕ) → cpu < 4 → k < 250 → IsBoundIn (name_text cpu k) all_lines
  bound_in zero k few_cpus few = bound_left (name_text 0 k) one (two ++ (three ++ (four ++ []))) (name_bound number 0 ja la k few)
  bound_in (suc zero) k few_cpus few = bound_right (name_text 1 k) one (two ++ (three ++ (four ++ []))) (bound_left (name_text 1 k) two (three ++ (four ++ [])) (name_bound number 1 jb lb k few))
  bound_in (suc (suc zero)) k few_cpus few =
      bound_right (name_text 2 k) one (two ++ (three ++ (four ++ []))) (bound_right (name_text 2 k) two (three ++ (four ++ [])) (bound_left (name_text 2 k) three (four ++ []) (name_bound number 2 jc lc k few)))
  bound_in (suc (suc (suc zero))) k few_cpus few =
      bound_right (name_text 3 k) one (two ++ (three ++ (four ++ [])))
      (bound_right (name_text 3 k) two (three ++ (four ++ [])) (bound_right (name_text 3 k) three (four ++ []) (bound_left (name_text 3 k) four [] (name_bound number 3 jd ld k few))))
  bound_in (suc (suc (suc (suc cpu)))) k few_cpus few = absurd (omega (arith, few_cpus))

  and_none : (n : ℕ) → n ≤ 100000 → 0 + n ≤ 100000
  and_none n h = omega arith

  no_fault_of_names : (types : List TypeDecl) (at : ℕ) → ((t : ℕ) → t < 40 → has (type_text t) (map (λ decl. decl.name) types) ≡ true) →
      names_fault (ended number types (ruled number 0 ja la) (ruled number 1 jb lb) (ruled number 2 jc lc) (ruled number 3 jd ld) at) ≡ None
  no_fault_of_names types at known =
      no_names_fault (map (λ (decl : TypeDecl). decl.name) types) (rows_of all_lines) known (λ cpu k few_cpus few. is_known (name_text cpu k) all_lines (bound_in cpu k few_cpus few)) [] all_lines (and_none (length all_lines) few_lines) (All-nil IsRowOfMade) all_are

  no_fault_of_rounds : (types : List TypeDecl) (at : ℕ) → rounds_fault (ended number types (ruled number 0 ja la) (ruled number 1 jb lb) (ruled number 2 jc lc) (ruled number 3 jd ld) at) ≡ None
  no_fault_of_rounds types at =
      let first = names_count + drawn_count in
      let later = replicate later_count drawn_count in
      ap (λ o. else_fault o (order_from (ruled number 0 ja la ∷ ruled number 1 jb lb ∷ ruled number 2 jc lc ∷ ruled number 3 jd ld ∷ []) (ruled number 3 jd ld).breaks 0
      (left_in 0 (ruled number 0 ja la ∷ ruled number 1 jb lb ∷ ruled number 2 jc lc ∷ ruled number 3 jd ld ∷ [])) (at + 1) all_turns))
      (no_rounds_fault first later (ruled number 0 ja la) (ruled number 1 jb lb) (ruled number 2 jc lc) (ruled number 3 jd ld) (has_rounds number 0 ja la) (has_rounds number 1 jb lb) (has_rounds number 2 jc lc)
      (has_rounds number 3 jd ld))
      ∙ no_order_fault first later (ruled number 0 ja la) (ruled number 1 jb lb) (ruled number 2 jc lc) (ruled number 3 jd ld) (has_rounds number 0 ja la) (has_rounds number 1 jb lb) (has_rounds number 2 jc lc)
      (has_rounds number 3 jd ld) (at + 1)

none_of_three : (a b c : Option Refusal) → a ≡ None → b ≡ None → c ≡ None → else_fault a (else_fault b c) ≡ None
none_of_three a b c e f g = rw (e, f, g) refl

-- ---- the whole

-- what a made text says
record MadeSays (number : ℕ) : Type 0 where
  said : Draft
  leads : Leads empty_draft 1 (made_lines number) said
  is_ended : said.place ≡ place.Ended
  faultless : later_fault said ≡ None

made_said : (number : ℕ) → number < 2 ^ 64 → MadeSays number
made_said number small =
    let h = made_header number in
    let types = types_made number 0 0 types_count in
    let start = after_types number 0 types_count in
    let header = header_made number in
    let declared = header ++ map Declares types in
    let sections = declared ++ sections_made number 0 start 4 in
    let ordered = sections ++ order_made in
    let la = 1 + length declared in
    let lb = la + length (section_made number 0 start) in
    let lc = lb + length (section_made number 1 (start + 60000)) in
    let ld = lc + length (section_made number 2 (start + 60000 + 60000)) in
    let a = ruled number 0 start la in
    let b = ruled number 1 (start + 60000) lb in
    let c = ruled number 2 (start + 60000 + 60000) lc in
    let d = ruled number 3 (start + 60000 + 60000 + 60000) ld in
    let at = 1 + length sections in
    let said = ended number types a b c d at in
    let few_types : 0 + types_count ≤ 1024 = omega (arith, types_are) in
    let to_types = leads-append empty_draft 1 header (map Declares types) (in_types h []) (in_types h types) (header_leads number small)
    (leads_types h [] types (1 + length header) (omega (arith, length-types_made number 0 0 types_count, types_are)) (types_declared number 0 0 types_count few_types)) in
    let to_sections = leads-append empty_draft 1 declared (sections_made number 0 start 4) (in_types h types) (in_steps h types (a ∷ b ∷ c ∷ []) d 81000) to_types (sections_lead number start la types) in
    let to_order = leads-append empty_draft 1 sections order_made (in_steps h types (a ∷ b ∷ c ∷ []) d 81000) (in_order h types (a ∷ b ∷ c ∷ []) d 81000 at all_turns) to_sections (order_leads number at 81000 types a b c d) in
    record {
      said = said;
      leads = leads-append empty_draft 1 ordered (Ends ∷ []) (in_order h types (a ∷ b ∷ c ∷ []) d 81000 at all_turns) said to_order (tt, (said, (refl, refl)));
      is_ended = refl;
      faultless = none_of_three (types_fault said) (names_fault said) (rounds_fault said) (no_types_fault number 0 types_count 24 (omega (arith, types_are)) (omega arith))
          (no_fault_of_names number start (start + 60000) (start + 60000 + 60000) (start + 60000 + 60000 + 60000) la lb lc ld types at (λ t few. has_type number 0 0 types_count t (omega arith) (omega (arith, types_are))))
          (no_fault_of_rounds number start (start + 60000) (start + 60000 + 60000) (start + 60000 + 60000 + 60000) la lb lc ld types at);
    }

pub made_spells : MadeSpells
made_spells number small =
    let says = made_said number small in (
      bundle_of says.said,
      record { lines = made_lines number; text = refl; said = says.said; leads = says.leads; ended = says.is_ended; faultless = says.faultless; bundle = refl },
    )
