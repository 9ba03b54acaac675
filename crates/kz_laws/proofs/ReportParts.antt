-- The parts of a report: its visits lines and its ask lines are told by its text.
use Rattle.std.proofs.Common.{◌≡◌, ℕ, zero, suc, ◌+◌, ◌-◌, ◌==◌, ◌&&◌, nat_le, not, Bool, true, false, if◌then◌else◌, List, [], ◌∷◌, ◌++◌, map, length, codes, slice_index, slice_index_or, IsTrue, refl, ap, sym, ◌∙◌, arith, append_assoc}
use Rattle.std.specs.Fmt.{decimal}
use Rattle.std.specs.List.{All, AllByRecursion, list_all, flat_map, filter, range_with_len, enumerate_from, count_by}
use Rattle.std.proofs.lemmas.Grind.{flat_map-append}
use Rattle.std.proofs.lemmas.List.{append-nil, append_cancel_left}
use Rattle.std.proofs.lemmas.List.Elements.{filter-append, All-head, All-tail}
use Rattle.std.proofs.lemmas.List.Folds.{list_all-append}
use Rattle.kz_model.specs.declared.bundle.Bundle.{Bundle}
use Rattle.kz_model.specs.declared.bundle.TypeDecl.{TypeDecl}
use Rattle.kz_model.specs.declared.record.Plan.{Plan}
use Rattle.kz_model.specs.declared.record.Layout.{Layout}
use Rattle.kz_model.specs.declared.record.Visit.{Visit}
use Rattle.kz_model.specs.declared.supply.SupplyEntry.{SupplyEntry}
use Rattle.kz_model.specs.Run.Journal.{params_of}
use Rattle.kz_model.specs.Text.Report.{Answered, answered_lines, all_answered_lines, zone_chunks, base_of, no_type, plan_lines, round_lines, rounds_lines, cpu_lines, use_line, is_alloc_of, is_free_of, chunk_line, zone_visits_lines, report_text}
use Rattle.kz_model.specs.Run.Journal.{bases}
use Rattle.kz_model.specs.Run.Supply.{address}
use Rattle.kz_model.specs.Text.Lines.{hex, reply_line, ask_line, visits_line, text_of_lines}
use Rattle.kz_model.specs.Grammar.Tokens.{is_name, is_name_byte, is_small}
use Rattle.kz_model.specs.Zone.State.{Chunk}
use Rattle.kz_laws.proofs.Each.{each-append, each-map, each-flat_map, each-weaker}
use Rattle.kz_laws.proofs.PlainLines.{is_clear, IsClear, decimal_clear, digits_clear, begins, IsLine, reply_line_plain, visits_line_plain, ask_line_plain}
use Rattle.kz_laws.proofs.Reading.{IsFree, AreLines, same_lines_of_text}

-- ---- names

name_byte_clear : (byte : ℕ) → is_name_byte byte ≡ true → (byte == 10) ≡ false
name_byte_clear byte h =
    elim (byte == 10) as (λ t. (byte == 10) ≡ t → t ≡ false) [
      | true ↦ λ e. let is : byte ≡ 10 = grind arith in absurd (cc (ap is_name_byte is, h))
      | false ↦ λ e. refl
    ] refl

left : (a b : Bool) → (a && b) ≡ true → a ≡ true
left true b h = refl
left false b h = absurd (cc)

right : (a b : Bool) → (a && b) ≡ true → b ≡ true
right true b h = h
right false b h = absurd (cc)

name_bytes_clear : (bytes : List ℕ) → list_all is_name_byte bytes ≡ true → is_clear bytes ≡ true
name_bytes_clear [] h = refl
name_bytes_clear (byte ∷ bytes) h =
    ap (λ t. not t && is_clear bytes) (name_byte_clear byte (left (is_name_byte byte) (list_all is_name_byte bytes) h))
    ∙ name_bytes_clear bytes (right (is_name_byte byte) (list_all is_name_byte bytes) h)

small_name : (byte : ℕ) → is_small byte ≡ true → is_name_byte byte ≡ true
small_name byte h = grind arith

name_clear : (name : List ℕ) → IsTrue (is_name name) → IsClear name
name_clear [] h = record { none = refl }
name_clear (byte ∷ bytes) h =
    let two = left (is_small byte && list_all is_name_byte bytes) (nat_le (length bytes) 31) h in
    record {
      none =
          ap (λ t. not t && is_clear bytes) (name_byte_clear byte (small_name byte (left (is_small byte) (list_all is_name_byte bytes) two)))
          ∙ name_bytes_clear bytes (right (is_small byte) (list_all is_name_byte bytes) two);
    }

-- the name of a type, and of none
type_name_clear : (types : List TypeDecl) (of : ℕ) → All (λ decl. IsTrue (is_name decl.name)) types → IsClear (slice_index_or types of no_type).name
type_name_clear [] of are = record { none = refl }
type_name_clear (decl ∷ types) zero are = name_clear decl.name (All-head (λ (decl : TypeDecl). IsTrue (is_name decl.name)) decl types are)
type_name_clear (decl ∷ types) (suc of) are = type_name_clear types of (All-tail (λ (decl : TypeDecl). IsTrue (is_name decl.name)) decl types are)

-- ---- the lines before the visits lines

abbrev ArePlain : List (List ℕ) → Type 0
ArePlain lines = AllByRecursion (IsLine false false) lines

module _ (b : Bundle) (plan : Plan) (journals : List (List Visit)) (log : List SupplyEntry) where
  round_lines_plain : (lines : List Answered) → ArePlain (round_lines b plan log lines)
  round_lines_plain lines =
      each-map (IsLine false false) (λ line. reply_line (params_of b plan line.zone) (base_of (bases line.zone log) line.reply) line.reply)
      (λ line. reply_line_plain (params_of b plan line.zone) (base_of (bases line.zone log) line.reply) line.reply) lines

  rounds_lines_plain : (cpu round more : ℕ) → ArePlain (rounds_lines b plan journals log cpu round more)
  rounds_lines_plain cpu round zero = tt
  rounds_lines_plain cpu round (suc more) =
      each-append (IsLine false false) (round_lines b plan log (answered_lines b plan journals log cpu round)) (if more == 0 then [] else codes "--" ∷ rounds_lines b plan journals log cpu (round + 1) more)
      (round_lines_plain (answered_lines b plan journals log cpu round))
      (
      elim (more == 0) as (λ t. ArePlain (if t then [] else codes "--" ∷ rounds_lines b plan journals log cpu (round + 1) more)) [
        | true ↦ tt
        | false ↦ (record { clear = record { none = refl }; visits = refl; asks = refl }, rounds_lines_plain cpu (round + 1) more)
      ]
      )

  cpu_lines_plain : (cpu : ℕ) → ArePlain (cpu_lines b plan journals log cpu)
  cpu_lines_plain cpu = (record { clear = record { none = (decimal_clear cpu).none }; visits = refl; asks = refl }, rounds_lines_plain cpu 0 b.rounds)

  use_line_plain : (lines : List Answered) (of : ℕ) → All (λ decl. IsTrue (is_name decl.name)) b.types → IsLine false false (use_line b lines of)
  use_line_plain lines of named =
      let allocs = count_by (is_alloc_of b of) lines in
      let frees = count_by (is_free_of b of) lines in
      by_counts allocs frees
    where
      by_counts : (allocs frees : ℕ) → IsLine false false (codes "use " ++ (slice_index_or b.types of no_type).name ++ codes " allocs " ++ decimal allocs ++ codes " frees " ++ decimal frees ++ codes " live " ++ decimal (allocs - frees))
      by_counts allocs frees =
          record {
            clear = record { none = simp (list_all-append, (type_name_clear b.types of named).none, (decimal_clear allocs).none, (decimal_clear frees).none, (decimal_clear (allocs - frees)).none) };
            visits = refl;
            asks = refl;
          }

  chunk_line_plain : (zone : ℕ) (chunk : ℕ × Chunk) → IsLine false false (chunk_line b plan log zone chunk)
  chunk_line_plain zone chunk =
      let p = params_of b plan zone in
      at_address (address p.submap (slice_index (bases zone log) chunk.0) p.element (record { chunk = chunk.0; index = 0 })) chunk.1.mapped
    where
      end_clear : (mapped : Bool) → is_clear (if mapped then codes " mapped" else codes " unmapped") ≡ true
      end_clear true = refl
      end_clear false = refl

      at_address : (at : ℕ) (mapped : Bool) → IsLine false false (codes "chunk " ++ decimal zone ++ codes " " ++ decimal chunk.0 ++ codes " " ++ hex at ++ (if mapped then codes " mapped" else codes " unmapped"))
      at_address at mapped =
          record {
            clear = record { none = simp (list_all-append, (decimal_clear zone).none, (decimal_clear chunk.0).none, (digits_clear 16 at).none) (end_clear mapped) };
            visits = refl;
            asks = refl;
          }

  -- the lines of the CPUs, of the types' use and of the chunks
  abbrev pub front_lines : List (List ℕ)
  front_lines =
      flat_map (cpu_lines b plan journals log) (range_with_len 0 b.cpus)
      ++ map (use_line b (all_answered_lines b plan journals log)) (range_with_len 0 (length b.types))
      ++ flat_map (λ zone. map (chunk_line b plan log zone) (enumerate_from 0 (zone_chunks b plan journals log zone))) (range_with_len 0 (length plan.zones))

  pub front_lines_plain : All (λ decl. IsTrue (is_name decl.name)) b.types → ArePlain front_lines
  front_lines_plain named =
      let of_type = use_line b (all_answered_lines b plan journals log) in
      let chunks = λ (zone : ℕ). map (chunk_line b plan log zone) (enumerate_from 0 (zone_chunks b plan journals log zone)) in
      let zones = range_with_len 0 (length plan.zones) in
      let types = range_with_len 0 (length b.types) in
      let cpus = range_with_len 0 b.cpus in
      let P = IsLine false false in
      each-append P (flat_map (cpu_lines b plan journals log) cpus ++ map of_type types) (flat_map chunks zones)
      (
      each-append P (flat_map (cpu_lines b plan journals log) cpus) (map of_type types) (each-flat_map P (cpu_lines b plan journals log) cpu_lines_plain cpus)
      (each-map P of_type (λ of. use_line_plain (all_answered_lines b plan journals log) of named) types)
      )
      (each-flat_map P chunks (λ zone. each-map P (chunk_line b plan log zone) (chunk_line_plain zone) (enumerate_from 0 (zone_chunks b plan journals log zone))) zones)

  -- the visits lines
  abbrev pub visits_lines : List (List ℕ)
  visits_lines = flat_map (λ zone. zone_visits_lines b zone (slice_index_or journals zone [])) (range_with_len 0 (length plan.zones))

  abbrev visits_lines_of_round : ℕ → ℕ → List (List ℕ)
  visits_lines_of_round zone round =
      let there = filter (λ v. v.round == round) (slice_index_or journals zone []) in
      if length there == 0 then [] else visits_line zone round there ∷ []

  visits_lines_of_round_plain : (zone round : ℕ) → AllByRecursion (IsLine true false) (visits_lines_of_round zone round)
  visits_lines_of_round_plain zone round =
      let there = filter (λ v. v.round == round) (slice_index_or journals zone []) in
      elim (length there == 0) as (λ t. AllByRecursion (IsLine true false) (if t then [] else visits_line zone round there ∷ [])) [ true ↦ tt | false ↦ (visits_line_plain zone round there, tt) ]

  visits_lines_plain : AllByRecursion (IsLine true false) visits_lines
  visits_lines_plain =
      each-flat_map (IsLine true false) (λ zone. zone_visits_lines b zone (slice_index_or journals zone []))
      (λ zone. each-flat_map (IsLine true false) (visits_lines_of_round zone) (visits_lines_of_round_plain zone) (range_with_len 0 b.rounds)) (range_with_len 0 (length plan.zones))

-- ---- a text that has visits lines and ask lines

clear_free : (line : List ℕ) → is_clear line ≡ true → IsFree 10 line
clear_free [] h = tt
clear_free (byte ∷ line) h = (
  λ is. absurd (cc (ap (λ n. n == 10) is, left (not (byte == 10)) (is_clear line) h)),
  clear_free line (right (not (byte == 10)) (is_clear line) h),
)

free_lines : (is_visits is_ask : Bool) (lines : List (List ℕ)) → AllByRecursion (IsLine is_visits is_ask) lines → AreLines lines
free_lines is_visits is_ask [] h = tt
free_lines is_visits is_ask (line ∷ lines) h = (clear_free line h.0.clear.none, free_lines is_visits is_ask lines h.1)

lines-append : (xs ys : List (List ℕ)) → AreLines xs → AreLines ys → AreLines (xs ++ ys)
lines-append [] ys hx hy = hy
lines-append (x ∷ xs) ys hx hy = (hx.0, lines-append xs ys hx.1 hy)

module _ {X : Type 0} (test : X → Bool) where
  filter_all : (xs : List X) → AllByRecursion (λ x. test x ≡ true) xs → filter test xs ≡ xs
  filter_all [] h = refl
  filter_all (x ∷ xs) h = ap (λ t. if t then x ∷ filter test xs else filter test xs) h.0 ∙ ap (λ (l : List X). x ∷ l) (filter_all xs h.1)

  filter_none : (xs : List X) → AllByRecursion (λ x. test x ≡ false) xs → filter test xs ≡ []
  filter_none [] h = refl
  filter_none (x ∷ xs) h = ap (λ t. if t then x ∷ filter test xs else filter test xs) h.0 ∙ filter_none xs h.1

  middle_part : (front here others last : List X) → filter test front ≡ [] → filter test here ≡ here → filter test others ≡ [] → filter test last ≡ [] → filter test (front ++ here ++ others ++ last) ≡ here
  middle_part front here others last no_front all no_others no_last = simp (filter-append, no_front, all, no_others, no_last, append-nil)

-- the parts of a list of lines that ends by one more
record AreParts (front visits asks : List (List ℕ)) : Type 0 where
  plain : ArePlain front
  of_visits : AllByRecursion (IsLine true false) visits
  of_asks : AllByRecursion (IsLine false true) asks

abbrev end_line : List (List ℕ)
end_line = codes "end" ∷ []

abbrev all_parts : List (List ℕ) → List (List ℕ) → List (List ℕ) → List (List ℕ)
all_parts front visits asks = front ++ visits ++ asks ++ end_line

module _ (front visits asks : List (List ℕ)) (are : AreParts front visits asks) where
  visits_part : filter (begins 118) (all_parts front visits asks) ≡ visits
  visits_part =
      middle_part (begins 118) front visits asks end_line
      (filter_none (begins 118) front (each-weaker (IsLine false false) (λ line. begins 118 line ≡ false) (λ line is. is.visits) front are.plain))
      (filter_all (begins 118) visits (each-weaker (IsLine true false) (λ line. begins 118 line ≡ true) (λ line is. is.visits) visits are.of_visits))
      (filter_none (begins 118) asks (each-weaker (IsLine false true) (λ line. begins 118 line ≡ false) (λ line is. is.visits) asks are.of_asks)) refl

  asks_part : filter (begins 97) (all_parts front visits asks) ≡ asks
  asks_part =
      ap (λ (l : List (List ℕ)). filter (begins 97) l) (append_assoc (front ++ visits) asks end_line)
      ∙ filter-append (begins 97) (front ++ visits) (asks ++ end_line)
      ∙ ap (λ (l : List (List ℕ)). l ++ filter (begins 97) (asks ++ end_line)) none
      ∙ filter-append (begins 97) asks end_line
      ∙ append-nil (filter (begins 97) asks)
      ∙ filter_all (begins 97) asks (each-weaker (IsLine false true) (λ line. begins 97 line ≡ true) (λ line is. is.asks) asks are.of_asks)
    where
      none : filter (begins 97) (front ++ visits) ≡ []
      none =
          filter-append (begins 97) front visits
          ∙ ap (λ (l : List (List ℕ)). l ++ filter (begins 97) visits) (filter_none (begins 97) front (each-weaker (IsLine false false) (λ line. begins 97 line ≡ false) (λ line is. is.asks) front are.plain))
          ∙ filter_none (begins 97) visits (each-weaker (IsLine true false) (λ line. begins 97 line ≡ false) (λ line is. is.asks) visits are.of_visits)

  parts_free : AreLines (all_parts front visits asks)
  parts_free =
      lines-append (front ++ visits ++ asks) end_line
      (lines-append (front ++ visits) asks (lines-append front visits (free_lines false false front are.plain) (free_lines true false visits are.of_visits)) (free_lines false true asks are.of_asks))
      (clear_free (codes "end") refl, tt)

-- ---- the report

abbrev head_lines : Bundle → Plan → List Layout → List (List ℕ)
head_lines b plan layouts = codes "report 1" ∷ plan_lines b plan layouts

in_parts : (head cpus uses chunks visits asks last : List (List ℕ)) → head ++ cpus ++ uses ++ chunks ++ visits ++ asks ++ last ≡ head ++ (cpus ++ uses ++ chunks ++ visits ++ asks ++ last)
in_parts head cpus uses chunks visits asks last = simp append_assoc

text_in_parts : (b : Bundle) (plan : Plan) (layouts : List Layout) (journals : List (List Visit)) (log : List SupplyEntry) →
    report_text b plan layouts journals log ≡ text_of_lines (head_lines b plan layouts) ++ text_of_lines (all_parts (front_lines b plan journals log) (visits_lines b plan journals log) (map ask_line log))
text_in_parts b plan layouts journals log =
    let zones = range_with_len 0 (length plan.zones) in
    ap text_of_lines (
    in_parts (head_lines b plan layouts) (flat_map (cpu_lines b plan journals log) (range_with_len 0 b.cpus))
    (map (use_line b (all_answered_lines b plan journals log)) (range_with_len 0 (length b.types)))
    (flat_map (λ zone. map (chunk_line b plan log zone) (enumerate_from 0 (zone_chunks b plan journals log zone))) zones) (visits_lines b plan journals log) (map ask_line log) end_line
    )
    ∙ flat_map-append (λ line. line ++ 10 ∷ []) (head_lines b plan layouts) (all_parts (front_lines b plan journals log) (visits_lines b plan journals log) (map ask_line log))

are_parts : (b : Bundle) (plan : Plan) (journals : List (List Visit)) (log : List SupplyEntry) → All (λ decl. IsTrue (is_name decl.name)) b.types → AreParts (front_lines b plan journals log) (visits_lines b plan journals log) (map ask_line log)
are_parts b plan journals log named =
    record { plain = front_lines_plain b plan journals log named; of_visits = visits_lines_plain b plan journals log; of_asks = each-map (IsLine false true) ask_line ask_line_plain log }

-- A report's text tells its visits lines and its ask lines.
pub same_parts : (b : Bundle) (plan : Plan) (layouts : List Layout) (journals others : List (List Visit)) (log another : List SupplyEntry) → All (λ decl. IsTrue (is_name decl.name)) b.types →
    report_text b plan layouts journals log ≡ report_text b plan layouts others another →
    (visits_lines b plan journals log ≡ visits_lines b plan others another) × (map ask_line log ≡ map ask_line another)
same_parts b plan layouts journals others log another named e =
    let front = front_lines b plan journals log in
    let visits = visits_lines b plan journals log in
    let asks = map ask_line log in
    let other_front = front_lines b plan others another in
    let other_visits = visits_lines b plan others another in
    let other_asks = map ask_line another in
    let one = are_parts b plan journals log named in
    let other = are_parts b plan others another named in
    let lines = same_lines_of_text (all_parts front visits asks) (all_parts other_front other_visits other_asks) (parts_free front visits asks one) (parts_free other_front other_visits other_asks other)
    (append_cancel_left (text_of_lines (head_lines b plan layouts)) (text_of_lines (all_parts front visits asks)) (text_of_lines (all_parts other_front other_visits other_asks)) (sym (text_in_parts b plan layouts journals log) ∙ e ∙ text_in_parts b plan layouts others another)) in (
      sym (visits_part front visits asks one) ∙ ap (λ (l : List (List ℕ)). filter (begins 118) l) lines ∙ visits_part other_front other_visits other_asks other,
      sym (asks_part front visits asks one) ∙ ap (λ (l : List (List ℕ)). filter (begins 97) l) lines ∙ asks_part other_front other_visits other_asks other,
    )
