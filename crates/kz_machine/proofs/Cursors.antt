-- The chunks that a zone was granted lie below its submap's cursor.
use Rattle.std.proofs.Common.{◌≡◌, ◌<◌, ◌≤◌, ◌+◌, ◌-◌, ◌*◌, ◌/◌, ℕ, ◌==◌, nat_lt, true, false, if◌then◌else◌, List, [], ◌∷◌, length, map, slice_index, slice_set, All, Option, None, Some, refl, ap, sym, ◌∙◌, subst, arith}
use Rattle.std.specs.List.{fold, filter_map, cons_option}
use Rattle.std.proofs.Math.Nat.{mul-div-le}
use Rattle.std.proofs.lemmas.Nat.{le-div}
use Rattle.std.proofs.lemmas.List.{get_or-set_same, get_or-set_other, length-set}
use Rattle.std.proofs.lemmas.List.Elements.{All-head, All-tail}
use Rattle.kz_model.specs.declared.record.ZoneParams.{ZoneParams}
use Rattle.kz_model.specs.declared.supply.SupplyEntry.{SupplyEntry}
use Rattle.kz_model.specs.declared.supply.Ask.{Ask}
use Rattle.kz_model.specs.declared.supply.Ask.TheVariants.{Chunk, Frames, Back}
use Rattle.kz_model.specs.declared.supply.Answer.{Answer}
use Rattle.kz_model.specs.declared.supply.Answer.TheVariants.{Base, Given, NoSpace, NoFrames}
use Rattle.kz_laws.specs.Addresses.{IsForZone}
use Rattle.kz_model.specs.Run.Journal.{log_at}
use Rattle.kz_model.specs.Run.Journal.{page_of, bases}
use Rattle.kz_model.specs.Run.Supply.{Stock, pages_left, answer_of, stock_after, answers_from}
use Rattle.kz_laws.proofs.Undelayed.{mine_or_other}

-- ---- one answer

abbrev cursor : Stock → ℕ → ℕ
cursor stock submap = slice_index stock.cursors submap

-- Cursors never fall, and a zone's grant lifts the zone's by the pages of its chunk.
record Moves (p : ZoneParams) (stock : Stock) (ask : Ask) (answer : Answer) : Type 0 where
  size : length (stock_after stock ask answer).cursors ≡ length stock.cursors
  any : cursor stock p.submap ≤ cursor (stock_after stock ask answer) p.submap
  mine : IsForZone p ask → cursor stock p.submap + p.pages * length (cons_option (page_of answer) []) ≤ cursor (stock_after stock ask answer) p.submap

-- an answer that grants no chunk
stays : (p : ZoneParams) (n : ℕ) → n + p.pages * 0 ≤ n
stays p n = omega arith

granted : (p : ZoneParams) (stock : Stock) (s n : ℕ) → p.submap < length stock.cursors → Moves p stock (Chunk s n) (Base (cursor stock s))
granted p stock s n lt =
    let at = cursor stock s in
    let now = slice_set stock.cursors s (at + n) in
    record {
      size = length-set stock.cursors s (at + n);
      any = mine_or_other (λ k. k < length stock.cursors → slice_index stock.cursors k ≤ slice_index now k) s p.submap
          (λ lt. let is : slice_index now s ≡ at + n = get_or-set_same stock.cursors s (at + n) 0 lt in omega arith)
          (λ ne lt. let is : slice_index now p.submap ≡ cursor stock p.submap = get_or-set_other stock.cursors s p.submap (at + n) 0 ne in omega arith) lt;
      mine = λ is.
          let here : slice_index now p.submap ≡ cursor stock p.submap + p.pages =
          ap (λ k. slice_index (slice_set stock.cursors k (cursor stock k + n)) p.submap) is.0
          ∙ get_or-set_same stock.cursors p.submap (cursor stock p.submap + n) 0 lt
          ∙ ap (λ m. cursor stock p.submap + m) is.1 in
          omega arith;
    }

moves : (p : ZoneParams) (pages : ℕ) (stock : Stock) (ask : Ask) → p.submap < length stock.cursors → Moves p stock ask (answer_of pages stock ask)
moves p pages stock (Chunk s n) lt =
    elim (nat_lt (pages_left pages stock s) n) as (λ t. Moves p stock (Chunk s n) (if t then NoSpace (pages_left pages stock s) else if nat_lt stock.free n then NoFrames stock.free else Base (cursor stock s))) [
      | true ↦ record { size = refl; any = omega arith; mine = λ is. stays p (cursor stock p.submap) }
      | false ↦
          elim (nat_lt stock.free n) as (λ t. Moves p stock (Chunk s n) (if t then NoFrames stock.free else Base (cursor stock s))) [
            | true ↦ record { size = refl; any = omega arith; mine = λ is. stays p (cursor stock p.submap) }
            | false ↦ granted p stock s n lt
          ]
    ]
moves p pages stock (Frames n) lt =
    elim (nat_lt stock.free n) as (λ t. Moves p stock (Frames n) (if t then NoFrames stock.free else Given)) [
      | true ↦ record { size = refl; any = omega arith; mine = λ is. stays p (cursor stock p.submap) }
      | false ↦ record { size = refl; any = omega arith; mine = λ is. stays p (cursor stock p.submap) }
    ]
moves p pages stock (Back n) lt = record { size = refl; any = omega arith; mine = λ is. stays p (cursor stock p.submap) }

-- ---- a log

pub same_heads : (a c : Answer) (xs ys : List Answer) → a ∷ xs ≡ c ∷ ys → (a ≡ c) × (xs ≡ ys)
same_heads a c xs ys e = (cc, cc)

abbrev pub asks : List SupplyEntry → List Ask
asks log = map (λ entry. entry.ask) log

abbrev pub answers : List SupplyEntry → List Answer
answers log = map (λ entry. entry.answer) log

-- a zone's chunks so far, and one more entry in front
pub chunks_first : (zone : ℕ) (entry : SupplyEntry) (log : List SupplyEntry) → length (bases zone (entry ∷ log)) ≡ (if entry.zone == zone then length (cons_option (page_of entry.answer) []) else 0) + length (bases zone log)
chunks_first zone entry log =
    elim (entry.zone == zone) as (λ t. length (filter_map page_of (answers (if t then entry ∷ log_at zone log else log_at zone log))) ≡ (if t then length (cons_option (page_of entry.answer) []) else 0) + length (bases zone log)) [
      | true ↦ one_or_none (page_of entry.answer) (bases zone log)
      | false ↦ plain (length (bases zone log))
    ]
  where
    plain : (n : ℕ) → n ≡ 0 + n
    plain n = omega arith

    one_or_none : (o : Option ℕ) (pages : List ℕ) → length (cons_option o pages) ≡ length (cons_option o []) + length pages
    one_or_none None pages = plain (length pages)
    one_or_none (Some page) pages = omega arith

-- so the pages that a zone was granted are below its submap's cursor
covers : (params : ℕ → ZoneParams) (zone pages : ℕ) (log : List SupplyEntry) (stock : Stock) → (params zone).submap < length stock.cursors → All (λ entry. IsForZone (params entry.zone) entry.ask) log →
    answers log ≡ answers_from pages stock (asks log) →
    cursor stock (params zone).submap + (params zone).pages * length (bases zone log) ≤ cursor (fold (λ stock entry. stock_after stock entry.ask entry.answer) stock log) (params zone).submap
covers params zone pages [] stock lt own is = stays (params zone) (cursor stock (params zone).submap)
covers params zone pages (entry ∷ log) stock lt own is =
    let p = params zone in
    let CpuPart : SupplyEntry → Type 0 = λ entry. IsForZone (params entry.zone) entry.ask in
    let first = answer_of pages stock entry.ask in
    let heads = same_heads entry.answer first (answers log) (answers_from pages (stock_after stock entry.ask first) (asks log)) is in
    let moved : Moves p stock entry.ask entry.answer = subst (λ (a : Answer). Moves p stock entry.ask a) (sym heads.0) (moves p pages stock entry.ask lt) in
    let next = stock_after stock entry.ask entry.answer in
    let rest = covers params zone pages log next (subst (λ n. p.submap < n) (sym moved.size) lt) (All-tail CpuPart entry log own)
    (heads.1 ∙ ap (λ (a : Answer). answers_from pages (stock_after stock entry.ask a) (asks log)) (sym heads.0)) in
    let one : cursor stock p.submap + p.pages * (if entry.zone == zone then length (cons_option (page_of entry.answer) []) else 0) ≤ cursor next p.submap =
    elim (entry.zone == zone) as (λ t. (entry.zone == zone) ≡ t → cursor stock p.submap + p.pages * (if t then length (cons_option (page_of entry.answer) []) else 0) ≤ cursor next p.submap) [
      | true ↦ λ e. let here : entry.zone ≡ zone = grind arith in moved.mine (subst (λ zone. IsForZone (params zone) entry.ask) here (All-head CpuPart entry log own))
      | false ↦ λ e. let low = moved.any in omega arith
    ] refl in
    added (cursor stock p.submap) (cursor next p.submap) _ p.pages (if entry.zone == zone then length (cons_option (page_of entry.answer) []) else 0) (length (bases zone log)) (length (bases zone (entry ∷ log))) (chunks_first zone entry log) one rest
  where
    added : (a c d q m n k : ℕ) → k ≡ m + n → a + q * m ≤ c → c + q * n ≤ d → a + q * k ≤ d
    added a c d q m n k is one rest = let product : q * k ≡ q * m + q * n = ap (λ k. q * k) is ∙ omega arith in omega arith

pub chunks_below : (params : ℕ → ZoneParams) (zone pages : ℕ) (log : List SupplyEntry) (stock : Stock) → (params zone).submap < length stock.cursors → All (λ entry. IsForZone (params entry.zone) entry.ask) log →
    map (λ entry. entry.answer) log ≡ answers_from pages stock (map (λ entry. entry.ask) log) →
    (params zone).pages * length (bases zone log) ≤ slice_index (fold (λ stock entry. stock_after stock entry.ask entry.answer) stock log).cursors (params zone).submap
chunks_below params zone pages log stock lt own is = let all = covers params zone pages log stock lt own is in omega arith

-- ---- how many chunks may still be granted

pub grants_and_chunks : (pages at size chunks : ℕ) → 0 < size → size * chunks ≤ at → at ≤ pages → (pages - at) / size + chunks ≤ pages / size
grants_and_chunks pages at size chunks some below within =
    let left = mul-div-le (pages - at) size in
    le-div ((pages - at) / size + chunks) pages size some (by_parts ((pages - at) / size) left)
  where
    by_parts : (q : ℕ) → size * q ≤ pages - at → (q + chunks) * size ≤ pages
    by_parts q left = let product : (q + chunks) * size ≡ size * q + size * chunks = omega arith in omega arith
