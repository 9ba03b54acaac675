-- The pages of all zones' chunks are those below the submaps' cursors.
use Rattle.std.proofs.Common.{◌≡◌, ◌<◌, ◌≤◌, ◌+◌, ◌*◌, ℕ, ◌==◌, nat_lt, Bool, true, false, if◌then◌else◌, List, [], ◌∷◌, length, map, slice_index, slice_set, sum, All, refl, ap, sym, ◌∙◌, subst, arith}
use Rattle.std.specs.List.{fold, cons_option}
use Rattle.std.proofs.lemmas.List.{length-set}
use Rattle.std.proofs.lemmas.List.Elements.{All-head, All-tail, All-set}
use Rattle.std.proofs.lemmas.List.Sums.{sum_by-set, sum_by-le}
use Rattle.kz_model.specs.declared.record.ZoneParams.{ZoneParams}
use Rattle.kz_model.specs.declared.supply.SupplyEntry.{SupplyEntry}
use Rattle.kz_model.specs.declared.supply.Ask.{Ask}
use Rattle.kz_model.specs.declared.supply.Ask.TheVariants.{Chunk, Frames, Back}
use Rattle.kz_model.specs.declared.supply.Answer.{Answer}
use Rattle.kz_model.specs.declared.supply.Answer.TheVariants.{Base, Given, NoSpace, NoFrames}
use Rattle.kz_laws.specs.Addresses.{IsForZone}
use Rattle.kz_model.specs.Run.Rooms.{sum_below}
use Rattle.kz_model.specs.Run.Journal.{page_of, bases}
use Rattle.kz_model.specs.Run.Supply.{Stock, pages_left, answer_of, stock_after, answers_from}
use Rattle.kz_model.proofs.Sums.{sum_below-zero, sum_below-set}
use Rattle.kz_machine.proofs.Cursors.{same_heads, asks, answers, chunks_first}

-- ---- one answer

-- A zone's grant lifts the sum of the cursors by the pages of its chunk, and other answers keep it.
record Lifts (p : ZoneParams) (stock : Stock) (ask : Ask) (answer : Answer) : Type 0 where
  size : length (stock_after stock ask answer).cursors ≡ length stock.cursors
  lifted : sum (stock_after stock ask answer).cursors ≡ sum stock.cursors + p.pages * length (cons_option (page_of answer) [])

-- an answer that grants no chunk
kept : (p : ZoneParams) (n : ℕ) → n ≡ n + p.pages * 0
kept p n = omega arith

granted : (p : ZoneParams) (stock : Stock) (s n : ℕ) → s < length stock.cursors → n ≡ p.pages → Lifts p stock (Chunk s n) (Base (slice_index stock.cursors s))
granted p stock s n lt is =
    let at = slice_index stock.cursors s in
    let set : sum (slice_set stock.cursors s (at + n)) + at ≡ sum stock.cursors + (at + n) = sum_by-set (λ x. x) stock.cursors s (at + n) 0 lt in
    record {
      size = length-set stock.cursors s (at + n);
      lifted = omega (arith, set, is);
    }

lifts : (p : ZoneParams) (pages : ℕ) (stock : Stock) (ask : Ask) → p.submap < length stock.cursors → IsForZone p ask → Lifts p stock ask (answer_of pages stock ask)
lifts p pages stock (Chunk s n) lt own =
    elim (nat_lt (pages_left pages stock s) n) as (λ t. Lifts p stock (Chunk s n) (if t then NoSpace (pages_left pages stock s) else if nat_lt stock.free n then NoFrames stock.free else Base (slice_index stock.cursors s))) [
      | true ↦ record { size = refl; lifted = kept p (sum stock.cursors) }
      | false ↦
          elim (nat_lt stock.free n) as (λ t. Lifts p stock (Chunk s n) (if t then NoFrames stock.free else Base (slice_index stock.cursors s))) [
            | true ↦ record { size = refl; lifted = kept p (sum stock.cursors) }
            | false ↦ granted p stock s n (subst (λ s. s < length stock.cursors) (sym own.0) lt) own.1
          ]
    ]
lifts p pages stock (Frames n) lt own =
    elim (nat_lt stock.free n) as (λ t. Lifts p stock (Frames n) (if t then NoFrames stock.free else Given)) [
      | true ↦ record { size = refl; lifted = kept p (sum stock.cursors) }
      | false ↦ record { size = refl; lifted = kept p (sum stock.cursors) }
    ]
lifts p pages stock (Back n) lt own = record { size = refl; lifted = kept p (sum stock.cursors) }

-- ---- a log

-- the pages of a zone's chunks
abbrev chunk_pages : (ℕ → ZoneParams) → List SupplyEntry → ℕ → ℕ
chunk_pages params log zone = (params zone).pages * length (bases zone log)

-- one more entry in front adds its chunk's pages, and these are its zone's
first_adds : (params : ℕ → ZoneParams) (n : ℕ) (entry : SupplyEntry) (log : List SupplyEntry) → entry.zone < n →
    sum_below (chunk_pages params (entry ∷ log)) n ≡ sum_below (chunk_pages params log) n + (params entry.zone).pages * length (cons_option (page_of entry.answer) [])
first_adds params n entry log lt =
    let before = chunk_pages params log in
    let now = chunk_pages params (entry ∷ log) in
    let mine : (entry.zone == entry.zone) ≡ true = grind arith in
    let here : now entry.zone ≡ before entry.zone + (params entry.zone).pages * length (cons_option (page_of entry.answer) []) =
    at_zone entry.zone true mine ∙ two_parts (params entry.zone).pages (length (cons_option (page_of entry.answer) [])) (length (bases entry.zone log)) in
    let set : sum_below now n + before entry.zone ≡ sum_below before n + now entry.zone =
    sum_below-set before now n entry.zone lt
    (λ zone below ne. let other : (entry.zone == zone) ≡ false = grind arith in at_zone zone false other ∙ no_part (params zone).pages (length (bases zone log))) in
    omega (arith, set, here)
  where
    at_zone : (zone : ℕ) (t : Bool) → (entry.zone == zone) ≡ t → chunk_pages params (entry ∷ log) zone ≡ (params zone).pages * ((if t then length (cons_option (page_of entry.answer) []) else 0) + length (bases zone log))
    at_zone zone t is = ap (λ k. (params zone).pages * k) (chunks_first zone entry log ∙ ap (λ t. (if t then length (cons_option (page_of entry.answer) []) else 0) + length (bases zone log)) is)

    two_parts : (q m n : ℕ) → q * (m + n) ≡ q * n + q * m
    two_parts q m n = omega arith

    no_part : (q n : ℕ) → q * (0 + n) ≡ q * n
    no_part q n = omega arith

pub pages_spread : (params : ℕ → ZoneParams) (n pages : ℕ) (log : List SupplyEntry) (stock : Stock) →
    ((zone : ℕ) → zone < n → (params zone).submap < length stock.cursors) →
    All (λ entry. entry.zone < n) log →
    All (λ entry. IsForZone (params entry.zone) entry.ask) log →
    map (λ entry. entry.answer) log ≡ answers_from pages stock (map (λ entry. entry.ask) log) →
    sum stock.cursors + sum_below (λ zone. (params zone).pages * length (bases zone log)) n ≡ sum (fold (λ stock entry. stock_after stock entry.ask entry.answer) stock log).cursors
pages_spread params n pages [] stock lt within own is = let none = sum_below-zero (chunk_pages params []) n (λ zone below. no_chunk (params zone).pages) in omega (arith, none)
  where
    no_chunk : (q : ℕ) → q * 0 ≡ 0
    no_chunk q = omega arith
pages_spread params n pages (entry ∷ log) stock lt within own is =
    let Within : SupplyEntry → Type 0 = λ entry. entry.zone < n in
    let CpuPart : SupplyEntry → Type 0 = λ entry. IsForZone (params entry.zone) entry.ask in
    let p = params entry.zone in
    let below = All-head Within entry log within in
    let first = answer_of pages stock entry.ask in
    let heads = same_heads entry.answer first (answers log) (answers_from pages (stock_after stock entry.ask first) (asks log)) is in
    let one : Lifts p stock entry.ask entry.answer = subst (λ (a : Answer). Lifts p stock entry.ask a) (sym heads.0) (lifts p pages stock entry.ask (lt entry.zone below) (All-head CpuPart entry log own)) in
    let next = stock_after stock entry.ask entry.answer in
    let rest = pages_spread params n pages log next
    (λ zone below. subst (λ n. (params zone).submap < n) (sym one.size) (lt zone below))
    (All-tail Within entry log within) (All-tail CpuPart entry log own)
    (heads.1 ∙ ap (λ (a : Answer). answers_from pages (stock_after stock entry.ask a) (asks log)) (sym heads.0)) in
    added (sum stock.cursors) (sum next.cursors) _ (sum_below (chunk_pages params log) n) (sum_below (chunk_pages params (entry ∷ log)) n) (p.pages * length (cons_option (page_of entry.answer) [])) one.lifted (first_adds params n entry log below) rest
  where
    added : (a c d m k q : ℕ) → c ≡ a + q → k ≡ m + q → c + m ≡ d → a + k ≡ d
    added a c d m k q lifted more rest = omega arith

-- ---- room

-- no cursor is past the pages, so the sum is no more than these for each submap
pub cursors_below : (cursors : List ℕ) (pages : ℕ) → All (λ cursor. cursor ≤ pages) cursors → sum cursors ≤ length cursors * pages
cursors_below cursors pages are = sum_by-le (λ x. x) pages cursors are

-- and with room in one submap, there is room in the sum
pub cursors_room : (cursors : List ℕ) (pages submap size : ℕ) → submap < length cursors → All (λ cursor. cursor ≤ pages) cursors → slice_index cursors submap + size ≤ pages → sum cursors + size ≤ length cursors * pages
cursors_room cursors pages submap size lt are room =
    let full = slice_set cursors submap pages in
    let set : sum full + slice_index cursors submap ≡ sum cursors + pages = sum_by-set (λ x. x) cursors submap pages 0 lt in
    let most : sum full ≤ length cursors * pages =
    subst (λ n. sum full ≤ n * pages) (length-set cursors submap pages) (cursors_below full pages (All-set (λ cursor. cursor ≤ pages) cursors submap pages (omega arith) are)) in
    parts (sum cursors) (sum full) (slice_index cursors submap) (length cursors * pages) set most room
  where
    parts : (now full at all : ℕ) → full + at ≡ now + pages → full ≤ all → at + size ≤ pages → now + size ≤ all
    parts now full at all set most room = omega arith
