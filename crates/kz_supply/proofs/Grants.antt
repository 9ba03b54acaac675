-- Frames that were made are enough for a zone's asks.
use Rattle.std.proofs.Common.{◌≡◌, ◌+◌, ◌*◌, ◌<◌, ◌≤◌, ℕ, true, false, ◌||◌, ◌&&◌, nat_lt, nat_le, List, [], ◌∷◌, ◌++◌, length, length-append, take, drop, refl, sym, subst, ◌∙◌, ap, ap₂, arith}
use Rattle.std.specs.Bool.{IsTrue}
use Rattle.std.specs.List.{fold}
use Rattle.std.proofs.Math.Seq.{take-length, drop-length}
use Rattle.std.proofs.lemmas.Bool.Decides.{nat_tests}
use Rattle.std.proofs.lemmas.List.{take-append-drop, take-append-le, drop-append-le}
use Rattle.std.proofs.lemmas.List.Sums.{fold-append}
use Rattle.kz_model.specs.declared.record.ZoneParams.{ZoneParams}
use Rattle.kz_model.specs.declared.supply.Ask.{Ask}
use Rattle.kz_model.specs.declared.supply.Ask.TheVariants.{Chunk, Frames, Back}
use Rattle.kz_model.specs.declared.supply.Answer.{Answer}
use Rattle.kz_model.specs.declared.supply.Answer.TheVariants.{Base, Given, NoSpace, NoFrames, Taken}
use Rattle.kz_model.specs.declared.supply.SupplyEntry.{SupplyEntry}
use Rattle.kz_model.specs.Run.Supply.{pages_granted, granted_in}
use Rattle.kz_model.proofs.Grants.{granted_in-append}
use Rattle.kz_model.specs.Run.Supply.{Stock, opening_stock, stock_after, pages_left}
use Rattle.kz_supply.specs.Supply.{Supply, room_left, stock_with, stock_of, frames_out, with_entry}
use Rattle.kz_supply.specs.Thin.{ThinSupply, HasMade, has_made, thin_with_entry}
use Rattle.kz_supply.specs.Solo.{supply_at, entries_since}
use Rattle.kz_supply.specs.ThinSolo.{thin_at, may_grant, can_give, can_place}
use Rattle.kz_supply.proofs.Logs.{stock_of-with_entry}

-- ---- no more frames go out than are granted

free_granted : (stock : Stock) (ask : Ask) (answer : Answer) → stock.free ≤ (stock_after stock ask answer).free + pages_granted ask answer
free_granted stock (Chunk submap pages) (Base page) = omega arith
free_granted stock (Chunk submap pages) Given = omega arith
free_granted stock (Chunk submap pages) (NoSpace left) = omega arith
free_granted stock (Chunk submap pages) (NoFrames free) = omega arith
free_granted stock (Chunk submap pages) Taken = omega arith
free_granted stock (Frames pages) (Base page) = omega arith
free_granted stock (Frames pages) Given = omega arith
free_granted stock (Frames pages) (NoSpace left) = omega arith
free_granted stock (Frames pages) (NoFrames free) = omega arith
free_granted stock (Frames pages) Taken = omega arith
free_granted stock (Back pages) (Base page) = omega arith
free_granted stock (Back pages) Given = omega arith
free_granted stock (Back pages) (NoSpace left) = omega arith
free_granted stock (Back pages) (NoFrames free) = omega arith
free_granted stock (Back pages) Taken = omega arith

free_along : (stock : Stock) (log : List SupplyEntry) → stock.free ≤ (fold stock_with stock log).free + granted_in log
free_along stock [] = omega arith
free_along stock (e ∷ es) = omega (arith, free_granted stock e.ask e.answer, free_along (stock_after stock e.ask e.answer) es)

-- since the log had so many entries
out_since : (entries : ℕ) (s : Supply) → frames_out s ≤ frames_out (supply_at entries s) + granted_in (entries_since entries s)
out_since entries s =
    let first = fold stock_with (opening_stock s.frames) (take entries s.log) in
    let parts : (stock_of s).free ≡ (fold stock_with first (drop entries s.log)).free =
    ap (λ (log : List SupplyEntry). (fold stock_with (opening_stock s.frames) log).free) (sym (take-append-drop entries s.log)) ∙ ap (λ (l : Stock). l.free) (fold-append stock_with (opening_stock s.frames) (take entries s.log) (drop entries s.log)) in
    omega (arith, parts, free_along first (drop entries s.log))

-- ---- what the tests tell

has_made_tells : (count : ℕ) (s : ThinSupply) → has_made count s ≡ true → HasMade count s
has_made_tells count s is less few = grind (arith, nat_tests)

has_made_fewer : (more count : ℕ) (s : ThinSupply) → count ≤ more → has_made more s ≡ true → has_made count s ≡ true
has_made_fewer more count s le is = grind (arith, nat_tests)

granted : (pages entries : ℕ) (s : ThinSupply) → may_grant pages entries s ≡ true → HasMade pages s
granted pages entries s is less few =
    omega (arith, has_made_tells (granted_in (entries_since entries s.counted) + pages) (thin_at entries s) is less few, out_since entries s.counted)

pub frames_made : (entries : ℕ) (p : ZoneParams) (s : ThinSupply) → IsTrue (can_give entries p s) → HasMade p.pages s
frames_made entries p s can = granted p.pages entries s (grind (arith, can))

pub chunk_made : (entries : ℕ) (p : ZoneParams) (s : ThinSupply) → IsTrue (can_place entries p s) → p.pages ≤ pages_left s.counted.pages (stock_of s.counted) p.submap → HasMade p.pages s
chunk_made entries p s can enough = granted p.pages entries s (grind (arith, nat_tests, can, enough))

-- where frames can be given a chunk can be placed
pub give_place : (entries : ℕ) (p : ZoneParams) (s : ThinSupply) → IsTrue (can_give entries p s) → IsTrue (can_place entries p s)
give_place entries p s can =
    elim (nat_lt (pages_left s.counted.pages (stock_of s.counted) p.submap) p.pages) as (λ t. IsTrue (nat_lt 0 (room_left s.counted) && (t || may_grant p.pages entries s))) [ true ↦ grind (arith, can) | false ↦ can ]

-- ---- a use of the supply

-- one entry more leaves no more frames that may go out in the use
pub fewer_after : (pages entries : ℕ) (entry : SupplyEntry) (s : ThinSupply) → entries ≤ length s.counted.log → may_grant pages entries (thin_with_entry entry s) ≡ true → may_grant pages entries s ≡ true
fewer_after pages entries entry s begun is =
    let since : entries_since entries (with_entry entry s.counted) ≡ entries_since entries s.counted ++ entry ∷ [] = drop-append-le entries s.counted.log (entry ∷ []) begun in
    let at : thin_at entries (thin_with_entry entry s) ≡ thin_at entries s = ap (λ (log : List SupplyEntry). record s { counted = record s.counted { log = log } }) (take-append-le entries s.counted.log (entry ∷ []) begun) in
    let more : granted_in (entries_since entries (with_entry entry s.counted)) ≡ granted_in (entries_since entries s.counted) + granted_in (entry ∷ []) = ap granted_in since ∙ granted_in-append (entries_since entries s.counted) (entry ∷ []) in
    has_made_fewer (granted_in (entries_since entries (with_entry entry s.counted)) + pages) (granted_in (entries_since entries s.counted) + pages) (thin_at entries s) (omega (arith, more))
    (subst (λ (q : ThinSupply). has_made (granted_in (entries_since entries (with_entry entry s.counted)) + pages) q ≡ true) at is)

pub frames_before : (entries : ℕ) (p : ZoneParams) (entry : SupplyEntry) (s : ThinSupply) → entries ≤ length s.counted.log → IsTrue (can_give entries p (thin_with_entry entry s)) → IsTrue (can_give entries p s)
frames_before entries p entry s begun can =
    let log : length (s.counted.log ++ entry ∷ []) ≡ length s.counted.log + 1 = length-append s.counted.log (entry ∷ []) in
    let before = fewer_after p.pages entries entry s begun (grind (arith, can)) in
    grind (arith, nat_tests, log, can, before)

-- what comes back leaves no more asks for a chunk that can be answered
pub chunks_before : (entries : ℕ) (p : ZoneParams) (zone pages : ℕ) (s : ThinSupply) → entries ≤ length s.counted.log → (let entry : SupplyEntry = record { zone = zone; ask = Back pages; answer = Taken } in IsTrue (can_place entries p (thin_with_entry entry s)) → IsTrue (can_place entries p s))
chunks_before entries p zone pages s begun can =
    let entry : SupplyEntry = record { zone = zone; ask = Back pages; answer = Taken } in
    let log : length (s.counted.log ++ entry ∷ []) ≡ length s.counted.log + 1 = length-append s.counted.log (entry ∷ []) in
    let left : pages_left s.counted.pages (stock_of (with_entry entry s.counted)) p.submap ≡ pages_left s.counted.pages (stock_of s.counted) p.submap = ap (λ (l : Stock). pages_left s.counted.pages l p.submap) (stock_of-with_entry entry s.counted) in
    let before : may_grant p.pages entries (thin_with_entry entry s) ≡ true → may_grant p.pages entries s ≡ true = fewer_after p.pages entries entry s begun in
    grind (arith, nat_tests, log, left, can, before)

-- ---- the beginning of a use

has_made_told : (count : ℕ) (s : ThinSupply) → HasMade count s → has_made count s ≡ true
has_made_told count s has =
    elim (nat_le s.counted.frames s.made) as (λ t. nat_le s.counted.frames s.made ≡ t → (t || nat_le (8 * s.counted.room) s.made || nat_le (frames_out s.counted + count) s.made) ≡ true) [
      | true ↦ λ is. refl
      | false ↦ λ less.
          elim (nat_le (8 * s.counted.room) s.made) as (λ t. nat_le (8 * s.counted.room) s.made ≡ t → (t || nat_le (frames_out s.counted + count) s.made) ≡ true) [
            | true ↦ λ is. refl
            | false ↦ λ few. let enough = has (grind (arith, nat_tests)) (grind (arith, nat_tests)) in grind (arith, nat_tests)
          ] refl
    ] refl

grants_begin : (pages : ℕ) (s : ThinSupply) → HasMade pages s → may_grant pages (length s.counted.log) s ≡ true
grants_begin pages s has =
    let none : granted_in (entries_since (length s.counted.log) s.counted) + pages ≡ pages = omega (arith, ap granted_in (drop-length s.counted.log)) in
    let at : thin_at (length s.counted.log) s ≡ s = ap (λ (log : List SupplyEntry). record s { counted = record s.counted { log = log } }) (take-length s.counted.log) in
    ap₂ has_made none at ∙ has_made_told pages s has

pub frames_begin : (p : ZoneParams) (s : ThinSupply) → length s.counted.log < s.counted.room → HasMade p.pages s → IsTrue (can_give (length s.counted.log) p s)
frames_begin p s room has = let may = grants_begin p.pages s has in grind (arith, nat_tests, may)

pub chunks_begin : (p : ZoneParams) (s : ThinSupply) → length s.counted.log < s.counted.room → (p.pages ≤ pages_left s.counted.pages (stock_of s.counted) p.submap → HasMade p.pages s) → IsTrue (can_place (length s.counted.log) p s)
chunks_begin p s room has =
    elim (nat_lt (pages_left s.counted.pages (stock_of s.counted) p.submap) p.pages) as (λ t. nat_lt (pages_left s.counted.pages (stock_of s.counted) p.submap) p.pages ≡ t → (nat_lt 0 (room_left s.counted) && (t || may_grant p.pages (length s.counted.log) s)) ≡ true) [
      | true ↦ λ is. grind (arith, nat_tests)
      | false ↦ λ enough. let may = grants_begin p.pages s (has (grind (arith, nat_tests))) in grind (arith, nat_tests, may)
    ] refl
