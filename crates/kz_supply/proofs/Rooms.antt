-- How many chunks a supply may still grant, and how many packs can come back.
use Rattle.std.proofs.Common.{◌≡◌, ◌+◌, ◌-◌, ◌*◌, ◌/◌, ◌<◌, ◌≤◌, ℕ, Bool, true, false, if◌then◌else◌, nat_lt, List, [], ◌∷◌, ◌++◌, length, Result, Ok, Err, is_ok, slice_index, refl, ◌∙◌, sym, ap, arith, add-zero, length-append}
use Rattle.std.specs.List.{fold}
use Rattle.std.proofs.Math.Nat.{div-eq-sub-div, le-div_iff_mul-le}
use Rattle.std.proofs.lemmas.Bool.{ltb-false}
use Rattle.std.proofs.lemmas.List.{length-set, length-replicate, get_or-set_same}
use Rattle.kz_model.specs.declared.supply.Ask.{Ask}
use Rattle.kz_model.specs.declared.supply.Ask.TheVariants.{Chunk, Frames, Back}
use Rattle.kz_model.specs.declared.supply.Answer.{Answer}
use Rattle.kz_model.specs.declared.supply.Answer.TheVariants.{Base, Given, NoSpace, NoFrames, Taken}
use Rattle.kz_model.specs.declared.supply.SupplyEntry.{SupplyEntry}
use Rattle.kz_model.specs.Run.Supply.{Stock, opening_stock, answer_of, stock_after, pages_left}
use Rattle.kz_supply.specs.declared.pages.Denied.{Denied}
use Rattle.kz_supply.specs.declared.pages.Denied.TheVariants as denied
use Rattle.kz_supply.specs.declared.pages.Grant.{Grant}
use Rattle.kz_supply.specs.Exchange.{chunk_answer, denial}
use Rattle.kz_supply.specs.Supply.{Supply, stock_with, stock_of, frames_out, backs_left, grants_left, with_entry}
use Rattle.kz_supply.proofs.Logs.{stock_of-with_entry, given_back}

-- ---- the submaps are five

cursors_after : (stock : Stock) (ask : Ask) (answer : Answer) → length (stock_after stock ask answer).cursors ≡ length stock.cursors
cursors_after stock (Chunk submap pages) (Base page) = length-set stock.cursors submap (page + pages)
cursors_after stock (Chunk submap pages) Given = refl
cursors_after stock (Chunk submap pages) (NoSpace left) = refl
cursors_after stock (Chunk submap pages) (NoFrames free) = refl
cursors_after stock (Chunk submap pages) Taken = refl
cursors_after stock (Frames pages) (Base page) = refl
cursors_after stock (Frames pages) Given = refl
cursors_after stock (Frames pages) (NoSpace left) = refl
cursors_after stock (Frames pages) (NoFrames free) = refl
cursors_after stock (Frames pages) Taken = refl
cursors_after stock (Back pages) (Base page) = refl
cursors_after stock (Back pages) Given = refl
cursors_after stock (Back pages) (NoSpace left) = refl
cursors_after stock (Back pages) (NoFrames free) = refl
cursors_after stock (Back pages) Taken = refl

cursors_along : (stock : Stock) (log : List SupplyEntry) → length (fold stock_with stock log).cursors ≡ length stock.cursors
cursors_along stock [] = refl
cursors_along stock (e ∷ es) = cursors_along (stock_after stock e.ask e.answer) es ∙ cursors_after stock e.ask e.answer

pub submaps : (s : Supply) → length (stock_of s).cursors ≡ 5
submaps s = cursors_along (opening_stock s.frames) s.log ∙ length-replicate {A = ℕ} 5 0

-- ---- grants

by_tests : (short few : Bool) (left free cursor page : ℕ) → Base page ≡ (if short then NoSpace left else if few then NoFrames free else Base cursor) → (short ≡ false) × (page ≡ cursor)
by_tests true few left free cursor page is = absurd (cc)
by_tests false true left free cursor page is = absurd (cc)
by_tests false false left free cursor page is = (refl, cc)

-- a chunk is granted at the cursor, and only where the submap has its pages
pub chunk_granted : (pages : ℕ) (stock : Stock) (submap p page : ℕ) → Base page ≡ answer_of pages stock (Chunk submap p) → (p ≤ pages_left pages stock submap) × (page ≡ slice_index stock.cursors submap)
chunk_granted pages stock submap p page is =
    let tests = by_tests (nat_lt (pages_left pages stock submap) p) (nat_lt stock.free p) (pages_left pages stock submap) stock.free (slice_index stock.cursors submap) page is in
    (ltb-false _ _ tests.0, tests.1)

refused_leaves : (stock : Stock) (submap pages : ℕ) (d : Denied) → stock_after stock (Chunk submap pages) (denial d) ≡ stock
refused_leaves stock submap pages (denied.NoSpace left) = refl
refused_leaves stock submap pages (denied.NoFrames free) = refl

-- a grant takes one from what may still be granted, and a refusal none
pub grants_after : (zone submap pages : ℕ) (s : Supply) (r : Result Grant Denied) → submap < 5 → 0 < pages → chunk_answer r ≡ answer_of s.pages (stock_of s) (Chunk submap pages) →
    grants_left submap pages s ≡ grants_left submap pages (with_entry (record { zone = zone; ask = Chunk submap pages; answer = chunk_answer r }) s) + (if is_ok r then 1 else 0)
grants_after zone submap pages s (Err d) known some is =
    let after = stock_of-with_entry (record { zone = zone; ask = Chunk submap pages; answer = denial d }) s ∙ refused_leaves (stock_of s) submap pages d in
    let same = ap (λ (l : Stock). pages_left s.pages l submap / pages) after in omega (arith, same)
grants_after zone submap pages s (Ok grant) known some is =
    let facts = chunk_granted s.pages (stock_of s) submap pages grant.page is in
    let enough = facts.0 in let page = facts.1 in
    let after = stock_of-with_entry (record { zone = zone; ask = Chunk submap pages; answer = Base grant.page }) s in
    let cursor = ap (λ (l : Stock). slice_index l.cursors submap) after ∙ get_or-set_same (stock_of s).cursors submap (grant.page + pages) 0 (omega (arith, submaps s)) in
    div-eq-sub-div some enough
    ∙ ap (λ n. n / pages + 1) (omega (arith, cursor, page))

-- ---- backs

-- a pack that comes back takes one from the packs that can
pub backs_after : (zone pages : ℕ) (s : Supply) → 0 < pages → 0 < backs_left pages s →
    backs_left pages s ≡ backs_left pages (with_entry (record { zone = zone; ask = Back pages; answer = Taken }) s) + 1
backs_after zone pages s some room =
    let entry : SupplyEntry = record { zone = zone; ask = Back pages; answer = Taken } in
    let after = ap (λ (l : Stock). l.free) (stock_of-with_entry entry s) in
    let out : 1 * pages ≤ frames_out s = (le-div_iff_mul-le some).0 (omega arith) in
    let fewer : frames_out s / pages ≡ (frames_out s - pages) / pages + 1 = div-eq-sub-div some (omega (arith, out)) in
    let left : frames_out (with_entry entry s) ≡ frames_out s - pages = omega (arith, after) in
    let quotient : frames_out (with_entry entry s) / pages ≡ (frames_out s - pages) / pages = ap (λ n. n / pages) left in
    let log : length (s.log ++ entry ∷ []) ≡ length s.log + 1 = length-append s.log (entry ∷ []) in
    omega (arith, fewer, quotient, log, room)

-- ---- frames that are out

-- how many frames an answer hands out
abbrev pub handed_out : Ask → Answer → ℕ
handed_out (Chunk submap pages) (Base page) = pages
handed_out (Frames pages) Given = pages
handed_out ask answer = 0

chunk_moves : (stock : Stock) (submap pages left cursor : ℕ) (short few : Bool) → nat_lt stock.free pages ≡ few →
    (let answer : Answer = if short then NoSpace left else if few then NoFrames stock.free else Base cursor in
    (stock_after stock (Chunk submap pages) answer).free + handed_out (Chunk submap pages) answer ≡ stock.free)
chunk_moves stock submap pages left cursor true few test = omega arith
chunk_moves stock submap pages left cursor false true test = omega arith
chunk_moves stock submap pages left cursor false false test = omega (arith, ltb-false stock.free pages test)

frames_move : (stock : Stock) (pages : ℕ) (few : Bool) → nat_lt stock.free pages ≡ few →
    (let answer : Answer = if few then NoFrames stock.free else Given in
    (stock_after stock (Frames pages) answer).free + handed_out (Frames pages) answer ≡ stock.free)
frames_move stock pages true test = omega arith
frames_move stock pages false test = omega (arith, ltb-false stock.free pages test)

-- frames are free or handed out, or they come back
free_moves : (pages : ℕ) (stock : Stock) (ask : Ask) → (stock_after stock ask (answer_of pages stock ask)).free + handed_out ask (answer_of pages stock ask) ≡ stock.free + given_back ask
free_moves pages stock (Chunk submap p) = chunk_moves stock submap p (pages_left pages stock submap) (slice_index stock.cursors submap) _ _ refl ∙ sym (add-zero stock.free)
free_moves pages stock (Frames p) = frames_move stock p _ refl ∙ sym (add-zero stock.free)
free_moves pages stock (Back p) = add-zero (stock.free + p)

-- how many frames are out after one more entry
pub frames_out-with_entry : (entry : SupplyEntry) (s : Supply) → (stock_of s).free ≤ s.frames → entry.answer ≡ answer_of s.pages (stock_of s) entry.ask → given_back entry.ask ≤ frames_out s →
    frames_out (with_entry entry s) + given_back entry.ask ≡ frames_out s + handed_out entry.ask entry.answer
frames_out-with_entry entry s most right out =
    let after : (stock_of (with_entry entry s)).free ≡ (stock_after (stock_of s) entry.ask (answer_of s.pages (stock_of s) entry.ask)).free =
    ap (λ (l : Stock). l.free) (stock_of-with_entry entry s) ∙ ap (λ a. (stock_after (stock_of s) entry.ask a).free) right in
    let handed : handed_out entry.ask entry.answer ≡ handed_out entry.ask (answer_of s.pages (stock_of s) entry.ask) = ap (handed_out entry.ask) right in
    omega (arith, free_moves s.pages (stock_of s) entry.ask)
