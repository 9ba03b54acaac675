-- What a grant tells of the supply.
use Rattle.std.proofs.Common.{◌≡◌, ℕ, ◌+◌, ◌<◌, ◌≤◌, nat_lt, Bool, true, false, if◌then◌else◌, List, length, Result, Ok, Err, IfOk, IfErr, slice_index, refl, arith}
use Rattle.std.proofs.lemmas.Bool.{ltb-false}
use Rattle.kz_model.specs.declared.supply.Ask.TheVariants.{Chunk, Frames}
use Rattle.kz_model.specs.declared.supply.Answer.TheVariants.{Base, Given, NoSpace, NoFrames}
use Rattle.kz_model.specs.Run.Journal.{log_at}
use Rattle.kz_model.specs.Run.Supply.{Stock, answer_of, pages_left}
use Rattle.kz_model.proofs.Sums.{sum_below-one}
use Rattle.kz_supply.specs.declared.pages.Denied.{Denied}
use Rattle.kz_supply.specs.declared.pages.Denied.TheVariants as denied
use Rattle.kz_supply.specs.declared.pages.Grant.{Grant}
use Rattle.kz_supply.specs.Exchange.{chunk_answer, frames_answer}
use Rattle.kz_supply.specs.Supply.{stock_of}
use Rattle.kz_supply.specs.Thin.{ThinSupply}
use Rattle.kz_supply.proofs.Rooms.{chunk_granted}
use Rattle.kz_locked.specs.declared.supply.Share.{Share}
use Rattle.kz_locked.specs.Shares.{IsShared, frames_held}

-- ---- so many frames were free

chunk_tests : (short few : Bool) (left free cursor page : ℕ) → Base page ≡ (if short then NoSpace left else if few then NoFrames free else Base cursor) → few ≡ false
chunk_tests true few left free cursor page is = absurd (cc)
chunk_tests false true left free cursor page is = absurd (cc)
chunk_tests false false left free cursor page is = refl

free_for_chunk : (pages : ℕ) (stock : Stock) (submap p page : ℕ) → Base page ≡ answer_of pages stock (Chunk submap p) → p ≤ stock.free
free_for_chunk pages stock submap p page is =
    ltb-false stock.free p (chunk_tests (nat_lt (pages_left pages stock submap) p) (nat_lt stock.free p) (pages_left pages stock submap) stock.free (slice_index stock.cursors submap) page is)

frames_tests : (few : Bool) (free : ℕ) → Given ≡ (if few then NoFrames free else Given) → few ≡ false
frames_tests true free is = absurd (cc)
frames_tests false free is = refl

free_for_frames : (pages : ℕ) (stock : Stock) (p : ℕ) → Given ≡ answer_of pages stock (Frames p) → p ≤ stock.free
free_for_frames pages stock p is = ltb-false stock.free p (frames_tests (nat_lt stock.free p) stock.free is)

-- what a zone has out is not free
within_supply : (shares : List Share) (s : ThinSupply) (zone pages : ℕ) → IsShared shares s → zone < length shares → pages ≤ (stock_of s.counted).free → frames_held (log_at zone s.counted.log) + pages ≤ s.counted.frames
within_supply shares s zone pages is there free =
    omega (arith, is.out, is.free, free, sum_below-one (λ z. frames_held (log_at z s.counted.log)) (length shares) zone there)

-- ---- the answers

pub chunk_fits : (shares : List Share) (s : ThinSupply) (zone submap pages : ℕ) (granted : Result Grant Denied) → IsShared shares s → zone < length shares → chunk_answer granted ≡ answer_of s.counted.pages (stock_of s.counted) (Chunk submap pages) →
    IfOk granted (λ grant. frames_held (log_at zone s.counted.log) + pages ≤ s.counted.frames)
chunk_fits shares s zone submap pages (Ok grant) is there right = within_supply shares s zone pages is there (free_for_chunk s.counted.pages (stock_of s.counted) submap pages grant.page right)
chunk_fits shares s zone submap pages (Err refused) is there right = tt

pub chunk_below : (most : ℕ) (stock : Stock) (submap pages : ℕ) (granted : Result Grant Denied) → 1 ≤ pages → chunk_answer granted ≡ answer_of most stock (Chunk submap pages) → IfOk granted (λ grant. grant.page + pages ≤ most)
chunk_below most stock submap pages (Ok grant) some right =
    let facts = chunk_granted most stock submap pages grant.page right in let enough = facts.0 in let page = facts.1 in omega (arith, enough, page, some)
chunk_below most stock submap pages (Err refused) some right = tt

pub frames_fit : (shares : List Share) (s : ThinSupply) (zone pages : ℕ) (given : Result (List (List ℕ)) Denied) → IsShared shares s → zone < length shares → frames_answer given ≡ answer_of s.counted.pages (stock_of s.counted) (Frames pages) →
    IfOk given (λ frames. frames_held (log_at zone s.counted.log) + pages ≤ s.counted.frames)
frames_fit shares s zone pages (Ok frames) is there right = within_supply shares s zone pages is there (free_for_frames s.counted.pages (stock_of s.counted) pages right)
frames_fit shares s zone pages (Err refused) is there right = tt

-- a refusal of frames is for want of frames
no_space : (few : Bool) (free left : ℕ) → NoSpace left ≡ (if few then NoFrames free else Given) → (n : ℕ) × (denied.NoSpace left ≡ denied.NoFrames n)
no_space true free left is = absurd (cc)
no_space false free left is = absurd (cc)

pub frames_refused : (most : ℕ) (stock : Stock) (pages : ℕ) (given : Result (List (List ℕ)) Denied) → frames_answer given ≡ answer_of most stock (Frames pages) → IfErr given (λ refused. (free : ℕ) × (refused ≡ denied.NoFrames free))
frames_refused most stock pages (Ok frames) right = tt
frames_refused most stock pages (Err (denied.NoSpace left)) right = no_space (nat_lt stock.free pages) stock.free left right
frames_refused most stock pages (Err (denied.NoFrames free)) right = (free, refl)
