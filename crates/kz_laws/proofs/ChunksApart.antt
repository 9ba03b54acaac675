-- An address is of one chunk of one zone.
use Rattle.std.proofs.Common.{◌≡◌, ℕ, zero, suc, ◌+◌, ◌*◌, ◌^◌, ◌<◌, ◌≤◌, ◌==◌, ◌&&◌, Bool, true, false, nat_lt, if◌then◌else◌, List, [], ◌∷◌, length, map, slice_index, refl, ap, sym, ◌∙◌, subst, arith}
use Rattle.std.specs.List.{All, filter_map}
use Rattle.std.proofs.lemmas.List.Elements.{All-head, All-tail}
use Rattle.std.proofs.lemmas.Nat.{row_fits}
use Rattle.std.proofs.lemmas.Bool.{eqb-true}
use Rattle.kz_model.specs.declared.step.Block.{Block}
use Rattle.kz_model.specs.declared.record.ZoneParams.{ZoneParams}
use Rattle.kz_model.specs.declared.supply.SupplyEntry.{SupplyEntry}
use Rattle.kz_model.specs.declared.supply.Ask.{Ask}
use Rattle.kz_model.specs.declared.supply.Ask.TheVariants.{Chunk, Frames, Back}
use Rattle.kz_model.specs.declared.supply.Answer.{Answer}
use Rattle.kz_model.specs.declared.supply.Answer.TheVariants.{Base, Given, NoSpace, NoFrames, Taken}
use Rattle.kz_model.specs.Zone.Rules.{fits, all_answered}
use Rattle.kz_model.specs.Run.Supply.{opening_stock}
use Rattle.kz_laws.specs.Ranges.{Range, with_range, ranges, AreOfSubmaps, IsOfSubmap, Beyond, AreApart}
use Rattle.kz_laws.specs.Addresses.{IsFit, IsForZone, IsLog, IsAddress, entry_at}
use Rattle.kz_model.specs.Run.Journal.{log_at, answers_at}
use Rattle.kz_model.specs.Run.Journal.{page_of, bases}
use Rattle.kz_model.proofs.Answered.{answered-supply}
use Rattle.kz_laws.proofs.Sequestered.{sequestered}

abbrev asks_of_log : List SupplyEntry → List Ask
asks_of_log log = map (λ entry. entry.ask) log

abbrev answers_of_log : List SupplyEntry → List Answer
answers_of_log log = map (λ entry. entry.answer) log

-- the ranges of a log's Base entries
abbrev ranges_of_log : List SupplyEntry → List Range
ranges_of_log log = ranges (asks_of_log log) (answers_of_log log)

-- ---- one entry in front

beyond_rest : (submap from : ℕ) (ask : Ask) (answer : Answer) (rs : List Range) → Beyond submap from (with_range ask answer rs) → Beyond submap from rs
beyond_rest submap from (Chunk s n) (Base page) rs h = h.1
beyond_rest submap from ask answer rs h = h

apart_rest : (pages : ℕ) (ask : Ask) (answer : Answer) (rs : List Range) → AreApart pages (with_range ask answer rs) → AreApart pages rs
apart_rest pages (Chunk s n) (Base page) rs h = h.2
apart_rest pages ask answer rs h = h

range_first : (s n page : ℕ) (ask : Ask) (answer : Answer) (rs : List Range) → ask ≡ Chunk s n → answer ≡ Base page → with_range ask answer rs ≡ record { submap = s; page = page; pages = n } ∷ rs
range_first s n page ask answer rs asked is = ap (λ ask. with_range ask answer rs) asked ∙ ap (λ answer. with_range (Chunk s n) answer rs) is

-- ---- by places in the log

beyond_at : (s n page from : ℕ) (log : List SupplyEntry) (j : ℕ) → Beyond s from (ranges_of_log log) → (entry_at log j).ask ≡ Chunk s n → (entry_at log j).answer ≡ Base page → from ≤ page
beyond_at s n page from [] j h asked is = absurd (cc)
beyond_at s n page from (e ∷ log) zero h asked is = (subst (Beyond s from) (range_first s n page e.ask e.answer (ranges_of_log log) asked is) h).0 refl
beyond_at s n page from (e ∷ log) (suc j) h asked is = beyond_at s n page from log j (beyond_rest s from e.ask e.answer (ranges_of_log log) h) asked is

within_at : (pages s n page : ℕ) (log : List SupplyEntry) (i : ℕ) → AreApart pages (ranges_of_log log) → (entry_at log i).ask ≡ Chunk s n → (entry_at log i).answer ≡ Base page → page + n ≤ pages
within_at pages s n page [] i h asked is = absurd (cc)
within_at pages s n page (e ∷ log) zero h asked is = (subst (AreApart pages) (range_first s n page e.ask e.answer (ranges_of_log log) asked is) h).0
within_at pages s n page (e ∷ log) (suc i) h asked is = within_at pages s n page log i (apart_rest pages e.ask e.answer (ranges_of_log log) h) asked is

-- of two ranges in one submap the later one begins after the earlier one
apart_at : (pages s n page m other : ℕ) (log : List SupplyEntry) (i j : ℕ) → i < j → AreApart pages (ranges_of_log log) →
    (entry_at log i).ask ≡ Chunk s n → (entry_at log i).answer ≡ Base page → (entry_at log j).ask ≡ Chunk s m → (entry_at log j).answer ≡ Base other → page + n ≤ other
apart_at pages s n page m other [] i j lt h asked is asked' is' = absurd (cc)
apart_at pages s n page m other (e ∷ log) i zero lt h asked is asked' is' = absurd (omega arith)
apart_at pages s n page m other (e ∷ log) zero (suc j) lt h asked is asked' is' =
    beyond_at s m other (page + n) log j (subst (AreApart pages) (range_first s n page e.ask e.answer (ranges_of_log log) asked is) h).1 asked' is'
apart_at pages s n page m other (e ∷ log) (suc i) (suc j) lt h asked is asked' is' =
    apart_at pages s n page m other log i j (omega arith) (apart_rest pages e.ask e.answer (ranges_of_log log) h) asked is asked' is'

-- ---- a Base entry is a zone's

both_are : (a b : Bool) → (a && b) ≡ true → (a ≡ true) × (b ≡ true)
both_are true b h = (refl, h)
both_are false b h = absurd (cc)

is_chunk : (p : ZoneParams) (page : ℕ) (ask : Ask) → IsForZone p ask → fits ask (Base page) ≡ true → ask ≡ Chunk p.submap p.pages
is_chunk p page (Chunk s n) own fit = ap (λ s. Chunk s n) own.0 ∙ ap (λ n. Chunk p.submap n) own.1
is_chunk p page (Frames n) own fit = absurd (cc)
is_chunk p page (Back n) own fit = absurd (cc)

-- a Base entry's ask is for its zone's chunk, and its zone is fit
chunk_at_entry : (params : ℕ → ZoneParams) (page : ℕ) (log : List SupplyEntry) (i : ℕ) → All (λ entry. IsFit (params entry.zone)) log → All (λ entry. IsForZone (params entry.zone) entry.ask) log →
    all_answered (asks_of_log log) (answers_of_log log) ≡ true → (entry_at log i).answer ≡ Base page →
    ((entry_at log i).ask ≡ Chunk (params (entry_at log i).zone).submap (params (entry_at log i).zone).pages) × IsFit (params (entry_at log i).zone)
chunk_at_entry params page [] i fit own answered is = absurd (cc)
chunk_at_entry params page (e ∷ log) zero fit own answered is = (
  is_chunk (params e.zone) page e.ask (All-head (λ (entry : SupplyEntry). IsForZone (params entry.zone) entry.ask) e log own)
      (subst (λ answer. fits e.ask answer ≡ true) is (both_are (fits e.ask e.answer) (all_answered (asks_of_log log) (answers_of_log log)) answered).0),
  All-head (λ (entry : SupplyEntry). IsFit (params entry.zone)) e log fit,
)
chunk_at_entry params page (e ∷ log) (suc i) fit own answered is =
    chunk_at_entry params page log i (All-tail (λ (entry : SupplyEntry). IsFit (params entry.zone)) e log fit) (All-tail (λ (entry : SupplyEntry). IsForZone (params entry.zone) entry.ask) e log own)
    (both_are (fits e.ask e.answer) (all_answered (asks_of_log log) (answers_of_log log)) answered).1 is

of_submap : (p : ZoneParams) (ask : Ask) → IsFit p → IsForZone p ask → IsOfSubmap ask
of_submap p (Chunk s n) fit own = omega (arith, fit.submap, own.0)
of_submap p (Frames n) fit own = tt
of_submap p (Back n) fit own = tt

of_submaps : (params : ℕ → ZoneParams) (log : List SupplyEntry) → All (λ entry. IsFit (params entry.zone)) log → All (λ entry. IsForZone (params entry.zone) entry.ask) log → AreOfSubmaps (asks_of_log log)
of_submaps params [] fit own = tt
of_submaps params (e ∷ log) fit own = (
  of_submap (params e.zone) e.ask (All-head (λ (entry : SupplyEntry). IsFit (params entry.zone)) e log fit) (All-head (λ (entry : SupplyEntry). IsForZone (params entry.zone) entry.ask) e log own),
  of_submaps params log (All-tail (λ (entry : SupplyEntry). IsFit (params entry.zone)) e log fit) (All-tail (λ (entry : SupplyEntry). IsForZone (params entry.zone) entry.ask) e log own),
)

-- ---- addresses

-- an address of a block is in the pages of its chunk
in_chunk : (p : ZoneParams) (page : ℕ) (block : Block) (x : ℕ) → IsFit p → IsAddress p page block x →
    (2 ^ 40 * (p.submap + 1) + 4096 * page ≤ x) × (x < 2 ^ 40 * (p.submap + 1) + 4096 * page + 4096 * p.pages)
in_chunk p page block x fit is =
    let row : block.index * p.element + p.element ≤ p.count * p.element = row_fits block.index p.element p.count p.element is.element (omega arith) in
    (omega (arith, is.from), omega (arith, row, fit.elements, is.below))

-- pages of two submaps have no address in common
one_submap : (s t page other n m pages x : ℕ) → pages ≤ 4096 → page + n ≤ pages → other + m ≤ pages →
    2 ^ 40 * (s + 1) + 4096 * page ≤ x → x < 2 ^ 40 * (s + 1) + 4096 * page + 4096 * n →
    2 ^ 40 * (t + 1) + 4096 * other ≤ x → x < 2 ^ 40 * (t + 1) + 4096 * other + 4096 * m → s ≡ t
one_submap s t page other n m pages x few in-s in-t a b c d = omega arith

-- the earlier of two entries has no address of the later one
no_later : (frames pages : ℕ) (params : ℕ → ZoneParams) (log : List SupplyEntry) → pages ≤ 4096 → IsLog frames pages params log →
    (i j page other x : ℕ) (a b : Block) → i < j → (entry_at log i).answer ≡ Base page → (entry_at log j).answer ≡ Base other →
    IsAddress (params (entry_at log i).zone) page a x → IsAddress (params (entry_at log j).zone) other b x → ⊥
no_later frames pages params log few is i j page other x a b lt here there in-i in-j =
    let answered : all_answered (asks_of_log log) (answers_of_log log) ≡ true =
    ap (λ answers. all_answered (asks_of_log log) answers) is.answers ∙ answered-supply pages (opening_stock frames) (asks_of_log log) in
    let apart : AreApart pages (ranges_of_log log) =
    subst (λ answers. AreApart pages (ranges (asks_of_log log) answers)) (sym is.answers) (sequestered frames pages (asks_of_log log) (of_submaps params log is.fit is.own)) in
    let p = params (entry_at log i).zone in
    let q = params (entry_at log j).zone in
    let one = chunk_at_entry params page log i is.fit is.own answered here in
    let two = chunk_at_entry params other log j is.fit is.own answered there in
    let from = in_chunk p page a x one.1 in-i in
    let to = in_chunk q other b x two.1 in-j in
    let inside : page + p.pages ≤ pages = within_at pages p.submap p.pages page log i apart one.0 here in
    let within : other + q.pages ≤ pages = within_at pages q.submap q.pages other log j apart two.0 there in
    let same : p.submap ≡ q.submap = one_submap p.submap q.submap page other p.pages q.pages pages x few inside within from.0 from.1 to.0 to.1 in
    let after : page + p.pages ≤ other = apart_at pages p.submap p.pages page q.pages other log i j lt apart one.0 here (two.0 ∙ ap (λ s. Chunk s q.pages) (sym same)) there in
    disjoint p.submap q.submap page other p.pages x same after from.1 to.0
  where
    disjoint : (s t page other n x : ℕ) → s ≡ t → page + n ≤ other → x < 2 ^ 40 * (s + 1) + 4096 * page + 4096 * n → 2 ^ 40 * (t + 1) + 4096 * other ≤ x → ⊥
    disjoint s t page other n x same after a b = omega arith

pub one_entry : (frames pages : ℕ) (params : ℕ → ZoneParams) (log : List SupplyEntry) → pages ≤ 4096 → IsLog frames pages params log →
    (i j page other x : ℕ) (a b : Block) → (entry_at log i).answer ≡ Base page → (entry_at log j).answer ≡ Base other →
    IsAddress (params (entry_at log i).zone) page a x → IsAddress (params (entry_at log j).zone) other b x → i ≡ j
one_entry frames pages params log few is i j page other x a b here there in-i in-j =
    elim (nat_lt i j) as (λ t. nat_lt i j ≡ t → i ≡ j) [
      | true ↦ λ e. let lt : i < j = grind arith in absurd (no_later frames pages params log few is i j page other x a b lt here there in-i in-j)
      | false ↦ λ e.
          elim (nat_lt j i) as (λ t. nat_lt j i ≡ t → i ≡ j) [
            | true ↦ λ f. let lt : j < i = grind arith in absurd (no_later frames pages params log few is j i other page x b a lt there here in-j in-i)
            | false ↦ λ f. grind arith
          ] refl
    ] refl

-- ---- a zone's chunks

-- the pages of a zone's Bases with one more entry in front
abbrev bases_if : Bool → Answer → List ℕ → List ℕ
bases_if true (Base page) rest = page ∷ rest
bases_if mine answer rest = rest

pages_first : (answer : Answer) (answers : List Answer) → filter_map page_of (answer ∷ answers) ≡ bases_if true answer (filter_map page_of answers)
pages_first (Base page) answers = refl
pages_first Given answers = refl
pages_first (NoSpace left) answers = refl
pages_first (NoFrames free) answers = refl
pages_first Taken answers = refl

bases_first : (zone : ℕ) (e : SupplyEntry) (log : List SupplyEntry) → bases zone (e ∷ log) ≡ bases_if (e.zone == zone) e.answer (bases zone log)
bases_first zone e log =
    elim (e.zone == zone) as (λ mine. filter_map page_of (answers_of_log (if mine then e ∷ log_at zone log else log_at zone log)) ≡ bases_if mine e.answer (bases zone log)) [
      | true ↦ pages_first e.answer (answers_at zone log)
      | false ↦ refl
    ]

-- the place of a zone's k-th Base in the log
abbrev place_if : Bool → Answer → ℕ → (ℕ → ℕ) → ℕ
place_if true (Base page) zero more = 0
place_if true (Base page) (suc k) more = suc (more k)
place_if mine answer k more = suc (more k)

abbrev base_place : ℕ → List SupplyEntry → ℕ → ℕ
base_place zone [] k = 0
base_place zone (e ∷ log) k = place_if (e.zone == zone) e.answer k (base_place zone log)

-- at this place of the log there is a Base of this zone at this page
abbrev IsThere : ℕ → List SupplyEntry → ℕ → ℕ → Type 0
IsThere zone log place page = ((entry_at log place).zone ≡ zone) × ((entry_at log place).answer ≡ Base page)

there_first : (zone : ℕ) (e : SupplyEntry) (log : List SupplyEntry) (mine : Bool) (answer : Answer) (rest : List ℕ) (more : ℕ → ℕ) (k : ℕ) → (e.zone == zone) ≡ mine → e.answer ≡ answer →
    ((k : ℕ) → k < length rest → IsThere zone log (more k) (slice_index rest k)) → k < length (bases_if mine answer rest) →
    IsThere zone (e ∷ log) (place_if mine answer k more) (slice_index (bases_if mine answer rest) k)
there_first zone e log true (Base page) rest more zero same is again lt = (eqb-true e.zone zone same, is)
there_first zone e log true (Base page) rest more (suc k) same is again lt = again k (omega arith)
there_first zone e log mine answer rest more k same is again lt = again k lt

base_there : (zone : ℕ) (log : List SupplyEntry) (k : ℕ) → k < length (bases zone log) → IsThere zone log (base_place zone log k) (slice_index (bases zone log) k)
base_there zone [] k lt = absurd (omega arith)
base_there zone (e ∷ log) k lt =
    subst (λ pages. IsThere zone (e ∷ log) (base_place zone (e ∷ log) k) (slice_index pages k)) (sym (bases_first zone e log))
    (there_first zone e log (e.zone == zone) e.answer (bases zone log) (base_place zone log) k refl refl (λ k lt. base_there zone log k lt) (subst (λ pages. k < length pages) (bases_first zone e log) lt))

one_first : (mine : Bool) (answer : Answer) (rest : List ℕ) (more : ℕ → ℕ) (j k : ℕ) → ((j k : ℕ) → j < length rest → k < length rest → more j ≡ more k → j ≡ k) →
    j < length (bases_if mine answer rest) → k < length (bases_if mine answer rest) → place_if mine answer j more ≡ place_if mine answer k more → j ≡ k
one_first true (Base page) rest more zero zero again lt lt' same = refl
one_first true (Base page) rest more zero (suc k) again lt lt' same = absurd (omega arith)
one_first true (Base page) rest more (suc j) zero again lt lt' same = absurd (omega arith)
one_first true (Base page) rest more (suc j) (suc k) again lt lt' same = ap (λ n. suc n) (again j k (omega arith) (omega arith) (omega arith))
one_first mine answer rest more j k again lt lt' same = again j k lt lt' (omega arith)

-- two Bases of a zone have two places
one_place : (zone : ℕ) (log : List SupplyEntry) (j k : ℕ) → j < length (bases zone log) → k < length (bases zone log) → base_place zone log j ≡ base_place zone log k → j ≡ k
one_place zone [] j k lt lt' same = absurd (omega arith)
one_place zone (e ∷ log) j k lt lt' same =
    one_first (e.zone == zone) e.answer (bases zone log) (base_place zone log) j k (λ j k lt lt' same. one_place zone log j k lt lt' same)
    (subst (λ pages. j < length pages) (bases_first zone e log) lt) (subst (λ pages. k < length pages) (bases_first zone e log) lt') same

pub one_chunk : (frames pages : ℕ) (params : ℕ → ZoneParams) (log : List SupplyEntry) → pages ≤ 4096 → IsLog frames pages params log →
    (y z x : ℕ) (a b : Block) → a.chunk < length (bases y log) → b.chunk < length (bases z log) →
    IsAddress (params y) (slice_index (bases y log) a.chunk) a x → IsAddress (params z) (slice_index (bases z log) b.chunk) b x →
    (y ≡ z) × (a.chunk ≡ b.chunk)
one_chunk frames pages params log few is y z x a b in-y in-z at-a at-b =
    let i = base_place y log a.chunk in
    let j = base_place z log b.chunk in
    let page = slice_index (bases y log) a.chunk in
    let other = slice_index (bases z log) b.chunk in
    let here = base_there y log a.chunk in-y in
    let there = base_there z log b.chunk in-z in
    let one : i ≡ j =
    one_entry frames pages params log few is i j page other x a b here.1 there.1
    (subst (λ zone. IsAddress (params zone) page a x) (sym here.0) at-a) (subst (λ zone. IsAddress (params zone) other b x) (sym there.0) at-b) in
    let same : y ≡ z = sym here.0 ∙ ap (λ place. (entry_at log place).zone) one ∙ there.0 in (
      same,
      one_place y log a.chunk b.chunk in-y (subst (λ zone. b.chunk < length (bases zone log)) (sym same) in-z) (one ∙ ap (λ zone. base_place zone log b.chunk) (sym same)),
    )
