-- What a step changes of a zone's amounts: mapped chunks, entries of the log, gifts.
use Rattle.std.proofs.Common.{◌≡◌, ◌<◌, ◌≤◌, ℕ, zero, suc, ◌+◌, ◌*◌, ◌==◌, ◌&&◌, Bool, true, false, not, nat_lt, nat_le, if◌then◌else◌, List, [], ◌∷◌, ◌++◌, length, take, drop, map, max, replicate, slice_set, Option, None, Some, refl, ap, sym, ◌∙◌, arith, length-append, mul-add, mul-suc}
use Rattle.std.specs.List.{filter, filter_map, flat_map, position_or_len, remove}
use Rattle.std.specs.Option.{option_map_or, is_some}
use Rattle.std.proofs.lemmas.List.{length-map, length-set, length-replicate, length-take, length-drop}
use Rattle.std.proofs.lemmas.List.Quantifiers.{position-Some}
use Rattle.std.proofs.lemmas.List.Sums.{length-filter}
use Rattle.kz_model.specs.declared.step.Block.{Block}
use Rattle.kz_model.specs.declared.step.Step.{Step}
use Rattle.kz_model.specs.declared.step.Step.TheVariants.{Alloc, AllocZero, Free, Give, Take, Read, Write, Flush, Trim}
use Rattle.kz_model.specs.declared.step.Reply.{Reply}
use Rattle.kz_model.specs.declared.record.ZoneParams.{ZoneParams}
use Rattle.kz_model.specs.declared.supply.Ask.{Ask}
use Rattle.kz_model.specs.declared.supply.Ask.TheVariants.{Chunk as AskChunk, Frames, Back}
use Rattle.kz_model.specs.declared.supply.Answer.{Answer}
use Rattle.kz_model.specs.declared.supply.Answer.TheVariants.{Base, Given, NoSpace, NoFrames, Taken}
use Rattle.kz_laws.specs.Amounts.{mapped_count, new_gifts, new_chunks_most}
use Rattle.kz_model.specs.Run.Supply.{granted_in, returned_in, pages_granted, pages_returned}
use Rattle.kz_model.specs.Zone.State.{Chunk, Gift, Shared, CpuPart, no_chunk, chunk_at}
use Rattle.kz_model.specs.Zone.Pick.{is_whole, picks, after_pick, block_picked, chunk_to_pick, without_idle, fresh_chunk, unmapped_place, ask_to_grow, grown}
use Rattle.kz_model.specs.Zone.Rules.{Effect, last_list, before_last_list, with_idle, all_idle, stack_refill, must_grow, after_spill, refusal, else_refused, before_unmapping, count_whole, asks_of_action, asks_of, fits, all_answered, denied_by, unchanged, ready, alloc_effect, block_of, action, effect_of}
use Rattle.kz_model.specs.Zone.State.{bound_of}
use Rattle.kz_model.specs.Run.Journal.{page_of}
use Rattle.kz_laws.proofs.OrderLines.{entries}
use Rattle.kz_model.proofs.Standing.{length-all_idle}

-- ---- chunks

abbrev one : Bool → ℕ
one mapped = if mapped then 1 else 0

mapped-set_same : (chunks : List Chunk) (k : ℕ) (c : Chunk) → c.mapped ≡ (chunk_at chunks k).mapped → mapped_count (slice_set chunks k c) ≡ mapped_count chunks
mapped-set_same [] k c same = refl
mapped-set_same (x ∷ xs) zero c same = ap (λ (b : Bool). (if b then 1 else 0) + mapped_count xs) same
mapped-set_same (x ∷ xs) (suc k) c same = ap (λ n. (if x.mapped then 1 else 0) + n) (mapped-set_same xs k c same)

-- a chunk that is mapped in place of one that is not
mapped-set_more : (chunks : List Chunk) (k : ℕ) (c : Chunk) → k < length chunks → (chunk_at chunks k).mapped ≡ false → c.mapped ≡ true → mapped_count (slice_set chunks k c) ≡ mapped_count chunks + 1
mapped-set_more [] k c lt was is = absurd (omega arith)
mapped-set_more (x ∷ xs) zero c lt was is = ap (λ (b : Bool). (if b then 1 else 0) + mapped_count xs) is ∙ one_more (mapped_count xs) ∙ sym (ap (λ (b : Bool). (if b then 1 else 0) + mapped_count xs + 1) was)
  where
    one_more : (n : ℕ) → 1 + n ≡ 0 + n + 1
    one_more n = omega arith
mapped-set_more (x ∷ xs) (suc k) c lt was is = omega (arith, mapped-set_more xs k c (omega arith) was is)

mapped-push : (chunks : List Chunk) (c : Chunk) → c.mapped ≡ true → mapped_count (chunks ++ c ∷ []) ≡ mapped_count chunks + 1
mapped-push [] c is = ap (λ (b : Bool). (if b then 1 else 0) + 0) is
mapped-push (x ∷ xs) c is = omega (arith, mapped-push xs c is)

mapped-all_idle : (blocks : List Block) (chunks : List Chunk) → mapped_count (all_idle blocks chunks) ≡ mapped_count chunks
mapped-all_idle [] chunks = refl
mapped-all_idle (block ∷ blocks) chunks = mapped-all_idle blocks (with_idle block chunks) ∙ mapped-set_same chunks block.chunk _ refl

mapped-grown : (p : ZoneParams) (s : Shared) → mapped_count (grown p s).chunks ≡ mapped_count s.chunks + 1
mapped-grown p s =
    elim (unmapped_place s.chunks) as (λ (o : Option ℕ). unmapped_place s.chunks ≡ o → mapped_count (option_map_or (λ ordinal. slice_set s.chunks ordinal (fresh_chunk p)) o (s.chunks ++ fresh_chunk p ∷ [])) ≡ mapped_count s.chunks + 1) [
      | Some k ↦ λ e. let at = position-Some (λ (chunk : Chunk). not chunk.mapped) s.chunks k no_chunk e in mapped-set_more s.chunks k (fresh_chunk p) at.0 (flipped (chunk_at s.chunks k).mapped at.1) refl
      | None ↦ λ e. mapped-push s.chunks (fresh_chunk p) refl
    ] refl
  where
    flipped : (b : Bool) → not b ≡ true → b ≡ false
    flipped true e = absurd (cc)
    flipped false e = refl

-- those that are wholly idle are unmapped
mapped-unmapped : (count : ℕ) (chunks : List Chunk) → length (filter (is_whole count) chunks) + mapped_count (map (λ chunk. if is_whole count chunk then no_chunk else chunk) chunks) ≡ mapped_count chunks
mapped-unmapped count [] = refl
mapped-unmapped count (x ∷ xs) =
    let more = mapped-unmapped count xs in
    let rest = filter (is_whole count) xs in
    let others = mapped_count (map (λ chunk. if is_whole count chunk then no_chunk else chunk) xs) in
    elim (is_whole count x) as (λ b. is_whole count x ≡ b → length (if b then x ∷ rest else rest) + ((if (if b then no_chunk else x).mapped then 1 else 0) + others) ≡ (if x.mapped then 1 else 0) + mapped_count xs) [
      | true ↦ λ e. let is : one x.mapped ≡ 1 = ap one (first x.mapped (length x.idle == count) e) in omega (arith, more, is)
      | false ↦ λ e. omega (arith, more)
    ] refl
  where
    first : (a c : Bool) → (a && c) ≡ true → a ≡ true
    first true c e = refl
    first false c e = absurd (cc)

-- ---- what a step leaves

-- as many chunks are mapped, and no gift is gone or new
record IsStill (s t : Shared) : Type 0 where
  mapped : mapped_count t.chunks ≡ mapped_count s.chunks
  long : length t.chunks ≡ length s.chunks
  transit : t.transit ≡ s.transit

picks_still : (p : ZoneParams) (n : ℕ) (s : Shared) → IsStill s (picks p n s).1
picks_still p zero s = record { mapped = refl; long = refl; transit = refl }
picks_still p (suc n) s =
    elim (chunk_to_pick p.count s.chunks) as (λ (o : Option ℕ).
    IsStill s (option_map_or {U = List Block × Shared} (λ (picked : Block × Shared). let rest = picks p n picked.1 in (picked.0 ∷ rest.0, rest.1)) (option_map_or (λ ordinal. Some (block_picked p s ordinal, after_pick s (block_picked p s ordinal))) o None) ([], s)).1) [
      | None ↦ record { mapped = refl; long = refl; transit = refl }
      | Some k ↦
          let more = picks_still p n (after_pick s (block_picked p s k)) in
          record {
            mapped = more.mapped ∙ mapped-set_same s.chunks k (without_idle (block_picked p s k).index (chunk_at s.chunks k)) refl;
            long = more.long ∙ length-set s.chunks k (without_idle (block_picked p s k).index (chunk_at s.chunks k));
            transit = more.transit;
          }
    ]

refilled_still : (p : ZoneParams) (s : Shared) → IsStill s (stack_refill p s).1
refilled_still p s =
    elim (nat_lt 0 (length s.depot)) as (λ b. IsStill s (if b then (last_list s.depot, record s { depot = before_last_list s.depot }) else picks p p.magazine s).1) [
      | true ↦ record { mapped = refl; long = refl; transit = refl }
      | false ↦ picks_still p p.magazine s
    ]

spilled_still : (p : ZoneParams) (blocks : List Block) (s : Shared) → IsStill s (after_spill p blocks s)
spilled_still p blocks s =
    elim (nat_lt (length s.depot) p.depot) as (λ b. IsStill s (if b then record s { depot = s.depot ++ blocks ∷ [] } else record s { chunks = all_idle blocks s.chunks })) [
      | true ↦ record { mapped = refl; long = refl; transit = refl }
      | false ↦ record { mapped = mapped-all_idle blocks s.chunks; long = length-all_idle blocks s.chunks; transit = refl }
    ]

-- a zone that grows has one chunk more, unless one is unmapped
abbrev new_chunks : Shared → ℕ
new_chunks s = if is_some (unmapped_place s.chunks) then 0 else 1

length-grown : (p : ZoneParams) (s : Shared) → length (grown p s).chunks ≡ length s.chunks + new_chunks s
length-grown p s =
    elim (unmapped_place s.chunks) as (λ (o : Option ℕ). length (option_map_or (λ ordinal. slice_set s.chunks ordinal (fresh_chunk p)) o (s.chunks ++ fresh_chunk p ∷ [])) ≡ length s.chunks + (if is_some o then 0 else 1)) [
      | Some k ↦ length-set s.chunks k (fresh_chunk p) ∙ same (length s.chunks)
      | None ↦ length-append s.chunks (fresh_chunk p ∷ [])
    ]
  where
    same : (n : ℕ) → n ≡ n + 0
    same n = omega arith

-- where none is unmapped, all are mapped
mapped-all : (chunks : List Chunk) → length chunks ≤ position_or_len (λ chunk. not chunk.mapped) chunks → mapped_count chunks ≡ length chunks
mapped-all [] past = refl
mapped-all (x ∷ xs) past =
    elim x.mapped as (λ b. suc (length xs) ≤ (if not (not b) then 1 + position_or_len (λ (chunk : Chunk). not chunk.mapped) xs else 0) → (if b then 1 else 0) + mapped_count xs ≡ suc (length xs)) [
      | true ↦ λ past. omega (arith, mapped-all xs (omega arith))
      | false ↦ λ past. absurd (omega arith)
    ] past

-- no more chunks than there were, or all are mapped
abbrev pub IsFull : Shared → Shared → Type 0
IsFull s t = length t.chunks ≤ max (length s.chunks) (mapped_count t.chunks)

full-grown : (p : ZoneParams) (s : Shared) → IsFull s (grown p s)
full-grown p s = omega (arith, length-grown p s, mapped-grown p s, few)
  where
    few : length s.chunks + new_chunks s ≤ max (length s.chunks) (mapped_count s.chunks + 1)
    few =
        let n = length s.chunks in
        let place = position_or_len (λ (chunk : Chunk). not chunk.mapped) s.chunks in
        elim (nat_lt place n) as (λ b. nat_lt place n ≡ b → n + (if is_some (if b then Some place else None) then 0 else 1) ≤ max n (mapped_count s.chunks + 1)) [
          | true ↦ λ e. omega arith
          | false ↦ λ e. let past : n ≤ place = grind arith in omega (arith, mapped-all s.chunks past)
        ] refl

-- a stack that is made ready: the zone grows where it must
record IsReady (s t : Shared) (grows : Bool) : Type 0 where
  mapped : mapped_count t.chunks ≡ mapped_count s.chunks + (if grows then 1 else 0)
  long : length t.chunks ≡ length s.chunks + (if grows then new_chunks s else 0)
  full : IsFull s t
  transit : t.transit ≡ s.transit

still_ready : (s t : Shared) → IsStill s t → IsReady s t false
still_ready s t is = record { mapped = is.mapped ∙ same (mapped_count s.chunks); long = is.long ∙ same (length s.chunks); full = omega (arith, is.long); transit = is.transit }
  where
    same : (n : ℕ) → n ≡ n + 0
    same n = omega arith

made_ready : (p : ZoneParams) (s : Shared) (stack : List Block) → IsReady s (ready p s stack).1 ((length stack == 0) && must_grow s)
made_ready p s [] =
    elim (must_grow s) as (λ b. IsReady s (stack_refill p (if b then grown p s else s)).1 b) [
      | true ↦ let is = refilled_still p (grown p s) in record { mapped = is.mapped ∙ mapped-grown p s; long = is.long ∙ length-grown p s; full = omega (arith, is.mapped, is.long, full-grown p s); transit = is.transit }
      | false ↦ still_ready s (stack_refill p s).1 (refilled_still p s)
    ]
made_ready p s (block ∷ stack) =
    let some : nat_lt 0 (suc (length stack)) ≡ true = grind arith in
    let none : (suc (length stack) == 0) ≡ false = grind arith in
    rw (some, none) (still_ready s s (record { mapped = refl; long = refl; transit = refl }))

-- the amounts after a step with these asks and answers, and so many new gifts and chunks
pub record Amounts (p : ZoneParams) (zone : ℕ) (s t : Shared) (asks : List Ask) (answers : List Answer) (gifts growth : ℕ) : Type 0 where
  pub pages : p.pages * mapped_count t.chunks + returned_in (entries zone asks answers) ≡ p.pages * mapped_count s.chunks + granted_in (entries zone asks answers)
  pub entries_few : length asks + mapped_count t.chunks ≤ mapped_count s.chunks + 2 * growth
  pub transit : length t.transit ≤ length s.transit + gifts
  pub chunks : length t.chunks ≡ length s.chunks + length (filter_map page_of answers)
  pub chunks_few : length t.chunks ≤ length s.chunks + growth
  pub full : IsFull s t

-- with no ask and as many chunks mapped
still_amounts : (p : ZoneParams) (zone : ℕ) (s t : Shared) (answers : List Answer) (gifts growth : ℕ) → mapped_count t.chunks ≡ mapped_count s.chunks → length t.chunks ≡ length s.chunks → length t.transit ≤ length s.transit + gifts → length answers ≡ 0 →
    Amounts p zone s t [] answers gifts growth
still_amounts p zone s t [] gifts growth same long transit none = record { pages = ap (λ n. p.pages * n + 0) same; entries_few = omega (arith, same); transit = transit; chunks = omega (arith, long); chunks_few = omega (arith, long); full = omega (arith, long) }
still_amounts p zone s t (a ∷ answers) gifts growth same long transit none = absurd (omega arith)

-- no ask has no answer
no_answers : (answers : List Answer) → length answers ≡ 0 → denied_by answers ≡ None
no_answers [] e = refl
no_answers (a ∷ answers) e = absurd (omega arith)

-- an allocation, where the zone grows or not
grown_amounts : (p : ZoneParams) (zone : ℕ) (s : Shared) (own : CpuPart) (a : Answer) (e : Effect) → fits (ask_to_grow p s) a ≡ true → mapped_count e.shared.chunks ≡ mapped_count s.chunks + 1 → length e.shared.chunks ≡ length s.chunks + new_chunks s → IsFull s e.shared → e.shared.transit ≡ s.transit →
    Amounts p zone s (option_map_or (λ reply. unchanged reply s own) (denied_by (a ∷ [])) e).shared (ask_to_grow p s ∷ []) (a ∷ []) 0 1
grown_amounts p zone s own a e fit mapped long full transit =
    elim (is_some (unmapped_place s.chunks)) as (λ b.
    let ask : Ask = if b then Frames p.pages else AskChunk p.submap p.pages in
    fits ask a ≡ true → length e.shared.chunks ≡ length s.chunks + (if b then 0 else 1) → Amounts p zone s (option_map_or (λ reply. unchanged reply s own) (denied_by (a ∷ [])) e).shared (ask ∷ []) (a ∷ []) 0 1) [
      | true ↦ λ fit long. by_frames a fit long
      | false ↦ λ fit long. by_chunk a fit long
    ] fit long
  where
    paid : (ask : Ask) (a : Answer) → pages_returned ask a ≡ 0 → pages_granted ask a ≡ p.pages → length e.shared.chunks ≡ length s.chunks + length (filter_map page_of (a ∷ [])) → length e.shared.chunks ≤ length s.chunks + 1 → Amounts p zone s e.shared (ask ∷ []) (a ∷ []) 0 1
    paid ask a none all long few = record {
      pages = sums (p.pages * mapped_count e.shared.chunks) (p.pages * mapped_count s.chunks) (pages_returned ask a) (pages_granted ask a) none all (ap (λ n. p.pages * n) mapped ∙ mul-add p.pages (mapped_count s.chunks) 1 ∙ ap (λ n. p.pages * mapped_count s.chunks + n) (by_one p.pages));
      entries_few = omega (arith, mapped);
      transit = omega (arith, ap (λ (l : List Gift). length l) transit);
      chunks = long;
      chunks_few = few;
      full = full;
    }
      where
        by_one : (n : ℕ) → n * 1 ≡ n
        by_one n = omega arith

        sums : (m n r g : ℕ) → r ≡ 0 → g ≡ p.pages → m ≡ n + p.pages → m + (r + 0) ≡ n + (g + 0)
        sums m n r g e f h = omega arith

    refused : (ask : Ask) (a : Answer) → pages_returned ask a ≡ 0 → pages_granted ask a ≡ 0 → filter_map page_of (a ∷ []) ≡ [] → Amounts p zone s s (ask ∷ []) (a ∷ []) 0 1
    refused ask a none nothing no_page = record {
      pages = ap (λ n. p.pages * mapped_count s.chunks + (n + 0)) (none ∙ sym nothing);
      entries_few = omega arith;
      transit = omega arith;
      chunks = omega (arith, ap (λ (l : List ℕ). length l) no_page);
      chunks_few = omega arith;
      full = omega arith;
    }

    by_frames : (a : Answer) → fits (Frames p.pages) a ≡ true → length e.shared.chunks ≡ length s.chunks + 0 → Amounts p zone s (option_map_or (λ reply. unchanged reply s own) (denied_by (a ∷ [])) e).shared (Frames p.pages ∷ []) (a ∷ []) 0 1
    by_frames Given fit long = paid (Frames p.pages) Given refl refl long (omega (arith, long))
    by_frames (NoFrames free) fit long = refused (Frames p.pages) (NoFrames free) refl refl refl
    by_frames (Base page) fit long = absurd (cc)
    by_frames (NoSpace left) fit long = absurd (cc)
    by_frames Taken fit long = absurd (cc)

    by_chunk : (a : Answer) → fits (AskChunk p.submap p.pages) a ≡ true → length e.shared.chunks ≡ length s.chunks + 1 → Amounts p zone s (option_map_or (λ reply. unchanged reply s own) (denied_by (a ∷ [])) e).shared (AskChunk p.submap p.pages ∷ []) (a ∷ []) 0 1
    by_chunk (Base page) fit long = paid (AskChunk p.submap p.pages) (Base page) refl refl long (omega (arith, long))
    by_chunk (NoSpace left) fit long = refused (AskChunk p.submap p.pages) (NoSpace left) refl refl refl
    by_chunk (NoFrames free) fit long = refused (AskChunk p.submap p.pages) (NoFrames free) refl refl refl
    by_chunk Given fit long = absurd (cc)
    by_chunk Taken fit long = absurd (cc)

allocated_amounts : (p : ZoneParams) (zone : ℕ) (s : Shared) (own : CpuPart) (grows : Bool) (answers : List Answer) (e : Effect) → IsReady s e.shared grows →
    let asks : List Ask = if grows then ask_to_grow p s ∷ [] else [] in
    all_answered asks answers ≡ true → length answers ≡ length asks → Amounts p zone s (option_map_or (λ reply. unchanged reply s own) (denied_by answers) e).shared asks answers 0 1
allocated_amounts p zone s own true [] e is all long = absurd (omega arith)
allocated_amounts p zone s own true (a ∷ []) e is all long = grown_amounts p zone s own a e (first (fits (ask_to_grow p s) a) true all) is.mapped is.long is.full is.transit
  where
    first : (a c : Bool) → (a && c) ≡ true → a ≡ true
    first true c e = refl
    first false c e = absurd (cc)
allocated_amounts p zone s own true (a ∷ other ∷ answers) e is all long = absurd (omega arith)
allocated_amounts p zone s own false (a ∷ answers) e is all long = absurd (omega arith)
allocated_amounts p zone s own false [] e is all long = still_amounts p zone s e.shared [] 0 1 (is.mapped ∙ same (mapped_count s.chunks)) (is.long ∙ same (length s.chunks)) (omega (arith, ap (λ (l : List Gift). length l) is.transit)) refl
  where
    same : (n : ℕ) → n + 0 ≡ n
    same n = omega arith

-- a trim: each chunk that is unmapped gives its pages back
back_entries : (zone pages n : ℕ) (answers : List Answer) → all_answered (replicate n (Back pages)) answers ≡ true → length answers ≡ n →
    (returned_in (entries zone (replicate n (Back pages)) answers) ≡ pages * n) × (granted_in (entries zone (replicate n (Back pages)) answers) ≡ 0) × (length (filter_map page_of answers) ≡ 0)
back_entries zone pages zero [] all long = (omega arith, refl, refl)
back_entries zone pages zero (a ∷ answers) all long = absurd (omega arith)
back_entries zone pages (suc n) [] all long = absurd (omega arith)
back_entries zone pages (suc n) (Taken ∷ answers) all long = let more = back_entries zone pages n answers all (omega arith) in (omega (arith, more.0, mul-suc pages n), omega (arith, more.1), more.2)
back_entries zone pages (suc n) (Base page ∷ answers) all long = absurd (cc)
back_entries zone pages (suc n) (Given ∷ answers) all long = absurd (cc)
back_entries zone pages (suc n) (NoSpace left ∷ answers) all long = absurd (cc)
back_entries zone pages (suc n) (NoFrames free ∷ answers) all long = absurd (cc)

none_denied : (pages n : ℕ) (answers : List Answer) → all_answered (replicate n (Back pages)) answers ≡ true → length answers ≡ n → denied_by answers ≡ None
none_denied pages n [] all long = refl
none_denied pages zero (a ∷ answers) all long = absurd (omega arith)
none_denied pages (suc n) (Taken ∷ answers) all long = refl
none_denied pages (suc n) (Base page ∷ answers) all long = refl
none_denied pages (suc n) (Given ∷ answers) all long = refl
none_denied pages (suc n) (NoSpace left ∷ answers) all long = absurd (cc)
none_denied pages (suc n) (NoFrames free ∷ answers) all long = absurd (cc)

trimmed_amounts : (p : ZoneParams) (zone : ℕ) (s : Shared) (cpu : ℕ) (own : CpuPart) (answers : List Answer) →
    let asks = replicate (count_whole p (before_unmapping s)) (Back p.pages) in
    all_answered asks answers ≡ true → length answers ≡ length asks → Amounts p zone s (option_map_or (λ reply. unchanged reply s own) (denied_by answers) (action p s cpu own Trim)).shared asks answers 0 0
trimmed_amounts p zone s cpu own answers all long =
    let n = count_whole p (before_unmapping s) in
    let chunks = before_unmapping s in
    let after = map (λ chunk. if is_whole p.count chunk then no_chunk else chunk) chunks in
    let size : length answers ≡ n = long ∙ length-replicate n (Back p.pages) in
    let done : n + mapped_count after ≡ mapped_count s.chunks =
    ap (λ n. n + mapped_count after) (sym (length-filter (is_whole p.count) chunks)) ∙ mapped-unmapped p.count chunks ∙ mapped-all_idle (flat_map (λ (blocks : List Block). blocks) s.depot) s.chunks in
    let long_after : length after ≡ length s.chunks =
    length-map chunks (λ chunk. if is_whole p.count chunk then no_chunk else chunk) ∙ length-all_idle (flat_map (λ (blocks : List Block). blocks) s.depot) s.chunks in
    let backs = back_entries zone p.pages n answers all size in
    rw (none_denied p.pages n answers all size) (record {
      pages = ap (λ r. p.pages * mapped_count after + r) backs.0 ∙ turned (p.pages * mapped_count after) (p.pages * n) (p.pages * mapped_count s.chunks) (sym (mul-add p.pages n (mapped_count after)) ∙ ap (λ n. p.pages * n) done) ∙ sym (ap (λ g. p.pages * mapped_count s.chunks + g) backs.1);
      entries_few = omega (arith, done, length-replicate n (Back p.pages));
      transit = omega arith;
      chunks = long_after ∙ nothing_more (length s.chunks) (length (filter_map page_of answers)) backs.2;
      chunks_few = omega (arith, long_after);
      full = omega (arith, long_after);
    })
  where
    turned : (a c d : ℕ) → c + a ≡ d → a + c ≡ d + 0
    turned a c d e = omega arith

    nothing_more : (n m : ℕ) → m ≡ 0 → n ≡ n + m
    nothing_more n m e = omega arith

few_gifts : (transit : List Gift) (place : ℕ) → length (remove transit place) ≤ length transit + 0
few_gifts transit place = omega (arith, length-append (take place transit) (drop (suc place) transit), length-take place transit, length-drop (suc place) transit)

action_amounts : (p : ZoneParams) (zone : ℕ) (s : Shared) (cpu : ℕ) (own : CpuPart) (step : Step) (answers : List Answer) →
    let asks = asks_of_action p s own.stack step in
    all_answered asks answers ≡ true → length answers ≡ length asks → Amounts p zone s (option_map_or (λ reply. unchanged reply s own) (denied_by answers) (action p s cpu own step)).shared asks answers (new_gifts step) (new_chunks_most step)
action_amounts p zone s cpu own (Alloc name) answers all long =
    allocated_amounts p zone s own ((length own.stack == 0) && must_grow s) answers (action p s cpu own (Alloc name)) (made_ready p s own.stack) all long
action_amounts p zone s cpu own (AllocZero name) answers all long =
    let is = made_ready p s own.stack in
    let e = alloc_effect p s own name in
    let block = block_of (bound_of name e.own.names) in
    let same_mapped = mapped-set_same e.shared.chunks block.chunk _ refl in
    let same_long = length-set e.shared.chunks block.chunk _ in
    allocated_amounts p zone s own ((length own.stack == 0) && must_grow s) answers (action p s cpu own (AllocZero name))
    (record { mapped = same_mapped ∙ is.mapped; long = same_long ∙ is.long; full = omega (arith, is.full, same_mapped, same_long); transit = is.transit }) all long
action_amounts p zone s cpu own (Free name asked) answers all long =
    rw (no_answers answers long)
    (elim (nat_le (2 * p.magazine) (length own.stack)) as (λ full. Amounts p zone s (if full then after_spill p (take p.magazine own.stack) s else s) [] answers 0 0) [
      | true ↦ let is = spilled_still p (take p.magazine own.stack) s in still_amounts p zone s (after_spill p (take p.magazine own.stack) s) answers 0 0 is.mapped is.long (omega (arith, ap (λ (l : List Gift). length l) is.transit)) long
      | false ↦ still_amounts p zone s s answers 0 0 refl refl (omega arith) long
    ])
action_amounts p zone s cpu own (Give name to) answers all long =
    rw (no_answers answers long) (still_amounts p zone s (action p s cpu own (Give name to)).shared answers 1 0 refl refl (omega (arith, length-append s.transit (record { to = to; name = name; block = block_of (bound_of name own.names) } ∷ []))) long)
action_amounts p zone s cpu own (Take name) answers all long =
    rw (no_answers answers long) (still_amounts p zone s (action p s cpu own (Take name)).shared answers 0 0 refl refl (few_gifts s.transit _) long)
action_amounts p zone s cpu own (Read name off len) answers all long =
    rw (no_answers answers long) (still_amounts p zone s s answers 0 0 refl refl (omega arith) long)
action_amounts p zone s cpu own (Write name off bytes) answers all long =
    rw (no_answers answers long) (still_amounts p zone s (action p s cpu own (Write name off bytes)).shared answers 0 0 (mapped-set_same s.chunks (block_of (bound_of name own.names)).chunk _ refl) (length-set s.chunks (block_of (bound_of name own.names)).chunk _) (omega arith) long)
action_amounts p zone s cpu own Flush answers all long =
    rw (no_answers answers long) (still_amounts p zone s (action p s cpu own Flush).shared answers 0 0 (mapped-all_idle own.stack s.chunks) (length-all_idle own.stack s.chunks) (omega arith) long)
action_amounts p zone s cpu own Trim answers all long = trimmed_amounts p zone s cpu own answers all long

pub effect_amounts : (p : ZoneParams) (zone : ℕ) (s : Shared) (cpu : ℕ) (own : CpuPart) (step : Step) (answers : List Answer) →
    let asks = asks_of p s cpu own step in
    all_answered asks answers ≡ true → length answers ≡ length asks → Amounts p zone s (effect_of p s cpu own step answers).shared asks answers (new_gifts step) (new_chunks_most step)
effect_amounts p zone s cpu own step answers =
    elim (refusal p s cpu own step) as (λ (o : Option Reply).
    let asks : List Ask = if is_some o then [] else asks_of_action p s own.stack step in
    all_answered asks answers ≡ true → length answers ≡ length asks → Amounts p zone s (option_map_or (λ reply. unchanged reply s own) (else_refused o (denied_by answers)) (action p s cpu own step)).shared asks answers (new_gifts step) (new_chunks_most step)) [
      | Some r ↦ λ all long. still_amounts p zone s s answers (new_gifts step) (new_chunks_most step) refl refl (omega arith) long
      | None ↦ λ all long. action_amounts p zone s cpu own step answers all long
    ]
