-- A stack is filled by picks, from chunks that grow where no element is idle.
use Rattle.std.proofs.Common.{◌≡◌, ℕ, ◌+◌, ◌<◌, true, false, not, nat_lt, if◌then◌else◌, List, [], ◌∷◌, ◌++◌, length, slice_set, Option, None, Some, refl, ap, sym, ◌∙◌, subst, arith, length-append}
use Rattle.std.specs.List.{list_any}
use Rattle.std.specs.Option.{option_map_or, is_some}
use Rattle.std.proofs.lemmas.List.{length-set, get_or_push, get_or-set_same}
use Rattle.std.proofs.lemmas.List.Folds.{list_any_at}
use Rattle.std.proofs.lemmas.List.FromFn.{length-range_with_len}
use Rattle.rand_pcg.specs.Lcg.{Lcg}
use Rattle.kz_model.specs.declared.step.Block.{Block}
use Rattle.kz_model.specs.declared.record.ZoneParams.{ZoneParams}
use Rattle.kz_model.specs.Zone.Words.{words_after}
use Rattle.kz_model.specs.Zone.State.{Chunk, Gift, Shared, no_chunk, chunk_at}
use Rattle.kz_model.specs.Zone.Pick.{fresh_chunk, unmapped_place, grown, has_idle, chunk_to_pick}
use Rattle.kz_model.specs.Zone.Rules.{ready, stack_refill}
use Rattle.kz_model.specs.Zone.Whole.{IsChunk}
use Rattle.kz_zone.specs.Chunks.{Chunks}
use Rattle.kz_zone.specs.Transit.{Transit}
use Rattle.kz_zone.specs.Pair.{Pair}
use Rattle.kz_zone.specs.Room.{AreFitParams}
use Rattle.kz_zone.specs.Zone.{Zone, StandsFor}
use Rattle.kz_zone.specs.Picks.{Picked, picked}
use Rattle.kz_zone.specs.Growing.{with_chunks, grown_chunks, readied_chunks}
use Rattle.kz_zone.proofs.Places.{unmapped_there, idle_to_pick}
use Rattle.kz_zone.proofs.Picking.{PicksAs, picks_as, length-picked, picked_some}

-- a zone by its fields
abbrev pub seen : Chunks → List (List Block) → Transit → Option Lcg → Zone
seen c lists t words = record { params = c.params; most_chunks = c.most; most_gifts = t.room; chunks = c.chunks; bases = c.bases; depot = lists; transit = t.gifts; words = words }

-- what a refill gives and leaves
pub record Refills (z : Zone) (s : Shared) (blocks : List Block) (left : Zone) : Type 0 where
  pub stack : (ready z.params s []).0 ≡ blocks
  pub shows : StandsFor left (ready z.params s []).1

-- the state of a zone whose depot has no list
abbrev without_lists : List Chunk → List Gift → ℕ → Shared
without_lists chunks transit drawn = record { chunks = chunks; depot = []; transit = transit; drawn = drawn }

from_ready : (p : ZoneParams) (chunks : List Chunk) (transit : List Gift) (drawn : ℕ) (words : Option Lcg) → words ≡ words_after p.seed (2 + p.zone) drawn →
    PicksAs p (without_lists chunks transit drawn) (ready p (without_lists chunks transit drawn) []) (picked p.count p.magazine (readied_chunks p chunks) words)
from_ready p chunks transit drawn words w =
    let s = without_lists chunks transit drawn in
    elim (list_any (λ (chunk : Chunk). nat_lt 0 (length chunk.idle)) chunks) as (λ b. PicksAs p s (stack_refill p (if not b then grown p s else s)) (picked p.count p.magazine (if b then chunks else grown_chunks p chunks) words)) [
      | true ↦ picks_as p p.magazine s words w
      | false ↦ let made = picks_as p p.magazine (grown p s) words w in record { blocks = made.blocks; chunks = made.chunks; depot = made.depot; transit = made.transit; words = made.words }
    ]

-- what the fields' changes do to a zone whose depot has no list
pub refills : (z : Zone) (before now after : Chunks) (n : ℕ) (t : Transit) (lists left : List (List Block)) (words drawn : Option Lcg) (s : Shared) → seen before lists t words ≡ z → lists ≡ [] → left ≡ lists → now.params ≡ before.params → now.chunks ≡ readied_chunks before.params before.chunks →
    n ≡ now.params.magazine →
    let by = picked now.params.count n now.chunks words in
    after ≡ record now { chunks = by.chunks } → drawn ≡ by.words → StandsFor z s → Refills z s by.blocks (seen after left t drawn)
refills z before now after n t lists left words drawn s is none same params readied size taken rest h =
    let p = before.params in
    let by = picked now.params.count n now.chunks words in
    let whole : p.magazine ≡ n = sym (size ∙ ap (λ (q : ZoneParams). q.magazine) params) in
    let made : Picked = picked p.count p.magazine (readied_chunks p before.chunks) words in
    let same_picks : made ≡ by = λ i. picked (sym params i).count (whole i) (sym readied i) words in
    let F : Zone → Type 0 = λ y. StandsFor y s → Refills y s by.blocks (seen after left t drawn) in
    subst F is (λ (h : StandsFor (seen before lists t words) s).
    let is_state : s ≡ without_lists before.chunks t.gifts s.drawn = λ i. record { chunks = h.chunks i; depot = (h.depot ∙ none) i; transit = h.transit i; drawn = s.drawn } in
    let m : PicksAs p (without_lists before.chunks t.gifts s.drawn) (ready p (without_lists before.chunks t.gifts s.drawn) []) made = from_ready p before.chunks t.gifts s.drawn words h.words in
    let G : Shared → Type 0 = λ u. Refills (seen before lists t words) u by.blocks (seen after left t drawn) in
    subst G (sym is_state) (record {
      stack = m.blocks ∙ ap (λ (b : Picked). b.blocks) same_picks;
      shows = record {
        chunks = m.chunks ∙ ap (λ (b : Picked). b.chunks) same_picks ∙ ap (λ (c : Chunks). c.chunks) (sym taken);
        depot = m.depot ∙ sym (same ∙ none);
        transit = m.transit;
        words = rest ∙ ap (λ (b : Picked). b.words) (sym same_picks) ∙ m.words ∙ ap (λ (q : ZoneParams). words_after q.seed (2 + q.zone) (ready p (without_lists before.chunks t.gifts s.drawn) []).1.drawn) (sym params ∙ ap (λ (c : Chunks). c.params) (sym taken));
      };
    })) h

-- ---- some element is idle once the chunks are ready

fresh_idle : (p : ZoneParams) → 0 < p.count → nat_lt 0 (length (fresh_chunk p).idle) ≡ true
fresh_idle p some = let n : 0 < length (fresh_chunk p).idle = omega (arith, length-range_with_len 0 p.count) in grind arith

grown_idle : (p : ZoneParams) (chunks : List Chunk) → 0 < p.count → list_any (λ (chunk : Chunk). nat_lt 0 (length chunk.idle)) (grown_chunks p chunks) ≡ true
grown_idle p chunks some =
    elim (unmapped_place chunks) as (λ (o : Option ℕ). unmapped_place chunks ≡ o → list_any (λ (chunk : Chunk). nat_lt 0 (length chunk.idle)) (option_map_or (λ ordinal. slice_set chunks ordinal (fresh_chunk p)) o (chunks ++ fresh_chunk p ∷ [])) ≡ true) [
      | Some k ↦ λ e.
          let lt = (unmapped_there chunks k e).0 in
          let there : k < length (slice_set chunks k (fresh_chunk p)) = omega (arith, lt, length-set chunks k (fresh_chunk p)) in
          list_any_at (λ (chunk : Chunk). nat_lt 0 (length chunk.idle)) (slice_set chunks k (fresh_chunk p)) k no_chunk there (ap (λ (c : Chunk). nat_lt 0 (length c.idle)) (get_or-set_same chunks k (fresh_chunk p) no_chunk lt) ∙ fresh_idle p some)
      | None ↦ λ e.
          let there : length chunks < length (chunks ++ fresh_chunk p ∷ []) = omega (arith, length-append chunks (fresh_chunk p ∷ [])) in
          list_any_at (λ (chunk : Chunk). nat_lt 0 (length chunk.idle)) (chunks ++ fresh_chunk p ∷ []) (length chunks) no_chunk there (ap (λ (c : Chunk). nat_lt 0 (length c.idle)) (get_or_push chunks (fresh_chunk p) no_chunk (length chunks) refl) ∙ fresh_idle p some)
    ] refl

pub readied_idle : (p : ZoneParams) (chunks : List Chunk) → 0 < p.count → has_idle (with_chunks (readied_chunks p chunks)) ≡ true
readied_idle p chunks some =
    elim (list_any (λ (chunk : Chunk). nat_lt 0 (length chunk.idle)) chunks) as (λ b. list_any (λ (chunk : Chunk). nat_lt 0 (length chunk.idle)) chunks ≡ b → list_any (λ (chunk : Chunk). nat_lt 0 (length chunk.idle)) (if b then chunks else grown_chunks p chunks) ≡ true) [
      | true ↦ λ e. e
      | false ↦ λ e. grown_idle p chunks some
    ] refl

-- the stack after the picks
pub stacked : (mid old : Pair) (made given : List Block) → mid ≡ old → old.blocks ≡ [] → given ≡ made → record mid { blocks = mid.blocks ++ made } ≡ record old { blocks = given }
stacked mid old made given same empty is =
    λ i. record { magazine = (same i).magazine; blocks = (ap (λ (p : Pair). p.blocks ++ made) same ∙ ap (λ (bs : List Block). bs ++ made) empty ∙ sym is) i }

-- picks change no number of chunks
pub size_picked : (now after : Chunks) (n : ℕ) (words : Option Lcg) → after ≡ record now { chunks = (picked now.params.count n now.chunks words).chunks } → length after.chunks ≡ length now.chunks
size_picked now after n words taken = ap (λ (c : Chunks). length c.chunks) taken ∙ length-picked now.params.count n now.chunks words

-- chunks that are ready give a pick
ready_to_pick : (before now : Chunks) → 0 < now.params.count → now.params ≡ before.params → now.chunks ≡ readied_chunks before.params before.chunks → ((ordinal : ℕ) → IsChunk now.params (chunk_at now.chunks ordinal)) → is_some (chunk_to_pick now.params.count now.chunks) ≡ true
ready_to_pick before now some params readied kept =
    let more : 0 < before.params.count = omega (arith, some, ap (λ (p : ZoneParams). p.count) params) in
    sym (idle_to_pick now.params now.chunks some kept) ∙ ap (λ chunks. has_idle (with_chunks chunks)) readied ∙ readied_idle before.params before.chunks more

pub some_filled : (before now : Chunks) (n : ℕ) (words : Option Lcg) (mid filled : Pair) → AreFitParams now.params → now.params ≡ before.params → now.chunks ≡ readied_chunks before.params before.chunks → ((ordinal : ℕ) → IsChunk now.params (chunk_at now.chunks ordinal)) → n ≡ now.params.magazine →
    filled ≡ record mid { blocks = mid.blocks ++ (picked now.params.count n now.chunks words).blocks } → 0 < length filled.blocks
some_filled before now n words mid filled fit params readied kept size is =
    let some : 0 < n = omega (arith, size, fit.some_magazine) in
    let picks = picked now.params.count n now.chunks words in
    omega (arith, picked_some now.params.count n now.chunks words some (ready_to_pick before now fit.shape.some_count params readied kept), ap (λ (p : Pair). length p.blocks) is, length-append mid.blocks picks.blocks)
