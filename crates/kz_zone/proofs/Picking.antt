-- Picks by the words that are left are the picks of the definition.
use Rattle.std.proofs.Common.{◌≡◌, ℕ, zero, suc, ◌+◌, ◌<◌, List, [], ◌∷◌, ◌++◌, length, true, Option, None, Some, refl, ap, sym, ◌∙◌, subst, arith, append_assoc, append-nil, add-one}
use Rattle.std.specs.Option.{option_map, option_map_or, is_some}
use Rattle.std.proofs.lemmas.List.{length-set}
use Rattle.rand_pcg.specs.Lcg.{Lcg}
use Rattle.kz_model.specs.declared.step.Block.{Block}
use Rattle.kz_model.specs.declared.record.ZoneParams.{ZoneParams}
use Rattle.kz_model.specs.Zone.Words.{words_after, rest_of}
use Rattle.kz_model.specs.Zone.State.{Chunk, Shared, chunk_at}
use Rattle.kz_model.specs.Zone.Pick.{chunk_to_pick, without_idle, block_picked, after_pick, picks}
use Rattle.kz_zone.specs.Pair.{Pair}
use Rattle.kz_zone.specs.Chunks.{Chunks}
use Rattle.kz_zone.specs.Picks.{Picked, block_by, without_block, with_first, picked}

-- ---- one more pick

abbrev picked_from : ℕ → ℕ → List Chunk → Option Lcg → Option ℕ → Picked
picked_from count n chunks words place =
    option_map_or (λ ordinal. let block = block_by count chunks words ordinal in with_first block (picked count n (without_block block chunks) (rest_of words))) place (record { blocks = []; chunks = chunks; words = words })

-- nothing is left to pick
pub picked_none : (count n : ℕ) (chunks : List Chunk) (words : Option Lcg) → chunk_to_pick count chunks ≡ None → picked count n chunks words ≡ record { blocks = []; chunks = chunks; words = words }
picked_none count zero chunks words none = refl
picked_none count (suc n) chunks words none = ap (picked_from count n chunks words) none

-- one pick, and those that are left
pub picked_more : (count n m k : ℕ) (chunks : List Chunk) (words : Option Lcg) → n ≡ suc m → chunk_to_pick count chunks ≡ Some k →
    let block = block_by count chunks words k in
    picked count n chunks words ≡ with_first block (picked count m (without_block block chunks) (rest_of words))
picked_more count n m k chunks words is some = ap (λ n. picked count n chunks words) is ∙ ap (picked_from count m chunks words) some

-- ---- the picks of the definition

-- what picks give and leave is what picks by the words give and leave
pub record PicksAs (p : ZoneParams) (s : Shared) (made : List Block × Shared) (by : Picked) : Type 0 where
  pub blocks : made.0 ≡ by.blocks
  pub chunks : made.1.chunks ≡ by.chunks
  pub depot : made.1.depot ≡ s.depot
  pub transit : made.1.transit ≡ s.transit
  pub words : by.words ≡ words_after p.seed (2 + p.zone) made.1.drawn

-- the picks of the definition from a chunk that was chosen
abbrev made_from : ZoneParams → ℕ → Shared → Option ℕ → List Block × Shared
made_from p n s place =
    option_map_or (λ (picked : Block × Shared). let rest = picks p n picked.1 in (picked.0 ∷ rest.0, rest.1)) (option_map_or (λ ordinal. Some (block_picked p s ordinal, after_pick s (block_picked p s ordinal))) place None) ([], s)

at_words : (p : ZoneParams) (n : ℕ) (s : Shared) → PicksAs p s (picks p n s) (picked p.count n s.chunks (words_after p.seed (2 + p.zone) s.drawn))
at_words p zero s = record { blocks = refl; chunks = refl; depot = refl; transit = refl; words = refl }
at_words p (suc n) s =
    elim (chunk_to_pick p.count s.chunks) as (λ o. PicksAs p s (made_from p n s o) (picked_from p.count n s.chunks (words_after p.seed (2 + p.zone) s.drawn) o)) [
      | None ↦ record { blocks = refl; chunks = refl; depot = refl; transit = refl; words = refl }
      | Some k ↦
          let block = block_picked p s k in
          let more = subst (λ words. PicksAs p (after_pick s block) (picks p n (after_pick s block)) (picked p.count n (without_block block s.chunks) words)) (ap (words_after p.seed (2 + p.zone)) (add-one s.drawn)) (at_words p n (after_pick s block)) in
          record { blocks = ap (λ bs. block ∷ bs) more.blocks; chunks = more.chunks; depot = more.depot; transit = more.transit; words = more.words }
    ]

pub picks_as : (p : ZoneParams) (n : ℕ) (s : Shared) (words : Option Lcg) → words ≡ words_after p.seed (2 + p.zone) s.drawn → PicksAs p s (picks p n s) (picked p.count n s.chunks words)
picks_as p n s words is = subst (λ w. PicksAs p s (picks p n s) (picked p.count n s.chunks w)) (sym is) (at_words p n s)

-- ---- a step of a loop

-- one block was picked
pub picked_step : (n m : ℕ) (now next : Chunks) (words left : Option Lcg) (block : Block) → n ≡ suc m → Some block ≡ option_map (block_by now.params.count now.chunks words) (chunk_to_pick now.params.count now.chunks) →
    next ≡ record now { chunks = without_block block now.chunks } → left ≡ rest_of words → picked now.params.count n now.chunks words ≡ with_first block (picked next.params.count m next.chunks left)
picked_step n m now next words left block is made taken drawn =
    elim (chunk_to_pick now.params.count now.chunks) as (λ o. chunk_to_pick now.params.count now.chunks ≡ o → Some block ≡ option_map (block_by now.params.count now.chunks words) o → picked now.params.count n now.chunks words ≡ with_first block (picked next.params.count m next.chunks left)) [
      | None ↦ λ e f. absurd (cc)
      | Some k ↦ λ e f.
          let same : block ≡ block_by now.params.count now.chunks words k = cc in
          picked_more now.params.count n m k now.chunks words is e
          ∙ (λ i. with_first (sym same i) (picked now.params.count m (without_block (sym same i) now.chunks) (sym drawn i)))
          ∙ ap (λ (c : Chunks). with_first block (picked c.params.count m c.chunks left)) (sym taken)
    ] refl made

-- none was
pub picked_end : (n : ℕ) (now : Chunks) (words : Option Lcg) → None ≡ option_map (block_by now.params.count now.chunks words) (chunk_to_pick now.params.count now.chunks) → picked now.params.count n now.chunks words ≡ record { blocks = []; chunks = now.chunks; words = words }
picked_end n now words made = picked_none now.params.count n now.chunks words (nothing (chunk_to_pick now.params.count now.chunks) made)
  where
    nothing : (o : Option ℕ) → None ≡ option_map (block_by now.params.count now.chunks words) o → o ≡ None
    nothing None e = refl
    nothing (Some k) e = absurd (cc)

-- the stack, with the pick and those that are left
pub stack_step : (into more : Pair) (block : Block) (rest all : Picked) → more ≡ record into { blocks = into.blocks ++ block ∷ [] } → all ≡ with_first block rest → record more { blocks = more.blocks ++ rest.blocks } ≡ record into { blocks = into.blocks ++ all.blocks }
stack_step into more block rest all added is =
    ap (λ (p : Pair). record p { blocks = p.blocks ++ rest.blocks }) added
    ∙ ap (λ bs. record into { blocks = bs }) (append_assoc into.blocks (block ∷ []) rest.blocks)
    ∙ ap (λ (p : Picked). record into { blocks = into.blocks ++ p.blocks }) (sym is)

pub stack_end : (into : Pair) (all : Picked) → all.blocks ≡ [] → into ≡ record into { blocks = into.blocks ++ all.blocks }
stack_end into all none = ap (λ bs. record into { blocks = bs }) (sym (append-nil into.blocks) ∙ ap (λ bs. into.blocks ++ bs) (sym none))

-- ---- how much is picked

-- picks change no number of chunks
pub length-picked : (count n : ℕ) (chunks : List Chunk) (words : Option Lcg) → length (picked count n chunks words).chunks ≡ length chunks
length-picked count zero chunks words = refl
length-picked count (suc n) chunks words =
    elim (chunk_to_pick count chunks) as (λ o. length (picked_from count n chunks words o).chunks ≡ length chunks) [
      | None ↦ refl
      | Some k ↦
          let block = block_by count chunks words k in
          length-picked count n (without_block block chunks) (rest_of words) ∙ length-set chunks block.chunk (without_idle block.index (chunk_at chunks block.chunk))
    ]

-- something is picked where there is a chunk to pick from
pub picked_some : (count n : ℕ) (chunks : List Chunk) (words : Option Lcg) → 0 < n → is_some (chunk_to_pick count chunks) ≡ true → 0 < length (picked count n chunks words).blocks
picked_some count zero chunks words some there = absurd (omega arith)
picked_some count (suc n) chunks words some there =
    elim (chunk_to_pick count chunks) as (λ o. is_some o ≡ true → 0 < length (picked_from count n chunks words o).blocks) [
      | None ↦ λ e. absurd (cc)
      | Some k ↦ λ e. omega arith
    ] there
