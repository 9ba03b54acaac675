-- No address belongs to two blocks, and no block is live twice.
use Rattle.std.proofs.Common.{◌≡◌, ◌≢◌, ◌⊎◌, inl, inr, ℕ, ◌==◌, ◌+◌, ◌-◌, ◌*◌, ◌/◌, ◌^◌, ◌<◌, ◌≤◌, ◌&&◌, true, false, nat_lt, List, [], ◌∷◌, length, refl, ap, ◌∙◌, arith}
use Rattle.std.proofs.lemmas.Bool.{cases_lt, eqb-true}
use Rattle.std.proofs.lemmas.Nat.{row_fits}
use Rattle.kz_model.specs.declared.step.Block.{Block}
use Rattle.kz_model.specs.declared.record.ZoneParams.{ZoneParams}
use Rattle.kz_model.specs.Zone.State.{CpuPart, ZoneState, chunk_at}
use Rattle.kz_model.specs.Run.Supply.{address}
use Rattle.kz_model.specs.Zone.Whole.{times_in_parts, times_held_by, times_live, IsWhole}
use Rattle.kz_laws.specs.Addresses.{IsFit, AreRangesApart}
use Rattle.kz_laws.proofs.InOrder.{in_order}
use Rattle.kz_model.proofs.Counting.{at_most_one}

held_owned : (block : Block) (owns : List CpuPart) → times_held_by block owns ≤ times_in_parts block owns
held_owned block [] = omega arith
held_owned block (own ∷ owns) = omega (arith, held_owned block owns)

pub live_once : (p : ZoneParams) (state : ZoneState) (block : Block) → IsWhole p state → times_live block state ≤ 1
live_once p state block h =
    omega (arith, h.places block, held_owned block state.own, at_most_one ((chunk_at state.shared.chunks block.chunk).mapped && nat_lt block.index p.count))

-- one index for a place
same_index : (i j element at : ℕ) → i * element ≤ at → at < i * element + element → j * element ≤ at → at < j * element + element → i ≡ j
same_index i j element at a b c d =
    elim (nat_lt i j) as (λ t. nat_lt i j ≡ t → i ≡ j) [
      | true ↦ λ e. let lt : i < j = grind arith in absurd (omega (arith, row_fits i element j element lt (omega arith)))
      | false ↦ λ e.
          elim (nat_lt j i) as (λ t. nat_lt j i ≡ t → i ≡ j) [
            | true ↦ λ f. let lt : j < i = grind arith in absurd (omega (arith, row_fits j element i element lt (omega arith)))
            | false ↦ λ f. grind arith
          ] refl
    ] refl

-- a page of an address in a chunk
in_pages : (base index element count pages x : ℕ) → index < count → count * element ≤ 4096 * pages → 4096 * base + index * element ≤ x → x < 4096 * base + index * element + element → (base ≤ x / 4096) × (x / 4096 < base + pages)
in_pages base index element count pages x lt fit low high =
    let row : index * element + element ≤ count * element = row_fits index element count element lt (omega arith) in
    (omega (arith, row), omega (arith, row))

-- An address belongs to one block, where no page belongs to two chunks.
pub one_block : (p : ZoneParams) (base : ℕ → ℕ) (chunks x : ℕ) (a b : Block) → p.count * p.element ≤ 4096 * p.pages →
    ((j k page : ℕ) → j < chunks → k < chunks → base j ≤ page → page < base j + p.pages → base k ≤ page → page < base k + p.pages → j ≡ k) →
    a.chunk < chunks → a.index < p.count → b.chunk < chunks → b.index < p.count →
    address p.submap (base a.chunk) p.element a ≤ x → x < address p.submap (base a.chunk) p.element a + p.element →
    address p.submap (base b.chunk) p.element b ≤ x → x < address p.submap (base b.chunk) p.element b + p.element →
    (a.chunk ≡ b.chunk) × (a.index ≡ b.index)
one_block p base chunks x a b fit apart ac ai bc bi la ha lb hb =
    let y = x - 2 ^ 40 * (p.submap + 1) in
    let pa = in_pages (base a.chunk) a.index p.element p.count p.pages y ai fit (omega arith) (omega arith) in
    let pb = in_pages (base b.chunk) b.index p.element p.count p.pages y bi fit (omega arith) (omega arith) in
    let same : a.chunk ≡ b.chunk = apart a.chunk b.chunk (y / 4096) ac bc pa.0 pa.1 pb.0 pb.1 in
    let one : base a.chunk ≡ base b.chunk = ap base same in
    (same, same_index a.index b.index p.element (y - 4096 * base a.chunk) (omega (arith, one)) (omega (arith, one)) (omega (arith, one)) (omega (arith, one)))

-- ---- the addresses of live blocks

pub same_block : (one other : Block) → one.chunk ≡ other.chunk →
    one.index ≡ other.index → one ≡ other
same_block one other chunk index =
    ap (λ c. record { chunk = c; index = one.index }) chunk ∙ ap (λ i. record { chunk = other.chunk; index = i }) index

-- a live block is an element of one of the zone's chunks
live_within : (p : ZoneParams) (state : ZoneState) (block : Block) → IsWhole p state → 0 < times_live block state →
    (block.chunk < length state.shared.chunks) × (block.index < p.count)
live_within p state block whole live =
    (in_order p state whole).within block (omega (arith, live, held_owned block state.own))

-- no page is of two ranges that are apart
one_range : (pages : ℕ) (base : ℕ → ℕ) (chunks : ℕ) →
    ((j k : ℕ) → j < chunks → k < chunks → j ≢ k → AreRangesApart pages (base j) (base k)) →
    (j k page : ℕ) → j < chunks → k < chunks →
    base j ≤ page → page < base j + pages → base k ≤ page → page < base k + pages → j ≡ k
one_range pages base chunks apart j k page in-j in-k a b c d =
    elim (j == k) as (λ t. (j == k) ≡ t → j ≡ k) [
      | true ↦ λ e. eqb-true j k e
      | false ↦ λ e.
          let ne : j ≢ k = grind arith in
          elim (apart j k in-j in-k ne) [
            | inl le ↦ absurd (omega (arith, le))
            | inr le ↦ absurd (omega (arith, le))
          ]
    ] refl

-- two ranges are apart, or have a number in common
apart_or_shared : (size a b : ℕ) →
    AreRangesApart size a b ⊎ ((x : ℕ) × (a ≤ x) × (x < a + size) × (b ≤ x) × (x < b + size))
apart_or_shared size a b =
    elim (cases_lt b (a + size)) [
      | inr le ↦ inl (inl le)
      | inl below ↦
          elim (cases_lt a (b + size)) [
            | inr le ↦ inl (inr le)
            | inl under ↦
                elim (cases_lt a b) [
                  | inl lt ↦ inr (b, omega arith, below, omega arith, omega (arith, below, lt))
                  | inr le ↦ inr (a, omega arith, omega (arith, below, le), le, under)
                ]
          ]
    ]

pub live_blocks_apart : (p : ZoneParams) (state : ZoneState) (base : ℕ → ℕ) (one other : Block) →
    IsFit p → IsWhole p state → ((j k : ℕ) → j < length state.shared.chunks → k < length state.shared.chunks → j ≢ k →
    AreRangesApart p.pages (base j) (base k)) →
    0 < times_live one state → 0 < times_live other state → one ≢ other →
    AreRangesApart p.element (address p.submap (base one.chunk) p.element one)
    (address p.submap (base other.chunk) p.element other)
live_blocks_apart p state base one other fit whole apart here there ne =
    let in-one = live_within p state one whole here in
    let in-other = live_within p state other whole there in
    let chunks = length state.shared.chunks in
    let from = address p.submap (base one.chunk) p.element one in
    let to = address p.submap (base other.chunk) p.element other in
    elim (apart_or_shared p.element from to) [
      | inl done ↦ done
      | inr at ↦
          let same =
          one_block p base chunks at.0 one other fit.elements (one_range p.pages base chunks apart)
          in-one.0 in-one.1 in-other.0 in-other.1 at.1 at.2 at.3 at.4 in
          absurd (ne (same_block one other same.0 same.1))
    ]
