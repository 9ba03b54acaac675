-- The one equation for each block says what is said bullet by bullet, and the other way round.
use Rattle.std.proofs.Common.{◌≡◌, ◌↔◌, ℕ, zero, suc, ◌*◌, ◌<◌, ◌≤◌, ◌&&◌, Bool, true, false, nat_lt, List, [], length, refl, ap, ◌∙◌, arith}
use Rattle.std.specs.List.{All}
use Rattle.std.proofs.lemmas.List.Elements.{All-weaker}
use Rattle.kz_model.specs.declared.record.ZoneParams.{ZoneParams}
use Rattle.kz_model.specs.Zone.State.{Chunk, CpuPart, ZoneState, no_chunk, chunk_at}
use Rattle.kz_model.specs.Zone.Whole.{one_if, places, AreWithin, IsCpuPart, IsWhole, IsInOrder}
use Rattle.kz_model.proofs.Standing.{mapped_within}

-- a block that is due has its chunk mapped and its index below count
due_some : (mapped within : Bool) (n : ℕ) → n ≡ one_if (mapped && within) → 0 < n → (mapped ≡ true) × (within ≡ true)
due_some true true n e some = (refl, refl)
due_some true false n e some = absurd (omega (arith, e))
due_some false within n e some = absurd (omega (arith, e))

pub in_order : (p : ZoneParams) (state : ZoneState) → IsWhole p state → IsInOrder p state
in_order p state h = record {
  idle = λ k. (h.chunks k).rises;
  unmapped_idle = λ k e. ap (λ (c : Chunk). c.idle) ((h.chunks k).unmapped e);
  unmapped_bytes = λ k e. ap (λ (c : Chunk). c.bytes) ((h.chunks k).unmapped e);
  mapped_bytes = λ k e. (h.chunks k).bytes e;
  once = λ block mapped lt.
      let within : nat_lt block.index p.count ≡ true = grind arith in
      h.places block ∙ ap (λ b. one_if (b && nat_lt block.index p.count)) mapped ∙ ap (λ b. one_if b) within;
  none = λ block unmapped. h.places block ∙ ap (λ b. one_if (b && nat_lt block.index p.count)) unmapped;
  within = λ block some.
      let there = due_some (chunk_at state.shared.chunks block.chunk).mapped (nat_lt block.index p.count) (places state block) (h.places block) some in
      (mapped_within state.shared.chunks block.chunk there.0, index_within block.index p.count there.1);
  names = All-weaker (IsCpuPart p (length state.shared.chunks)) (λ (own : CpuPart). AreWithin p (length state.shared.chunks) own.names) (λ own is. is.names) state.own h.own;
  cpus = h.cpus;
  stacks = All-weaker (IsCpuPart p (length state.shared.chunks)) (λ (own : CpuPart). length own.stack ≤ 2 * p.magazine) (λ own is. is.stack) state.own h.own;
  depot = h.depot;
  lists = h.lists;
}
  where
    index_within : (index count : ℕ) → nat_lt index count ≡ true → index < count
    index_within index count e = grind arith

no_chunk_is : (c : Chunk) → c.mapped ≡ false → c.idle ≡ [] → c.bytes ≡ [] → c ≡ no_chunk
no_chunk_is c m i b = λ k. record { mapped = m k; idle = i k; bytes = b k }

both_own : (p : ZoneParams) (chunks : ℕ) (owns : List CpuPart) → All (λ (own : CpuPart). length own.stack ≤ 2 * p.magazine) owns → All (λ (own : CpuPart). AreWithin p chunks own.names) owns → All (IsCpuPart p chunks) owns
both_own p chunks owns s n = λ i d lt. record { stack = s i d lt; names = n i d lt }

at_least : (n : ℕ) → (0 < n → false ≡ true) → n ≡ 0
at_least zero there = refl
at_least (suc n) there = let e : false ≡ true = there (omega arith) in absurd (cc)

-- what is due to a block, by what stands where
place_is_due : (mapped within : Bool) (n : ℕ) → (mapped ≡ true → within ≡ true → n ≡ 1) → (mapped ≡ false → n ≡ 0) → (0 < n → within ≡ true) → n ≡ one_if (mapped && within)
place_is_due true true n once none there = once refl refl
place_is_due true false n once none there = at_least n there
place_is_due false within n once none there = none refl

pub whole_of : (p : ZoneParams) (state : ZoneState) → IsInOrder p state → IsWhole p state
whole_of p state h = record {
  chunks = λ k. record { rises = h.idle k; unmapped = λ e. no_chunk_is (chunk_at state.shared.chunks k) e (h.unmapped_idle k e) (h.unmapped_bytes k e); bytes = h.mapped_bytes k };
  places = λ block. place_is_due (chunk_at state.shared.chunks block.chunk).mapped (nat_lt block.index p.count) (places state block)
      (λ mapped lt. h.once block mapped (below block.index p.count lt)) (h.none block) (λ some. above block.index p.count (h.within block some).1);
  depot = h.depot;
  lists = h.lists;
  cpus = h.cpus;
  own = both_own p (length state.shared.chunks) state.own h.stacks h.names;
}
  where
    below : (index count : ℕ) → nat_lt index count ≡ true → index < count
    below index count e = grind arith

    above : (index count : ℕ) → index < count → nat_lt index count ≡ true
    above index count e = grind arith

pub whole_in_words : (p : ZoneParams) (state : ZoneState) → IsWhole p state ↔ IsInOrder p state
whole_in_words p state = (in_order p state, whole_of p state)
