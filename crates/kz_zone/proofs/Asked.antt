-- What filling a stack asks, told of the zone.
use Rattle.std.proofs.Common.{◌≡◌, true, false, not, if◌then◌else◌, List, [], ◌∷◌, length, Option, Result, refl, ap, sym, ◌∙◌, subst, arith}
use Rattle.rand_pcg.specs.Lcg.{Lcg}
use Rattle.kz_model.specs.declared.step.Block.{Block}
use Rattle.kz_model.specs.Zone.Pick.{ask_to_grow, has_idle}
use Rattle.kz_supply.specs.declared.pages.Denied.{Denied}
use Rattle.kz_supply.specs.declared.pages.Want.TheVariants as want
use Rattle.kz_supply.specs.Pages.{SupplyView}
use Rattle.kz_supply.proofs.Views.{used_with}
use Rattle.kz_zone.specs.Chunks.{Chunks}
use Rattle.kz_zone.specs.Growing.{with_chunks, asks_for, growth_want, want_for}
use Rattle.kz_zone.specs.Growth.{HasAsked, chunks_of, growth_asks}
use Rattle.kz_zone.specs.Transit.{Transit}
use Rattle.kz_zone.specs.Zone.{Zone, shared_of, want_of}
use Rattle.kz_zone.proofs.Refilling.{seen}

-- without a list in the depot the zone wants what its chunks want
pub wants_same : (c : Chunks) (lists : List (List Block)) (t : Transit) (words : Option Lcg) → lists ≡ [] → want_of (seen c lists t words) ≡ want_for c.chunks
wants_same c lists t words none =
    ap (λ (l : List (List Block)). want_of (seen c l t words)) none
    ∙ (elim (has_idle (with_chunks c.chunks)) as (λ b. (if not b then growth_want c.chunks else want.Nothing) ≡ (if b then want.Nothing else growth_want c.chunks)) [ true ↦ refl | false ↦ refl ])

-- and asks what they ask
asks_same : (c : Chunks) (t : Transit) (words : Option Lcg) → asks_for c.params c.chunks ≡ growth_asks c.params (shared_of (seen c [] t words))
asks_same c t words =
    let ask = ask_to_grow c.params (with_chunks c.chunks) in
    elim (has_idle (with_chunks c.chunks)) as (λ b. (if b then [] else ask ∷ []) ≡ (if not b then ask ∷ [] else [])) [ true ↦ refl | false ↦ refl ]

-- what the chunks asked is what the zone asked
pub asked_growth : {Base : Type 0} (z : Zone) (before now after : Chunks) (t : Transit) (lists left : List (List Block)) (words drawn : Option Lcg) (result : Result (Unit {0}) Denied) (first last : SupplyView Base) →
    seen before lists t words ≡ z → lists ≡ [] → after.bases ≡ now.bases → length after.chunks ≡ length now.chunks →
    HasAsked (asks_for before.params before.chunks) before now result first last → HasAsked (growth_asks z.params (shared_of z)) (chunks_of z) (chunks_of (seen after left t drawn)) result first last
asked_growth z before now after t lists left words drawn result first last is none bases size a =
    subst (λ (y : Zone). HasAsked (growth_asks y.params (shared_of y)) (chunks_of y) (chunks_of (seen after left t drawn)) result first last) is (record {
      exchanges = a.exchanges;
      used = used_with first last a.exchanges (length before.chunks) (length now.chunks) (length before.chunks) (length after.chunks) a.used (omega (arith, size));
      are = a.are ∙ asks_same before t words ∙ sym (ap (λ (l : List (List Block)). growth_asks before.params (shared_of (seen before l t words))) none);
      fit = a.fit;
      denied = a.denied;
      bases = bases ∙ a.bases;
    })
