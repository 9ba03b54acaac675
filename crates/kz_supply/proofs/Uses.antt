-- What a zone's use of a supply leaves.
use Rattle.std.proofs.Common.{◌≡◌, ℕ, ◌==◌, List, ◌++◌, length, take, drop, map, sym, ◌∙◌, ap, ap₂, subst}
use Rattle.std.proofs.Math.Seq.{take-length}
use Rattle.std.proofs.lemmas.List.{take-append-drop, append_cancel_left, map-append}
use Rattle.std.proofs.lemmas.List.Elements.{filter-append}
use Rattle.kz_model.specs.declared.supply.SupplyEntry.{SupplyEntry}
use Rattle.kz_model.specs.Run.Journal.{log_at}
use Rattle.kz_supply.specs.Exchange.{Exchange, exchange, exchanges_at, entries_of}
use Rattle.kz_model.specs.declared.bundle.Bundle.{Bundle}
use Rattle.kz_model.specs.Run.Order.{answered}
use Rattle.kz_supply.specs.Supply.{Supply, AreAnswered, with_exchanges}
use Rattle.kz_supply.proofs.Logs.{entries_answered}
use Rattle.kz_supply.specs.Solo.{Start, AreOfZone, supply_at, entries_since}
use Rattle.kz_supply.specs.Thin.{ThinSupply, thin_with_exchanges}
use Rattle.kz_supply.specs.ThinSolo.{ThinStart}
use Rattle.kz_supply.specs.Uses.{base_of, exchanges_of, thin_base_of, thin_exchanges_of}
use Rattle.kz_supply.specs.declared.solo.SoloPages.{SoloPages}
use Rattle.kz_supply.specs.declared.thin_pages.ThinPages.{ThinPages}
use Rattle.kz_model.specs.declared.record.ZoneParams.{ZoneParams}

-- the exchanges of a log are those of its parts
pub exchanges_at-append : (zone : ℕ) (xs ys : List SupplyEntry) → exchanges_at zone (xs ++ ys) ≡ exchanges_at zone xs ++ exchanges_at zone ys
exchanges_at-append zone xs ys =
    ap (λ l. map exchange l) (filter-append (λ entry. entry.zone == zone) xs ys) ∙ map-append exchange (log_at zone xs) (log_at zone ys)

-- a log whose entries since the start are the zone's is what it was, and the zone's exchanges since
pub log_after : (zone start : ℕ) (old now : List SupplyEntry) (new : List Exchange) → take start now ≡ old → AreOfZone zone (drop start now) → exchanges_at zone now ≡ exchanges_at zone old ++ new → now ≡ old ++ entries_of zone new
log_after zone start old now new begun alone asked =
    let parted : now ≡ old ++ drop start now = sym (take-append-drop start now) ∙ ap (λ l. l ++ drop start now) begun in
    let since : exchanges_at zone (drop start now) ≡ new =
    append_cancel_left (exchanges_at zone old) _ _ (sym (exchanges_at-append zone old (drop start now)) ∙ ap (exchanges_at zone) (sym parted) ∙ asked) in
    parted ∙ ap (λ l. old ++ l) (sym alone ∙ ap (entries_of zone) since)

-- A supply whose entries since the start are the zone's is what it was, with the zone's exchanges since.
grown : (zone now_zone start : ℕ) (old now : Supply) (new : List Exchange) → now_zone ≡ zone → supply_at start now ≡ old → AreOfZone now_zone (entries_since start now) → exchanges_at now_zone now.log ≡ exchanges_at zone old.log ++ new → now ≡ with_exchanges zone new old
grown zone now_zone start old now new same at alone asked =
    let log : now.log ≡ old.log ++ entries_of zone new =
    log_after zone start old.log now.log new (ap (λ (s : Supply). s.log) at)
    (let P : ℕ → Type 0 = λ z. AreOfZone z (entries_since start now) in subst P same alone)
    (let P : ℕ → Type 0 = λ z. exchanges_at z now.log ≡ exchanges_at zone old.log ++ new in subst P same asked) in
    ap₂ (λ (s : Supply) l. record s { log = l }) at log

-- the supply as it was when the use began
begun : (start : ℕ) (old from : Supply) → from ≡ old → start ≡ length old.log → supply_at start from ≡ old
begun start old from is at = ap₂ supply_at at is ∙ ap (λ l. record old { log = l }) (take-length old.log)

-- While the base and the parameters stay, the supply is what it was when the use began, with the zone's exchanges since.
pub used : (old : Supply) (from to : SoloPages) (new : List Exchange) → from.supply.now ≡ old → from.start ≡ length old.log → base_of to ≡ base_of from → to.params ≡ from.params → exchanges_of to ≡ exchanges_of from ++ new →
    to.supply.now ≡ with_exchanges from.params.zone new old
used old from to new is start base params asked =
    grown from.params.zone to.params.zone to.start old to.supply.now new (ap (λ (p : ZoneParams). p.zone) params)
    (ap (λ (b : Start). b.supply) base ∙ begun from.start old from.supply.now is start) to.alone
    (let P : Supply → Type 0 = λ s. exchanges_of to ≡ exchanges_at from.params.zone s.log ++ new in subst P is asked)

-- the same of a supply with fewer frames made
pub thin_used : (old : ThinSupply) (from to : ThinPages) (new : List Exchange) → from.supply.now ≡ old → from.start ≡ length old.counted.log → thin_base_of to ≡ thin_base_of from → to.params ≡ from.params → thin_exchanges_of to ≡ thin_exchanges_of from ++ new →
    to.supply.now ≡ thin_with_exchanges from.params.zone new old
thin_used old from to new is start base params asked =
    let counted : to.supply.now.counted ≡ with_exchanges from.params.zone new old.counted =
    grown from.params.zone to.params.zone to.start old.counted to.supply.now.counted new (ap (λ (p : ZoneParams). p.zone) params)
    (ap (λ (b : ThinStart). b.counted.supply) base ∙ begun from.start old.counted from.supply.now.counted (ap (λ (s : ThinSupply). s.counted) is) start) to.alone
    (let P : ThinSupply → Type 0 = λ s. thin_exchanges_of to ≡ exchanges_at from.params.zone s.counted.log ++ new in subst P is asked) in
    let made : to.supply.now.made ≡ old.made = ap (λ (b : ThinStart). b.made) base ∙ ap (λ (s : ThinSupply). s.made) is in
    ap₂ (λ c m. record { counted = c; made = m }) counted made

-- The exchanges of a use are its asks with the supply's answers after the log as it was.
pub thin_used_answered : (b : Bundle) (old : ThinSupply) (from to : ThinPages) (new : List Exchange) → from.supply.now ≡ old → from.start ≡ length old.counted.log → thin_base_of to ≡ thin_base_of from → to.params ≡ from.params → thin_exchanges_of to ≡ thin_exchanges_of from ++ new →
    old.counted.frames ≡ b.frames → old.counted.pages ≡ b.pages → entries_of from.params.zone new ≡ answered b from.params.zone old.counted.log (map (λ (e : Exchange). e.0) new)
thin_used_answered b old from to new is start base params asked frames pages =
    let P : ThinSupply → Type 0 = λ s. AreAnswered s.counted in
    entries_answered b from.params.zone new old.counted frames pages (subst P is from.answers) (subst P (thin_used old from to new is start base params asked) to.answers)
