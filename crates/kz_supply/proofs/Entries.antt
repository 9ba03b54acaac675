-- One more entry of a zone that uses a supply.
use Rattle.std.proofs.Common.{◌≡◌, ◌+◌, ◌≤◌, ◌/◌, ℕ, ◌==◌, true, cond, nat_lt, List, [], ◌∷◌, ◌++◌, length, length-append, map, refl, ◌∙◌, ap, arith}
use Rattle.std.specs.Bool.{IsTrue}
use Rattle.std.proofs.lemmas.Bool.Decides.{nat_tests}
use Rattle.std.proofs.lemmas.List.{take-append-le}
use Rattle.kz_model.specs.declared.supply.Ask.{Ask}
use Rattle.kz_model.specs.declared.supply.Ask.TheVariants.{Frames, Back}
use Rattle.kz_model.specs.declared.supply.Answer.{Answer}
use Rattle.kz_model.specs.declared.supply.Answer.TheVariants.{Base, Given, NoSpace, NoFrames, Taken}
use Rattle.kz_model.specs.declared.supply.SupplyEntry.{SupplyEntry}
use Rattle.kz_model.specs.Run.Supply.{Stock, stock_after, pages_left}
use Rattle.kz_supply.specs.Exchange.{exchange, exchanges_at}
use Rattle.kz_supply.specs.Solo.{supply_at}
use Rattle.kz_supply.specs.Supply.{Supply, room_left, grants_left, stock_of, with_entry}
use Rattle.kz_supply.proofs.Logs.{stock_of-with_entry}
use Rattle.kz_supply.proofs.Uses.{exchanges_at-append}

-- it is the zone's last exchange
pub asked_once : (zone : ℕ) (ask : Ask) (answer : Answer) (log : List SupplyEntry) → exchanges_at zone (log ++ record { zone = zone; ask = ask; answer = answer } ∷ []) ≡ exchanges_at zone log ++ (ask, answer) ∷ []
asked_once zone ask answer log =
    let entry : SupplyEntry = record { zone = zone; ask = ask; answer = answer } in
    let same : (zone == zone) ≡ true = grind arith in
    exchanges_at-append zone log (entry ∷ []) ∙ ap (λ t. exchanges_at zone log ++ map exchange (cond t (entry ∷ []) [])) same

-- the supply as it was when the use began stays
pub begun_same : (start : ℕ) (entry : SupplyEntry) (s : Supply) → start ≤ length s.log → supply_at start (with_entry entry s) ≡ supply_at start s
begun_same start entry s begun = ap (λ (log : List SupplyEntry). record s { log = log }) (take-append-le start s.log (entry ∷ []) begun)

-- where there is room after it there was room before
pub room_before : (entry : SupplyEntry) (s : Supply) → IsTrue (nat_lt 0 (room_left (with_entry entry s))) → IsTrue (nat_lt 0 (room_left s))
room_before entry s can =
    let log : length (s.log ++ entry ∷ []) ≡ length s.log + 1 = length-append s.log (entry ∷ []) in
    grind (arith, nat_tests, log, can)

-- frames that are asked for, or come back, take no page
frames_leave : (pages n submap : ℕ) (stock : Stock) (answer : Answer) → pages_left pages (stock_after stock (Frames n) answer) submap ≡ pages_left pages stock submap
frames_leave pages n submap stock (Base page) = refl
frames_leave pages n submap stock Given = refl
frames_leave pages n submap stock (NoSpace left) = refl
frames_leave pages n submap stock (NoFrames free) = refl
frames_leave pages n submap stock Taken = refl

pub grants_after_frames : (zone n submap pages : ℕ) (s : Supply) (answer : Answer) → grants_left submap pages (with_entry (record { zone = zone; ask = Frames n; answer = answer }) s) ≡ grants_left submap pages s
grants_after_frames zone n submap pages s answer =
    ap (λ (l : Stock). pages_left s.pages l submap / pages) (stock_of-with_entry (record { zone = zone; ask = Frames n; answer = answer }) s) ∙ ap (λ left. left / pages) (frames_leave s.pages n submap (stock_of s) answer)

pub grants_after_back : (zone n submap pages : ℕ) (s : Supply) → grants_left submap pages (with_entry (record { zone = zone; ask = Back n; answer = Taken }) s) ≡ grants_left submap pages s
grants_after_back zone n submap pages s =
    ap (λ (l : Stock). pages_left s.pages l submap / pages) (stock_of-with_entry (record { zone = zone; ask = Back n; answer = Taken }) s)
