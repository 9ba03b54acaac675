-- The stock after a log of the supply's answers, and what it answers next.
use Rattle.std.proofs.Common.{◌≡◌, ◌<◌, ◌≤◌, ℕ, suc, ◌+◌, ◌-◌, ◌==◌, nat_lt, true, false, if◌then◌else◌, List, [], ◌∷◌, ◌++◌, length, drop, map, All, slice_index, refl, ap, sym, ◌∙◌, subst, arith}
use Rattle.std.specs.List.{fold}
use Rattle.std.proofs.lemmas.List.{map-append, get_or_past, length-map, length-set, drop_at}
use Rattle.std.proofs.lemmas.List.Elements.{All-append, All-get_or, All-nil, All-cons, All-set, All-replicate, filter-append}
use Rattle.std.proofs.lemmas.List.Sums.{fold-append}
use Rattle.kz_model.specs.declared.bundle.Bundle.{Bundle}
use Rattle.kz_model.specs.declared.record.Plan.{Plan}
use Rattle.kz_model.specs.declared.supply.SupplyEntry.{SupplyEntry}
use Rattle.kz_model.specs.declared.supply.Ask.{Ask}
use Rattle.kz_model.specs.declared.supply.Ask.TheVariants.{Chunk, Frames, Back}
use Rattle.kz_model.specs.declared.supply.Answer.{Answer}
use Rattle.kz_model.specs.declared.supply.Answer.TheVariants.{Base, Given, NoSpace, NoFrames}
use Rattle.kz_laws.specs.Amounts.{stock_of}
use Rattle.kz_model.specs.Run.Supply.{granted_in, returned_in, pages_granted, pages_returned}
use Rattle.kz_model.specs.Run.Journal.{log_at}
use Rattle.kz_laws.specs.PlayedAt.{IsSupplied}
use Rattle.kz_model.specs.Run.Supply.{Stock, opening_stock, pages_left, answer_of, stock_after, answers_from, supply_answers}
use Rattle.kz_laws.proofs.OrderLines.{entries, new_answers}
use Rattle.kz_model.proofs.LineCounts.{same_number}

abbrev asks : List SupplyEntry → List Ask
asks log = map (λ entry. entry.ask) log

abbrev answers : List SupplyEntry → List Answer
answers log = map (λ entry. entry.answer) log

abbrev pub after_log : Stock → List SupplyEntry → Stock
after_log stock log = fold (λ stock entry. stock_after stock entry.ask entry.answer) stock log

same_heads : (a c : Answer) (xs ys : List Answer) → a ∷ xs ≡ c ∷ ys → (a ≡ c) × (xs ≡ ys)
same_heads a c xs ys e = (cc, cc)

-- ---- what a stock answers after a log

pub answers_next : (pages : ℕ) (stock : Stock) (log : List SupplyEntry) (more : List Ask) → answers log ≡ answers_from pages stock (asks log) →
    answers_from pages stock (asks log ++ more) ≡ answers log ++ answers_from pages (after_log stock log) more
answers_next pages stock [] more is = refl
answers_next pages stock (entry ∷ log) more is =
    let first = answer_of pages stock entry.ask in
    let heads = same_heads entry.answer first (answers log) (answers_from pages (stock_after stock entry.ask first) (asks log)) is in
    let next : stock_after stock entry.ask entry.answer ≡ stock_after stock entry.ask first = ap (stock_after stock entry.ask) heads.0 in
    let rest = answers_next pages (stock_after stock entry.ask first) log more heads.1 in
    ap (λ (l : List Answer). first ∷ l) rest
    ∙ ap (λ (a : Answer). a ∷ (answers log ++ answers_from pages (after_log (stock_after stock entry.ask first) log) more)) (sym heads.0)
    ∙ ap (λ (stock : Stock). entry.answer ∷ (answers log ++ answers_from pages (after_log stock log) more)) (sym next)

-- the supply's answers after a log are those of the stock after it
pub new_are : (b : Bundle) (log : List SupplyEntry) (more : List Ask) → answers log ≡ supply_answers b.frames b.pages (asks log) → new_answers b log more ≡ answers_from b.pages (stock_of b log) more
new_are b log more is =
    ap (drop (length log)) (answers_next b.pages (opening_stock b.frames) log more is)
    ∙ drop_at (answers log) (answers_from b.pages (stock_of b log) more) (length log) (length-map log (λ (entry : SupplyEntry). entry.answer))

pub entries_asks : (zone : ℕ) (more : List Ask) (given : List Answer) → length given ≡ length more → asks (entries zone more given) ≡ more
entries_asks zone [] [] same = refl
entries_asks zone [] (a ∷ given) same = refl
entries_asks zone (ask ∷ more) [] same = absurd (omega arith)
entries_asks zone (ask ∷ more) (a ∷ given) same = ap (λ (l : List Ask). ask ∷ l) (entries_asks zone more given (omega arith))

pub entries_answers : (zone : ℕ) (more : List Ask) (given : List Answer) → length given ≡ length more → answers (entries zone more given) ≡ given
entries_answers zone [] [] same = refl
entries_answers zone [] (a ∷ given) same = absurd (omega arith)
entries_answers zone (ask ∷ more) [] same = absurd (omega arith)
entries_answers zone (ask ∷ more) (a ∷ given) same = ap (λ (l : List Answer). a ∷ l) (entries_answers zone more given (omega arith))

pub entries_long : (zone : ℕ) (more : List Ask) (given : List Answer) → length given ≡ length more → length (entries zone more given) ≡ length more
entries_long zone more given same = sym (length-map (entries zone more given) (λ (entry : SupplyEntry). entry.ask)) ∙ ap (λ (l : List Ask). length l) (entries_asks zone more given same)

entries_of : (zone zones : ℕ) (more : List Ask) (given : List Answer) → zone < zones → All (λ entry. entry.zone < zones) (entries zone more given)
entries_of zone zones [] given lt = All-nil (λ (entry : SupplyEntry). entry.zone < zones)
entries_of zone zones (ask ∷ more) [] lt = All-nil (λ (entry : SupplyEntry). entry.zone < zones)
entries_of zone zones (ask ∷ more) (a ∷ given) lt = All-cons (λ (entry : SupplyEntry). entry.zone < zones) (record { zone = zone; ask = ask; answer = a }) (entries zone more given) lt (entries_of zone zones more given lt)

pub length-answers_from : (pages : ℕ) (stock : Stock) (more : List Ask) → length (answers_from pages stock more) ≡ length more
length-answers_from pages stock [] = refl
length-answers_from pages stock (ask ∷ more) = ap (λ n. suc n) (length-answers_from pages (stock_after stock ask (answer_of pages stock ask)) more)

-- ---- the stock's frames and cursors

record IsStock (pages : ℕ) (stock : Stock) : Type 0 where
  cursors : length stock.cursors ≡ 5
  within : All (λ cursor. cursor ≤ pages) stock.cursors

-- after an answer, what is free has less by what was granted and more by what was given back
record Answers (pages : ℕ) (stock next : Stock) (ask : Ask) (answer : Answer) : Type 0 where
  is_stock : IsStock pages next
  free : next.free + pages_granted ask answer ≡ stock.free + pages_returned ask answer

one_answer : (pages : ℕ) (stock : Stock) (ask : Ask) → IsStock pages stock → Answers pages stock (stock_after stock ask (answer_of pages stock ask)) ask (answer_of pages stock ask)
one_answer pages stock (Chunk submap p) is =
    let left = pages_left pages stock submap in
    elim (nat_lt left p) as (λ t. nat_lt left p ≡ t →
    let a : Answer = if t then NoSpace left else if nat_lt stock.free p then NoFrames stock.free else Base (slice_index stock.cursors submap) in Answers pages stock (stock_after stock (Chunk submap p) a) (Chunk submap p) a) [
      | true ↦ λ e. record { is_stock = is; free = refl }
      | false ↦ λ e.
          elim (nat_lt stock.free p) as (λ t. nat_lt stock.free p ≡ t →
          let a : Answer = if t then NoFrames stock.free else Base (slice_index stock.cursors submap) in Answers pages stock (stock_after stock (Chunk submap p) a) (Chunk submap p) a) [
            | true ↦ λ f. record { is_stock = is; free = refl }
            | false ↦ λ f.
                let fit : slice_index stock.cursors submap + p ≤ pages = fits pages (slice_index stock.cursors submap) p (cursor_within submap) e in
                record {
                  is_stock = record { cursors = length-set stock.cursors submap (slice_index stock.cursors submap + p) ∙ is.cursors; within = All-set (λ cursor. cursor ≤ pages) stock.cursors submap (slice_index stock.cursors submap + p) fit is.within };
                  free = enough stock.free p f;
                }
          ] refl
    ] refl
  where
    enough : (free p : ℕ) → nat_lt free p ≡ false → free - p + p ≡ free + 0
    enough free p e = let le : p ≤ free = grind arith in omega arith

    fits : (pages cursor p : ℕ) → cursor ≤ pages → nat_lt (pages - cursor) p ≡ false → cursor + p ≤ pages
    fits pages cursor p le e = let fit : p ≤ pages - cursor = grind arith in omega arith

    cursor_within : (submap : ℕ) → slice_index stock.cursors submap ≤ pages
    cursor_within submap =
        elim (nat_lt submap (length stock.cursors)) as (λ t. nat_lt submap (length stock.cursors) ≡ t → slice_index stock.cursors submap ≤ pages) [
          | true ↦ λ e. let lt : submap < length stock.cursors = grind arith in All-get_or (λ cursor. cursor ≤ pages) stock.cursors submap 0 lt is.within
          | false ↦ λ e. let past : length stock.cursors ≤ submap = grind arith in subst (λ n. n ≤ pages) (sym (get_or_past stock.cursors submap 0 past)) (omega arith)
        ] refl
one_answer pages stock (Frames p) is =
    elim (nat_lt stock.free p) as (λ t. nat_lt stock.free p ≡ t → let a : Answer = if t then NoFrames stock.free else Given in Answers pages stock (stock_after stock (Frames p) a) (Frames p) a) [
      | true ↦ λ e. record { is_stock = is; free = refl }
      | false ↦ λ e. record { is_stock = record { cursors = is.cursors; within = is.within }; free = enough stock.free p e }
    ] refl
  where
    enough : (free p : ℕ) → nat_lt free p ≡ false → free - p + p ≡ free + 0
    enough free p e = let le : p ≤ free = grind arith in omega arith
one_answer pages stock (Back p) is = record { is_stock = record { cursors = is.cursors; within = is.within }; free = omega arith }

-- after these asks
record HasAnswered (pages : ℕ) (stock next : Stock) (log : List SupplyEntry) : Type 0 where
  is_stock : IsStock pages next
  free : next.free + granted_in log ≡ stock.free + returned_in log

all_answers : (pages zone : ℕ) (more : List Ask) (stock : Stock) → IsStock pages stock → let log = entries zone more (answers_from pages stock more) in HasAnswered pages stock (after_log stock log) log
all_answers pages zone [] stock is = record { is_stock = is; free = refl }
all_answers pages zone (ask ∷ more) stock is =
    let a = answer_of pages stock ask in
    let one = one_answer pages stock ask is in
    let rest = all_answers pages zone more (stock_after stock ask a) one.is_stock in
    record { is_stock = rest.is_stock; free = omega (arith, one.free, rest.free) }

-- ---- a log with more entries

pub record HasSupplied (b : Bundle) (plan : Plan) (log more : List SupplyEntry) : Type 0 where
  pub supplied : IsSupplied b plan (log ++ more)
  pub free : (stock_of b (log ++ more)).free + granted_in more ≡ (stock_of b log).free + returned_in more

pub supplies : (b : Bundle) (plan : Plan) (log : List SupplyEntry) (zone : ℕ) (more : List Ask) → zone < length plan.zones → IsSupplied b plan log → HasSupplied b plan log (entries zone more (new_answers b log more))
supplies b plan log zone more lt is =
    let given = answers_from b.pages (stock_of b log) more in
    let given_is : new_answers b log more ≡ given = new_are b log more is.answers in
    let long = length-answers_from b.pages (stock_of b log) more in
    let new = entries zone more given in
    let asks_are : asks (log ++ new) ≡ asks log ++ more = map-append (λ (entry : SupplyEntry). entry.ask) log new ∙ ap (λ (l : List Ask). asks log ++ l) (entries_asks zone more given long) in
    let stock : stock_of b (log ++ new) ≡ after_log (stock_of b log) new = fold-append (λ (stock : Stock) (entry : SupplyEntry). stock_after stock entry.ask entry.answer) (opening_stock b.frames) log new in
    let done = all_answers b.pages zone more (stock_of b log) (record { cursors = is.cursors; within = is.within }) in
    subst (λ (given : List Answer). HasSupplied b plan log (entries zone more given)) (sym given_is) (record {
      supplied = record {
        of_zones = All-append (λ (entry : SupplyEntry). entry.zone < length plan.zones) log new is.of_zones (entries_of zone (length plan.zones) more given lt);
        answers = map-append (λ (entry : SupplyEntry). entry.answer) log new
            ∙ ap (λ (l : List Answer). answers log ++ l) (entries_answers zone more given long)
            ∙ sym (answers_next b.pages (opening_stock b.frames) log more is.answers)
            ∙ ap (λ (asks : List Ask). supply_answers b.frames b.pages asks) (sym asks_are);
        cursors = ap (λ (stock : Stock). length stock.cursors) stock ∙ done.is_stock.cursors;
        within = subst (λ (stock : Stock). All (λ cursor. cursor ≤ b.pages) stock.cursors) (sym stock) done.is_stock.within;
      };
      free = ap (λ (stock : Stock). stock.free + granted_in new) stock ∙ done.free;
    })

pub supplied_at_start : (b : Bundle) (plan : Plan) → IsSupplied b plan []
supplied_at_start b plan = record { of_zones = All-nil (λ (entry : SupplyEntry). entry.zone < length plan.zones); answers = refl; cursors = refl; within = All-replicate (λ cursor. cursor ≤ b.pages) 5 0 (omega arith) }

-- ---- a zone's entries

pub log_here : (zone : ℕ) (more : List Ask) (given : List Answer) → log_at zone (entries zone more given) ≡ entries zone more given
log_here zone [] given = refl
log_here zone (ask ∷ more) [] = refl
log_here zone (ask ∷ more) (a ∷ given) =
    let is = same_number zone in
    rw is (ap (λ (l : List SupplyEntry). record { zone = zone; ask = ask; answer = a } ∷ l) (log_here zone more given))

pub log_elsewhere : (zone other : ℕ) (more : List Ask) (given : List Answer) → (zone == other) ≡ false → log_at other (entries zone more given) ≡ []
log_elsewhere zone other [] given ne = refl
log_elsewhere zone other (ask ∷ more) [] ne = refl
log_elsewhere zone other (ask ∷ more) (a ∷ given) ne = rw ne (log_elsewhere zone other more given ne)

pub log_at-append : (zone : ℕ) (xs ys : List SupplyEntry) → log_at zone (xs ++ ys) ≡ log_at zone xs ++ log_at zone ys
log_at-append zone xs ys = filter-append (λ (entry : SupplyEntry). entry.zone == zone) xs ys
