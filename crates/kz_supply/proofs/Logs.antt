-- A log whose answers are right, and what is added to it.
use Rattle.std.proofs.Common.{◌≡◌, ◌+◌, ◌<◌, ◌≤◌, ℕ, List, [], ◌∷◌, ◌++◌, length, drop, map, refl, sym, subst, ◌∙◌, ap, ap₂, arith, length-append}
use Rattle.std.specs.List.{fold, zip}
use Rattle.std.proofs.Math.Seq.{drop-append_seam}
use Rattle.std.proofs.lemmas.List.{map-append, append_cancel_left, length-map}
use Rattle.std.proofs.lemmas.List.Sums.{fold-append}
use Rattle.kz_model.specs.declared.bundle.Bundle.{Bundle}
use Rattle.kz_model.specs.declared.supply.Ask.{Ask}
use Rattle.kz_model.specs.declared.supply.Ask.TheVariants.{Chunk, Frames, Back}
use Rattle.kz_model.specs.declared.supply.Answer.{Answer}
use Rattle.kz_model.specs.declared.supply.Answer.TheVariants.{Base, Given, NoSpace, NoFrames, Taken}
use Rattle.kz_model.specs.declared.supply.SupplyEntry.{SupplyEntry}
use Rattle.kz_model.specs.Run.Supply.{Stock, opening_stock, answer_of, stock_after, answers_from, supply_answers}
use Rattle.kz_model.specs.Run.Order.{answered}
use Rattle.kz_supply.specs.Exchange.{Exchange, entries_of}
use Rattle.kz_supply.specs.Supply.{Supply, AreAnswered, frames_out, stock_with, stock_of, with_entry, with_exchanges}
use Rattle.kz_supply.specs.Thin.{ThinSupply, AgreesWithLog, thin_with_entry}

abbrev ask_in : SupplyEntry → Ask
ask_in entry = entry.ask

abbrev answer_in : SupplyEntry → Answer
answer_in entry = entry.answer

-- what is left after one more entry
pub stock_of-with_entry : (entry : SupplyEntry) (s : Supply) → stock_of (with_entry entry s) ≡ stock_after (stock_of s) entry.ask entry.answer
stock_of-with_entry entry s = fold-append stock_with (opening_stock s.frames) s.log (entry ∷ [])

-- after a log whose answers are right, more asks are answered from what it leaves
pub answers-append : (pages : ℕ) (stock : Stock) (log : List SupplyEntry) (asks : List Ask) → map answer_in log ≡ answers_from pages stock (map ask_in log) →
    answers_from pages stock (map ask_in log ++ asks) ≡ map answer_in log ++ answers_from pages (fold stock_with stock log) asks
answers-append pages stock [] asks right = refl
answers-append pages stock (e ∷ es) asks right =
    let here : e.answer ≡ answer_of pages stock e.ask = cc in
    let later : map answer_in es ≡ answers_from pages (stock_after stock e.ask (answer_of pages stock e.ask)) (map ask_in es) = cc in
    let next = answers-append pages (stock_after stock e.ask e.answer) es asks (later ∙ ap (λ a. answers_from pages (stock_after stock e.ask a) (map ask_in es)) (sym here)) in
    ap (λ a. a ∷ answers_from pages (stock_after stock e.ask a) (map ask_in es ++ asks)) (sym here) ∙ ap (λ l. e.answer ∷ l) next

-- the supply's answers to the asks of its log and to more asks
pub supply_answers-more : (s : Supply) (asks : List Ask) → AreAnswered s → supply_answers s.frames s.pages (map ask_in s.log ++ asks) ≡ map answer_in s.log ++ answers_from s.pages (stock_of s) asks
supply_answers-more s asks right = answers-append s.pages (opening_stock s.frames) s.log asks right

-- one more entry with the right answer
pub answered_more : (entry : SupplyEntry) (s : Supply) → AreAnswered s → entry.answer ≡ answer_of s.pages (stock_of s) entry.ask → AreAnswered (with_entry entry s)
answered_more entry s right here =
    map-append answer_in s.log (entry ∷ []) ∙ ap (λ a. map answer_in s.log ++ a ∷ []) here ∙ sym (supply_answers-more s (entry.ask ∷ []) right)
    ∙ ap (supply_answers s.frames s.pages) (sym (map-append ask_in s.log (entry ∷ [])))

-- how many frames an ask gives back
abbrev pub given_back : Ask → ℕ
given_back (Chunk submap pages) = 0
given_back (Frames pages) = 0
given_back (Back pages) = pages

-- no more frames become free than are given back
pub free_after : (stock : Stock) (ask : Ask) (answer : Answer) → (stock_after stock ask answer).free ≤ stock.free + given_back ask
free_after stock (Chunk submap pages) (Base page) = omega arith
free_after stock (Chunk submap pages) Given = omega arith
free_after stock (Chunk submap pages) (NoSpace left) = omega arith
free_after stock (Chunk submap pages) (NoFrames free) = omega arith
free_after stock (Chunk submap pages) Taken = omega arith
free_after stock (Frames pages) (Base page) = omega arith
free_after stock (Frames pages) Given = omega arith
free_after stock (Frames pages) (NoSpace left) = omega arith
free_after stock (Frames pages) (NoFrames free) = omega arith
free_after stock (Frames pages) Taken = omega arith
free_after stock (Back pages) (Base page) = omega arith
free_after stock (Back pages) Given = omega arith
free_after stock (Back pages) (NoSpace left) = omega arith
free_after stock (Back pages) (NoFrames free) = omega arith
free_after stock (Back pages) Taken = omega arith

-- how many frames an ask may take
abbrev pub asked_for : Ask → ℕ
asked_for (Chunk submap pages) = pages
asked_for (Frames pages) = pages
asked_for (Back pages) = 0

-- no more frames are taken than are asked for
pub free_kept : (stock : Stock) (ask : Ask) (answer : Answer) → stock.free ≤ (stock_after stock ask answer).free + asked_for ask
free_kept stock (Chunk submap pages) (Base page) = omega arith
free_kept stock (Chunk submap pages) Given = omega arith
free_kept stock (Chunk submap pages) (NoSpace left) = omega arith
free_kept stock (Chunk submap pages) (NoFrames free) = omega arith
free_kept stock (Chunk submap pages) Taken = omega arith
free_kept stock (Frames pages) (Base page) = omega arith
free_kept stock (Frames pages) Given = omega arith
free_kept stock (Frames pages) (NoSpace left) = omega arith
free_kept stock (Frames pages) (NoFrames free) = omega arith
free_kept stock (Frames pages) Taken = omega arith
free_kept stock (Back pages) (Base page) = omega arith
free_kept stock (Back pages) Given = omega arith
free_kept stock (Back pages) (NoSpace left) = omega arith
free_kept stock (Back pages) (NoFrames free) = omega arith
free_kept stock (Back pages) Taken = omega arith

-- one more entry, and what is then left
pub kept_more : (left new : Stock) (unmade capacity now : ℕ) (entry : SupplyEntry) (s : ThinSupply) → AgreesWithLog left unmade capacity s → length s.counted.log < s.counted.room → capacity ≤ now → entry.answer ≡ answer_of s.counted.pages left entry.ask → new ≡ stock_after left entry.ask entry.answer →
    given_back entry.ask ≤ frames_out s.counted → asked_for entry.ask ≤ 8 → AgreesWithLog new unmade now (thin_with_entry entry s)
kept_more left new unmade capacity now entry s before more room answer after few small =
    let here = s.counted in
    let size : length (here.log ++ entry ∷ []) ≡ length here.log + 1 = length-append here.log (entry ∷ []) in
    let kept : left.free ≤ new.free + 8 = omega (arith, small, ap (λ (l : Stock). l.free) after, free_kept left entry.ask entry.answer) in
    let was = before.room in let free = before.free in let same : left.free ≡ (stock_of here).free = ap (λ (l : Stock). l.free) before.left_is in
    let is : new ≡ stock_of (with_entry entry here) = after ∙ ap (λ (l : Stock). stock_after l entry.ask entry.answer) before.left_is ∙ sym (stock_of-with_entry entry here) in
    record {
      left_is = is;
      answers = answered_more entry here before.answers (answer ∙ ap (λ (l : Stock). answer_of here.pages l entry.ask) before.left_is);
      free = let P : Stock → Type 0 = λ l. l.free ≤ here.frames in subst P is (let Q : Stock → Type 0 = λ l. l.free ≤ here.frames in subst Q (sym after) (omega (arith, free_after left entry.ask entry.answer)));
      most = omega (arith, size);
      room = omega arith;
      made = before.made;
      enough = λ whole some. omega (arith, size, kept, before.enough whole some);
    }

-- exchanges are the pairs of their asks and their answers
zip-parts : (exchanges : List Exchange) → zip (map (λ (e : Exchange). e.0) exchanges) (map (λ (e : Exchange). e.1) exchanges) ≡ exchanges
zip-parts [] = refl
zip-parts (e ∷ es) = ap (λ l. e ∷ l) (zip-parts es)

asks_of_entries : (zone : ℕ) (exchanges : List Exchange) → map ask_in (entries_of zone exchanges) ≡ map (λ (e : Exchange). e.0) exchanges
asks_of_entries zone [] = refl
asks_of_entries zone (e ∷ es) = ap (λ l. e.0 ∷ l) (asks_of_entries zone es)

answers_of_entries : (zone : ℕ) (exchanges : List Exchange) → map answer_in (entries_of zone exchanges) ≡ map (λ (e : Exchange). e.1) exchanges
answers_of_entries zone [] = refl
answers_of_entries zone (e ∷ es) = ap (λ l. e.1 ∷ l) (answers_of_entries zone es)

-- exchanges by which a log with right answers grew to one with right answers are answered from what the first one left
pub exchanges_answered : (zone : ℕ) (new : List Exchange) (s : Supply) → AreAnswered s → AreAnswered (with_exchanges zone new s) →
    map (λ (e : Exchange). e.1) new ≡ answers_from s.pages (stock_of s) (map (λ (e : Exchange). e.0) new)
exchanges_answered zone new s before after =
    let asks = map (λ (e : Exchange). e.0) new in
    append_cancel_left (map answer_in s.log) _ _
    (sym (map-append answer_in s.log (entries_of zone new) ∙ ap (λ l. map answer_in s.log ++ l) (answers_of_entries zone new))
    ∙ after ∙ ap (supply_answers s.frames s.pages) (map-append ask_in s.log (entries_of zone new) ∙ ap (λ l. map ask_in s.log ++ l) (asks_of_entries zone new))
    ∙ supply_answers-more s asks before)

-- they are then the asks with the supply's answers after that log
pub entries_answered : (b : Bundle) (zone : ℕ) (new : List Exchange) (s : Supply) → s.frames ≡ b.frames → s.pages ≡ b.pages → AreAnswered s → AreAnswered (with_exchanges zone new s) →
    entries_of zone new ≡ answered b zone s.log (map (λ (e : Exchange). e.0) new)
entries_answered b zone new s frames pages before after =
    let asks = map (λ (e : Exchange). e.0) new in
    let answers : drop (length s.log) (supply_answers b.frames b.pages (map ask_in s.log ++ asks)) ≡ map (λ (e : Exchange). e.1) new =
    ap₂ (λ m n. drop (length s.log) (supply_answers m n (map ask_in s.log ++ asks))) (sym frames) (sym pages)
    ∙ ap₂ drop (sym (length-map s.log answer_in)) (supply_answers-more s asks before)
    ∙ drop-append_seam (map answer_in s.log) (answers_from s.pages (stock_of s) asks) ∙ sym (exchanges_answered zone new s before after) in
    sym (ap (λ l. entries_of zone (zip asks l)) answers ∙ ap (entries_of zone) (zip-parts new))
