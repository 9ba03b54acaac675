-- How much a zone has along a course, and after stays.
use Rattle.std.proofs.Common.{◌≡◌, ℕ, ◌+◌, ◌*◌, ◌≤◌, List, [], ◌∷◌, ◌++◌, length, take, drop, map, Some, refl, ap, sym, ◌∙◌, subst, arith, length-append}
use Rattle.std.specs.List.{filter_map, zip}
use Rattle.std.proofs.lemmas.Option.{same_Some}
use Rattle.std.proofs.lemmas.List.{map-append, length-map, take-append-drop}
use Rattle.kz_model.specs.declared.record.ZoneParams.{ZoneParams}
use Rattle.kz_model.specs.declared.step.Step.{Step}
use Rattle.kz_model.specs.declared.supply.Ask.{Ask}
use Rattle.kz_model.specs.declared.supply.Answer.{Answer}
use Rattle.kz_model.specs.declared.supply.SupplyEntry.{SupplyEntry}
use Rattle.kz_model.specs.Zone.State.{ZoneState, opening, cpu_part}
use Rattle.kz_model.specs.Zone.Rules.{Stepped, all_answered, part_of, put_back, alone_step}
use Rattle.kz_model.specs.Zone.Alone.{Course, course}
use Rattle.kz_model.specs.Run.Journal.{page_of}
use Rattle.kz_model.specs.Run.Supply.{pages_granted, pages_returned, granted_in, returned_in}
use Rattle.kz_model.proofs.Grants.{granted_in-append, returned_in-append}
use Rattle.kz_laws.specs.declared.stays.Stay.{Stay}
use Rattle.kz_laws.specs.Amounts.{mapped_count, new_gifts, new_chunks_most, gifts_most_in, chunks_most_in}
use Rattle.kz_laws.specs.Stays.{AreStays, steps_in, entries_in, asks_in, answers_in}
use Rattle.kz_laws.specs.StayAmounts.{HoldsWithin}
use Rattle.kz_laws.proofs.Amounts.{Amounts, effect_amounts}
use Rattle.kz_laws.proofs.LastVisits.{goes}
use Rattle.kz_laws.proofs.OrderJournals.{all_asks, zip-append}
use Rattle.kz_laws.proofs.OrderLines.{entries}
use Rattle.kz_laws.proofs.StayCourses.{stays_course}
use Rattle.kz_laws.proofs.WholeCourses.{chosen, first_answers, pages_split}

-- ---- a step

record StepAmounts (p : ZoneParams) (state : ZoneState) (step : Step) (answers : List Answer) (o : Stepped) : Type 0 where
  amounts : Amounts p 0 state.shared o.state.shared o.asks (take (length o.asks) answers) (new_gifts step) (new_chunks_most step)
  long : length (take (length o.asks) answers) ≡ length o.asks
  left : o.left ≡ drop (length o.asks) answers

step_amounts : (p : ZoneParams) (state : ZoneState) (cpu : ℕ) (step : Step) (answers : List Answer) (o : Stepped) → alone_step p state cpu step answers ≡ Some o → StepAmounts p state step answers o
step_amounts p state cpu step answers o made =
    let own = cpu_part state cpu in
    let part = part_of p state.shared cpu own step answers in
    let is = chosen (all_answered part.asks answers) (put_back state cpu part) o made in
    let first = first_answers part.asks answers is.0 in
    subst (StepAmounts p state step answers) is.1 (record { amounts = effect_amounts p 0 state.shared cpu own step (take (length part.asks) answers) first.0 first.1; long = first.1; left = refl })

-- ---- a course

abbrev page_count : List Answer → ℕ
page_count answers = length (filter_map page_of answers)

record CourseAmounts (p : ZoneParams) (state : ZoneState) (steps : List (ℕ × Step)) (answers : List Answer) (c : Course) : Type 0 where
  pages : p.pages * mapped_count c.end.shared.chunks + returned_in (entries 0 (all_asks c.asks) answers) ≡ p.pages * mapped_count state.shared.chunks + granted_in (entries 0 (all_asks c.asks) answers)
  entries_few : length (all_asks c.asks) + mapped_count c.end.shared.chunks ≤ mapped_count state.shared.chunks + 2 * chunks_most_in steps
  gifts : length c.end.shared.transit ≤ length state.shared.transit + gifts_most_in steps
  bases : length c.end.shared.chunks + page_count c.left ≡ length state.shared.chunks + page_count answers
  chunks_few : length c.end.shared.chunks ≤ length state.shared.chunks + chunks_most_in steps

-- the entries of asks, and of more asks with the answers behind
entries-split : (asks more : List Ask) (answers : List Answer) → length (take (length asks) answers) ≡ length asks →
    entries 0 (asks ++ more) answers ≡ entries 0 asks (take (length asks) answers) ++ entries 0 more (drop (length asks) answers)
entries-split asks more answers long =
    let first = take (length asks) answers in
    let rest = drop (length asks) answers in
    let entry : Ask × Answer → SupplyEntry = λ pair. record { zone = 0; ask = pair.0; answer = pair.1 } in
    ap (λ (l : List Answer). entries 0 (asks ++ more) l) (sym (take-append-drop (length asks) answers))
    ∙ ap (λ (l : List (Ask × Answer)). map entry l) (zip-append asks more first rest (sym long))
    ∙ map-append entry (zip asks first) (zip more rest)

course_amounts : (p : ZoneParams) (state : ZoneState) (steps : List (ℕ × Step)) (answers : List Answer) (c : Course) → course p state steps answers ≡ Some c → CourseAmounts p state steps answers c
course_amounts p state [] answers c is =
    subst (CourseAmounts p state [] answers) (same_Some (record { replies = []; asks = []; before = []; end = state; left = answers }) c is)
    (record { pages = refl; entries_few = omega arith; gifts = omega arith; bases = refl; chunks_few = omega arith })
course_amounts p state (step ∷ steps) answers c is =
    let g = goes p state step steps answers c is in
    let o = g.stepped in
    let here = step_amounts p state step.0 step.1 answers o g.one in
    let amounts = here.amounts in
    let given = take (length o.asks) answers in
    let later = drop (length o.asks) answers in
    let rest = subst (λ (left : List Answer). (r : Course) → course p o.state steps left ≡ Some r → CourseAmounts p o.state steps left r) here.left (λ r. course_amounts p o.state steps o.left r) g.rest
    (ap (λ (left : List Answer). course p o.state steps left) (sym here.left) ∙ g.more) in
    let more = all_asks g.rest.asks in
    let all = entries-split o.asks more answers here.long in
    let granted : granted_in (entries 0 (o.asks ++ more) answers) ≡ granted_in (entries 0 o.asks given) + granted_in (entries 0 more later) = ap granted_in all ∙ granted_in-append (entries 0 o.asks given) (entries 0 more later) in
    let returned : returned_in (entries 0 (o.asks ++ more) answers) ≡ returned_in (entries 0 o.asks given) + returned_in (entries 0 more later) = ap returned_in all ∙ returned_in-append (entries 0 o.asks given) (entries 0 more later) in
    subst (CourseAmounts p state (step ∷ steps) answers) g.is (record {
      pages = omega (arith, amounts.pages, rest.pages, granted, returned);
      entries_few = omega (arith, amounts.entries_few, rest.entries_few, length-append o.asks more);
      gifts = omega (arith, amounts.transit, rest.gifts);
      bases = omega (arith, amounts.chunks, rest.bases, pages_split (length o.asks) answers);
      chunks_few = omega (arith, amounts.chunks_few, rest.chunks_few);
    })

-- ---- stays

same_pages : (own : List SupplyEntry) → (granted_in (entries 0 (asks_in own) (answers_in own)) ≡ granted_in own) × (returned_in (entries 0 (asks_in own) (answers_in own)) ≡ returned_in own)
same_pages [] = (refl, refl)
same_pages (entry ∷ own) =
    let rest = same_pages own in (ap (λ n. pages_granted entry.ask entry.answer + n) rest.0, ap (λ n. pages_returned entry.ask entry.answer + n) rest.1)

pub holds_within : (p : ZoneParams) (end : ZoneState) (stays : List Stay) → AreStays p (opening p) stays end → HoldsWithin p stays end
holds_within p end stays are =
    let made = stays_course p (opening p) end stays are in
    let c = made.0 in
    let is = made.1 in
    let own = entries_in stays in
    let amounts = course_amounts p (opening p) (steps_in stays) (answers_in own) c is.made_is in
    let same = same_pages own in
    let granted : granted_in (entries 0 (all_asks c.asks) (answers_in own)) ≡ granted_in own = ap (λ (asks : List Ask). granted_in (entries 0 asks (answers_in own))) is.asked ∙ same.0 in
    let returned : returned_in (entries 0 (all_asks c.asks) (answers_in own)) ≡ returned_in own = ap (λ (asks : List Ask). returned_in (entries 0 asks (answers_in own))) is.asked ∙ same.1 in
    let none : page_count c.left ≡ 0 = ap page_count is.used in
    let long : length (all_asks c.asks) ≡ length own = ap (λ (asks : List Ask). length asks) is.asked ∙ length-map own (λ (entry : SupplyEntry). entry.ask) in
    let nothing : p.pages * 0 ≡ 0 = omega arith in
    subst (HoldsWithin p stays) is.is_end (record {
      pages = omega (arith, amounts.pages, granted, returned, nothing);
      bases = omega (arith, amounts.bases, none);
      chunks = omega (arith, amounts.chunks_few);
      entries = omega (arith, amounts.entries_few, long);
      gifts = omega (arith, amounts.gifts);
    })
