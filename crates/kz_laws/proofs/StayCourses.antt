-- Stays one after the other are one course.
use Rattle.std.proofs.Common.{◌≡◌, ℕ, ◌≤◌, List, [], ◌∷◌, ◌++◌, length, take, drop, replicate, Option, Some, Bool, refl, ap, sym, ◌∙◌, subst, arith}
use Rattle.std.proofs.lemmas.Grind.{flat_map-append}
use Rattle.std.proofs.lemmas.List.{map-append, length-map, take_all, drop_all, take-append-le, drop-append-le}
use Rattle.kz_model.specs.declared.step.Reply.{Reply}
use Rattle.kz_model.specs.declared.step.Step.{Step}
use Rattle.kz_model.specs.declared.record.ZoneParams.{ZoneParams}
use Rattle.kz_model.specs.declared.supply.SupplyEntry.{SupplyEntry}
use Rattle.kz_model.specs.declared.supply.Ask.{Ask}
use Rattle.kz_model.specs.declared.supply.Answer.{Answer}
use Rattle.kz_model.specs.Zone.State.{ZoneState}
use Rattle.kz_model.specs.Zone.Alone.{Course, course}
use Rattle.kz_model.specs.Run.Runs.{needs_along, Carries, ask_rounds}
use Rattle.kz_model.proofs.Courses.{joined, then_course, course-append}
use Rattle.kz_model.proofs.MoreAnswers.{with_more, course-more}
use Rattle.kz_laws.specs.declared.stays.Stay.{Stay}
use Rattle.kz_laws.specs.Stays.{IsStay, AreStays, visit_in, visits_in, steps_in_stay, steps_in, entries_in, asks_in, answers_in, rounds_in, replies_in}
use Rattle.kz_laws.specs.StayLaws.{IsCourseOf}
use Rattle.kz_laws.proofs.OrderJournals.{all_asks, HasLengths, course_lengths, needs_along-append, length-needs_along}

-- ---- a list behind another

at_most : {n m : ℕ} → n ≡ m → m ≤ n
at_most same = omega arith

at_least : {n m : ℕ} → n ≡ m → n ≤ m
at_least same = omega arith

pub take-front : {A : Type 0} (n : ℕ) (xs ys : List A) → length xs ≡ n → take n (xs ++ ys) ≡ xs
take-front n xs ys long = take-append-le n xs ys (at_most long) ∙ take_all n xs (at_least long)

pub drop-front : {A : Type 0} (n : ℕ) (xs ys : List A) → length xs ≡ n → drop n (xs ++ ys) ≡ ys
drop-front {A} n xs ys long = drop-append-le n xs ys (at_most long) ∙ ap (λ (l : List A). l ++ ys) (drop_all n xs (at_least long))

-- ---- one more stay in front

module _ (p : ZoneParams) (state end : ZoneState) (s : Stay) (stays : List Stay) (c w : Course) (is : IsStay p state s c) (rest : IsCourseOf p c.end stays end w) where
  abbrev here : List (ℕ × Step)
  here = steps_in_stay s

  abbrev later : List Answer
  later = answers_in (entries_in stays)

  lengths : HasLengths here c
  lengths = course_lengths p state here (answers_in s.entries) c is.made_is

  here_long : length here ≡ length s.steps
  here_long = length-map s.steps (λ (step : Step). (s.cpu, step))

  abbrev all : Course
  all = joined (with_more later c) w

  all_made : course p state (here ++ steps_in stays) (answers_in (s.entries ++ entries_in stays)) ≡ Some all
  all_made =
      ap (λ (answers : List Answer). course p state (here ++ steps_in stays) answers) (map-append (λ (entry : SupplyEntry). entry.answer) s.entries (entries_in stays))
      ∙ course-append p state here (steps_in stays) (answers_in s.entries ++ later)
      ∙ ap (λ (r : Option Course). then_course r (λ mid left. course p mid (steps_in stays) left)) (course-more p state here (answers_in s.entries) later c is.made_is)
      ∙ ap (λ (left : List Answer). then_course (Some (with_more later c)) (λ mid unused. course p mid (steps_in stays) (left ++ later))) is.used
      ∙ ap (λ (r : Option Course). then_course (Some (with_more later c)) (λ mid left. r)) rest.made_is

  replied : c.replies ++ w.replies ≡ s.replies ++ replies_in stays
  replied = ap (λ (l : List Reply). l ++ w.replies) is.replied ∙ ap (λ (l : List Reply). s.replies ++ l) rest.replied

  asked : all_asks (c.asks ++ w.asks) ≡ asks_in (s.entries ++ entries_in stays)
  asked =
      flat_map-append (λ (asks : List Ask). asks) c.asks w.asks
      ∙ ap (λ (l : List Ask). l ++ all_asks w.asks) is.asked
      ∙ ap (λ (l : List Ask). asks_in s.entries ++ l) rest.asked
      ∙ sym (map-append (λ (entry : SupplyEntry). entry.ask) s.entries (entries_in stays))

  needs_here : List Bool
  needs_here = needs_along p here c.before

  needs_long : length (needs_along p here c.before) ≡ length s.steps
  needs_long = length-needs_along p here c.before (sym lengths.before) ∙ here_long

  carries : Carries (visit_in s ∷ visits_in stays) (needs_along p (here ++ steps_in stays) (c.before ++ w.before))
  carries =
      let first = needs_along p here c.before in
      let more = needs_along p (steps_in stays) w.before in
      subst (λ (needs : List Bool). Carries (visit_in s ∷ visits_in stays) needs) (sym (needs_along-append p here (steps_in stays) c.before w.before (sym lengths.before))) (
        is.some,
        take-front (length s.steps) first more needs_long ∙ is.needs,
        subst (λ (needs : List Bool). Carries (visits_in stays) needs) (sym (drop-front (length s.steps) first more needs_long)) rest.carries,
      )

  asks_long : length c.asks ≡ length s.steps
  asks_long = lengths.asks ∙ here_long

  entries_long : length (all_asks c.asks) ≡ length s.entries
  entries_long = ap (λ (l : List Ask). length l) is.asked ∙ length-map s.entries (λ (entry : SupplyEntry). entry.ask)

  in_round : ask_rounds (visit_in s ∷ visits_in stays) (c.asks ++ w.asks) ≡ replicate (length s.entries) s.round ++ rounds_in stays
  in_round =
      ap (λ (l : List (List Ask)). replicate (length (all_asks l)) s.round ++ ask_rounds (visits_in stays) (drop (length s.steps) (c.asks ++ w.asks))) (take-front (length s.steps) c.asks w.asks asks_long)
      ∙ ap (λ (l : List (List Ask)). replicate (length (all_asks c.asks)) s.round ++ ask_rounds (visits_in stays) l) (drop-front (length s.steps) c.asks w.asks asks_long)
      ∙ ap (λ (n : ℕ). replicate n s.round ++ ask_rounds (visits_in stays) w.asks) entries_long
      ∙ ap (λ (l : List ℕ). replicate (length s.entries) s.round ++ l) rest.asked_in_round

  one_more : IsCourseOf p state (s ∷ stays) end all
  one_more =
      record { made_is = all_made; used = rest.used; is_end = rest.is_end; replied = replied; asked = asked; carries = carries; asked_in_round = in_round }

pub stays_course : (p : ZoneParams) (state end : ZoneState) (stays : List Stay) → AreStays p state stays end → (made : Course) × IsCourseOf p state stays end made
stays_course p state end [] same =
    (record { replies = []; asks = []; before = []; end = state; left = [] }, record { made_is = refl; used = refl; is_end = same; replied = refl; asked = refl; carries = refl; asked_in_round = refl })
stays_course p state end (s ∷ stays) are =
    let rest = stays_course p are.0.end end stays are.2 in
    (joined (with_more (answers_in (entries_in stays)) are.0) rest.0, one_more p state end s stays are.0 rest.0 are.1 rest.1)
