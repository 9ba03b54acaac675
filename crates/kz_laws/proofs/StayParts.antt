-- What a CPU has after stays, and the stays that visits and entries tell.
use Rattle.std.proofs.Common.{◌≡◌, ◌≢◌, ℕ, ◌-◌, ◌==◌, true, false, if◌then◌else◌, List, [], ◌∷◌, ◌++◌, length, take, drop, Option, Some, refl, ap, sym, ◌∙◌, arith, length-append}
use Rattle.std.specs.Option.{option_map_or}
use Rattle.std.proofs.lemmas.List.{map-append, length-map}
use Rattle.kz_model.specs.declared.step.Step.{Step}
use Rattle.kz_model.specs.declared.record.Visit.{Visit}
use Rattle.kz_model.specs.declared.record.ZoneParams.{ZoneParams}
use Rattle.kz_model.specs.declared.supply.SupplyEntry.{SupplyEntry}
use Rattle.kz_model.specs.declared.supply.Answer.{Answer}
use Rattle.kz_model.specs.Zone.State.{CpuPart, ZoneState, cpu_part}
use Rattle.kz_model.specs.Zone.Alone.{Course, course}
use Rattle.kz_model.specs.Zone.Late.{by_cpu}
use Rattle.kz_model.proofs.MoreAnswers.{with_more, course-more}
use Rattle.kz_laws.specs.declared.stays.Stay.{Stay}
use Rattle.kz_laws.specs.Stays.{AreStays, HaveSteps, visit_in, visits_in, steps_in_stay, entries_in, answers_in, part_left_by, part_left, stays_by, stay_told, stays_told}
use Rattle.kz_laws.proofs.Delayed.{course_keeps}
use Rattle.kz_laws.proofs.LastVisits.{others-map}
use Rattle.kz_laws.proofs.StayCourses.{take-front, drop-front}

-- ---- what a CPU has

pub stays_leave : (p : ZoneParams) (state end : ZoneState) (cpu : ℕ) (stays : List Stay) → AreStays p state stays end → cpu_part end cpu ≡ part_left (cpu_part state cpu) (stays_by cpu stays)
stays_leave p state end cpu [] are = ap (λ (state : ZoneState). cpu_part state cpu) (sym are)
stays_leave p state end cpu (s ∷ stays) are =
    let rest = stays_leave p are.0.end end cpu stays are.2 in
    elim (s.cpu == cpu) as (λ t. (s.cpu == cpu) ≡ t → cpu_part end cpu ≡ part_left (cpu_part state cpu) (if t then s ∷ stays_by cpu stays else stays_by cpu stays)) [
      | true ↦ λ e.
          let same : s.cpu ≡ cpu = grind arith in
          rest ∙ ap (λ (own : CpuPart). part_left own (stays_by cpu stays)) (ap (λ n. cpu_part are.0.end n) (sym same) ∙ are.1.left)
      | false ↦ λ e.
          let ne : s.cpu ≢ cpu = grind arith in
          rest ∙ ap (λ (own : CpuPart). part_left own (stays_by cpu stays)) (course_keeps p state cpu (steps_in_stay s) (answers_in s.entries) are.0 (others-map cpu s.cpu s.steps ne) are.1.made_is)
    ] refl

-- ---- the stays that are told

module _ (s : Stay) (made : Course) (rest : List SupplyEntry) (used : made.left ≡ []) (replied : made.replies ≡ s.replies) (left : cpu_part made.end s.cpu ≡ part_left_by s) where
  abbrev more : Course
  more = with_more (answers_in rest) made

  left_long : length more.left ≡ length rest
  left_long = ap (λ (l : List Answer). length (l ++ answers_in rest)) used ∙ length-map rest (λ (entry : SupplyEntry). entry.answer)

  own_long : length (s.entries ++ rest) - length more.left ≡ length s.entries
  own_long = omega (arith, left_long, length-append s.entries rest)

  told_here : stay_told (visit_in s) s.steps (s.entries ++ rest) more ≡ s
  told_here =
      ap (λ n. record { round = s.round; cpu = s.cpu; steps = s.steps; replies = made.replies; settled = s.settled; entries = take n (s.entries ++ rest); stack = (cpu_part made.end s.cpu).stack; names = (cpu_part made.end s.cpu).names }) own_long
      ∙ ap (λ (l : List SupplyEntry). record { round = s.round; cpu = s.cpu; steps = s.steps; replies = made.replies; settled = s.settled; entries = l; stack = (cpu_part made.end s.cpu).stack; names = (cpu_part made.end s.cpu).names }) (take-front (length s.entries) s.entries rest refl)
      ∙ ap (λ replies. record { round = s.round; cpu = s.cpu; steps = s.steps; replies = replies; settled = s.settled; entries = s.entries; stack = (cpu_part made.end s.cpu).stack; names = (cpu_part made.end s.cpu).names }) replied
      ∙ ap (λ (own : CpuPart). record { round = s.round; cpu = s.cpu; steps = s.steps; replies = s.replies; settled = s.settled; entries = s.entries; stack = own.stack; names = own.names }) left

  rest_told : drop (length (s.entries ++ rest) - length more.left) (s.entries ++ rest) ≡ rest
  rest_told = ap (λ n. drop n (s.entries ++ rest)) own_long ∙ drop-front (length s.entries) s.entries rest refl

pub told : (p : ZoneParams) (steps : List Visit → Visit → List Step) (state end : ZoneState) (earlier : List Visit) (stays : List Stay) → AreStays p state stays end → HaveSteps steps earlier stays →
    stays_told p steps state earlier (visits_in stays) (entries_in stays) ≡ stays
told p steps state end earlier [] are have = refl
told p steps state end earlier (s ∷ stays) are have =
    let v = visit_in s in
    let made = are.0 in
    let rest = entries_in stays in
    let entries = s.entries ++ rest in
    let go : List Step → Option Course → List Stay = λ here o. option_map_or (λ made. stay_told v here entries made ∷ stays_told p steps made.end (earlier ++ v ∷ []) (visits_in stays) (drop (length entries - length made.left) entries)) o [] in
    let answers : answers_in entries ≡ answers_in s.entries ++ answers_in rest = map-append (λ (entry : SupplyEntry). entry.answer) s.entries rest in
    let course_is : course p state (by_cpu s.cpu s.steps) (answers_in entries) ≡ Some (with_more (answers_in rest) made) =
    ap (λ (l : List Answer). course p state (by_cpu s.cpu s.steps) l) answers ∙ course-more p state (steps_in_stay s) (answers_in s.entries) (answers_in rest) made are.1.made_is in
    ap (λ (here : List Step). go here (course p state (by_cpu s.cpu here) (answers_in entries))) have.0
    ∙ ap (go s.steps) course_is
    ∙ ap (λ (x : Stay). x ∷ stays_told p steps made.end (earlier ++ v ∷ []) (visits_in stays) (drop (length entries - length (with_more (answers_in rest) made).left) entries)) (told_here s made rest are.1.used are.1.replied are.1.left)
    ∙ ap (λ (l : List SupplyEntry). s ∷ stays_told p steps made.end (earlier ++ v ∷ []) (visits_in stays) l) (rest_told s made rest are.1.used are.1.replied are.1.left)
    ∙ ap (λ (l : List Stay). s ∷ l) (told p steps made.end end (earlier ++ v ∷ []) stays are.2 have.1)
