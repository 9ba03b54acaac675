-- Stays that carry each CPU's steps round by round, with one log of the supply, are a run.
use Rattle.std.proofs.Common.{◌≡◌, ℕ, ◌<◌, ◌==◌, ◌+◌, ◌&&◌, nat_le, Bool, true, false, if◌then◌else◌, List, [], ◌∷◌, ◌++◌, length, take, drop, map, slice_index_or, Option, None, Some, refl, ap, sym, ◌∙◌, subst, arith, append_assoc, length-append}
use Rattle.std.specs.Option.{option_map_or, unwrap_or}
use Rattle.std.proofs.lemmas.List.{map-append}
use Rattle.std.proofs.lemmas.List.FromFn.{get_or-map-range_with_len, length-map-range_with_len}
use Rattle.kz_model.specs.declared.bundle.Bundle.{Bundle}
use Rattle.kz_model.specs.declared.step.Step.{Step}
use Rattle.kz_model.specs.declared.record.Plan.{Plan}
use Rattle.kz_model.specs.declared.record.Visit.{Visit}
use Rattle.kz_model.specs.declared.record.ZoneParams.{ZoneParams}
use Rattle.kz_model.specs.declared.supply.SupplyEntry.{SupplyEntry}
use Rattle.kz_model.specs.Zone.State.{ZoneState, opening}
use Rattle.kz_model.specs.Zone.Alone.{Course, course, alone}
use Rattle.kz_model.specs.Zone.Late.{by_cpu}
use Rattle.kz_model.specs.Run.Journal.{params_of, steps_of, carried, steps_carried, spell_after, spell, answers_at}
use Rattle.kz_model.specs.Run.Runs.{IsRun, IsRunAt}
use Rattle.kz_laws.specs.declared.stays.Stay.{Stay}
use Rattle.kz_laws.specs.Stays.{visit_in, visits_in, steps_in_stay, steps_in, entries_in, answers_in, steps_made_by}
use Rattle.kz_laws.specs.StayLaws.{AreStaysOfRun, IsCourseOf, journals_of}
use Rattle.kz_laws.proofs.OrderRuns.{used_all}
use Rattle.kz_laws.proofs.StayCourses.{stays_course, take-front, drop-front}

-- ---- the steps that stays carry

pub made_by-append : (cpu round : ℕ) (xs ys : List Stay) → steps_made_by cpu round (xs ++ ys) ≡ steps_made_by cpu round xs ++ steps_made_by cpu round ys
made_by-append cpu round [] ys = refl
made_by-append cpu round (x ∷ xs) ys =
    let first = if (x.cpu == cpu) && (x.round == round) then x.steps else [] in
    ap (λ (l : List Step). first ++ l) (made_by-append cpu round xs ys) ∙ sym (append_assoc first (steps_made_by cpu round xs) (steps_made_by cpu round ys))

pub carried_is : (cpu round : ℕ) (stays : List Stay) → carried cpu round (visits_in stays) ≡ length (steps_made_by cpu round stays)
carried_is cpu round [] = refl
carried_is cpu round (s ∷ stays) =
    let mine = (s.cpu == cpu) && (s.round == round) in
    ap (λ n. (if mine then length s.steps else 0) + n) (carried_is cpu round stays)
    ∙ ap (λ n. n + length (steps_made_by cpu round stays)) (elim mine as (λ t. (if t then length s.steps else 0) ≡ length (if t then s.steps else [])) [ true ↦ refl | false ↦ refl ])
    ∙ sym (length-append (if mine then s.steps else []) (steps_made_by cpu round stays))

of_itself : (s : Stay) (stays : List Stay) → steps_made_by s.cpu s.round (s ∷ stays) ≡ s.steps ++ steps_made_by s.cpu s.round stays
of_itself s stays =
    let cpu : (s.cpu == s.cpu) ≡ true = grind arith in
    let round : (s.round == s.round) ≡ true = grind arith in
    ap (λ t. (if t && (s.round == s.round) then s.steps else []) ++ steps_made_by s.cpu s.round stays) cpu
    ∙ ap (λ t. (if t then s.steps else []) ++ steps_made_by s.cpu s.round stays) round

-- ---- the journal spells them

chosen_steps : (t : Bool) (steps : List (ℕ × Step)) → t ≡ true → (if t then Some steps else None) ≡ Some steps
chosen_steps t steps is = ap (λ t. if t then Some steps else None) is

stay_carried : (b : Bundle) (plan : Plan) (zone : ℕ) (earlier stays : List Stay) (s : Stay) → ((cpu round : ℕ) → steps_made_by cpu round (earlier ++ s ∷ stays) ≡ steps_of b plan cpu zone round) →
    steps_carried b plan zone (visits_in earlier) (visit_in s) ≡ Some (steps_in_stay s)
stay_carried b plan zone earlier stays s are =
    let before = steps_made_by s.cpu s.round earlier in
    let later = steps_made_by s.cpu s.round stays in
    let steps : steps_of b plan s.cpu zone s.round ≡ before ++ (s.steps ++ later) =
    sym (are s.cpu s.round) ∙ made_by-append s.cpu s.round earlier (s ∷ stays) ∙ ap (λ (l : List Step). before ++ l) (of_itself s stays) in
    let from : carried s.cpu s.round (visits_in earlier) ≡ length before = carried_is s.cpu s.round earlier in
    let enough : nat_le (length before + length s.steps) (length (before ++ (s.steps ++ later))) ≡ true =
    grind (arith, length-append before (s.steps ++ later), length-append s.steps later) in
    let here : take (length s.steps) (drop (length before) (before ++ (s.steps ++ later))) ≡ s.steps =
    ap (λ (l : List Step). take (length s.steps) l) (drop-front (length before) before (s.steps ++ later) refl) ∙ take-front (length s.steps) s.steps later refl in
    ap (λ (l : List Step). if nat_le (carried s.cpu s.round (visits_in earlier) + length s.steps) (length l) then Some (by_cpu s.cpu (take (length s.steps) (drop (carried s.cpu s.round (visits_in earlier)) l))) else None) steps
    ∙ ap (λ n. if nat_le (n + length s.steps) (length (before ++ (s.steps ++ later))) then Some (by_cpu s.cpu (take (length s.steps) (drop n (before ++ (s.steps ++ later))))) else None) from
    ∙ chosen_steps (nat_le (length before + length s.steps) (length (before ++ (s.steps ++ later)))) (by_cpu s.cpu (take (length s.steps) (drop (length before) (before ++ (s.steps ++ later))))) enough
    ∙ ap (λ (l : List Step). Some (by_cpu s.cpu l)) here

stays_spelled : (b : Bundle) (plan : Plan) (zone : ℕ) (earlier stays : List Stay) → ((cpu round : ℕ) → steps_made_by cpu round (earlier ++ stays) ≡ steps_of b plan cpu zone round) →
    spell_after b plan zone (visits_in earlier) (visits_in stays) ≡ Some (steps_in stays)
stays_spelled b plan zone earlier [] are = refl
stays_spelled b plan zone earlier (s ∷ stays) are =
    let others : (cpu round : ℕ) → steps_made_by cpu round ((earlier ++ s ∷ []) ++ stays) ≡ steps_of b plan cpu zone round =
    λ cpu round. ap (λ (l : List Stay). steps_made_by cpu round l) (append_assoc earlier (s ∷ []) stays) ∙ are cpu round in
    let rest : spell_after b plan zone (visits_in earlier ++ visit_in s ∷ []) (visits_in stays) ≡ Some (steps_in stays) =
    ap (λ (l : List Visit). spell_after b plan zone l (visits_in stays)) (sym (map-append visit_in earlier (s ∷ []))) ∙ stays_spelled b plan zone (earlier ++ s ∷ []) stays others in
    ap (λ (o : Option (List (ℕ × Step))). option_map_or (λ here. option_map_or (λ rest. Some (here ++ rest)) (spell_after b plan zone (visits_in earlier ++ visit_in s ∷ []) (visits_in stays)) None) o None) (stay_carried b plan zone earlier stays s are)
    ∙ ap (λ (o : Option (List (ℕ × Step))). option_map_or (λ rest. Some (steps_in_stay s ++ rest)) o None) rest

-- ---- the run

from_none : (n : ℕ) → 0 + n ≡ n
from_none n = omega arith

module _ (b : Bundle) (plan : Plan) (stays : ℕ → List Stay) (ends : ℕ → ZoneState) (log : List SupplyEntry) (rounds : List ℕ) (are : AreStaysOfRun b plan stays ends log rounds) where
  abbrev journals : List (List Visit)
  journals = journals_of plan stays

  abbrev params : ℕ → ZoneParams
  params zone = params_of b plan zone

  pub journal_is : (zone : ℕ) → zone < length plan.zones → slice_index_or journals zone [] ≡ visits_in (stays zone)
  journal_is zone there = get_or-map-range_with_len (λ zone. visits_in (stays zone)) 0 (length plan.zones) zone zone [] there (from_none zone)

  pub spelled_is : (zone : ℕ) → zone < length plan.zones → spell b plan journals zone ≡ Some (steps_in (stays zone))
  spelled_is zone there = ap (λ (journal : List Visit). spell_after b plan zone [] journal) (journal_is zone there) ∙ stays_spelled b plan zone [] (stays zone) (are.each zone there).steps

  pub made_of : (zone : ℕ) → zone < length plan.zones → (made : Course) × IsCourseOf (params zone) (opening (params zone)) (stays zone) (ends zone) made
  made_of zone there = stays_course (params zone) (opening (params zone)) (ends zone) (stays zone) (are.each zone there).alone

  abbrev nothing : ℕ → Course
  nothing zone = record { replies = []; asks = []; before = []; end = opening (params zone); left = [] }

  abbrev made_at : ℕ → Course
  made_at zone = unwrap_or (alone (params zone) (steps_in (stays zone)) (answers_at zone log)) (nothing zone)

  pub alone_is : (zone : ℕ) (there : zone < length plan.zones) → alone (params zone) (steps_in (stays zone)) (answers_at zone log) ≡ Some (made_of zone there).0
  alone_is zone there =
      let made = made_of zone there in
      ap (λ (entries : List SupplyEntry). alone (params zone) (steps_in (stays zone)) (answers_in entries)) (sym (are.each zone there).entries)
      ∙ used_all (λ answers. course (params zone) (opening (params zone)) (steps_in (stays zone)) answers) (answers_in (entries_in (stays zone))) made.0 made.1.made_is made.1.used

  run_at : (zone : ℕ) (there : zone < length plan.zones) → IsRunAt b plan (visits_in (stays zone)) log rounds zone (steps_in (stays zone)) (made_of zone there).0
  run_at zone there =
      let at = are.each zone there in
      let made = made_of zone there in
      record {
        in_rounds = at.in_rounds;
        complete = λ cpu round. carried_is cpu round (stays zone) ∙ ap (λ (l : List Step). length l) (at.steps cpu round);
        carries = made.1.carries;
        settles = at.settles;
        alone = alone_is zone there;
        asked = made.1.asked ∙ ap (λ (entries : List SupplyEntry). map (λ (entry : SupplyEntry). entry.ask) entries) at.entries;
        asked_in_round = sym at.timed ∙ sym made.1.asked_in_round;
      }

  pub stays_run : IsRun b plan journals log
  stays_run = record {
    one_journal_each = length-map-range_with_len (λ zone. visits_in (stays zone)) 0 (length plan.zones);
    of_zones = are.of_zones;
    answered = are.answered;
    rounds = rounds;
    one_round_each = are.one_round_each;
    rounds_rise = are.rounds_rise;
    steps = λ zone. steps_in (stays zone);
    made = made_at;
    spelled = spelled_is;
    each = λ zone there.
        subst (λ (journal : List Visit). IsRunAt b plan journal log rounds zone (steps_in (stays zone)) (made_at zone)) (sym (journal_is zone there))
        (subst (λ (c : Course). IsRunAt b plan (visits_in (stays zone)) log rounds zone (steps_in (stays zone)) c) (sym (ap (λ (o : Option Course). unwrap_or o (nothing zone)) (alone_is zone there))) (run_at zone there));
  }
