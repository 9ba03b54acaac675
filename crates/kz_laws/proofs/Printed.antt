-- The replies that a report reads for a CPU's round, beside those at its undelayed lines.
use Rattle.std.proofs.Common.{◌≡◌, ◌≢◌, ◌≤◌, ℕ, ◌==◌, ◌+◌, ◌&&◌, Bool, true, false, if◌then◌else◌, List, [], ◌∷◌, ◌++◌, length, take, drop, refl, ap, sym, ◌∙◌, subst, arith, append_assoc, length-append, add-zero}
use Rattle.std.proofs.lemmas.List.{append-nil, length-drop, take_all, take-append-le, drop-append-le}
use Rattle.kz_model.specs.declared.step.Step.{Step}
use Rattle.kz_model.specs.declared.step.Reply.{Reply}
use Rattle.kz_model.specs.declared.record.Visit.{Visit}
use Rattle.kz_model.specs.declared.record.ZoneParams.{ZoneParams}
use Rattle.kz_model.specs.Zone.State.{ZoneState, CpuPart, cpu_part}
use Rattle.kz_model.specs.Zone.Local.{local_answer}
use Rattle.kz_model.specs.Zone.Late.{part_after}
use Rattle.kz_model.specs.Text.Report.{replies_carried}
use Rattle.kz_laws.specs.Undelayed.{replies_at}
use Rattle.kz_model.proofs.LateSteps.{replies_of, replies_of-push, length-replies_of}
use Rattle.kz_laws.proofs.Undelayed.{IsLateNow, mine_or_other}

same_number : (n : ℕ) → (n == n) ≡ true
same_number n = grind arith

other_number : (n m : ℕ) → m ≢ n → (n == m) ≡ false
other_number n m ne = grind arith

-- how many steps these visits carry
abbrev pub total : List Visit → ℕ
total [] = 0
total (v ∷ visits) = v.count + total visits

pub total-push : (visits : List Visit) (v : Visit) → total (visits ++ v ∷ []) ≡ total visits + v.count
total-push [] v = omega arith
total-push (w ∷ visits) v = omega (arith, total-push visits v)

pub replies_at-append : (cpu round : ℕ) (xs ys : List (ℕ × ℕ)) (rs qs : List Reply) → length xs ≡ length rs → replies_at cpu round (xs ++ ys) (rs ++ qs) ≡ replies_at cpu round xs rs ++ replies_at cpu round ys qs
replies_at-append cpu round [] ys [] qs same = refl
replies_at-append cpu round [] ys (r ∷ rs) qs same = absurd (omega arith)
replies_at-append cpu round (x ∷ xs) ys [] qs same = absurd (omega arith)
replies_at-append cpu round (x ∷ xs) ys (r ∷ rs) qs same =
    let again = replies_at-append cpu round xs ys rs qs (omega arith) in
    elim ((x.1 == cpu) && (x.0 == round)) as (λ b. (if b then r ∷ replies_at cpu round (xs ++ ys) (rs ++ qs) else replies_at cpu round (xs ++ ys) (rs ++ qs)) ≡ (if b then r ∷ replies_at cpu round xs rs else replies_at cpu round xs rs) ++ replies_at cpu round ys qs) [
      | true ↦ ap (λ (l : List Reply). r ∷ l) again
      | false ↦ again
    ]

replies_carried-push : (cpu round : ℕ) (visits : List Visit) (v : Visit) (rs qs : List Reply) → total visits ≡ length rs →
    replies_carried cpu round (visits ++ v ∷ []) (rs ++ qs) ≡ replies_carried cpu round visits rs ++ (if (v.cpu == cpu) && (v.round == round) then take v.count qs else [])
replies_carried-push cpu round [] v [] qs h = append-nil (if (v.cpu == cpu) && (v.round == round) then take v.count qs else [])
replies_carried-push cpu round [] v (r ∷ rs) qs h = absurd (omega arith)
replies_carried-push cpu round (w ∷ visits) v rs qs h =
    let le : w.count ≤ length rs = omega arith in
    let left : total visits ≡ length (drop w.count rs) = omega (arith, length-drop w.count rs) in
    let first = if (w.cpu == cpu) && (w.round == round) then take w.count rs else [] in
    ap (λ (l : List Reply). (if (w.cpu == cpu) && (w.round == round) then l else []) ++ replies_carried cpu round (visits ++ v ∷ []) (drop w.count (rs ++ qs))) (take-append-le w.count rs qs le)
    ∙ ap (λ (l : List Reply). first ++ replies_carried cpu round (visits ++ v ∷ []) l) (drop-append-le w.count rs qs le)
    ∙ ap (λ (l : List Reply). first ++ l) (replies_carried-push cpu round visits v (drop w.count rs) qs left)
    ∙ sym (append_assoc first (replies_carried cpu round visits (drop w.count rs)) (if (v.cpu == cpu) && (v.round == round) then take v.count qs else []))

-- the replies to the lines at these places, and those that the visits so far carry with those that are late
pub record ArePrinted (p : ZoneParams) (places : List (ℕ × ℕ)) (journal : List Visit) (now : ℕ) (late : ℕ → List Step) (us ds : List Reply) (end : ZoneState) : Type 0 where
  pub placed : length places ≡ length us
  pub all : total journal ≡ length ds
  pub same : (cpu round : ℕ) → replies_at cpu round places us ≡ replies_carried cpu round journal ds ++ (if now == round then replies_of p (cpu_part end cpu) (late cpu) else [])

push_if : (b : Bool) (c l t : List Reply) → (c ++ (if b then l else [])) ++ (if b then t else []) ≡ c ++ (if b then l ++ t else [])
push_if true c l t = append_assoc c l t
push_if false c l t = append-nil (c ++ [])

pub nothing_if : (b : Bool) (l : List Reply) → l ≡ [] → (if b then l else []) ≡ []
nothing_if true l is = is
nothing_if false l is = refl

-- one more line at this place
one_place : (cpu round now at : ℕ) (places : List (ℕ × ℕ)) (us : List Reply) (reply : Reply) → length places ≡ length us →
    replies_at cpu round (places ++ (now, at) ∷ []) (us ++ reply ∷ []) ≡ replies_at cpu round places us ++ (if (at == cpu) && (now == round) then reply ∷ [] else [])
one_place cpu round now at places us reply same = replies_at-append cpu round places ((now, at) ∷ []) us (reply ∷ []) same

one_longer : (places : List (ℕ × ℕ)) (place : ℕ × ℕ) (us : List Reply) (reply : Reply) → length places ≡ length us → length (places ++ place ∷ []) ≡ length (us ++ reply ∷ [])
one_longer places place us reply same = omega (arith, length-append places (place ∷ []), length-append us (reply ∷ []))

pub printed_late : (p : ZoneParams) (places : List (ℕ × ℕ)) (journal : List Visit) (now : ℕ) (late then' : ℕ → List Step) (us ds : List Reply) (end : ZoneState) (cpu : ℕ) (step : Step) (reply : Reply) →
    ArePrinted p places journal now late us ds end → IsLateNow cpu (late cpu ++ step ∷ []) late then' → reply ≡ (local_answer p (part_after p (cpu_part end cpu) (late cpu)) step).reply →
    ArePrinted p (places ++ (now, cpu) ∷ []) journal now then' (us ++ reply ∷ []) ds end
printed_late p places journal now late then' us ds end cpu step reply is new said =
    record {
      placed = one_longer places (now, cpu) us reply is.placed;
      all = is.all;
      same = λ other round.
          one_place other round now cpu places us reply is.placed
          ∙ ap (λ (l : List Reply). l ++ (if (cpu == other) && (now == round) then reply ∷ [] else [])) (is.same other round)
          ∙ mine_or_other (λ other. (replies_carried other round journal ds ++ (if now == round then replies_of p (cpu_part end other) (late other) else [])) ++ (if (cpu == other) && (now == round) then reply ∷ [] else [])
          ≡ replies_carried other round journal ds ++ (if now == round then replies_of p (cpu_part end other) (then' other) else [])) cpu other
          (let c = replies_carried cpu round journal ds in
          let l = replies_of p (cpu_part end cpu) (late cpu) in
          ap (λ t. (c ++ (if now == round then l else [])) ++ (if t && (now == round) then reply ∷ [] else [])) (same_number cpu)
          ∙ push_if (now == round) c l (reply ∷ [])
          ∙ ap (λ (rs : List Reply). c ++ (if now == round then rs else []))
          (ap (λ (r : Reply). l ++ r ∷ []) said ∙ sym (replies_of-push p (cpu_part end cpu) (late cpu) step) ∙ ap (λ (steps : List Step). replies_of p (cpu_part end cpu) steps) (sym new.mine)))
          (λ ne.
          let c = replies_carried other round journal ds in
          let l = if now == round then replies_of p (cpu_part end other) (late other) else [] in
          ap (λ t. (c ++ l) ++ (if t && (now == round) then reply ∷ [] else [])) (other_number cpu other ne)
          ∙ append-nil (c ++ l)
          ∙ ap (λ (steps : List Step). c ++ (if now == round then replies_of p (cpu_part end other) steps else [])) (sym (new.others other ne)));
    }

-- a visit that carries the late steps, and what it says beyond the replies to them
printed_carried : (p : ZoneParams) (journal : List Visit) (now : ℕ) (late then' : ℕ → List Step) (ds more : List Reply) (end after : ZoneState) (cpu count : ℕ) (settled : Bool) (other round : ℕ) →
    total journal ≡ length ds → IsLateNow cpu [] late then' → count ≡ length (late cpu) + length more → ((other : ℕ) → other ≢ cpu → cpu_part after other ≡ cpu_part end other) →
    (replies_carried other round journal ds ++ (if now == round then replies_of p (cpu_part end other) (late other) else [])) ++ (if (cpu == other) && (now == round) then more else [])
    ≡ replies_carried other round (journal ++ record { round = now; cpu = cpu; count = count; settled = settled } ∷ []) (ds ++ (replies_of p (cpu_part end cpu) (late cpu) ++ more))
    ++ (if now == round then replies_of p (cpu_part after other) (then' other) else [])
printed_carried p journal now late then' ds more end after cpu count settled other round all new long kept =
    let v : Visit = record { round = now; cpu = cpu; count = count; settled = settled } in
    let said = replies_of p (cpu_part end cpu) (late cpu) in
    let whole : take count (said ++ more) ≡ said ++ more = take_all count (said ++ more) (enough (length (said ++ more)) (length said) (length more) (length (late cpu)) count (length-append said more) (length-replies_of p (cpu_part end cpu) (late cpu)) long) in
    mine_or_other (λ other.
    (replies_carried other round journal ds ++ (if now == round then replies_of p (cpu_part end other) (late other) else [])) ++ (if (cpu == other) && (now == round) then more else [])
    ≡ replies_carried other round (journal ++ v ∷ []) (ds ++ (said ++ more)) ++ (if now == round then replies_of p (cpu_part after other) (then' other) else [])) cpu other
    (let c = replies_carried cpu round journal ds in
    let rest : (if now == round then replies_of p (cpu_part after cpu) (then' cpu) else []) ≡ [] = nothing_if (now == round) (replies_of p (cpu_part after cpu) (then' cpu)) (ap (λ (steps : List Step). replies_of p (cpu_part after cpu) steps) new.mine) in
    ap (λ t. (c ++ (if now == round then said else [])) ++ (if t && (now == round) then more else [])) (same_number cpu)
    ∙ push_if (now == round) c said more
    ∙ sym (
    ap (λ (l : List Reply). replies_carried cpu round (journal ++ v ∷ []) (ds ++ (said ++ more)) ++ l) rest
    ∙ append-nil (replies_carried cpu round (journal ++ v ∷ []) (ds ++ (said ++ more)))
    ∙ replies_carried-push cpu round journal v ds (said ++ more) all
    ∙ ap (λ t. c ++ (if t && (now == round) then take count (said ++ more) else [])) (same_number cpu)
    ∙ ap (λ (l : List Reply). c ++ (if now == round then l else [])) whole))
    (λ ne.
    let c = replies_carried other round journal ds in
    let l = if now == round then replies_of p (cpu_part end other) (late other) else [] in
    ap (λ t. (c ++ l) ++ (if t && (now == round) then more else [])) (other_number cpu other ne)
    ∙ append-nil (c ++ l)
    ∙ sym (
    ap (λ (steps : List Step). replies_carried other round (journal ++ v ∷ []) (ds ++ (said ++ more)) ++ (if now == round then replies_of p (cpu_part after other) steps else [])) (new.others other ne)
    ∙ ap (λ (own : CpuPart). replies_carried other round (journal ++ v ∷ []) (ds ++ (said ++ more)) ++ (if now == round then replies_of p own (late other) else [])) (kept other ne)
    ∙ ap (λ (rs : List Reply). rs ++ l)
    (replies_carried-push other round journal v ds (said ++ more) all
    ∙ ap (λ t. c ++ (if t && (now == round) then take count (said ++ more) else [])) (other_number cpu other ne)
    ∙ append-nil c)))
  where
    enough : (n a m l count : ℕ) → n ≡ a + m → a ≡ l → count ≡ l + m → n ≤ count
    enough n a m l count e f g = omega arith

total_after : (journal : List Visit) (v : Visit) (ds said more : List Reply) → total journal ≡ length ds → v.count ≡ length said + length more → total (journal ++ v ∷ []) ≡ length (ds ++ (said ++ more))
total_after journal v ds said more all long = omega (arith, total-push journal v, length-append ds (said ++ more), length-append said more)

pub printed_visit : (p : ZoneParams) (places : List (ℕ × ℕ)) (journal there : List Visit) (now : ℕ) (late then' : ℕ → List Step) (us ds rs : List Reply) (end after : ZoneState) (cpu : ℕ) (reply : Reply) →
    ArePrinted p places journal now late us ds end → IsLateNow cpu [] late then' → ((other : ℕ) → other ≢ cpu → cpu_part after other ≡ cpu_part end other) →
    there ≡ journal ++ record { round = now; cpu = cpu; count = length (late cpu) + 1; settled = false } ∷ [] → rs ≡ ds ++ (replies_of p (cpu_part end cpu) (late cpu) ++ reply ∷ []) →
    ArePrinted p (places ++ (now, cpu) ∷ []) there now then' (us ++ reply ∷ []) rs after
printed_visit p places journal there now late then' us ds rs end after cpu reply is new kept added said =
    subst (λ j. ArePrinted p (places ++ (now, cpu) ∷ []) j now then' (us ++ reply ∷ []) rs after) (sym added) (subst (λ (rs : List Reply). ArePrinted p (places ++ (now, cpu) ∷ []) (journal ++ record { round = now; cpu = cpu; count = length (late cpu) + 1; settled = false } ∷ []) now then' (us ++ reply ∷ []) rs after) (sym said) (record {
      placed = one_longer places (now, cpu) us reply is.placed;
      all = total_after journal _ ds (replies_of p (cpu_part end cpu) (late cpu)) (reply ∷ []) is.all (ap (λ n. n + 1) (sym (length-replies_of p (cpu_part end cpu) (late cpu))));
      same = λ other round.
          one_place other round now cpu places us reply is.placed
          ∙ ap (λ (l : List Reply). l ++ (if (cpu == other) && (now == round) then reply ∷ [] else [])) (is.same other round)
          ∙ printed_carried p journal now late then' ds (reply ∷ []) end after cpu (length (late cpu) + 1) false other round is.all new refl kept;
    }))

pub printed_settled : (p : ZoneParams) (places : List (ℕ × ℕ)) (journal there : List Visit) (now : ℕ) (late then' : ℕ → List Step) (us ds rs : List Reply) (end after : ZoneState) (cpu : ℕ) →
    ArePrinted p places journal now late us ds end → IsLateNow cpu [] late then' → ((other : ℕ) → other ≢ cpu → cpu_part after other ≡ cpu_part end other) →
    there ≡ journal ++ record { round = now; cpu = cpu; count = length (late cpu); settled = true } ∷ [] → rs ≡ ds ++ (replies_of p (cpu_part end cpu) (late cpu) ++ []) →
    ArePrinted p places there now then' us rs after
printed_settled p places journal there now late then' us ds rs end after cpu is new kept added said =
    subst (λ j. ArePrinted p places j now then' us rs after) (sym added) (subst (λ (rs : List Reply). ArePrinted p places (journal ++ record { round = now; cpu = cpu; count = length (late cpu); settled = true } ∷ []) now then' us rs after) (sym said) (record {
      placed = is.placed;
      all = total_after journal _ ds (replies_of p (cpu_part end cpu) (late cpu)) [] is.all (sym (length-replies_of p (cpu_part end cpu) (late cpu)) ∙ sym (add-zero (length (replies_of p (cpu_part end cpu) (late cpu)))));
      same = λ other round.
          is.same other round
          ∙ sym (ap (λ (l : List Reply). (replies_carried other round journal ds ++ (if now == round then replies_of p (cpu_part end other) (late other) else [])) ++ l) (nothing_if ((cpu == other) && (now == round)) [] refl)
          ∙ append-nil (replies_carried other round journal ds ++ (if now == round then replies_of p (cpu_part end other) (late other) else [])))
          ∙ printed_carried p journal now late then' ds [] end after cpu (length (late cpu)) true other round is.all new (sym (add-zero (length (late cpu)))) kept;
    }))

pub printed_same : (p : ZoneParams) (places : List (ℕ × ℕ)) (journal there : List Visit) (now : ℕ) (late then' : ℕ → List Step) (us ds : List Reply) (end : ZoneState) →
    there ≡ journal → ((cpu : ℕ) → then' cpu ≡ late cpu) → ArePrinted p places journal now late us ds end → ArePrinted p places there now then' us ds end
printed_same p places journal there now late then' us ds end same steps is =
    record {
      placed = is.placed;
      all = ap (λ j. total j) same ∙ is.all;
      same = λ cpu round. is.same cpu round ∙ sym (
          ap (λ j. replies_carried cpu round j ds ++ (if now == round then replies_of p (cpu_part end cpu) (then' cpu) else [])) same
          ∙ ap (λ (steps : List Step). replies_carried cpu round journal ds ++ (if now == round then replies_of p (cpu_part end cpu) steps else [])) (steps cpu));
    }

-- without late steps the round makes no difference
pub printed_round : (p : ZoneParams) (places : List (ℕ × ℕ)) (journal : List Visit) (now next : ℕ) (late then' : ℕ → List Step) (us ds : List Reply) (end : ZoneState) →
    ((cpu : ℕ) → late cpu ≡ []) → ((cpu : ℕ) → then' cpu ≡ []) → ArePrinted p places journal now late us ds end → ArePrinted p places journal next then' us ds end
printed_round p places journal now next late then' us ds end none none' is =
    record {
      placed = is.placed;
      all = is.all;
      same = λ cpu round. is.same cpu round ∙ ap (λ (l : List Reply). replies_carried cpu round journal ds ++ l)
          (nothing_if (now == round) (replies_of p (cpu_part end cpu) (late cpu)) (ap (λ (steps : List Step). replies_of p (cpu_part end cpu) steps) (none cpu))
          ∙ sym (nothing_if (next == round) (replies_of p (cpu_part end cpu) (then' cpu)) (ap (λ (steps : List Step). replies_of p (cpu_part end cpu) steps) (none' cpu))));
    }

pub printed_none : (p : ZoneParams) (end : ZoneState) → ArePrinted p [] [] 0 (λ cpu. []) [] [] end
printed_none p end = record { placed = refl; all = refl; same = λ cpu round. sym (nothing_if (0 == round) [] refl) }
