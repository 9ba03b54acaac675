-- A run has no more replies than its bundle has lines.
use Rattle.std.proofs.Common.{◌≡◌, ◌<◌, ◌^◌, ℕ, List, [], ◌∷◌, ◌++◌, length, sum_by, suc, refl, ap, sym, ◌∙◌, arith}
use Rattle.std.specs.List.{flat_map, range_with_len}
use Rattle.std.proofs.Math.ListN.{get_or}
use Rattle.std.proofs.lemmas.List.{length-append, length-map}
use Rattle.std.proofs.lemmas.List.Concat.{length-flat_map}
use Rattle.std.proofs.lemmas.List.Sums.{sum_by-cons}
use Rattle.kz_model.specs.declared.bundle.Bundle.{Bundle}
use Rattle.kz_model.specs.declared.bundle.TraceStep.{TraceStep}
use Rattle.kz_model.specs.declared.record.Plan.{Plan}
use Rattle.kz_model.specs.declared.record.Record.{Record}
use Rattle.kz_model.specs.declared.record.Visit.{Visit}
use Rattle.kz_model.specs.declared.step.Reply.{Reply}
use Rattle.kz_model.specs.declared.supply.SupplyEntry.{SupplyEntry}
use Rattle.kz_model.specs.Run.Journal.{trace_of, lines_of_round}
use Rattle.kz_model.specs.Types.Planned.{IsPlanned}
use Rattle.kz_model.specs.Run.Recorded.{cpu_answered, cpu_replies, IsOfOrder}
use Rattle.kz_model.specs.Text.Report.{Answered, answered_after, answered_lines}
use Rattle.kz_model.specs.Grammar.Valid.{IsValid}
use Rattle.kz_model.proofs.TraceRounds.{trace_by_rounds}
use Rattle.kz_bundle.proofs.Zoned.{planned_is_valid}

answered-length : (b : Bundle) (plan : Plan) (journals : List (List Visit)) (log : List SupplyEntry) (cpu round : ℕ) (earlier lines : List TraceStep) →
    length (answered_after b plan journals log cpu round earlier lines) ≡ length lines
answered-length b plan journals log cpu round earlier [] = refl
answered-length b plan journals log cpu round earlier (line ∷ lines) = omega (arith, answered-length b plan journals log cpu round (earlier ++ line ∷ []) lines)

-- two lists of lists, of which each list of one has the length of its fellow
flat-length : {A B : Type 0} (f : ℕ → List A) (g : ℕ → List B) (xs : List ℕ) → ((x : ℕ) → length (f x) ≡ length (g x)) → length (flat_map f xs) ≡ length (flat_map g xs)
flat-length f g [] same = refl
flat-length f g (x ∷ xs) same = omega (arith, same x, flat-length f g xs same, length-append (f x) (flat_map f xs), length-append (g x) (flat_map g xs))

replies-length : (b : Bundle) (plan : Plan) (journals : List (List Visit)) (log : List SupplyEntry) (cpu : ℕ) → IsValid b → length (cpu_replies b plan journals log cpu) ≡ length (trace_of b cpu)
replies-length b plan journals log cpu valid =
    length-map (cpu_answered b plan journals log cpu) (λ (line : Answered). line.reply)
    ∙ flat-length (λ round. answered_lines b plan journals log cpu round) (λ round. lines_of_round b cpu round) (range_with_len 0 b.rounds)
    (λ round. answered-length b plan journals log cpu round [] (lines_of_round b cpu round))
    ∙ ap (λ (trace : List TraceStep). length trace) (sym (trace_by_rounds b valid cpu))

-- lists, each as long as its fellow, have as much in all
same-sum : {A B : Type 0} (xs : List (List A)) (ys : List (List B)) → length xs ≡ length ys → ((i : ℕ) → i < length xs → length (get_or xs i []) ≡ length (get_or ys i [])) →
    sum_by length xs ≡ sum_by length ys
same-sum [] [] long same = refl
same-sum [] (y ∷ ys) long same = absurd (omega (arith, long))
same-sum (x ∷ xs) [] long same = absurd (omega (arith, long))
same-sum (x ∷ xs) (y ∷ ys) long same =
    omega (arith, sum_by-cons length x xs, sum_by-cons length y ys, same 0 (omega arith), same-sum xs ys (omega (arith, long)) (λ i lt. same (suc i) (omega arith)))

pub few_replies : (b : Bundle) (plan : Plan) (made : Record) → IsPlanned b plan → IsOfOrder b plan made → length (flat_map (λ replies. replies) made.replies) < 2 ^ 32
few_replies b plan made h of_order =
    let all : length (flat_map (λ (replies : List Reply). replies) made.replies) ≡ sum_by length made.replies = length-flat_map (λ (replies : List Reply). replies) made.replies in
    let same : sum_by length made.replies ≡ sum_by length b.traces =
    same-sum made.replies b.traces (of_order.answered.cpus ∙ sym (planned_is_valid h).traces) (λ cpu inside.
    ap (λ (replies : List Reply). length replies) (of_order.answered.replies cpu (omega (arith, of_order.answered.cpus, inside))) ∙ replies-length b plan made.visits made.supply cpu (planned_is_valid h)) in
    omega (arith, all, same, (planned_is_valid h).few_steps)
