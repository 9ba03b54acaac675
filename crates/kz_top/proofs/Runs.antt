-- What the run of a bundle's order is, and what its record says.
use Rattle.std.proofs.Common.{◌≡◌, ℕ, List, [], ◌∷◌, ◌++◌, map, Result, Ok, Err, IfOk, refl, ap, sym, ◌∙◌, arith}
use Rattle.std.specs.List.{flat_map, range_with_len}
use Rattle.std.proofs.lemmas.List.{ext_get_or, map-append}
use Rattle.std.proofs.lemmas.List.Folds.{flat_map-map}
use Rattle.std.proofs.lemmas.List.FromFn.{get_or-map-range_with_len, length-map-range_with_len}
use Rattle.kz_model.specs.declared.bundle.Bundle.{Bundle}
use Rattle.kz_model.specs.declared.record.Plan.{Plan}
use Rattle.kz_model.specs.declared.record.Record.{Record}
use Rattle.kz_model.specs.declared.record.Visit.{Visit}
use Rattle.kz_model.specs.declared.step.Reply.{Reply}
use Rattle.kz_model.specs.declared.supply.SupplyEntry.{SupplyEntry}
use Rattle.kz_model.specs.Run.Order.{order_run}
use Rattle.kz_model.specs.Types.Planned.{IsPlanned}
use Rattle.kz_model.specs.Run.Recorded.{cpu_answered, cpu_replies, IsAnswered, IsOfOrder}
use Rattle.kz_model.specs.Text.Report.{Answered, all_answered_lines, report_text}
use Rattle.kz_model.specs.Grammar.Spelling.{Spells}
use Rattle.kz_model.specs.Text.Summary.{replies_of_run, summary_text}
use Rattle.kz_model.specs.Grammar.Valid.{layouts_in, plan_in}
use Rattle.kz_model.specs.Text.Report.{replayed_text}
use Rattle.kz_laws.proofs.Isolated.{runs_are_isolated}
use Rattle.kz_bundle.proofs.Validity.{own_text_spells}
use Rattle.kz_bundle.proofs.Zoned.{planned_is_fit, planned_is_valid}
use Rattle.kz_machine.proofs.Apart.{run_of_order}
use Rattle.kz_top.specs.Call.{IsKeptApart}

-- ---- the run

-- the run of the order of a bundle that bytes spell keeps its zones apart
pub kept_apart : (bytes : List ℕ) (b : Bundle) → Spells bytes b → IsKeptApart bytes
kept_apart bytes b spells =
    let planned : IsPlanned b (plan_in b) = record { spelled = own_text_spells bytes b spells; is_plan = refl } in
    let run = order_run b (plan_in b) in
    (b, spells, runs_are_isolated b (plan_in b) run.journals run.log (planned_is_valid planned) (planned_is_fit planned).rows (run_of_order b (plan_in b) planned))

-- ---- the replies

map-flat_map : {X A B : Type 0} (g : A → B) (f : X → List A) (xs : List X) → map g (flat_map f xs) ≡ flat_map (λ x. map g (f x)) xs
map-flat_map g f [] = refl
map-flat_map g f (x ∷ xs) = map-append g (f x) (flat_map f xs) ∙ ap (λ more. map g (f x) ++ more) (map-flat_map g f xs)

replies_by_cpu : (b : Bundle) (plan : Plan) (made : Record) → IsAnswered b plan made →
    made.replies ≡ map (cpu_replies b plan made.visits made.supply) (range_with_len 0 b.cpus)
replies_by_cpu b plan made is =
    ext_get_or [] made.replies (map (cpu_replies b plan made.visits made.supply) (range_with_len 0 b.cpus))
    (is.cpus ∙ sym (length-map-range_with_len (cpu_replies b plan made.visits made.supply) 0 b.cpus))
    (λ cpu inside. is.replies cpu (omega (arith, is.cpus)) ∙ sym (get_or-map-range_with_len (cpu_replies b plan made.visits made.supply) 0 b.cpus cpu cpu [] (omega (arith, is.cpus)) (omega arith)))

-- a record's replies, one CPU's after the other's, are those to all lines
replies_of_lines : (b : Bundle) (plan : Plan) (made : Record) → IsAnswered b plan made →
    flat_map (λ replies. replies) made.replies ≡ map (λ line. line.reply) (all_answered_lines b plan made.visits made.supply)
replies_of_lines b plan made is =
    ap (flat_map (λ (replies : List Reply). replies)) (replies_by_cpu b plan made is)
    ∙ flat_map-map (λ (replies : List Reply). replies) (cpu_replies b plan made.visits made.supply) (range_with_len 0 b.cpus)
    ∙ sym (map-flat_map (λ (line : Answered). line.reply) (cpu_answered b plan made.visits made.supply) (range_with_len 0 b.cpus))

-- so they are those of the run
replies_of_record : (b : Bundle) (plan : Plan) (made : Record) → IsPlanned b plan → IsOfOrder b plan made → flat_map (λ replies. replies) made.replies ≡ replies_of_run b
replies_of_record b plan made h of_order =
    let run = order_run b plan in
    replies_of_lines b plan made of_order.answered
    ∙ ap (λ (journals : List (List Visit)). map (λ line. line.reply) (all_answered_lines b plan journals made.supply)) of_order.visits
    ∙ ap (λ (log : List SupplyEntry). map (λ line. line.reply) (all_answered_lines b plan run.journals log)) of_order.supply
    ∙ ap (λ (plan : Plan). let run = order_run b plan in map (λ line. line.reply) (all_answered_lines b plan run.journals run.log)) h.is_plan

-- ---- the texts of a record

report_of_record : (b : Bundle) (plan : Plan) (made : Record) → IsPlanned b plan → IsOfOrder b plan made → report_text b plan (layouts_in b) made.visits made.supply ≡ replayed_text b
report_of_record b plan made h of_order =
    ap (λ (journals : List (List Visit)). report_text b plan (layouts_in b) journals made.supply) of_order.visits
    ∙ ap (λ (log : List SupplyEntry). report_text b plan (layouts_in b) (order_run b plan).journals log) of_order.supply
    ∙ ap (λ (plan : Plan). let run = order_run b plan in report_text b plan (layouts_in b) run.journals run.log) h.is_plan

pub replayed : {T E : Type 0} (r : Result T E) (items : T → List ℕ) (b : Bundle) (plan : Plan) (made : Record) → IsPlanned b plan → IsOfOrder b plan made →
    IfOk r (λ text. items text ≡ report_text b plan (layouts_in b) made.visits made.supply) → IfOk r (λ text. items text ≡ replayed_text b)
replayed (Ok text) items b plan made h of_order is = is ∙ report_of_record b plan made h of_order
replayed (Err fault) items b plan made h of_order is = tt

pub summarized : {T E : Type 0} (r : Result T E) (items : T → List ℕ) (number bytes : ℕ) (b : Bundle) (plan : Plan) (made : Record) → IsPlanned b plan → IsOfOrder b plan made →
    IfOk r (λ text. items text ≡ summary_text number bytes (flat_map (λ replies. replies) made.replies)) → IfOk r (λ text. items text ≡ summary_text number bytes (replies_of_run b))
summarized (Ok text) items number bytes b plan made h of_order is =
    is ∙ ap (λ (replies : List Reply). summary_text number bytes replies) (replies_of_record b plan made h of_order)
summarized (Err fault) items number bytes b plan made h of_order is = tt
