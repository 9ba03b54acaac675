-- All sections have the rounds of the last, and their fault is the draft's.
use Rattle.std.proofs.Common.{◌≡◌, ◌-◌, ◌+◌, ◌<◌, List, length, map, sym, ap, ◌∙◌, subst, arith, Option, None}
use Rattle.std.specs.List.{All}
use Rattle.kz_model.specs.declared.bundle.OrderLine.{OrderLine}
use Rattle.kz_model.specs.declared.grammar.Refusal.{Refusal}
use Rattle.kz_model.specs.Grammar.Stages.{rounds_of, left_in, order_from}
use Rattle.kz_bundle.specs.declared.form.parts.Part.{Part}
use Rattle.kz_bundle.specs.Rounds.{IsCountable}
use Rattle.kz_model.specs.Grammar.Tokens.{texts}
use Rattle.kz_bundle.specs.Parts.{section_meant, sections_meant}
use Rattle.kz_bundle.proofs.Columns.{if_ok}
use Rattle.kz_bundle.proofs.AllRounds.{countable, by_order}
use Rattle.kz_bundle.proofs.stages.rounds.rounds_fault.Goals as goal

pub order_fault-requires-clause-countable : goal.order_fault-requires-clause-countable
order_fault-requires-clause-countable c =
    let parts = c.args.parts.now in
    let none : rounds_of (sections_meant parts) ≡ None =
    ap (λ (sections : List Part). rounds_of (map (section_meant (texts parts.names.items) (texts parts.words.items)) sections)) (sym c.as_slice.ensures.value)
    ∙ sym (c.in-None.ensures (texts parts.names.items) (texts parts.words.items)) in
    let there : c.len-last.result - 1 < length parts.sections.items = omega (arith, c.len-last.ensures, parts.sections.ok, c.requires.cpus, c.requires.some_cpus) in
    let P : Part → Type 0 = λ last. All (λ part. IsCountable (last.breaks + 1) part) parts.sections.items in
    subst P (sym c.index.ensures) (countable parts (c.len-last.result - 1) c.index.result.now c.requires none there)

pub returns-in-Some-order : goal.returns-in-Some-order
returns-in-Some-order c =
    let parts = c.args.parts.now in
    let none : rounds_of (sections_meant parts) ≡ None =
    ap (λ (sections : List Part). rounds_of (map (section_meant (texts parts.names.items) (texts parts.words.items)) sections)) (sym c.as_slice.ensures.value)
    ∙ sym (c.in-None.ensures (texts parts.names.items) (texts parts.words.items)) in
    let last : c.len-last.result - 1 ≡ length parts.sections.items - 1 = omega (arith, c.len-last.ensures, parts.sections.ok) in
    let F : Part → List OrderLine → Option Refusal = λ part turns. order_from (sections_meant parts) (part.breaks + 1 - 1) 0 (left_in 0 (sections_meant parts)) (parts.order_at + 1) turns in
    if_ok c.order_fault.result _ _
    (λ fault told.
    by_order parts c.in-Some-order.turns (c.len-last.result - 1) c.index.result.now fault c.requires none c.in-Some-order.is last
    (told ∙ ap (F c.index.result.now) c.as_slice-in-Some-order.ensures ∙ ap (λ part. F part c.in-Some-order.turns) c.index.ensures))
    c.order_fault.ensures
