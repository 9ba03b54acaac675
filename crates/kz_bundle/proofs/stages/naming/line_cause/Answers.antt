-- The four tests of a line, in their order.
use Rattle.std.proofs.Common.{◌≡◌, length, ℕ, List, Option, None, Some, ap, sym, ◌∙◌, subst}
use Rattle.kz_model.specs.declared.grammar.Refusal.{Refusal}
use Rattle.kz_model.specs.Grammar.Spelling.{named_step_of}
use Rattle.kz_model.specs.Grammar.Stages.{else_fault, bound_fault, binds}
use Rattle.kz_model.specs.Store.Traces.{AreNumbered}
use Rattle.kz_bundle.specs.Naming.{at_line, unknown_fault, self_fault}
use Rattle.kz_bundle.proofs.stages.naming.line_cause.Goals as goal

pub type_cause-requires : goal.type_cause-requires
type_cause-requires c =
    let P : ℕ → Type 0 = λ words. AreNumbered (length c.args.rows.now.names) words c.args.act.now in
    (length c.args.rows.now.names, subst P (sym c.requires.declared) c.requires.within)

pub unknown_cause-requires : goal.unknown_cause-requires
unknown_cause-requires c =
    let P : List (List ℕ) → Type 0 = λ names. AreNumbered (length names) (length c.args.rows.now.words) c.args.act.now in
    (length c.args.rows.now.words, subst P (sym c.requires.names) c.requires.within)

pub returns-in-Some : goal.returns-in-Some
returns-in-Some c = λ types line round h.
    let names = c.args.rows.now.names in
    let words = c.args.rows.now.words in
    let said = named_step_of names words c.args.act.now in
    ap (λ (first : Option Refusal). else_fault first (else_fault (bound_fault c.args.rows.now.rows line c.args.cpu (binds said)) (else_fault (unknown_fault c.args.all.now.rows line said) (self_fault c.args.cpu line said))))
    (c.in-Some.ensures types names words line h)

pub returns-in-Some-entry_cause : goal.returns-in-Some-entry_cause
returns-in-Some-entry_cause c = λ types line round h.
    let names = c.args.rows.now.names in
    let words = c.args.rows.now.words in
    let said = named_step_of names words c.args.act.now in
    let rest = else_fault (unknown_fault c.args.all.now.rows line said) (self_fault c.args.cpu line said) in
    ap (λ (first : Option Refusal). else_fault first (else_fault (bound_fault c.args.rows.now.rows line c.args.cpu (binds said)) rest)) (c.in-None.ensures types names words line h)
    ∙ ap (λ (second : Option Refusal). else_fault second rest) (c.in-Some-entry_cause.ensures line)

pub returns-in-Some-unknown_cause : goal.returns-in-Some-unknown_cause
returns-in-Some-unknown_cause c = λ types line round h.
    let names = c.args.rows.now.names in
    let words = c.args.rows.now.words in
    let said = named_step_of names words c.args.act.now in
    let last = self_fault c.args.cpu line said in
    let unknown : unknown_fault c.args.all.now.rows line said ≡ at_line line (Some c.in-Some-unknown_cause.cause) =
    ap (λ names. unknown_fault c.args.all.now.rows line (named_step_of names words c.args.act.now)) (sym c.requires.names) ∙ c.in-Some-unknown_cause.ensures words line in
    ap (λ (first : Option Refusal). else_fault first (else_fault (bound_fault c.args.rows.now.rows line c.args.cpu (binds said)) (else_fault (unknown_fault c.args.all.now.rows line said) last))) (c.in-None.ensures types names words line h)
    ∙ ap (λ (second : Option Refusal). else_fault second (else_fault (unknown_fault c.args.all.now.rows line said) last)) (c.in-None-entry_cause.ensures line)
    ∙ ap (λ (third : Option Refusal). else_fault third last) unknown

pub returns-in-None-unknown_cause : goal.returns-in-None-unknown_cause
returns-in-None-unknown_cause c = λ types line round h.
    let names = c.args.rows.now.names in
    let words = c.args.rows.now.words in
    let said = named_step_of names words c.args.act.now in
    let last = self_fault c.args.cpu line said in
    let unknown : unknown_fault c.args.all.now.rows line said ≡ None =
    ap (λ names. unknown_fault c.args.all.now.rows line (named_step_of names words c.args.act.now)) (sym c.requires.names) ∙ c.in-None-unknown_cause.ensures words line in
    ap (λ (first : Option Refusal). else_fault first (else_fault (bound_fault c.args.rows.now.rows line c.args.cpu (binds said)) (else_fault (unknown_fault c.args.all.now.rows line said) last))) (c.in-None.ensures types names words line h)
    ∙ ap (λ (second : Option Refusal). else_fault second (else_fault (unknown_fault c.args.all.now.rows line said) last)) (c.in-None-entry_cause.ensures line)
    ∙ ap (λ (third : Option Refusal). else_fault third last) unknown
    ∙ c.self_cause.ensures names words line
