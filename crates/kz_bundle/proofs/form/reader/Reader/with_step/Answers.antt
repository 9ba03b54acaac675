use Rattle.std.proofs.Common.{ℕ, ◌+◌, List, length, subst, sym}
use Rattle.std.specs.Prelude.{IsTrue}
use Rattle.std.specs.List.{All}
use Rattle.kz_model.specs.Grammar.Tokens.{is_name}
use Rattle.kz_bundle.specs.NamedSteps.{named_step_as}
use Rattle.kz_bundle.proofs.Sections.{step_taken, step_sound, named_after, at_more}
use Rattle.kz_bundle.proofs.form.reader.Reader.with_step.Goals as goal

pub returns-clause-takes : goal.returns-clause-takes
returns-clause-takes c =
    step_taken c.args.self.now c.act_of.new.self c.put.new.self c.args.line (named_step_as c.args.said) c.in_ok-act.act c.requires.sound c.if-self-eq1000000.false
    c.in_ok-act.ensures.names c.in_ok-act.ensures.words c.in_ok-put.ensures.ok c.in_ok-act.ensures.meant

pub returns-clause-sound : goal.returns-clause-sound
returns-clause-sound c =
    let r = c.args.self.now in
    let names = c.in_ok-act.ensures.names in
    let named = named_after c.args.said r.tables.names c.requires.named c.requires.sound.names in
    let P : List (List ℕ) → Type 0 = λ names. All (λ name. IsTrue (is_name name)) names in
    step_sound r c.act_of.new.self c.put.new.self c.args.line (named_step_as c.args.said) c.in_ok-act.act c.requires.sound c.if-self-eq1000000.false
    names c.in_ok-act.ensures.words c.in_ok-put.ensures.ok
    (at_more r.place r.header.cpus (length r.before.items) r.steps (r.steps + 1) r.order c.requires.place c.requires.sound.at)
    c.in_ok-act.ensures.within (subst P (sym names) named)
