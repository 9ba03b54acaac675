-- Only an input is refused.
use Rattle.std.proofs.Common.{ℕ, List, rules, subst, sym}
use Rattle.kz_model.specs.Grammar.Spelling.{IsFirstFault}
use Rattle.kz_top.proofs.Outcomes.{reads_if_refused}
use Rattle.kz_top.proofs.answer.answer.Goals as goal

pub returns-in-Err-Refused : goal.returns-in-Err-Refused
returns-in-Err-Refused c =
    let fault = c.in-Err-Refused.ensures.refused c.in-Err-Refused.refusal cc in
    let P : List ℕ → Type 0 = λ bytes. IsFirstFault bytes c.in-Err-Refused.refusal in
    let here : P c.args.bytes.items = subst P c.as_slice.ensures.value fault in
    (reads_if_refused c.made_bundles_spell.ensures c.args.command c.args.bytes.items c.in-Err-Refused.refusal c.requires.made here, rw (sym c.as_slice.ensures.value) (search rules))
