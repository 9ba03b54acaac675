use Rattle.std.proofs.Common.{List, ℕ, ◌∙◌, subst}
use Rattle.std.proofs.lemmas.Result.{IfOk-weaker}
use Rattle.kz_plan.specs.ShareLaws.{AreWithin}
use Rattle.kz_plan.specs.Parts.{AreParts}
use Rattle.kz_plan.proofs.Plans.{counts-are, parts-are}
use Rattle.kz_plan.proofs.planning.parts.Goals as goal

pub share-requires-clause-counted : goal.share-requires-clause-counted
share-requires-clause-counted c = counts-are c.args.groups.now c.deref.result.now c.requires.groups (c.deref.ensures.value ∙ c.in_ok-counts.ensures)

pub returns-clause-parts : goal.returns-clause-parts
returns-clause-parts c =
    let counted = c.deref.ensures.value ∙ c.in_ok-counts.ensures in
    IfOk-weaker c.share.result (λ parts. AreWithin c.deref.result.now parts.items c.args.budget) (λ parts. AreParts c.args.groups.now parts.items)
    (λ parts within. parts-are c.args.groups.now parts.items c.args.budget c.requires.groups (subst (λ (counts : List ℕ). AreWithin counts parts.items c.args.budget) counted within)) c.share.ensures.within
