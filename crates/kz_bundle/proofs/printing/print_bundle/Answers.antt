use Rattle.std.proofs.Common.{List, ℕ, subst, sym}
use Rattle.kz_model.specs.Grammar.Spelling.{Spells}
use Rattle.kz_bundle.proofs.Printed.{bundle_printed}
use Rattle.kz_bundle.proofs.Validity.{spelled_is_valid}
use Rattle.kz_bundle.proofs.printing.print_bundle.Goals as goal

pub print_sections-requires-clause-rounds : goal.print_sections-requires-clause-rounds
print_sections-requires-clause-rounds c = (spelled_is_valid c.args.bundle.now c.requires).rounds.0

pub print_sections-requires-clause-steps : goal.print_sections-requires-clause-steps
print_sections-requires-clause-steps c = (spelled_is_valid c.args.bundle.now c.requires).steps

pub returns-clause-text : goal.returns-clause-text
returns-clause-text c =
    bundle_printed c.args.bundle.now c.new-out.result.items _ _ _ _ _ c.new-out.ensures.items c.in_ok-print_header.ensures c.in_ok-print_types.ensures c.in_ok-print_sections.ensures c.in_ok-print_order.ensures
    c.in_ok-extend_from_slice.ensures.items

pub returns-clause-spelled : goal.returns-clause-spelled
returns-clause-spelled c =
    let b = c.args.bundle.now in
    subst (λ (text : List ℕ). Spells text b) (sym (returns-clause-text c)) c.requires
