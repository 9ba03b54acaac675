use Rattle.std.proofs.Common.{◌≡◌, ◌≢◌, ◌+◌, ◌∷◌, ◌++◌, Err, take, drop, sym, ap, ◌∙◌, subst, arith}
use Rattle.std.proofs.lemmas.List.{take-append-drop, drop_more, length-take-le}
use Rattle.kz_model.specs.declared.bundle.TypeDecl.{TypeDecl}
use Rattle.kz_model.specs.declared.layout.LayoutCause.{LayoutCause}
use Rattle.kz_model.specs.declared.layout.LayoutCause.TheVariants.{Memory}
use Rattle.kz_model.specs.Types.Layouts.{names_of, layouts_of}
use Rattle.kz_layout.proofs.types.layouts.Goals as goal

pub returns-in-Err-clause-fault : goal.returns-in-Err-clause-fault
returns-in-Err-clause-fault c = λ other.
    let types = c.args.types.now in
    let at = c.loop-at.at in
    let decl = c.index-types-at.result in
    let before = take at types in
    let more = drop (at + 1) types in
    let whole : before ++ decl ∷ more ≡ types =
    ap (λ (d : TypeDecl). before ++ d ∷ more) c.index-types-at.is ∙ sym (ap (λ ds. before ++ ds) (drop_more types at decl (omega arith))) ∙ take-append-drop at types in
    let cause : c.in-Err.cause ≢ Memory = subst (λ (x : LayoutCause). x ≢ Memory) c.fault_at.ensures.cause other in
    let first = c.in-Err.ensures.fault cause before more c.loop-at.invariant.laid (ap names_of whole ∙ sym c.loop-at.invariant.named) in
    let place = length-take-le at types (omega arith) ∙ sym (c.fault_at.ensures.place cause) in
    sym (ap layouts_of whole) ∙ first ∙ ap (λ n. Err (record { at = n; cause = c.in-Err.cause })) place
    ∙ ap (λ (x : LayoutCause). Err (record { at = c.fault_at.result.at; cause = x })) (sym c.fault_at.ensures.cause)
