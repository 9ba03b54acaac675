use Rattle.std.proofs.Common.{◌≡◌, ◌+◌, ◌∷◌, ◌++◌, Err, take, drop, sym, ap, ◌∙◌, arith}
use Rattle.std.proofs.lemmas.List.{take-append-drop, drop_more, length-take-le}
use Rattle.std.proofs.lemmas.Result.{IfErr-weaker}
use Rattle.kz_model.specs.declared.bundle.TypeDecl.{TypeDecl}
use Rattle.kz_model.specs.Store.TypeLines.{no_decl}
use Rattle.kz_model.specs.Types.Layouts.{names_of, layouts_of}
use Rattle.kz_bundle.proofs.stages.typing.add_line.Goals as goal

pub returns-clause-fault : goal.returns-clause-fault
returns-clause-fault c =
    let types = c.args.types.now in
    let at = c.args.at in
    let decl = c.in_ok-decl.decl in
    let before = take at types in
    let more = drop (at + 1) types in
    let whole : before ++ decl ∷ more ≡ types =
    ap (λ (d : TypeDecl). before ++ d ∷ more) c.in_ok-decl.ensures.decl ∙ sym (ap (λ ds. before ++ ds) (drop_more types at no_decl c.requires.place)) ∙ take-append-drop at types in
    IfErr-weaker c.add.result _ _
    (λ cause first other.
    sym (ap layouts_of whole) ∙ first other before more c.requires.laid (ap names_of whole ∙ sym c.requires.named)
    ∙ ap (λ n. Err (record { at = n; cause = cause })) (length-take-le at types (omega arith)))
    c.add.ensures.fault
