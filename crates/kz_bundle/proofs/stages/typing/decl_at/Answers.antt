use Rattle.std.proofs.Common.{rules, ◌≡◌, slice_index_or, sym, subst}
use Rattle.kz_model.specs.Store.TypeLines.{no_decl, IsTypeLine}
use Rattle.kz_bundle.proofs.Declared.{line_sound}
use Rattle.kz_bundle.proofs.stages.typing.decl_at.Goals as goal

pub returns-clause-sound : goal.returns-clause-sound
returns-clause-sound c =
    let line = c.line.result.now in
    let decl = c.in-Some.decl in
    let same : decl ≡ slice_index_or c.args.types.now c.args.at no_decl = search rules in
    line_sound line decl (subst (IsTypeLine line) (sym same) c.line.ensures)
