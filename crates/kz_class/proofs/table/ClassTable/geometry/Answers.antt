use Rattle.std.proofs.Common.{ℕ, Option, IsSome, slice_index, unwrap_or, subst, sym, ◌∙◌, rules}
use Rattle.kz_model.specs.Types.Class.{cut, IsFitGeometry}
use Rattle.kz_class.proofs.Classes.{classes_fit}
use Rattle.kz_class.proofs.table.ClassTable.geometry.Goals as goal

pub unwrap-pages-requires : goal.unwrap-pages-requires
unwrap-pages-requires g c =
    let P : Option ℕ → Type 0 = λ o. IsSome o in
    subst P (sym c.least_pages.ensures) (c.self.invariant.classes c.args.class 0 (search rules)).chunk

pub returns-clause-fit : goal.returns-clause-fit
returns-clause-fit g c =
    let element = slice_index c.self.inside.sizes c.args.class in
    let P : Option ℕ → Type 0 = λ o. IsFitGeometry (cut element (unwrap_or o 0)) in
    subst P (sym c.least_pages.ensures ∙ c.unwrap-pages.ensures) (classes_fit element (c.self.invariant.classes c.args.class 0 (search rules)))
