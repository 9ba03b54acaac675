use Rattle.std.proofs.Common.{List, [], length, slice_index_or, ap, sym, ◌∙◌, arith}
use Rattle.std.proofs.lemmas.List.{get_or_default}
use Rattle.kz_model.specs.declared.bundle.NameRow.{NameRow}
use Rattle.kz_model.specs.Store.NameTable.{no_row}
use Rattle.kz_model.proofs.NameTable.{length-rows, name-there}
use Rattle.kz_model.proofs.store.named.NameRows.name.Goals as goal

pub index-requires : goal.index-requires
index-requires c =
    let i = c.self.inside in
    omega (arith, c.requires, i.names.ok, length-rows i.names.items i.types.items c.self.invariant, ap (λ (l : List NameRow). length l) c.self.view_is)

pub returns : goal.returns
returns c =
    let i = c.self.inside in
    let long = length-rows i.names.items i.types.items c.self.invariant in
    c.index.ensures
    ∙ get_or_default i.names.items c.args.at c.index.result.now [] (omega (arith, c.requires, long, ap (λ (l : List NameRow). length l) c.self.view_is))
    ∙ sym (name-there i.names.items i.types.items c.args.at c.self.invariant)
    ∙ ap (λ (l : List NameRow). (slice_index_or l c.args.at no_row).name) c.self.view_is
