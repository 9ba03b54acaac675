use Rattle.std.proofs.Common.{List, length, ap, arith}
use Rattle.kz_model.specs.declared.bundle.NameRow.{NameRow}
use Rattle.kz_model.proofs.NameTable.{length-rows}
use Rattle.kz_model.proofs.store.named.NameRows.len.Goals as goal

pub returns : goal.returns
returns c =
    let i = c.self.inside in
    omega (arith, c.len.ensures, i.names.ok, length-rows i.names.items i.types.items c.self.invariant, ap (λ (l : List NameRow). length l) c.self.view_is)
