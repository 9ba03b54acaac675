use Rattle.std.proofs.Common.{refl}
use Rattle.kz_model.specs.declared.supply.SupplyEntry.{SupplyEntry}
use Rattle.kz_model.specs.declared.supply.Ask.TheVariants.{Chunk}
use Rattle.kz_model.specs.declared.supply.Answer.TheVariants.{Base}
use Rattle.kz_report.proofs.BasePages.{more_entries}
use Rattle.kz_report.proofs.pages.Pages.of_log.Goals as goal

pub loop-entry-preserved : goal.loop-entry-preserved
loop-entry-preserved c =
    let no_entry : SupplyEntry = record { zone = 0; ask = Chunk 0 0; answer = Base 0 } in
    more_entries c.args.zones c.args.log.now c.loop-entry.entry-index _ no_entry c.loop-entry.pages c.add.new.self c.loop-entry-test.true refl c.loop-entry.invariant c.in_ok-add.ensures
