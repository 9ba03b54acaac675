use Rattle.std.proofs.Common.{slice_set, ap, ◌∙◌}
use Rattle.kz_bundle.specs.declared.planned.counts.ZoneLines.{ZoneLines}
use Rattle.kz_bundle.proofs.Counting.{found_within, row_counted, row_few}
use Rattle.kz_bundle.proofs.planned.counts.count_line.Goals as goal

pub bounds-table-zone : goal.bounds-table-zone
bounds-table-zone c =
    found_within c.args.bundle.now c.args.plan.now c.args.cpu c.args.at c.args.table.now c.requires.planned c.requires.cpu c.requires.line c.requires.before c.addressed-zone.result c.addressed-zone.ensures

pub count-requires-clause-cpu : goal.count-requires-clause-cpu
count-requires-clause-cpu c =
    (row_few c.args.bundle.now c.args.plan.now c.args.cpu c.args.at c.args.table.now c.requires.planned c.requires.cpu c.requires.line c.requires.before c.addressed-zone.result c.addressed-zone.ensures c.index-table-zone.result).there

pub count-requires-clause-few : goal.count-requires-clause-few
count-requires-clause-few c =
    (row_few c.args.bundle.now c.args.plan.now c.args.cpu c.args.at c.args.table.now c.requires.planned c.requires.cpu c.requires.line c.requires.before c.addressed-zone.result c.addressed-zone.ensures c.index-table-zone.result).lines

pub count-requires-clause-few_allocating : goal.count-requires-clause-few_allocating
count-requires-clause-few_allocating c =
    (row_few c.args.bundle.now c.args.plan.now c.args.cpu c.args.at c.args.table.now c.requires.planned c.requires.cpu c.requires.line c.requires.before c.addressed-zone.result c.addressed-zone.ensures c.index-table-zone.result).allocating

pub count-requires-clause-few_giving : goal.count-requires-clause-few_giving
count-requires-clause-few_giving c =
    (row_few c.args.bundle.now c.args.plan.now c.args.cpu c.args.at c.args.table.now c.requires.planned c.requires.cpu c.requires.line c.requires.before c.addressed-zone.result c.addressed-zone.ensures c.index-table-zone.result).giving

pub returns : goal.returns
returns c =
    ap (λ (lines : ZoneLines). slice_set c.args.table.now c.addressed-zone.result.0 lines) c.count.ensures
    ∙ row_counted c.args.bundle.now c.args.plan.now c.args.cpu c.args.at c.args.table.now c.requires.planned c.requires.cpu c.requires.line c.requires.before c.addressed-zone.result c.addressed-zone.ensures c.index-table-zone.result
