use Rattle.std.proofs.Common.{List, ◌++◌, ◌∙◌, refl, ap, codes, map, []}
use Rattle.kz_model.specs.declared.supply.SupplyEntry.{SupplyEntry}
use Rattle.kz_model.specs.Text.Lines.{ask_line, text_of_lines}
use Rattle.kz_report.proofs.LineTexts.{all_sections}
use Rattle.kz_report.proofs.texts.report_of.Goals as goal

pub returns : goal.returns
returns c =
    let head = codes "report 1\n" in
    all_sections (codes "report 1") (codes "end") _ _ _ _ _ _ [] head c.in_ok-out.out.items c.write_cpus.new.out.items c.write_uses.new.out.items c.write_all_chunks.new.out.items c.write_all_visits.new.out.items c.write_asks.new.out.items c.extend_from_slice.new.self.items
    refl c.in_ok-out.ensures c.in_ok-write_cpus.ensures c.in_ok-write_uses.ensures c.in_ok-write_all_chunks.ensures c.in_ok-write_all_visits.ensures
    (c.in_ok-write_asks.ensures ∙ ap (λ (log : List SupplyEntry). c.write_all_visits.new.out.items ++ text_of_lines (map ask_line log)) c.as_slice-2.ensures) c.in_ok-extend_from_slice.ensures.items
