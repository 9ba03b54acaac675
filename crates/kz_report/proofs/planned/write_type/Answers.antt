use Rattle.std.proofs.Common.{List, ℕ, ◌++◌, ap, ◌∙◌, codes, decimal}
use Rattle.std.specs.String.{string_bytes}
use Rattle.kz_report.proofs.Results.{if_ok}
use Rattle.kz_report.proofs.PlanText.{type_text}
use Rattle.kz_report.proofs.planned.write_type.Goals as goal

pub returns : goal.returns
returns c =
    let layout = c.args.layout.now in
    let F : List ℕ → List ℕ → List ℕ = λ name letters. string_bytes c.args.out.now ++ ((codes "type " ++ (name ++ (codes " size " ++ (decimal layout.size ++ (codes " align " ++ (decimal layout.align ++ (codes " letters " ++ (letters ++ (codes " class " ++ (decimal c.args.class ++ (codes " zone " ++ decimal c.args.zone))))))))))) ++ codes "\n") in
    if_ok c.write.result _ _
    (λ x e. e ∙ ap (λ name. F name c.from_ascii-letters.result.now) c.from_ascii-name.ensures
    ∙ ap (F c.args.name.now) (c.from_ascii-letters.ensures ∙ c.as_slice.ensures)
    ∙ ap (λ (text : List ℕ). string_bytes c.args.out.now ++ text) (type_text c.args.name.now layout c.args.class c.args.zone)) c.write.ensures.bytes
