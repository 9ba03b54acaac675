use Rattle.std.specs.List.{range_with_len}
use Rattle.std.proofs.Common.{map, ◌≡◌, ◌+◌, ℕ, ◌∷◌, [], ◌++◌, ap, sym, ◌∙◌, arith, List}
use Rattle.std.proofs.lemmas.List.FromFn.{map-range_with_len_more}
use Rattle.kz_cpu.specs.Cpu.{Cpu, opened_cpu}
use Rattle.kz_machine.proofs.opening.cpus_of.Goals as goal

pub loop-cpu-preserved : goal.loop-cpu-preserved
loop-cpu-preserved c =
    let opened : ℕ → Cpu = λ cpu. opened_cpu cpu c.args.rooms.now c.args.names in
    let at : 0 + c.loop-cpu.cpu ≡ c.loop-cpu.cpu = omega arith in
    c.in_ok-push.ensures.items
    ∙ ap (λ (cpus : List Cpu). cpus ++ c.in_ok-new.field-0 ∷ []) c.loop-cpu.invariant
    ∙ ap (λ (cpu : Cpu). map opened (range_with_len 0 c.loop-cpu.cpu) ++ cpu ∷ []) c.in_ok-new.ensures
    ∙ sym (map-range_with_len_more opened 0 c.loop-cpu.cpu c.loop-cpu.cpu at)
