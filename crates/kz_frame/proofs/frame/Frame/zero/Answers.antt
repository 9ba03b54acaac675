use Rattle.std.proofs.Common.{◌≡◌, ℕ, List, replicate, ◌∙◌, ap, arith}
use Rattle.kz_frame.proofs.frame.Frame.zero.Goals as goal

pub returns : goal.returns
returns c =
    let size : c.self.inside.bytes.len ≡ 4096 = omega (arith, c.self.inside.bytes.ok, c.self.invariant) in
    let zeros : ℕ → List ℕ = λ n. replicate n 0 in c.fill.ensures.items (λ y same. same) ∙ ap zeros size
