use Rattle.std.proofs.Common.{rules, arith, ap, ◌∙◌, ◌≡◌, length, replicate}
use Rattle.std.proofs.lemmas.List.{length-replicate}
use Rattle.kz_layout.specs.Granules.{blocks_for}
use Rattle.kz_layout.proofs.Bodies.{stands_plain}
use Rattle.kz_layout.proofs.body.Body.plain.Goals as goal

pub invariant_of-result : goal.invariant_of-result
invariant_of-result c =
    let codes : c.in_ok-codes.codes.items ≡ replicate c.div_ceil.result c.args.kind = search rules in
    record {
      fields = record {
        small = c.requires.small;
        aligned = c.requires.aligned;
        many = ap length codes ∙ length-replicate c.div_ceil.result c.args.kind ∙ omega (arith, c.div_ceil.ensures);
      };
      some = c.requires.some;
      multiple = c.requires.multiple;
    }

pub returns : goal.returns
returns c =
    let codes : c.in_ok-codes.codes.items ≡ replicate c.div_ceil.result c.args.kind = search rules in
    let many : c.div_ceil.result ≡ blocks_for 8 c.args.size = omega (arith, c.div_ceil.ensures) in
    stands_plain c.args.size c.args.align c.args.kind c.in_ok-codes.codes.items c.requires.aligned c.requires.only_data (codes ∙ ap (λ n. replicate n c.args.kind) many)
