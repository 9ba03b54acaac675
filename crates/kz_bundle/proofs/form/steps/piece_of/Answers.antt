use Rattle.std.proofs.Common.{◌≤◌, ◌/◌, length, Some, ap, ◌∙◌, sym, arith, length-take-le}
use Rattle.kz_model.specs.Grammar.Tokens.{is_hex, bytes_of_hex}
use Rattle.kz_bundle.proofs.Hex.{untold, hex_count, hex_taken}
use Rattle.kz_bundle.proofs.form.steps.piece_of.Goals as goal

pub returns-in-None : goal.returns-in-None
returns-in-None c = untold (is_hex c.args.word.now) (length c.args.word.now / 2) (bytes_of_hex c.args.word.now) c.in-None.ensures.count

pub slice_bounds-bytes-end : goal.slice_bounds-bytes-end
slice_bounds-bytes-end c = let few = hex_count c.args.word.now c.in-Some.count c.in-Some.ensures.count in omega (arith, few, c.read_hex.array_long)

pub slice_bounds-of-end : goal.slice_bounds-of-end
slice_bounds-of-end c =
    let few = hex_count c.args.word.now c.in-Some.count c.in-Some.ensures.count in
    let within : c.in-Some.count ≤ length c.read_hex.new.into = omega (arith, few, c.read_hex.array_long) in
    sym (length-take-le c.in-Some.count c.read_hex.new.into within)

pub returns-in-Some : goal.returns-in-Some
returns-in-Some c =
    ap Some c.of.ensures ∙ hex_taken c.args.word.now c.in-Some.count c.read_hex.new.into _ c.in-Some.ensures.count c.in-Some.ensures.filled
