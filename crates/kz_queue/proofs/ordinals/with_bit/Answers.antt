use Rattle.std.specs.Int.{w64}
use Rattle.std.proofs.lemmas.Nat.Bits.{bit_at_set_same, bit_at_set_other}
use Rattle.kz_queue.proofs.Words.{some_of_bit}
use Rattle.kz_queue.proofs.ordinals.with_bit.Goals as goal

pub returns-clause-set : goal.returns-clause-set
returns-clause-set c = bit_at_set_same w64 c.args.word c.args.bit c.requires

pub returns-clause-others : goal.returns-clause-others
returns-clause-others c = λ other ne. bit_at_set_other w64 c.args.word c.args.bit c.requires other ne

pub returns-clause-some : goal.returns-clause-some
returns-clause-some c = some_of_bit _ c.args.bit (returns-clause-set c)
