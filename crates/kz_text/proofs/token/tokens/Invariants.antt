use Rattle.std.proofs.Common.{◌≡◌, ◌+◌, length, ◌++◌}
use Rattle.kz_model.specs.Grammar.Tokens.{tokens_of}
use Rattle.kz_text.specs.Tokens.{tokens_from}
use Rattle.kz_text.proofs.token.tokens.Given as goal

-- the tokens so far, and those of the rest, are the line's
abbrev pub invariant-loop-at : goal.invariant-loop-at
invariant-loop-at l =
    record {
      there : l.from + length l.rest ≡ length l.line.text.now;
      so_far : l.tokens.items ++ tokens_from l.line.number l.from (tokens_of l.rest) ≡ tokens_from l.line.number 0 (tokens_of l.line.text.now);
    }

abbrev pub decreases-loop-at : goal.decreases-loop-at
decreases-loop-at l = length l.rest
