use Rattle.std.proofs.Common.{◌≡◌, ◌++◌, drop, map}
use Rattle.kz_model.specs.Grammar.Spelling.{turn_of}
use Rattle.kz_bundle.specs.Printing.{lines_text}
use Rattle.kz_bundle.proofs.printing.print_turns.Given as goal

-- what is written, and the lines that are left
abbrev pub invariant-loop-turn : goal.invariant-loop-turn
invariant-loop-turn l = l.out.items ++ lines_text (map turn_of (drop l.turn-index l.turns)) ≡ l.fn.out.items ++ lines_text (map turn_of l.turns)
