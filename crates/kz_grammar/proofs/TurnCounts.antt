-- How often an order names a CPU in a round, with one line more.
use Rattle.std.proofs.Common.{◌≡◌, ◌≢◌, ℕ, zero, suc, ◌+◌, ◌<◌, ◌==◌, if◌then◌else◌, List, [], ◌∷◌, ◌++◌, refl, ap, arith}
use Rattle.kz_model.specs.declared.bundle.OrderLine.{OrderLine}
use Rattle.kz_model.specs.declared.bundle.OrderLine.TheVariants as turn
use Rattle.kz_grammar.specs.Rounds.{breaks_in, turns_in}

pub breaks-turn : (lines : List OrderLine) (cpu : ℕ) → breaks_in (lines ++ turn.Cpu cpu ∷ []) ≡ breaks_in lines
breaks-turn [] cpu = refl
breaks-turn (turn.Cpu other ∷ lines) cpu = breaks-turn lines cpu
breaks-turn (turn.Round ∷ lines) cpu = ap (λ n. suc n) (breaks-turn lines cpu)

pub breaks-round : (lines : List OrderLine) → breaks_in (lines ++ turn.Round ∷ []) ≡ breaks_in lines + 1
breaks-round [] = refl
breaks-round (turn.Cpu other ∷ lines) = breaks-round lines
breaks-round (turn.Round ∷ lines) = let more = breaks-round lines in omega arith

-- one more turn in the newest round
pub turns-newest : (lines : List OrderLine) (other cpu round : ℕ) → breaks_in lines ≡ round →
    turns_in (lines ++ turn.Cpu other ∷ []) cpu round ≡ turns_in lines cpu round + (if other == cpu then 1 else 0)
turns-newest [] other cpu zero e = flip (if other == cpu then 1 else 0)
  where
    flip : (n : ℕ) → n + 0 ≡ 0 + n
    flip n = omega arith
turns-newest [] other cpu (suc round) e = absurd (omega arith)
turns-newest (turn.Cpu first ∷ lines) other cpu zero e =
    more (if first == cpu then 1 else 0) (if other == cpu then 1 else 0) (turns_in (lines ++ turn.Cpu other ∷ []) cpu 0) (turns_in lines cpu 0) (turns-newest lines other cpu zero e)
  where
    more : (a b m n : ℕ) → m ≡ n + b → a + m ≡ a + n + b
    more a b m n e = omega arith
turns-newest (turn.Cpu first ∷ lines) other cpu (suc round) e = turns-newest lines other cpu (suc round) e
turns-newest (turn.Round ∷ lines) other cpu zero e = absurd (omega arith)
turns-newest (turn.Round ∷ lines) other cpu (suc round) e = turns-newest lines other cpu round (omega arith)

-- a turn is none of another round
pub turns-other : (lines : List OrderLine) (other cpu round : ℕ) → breaks_in lines ≢ round → turns_in (lines ++ turn.Cpu other ∷ []) cpu round ≡ turns_in lines cpu round
turns-other [] other cpu zero e = absurd (e refl)
turns-other [] other cpu (suc round) e = refl
turns-other (turn.Cpu first ∷ lines) other cpu zero e = ap (λ n. (if first == cpu then 1 else 0) + n) (turns-other lines other cpu zero e)
turns-other (turn.Cpu first ∷ lines) other cpu (suc round) e = turns-other lines other cpu (suc round) e
turns-other (turn.Round ∷ lines) other cpu zero e = refl
turns-other (turn.Round ∷ lines) other cpu (suc round) e = turns-other lines other cpu round (λ same. e (ap (λ n. suc n) same))

-- a line `--` is no turn
pub turns-round : (lines : List OrderLine) (cpu round : ℕ) → turns_in (lines ++ turn.Round ∷ []) cpu round ≡ turns_in lines cpu round
turns-round [] cpu zero = refl
turns-round [] cpu (suc round) = refl
turns-round (turn.Cpu first ∷ lines) cpu zero = ap (λ n. (if first == cpu then 1 else 0) + n) (turns-round lines cpu zero)
turns-round (turn.Cpu first ∷ lines) cpu (suc round) = turns-round lines cpu (suc round)
turns-round (turn.Round ∷ lines) cpu zero = refl
turns-round (turn.Round ∷ lines) cpu (suc round) = turns-round lines cpu round

-- no turn is of a round that has not begun
pub turns-later : (lines : List OrderLine) (cpu round : ℕ) → breaks_in lines < round → turns_in lines cpu round ≡ 0
turns-later [] cpu round lt = refl
turns-later (turn.Cpu first ∷ lines) cpu zero lt = absurd (omega arith)
turns-later (turn.Cpu first ∷ lines) cpu (suc round) lt = turns-later lines cpu (suc round) lt
turns-later (turn.Round ∷ lines) cpu zero lt = absurd (omega arith)
turns-later (turn.Round ∷ lines) cpu (suc round) lt = turns-later lines cpu round (omega arith)
