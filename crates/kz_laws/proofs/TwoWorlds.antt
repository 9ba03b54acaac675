-- Two runs that agree at a zone are alike there.
use Rattle.std.proofs.Common.{◌≡◌, ℕ, List, [], ◌∷◌, map, Some, ap, sym, refl, ◌∙◌}
use Rattle.kz_model.specs.declared.record.ZoneParams.{ZoneParams}
use Rattle.kz_model.specs.declared.step.Block.{Block}
use Rattle.kz_model.specs.declared.step.Reply.{Reply}
use Rattle.kz_model.specs.Zone.State.{Chunk, ZoneState}
use Rattle.kz_model.specs.Zone.Alone.{Course, alone}
use Rattle.kz_model.specs.Run.Journal.{answers_at}
use Rattle.kz_laws.specs.Agreement.{chunks_of, AreAlike}
use Rattle.kz_laws.specs.Worlds.{seen, AreSeenAlike, FitRun, run_params, run_steps, HaveSameSteps, AgreeingRunsAreAlike, GrantedRunsAgree}
use Rattle.kz_laws.proofs.Agreeing.{alike_where_agreed}
use Rattle.kz_laws.proofs.Granted.{agreed_where_granted}

-- what is seen depends on the chunks alone
abbrev seen_in : ZoneParams → Block → ℕ → ℕ → List Chunk → Reply
seen_in p block off len chunks =
    seen p block off len (record { shared = record { chunks = chunks; depot = []; transit = []; drawn = 0 }; own = [] })

seen-chunks : (p : ZoneParams) (block : Block) (off len : ℕ) (states : List ZoneState) →
    map (seen p block off len) states ≡ map (seen_in p block off len) (map chunks_of states)
seen-chunks p block off len [] = refl
seen-chunks p block off len (state ∷ states) =
    ap (λ (l : List Reply). seen p block off len state ∷ l) (seen-chunks p block off len states)

seen_alike : (p : ZoneParams) (c d : Course) → AreAlike c d → AreSeenAlike p c d
seen_alike p c d is = record {
  replies = is.replies;
  asks = is.asks;
  before = λ block off len.
      seen-chunks p block off len c.before
      ∙ ap (λ (l : List (List Chunk)). map (seen_in p block off len) l) is.before
      ∙ sym (seen-chunks p block off len d.before);
  end = λ block off len. ap (seen_in p block off len) is.end;
}

-- the other run's zone, alone with the first one's parameters
other_alone : (one other : FitRun) (zone : ℕ) → HaveSameSteps one other zone →
    alone (run_params one zone) (run_steps other zone) (answers_at zone other.log) ≡ Some (other.is.made zone)
other_alone one other zone same =
    ap (λ (p : ZoneParams). alone p (run_steps other zone) (answers_at zone other.log)) same.params
    ∙ (other.is.each zone same.in_other).alone

pub agreeing_runs_are_alike : AgreeingRunsAreAlike
agreeing_runs_are_alike one other zone agree =
    seen_alike (run_params one zone) (one.is.made zone) (other.is.made zone)
    (alike_where_agreed (run_params one zone) (run_steps one zone) (run_steps other zone)
    (answers_at zone one.log) (answers_at zone other.log) (one.is.made zone) (other.is.made zone)
    agree.same.steps agree.answers (one.is.each zone agree.same.in_one).alone (other_alone one other zone agree.same))

pub granted_runs_agree : GrantedRunsAgree
granted_runs_agree one other zone same here there = record {
  same = same;
  answers =
      agreed_where_granted (run_params one zone) (run_steps one zone) (run_steps other zone)
      (answers_at zone one.log) (answers_at zone other.log) (one.is.made zone) (other.is.made zone)
      same.steps here there (one.is.each zone same.in_one).alone (other_alone one other zone same);
}
