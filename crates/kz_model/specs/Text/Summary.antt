-- What is told of the run of a made bundle.
use Rattle.std.specs.Prelude.{ℕ, ◌+◌, Bool, true, false, List, [], ◌∷◌, ◌++◌, length, map, codes, decimal}
use Rattle.std.specs.List.{count_by}
use Rattle.kz_model.specs.declared.bundle.Bundle.{Bundle}
use Rattle.kz_model.specs.declared.step.Reply.{Reply}
use Rattle.kz_model.specs.declared.step.Reply.TheVariants as reply
use Rattle.kz_model.specs.Run.Order.{order_run}
use Rattle.kz_model.specs.Text.Report.{all_answered_lines}
use Rattle.kz_model.specs.Text.Lines.{text_of_lines}
use Rattle.kz_model.specs.Grammar.Valid.{plan_in}

abbrev pub is_block : Reply → Bool
is_block (reply.Block block) = true
is_block reply = false

-- the supply refused
abbrev pub is_refusal : Reply → Bool
is_refusal (reply.NoSpace left) = true
is_refusal (reply.NoFrames free) = true
is_refusal reply = false

abbrev pub pages_trimmed : List Reply → ℕ
pages_trimmed [] = 0
pages_trimmed (reply.Trimmed pages ∷ replies) = pages + pages_trimmed replies
pages_trimmed (reply ∷ replies) = pages_trimmed replies

-- the replies of the order's run, CPU by CPU
abbrev pub replies_of_run : Bundle → List Reply
replies_of_run b =
    let run = order_run b (plan_in b) in
    map (λ line. line.reply) (all_answered_lines b (plan_in b) run.journals run.log)

-- the lines of the summary of a run with these replies
abbrev pub summary_lines : ℕ → ℕ → List Reply → List (List ℕ)
summary_lines number bytes replies =
    (codes "make " ++ decimal number) ∷ (codes "bytes " ++ decimal bytes) ∷ (codes "steps " ++ decimal (length replies))
    ∷ (codes "blocks " ++ decimal (count_by is_block replies)) ∷ (codes "refused " ++ decimal (count_by is_refusal replies))
    ∷ (codes "trimmed " ++ decimal (pages_trimmed replies)) ∷ codes "end" ∷ []

abbrev pub summary_text : ℕ → ℕ → List Reply → List ℕ
summary_text number bytes replies = text_of_lines (summary_lines number bytes replies)

-- the text of `make`: the summary of the bundle that the made bytes spell
abbrev pub made_summary : ℕ → List ℕ → Bundle → List ℕ
made_summary number bytes b = summary_text number (length bytes) (replies_of_run b)
