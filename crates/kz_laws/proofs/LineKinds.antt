-- No more lines are of a kind than there are, no more of them are done, and a CPU whose next line is of a kind has one of it left.
use Rattle.std.proofs.Common.{◌≡◌, ◌<◌, ◌≤◌, ℕ, Bool, true, if◌then◌else◌, [], ◌∷◌, length, ap, ◌∙◌, arith}
use Rattle.kz_model.specs.declared.bundle.Act.{Act}
use Rattle.kz_model.specs.declared.bundle.Bundle.{Bundle}
use Rattle.kz_model.specs.declared.record.Plan.{Plan}
use Rattle.kz_laws.specs.Amounts.{kind_done, zone_kind_done}
use Rattle.kz_model.specs.Run.Rooms.{kind_among, kind_there, zone_lines, zone_kind}
use Rattle.kz_model.specs.Run.Journal.{addressed, trace_of}
use Rattle.kz_laws.specs.Play.{Play, replies_so_far, line_to_play}
use Rattle.kz_laws.specs.PlayedAt.{HasTurn}
use Rattle.kz_model.specs.Run.Rooms.{lines_on}
use Rattle.kz_laws.proofs.PlayedAt.{count_left}
use Rattle.kz_model.proofs.LineCounts.{kind_adds, kind_here, kind_within, count_within}
use Rattle.kz_model.proofs.Sums.{sum_below-le}

pub kind_few : (b : Bundle) (plan : Plan) (kind : Act → Bool) (zone : ℕ) → zone_kind b plan kind zone ≤ zone_lines b plan zone
kind_few b plan kind zone = sum_below-le (kind_there b plan kind zone) (lines_on b plan zone) b.cpus (λ cpu lt. kind_within b plan kind zone (trace_of b cpu))

pub kind_done_few : (b : Bundle) (plan : Plan) (kind : Act → Bool) (s : Play) (zone : ℕ) → zone_kind_done b plan kind s zone ≤ zone_kind b plan kind zone
kind_done_few b plan kind s zone =
    sum_below-le (kind_done b plan kind s zone) (kind_there b plan kind zone) b.cpus (λ cpu lt. count_within (kind_among b plan kind zone) (kind_adds b plan kind zone) (trace_of b cpu) (length (replies_so_far s cpu)))

pub kind_left : (b : Bundle) (plan : Plan) (kind : Act → Bool) (s : Play) (cpu : ℕ) → HasTurn b plan s cpu → kind (line_to_play b s cpu).act ≡ true →
    let zone = (addressed b plan (line_to_play b s cpu).act).0 in zone_kind_done b plan kind s zone < zone_kind b plan kind zone
kind_left b plan kind s cpu turn is =
    let line = line_to_play b s cpu in
    let zone = (addressed b plan line.act).0 in
    let one : kind_among b plan kind zone (line ∷ []) ≡ 1 = kind_here b plan kind line ∙ ap (λ t. if t then 1 else 0) is in
    count_left (kind_among b plan kind zone) (kind_adds b plan kind zone) b s cpu turn.is_cpu turn.some (omega (arith, one))
