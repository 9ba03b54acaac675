-- What was read of the input, by how the work ended.
use Rattle.std.proofs.Common.{◌≡◌, ◌≢◌, ◌+◌, ℕ, List, length, Option, subst, refl, arith}
use Rattle.std.specs.Io.KnownBytes.{Consumes, IsAtEnd}
use Rattle.kz_text.specs.Streams.{ConsumesBetween}
use Rattle.kz_model.specs.declared.grammar.Refusal.{Refusal}
use Rattle.kz_model.specs.Grammar.Spelling.{IsFirstFault}
use Rattle.kz_top.specs.declared.command.Command.{Command}
use Rattle.kz_top.specs.declared.status.Status.{Status}
use Rattle.kz_top.specs.declared.status.Status.TheVariants as status
use Rattle.kz_top.specs.Call.{IsFinished, IsReadWhole, HasRead, most_bytes, too_long}
use Rattle.kz_top.proofs.FirstFaults.{fault_or_too_long}

read_all_of : (rest left : Option (List ℕ)) → IsReadWhole rest left → ConsumesBetween rest left 0 (most_bytes + 1)
read_all_of rest left whole = record { bytes = whole.bytes; least_read = omega arith; most_read = omega (arith, whole.few); front = whole.front }

-- the work on bytes that were read whole
pub read_finished : (command : Command) (items : List ℕ) (old new : Option (List ℕ)) (before after room : ℕ) (result : Status) (rest left : Option (List ℕ)) →
    IsFinished command items old new before after room result → IsReadWhole rest left → HasRead result rest left
read_finished command items old new before after room status.Ok rest left done whole = whole
read_finished command items old new before after room status.Usage rest left done whole = done.not_usage refl
read_finished command items old new before after room (status.Refused refusal) rest left done whole = record {
  whole = λ other. whole;
  too_far = λ same. absurd (fault_or_too_long items (subst (λ (refusal : Refusal). IsFirstFault items refusal) same (done.refused refusal refl).1));
}
read_finished command items old new before after room status.ReadFault rest left done whole = absurd (done.not_read_fault refl)
read_finished command items old new before after room status.WriteFault rest left done whole = whole
read_finished command items old new before after room status.Memory rest left done whole = read_all_of rest left whole
