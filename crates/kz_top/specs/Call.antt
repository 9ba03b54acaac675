-- What the top call answers, and when.
use Rattle.std.specs.Prelude.{◌≡◌, ◌≢◌, ◌⊎◌, ◌<◌, ◌≤◌, ◌^◌, ◌+◌, Bool, IsTrue, ℕ, List, [], ◌∷◌, ◌++◌, Option, Some, length, codes, decimal}
use Rattle.std.specs.Option.{IfSome}
use Rattle.std.specs.Io.KnownBytes.{Appends, Consumes, IsAtEnd}
use Rattle.kz_model.specs.Grammar.Tokens.{number_of}
use Rattle.kz_text.specs.Streams.{Rose, AppendsFront, ConsumesBetween}
use Rattle.kz_model.specs.declared.bundle.Bundle.{Bundle}
use Rattle.kz_model.specs.declared.grammar.Cause.{Cause}
use Rattle.kz_model.specs.declared.grammar.Cause.TheVariants as cause
use Rattle.kz_model.specs.declared.grammar.Counted.{Counted}
use Rattle.kz_model.specs.declared.grammar.Counted.TheVariants as counted
use Rattle.kz_model.specs.declared.grammar.Refusal.{Refusal}
use Rattle.kz_laws.specs.Isolation.{IsIsolated}
use Rattle.kz_model.specs.Text.Made.{made_text}
use Rattle.kz_model.specs.Run.Order.{order_run}
use Rattle.kz_model.specs.Grammar.Spelling.{Spells, IsFirstFault}
use Rattle.kz_model.specs.Text.Summary.{made_summary}
use Rattle.kz_model.specs.Grammar.Valid.{plan_in}
use Rattle.kz_model.specs.Text.Report.{planned_text, replayed_text}
use Rattle.kz_top.specs.declared.command.Command.{Command}
use Rattle.kz_top.specs.declared.command.Command.TheVariants as command
use Rattle.kz_top.specs.declared.status.Status.{Status}
use Rattle.kz_top.specs.declared.status.Status.TheVariants as status

-- ---- the words

-- the words are this command's: one word, or `make` and a number
abbrev pub Asks : List (List ℕ) → Command → Type 0
Asks words command.Plan = words ≡ codes "plan" ∷ []
Asks words command.Replay = words ≡ codes "replay" ∷ []
Asks words (command.Make number) = (digits : List ℕ) × (words ≡ codes "make" ∷ digits ∷ []) ×
    (number_of digits ≡ Some number)

-- the words are no command's
abbrev pub AskNothing : List (List ℕ) → Type 0
AskNothing words = (command : Command) → Asks words command → ⊥

-- the command takes the bundle that the input spells
abbrev pub ReadsInput : Command → Type 0
ReadsInput command.Plan = Unit {0}
ReadsInput command.Replay = Unit {0}
ReadsInput (command.Make number) = ⊥

-- the most bytes that an input may have
abbrev pub most_bytes : ℕ
most_bytes = 33554432

-- ---- what bytes give

-- the text of the bundle that a command takes: the input's, or the one that is made of its number
abbrev pub taken_text : Command → List ℕ → List ℕ
taken_text command.Plan bytes = bytes
taken_text command.Replay bytes = bytes
taken_text (command.Make number) bytes = made_text number

-- the text that a command makes of a bundle
abbrev pub text_for : Command → Bundle → List ℕ
text_for command.Plan b = planned_text b
text_for command.Replay b = replayed_text b
text_for (command.Make number) b = made_summary number (made_text number) b

-- These bytes spell a bundle, and this is the text that the command makes of it.
pub record MakesOf (command : Command) (bytes text : List ℕ) : Type 0 where
  pub bundle : Bundle
  pub spells : Spells bytes bundle
  pub is_text : text ≡ text_for command bundle

-- What the command takes, where these bytes are the input, spells a bundle, and this is the text that the command makes
-- of it.
abbrev pub Gives : Command → List ℕ → List ℕ → Type 0
Gives command bytes text = MakesOf command (taken_text command bytes) text

-- The command takes the input, these bytes spell no bundle, and this is their first fault.
abbrev pub Refuses : Command → List ℕ → Refusal → Type 0
Refuses command bytes refusal = ReadsInput command × IsFirstFault bytes refusal

abbrev pub too_long : Refusal
too_long = record { line = 0; cause = cause.TooLong }

abbrev pub IsTooLong : List ℕ → Refusal → Type 0
IsTooLong bytes refusal = (refusal ≡ too_long) × (most_bytes < length bytes)

-- The bytes spell a bundle, and the run of its order keeps its zones apart.
abbrev pub IsKeptApart : List ℕ → Type 0
IsKeptApart bytes =
    (b : Bundle) × Spells bytes b × (let run = order_run b (plan_in b) in IsIsolated b (plan_in b) run.journals run.log)

-- ---- the call

-- what out took grew by the text that the bytes give
abbrev pub TakesText : List (List ℕ) → List ℕ → Option (List ℕ) → Option (List ℕ) → Type 0
TakesText words bytes old new = (command : Command) × (text : List ℕ) × Asks words command × Gives command bytes text ×
    Appends old new text

-- or by a part from its front
abbrev pub TakesFront : List (List ℕ) → List ℕ → Option (List ℕ) → Option (List ℕ) → Type 0
TakesFront words bytes old new = (command : Command) × (text : List ℕ) × Asks words command × Gives command bytes text
    × AppendsFront old new text

-- the refusal is that of these bytes
abbrev pub IsRefusalOf : List (List ℕ) → List ℕ → Refusal → Type 0
IsRefusalOf words bytes refusal = IsTooLong bytes refusal
    ⊎ ((command : Command) × Asks words command × (length bytes ≤ most_bytes) × Refuses command bytes refusal)

-- ---- what was read

-- what the input had was taken whole, was no more than an input may have, and nothing is left of it
pub record IsReadWhole (old new : Option (List ℕ)) : Type 0 where
  pub bytes : List ℕ
  pub few : length bytes ≤ most_bytes
  pub front : Consumes old new bytes
  pub at_end : IsAtEnd new

-- A refused input was read whole, unless it is too long: then one byte more was read than an input may have, and then
-- no further one.
pub record IsReadForRefusal (refusal : Refusal) (old new : Option (List ℕ)) : Type 0 where
  pub whole : refusal ≢ too_long → IsReadWhole old new
  pub too_far : refusal ≡ too_long → ConsumesBetween old new (most_bytes + 1) (most_bytes + 1)

-- what was read of the input that a command takes, by how the work ended
abbrev pub HasRead : Status → Option (List ℕ) → Option (List ℕ) → Type 0
HasRead status.Ok old new = IsReadWhole old new
HasRead status.Usage old new = ⊥
HasRead (status.Refused refusal) old new = IsReadForRefusal refusal old new
HasRead status.ReadFault old new = ConsumesBetween old new 0 most_bytes
HasRead status.WriteFault old new = IsReadWhole old new
HasRead status.Memory old new = ConsumesBetween old new 0 (most_bytes + 1)

-- ---- the line on err

abbrev pub status_number : Status → ℕ
status_number status.Ok = 0
status_number status.Usage = 1
status_number (status.Refused refusal) = 2
status_number status.ReadFault = 3
status_number status.WriteFault = 4
status_number status.Memory = 5

abbrev pub counted_text : Counted → List ℕ
counted_text counted.Types = codes "types"
counted_text counted.Steps = codes "steps"
counted_text counted.Names = codes "names"
counted_text counted.Rounds = codes "rounds"

abbrev pub cause_text : Cause → List ℕ
cause_text cause.BadLine = codes "bad line"
cause_text cause.BadNumber = codes "bad number"
cause_text cause.OutOfRange = codes "out of range"
cause_text (cause.TooMany what) = codes "too many " ++ counted_text what
cause_text cause.SameName = codes "same name"
cause_text cause.UnknownType = codes "unknown type"
cause_text cause.ForwardUse = codes "forward use"
cause_text cause.Empty = codes "empty type"
cause_text (cause.TooLarge size) = codes "too large " ++ decimal size
cause_text (cause.BudgetShort classes) = codes "budget short " ++ decimal classes
cause_text cause.UnknownName = codes "unknown name"
cause_text cause.NameOfTwoCpus = codes "name of two cpus"
cause_text cause.NameOfTwoTypes = codes "name of two types"
cause_text cause.GiveToSelf = codes "give to self"
cause_text cause.RoundsDiffer = codes "rounds differ"
cause_text cause.BadOrder = codes "bad order"
cause_text cause.Truncated = codes "truncated"
cause_text cause.Trailing = codes "trailing"
cause_text cause.TooLong = codes "too long"

abbrev pub refusal_line : Refusal → List ℕ
refusal_line refusal = codes "kzone: line " ++ decimal refusal.line ++ codes ": " ++ cause_text refusal.cause
    ++ codes "\n"

abbrev pub status_line : Status → List ℕ
status_line status.Ok = []
status_line status.Usage = codes "kzone: usage\n"
status_line (status.Refused refusal) = refusal_line refusal
status_line status.ReadFault = codes "kzone: read fault\n"
status_line status.WriteFault = codes "kzone: write fault\n"
status_line status.Memory = codes "kzone: out of memory\n"

-- a sink took the line, or a part from its front where its count of faults rose
abbrev pub Tells : Option (List ℕ) → Option (List ℕ) → ℕ → ℕ → List ℕ → Type 0
Tells old new before now line = Appends old new line ⊎ (AppendsFront old new line × Rose before now)

-- ---- the work of a call

-- these bytes are what a command takes, where the input tells so much
abbrev pub IsTaken : Command → Option (List ℕ) → List ℕ → Type 0
IsTaken command.Plan rest items = IfSome rest (λ bytes. items ≡ bytes)
IsTaken command.Replay rest items = IfSome rest (λ bytes. items ≡ bytes)
IsTaken (command.Make number) rest items = items ≡ made_text number

-- these bytes are those that are made of the command's number, if it has one
abbrev pub IsMadeFor : Command → List ℕ → Type 0
IsMadeFor command.Plan items = Unit {0}
IsMadeFor command.Replay items = Unit {0}
IsMadeFor (command.Make number) items = (number < 2 ^ 64) × (items ≡ made_text number)

-- What the work of a call makes of the bytes that its command takes: what the output took before and after, its count
-- of faults before and after, and its
-- sure room.
pub record IsFinished (command : Command) (items : List ℕ) (old new : Option (List ℕ)) (before after room : ℕ)
    (result : Status) : Type 0 where
  pub not_usage : result ≢ status.Usage
  pub not_read_fault : result ≢ status.ReadFault
  pub wrote : result ≡ status.Ok → (text : List ℕ) × MakesOf command items text × Appends old new text
  pub refused : (refusal : Refusal) → result ≡ status.Refused refusal → Refuses command items refusal
  pub write_fault : result ≡ status.WriteFault → Rose before after
  pub front : result ≡ status.WriteFault → (text : List ℕ) × MakesOf command items text × AppendsFront old new text
  pub sure_out : (text : List ℕ) → MakesOf command items text → length text ≤ room → (result ≢ status.WriteFault) ×
      (after ≡ before)

-- What the work of a call makes of its input and its output: what the input tells, its count of faults before and after
-- and whether it is sure; what the
-- output took before and after, its count of faults before and after, and its sure room.
pub record IsWork (words : List (List ℕ)) (rest : Option (List ℕ)) (read_before read_after : ℕ) (is_sure : Bool)
    (old new : Option (List ℕ)) (wrote_before wrote_after room : ℕ) (result : Status) : Type 0 where
  pub wrote : result ≡ status.Ok → (bytes : List ℕ) → rest ≡ Some bytes → TakesText words bytes old new
  pub made : result ≡ status.Ok → (number : ℕ) → Asks words (command.Make number) → TakesText words [] old new
  pub isolated : result ≡ status.Ok → Asks words command.Replay → (bytes : List ℕ) → rest ≡ Some bytes →
      IsKeptApart bytes
  pub refused : (refusal : Refusal) → result ≡ status.Refused refusal → (bytes : List ℕ) → rest ≡ Some bytes →
      IsRefusalOf words bytes refusal
  pub made_not_refused : (number : ℕ) (refusal : Refusal) → Asks words (command.Make number) →
      result ≢ status.Refused refusal
  pub read_fault : result ≡ status.ReadFault → Rose read_before read_after
  pub made_not_read : (number : ℕ) → Asks words (command.Make number) → result ≢ status.ReadFault
  pub write_fault : result ≡ status.WriteFault → Rose wrote_before wrote_after
  pub front : result ≡ status.WriteFault → (bytes : List ℕ) → rest ≡ Some bytes → TakesFront words bytes old new
  pub made_front : result ≡ status.WriteFault → (number : ℕ) → Asks words (command.Make number) →
      TakesFront words [] old new
  pub later : read_before ≤ read_after
  pub completes : (command : Command) (bytes text : List ℕ) → Asks words command → rest ≡ Some bytes →
      length bytes ≤ most_bytes → Gives command bytes text →
      (Rose read_before read_after → ⊥) → (Rose wrote_before wrote_after → ⊥) → (result ≡ status.Ok)
      ⊎ (result ≡ status.Memory)
  pub made_completes : (number : ℕ) → Asks words (command.Make number) → (Rose wrote_before wrote_after → ⊥) →
      (result ≡ status.Ok) ⊎ (result ≡ status.Memory)
  pub refuses : (command : Command) (bytes : List ℕ) (refusal : Refusal) → Asks words command → rest ≡ Some bytes →
      length bytes ≤ most_bytes → Refuses command bytes refusal →
      (Rose read_before read_after → ⊥) → (result ≡ status.Refused refusal) ⊎ (result ≡ status.Memory)
  pub limits : (command : Command) (bytes : List ℕ) → Asks words command → ReadsInput command → rest ≡ Some bytes →
      most_bytes < length bytes →
      (Rose read_before read_after → ⊥) → (result ≡ status.Refused too_long) ⊎ (result ≡ status.Memory)
  pub sure_input : IsTrue is_sure → (result ≢ status.ReadFault) × (read_after ≡ read_before)
  pub sure_out : (command : Command) (bytes text : List ℕ) → Asks words command → rest ≡ Some bytes →
      Gives command bytes text → length text ≤ room →
      (result ≢ status.WriteFault) × (wrote_after ≡ wrote_before)
  pub made_sure_out : (number : ℕ) (text : List ℕ) → Asks words (command.Make number) →
      Gives (command.Make number) [] text → length text ≤ room →
      (result ≢ status.WriteFault) × (wrote_after ≡ wrote_before)
