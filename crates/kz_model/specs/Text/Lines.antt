-- The text of a report.
use Rattle.std.specs.Prelude.{ℕ, ◌/◌, ◌%◌, false, if◌then◌else◌, List, [], ◌∷◌, ◌++◌, codes, decimal}
use Rattle.std.specs.Fmt.{digits, digit_glyph}
use Rattle.std.specs.List.{flat_map}
use Rattle.kz_model.specs.declared.step.Reply.{Reply}
use Rattle.kz_model.specs.declared.step.Reply.TheVariants as reply
use Rattle.kz_model.specs.declared.supply.Ask.{Ask}
use Rattle.kz_model.specs.declared.supply.Ask.TheVariants.{Chunk, Frames, Back}
use Rattle.kz_model.specs.declared.supply.Answer.{Answer}
use Rattle.kz_model.specs.declared.supply.Answer.TheVariants.{Base, Given, NoSpace, NoFrames}
use Rattle.kz_model.specs.declared.supply.SupplyEntry.{SupplyEntry}
use Rattle.kz_model.specs.declared.record.ZoneParams.{ZoneParams}
use Rattle.kz_model.specs.declared.record.Visit.{Visit}
use Rattle.kz_model.specs.Run.Supply.{address}

-- an address: `0x` and lower-case hexadecimal digits
abbrev pub hex : ℕ → List ℕ
hex n = codes "0x" ++ digits 16 false n

-- a byte as two hexadecimal digits
abbrev pub hex_of_byte : ℕ → List ℕ
hex_of_byte byte = digit_glyph false (byte / 16) ∷ digit_glyph false (byte % 16) ∷ []

abbrev pub hex_bytes : List ℕ → List ℕ
hex_bytes bytes = flat_map hex_of_byte bytes

-- the line of a reply, without its end; `base` is the first page of a block's chunk
abbrev pub reply_line : ZoneParams → ℕ → Reply → List ℕ
reply_line p base (reply.Block block) =
    codes "block " ++ decimal block.chunk ++ codes "." ++ decimal block.index ++ codes " " ++ hex (address p.submap base p.element block)
reply_line p base reply.Done = codes "done"
reply_line p base reply.NoName = codes "no name"
reply_line p base reply.NameBusy = codes "busy"
reply_line p base (reply.WrongZone asked owner) = codes "wrong zone " ++ decimal asked ++ codes " " ++ decimal owner
reply_line p base reply.NotHeld = codes "not held"
reply_line p base reply.NotGiven = codes "not given"
reply_line p base reply.OutOfBlock = codes "out of block"
reply_line p base reply.Unmapped = codes "unmapped"
reply_line p base (reply.Bytes bytes) = codes "bytes " ++ hex_bytes bytes
reply_line p base (reply.Trimmed pages) = codes "trimmed " ++ decimal pages
reply_line p base (reply.NoSpace left) = codes "no space " ++ decimal left
reply_line p base (reply.NoFrames free) = codes "no frames " ++ decimal free

-- an ask with its answer
abbrev pub ask_text : Ask → Answer → List ℕ
ask_text (Chunk submap pages) (Base page) = codes "chunk " ++ decimal pages ++ codes " base " ++ decimal page
ask_text (Chunk submap pages) (NoSpace left) = codes "chunk " ++ decimal pages ++ codes " no space " ++ decimal left
ask_text (Chunk submap pages) (NoFrames free) = codes "chunk " ++ decimal pages ++ codes " no frames " ++ decimal free
ask_text (Frames pages) Given = codes "frames " ++ decimal pages ++ codes " given"
ask_text (Frames pages) (NoFrames free) = codes "frames " ++ decimal pages ++ codes " no frames " ++ decimal free
ask_text (Back pages) answer = codes "back " ++ decimal pages ++ codes " taken"
ask_text ask answer = []

-- the line of an entry of the supply's log
abbrev pub ask_line : SupplyEntry → List ℕ
ask_line entry = codes "ask " ++ decimal entry.zone ++ codes " " ++ ask_text entry.ask entry.answer

-- a visit in the line of its zone and round
abbrev pub visit_text : Visit → List ℕ
visit_text v = codes " " ++ decimal v.cpu ++ codes ":" ++ decimal v.count ++ (if v.settled then codes "*" else [])

-- the visits line of a zone and round
abbrev pub visits_line : ℕ → ℕ → List Visit → List ℕ
visits_line zone round visits = codes "visits " ++ decimal zone ++ codes " " ++ decimal round ++ flat_map visit_text visits

-- lines, each with its end
abbrev pub text_of_lines : List (List ℕ) → List ℕ
text_of_lines lines = flat_map (λ line. line ++ 10 ∷ []) lines
