-- Replies that are kept short: the bytes of a read stand beside them.
use Rattle.std.specs.Prelude.{ℕ, ◌<◌, ◌≤◌, List, [], length, All, slice_index_or}
use Rattle.kz_model.specs.declared.step.Reply.{Reply}
use Rattle.kz_model.specs.declared.step.Reply.TheVariants as reply
use Rattle.kz_model.specs.declared.store.replies.BriefReply.{BriefReply}
use Rattle.kz_model.specs.declared.store.replies.BriefReply.TheVariants as brief

-- a brief reply as it is meant, with these bytes of reads
abbrev pub reply_meant : List (List ℕ) → BriefReply → Reply
reply_meant pieces (brief.Block block) = reply.Block block
reply_meant pieces brief.Done = reply.Done
reply_meant pieces brief.NoName = reply.NoName
reply_meant pieces brief.NameBusy = reply.NameBusy
reply_meant pieces (brief.WrongZone asked owner) = reply.WrongZone asked owner
reply_meant pieces brief.NotHeld = reply.NotHeld
reply_meant pieces brief.NotGiven = reply.NotGiven
reply_meant pieces brief.OutOfBlock = reply.OutOfBlock
reply_meant pieces brief.Unmapped = reply.Unmapped
reply_meant pieces (brief.Bytes piece) = reply.Bytes (slice_index_or pieces piece [])
reply_meant pieces (brief.Trimmed pages) = reply.Trimmed pages
reply_meant pieces (brief.NoSpace left) = reply.NoSpace left
reply_meant pieces (brief.NoFrames free) = reply.NoFrames free

-- its bytes are among the first of these
abbrev pub HasBytes : ℕ → BriefReply → Type 0
HasBytes pieces (brief.Bytes piece) = piece < pieces
HasBytes pieces other = Unit {0}

abbrev pub no_reply : Reply
no_reply = reply.Done

-- replies so far, and for how many there is room
pub record RepliesSoFar : Type 0 where
  pub room : ℕ
  pub items : List Reply

-- there is room for so many replies and their bytes, and each reply has its bytes
pub record IsRoomFor (room reply_capacity piece_capacity : ℕ) (pieces : List (List ℕ))
    (replies : List BriefReply) : Type 0 where
  pub for_replies : room ≤ reply_capacity
  pub for_pieces : room ≤ piece_capacity
  pub within : length replies ≤ room
  pub few_pieces : length pieces ≤ length replies
  pub have_bytes : All (HasBytes (length pieces)) replies
