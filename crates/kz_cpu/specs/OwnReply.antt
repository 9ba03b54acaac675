-- The replies that a CPU gives by itself.
use Rattle.kz_model.specs.declared.step.Reply.{Reply}
use Rattle.kz_model.specs.declared.step.Reply.TheVariants as reply
use Rattle.kz_cpu.specs.declared.own_reply.OwnReply.{OwnReply}
use Rattle.kz_cpu.specs.declared.own_reply.OwnReply.TheVariants.{Block, Done, NoName, NameBusy, WrongZone, NotHeld, OutOfBlock}

-- the reply that it stands for
abbrev pub reply_meant : OwnReply → Reply
reply_meant (Block block) = reply.Block block
reply_meant Done = reply.Done
reply_meant NoName = reply.NoName
reply_meant NameBusy = reply.NameBusy
reply_meant (WrongZone asked owner) = reply.WrongZone asked owner
reply_meant NotHeld = reply.NotHeld
reply_meant OutOfBlock = reply.OutOfBlock
