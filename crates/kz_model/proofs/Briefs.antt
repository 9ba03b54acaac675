-- Replies that are kept short, with the bytes of reads beside them.
use Rattle.std.proofs.Common.{◌≡◌, ℕ, ◌≤◌, List, ◌++◌, length, refl, ap, arith}
use Rattle.std.proofs.lemmas.List.{get_or_append_left}
use Rattle.std.specs.Prelude.{[]}
use Rattle.kz_model.specs.declared.store.replies.BriefReply.{BriefReply}
use Rattle.kz_model.specs.declared.store.replies.BriefReply.TheVariants as brief
use Rattle.kz_model.specs.declared.step.Reply.{Reply}
use Rattle.kz_model.specs.declared.step.Reply.TheVariants as reply
use Rattle.kz_model.specs.Store.Replies.{reply_meant, HasBytes}
use Rattle.kz_model.proofs.Beside.{Meaning}

pub meant_more : (pieces more : List (List ℕ)) (r : BriefReply) → HasBytes (length pieces) r → reply_meant (pieces ++ more) r ≡ reply_meant pieces r
meant_more pieces more (brief.Block block) has = refl
meant_more pieces more brief.Done has = refl
meant_more pieces more brief.NoName has = refl
meant_more pieces more brief.NameBusy has = refl
meant_more pieces more (brief.WrongZone asked owner) has = refl
meant_more pieces more brief.NotHeld has = refl
meant_more pieces more brief.NotGiven has = refl
meant_more pieces more brief.OutOfBlock has = refl
meant_more pieces more brief.Unmapped has = refl
meant_more pieces more (brief.Bytes piece) has = ap (λ bytes. reply.Bytes bytes) (get_or_append_left pieces more [] piece has)
meant_more pieces more (brief.Trimmed pages) has = refl
meant_more pieces more (brief.NoSpace left) has = refl
meant_more pieces more (brief.NoFrames free) has = refl

pub within_more : (few many : ℕ) (r : BriefReply) → few ≤ many → HasBytes few r → HasBytes many r
within_more few many (brief.Block block) le has = tt
within_more few many brief.Done le has = tt
within_more few many brief.NoName le has = tt
within_more few many brief.NameBusy le has = tt
within_more few many (brief.WrongZone asked owner) le has = tt
within_more few many brief.NotHeld le has = tt
within_more few many brief.NotGiven le has = tt
within_more few many brief.OutOfBlock le has = tt
within_more few many brief.Unmapped le has = tt
within_more few many (brief.Bytes piece) le has = omega (arith, le, has)
within_more few many (brief.Trimmed pages) le has = tt
within_more few many (brief.NoSpace left) le has = tt
within_more few many (brief.NoFrames free) le has = tt

abbrev pub replies_beside : Meaning (List ℕ) BriefReply Reply
replies_beside = record { meant = reply_meant; HasItsBytes = HasBytes; meant_more = meant_more; within_more = within_more }
