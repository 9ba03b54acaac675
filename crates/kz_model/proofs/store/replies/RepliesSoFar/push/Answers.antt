use Rattle.std.proofs.Common.{◌∷◌, [], ◌++◌, ap, ◌∙◌}
use Rattle.kz_model.specs.Store.Replies.{RepliesSoFar}
use Rattle.kz_model.proofs.Beside.{pushed_meant}
use Rattle.kz_model.proofs.Briefs.{replies_beside}
use Rattle.kz_model.proofs.store.replies.RepliesSoFar.push.Goals as goal

pub returns-clause-items : goal.returns-clause-items
returns-clause-items c =
    pushed_meant replies_beside _ _ _ _ _ c.args.reply.now c.brief_of-brief.ensures.more c.self.invariant.have_bytes c.brief_of-brief.ensures.meant c.push_reserved.ensures.items
    ∙ ap (λ items. items ++ c.args.reply.now ∷ []) (ap (λ (sheet : RepliesSoFar). sheet.items) c.self.view_is)
