use Rattle.std.proofs.Common.{◌≡◌, ◌∙◌, ap, ◌++◌, ◌∷◌, [], sym, List, ℕ, length}
use Rattle.std.proofs.lemmas.List.Elements.{All-push}
use Rattle.kz_frame.proofs.Packs.{places_pushed, pack_again, present_are}
use Rattle.kz_frame.proofs.frames.Frames.push.Goals as goal

pub invariant_of-self : goal.invariant_of-self
invariant_of-self c =
    let size : length c.args.frame ≡ 4096 = sym (ap length c.bytes.ensures.bytes) ∙ c.bytes.ensures.size in
    pack_again _ _ (places_pushed _ _ _ c.args.frame c.self.invariant.places_are c.push.ensures.items) (All-push (λ (f : List ℕ). length f ≡ 4096) _ c.args.frame c.self.invariant.sizes size)

pub returns : goal.returns
returns c =
    present_are _ _ (places_pushed _ _ _ c.args.frame c.self.invariant.places_are c.push.ensures.items) ∙ ap (λ l. l ++ c.args.frame ∷ []) c.self.view_is
