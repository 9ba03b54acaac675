use Rattle.std.proofs.Common.{◌≡◌, List, ℕ, length}
use Rattle.std.proofs.lemmas.List.Elements.{All-take}
use Rattle.kz_frame.proofs.Packs.{places_popped, pack_again, popped_some, popped_none}
use Rattle.kz_frame.proofs.frames.Frames.pop.Goals as goal

pub invariant_of-self : goal.invariant_of-self
invariant_of-self c =
    pack_again _ _ (places_popped _ _ _ c.self.invariant.places_are c.pop.ensures.rest) (All-take (λ (f : List ℕ). length f ≡ 4096) _ _ c.self.invariant.sizes)

pub returns-clause-some : goal.returns-clause-some
returns-clause-some c =
    rw (c.flatten.ensures, ← c.self.view_is) (popped_some _ _ _ _ c.self.invariant.places_are c.pop.ensures.rest c.pop.ensures.value)

pub returns-clause-none : goal.returns-clause-none
returns-clause-none c =
    rw (c.flatten.ensures, ← c.self.view_is) (popped_none _ _ _ _ c.self.invariant.places_are c.pop.ensures.rest c.pop.ensures.value)
