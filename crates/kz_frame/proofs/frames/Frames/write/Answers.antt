use Rattle.std.proofs.Common.{◌≡◌, ◌∙◌, ap, ap₂, sym, subst, ◌<◌, length, List, ℕ, slice_index_or, slice_set, Some, [], refl}
use Rattle.std.proofs.lemmas.List.Elements.{All-set}
use Rattle.kz_frame.specs.Frames.{written, present}
use Rattle.kz_frame.proofs.Packs.{frame_at, places_set, pack_again, present_are}
use Rattle.kz_frame.proofs.frames.Frames.write.Goals as goal

pub unreachable-requires-in_default-place : goal.unreachable-requires-in_default-place
unreachable-requires-in_default-place c =
    let inside = let P : List (List ℕ) → Type 0 = λ l. c.args.which < length l in subst P (sym c.self.view_is) c.requires.there in
    let here = frame_at _ _ c.args.which c.in-Some.place.now c.self.invariant.places_are inside in
    cc (here, c.in-Some.ensures.value, c.in_default-place.is)

pub invariant_of-self : goal.invariant_of-self
invariant_of-self c =
    pack_again _ _ (places_set _ _ _ c.args.which c.write.new.self c.self.invariant.places_are refl) (All-set (λ (f : List ℕ). length f ≡ 4096) _ c.args.which c.write.new.self c.write.ensures.size c.self.invariant.sizes)

pub returns-clause-frames : goal.returns-clause-frames
returns-clause-frames c =
    let inside = let P : List (List ℕ) → Type 0 = λ l. c.args.which < length l in subst P (sym c.self.view_is) c.requires.there in
    let here = frame_at _ _ c.args.which c.in-Some.place.now c.self.invariant.places_are inside in
    let same : Some c.in-Some-place.frame ≡ Some (slice_index_or (present c.self.inside.frames.items) c.args.which []) = cc (here, c.in-Some.ensures.value, c.in-Some-place.is) in
    present_are _ _ (places_set _ _ _ c.args.which c.write.new.self c.self.invariant.places_are refl)
    ∙ ap₂ (λ l (f : List ℕ). slice_set l c.args.which f) c.self.view_is (c.write.ensures.bytes ∙ ap (written c.args.at c.args.from.now) (cc (same, c.self.view_is)))
