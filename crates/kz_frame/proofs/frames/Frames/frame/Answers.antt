use Rattle.std.proofs.Common.{◌∙◌, ap, sym, subst, ◌<◌, length, List, ℕ, slice_index_or, Option}
use Rattle.kz_frame.proofs.Packs.{frame_at}
use Rattle.kz_frame.proofs.frames.Frames.frame.Goals as goal

pub unreachable-requires : goal.unreachable-requires
unreachable-requires c =
    let inside = let P : List (List ℕ) → Type 0 = λ l. c.args.which < length l in subst P (sym c.self.view_is) c.requires in
    let here = frame_at _ _ c.args.which c.index-as_slice-which.result c.self.invariant.places_are inside in
    let same = c.index-as_slice-which.is ∙ ap (λ (l : List (Option (List ℕ))). slice_index_or l c.args.which c.index-as_slice-which.result) c.as_slice.ensures.value in
    cc (here, same, c.in_default.is)
