-- Frames in the places of a pack.
use Rattle.std.proofs.Common.{◌≡◌, ◌+◌, ◌-◌, ◌<◌, ℕ, List, [], ◌∷◌, ◌++◌, Option, Some, None, length, take, map, All, IfSome, IfNone, slice_index_or, slice_set, slice_get, refl, sym, ◌∙◌, ap, subst, arith}
use Rattle.std.specs.Option.{option_flatten}
use Rattle.std.proofs.lemmas.List.{map-append, map-set, length-map, take-map, take_more, take_all, get_or-map}
use Rattle.std.proofs.lemmas.Option.{slice_get-get_or}
use Rattle.kz_frame.specs.Frames.{present, IsPack}

abbrev Frame : Type 0
Frame = List ℕ

-- each place has its frame
pub present-map : (frames : List Frame) → present (map Some frames) ≡ frames
present-map [] = refl
present-map (f ∷ fs) = ap (λ l. f ∷ l) (present-map fs)

pub present_are : (places : List (Option Frame)) (frames : List Frame) → places ≡ map Some frames → present places ≡ frames
present_are places frames are = ap present are ∙ present-map frames

pub pack_again : (places : List (Option Frame)) (frames : List Frame) → places ≡ map Some frames → All (λ f. length f ≡ 4096) frames → IsPack places (present places)
pack_again places frames are sizes =
    let P : List Frame → Type 0 = λ l. IsPack places l in subst P (sym (present_are places frames are)) (record { places_are = are; sizes = sizes })

-- one frame more
pub places_pushed : (places new : List (Option Frame)) (frames : List Frame) (frame : Frame) → places ≡ map Some frames → new ≡ places ++ Some frame ∷ [] → new ≡ map Some (frames ++ frame ∷ [])
places_pushed places new frames frame are more = more ∙ ap (λ l. l ++ Some frame ∷ []) are ∙ sym (map-append Some frames (frame ∷ []))

-- what stands at a place
pub frame_at : (places : List (Option Frame)) (frames : List Frame) (k : ℕ) (d : Option Frame) → places ≡ map Some frames → k < length frames → slice_index_or places k d ≡ Some (slice_index_or frames k [])
frame_at places frames k d are inside = ap (λ l. slice_index_or l k d) are ∙ get_or-map Some frames k [] d inside

-- a frame in place of another
pub places_set : (places new : List (Option Frame)) (frames : List Frame) (k : ℕ) (frame : Frame) → places ≡ map Some frames → new ≡ slice_set places k (Some frame) → new ≡ map Some (slice_set frames k frame)
places_set places new frames k frame are changed = changed ∙ ap (λ l. slice_set l k (Some frame)) are ∙ sym (map-set Some frames k frame)

-- the last frame taken out
pub places_popped : (places new : List (Option Frame)) (frames : List Frame) → places ≡ map Some frames → new ≡ take (length places - 1) places → new ≡ map Some (take (length frames - 1) frames)
places_popped places new frames are rest =
    rest ∙ ap (λ l. take (length l - 1) l) are ∙ ap (λ n. take (n - 1) (map Some frames)) (length-map frames Some) ∙ take-map Some (length frames - 1) frames

pub last_taken : (frames : List Frame) → 0 < length frames → frames ≡ take (length frames - 1) frames ++ slice_index_or frames (length frames - 1) [] ∷ []
last_taken frames some = sym (take_all (length frames - 1 + 1) frames (omega arith)) ∙ take_more frames (length frames - 1) [] (omega arith)

-- taking the last place of a pack empties it of its last frame, or tells that it has none
module _ (places new : List (Option Frame)) (frames : List Frame) (r : Option (Option Frame)) (are : places ≡ map Some frames) (rest : new ≡ take (length places - 1) places) (last : r ≡ slice_get places (length places - 1)) where
  found : r ≡ slice_get (map Some frames) (length frames - 1)
  found = last ∙ ap (λ (l : List (Option Frame)). slice_get l (length l - 1)) are ∙ ap (λ n. slice_get (map Some frames) (n - 1)) (length-map frames Some)

  left : present new ≡ take (length frames - 1) frames
  left = present_are new _ (places_popped places new frames are rest)

  last_is : 0 < length frames → r ≡ Some (Some (slice_index_or frames (length frames - 1) []))
  last_is some =
      found ∙ slice_get-get_or (map Some frames) (length frames - 1) None (omega (arith, length-map frames (λ (f : Frame). Some f))) ∙ ap Some (get_or-map Some frames (length frames - 1) [] None (omega arith))

  none_is : frames ≡ [] → r ≡ None
  none_is empty = found ∙ ap (λ fs. slice_get (map Some fs) (length fs - 1)) empty

  pub popped_some : IfSome (option_flatten r) (λ frame. frames ≡ present new ++ frame ∷ [])
  popped_some = elim frames as (λ fs. frames ≡ fs → IfSome (option_flatten r) (λ frame. frames ≡ present new ++ frame ∷ [])) [
    | [] ↦ λ e. rw (none_is e) tt
    | ◌∷◌ f fs ↦ λ e. let some : 0 < length frames = omega (arith, ap length e) in rw (last_is some, left) (last_taken frames some)
  ] refl

  pub popped_none : IfNone (option_flatten r) ((frames ≡ []) × (present new ≡ []))
  popped_none = elim frames as (λ fs. frames ≡ fs → IfNone (option_flatten r) ((frames ≡ []) × (present new ≡ []))) [
    | [] ↦ λ e. rw (none_is e) (e, left ∙ ap (λ fs. take (length fs - 1) fs) e)
    | ◌∷◌ f fs ↦ λ e. let some : 0 < length frames = omega (arith, ap length e) in rw (last_is some) tt
  ] refl
