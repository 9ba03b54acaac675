-- Frames that come and go.
use Rattle.std.proofs.Common.{◌≡◌, ◌+◌, ◌-◌, ◌<◌, ◌≤◌, ℕ, List, [], ◌∷◌, ◌++◌, length, take, slice_index_or, All, sym, subst, ◌∙◌, ap, ap₂, arith}
use Rattle.std.proofs.lemmas.List.{length-take-le, take-take}
use Rattle.std.proofs.lemmas.List.Elements.{All-take}
use Rattle.std.proofs.lemmas.Grind.{replicate_next}
use Rattle.kz_frame.specs.Frames.{zero_frame, zero_frames}

-- so many frames are made
pub record AreMade (capacity made : ℕ) (frames : List (List ℕ)) (count : ℕ) : Type 0 where
  pub room : count ≤ capacity
  pub frames_are : frames ≡ zero_frames made

-- so many of the free frames are taken
pub record AreTaken (old free : List (List ℕ)) (was capacity taken : ℕ) (frames : List (List ℕ)) : Type 0 where
  pub room : was ≤ capacity
  pub left : free ≡ take (length old - taken) old
  pub frames_are : frames ≡ zero_frames taken

-- what is in the pack still comes back
pub record AreBack (old free : List (List ℕ)) (was capacity : ℕ) (pack frames : List (List ℕ)) : Type 0 where
  pub room : was ≤ capacity
  pub fits : length free + length frames ≤ capacity
  pub back : free ++ zero_frames (length frames) ≡ old ++ zero_frames (length pack)

-- one frame more is taken, the last of the free ones
pub taken_more : (old free new : List (List ℕ)) (was capacity now taken : ℕ) (frames : List (List ℕ)) (frame : List ℕ) → All (λ f. f ≡ zero_frame) old → taken < length old → AreTaken old free was capacity taken frames → capacity ≤ now →
    new ≡ take (length free - 1) free → frame ≡ slice_index_or free (length free - 1) [] → AreTaken old new was now (taken + 1) (frames ++ frame ∷ [])
taken_more old free new was capacity now taken frames frame zero more before room rest last =
    let kept = before.room in
    let size : length free ≡ length old - taken = ap length before.left ∙ length-take-le (length old - taken) old (omega arith) in
    let zeros : All (λ (f : List ℕ). f ≡ zero_frame) free = subst (All (λ (f : List ℕ). f ≡ zero_frame)) (sym before.left) (All-take (λ (f : List ℕ). f ≡ zero_frame) (length old - taken) old zero) in
    let is_zero : frame ≡ zero_frame = last ∙ zeros (length free - 1) [] (omega arith) in
    record {
      room = omega arith;
      left = rest ∙ ap₂ (λ n (l : List (List ℕ)). take n l) (omega arith) before.left ∙ take-take (length old - (taken + 1)) (length old - taken) old (omega arith);
      frames_are = ap₂ (λ (l : List (List ℕ)) f. l ++ f ∷ []) before.frames_are is_zero ∙ sym (replicate_next taken zero_frame);
    }
