-- What the loops over a pack keep.
use Rattle.std.proofs.Common.{◌≡◌, ◌+◌, ◌-◌, ◌*◌, ◌/◌, ◌%◌, ◌<◌, ◌≤◌, ℕ, List, [], ◌++◌, length, take, drop, slice_index_or, slice_set, min, sym, ◌∙◌, ap, ap₂, arith, length-append}
use Rattle.std.proofs.Math.Seq.{take-add}
use Rattle.std.proofs.Math.Nat.{div-add-mod}
use Rattle.std.proofs.lemmas.List.{drop-drop, length-drop, length-take, length-take-le, length-set}
use borrow.Rule.Slice.PartMut.{put_mid}
use Rattle.kz_frame.specs.Frames.{joined, written}
use Rattle.kz_frame.proofs.Joins.{AreWhole, length-joined, part_of_joined, joined-set, written_more}

-- so many bytes are read
pub record IsRead (frames : List (List ℕ)) (at done : ℕ) (into : List ℕ) : Type 0 where
  pub most : done ≤ length into
  pub bytes : take done into ≡ take done (drop at (joined frames))

-- so many bytes are written
pub record IsWritten (old new : List (List ℕ)) (at done : ℕ) (from : List ℕ) : Type 0 where
  pub most : done ≤ length from
  pub bytes : joined new ≡ written at (take done from) (joined old)
  pub frames : length new ≡ length old

-- a step of a loop: so many bytes from this place on lie in one frame
pub record IsStep (at done count size frames : ℕ) : Type 0 where
  pub room : at + size ≤ 4096 * frames
  pub more : done < size
  pub count_is : count ≡ min (size - done) (4096 - (at + done) % 4096)

in_frames : (at done count size frames : ℕ) → IsStep at done count size frames → (at + done) / 4096 < frames
in_frames at done count size frames step = let room = step.room in let more = step.more in omega arith

pub in_one : (at done count size frames : ℕ) → IsStep at done count size frames → (at + done) % 4096 + count ≤ 4096
in_one at done count size frames step = let is = step.count_is in omega arith

pub at_most : (at done count size frames : ℕ) → IsStep at done count size frames → done + count ≤ size
at_most at done count size frames step = let is = step.count_is in let more = step.more in omega arith

-- what is written over has the length that it had, if the bytes fit in what comes out
length_of_written : (at : ℕ) (bytes old : List ℕ) → at + length bytes < length (written at bytes old) → length (written at bytes old) ≡ length old
length_of_written at bytes old fits =
    let size : length (written at bytes old) ≡ min at (length old) + length bytes + (length old - (at + length bytes)) =
    length-append (take at old ++ bytes) (drop (at + length bytes) old) ∙ ap₂ (λ m n. m + n) (length-append (take at old) bytes ∙ ap (λ n. n + length bytes) (length-take at old)) (length-drop (at + length bytes) old) in
    omega arith

-- a part of a list in place of as long a part
pub length-put_mid : (at count : ℕ) (xs ys : List ℕ) → length ys ≡ count → at + count ≤ length xs → length (put_mid at count xs ys) ≡ length xs
length-put_mid at count xs ys long inside =
    omega (arith, length-append (take at xs) (ys ++ drop count (drop at xs)), length-append ys (drop count (drop at xs)), length-take-le at xs (omega arith), length-drop count (drop at xs), length-drop at xs)

pub read_more : (frames : List (List ℕ)) (at done count : ℕ) (into new part : List ℕ) → AreWhole frames → IsStep at done count (length into) (length frames) → IsRead frames at done into →
    part ≡ take count (drop ((at + done) % 4096) (slice_index_or frames ((at + done) / 4096) [])) → length new ≡ length into → take (done + count) new ≡ take done into ++ part → IsRead frames at (done + count) new
read_more frames at done count into new part sizes step old part_is long begins =
    let most = at_most at done count (length into) (length frames) step in
    let here : part ≡ take count (drop done (drop at (joined frames))) =
    part_is ∙ sym (part_of_joined frames ((at + done) / 4096) ((at + done) % 4096) count sizes (in_frames at done count (length into) (length frames) step) (in_one at done count (length into) (length frames) step))
    ∙ ap (λ n. take count (drop n (joined frames))) (div-add-mod (at + done) 4096) ∙ ap (take count) (sym (drop-drop done at (joined frames))) in
    record {
      most = omega arith;
      bytes = begins ∙ ap₂ (λ xs ys. xs ++ ys) old.bytes here ∙ sym (take-add done count (drop at (joined frames)));
    }

pub write_more : (old now new : List (List ℕ)) (at done count : ℕ) (from : List ℕ) → AreWhole now → IsStep at done count (length from) (length now) → IsWritten old now at done from →
    new ≡ slice_set now ((at + done) / 4096) (written ((at + done) % 4096) (take count (drop done from)) (slice_index_or now ((at + done) / 4096) [])) → IsWritten old new at (done + count) from
write_more old now new at done count from sizes step before new_is =
    let room = step.room in let more = step.more in
    let most = at_most at done count (length from) (length now) step in let fits = in_one at done count (length from) (length now) step in
    let part = take count (drop done from) in
    let long : length part ≡ count = length-take-le count (drop done from) (omega (arith, length-drop done from)) in
    let so_far : length (take done from) ≡ done = length-take-le done from before.most in
    let whole : length (written at (take done from) (joined old)) ≡ 4096 * length now = ap length (sym before.bytes) ∙ length-joined now sizes in
    let size = length_of_written at (take done from) (joined old) (omega (arith, so_far, whole)) in
    record {
      most = most;
      bytes = ap joined new_is ∙ joined-set now ((at + done) / 4096) ((at + done) % 4096) part sizes (in_frames at done count (length from) (length now) step) (omega (arith, long))
          ∙ ap₂ (λ n bytes. written n part bytes) (div-add-mod (at + done) 4096 ∙ ap (λ n. at + n) (sym so_far)) before.bytes
          ∙ written_more at (take done from) part (joined old) (omega (arith, so_far, size, whole))
          ∙ ap (λ l. written at l (joined old)) (sym (take-add done count from));
      frames = ap length new_is ∙ length-set now ((at + done) / 4096) _ ∙ before.frames;
    }
