-- The bytes of elements among those of the frames.
use Rattle.std.proofs.Common.{◌≡◌, ℕ, ◌+◌, ◌-◌, ◌*◌, ◌<◌, ◌≤◌, ◌==◌, true, not, Bool, All, List, ◌++◌, length, length-append, take, drop, replicate, ap, ap₂, sym, ◌∙◌, subst, arith}
use Rattle.std.specs.List.{range_with_len}
use Rattle.std.proofs.Math.Nat.{mul-le-mul_right}
use Rattle.std.proofs.Math.Seq.{take-append-add}
use Rattle.std.proofs.lemmas.List.{drop-take, length-drop, length-replicate, length-take-le, replicate-append-replicate, take-take}
use Rattle.std.proofs.lemmas.Slice.{drop-append-drop}
use Rattle.kz_model.specs.declared.record.Geometry.{Geometry}
use Rattle.kz_model.specs.Zone.Rules.{with_number}
use Rattle.kz_model.specs.Zone.Whole.{times_idle, Rises}
use Rattle.kz_model.proofs.Counting.{length_within, rises-filter, rises-range, rises-with_number}
use Rattle.kz_frame.proofs.Joins.{length-joined, written_more}
use Rattle.kz_frame.specs.Frames.{joined, written}
use Rattle.kz_model.specs.Types.Class.{IsFitGeometry}
use Rattle.kz_chunk.specs.Chunk.{Chunk, IsInside, first_of, slack_of, with_bytes_at}
use Rattle.kz_chunk.specs.Kept.{bytes_of, seen, without, IsSoundChunk}

-- ---- places

-- an element ends within the elements, and these within the frames
pub element_ends : (shape : Geometry) (index : ℕ) → index < shape.count → first_of shape index + shape.element ≤ shape.count * shape.element
element_ends shape index lt = let more : (index + 1) * shape.element ≤ shape.count * shape.element = mul-le-mul_right shape.element (omega arith) in omega arith

pub frames_hold : (shape : Geometry) (mapped : Bool) (idle : List ℕ) (frames : List (List ℕ)) → IsSoundChunk shape mapped idle frames → mapped ≡ true → shape.count * shape.element ≤ length (joined frames)
frames_hold shape mapped idle frames kept is = omega (arith, kept.bytes, kept.pages is, kept.shape.within)

pub bytes_many : (shape : Geometry) (mapped : Bool) (idle : List ℕ) (frames : List (List ℕ)) → IsSoundChunk shape mapped idle frames → mapped ≡ true → length (bytes_of shape frames) ≡ shape.count * shape.element
bytes_many shape mapped idle frames kept is = length-take-le (shape.count * shape.element) (joined frames) (frames_hold shape mapped idle frames kept is)

-- ---- reads and writes

read_within : (len at n : ℕ) (xs : List ℕ) → at + len ≤ n → take len (drop at (take n xs)) ≡ take len (drop at xs)
read_within len at n xs fits =
    let split : n ≡ at + (n - at) = omega arith in
    ap (λ m. take len (drop at (take m xs))) split ∙ ap (take len) (drop-take at (n - at) xs) ∙ take-take len (n - at) (drop at xs) (omega arith)

write_within : (at n : ℕ) (bytes xs : List ℕ) → at + length bytes ≤ n → n ≤ length xs → take n (written at bytes xs) ≡ written at bytes (take n xs)
write_within at n bytes xs fits inside =
    let front = take at xs ++ bytes in
    let back = at + length bytes in
    let long : length front ≡ back = omega (arith, length-append (take at xs) bytes, length-take-le at xs (omega arith)) in
    let split : n ≡ length front + (n - back) = omega arith in
    let rest : n ≡ back + (n - back) = omega arith in
    ap (λ m. take m (front ++ drop back xs)) split ∙ take-append-add front (drop back xs) (n - back)
    ∙ ap₂ (λ begins ends. (begins ++ bytes) ++ ends) (sym (take-take at n xs (omega arith))) (sym (ap (λ m. drop back (take m xs)) rest ∙ drop-take back (n - back) xs))

-- what is written within the first bytes leaves those behind them
rest_within : (at n : ℕ) (bytes xs : List ℕ) → at + length bytes ≤ n → n ≤ length xs → drop n (written at bytes xs) ≡ drop n xs
rest_within at n bytes xs fits inside =
    let long : length (take at xs ++ bytes) ≡ at + length bytes = omega (arith, length-append (take at xs) bytes, length-take-le at xs (omega arith)) in
    drop-append-drop (at + length bytes) xs (take at xs ++ bytes) n fits long

pub length_written : (at : ℕ) (bytes xs : List ℕ) → at + length bytes ≤ length xs → length (written at bytes xs) ≡ length xs
length_written at bytes xs fits =
    omega (arith, length-append (take at xs ++ bytes) (drop (at + length bytes) xs), length-append (take at xs) bytes, length-take-le at xs (omega arith), length-drop (at + length bytes) xs)

pub read_is : (shape : Geometry) (index off len : ℕ) (frames : List (List ℕ)) → IsInside shape index off len →
    take len (drop (first_of shape index + off) (joined frames)) ≡ take len (drop (first_of shape index + off) (bytes_of shape frames))
read_is shape index off len frames inside =
    sym (read_within len (first_of shape index + off) (shape.count * shape.element) (joined frames) (omega (arith, inside.within, element_ends shape index inside.element)))

-- frames with bytes written over those of elements
pub write_is : (shape : Geometry) (at : ℕ) (bytes : List ℕ) (mapped : Bool) (idle : List ℕ) (frames new : List (List ℕ)) → at + length bytes ≤ shape.count * shape.element → IsSoundChunk shape mapped idle frames → mapped ≡ true →
    joined new ≡ written at bytes (joined frames) → bytes_of shape new ≡ written at bytes (bytes_of shape frames)
write_is shape at bytes mapped idle frames new fits kept is over =
    ap (take (shape.count * shape.element)) over ∙ write_within at (shape.count * shape.element) bytes (joined frames) fits (frames_hold shape mapped idle frames kept is)

-- and the bytes behind the elements stay
pub write_spares : (shape : Geometry) (at : ℕ) (bytes : List ℕ) (mapped : Bool) (idle : List ℕ) (frames new : List (List ℕ)) → at + length bytes ≤ shape.count * shape.element → IsSoundChunk shape mapped idle frames → mapped ≡ true →
    joined new ≡ written at bytes (joined frames) → slack_of shape new ≡ slack_of shape frames
write_spares shape at bytes mapped idle frames new fits kept is over =
    ap (drop (shape.count * shape.element)) over ∙ rest_within at (shape.count * shape.element) bytes (joined frames) fits (frames_hold shape mapped idle frames kept is)

pub write_keeps : (shape : Geometry) (at : ℕ) (bytes : List ℕ) (mapped : Bool) (idle : List ℕ) (frames new : List (List ℕ)) → at + length bytes ≤ shape.count * shape.element → IsSoundChunk shape mapped idle frames → mapped ≡ true →
    joined new ≡ written at bytes (joined frames) → length new ≡ length frames → IsSoundChunk shape mapped idle new
write_keeps shape at bytes mapped idle frames new fits kept is over same = record {
  shape = kept.shape;
  rises = kept.rises;
  bytes = ap length over ∙ length_written at bytes (joined frames) (omega (arith, fits, frames_hold shape mapped idle frames kept is)) ∙ kept.bytes ∙ ap (λ n. 4096 * n) (sym same);
  pages = λ yes. same ∙ kept.pages yes;
  nothing = λ no_more. absurd cc;
}

-- ---- what is seen of it

-- bytes written at a place that its shape tells
pub write_seen : (place : Geometry → ℕ) (bytes : Geometry → List ℕ) (shape : Geometry) (base : ℕ) (mapped : Bool) (idle : List ℕ) (frames new : List (List ℕ)) (now : Chunk) →
    seen shape base mapped idle frames ≡ now → IsSoundChunk shape mapped idle frames → now.state.mapped ≡ true → place now.shape + length (bytes now.shape) ≤ now.shape.count * now.shape.element →
    joined new ≡ written (place shape) (bytes shape) (joined frames) →
    seen shape base mapped idle new ≡ record now { state = with_bytes_at (place now.shape) (bytes now.shape) now.state }
write_seen place bytes shape base mapped idle frames new now view kept =
    subst (λ (now : Chunk). now.state.mapped ≡ true → place now.shape + length (bytes now.shape) ≤ now.shape.count * now.shape.element → joined new ≡ written (place shape) (bytes shape) (joined frames) →
    seen shape base mapped idle new ≡ record now { state = with_bytes_at (place now.shape) (bytes now.shape) now.state })
    view
    (λ is fits over.
    let with : List ℕ → List ℕ → Chunk = λ bytes slack. record { shape = shape; base = base; state = record { mapped = mapped; idle = idle; bytes = bytes }; slack = slack } in
    ap₂ with (write_is shape (place shape) (bytes shape) mapped idle frames new fits kept is over) (write_spares shape (place shape) (bytes shape) mapped idle frames new fits kept is over))

-- ---- idle elements

pub taken_keeps : (shape : Geometry) (mapped : Bool) (idle new : List ℕ) (frames : List (List ℕ)) (element : ℕ) → IsSoundChunk shape mapped idle frames → mapped ≡ true → new ≡ without element idle → IsSoundChunk shape mapped new frames
taken_keeps shape mapped idle new frames element kept is left = record {
  shape = kept.shape;
  rises = subst (Rises 0 shape.count) (sym left) (rises-filter (λ j. not (j == element)) 0 shape.count idle kept.rises);
  bytes = kept.bytes;
  pages = kept.pages;
  nothing = λ no_more. absurd cc;
}

pub put_keeps : (shape : Geometry) (mapped : Bool) (idle new : List ℕ) (frames : List (List ℕ)) (element : ℕ) → IsSoundChunk shape mapped idle frames → mapped ≡ true → element < shape.count → times_idle element idle ≡ 0 →
    new ≡ with_number element idle → IsSoundChunk shape mapped new frames
put_keeps shape mapped idle new frames element kept is within away more = record {
  shape = kept.shape;
  rises = subst (Rises 0 shape.count) (sym more) (rises-with_number 0 shape.count element idle (omega arith) within away kept.rises);
  bytes = kept.bytes;
  pages = kept.pages;
  nothing = λ no_more. absurd cc;
}

pub map_keeps : (shape : Geometry) (idle : List ℕ) (frames : List (List ℕ)) → IsFitGeometry shape → idle ≡ range_with_len 0 shape.count → All (λ frame. length frame ≡ 4096) frames → length frames ≡ shape.pages → IsSoundChunk shape true idle frames
map_keeps shape idle frames fit all sizes many = record {
  shape = fit;
  rises = subst (Rises 0 shape.count) (sym all) all_rise;
  bytes = length-joined frames sizes;
  pages = λ yes. many;
  nothing = λ no_more. absurd cc;
}
  where
    all_rise : Rises 0 shape.count (range_with_len 0 shape.count)
    all_rise = let none : 0 + shape.count ≡ shape.count = omega arith in subst (λ high. Rises 0 high (range_with_len 0 shape.count)) none (rises-range 0 shape.count)

pub idle_few : (shape : Geometry) (base : ℕ) (mapped : Bool) (idle : List ℕ) (frames : List (List ℕ)) (now : Chunk) → seen shape base mapped idle frames ≡ now → IsSoundChunk shape mapped idle frames → length now.state.idle ≤ now.shape.count
idle_few shape base mapped idle frames now view kept = subst (λ (now : Chunk). length now.state.idle ≤ now.shape.count) view (omega (arith, length_within 0 shape.count idle kept.rises))

-- ---- zeros

pub zero_more : (at done count : ℕ) (part old now new : List ℕ) → part ≡ replicate count 0 → at + done ≤ length old → now ≡ written at (replicate done 0) old → new ≡ written (at + done) part now → new ≡ written at (replicate (done + count) 0) old
zero_more at done count part old now new zeros fits before over =
    let long : length (replicate {A = ℕ} done 0) ≡ done = length-replicate {A = ℕ} done 0 in
    over ∙ ap₂ (λ (part now : List ℕ). written (at + done) part now) zeros before
    ∙ ap (λ n. written (at + n) (replicate count 0) (written at (replicate done 0) old)) (sym long)
    ∙ written_more at (replicate done 0) (replicate count 0) old (omega (arith, long))
    ∙ ap (λ (zeros : List ℕ). written at zeros old) (replicate-append-replicate done count 0)
