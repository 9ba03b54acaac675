-- A chunk that is mapped with frames of zeros is a fresh chunk.
use Rattle.std.proofs.Common.{◌≡◌, ℕ, zero, suc, ◌+◌, ◌*◌, ◌≤◌, List, ◌++◌, take, replicate, ap, ◌∙◌, arith}
use Rattle.std.proofs.lemmas.List.{replicate-append-replicate, take-replicate}
use Rattle.kz_model.specs.declared.record.Geometry.{Geometry}
use Rattle.kz_model.specs.declared.record.ZoneParams.{ZoneParams}
use Rattle.kz_model.specs.Zone.Pick.{fresh_chunk}
use Rattle.kz_frame.specs.Frames.{joined, zero_frames}
use Rattle.kz_chunk.specs.Chunk.{mapped_with}
use Rattle.kz_zone.specs.Chunks.{shape_of}

-- for frames of any size, so that nothing computes their bytes
joined_zeros : (size pages : ℕ) → joined (replicate pages (replicate size 0)) ≡ replicate (pages * size) 0
joined_zeros size zero = let none : 0 ≡ 0 * size = omega arith in ap (λ n. replicate {A = ℕ} n 0) none
joined_zeros size (suc pages) =
    let more : size + pages * size ≡ suc pages * size = grind arith in
    ap (λ (xs : List ℕ). replicate size 0 ++ xs) (joined_zeros size pages) ∙ replicate-append-replicate size (pages * size) 0 ∙ ap (λ n. replicate {A = ℕ} n 0) more

pub mapped_fresh : (p : ZoneParams) (shape : Geometry) (frames : List (List ℕ)) (pages : ℕ) → shape ≡ shape_of p → frames ≡ zero_frames pages → pages ≡ p.pages → p.count * p.element ≤ 4096 * p.pages → mapped_with shape frames ≡ fresh_chunk p
mapped_fresh p shape frames pages is zeros same fits =
    ap (λ s. mapped_with s frames) is ∙ ap (mapped_with (shape_of p)) zeros ∙ ap (λ bytes. record (fresh_chunk p) { bytes = bytes }) bytes
  where
    bytes : take (p.count * p.element) (joined (zero_frames pages)) ≡ replicate (p.count * p.element) 0
    bytes = ap (take (p.count * p.element)) (joined_zeros 4096 pages) ∙ take-replicate (p.count * p.element) (pages * 4096) 0 (omega (arith, fits, same))
