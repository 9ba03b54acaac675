-- The first end among the bytes that were looked at in one go, by the mask of those that are ends.
use Rattle.std.proofs.Common.{◌≡◌, ◌≢◌, ℕ, ◌<◌, ◌≤◌, Bool, true, false, not, List, [], ◌∷◌, length, map, take, eqb, get_or, refl, sym, subst, ◌∙◌, arith, length-take-le, zero-add}
use Rattle.std.specs.List.{prefix_len}
use Rattle.std.specs.Simd.Lanes.{mask_l}
use Rattle.std.proofs.lemmas.Bool.{eqb-true, eq-eqb}
use Rattle.std.proofs.lemmas.List.{get_or-take}
use Rattle.std.proofs.lemmas.List.Elements.{All-from_get_or}
use Rattle.std.proofs.lemmas.Simd.{trailing_mask_l, length-chunk, run_in_chunk_fails, run_in_chunk_stops}
use lib.Count.{count_trailing_zeros}
use Rattle.kz_text.specs.Lines.{EndsAt}

abbrev pub is_end : ℕ → Bool
is_end byte = eqb byte 10

abbrev pub lowest : ℕ → ℕ
lowest mask = count_trailing_zeros 64 mask

abbrev pub mask_of : List ℕ → ℕ
mask_of bytes = mask_l (map is_end bytes)

by_first : (marked : Bool) (byte : ℕ) (bytes : List ℕ) → is_end byte ≡ marked → (0 < mask_of bytes → prefix_len (λ byte. not (is_end byte)) bytes < length bytes) → 0 < mask_of (byte ∷ bytes) →
    prefix_len (λ byte. not (is_end byte)) (byte ∷ bytes) < length (byte ∷ bytes)
by_first true byte bytes e rest some = rw e (omega arith)
by_first false byte bytes e rest some = (let more : 0 < mask_of bytes = (let told = rw e at some in omega arith) in let early = rest more in rw e (omega arith))

-- where a mask has a bit, not all bytes come before the first that is marked
some_marked : (bytes : List ℕ) → 0 < mask_of bytes → prefix_len (λ byte. not (is_end byte)) bytes < length bytes
some_marked [] some = absurd (omega arith)
some_marked (byte ∷ bytes) some = by_first (is_end byte) byte bytes refl (some_marked bytes) some

pub ends_lowest : (bytes : List ℕ) → 32 ≤ length bytes → 0 < mask_of (take 32 bytes) → EndsAt bytes (lowest (mask_of (take 32 bytes)))
ends_lowest bytes room some =
    let at = lowest (mask_of (take 32 bytes)) in
    let long : length (take 32 bytes) ≡ 32 = length-chunk 0 32 bytes room in
    let counted : at ≡ prefix_len (λ byte. not (is_end byte)) (take 32 bytes) = trailing_mask_l is_end 64 (take 32 bytes) (omega arith) some in
    let below : at < 32 = (let marked = some_marked (take 32 bytes) some in omega (arith, counted, marked, long)) in
    let stops = run_in_chunk_stops is_end bytes 0 32 at 0 room counted below in
    let fails = run_in_chunk_fails is_end bytes 0 32 at 0 room counted in
    record {
      within = omega arith;
      end = eqb-true _ 10 (subst (λ n. is_end (get_or bytes n 0) ≡ true) (zero-add at) stops);
      none_before = All-from_get_or (λ byte. byte ≢ 10) (take at bytes) 0 (λ k lt.
          (let early : k < at = (let size = length-take-le at bytes (omega arith) in omega (arith, size)) in
          λ is. (let yes = eq-eqb (get_or bytes k 0) 10 (sym (get_or-take at bytes k 0 early) ∙ is) in absurd (let no = fails k (omega arith) (omega arith) in cc))));
    }
