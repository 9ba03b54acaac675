-- The places of chunks on a shelf, and the tests that a zone makes of its chunks.
use Rattle.std.proofs.Common.{◌≡◌, ℕ, ◌+◌, ◌<◌, ◌≤◌, ◌==◌, ◌&&◌, Bool, true, false, not, cond, nat_lt, if◌then◌else◌, List, [], ◌∷◌, length, map, Option, Some, None, refl, ap, ◌∙◌, arith}
use Rattle.std.specs.List.{All, position, position_or_len, list_any}
use Rattle.std.specs.Option.{is_some}
use Rattle.std.proofs.lemmas.List.{length-map}
use Rattle.std.proofs.lemmas.List.Elements.{All-head, All-tail, All-from_get_or}
use Rattle.std.proofs.lemmas.List.Quantifiers.{position-Some}
use Rattle.std.proofs.lemmas.List.Sums.{fails_before_first}
use Rattle.std.proofs.lemmas.List.Folds.{list_any_none, list_any_at}
use Rattle.kz_model.specs.declared.record.ZoneParams.{ZoneParams}
use Rattle.kz_model.specs.Zone.State.{Chunk, no_chunk, chunk_at}
use Rattle.kz_model.specs.Zone.Pick.{is_part, is_whole, first_of_two, chunk_to_pick, unmapped_place}
use Rattle.kz_model.specs.Zone.Whole.{IsChunk}
use Rattle.kz_model.proofs.Counting.{length_within}
use Rattle.kz_model.proofs.Standing.{chunk-picked}
use Rattle.kz_queue.specs.declared.place.Place.{Place}
use Rattle.kz_queue.specs.declared.place.Place.TheVariants.{Part, Whole, Out, Gone}
use Rattle.kz_queue.specs.Shelf.{is_place, lowest_at}
use Rattle.kz_zone.specs.Zone.{place_of}

-- ---- first places

-- where two tests agree, the first place that passes is the same
position_or_len-same : {X : Type 0} (p q : X → Bool) (xs : List X) → All (λ x. p x ≡ q x) xs → position_or_len p xs ≡ position_or_len q xs
position_or_len-same p q [] h = refl
position_or_len-same p q (x ∷ xs) h =
    ap (λ b. cond (not b) (1 + position_or_len p xs) 0) (All-head (λ x. p x ≡ q x) x xs h) ∙ ap (λ n. cond (not (q x)) (1 + n) 0) (position_or_len-same p q xs (All-tail (λ x. p x ≡ q x) x xs h))

pub position-same : {X : Type 0} (p q : X → Bool) (xs : List X) → All (λ x. p x ≡ q x) xs → position p xs ≡ position q xs
position-same p q xs h = ap (λ n. cond (nat_lt n (length xs)) (Some n) None) (position_or_len-same p q xs h)

position_or_len-map : {X Y : Type 0} (f : X → Y) (p : Y → Bool) (xs : List X) → position_or_len p (map f xs) ≡ position_or_len (λ x. p (f x)) xs
position_or_len-map f p [] = refl
position_or_len-map f p (x ∷ xs) = ap (λ n. cond (not (p (f x))) (1 + n) 0) (position_or_len-map f p xs)

pub position-map : {X Y : Type 0} (f : X → Y) (p : Y → Bool) (xs : List X) → position p (map f xs) ≡ position (λ x. p (f x)) xs
position-map f p xs = ap (λ n. cond (nat_lt n (length (map f xs))) (Some n) None) (position_or_len-map f p xs) ∙ ap (λ n. cond (nat_lt (position_or_len (λ x. p (f x)) xs) n) (Some (position_or_len (λ x. p (f x)) xs)) None) (length-map xs f)

-- ---- one chunk

-- where a chunk stands, by whether it is mapped and how many elements are idle
abbrev place_by : ℕ → Bool → ℕ → Place
place_by count mapped idle = if mapped then (if idle == count then Whole else if nat_lt 0 idle then Part else Out) else Gone

is_gone : (count : ℕ) (mapped : Bool) (idle : ℕ) → is_place Gone (place_by count mapped idle) ≡ not mapped
is_gone count false idle = refl
is_gone count true idle =
    elim (idle == count) as (λ b. is_place Gone (if b then Whole else if nat_lt 0 idle then Part else Out) ≡ false) [
      | true ↦ refl
      | false ↦ elim (nat_lt 0 idle) as (λ b. is_place Gone (if b then Part else Out) ≡ false) [ true ↦ refl | false ↦ refl ]
    ]

is_at_whole : (count : ℕ) (mapped : Bool) (idle : ℕ) → is_place Whole (place_by count mapped idle) ≡ (mapped && (idle == count))
is_at_whole count false idle = refl
is_at_whole count true idle =
    elim (idle == count) as (λ b. is_place Whole (if b then Whole else if nat_lt 0 idle then Part else Out) ≡ b) [
      | true ↦ refl
      | false ↦ elim (nat_lt 0 idle) as (λ b. is_place Whole (if b then Part else Out) ≡ false) [ true ↦ refl | false ↦ refl ]
    ]

is_at_part : (count : ℕ) (mapped : Bool) (idle : ℕ) → idle ≤ count → is_place Part (place_by count mapped idle) ≡ (mapped && nat_lt 0 idle && nat_lt idle count)
is_at_part count false idle few = refl
is_at_part count true idle few =
    elim (idle == count) as (λ b. (idle == count) ≡ b → is_place Part (if b then Whole else if nat_lt 0 idle then Part else Out) ≡ (nat_lt 0 idle && nat_lt idle count)) [
      | true ↦ λ e. grind arith
      | false ↦ λ e. some (nat_lt 0 idle) (nat_lt idle count) (grind arith)
    ] refl
  where
    some : (part less : Bool) → less ≡ true → is_place Part (if part then Part else Out) ≡ (part && less)
    some true true e = refl
    some false true e = refl
    some part false e = absurd (cc)

-- ---- all chunks

pub unmapped-lowest : (count : ℕ) (chunks : List Chunk) → lowest_at Gone (map (place_of count) chunks) ≡ unmapped_place chunks
unmapped-lowest count chunks =
    position-map (place_of count) (is_place Gone) chunks ∙ position-same (λ (c : Chunk). is_place Gone (place_of count c)) (λ c. not c.mapped) chunks (All-from_get_or (λ (c : Chunk). is_place Gone (place_of count c) ≡ not c.mapped) chunks no_chunk (λ i lt. is_gone count (chunk_at chunks i).mapped (length (chunk_at chunks i).idle)))

pub whole-lowest : (count : ℕ) (chunks : List Chunk) → lowest_at Whole (map (place_of count) chunks) ≡ position (is_whole count) chunks
whole-lowest count chunks =
    position-map (place_of count) (is_place Whole) chunks ∙ position-same (λ (c : Chunk). is_place Whole (place_of count c)) (is_whole count) chunks (All-from_get_or (λ (c : Chunk). is_place Whole (place_of count c) ≡ is_whole count c) chunks no_chunk (λ i lt. is_at_whole count (chunk_at chunks i).mapped (length (chunk_at chunks i).idle)))

pub part-lowest : (p : ZoneParams) (chunks : List Chunk) → ((ordinal : ℕ) → IsChunk p (chunk_at chunks ordinal)) → lowest_at Part (map (place_of p.count) chunks) ≡ position (is_part p.count) chunks
part-lowest p chunks h =
    position-map (place_of p.count) (is_place Part) chunks ∙ position-same (λ (c : Chunk). is_place Part (place_of p.count c)) (is_part p.count) chunks (All-from_get_or (λ (c : Chunk). is_place Part (place_of p.count c) ≡ is_part p.count c) chunks no_chunk (λ i lt. is_at_part p.count (chunk_at chunks i).mapped (length (chunk_at chunks i).idle) (few i)))
  where
    few : (i : ℕ) → length (chunk_at chunks i).idle ≤ p.count
    few i = let is : IsChunk p (chunk_at chunks i) = h i in omega (arith, length_within 0 p.count (chunk_at chunks i).idle is.rises)

-- ---- a chunk to pick from

-- where no chunk passes, each fails
pub none_at : (test : Chunk → Bool) (chunks : List Chunk) (k : ℕ) → position test chunks ≡ None → k < length chunks → test (chunk_at chunks k) ≡ false
none_at test chunks k none lt = fails_before_first test chunks k no_chunk (past (position_or_len test chunks) (length chunks) none lt)
  where
    past : (at n : ℕ) → cond (nat_lt at n) (Some at) None ≡ None → k < n → k < at
    past at n e within =
        elim (nat_lt at n) as (λ b. nat_lt at n ≡ b → cond b (Some at) None ≡ None → k < at) [ true ↦ λ t f. absurd (cc) | false ↦ λ t f. grind arith ] refl e

-- a chunk that is neither partly nor wholly idle has no idle element
no_idle : (p : ZoneParams) (c : Chunk) → IsChunk p c → is_part p.count c ≡ false → is_whole p.count c ≡ false → nat_lt 0 (length c.idle) ≡ false
no_idle p c is part whole =
    let few : length c.idle ≤ p.count = omega (arith, length_within 0 p.count c.idle is.rises) in
    by_mapped c.mapped (length c.idle) p.count (λ none. ap (λ (c : Chunk). length c.idle) (is.unmapped none)) few part whole
  where
    by_mapped : (m : Bool) (n count : ℕ) → (m ≡ false → n ≡ 0) → n ≤ count → (m && nat_lt 0 n && nat_lt n count) ≡ false → (m && (n == count)) ≡ false → nat_lt 0 n ≡ false
    by_mapped true n count un few part whole = grind arith
    by_mapped false n count un few part whole = let none : n ≡ 0 = un refl in grind arith

-- some element is idle exactly where there is a chunk to pick from
pub idle_to_pick : (p : ZoneParams) (chunks : List Chunk) → 0 < p.count → ((ordinal : ℕ) → IsChunk p (chunk_at chunks ordinal)) → list_any (λ chunk. nat_lt 0 (length chunk.idle)) chunks ≡ is_some (chunk_to_pick p.count chunks)
idle_to_pick p chunks some h =
    elim (chunk_to_pick p.count chunks) as (λ (o : Option ℕ). chunk_to_pick p.count chunks ≡ o → list_any (λ (chunk : Chunk). nat_lt 0 (length chunk.idle)) chunks ≡ is_some o) [
      | Some k ↦ λ e.
          let at = chunk-picked p.count chunks k some e in
          let idle : nat_lt 0 (length (chunk_at chunks k).idle) ≡ true = (let n = at.1 in grind arith) in
          list_any_at (λ (chunk : Chunk). nat_lt 0 (length chunk.idle)) chunks k no_chunk at.0 idle
      | None ↦ λ e.
          let none = neither (position (is_part p.count) chunks) (position (is_whole p.count) chunks) e in
          list_any_none (λ (chunk : Chunk). nat_lt 0 (length chunk.idle)) chunks (All-from_get_or (λ (chunk : Chunk). nat_lt 0 (length chunk.idle) ≡ false) chunks no_chunk (λ i lt. no_idle p (chunk_at chunks i) (h i) (none_at (is_part p.count) chunks i none.0 lt) (none_at (is_whole p.count) chunks i none.1 lt)))
    ] refl
  where
    neither : (a b : Option ℕ) → first_of_two a b ≡ None → (a ≡ None) × (b ≡ None)
    neither None b e = (refl, e)
    neither (Some k) b e = absurd (cc)

-- the first unmapped chunk
pub unmapped_there : (chunks : List Chunk) (k : ℕ) → unmapped_place chunks ≡ Some k → (k < length chunks) × ((chunk_at chunks k).mapped ≡ false)
unmapped_there chunks k e =
    let at = position-Some (λ (chunk : Chunk). not chunk.mapped) chunks k no_chunk e in
    (at.0, flipped (chunk_at chunks k).mapped at.1)
  where
    flipped : (b : Bool) → not b ≡ true → b ≡ false
    flipped true e = absurd (cc)
    flipped false e = refl
