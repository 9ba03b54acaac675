-- One chunk of a zone changes, and its place with it.
use Rattle.std.proofs.Common.{◌≡◌, ℕ, zero, suc, ◌*◌, ◌<◌, ◌≤◌, ◌==◌, ◌&&◌, Bool, true, false, if◌then◌else◌, List, [], ◌∷◌, ◌++◌, All, length, length-append, map, slice_index_or, slice_set, slice_get, Some, refl, ap, sym, ◌∙◌, subst, arith}
use Rattle.std.proofs.Math.Seq.{map-set_same}
use Rattle.std.proofs.lemmas.List.{length-set, length-map, map-set, map_push, get_or-map, set-get_or}
use Rattle.std.proofs.lemmas.List.Elements.{All-set, All-push, All-get_or}
use Rattle.std.proofs.lemmas.Option.{slice_get-get_or, get_or_from_slice_get}
use Rattle.kz_model.specs.declared.record.ZoneParams.{ZoneParams}
use Rattle.kz_model.specs.Zone.State.{Chunk as State, no_chunk, chunk_at}
use Rattle.kz_model.specs.Zone.Pick.{is_whole}
use Rattle.kz_model.specs.Zone.Whole.{Rises, IsChunk}
use Rattle.kz_model.proofs.Standing.{chunk-set, mapped_within}
use Rattle.kz_chunk.specs.Chunk.{Chunk}
use Rattle.kz_queue.specs.declared.place.Place.{Place}
use Rattle.kz_queue.specs.Shelf.{Shelf}
use Rattle.kz_zone.specs.Zone.{place_of}
use Rattle.kz_zone.specs.Chunks.{Chunks as Seen, states_of, bases_of, shape_of, AreChunks}

-- chunks by their fields
abbrev pub seen : ZoneParams → ℕ → List Chunk → Seen
seen p most chunks = record { params = p; most = most; chunks = states_of chunks; bases = bases_of chunks }

-- an item that stands there already
pub set_there : {X : Type 0} (xs : List X) (k : ℕ) (x : X) → slice_get xs k ≡ Some x → slice_set xs k x ≡ xs
set_there xs k x h = ap (λ y. slice_set xs k y) (sym (get_or_from_slice_get xs k x x h)) ∙ set-get_or xs k x

-- a chunk with idle elements is there
pub idle_within : (chunks : List State) (k : ℕ) → 0 < length (chunk_at chunks k).idle → k < length chunks
idle_within [] k h = absurd (omega arith)
idle_within (chunk ∷ chunks) zero h = omega arith
idle_within (chunk ∷ chunks) (suc k) h = omega (arith, idle_within chunks k h)

-- a chunk that is wholly idle is mapped
pub whole_mapped : (count : ℕ) (chunk : State) → is_whole count chunk ≡ true → chunk.mapped ≡ true
whole_mapped count chunk h = by_test chunk.mapped (length chunk.idle == count) h
  where
    by_test : (m w : Bool) → (m && w) ≡ true → m ≡ true
    by_test true w h = refl
    by_test false w h = absurd (cc)

pub whole_within : (count : ℕ) (chunks : List State) (k : ℕ) → is_whole count (chunk_at chunks k) ≡ true → k < length chunks
whole_within count chunks k h = mapped_within chunks k (whole_mapped count (chunk_at chunks k) h)

-- what a chunk keeps, as its zone says it
pub is_chunk : (p : ZoneParams) (c : Chunk) → c.shape ≡ shape_of p → Rises 0 c.shape.count c.state.idle → (c.state.mapped ≡ false → c.state ≡ no_chunk) → (c.state.mapped ≡ true → length c.state.bytes ≡ c.shape.count * c.shape.element) → IsChunk p c.state
is_chunk p c same rises unmapped bytes =
    record {
      rises = subst (λ n. Rises 0 n c.state.idle) (ap (λ s. s.count) same) rises;
      unmapped = unmapped;
      bytes = λ m. bytes m ∙ ap (λ s. s.count * s.element) same;
    }

-- ---- the chunk before

-- what is known of the chunk that is read
pub record IsThere (p : ZoneParams) (chunks : List Chunk) (shelf : Shelf) (k : ℕ) (c : Chunk) : Type 0 where
  pub within : k < length chunks
  pub shape : c.shape ≡ shape_of p
  pub state : chunk_at (states_of chunks) k ≡ c.state
  pub place : slice_get shelf.places k ≡ Some (place_of p.count c.state)
  pub kept : IsChunk p c.state

pub is_there : (p : ZoneParams) (most capacity k : ℕ) (chunks : List Chunk) (shelf : Shelf) (c : Chunk) → AreChunks p most capacity chunks shelf → k < length chunks → c ≡ slice_index_or chunks k c → IsThere p chunks shelf k c
is_there p most capacity k chunks shelf c h lt is =
    let size : length (states_of chunks) ≡ length chunks = length-map chunks (λ chunk. chunk.state) in
    let state : chunk_at (states_of chunks) k ≡ c.state = get_or-map (λ (chunk : Chunk). chunk.state) chunks k c no_chunk lt ∙ ap (λ (chunk : Chunk). chunk.state) (sym is) in
    record {
      within = lt;
      shape = subst (λ (chunk : Chunk). chunk.shape ≡ shape_of p) (sym is) (All-get_or (λ (chunk : Chunk). chunk.shape ≡ shape_of p) chunks k c lt h.shapes);
      state = state;
      place = at_place (place_of p.count) (states_of chunks) shelf.places k c.state h.places (omega (arith, size)) state;
      kept = subst (λ chunk. IsChunk p chunk) state (h.kept k);
    }
  where
    at_place : (f : State → Place) (states : List State) (places : List Place) (k : ℕ) (c : State) → places ≡ map f states → k < length states → chunk_at states k ≡ c → slice_get places k ≡ Some (f c)
    at_place f states places k c same lt is =
        ap (λ xs. slice_get xs k) same ∙ slice_get-get_or (map f states) k (f no_chunk) (omega (arith, length-map states f)) ∙ ap (λ x. Some x) (get_or-map f states k no_chunk (f no_chunk) lt ∙ ap f is)

-- ---- the chunk after

pub one_changed : (p : ZoneParams) (most capacity k : ℕ) (chunks : List Chunk) (shelf left : Shelf) (c : Chunk) → AreChunks p most capacity chunks shelf → k < length chunks → c.shape ≡ shape_of p → IsChunk p c.state →
    left ≡ record shelf { places = slice_set shelf.places k (place_of p.count c.state) } → AreChunks p most capacity (slice_set chunks k c) left
one_changed p most capacity k chunks shelf left c h lt shape is moved =
    let states : states_of (slice_set chunks k c) ≡ slice_set (states_of chunks) k c.state = map-set (λ chunk. chunk.state) chunks k c in
    let size : length (states_of chunks) ≡ length chunks = length-map chunks (λ chunk. chunk.state) in
    record {
      fit = h.fit;
      few = omega (arith, h.few, length-set chunks k c);
      most_chunks = h.most_chunks;
      enough = h.enough;
      shelf_room = ap (λ (s : Shelf). s.room) moved ∙ h.shelf_room;
      places = ap (λ (s : Shelf). s.places) moved ∙ ap (λ xs. slice_set xs k (place_of p.count c.state)) h.places ∙ sym (map-set (place_of p.count) (states_of chunks) k c.state) ∙ ap (map (place_of p.count)) (sym states);
      shapes = All-set (λ (chunk : Chunk). chunk.shape ≡ shape_of p) chunks k c shape h.shapes;
      kept = λ j. subst (λ chunk. IsChunk p chunk) (sym (ap (λ xs. chunk_at xs j) states ∙ chunk-set (states_of chunks) k j c.state (omega (arith, size)))) (elim (j == k) as (λ b. IsChunk p (if b then c.state else chunk_at (states_of chunks) j)) [ true ↦ is | false ↦ h.kept j ]);
    }

-- The chunks with one changed and put in its place on the shelf, where what it keeps is known.
pub still_chunks : {slack : List ℕ} (p : ZoneParams) (most capacity k : ℕ) (chunks : List Chunk) (shelf left : Shelf) (old c : Chunk) (change : State → State) (place : Place) → AreChunks p most capacity chunks shelf → k < length chunks → old ≡ slice_index_or chunks k old → c ≡ record old { state = change old.state; slack = slack } →
    Rises 0 c.shape.count c.state.idle → (c.state.mapped ≡ false → c.state ≡ no_chunk) → (c.state.mapped ≡ true → length c.state.bytes ≡ c.shape.count * c.shape.element) →
    left ≡ record shelf { places = slice_set shelf.places k place } → place ≡ place_of p.count c.state → AreChunks p most capacity (slice_set chunks k c) left
still_chunks p most capacity k chunks shelf left old c change place h lt read made rises unmapped bytes moved is =
    let there = is_there p most capacity k chunks shelf old h lt read in
    let shape : c.shape ≡ shape_of p = ap (λ (c : Chunk). c.shape) made ∙ there.shape in
    one_changed p most capacity k chunks shelf left c h lt shape (is_chunk p c shape rises unmapped bytes) (moved ∙ ap (λ q. record shelf { places = slice_set shelf.places k q }) is)

-- the same where the chunk stays in its place
pub still_there : (p : ZoneParams) (most capacity k : ℕ) (chunks : List Chunk) (shelf : Shelf) (old c : Chunk) (change : State → State) → AreChunks p most capacity chunks shelf → k < length chunks → old ≡ slice_index_or chunks k old → c ≡ record old { state = change old.state } →
    Rises 0 c.shape.count c.state.idle → (c.state.mapped ≡ false → c.state ≡ no_chunk) → (c.state.mapped ≡ true → length c.state.bytes ≡ c.shape.count * c.shape.element) →
    place_of p.count (change old.state) ≡ place_of p.count old.state → AreChunks p most capacity (slice_set chunks k c) shelf
still_there p most capacity k chunks shelf old c change h lt read made rises unmapped bytes stays =
    let there = is_there p most capacity k chunks shelf old h lt read in
    let moved : shelf ≡ record shelf { places = slice_set shelf.places k (place_of p.count old.state) } = ap (λ xs. record shelf { places = xs }) (sym (set_there shelf.places k (place_of p.count old.state) there.place)) in
    still_chunks p most capacity k chunks shelf shelf old c change (place_of p.count old.state) h lt read made rises unmapped bytes moved (sym stays ∙ ap (λ (c : Chunk). place_of p.count c.state) (sym made))

-- ---- one chunk more

all_kept : (p : ZoneParams) (states : List State) (c : State) → ((ordinal : ℕ) → IsChunk p (chunk_at states ordinal)) → IsChunk p c → (ordinal : ℕ) → IsChunk p (chunk_at (states ++ c ∷ []) ordinal)
all_kept p [] c h is zero = is
all_kept p [] c h is (suc ordinal) = h zero
all_kept p (s ∷ states) c h is zero = h zero
all_kept p (s ∷ states) c h is (suc ordinal) = all_kept p states c (λ k. h (suc k)) is ordinal

pub one_added : (p : ZoneParams) (most capacity room : ℕ) (chunks all : List Chunk) (shelf left : Shelf) (c : Chunk) → AreChunks p most capacity chunks shelf → length chunks < most → capacity ≤ room → all ≡ chunks ++ c ∷ [] → c.shape ≡ shape_of p → IsChunk p c.state →
    left ≡ record shelf { places = shelf.places ++ place_of p.count c.state ∷ [] } → AreChunks p most room all left
one_added p most capacity room chunks all shelf left c h lt more is shape kept moved =
    let states : states_of all ≡ states_of chunks ++ c.state ∷ [] = ap states_of is ∙ map_push (λ (chunk : Chunk). chunk.state) chunks c in
    record {
      fit = h.fit;
      few = omega (arith, lt, ap length is, length-append chunks (c ∷ []));
      most_chunks = h.most_chunks;
      enough = omega (arith, h.enough, more);
      shelf_room = ap (λ (s : Shelf). s.room) moved ∙ h.shelf_room;
      places = ap (λ (s : Shelf). s.places) moved ∙ ap (λ xs. xs ++ place_of p.count c.state ∷ []) h.places ∙ sym (map_push (place_of p.count) (states_of chunks) c.state) ∙ ap (map (place_of p.count)) (sym states);
      shapes = subst (All (λ (chunk : Chunk). chunk.shape ≡ shape_of p)) (sym is) (All-push (λ (chunk : Chunk). chunk.shape ≡ shape_of p) chunks c h.shapes shape);
      kept = λ ordinal. subst (λ xs. IsChunk p (chunk_at xs ordinal)) (sym states) (all_kept p (states_of chunks) c.state h.kept kept ordinal);
    }

-- ---- what is seen of it

-- a chunk that was seen there
pub seen_within : (z : Seen) (p : ZoneParams) (most k : ℕ) (chunks : List Chunk) → seen p most chunks ≡ z → k < length z.chunks → k < length chunks
seen_within z p most k chunks is lt = omega (arith, length-map chunks (λ chunk. chunk.state), ap (λ (z : Seen). length z.chunks) is)

-- the zone's chunks with this one changed so
pub seen_changed : {slack : List ℕ} (z : Seen) (p : ZoneParams) (most k : ℕ) (chunks : List Chunk) (old c : Chunk) (change : State → State) → seen p most chunks ≡ z → k < length chunks → old ≡ slice_index_or chunks k old → c ≡ record old { state = change old.state; slack = slack } →
    seen p most (slice_set chunks k c) ≡ record z { chunks = slice_set z.chunks k (change (chunk_at z.chunks k)) }
seen_changed z p most k chunks old c change is lt read made =
    let F : Seen → Seen = λ z. record z { chunks = slice_set z.chunks k (change (chunk_at z.chunks k)) } in
    let state : chunk_at (states_of chunks) k ≡ old.state = get_or-map (λ (chunk : Chunk). chunk.state) chunks k old no_chunk lt ∙ ap (λ (chunk : Chunk). chunk.state) (sym read) in
    let states : states_of (slice_set chunks k c) ≡ slice_set (states_of chunks) k (change (chunk_at (states_of chunks) k)) =
    map-set (λ chunk. chunk.state) chunks k c ∙ ap (λ (chunk : Chunk). slice_set (states_of chunks) k chunk.state) made ∙ ap (λ s. slice_set (states_of chunks) k (change s)) (sym state) in
    let bases : bases_of (slice_set chunks k c) ≡ bases_of chunks = map-set_same (λ (chunk : Chunk). chunk.base) chunks k c old (ap (λ (chunk : Chunk). chunk.base) made ∙ ap (λ (chunk : Chunk). chunk.base) read) in
    (λ i. record { params = p; most = most; chunks = states i; bases = bases i }) ∙ ap F is
