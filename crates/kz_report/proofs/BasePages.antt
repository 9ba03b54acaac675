-- The first pages of all zones' chunks, one entry of the supply's log after another.
use Rattle.std.proofs.Common.{◌≡◌, ◌≢◌, ℕ, zero, suc, ◌+◌, ◌<◌, ◌≤◌, ◌==◌, nat_lt, Bool, true, false, if◌then◌else◌, List, [], ◌∷◌, ◌++◌, length, take, map, slice_index_or, slice_set, Option, None, Some, All, Vec, Global, refl, ap, sym, ◌∙◌, arith}
use Rattle.std.specs.List.{filter, filter_map, range_with_len}
use Rattle.std.specs.Option.{option_map_or}
use Rattle.std.proofs.lemmas.List.{append-nil, map-append, map-set, get_or_past, take_more, length-map}
use Rattle.std.proofs.lemmas.List.FromFn.{map-range_with_len_more}
use Rattle.std.proofs.lemmas.List.Elements.{filter-append, filter_map-append, All-head, All-tail}
use Rattle.kz_model.specs.declared.supply.SupplyEntry.{SupplyEntry}
use Rattle.kz_model.specs.declared.supply.Answer.{Answer}
use Rattle.kz_model.specs.declared.supply.Answer.TheVariants.{Base}
use Rattle.kz_model.specs.Run.Journal.{bases, page_of}
use Rattle.kz_report.specs.Lines.{with_entry}

-- ---- ranges

map_range_same : {A : Type 0} (f g : ℕ → A) (n from : ℕ) → ((z : ℕ) → from ≤ z → f z ≡ g z) → map f (range_with_len from n) ≡ map g (range_with_len from n)
map_range_same f g zero from same = refl
map_range_same {A = A} f g (suc n) from same =
    ap (λ (x : A). x ∷ map f (range_with_len (from + 1) n)) (same from (omega arith))
    ∙ ap (λ (xs : List A). g from ∷ xs) (map_range_same f g n (from + 1) (λ z le. same z (omega arith)))

-- a range's list with another item at one place
set_range : {A : Type 0} (f g : ℕ → A) (v : A) (n k from at : ℕ) → from + k ≡ at → ((z : ℕ) → z ≢ at → f z ≡ g z) → v ≡ g at → slice_set (map f (range_with_len from n)) k v ≡ map g (range_with_len from n)
set_range f g v zero k from at is same here = refl
set_range {A = A} f g v (suc n) zero from at is same here =
    let this : at ≡ from = omega arith in
    ap (λ (x : A). x ∷ map f (range_with_len (from + 1) n)) (here ∙ ap g this)
    ∙ ap (λ (xs : List A). g from ∷ xs) (map_range_same f g n (from + 1) (λ z le. same z (omega arith)))
set_range {A = A} f g v (suc n) (suc k) from at is same here =
    ap (λ (x : A). x ∷ slice_set (map f (range_with_len (from + 1) n)) k v) (same from (omega arith))
    ∙ ap (λ (xs : List A). g from ∷ xs) (set_range f g v n k (from + 1) at (omega arith) same here)

pub get_range : {A : Type 0} (f : ℕ → A) (d : A) (n k from : ℕ) → k < n → slice_index_or (map f (range_with_len from n)) k d ≡ f (from + k)
get_range f d zero k from lt = absurd (omega arith)
get_range f d (suc n) zero from lt = let same : from ≡ from + 0 = omega arith in ap f same
get_range f d (suc n) (suc k) from lt = let same : from + 1 + k ≡ from + suc k = omega arith in get_range f d n k (from + 1) (omega arith) ∙ ap f same

length-range : (n from : ℕ) → length (range_with_len from n) ≡ n
length-range zero from = refl
length-range (suc n) from = ap suc (length-range n (from + 1))

-- ---- one entry more

bases_more : (zone : ℕ) (front : List SupplyEntry) (entry : SupplyEntry) → bases zone (front ++ entry ∷ []) ≡ bases zone front ++ filter_map page_of (if entry.zone == zone then entry.answer ∷ [] else [])
bases_more zone front entry =
    let here = λ (e : SupplyEntry). e.zone == zone in
    let G : List SupplyEntry → List ℕ = λ entries. filter_map page_of (map (λ (e : SupplyEntry). e.answer) entries) in
    ap G (filter-append here front (entry ∷ []))
    ∙ ap (filter_map page_of) (map-append (λ (e : SupplyEntry). e.answer) (filter here front) (filter here (entry ∷ [])))
    ∙ filter_map-append page_of (map (λ (e : SupplyEntry). e.answer) (filter here front)) (map (λ (e : SupplyEntry). e.answer) (filter here (entry ∷ [])))
    ∙ ap (λ (more : List Answer). bases zone front ++ filter_map page_of more) (one (entry.zone == zone) entry)
  where
    one : (t : Bool) (entry : SupplyEntry) → map (λ (e : SupplyEntry). e.answer) (if t then entry ∷ [] else []) ≡ (if t then entry.answer ∷ [] else [])
    one true entry = refl
    one false entry = refl

bases_there : (front : List SupplyEntry) (entry : SupplyEntry) (page : ℕ) → page_of entry.answer ≡ Some page → bases entry.zone (front ++ entry ∷ []) ≡ bases entry.zone front ++ page ∷ []
bases_there front entry page e =
    let here : (entry.zone == entry.zone) ≡ true = grind arith in
    bases_more entry.zone front entry
    ∙ ap (λ t. bases entry.zone front ++ filter_map page_of (if t then entry.answer ∷ [] else [])) here
    ∙ one (page_of entry.answer) e
  where
    one : (o : Option ℕ) → page_of entry.answer ≡ Some page → bases entry.zone front ++ filter_map page_of (entry.answer ∷ []) ≡ bases entry.zone front ++ page ∷ []
    one o e = rw e refl

bases_elsewhere : (zone : ℕ) (front : List SupplyEntry) (entry : SupplyEntry) → zone ≢ entry.zone → bases zone front ≡ bases zone (front ++ entry ∷ [])
bases_elsewhere zone front entry ne =
    let other : (entry.zone == zone) ≡ false = grind arith in
    sym (bases_more zone front entry ∙ ap (λ t. bases zone front ++ filter_map page_of (if t then entry.answer ∷ [] else [])) other ∙ append-nil (bases zone front))

bases_none : (zone : ℕ) (front : List SupplyEntry) (entry : SupplyEntry) → page_of entry.answer ≡ None → bases zone front ≡ bases zone (front ++ entry ∷ [])
bases_none zone front entry e = sym (bases_more zone front entry ∙ ap (λ (more : List ℕ). bases zone front ++ more) (none (entry.zone == zone)) ∙ append-nil (bases zone front))
  where
    none : (t : Bool) → filter_map page_of (if t then entry.answer ∷ [] else []) ≡ []
    none true = rw e refl
    none false = refl

one_entry : (zones : ℕ) (front : List SupplyEntry) (entry : SupplyEntry) →
    with_entry (map (λ zone. bases zone front) (range_with_len 0 zones)) entry ≡ map (λ zone. bases zone (front ++ entry ∷ [])) (range_with_len 0 zones)
one_entry zones front entry =
    let now = map (λ zone. bases zone front) (range_with_len 0 zones) in
    let with_page : Option ℕ → List (List ℕ) → List (List ℕ) = λ o pages. option_map_or (λ page. slice_set pages entry.zone (slice_index_or pages entry.zone [] ++ page ∷ [])) o pages in
    elim (page_of entry.answer) as (λ o. page_of entry.answer ≡ o → with_page o now ≡ map (λ zone. bases zone (front ++ entry ∷ [])) (range_with_len 0 zones)) [
      | None ↦ λ e. map_range_same (λ zone. bases zone front) (λ zone. bases zone (front ++ entry ∷ [])) zones 0 (λ zone le. bases_none zone front entry e)
      | Some page ↦ λ e.
          elim (nat_lt entry.zone zones) as (λ t. nat_lt entry.zone zones ≡ t → with_page (Some page) now ≡ map (λ zone. bases zone (front ++ entry ∷ [])) (range_with_len 0 zones)) [
            | true ↦ λ is.
                let lt : entry.zone < zones = grind arith in
                let zero_on : 0 + entry.zone ≡ entry.zone = omega arith in
                ap (λ (pages : List ℕ). slice_set now entry.zone (pages ++ page ∷ [])) (get_range (λ zone. bases zone front) [] zones entry.zone 0 lt ∙ ap (λ zone. bases zone front) zero_on)
                ∙ set_range (λ zone. bases zone front) (λ zone. bases zone (front ++ entry ∷ [])) (bases entry.zone front ++ page ∷ []) zones entry.zone 0 entry.zone zero_on (λ zone ne. bases_elsewhere zone front entry ne) (sym (bases_there front entry page e))
            | false ↦ λ is.
                let past : zones ≤ entry.zone = grind arith in
                past_range (λ zone. bases zone front) (λ zone. bases zone (front ++ entry ∷ [])) (slice_index_or now entry.zone [] ++ page ∷ []) zones entry.zone 0 entry.zone past (omega arith) (λ zone ne. bases_elsewhere zone front entry ne)
          ] refl
    ] refl
  where
    past_range : {A : Type 0} (f g : ℕ → A) (v : A) (n k from at : ℕ) → n ≤ k → from + k ≡ at → ((z : ℕ) → z ≢ at → f z ≡ g z) → slice_set (map f (range_with_len from n)) k v ≡ map g (range_with_len from n)
    past_range f g v zero k from at past is same = refl
    past_range f g v (suc n) zero from at past is same = absurd (omega arith)
    past_range {A = A} f g v (suc n) (suc k) from at past is same =
        ap (λ (x : A). x ∷ slice_set (map f (range_with_len (from + 1) n)) k v) (same from (omega arith))
        ∙ ap (λ (xs : List A). g from ∷ xs) (past_range f g v n k (from + 1) at (omega arith) (omega arith) same)

pub more_entries : (zones : ℕ) (log : List SupplyEntry) (i : ℕ) (entry d : SupplyEntry) (before after : List (List ℕ)) → i < length log → entry ≡ slice_index_or log i d →
    before ≡ map (λ zone. bases zone (take i log)) (range_with_len 0 zones) → after ≡ with_entry before entry → after ≡ map (λ zone. bases zone (take (i + 1) log)) (range_with_len 0 zones)
more_entries zones log i entry d before after lt is was made =
    made ∙ ap (λ (pages : List (List ℕ)). with_entry pages entry) was ∙ one_entry zones (take i log) entry
    ∙ ap (λ (front : List SupplyEntry). map (λ zone. bases zone front) (range_with_len 0 zones)) (sym (take_more log i d lt ∙ ap (λ (entry : SupplyEntry). take i log ++ entry ∷ []) (sym is)))

-- a page is pushed at its zone
pub pushed_at : (vecs : List (Vec ℕ Global)) (entry : SupplyEntry) (page : ℕ) (old new : Vec ℕ Global) → entry.zone < length vecs → entry.answer ≡ Base page → old ≡ slice_index_or vecs entry.zone old → new.items ≡ old.items ++ page ∷ [] →
    map (λ v. v.items) (slice_set vecs entry.zone new) ≡ with_entry (map (λ v. v.items) vecs) entry
pushed_at vecs entry page old new lt is was made =
    let pages = map (λ (v : Vec ℕ Global). v.items) vecs in
    map-set (λ (v : Vec ℕ Global). v.items) vecs entry.zone new
    ∙ ap (slice_set pages entry.zone) (made ∙ ap (λ (old : List ℕ). old ++ page ∷ []) (item_there vecs entry.zone old lt was))
    ∙ ap (λ (a : Answer). option_map_or (λ page. slice_set pages entry.zone (slice_index_or pages entry.zone [] ++ page ∷ [])) (page_of a) pages) (sym is)
  where
    item_there : (vecs : List (Vec ℕ Global)) (k : ℕ) (v : Vec ℕ Global) → k < length vecs → v ≡ slice_index_or vecs k v → v.items ≡ slice_index_or (map (λ v. v.items) vecs) k []
    item_there [] k v lt e = absurd (omega arith)
    item_there (w ∷ vecs) zero v lt e = ap (λ (v : Vec ℕ Global). v.items) e
    item_there (w ∷ vecs) (suc k) v lt e = item_there vecs k v (omega arith) e

-- one zone more without pages
pub none_more : (vecs : List (Vec ℕ Global)) (new : List (Vec ℕ Global)) (v : Vec ℕ Global) (n : ℕ) → map (λ v. v.items) vecs ≡ map (λ zone. bases zone []) (range_with_len 0 n) → new ≡ vecs ++ v ∷ [] → v.items ≡ [] →
    map (λ v. v.items) new ≡ map (λ zone. bases zone []) (range_with_len 0 (n + 1))
none_more vecs new v n before made none =
    ap (map (λ (v : Vec ℕ Global). v.items)) made
    ∙ map-append (λ (v : Vec ℕ Global). v.items) vecs (v ∷ [])
    ∙ ap (λ (pages : List ℕ). map (λ (v : Vec ℕ Global). v.items) vecs ++ pages ∷ []) none
    ∙ ap (λ (all : List (List ℕ)). all ++ [] ∷ []) before
    ∙ sym (map-range_with_len_more (λ zone. bases zone []) 0 n n (omega arith))

-- ---- at each zone

none_of_zone : (zone zones : ℕ) (log : List SupplyEntry) → zones ≤ zone → All (λ entry. entry.zone < zones) log → bases zone log ≡ []
none_of_zone zone zones [] past below = refl
none_of_zone zone zones (entry ∷ log) past below =
    let here : entry.zone < zones = All-head (λ (entry : SupplyEntry). entry.zone < zones) entry log below in
    let other : (entry.zone == zone) ≡ false = grind arith in
    ap (λ (t : Bool). filter_map page_of (map (λ (e : SupplyEntry). e.answer) (if t then entry ∷ filter (λ (e : SupplyEntry). e.zone == zone) log else filter (λ (e : SupplyEntry). e.zone == zone) log))) other
    ∙ none_of_zone zone zones log past (All-tail (λ (entry : SupplyEntry). entry.zone < zones) entry log below)

-- the pages that were collected are those of each zone
pub are_bases : (zones : ℕ) (log : List SupplyEntry) (pages : List (List ℕ)) → pages ≡ map (λ zone. bases zone log) (range_with_len 0 zones) → All (λ entry. entry.zone < zones) log →
    (zone : ℕ) → slice_index_or pages zone [] ≡ bases zone log
are_bases zones log pages is below zone =
    ap (λ (pages : List (List ℕ)). slice_index_or pages zone []) is
    ∙ elim (nat_lt zone zones) as (λ t. nat_lt zone zones ≡ t → slice_index_or (map (λ zone. bases zone log) (range_with_len 0 zones)) zone [] ≡ bases zone log) [
      | true ↦ λ e.
          let lt : zone < zones = grind arith in
          let zero_on : 0 + zone ≡ zone = omega arith in
          get_range (λ zone. bases zone log) [] zones zone 0 lt ∙ ap (λ zone. bases zone log) zero_on
      | false ↦ λ e.
          let past : zones ≤ zone = grind arith in
          get_or_past (map (λ zone. bases zone log) (range_with_len 0 zones)) zone [] (omega (arith, length-map (range_with_len 0 zones) (λ zone. bases zone log), length-range zones 0)) ∙ sym (none_of_zone zone zones log past below)
    ] refl
