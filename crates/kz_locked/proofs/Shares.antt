-- One more entry of a zone that keeps to its share.
use Rattle.std.proofs.Common.{◌≡◌, ◌≢◌, ℕ, ◌+◌, ◌<◌, ◌≤◌, ◌==◌, true, false, if◌then◌else◌, List, [], ◌∷◌, ◌++◌, length, refl, ap, sym, ◌∙◌, subst, arith, length-append}
use Rattle.std.proofs.lemmas.List.{append-nil}
use Rattle.std.proofs.lemmas.List.Elements.{All-push, filter-append}
use Rattle.kz_model.specs.declared.supply.Ask.{Ask}
use Rattle.kz_model.specs.declared.supply.Ask.TheVariants.{Chunk, Frames, Back}
use Rattle.kz_model.specs.declared.supply.Answer.{Answer}
use Rattle.kz_model.specs.declared.supply.Answer.TheVariants.{Base, Given, NoSpace, NoFrames, Taken}
use Rattle.kz_model.specs.declared.supply.SupplyEntry.{SupplyEntry}
use Rattle.kz_model.specs.Run.Journal.{log_at}
use Rattle.kz_model.specs.Run.Rooms.{sum_below}
use Rattle.kz_model.specs.Run.Supply.{Stock, stock_after, answer_of, granted_in, returned_in, pages_granted, pages_returned}
use Rattle.kz_model.proofs.Grants.{granted_in-append, returned_in-append}
use Rattle.kz_model.proofs.Sums.{sum_below-set, sum_below-lt, sum_below-le, sum_below-one}
use Rattle.kz_supply.specs.Supply.{stock_of, frames_out, with_entry}
use Rattle.kz_supply.specs.Thin.{ThinSupply, HasMade, thin_with_entry}
use Rattle.kz_supply.proofs.Logs.{stock_of-with_entry, given_back, free_after}
use Rattle.kz_supply.proofs.Rooms.{handed_out, frames_out-with_entry}
use Rattle.kz_locked.specs.declared.supply.Share.{Share}
use Rattle.kz_locked.specs.Shares.{IsShared, KeepsShare, MayAsk, MayGiveBack, share_of, frames_held}

-- ---- a zone's entries

pub log_at-push : (zone : ℕ) (log : List SupplyEntry) (entry : SupplyEntry) → entry.zone ≡ zone → log_at zone (log ++ entry ∷ []) ≡ log_at zone log ++ entry ∷ []
log_at-push zone log entry is =
    let here : (entry.zone == zone) ≡ true = grind arith in
    filter-append (λ (e : SupplyEntry). e.zone == zone) log (entry ∷ []) ∙ ap (λ t. log_at zone log ++ (if t then entry ∷ [] else [])) here

pub log_at-other : (zone : ℕ) (log : List SupplyEntry) (entry : SupplyEntry) → zone ≢ entry.zone → log_at zone (log ++ entry ∷ []) ≡ log_at zone log
log_at-other zone log entry ne =
    let other : (entry.zone == zone) ≡ false = grind arith in
    filter-append (λ (e : SupplyEntry). e.zone == zone) log (entry ∷ []) ∙ ap (λ t. log_at zone log ++ (if t then entry ∷ [] else [])) other ∙ append-nil (log_at zone log)

-- an answer grants what it hands out, and an ask whose answer is right gives back what it returns
granted_is : (ask : Ask) (answer : Answer) → pages_granted ask answer ≡ handed_out ask answer
granted_is (Chunk submap pages) (Base page) = refl
granted_is (Chunk submap pages) Given = refl
granted_is (Chunk submap pages) (NoSpace left) = refl
granted_is (Chunk submap pages) (NoFrames free) = refl
granted_is (Chunk submap pages) Taken = refl
granted_is (Frames pages) (Base page) = refl
granted_is (Frames pages) Given = refl
granted_is (Frames pages) (NoSpace left) = refl
granted_is (Frames pages) (NoFrames free) = refl
granted_is (Frames pages) Taken = refl
granted_is (Back pages) (Base page) = refl
granted_is (Back pages) Given = refl
granted_is (Back pages) (NoSpace left) = refl
granted_is (Back pages) (NoFrames free) = refl
granted_is (Back pages) Taken = refl

-- what the entry of an ask of so many pages may do: it grants so many at most and returns none, or gives so many back
pub record IsAskOf (pages : ℕ) (entry : SupplyEntry) : Type 0 where
  pub granted : pages_granted entry.ask entry.answer ≤ pages
  pub returned : pages_returned entry.ask entry.answer ≡ 0
  pub back : given_back entry.ask ≡ 0

pub chunk_entry : (zone submap pages : ℕ) (answer : Answer) → IsAskOf pages (record { zone = zone; ask = Chunk submap pages; answer = answer })
chunk_entry zone submap pages (Base page) = record { granted = omega arith; returned = refl; back = refl }
chunk_entry zone submap pages Given = record { granted = omega arith; returned = refl; back = refl }
chunk_entry zone submap pages (NoSpace left) = record { granted = omega arith; returned = refl; back = refl }
chunk_entry zone submap pages (NoFrames free) = record { granted = omega arith; returned = refl; back = refl }
chunk_entry zone submap pages Taken = record { granted = omega arith; returned = refl; back = refl }

pub frames_entry : (zone pages : ℕ) (answer : Answer) → IsAskOf pages (record { zone = zone; ask = Frames pages; answer = answer })
frames_entry zone pages (Base page) = record { granted = omega arith; returned = refl; back = refl }
frames_entry zone pages Given = record { granted = omega arith; returned = refl; back = refl }
frames_entry zone pages (NoSpace left) = record { granted = omega arith; returned = refl; back = refl }
frames_entry zone pages (NoFrames free) = record { granted = omega arith; returned = refl; back = refl }
frames_entry zone pages Taken = record { granted = omega arith; returned = refl; back = refl }

-- ---- one more entry

-- the zone's entries after it, within its share
record StaysWithin (share : Share) (own : List SupplyEntry) (entry : SupplyEntry) : Type 0 where
  keeps : KeepsShare share (own ++ entry ∷ [])
  held : frames_held (own ++ entry ∷ []) + given_back entry.ask ≡ frames_held own + handed_out entry.ask entry.answer

asked_within : (share : Share) (own : List SupplyEntry) (entry : SupplyEntry) (pages : ℕ) → KeepsShare share own → MayAsk share own pages → IsAskOf pages entry → StaysWithin share own entry
asked_within share own entry pages keeps may is =
    let granted = granted_in-append own (entry ∷ []) in
    let returned = returned_in-append own (entry ∷ []) in
    record {
      keeps = record {
        entries = omega (arith, may.entry, length-append own (entry ∷ []));
        returned = omega (arith, keeps.returned, granted, returned, is.returned);
        frames = omega (arith, keeps.returned, may.frames, granted, returned, is.returned, is.granted);
      };
      held = omega (arith, keeps.returned, granted, returned, is.returned, is.back, granted_is entry.ask entry.answer);
    }

given_back_within : (share : Share) (own : List SupplyEntry) (zone pages : ℕ) → KeepsShare share own → MayGiveBack share own pages → StaysWithin share own (record { zone = zone; ask = Back pages; answer = Taken })
given_back_within share own zone pages keeps may =
    let entry : SupplyEntry = record { zone = zone; ask = Back pages; answer = Taken } in
    let granted : granted_in (own ++ entry ∷ []) ≡ granted_in own + 0 = granted_in-append own (entry ∷ []) in
    let returned : returned_in (own ++ entry ∷ []) ≡ returned_in own + (pages + 0) = returned_in-append own (entry ∷ []) in
    record {
      keeps = record {
        entries = omega (arith, may.entry, length-append own (entry ∷ []));
        returned = omega (arith, keeps.returned, may.frames, granted, returned);
        frames = omega (arith, keeps.frames, granted, returned);
      };
      held = omega (arith, keeps.returned, may.frames, granted, returned);
    }

module _ (shares : List Share) (s : ThinSupply) (entry : SupplyEntry) (is : IsShared shares s) (there : entry.zone < length shares) where
  abbrev zone : ℕ
  zone = entry.zone

  abbrev log : List SupplyEntry
  log = s.counted.log

  abbrev own : List SupplyEntry
  own = log_at zone log

  -- the sum of something of each zone's entries grows as that zone's does
  grows : (f : List SupplyEntry → ℕ) → sum_below (λ z. f (log_at z (log ++ entry ∷ []))) (length shares) + f own ≡ sum_below (λ z. f (log_at z log)) (length shares) + f (own ++ entry ∷ [])
  grows f =
      sum_below-set (λ z. f (log_at z log)) (λ z. f (log_at z (log ++ entry ∷ []))) (length shares) zone there (λ z lt ne. ap f (log_at-other z log entry ne))
      ∙ ap (λ l. sum_below (λ z. f (log_at z log)) (length shares) + f l) (log_at-push zone log entry refl)

  free_now : (stock_of (with_entry entry s.counted)).free ≡ (stock_after (stock_of s.counted) entry.ask entry.answer).free
  free_now = ap (λ (l : Stock). l.free) (stock_of-with_entry entry s.counted)

  shared_after : (stock_of s.counted).free ≤ s.counted.frames → entry.answer ≡ answer_of s.counted.pages (stock_of s.counted) entry.ask → given_back entry.ask ≤ frames_out s.counted → StaysWithin (share_of shares zone) own entry →
      IsShared shares (thin_with_entry entry s)
  shared_after most right out within =
      record {
        of_zones = All-push (λ (e : SupplyEntry). e.zone < length shares) log entry is.of_zones there;
        each = λ z lt. elim (z == zone) as (λ t. (z == zone) ≡ t → KeepsShare (share_of shares z) (log_at z (log ++ entry ∷ []))) [
          | true ↦ λ e.
              let same : zone ≡ z = grind arith in
              subst (λ z. KeepsShare (share_of shares z) (log_at z (log ++ entry ∷ []))) same (subst (λ l. KeepsShare (share_of shares zone) l) (sym (log_at-push zone log entry refl)) within.keeps)
          | false ↦ λ e.
              let ne : z ≢ zone = grind arith in
              subst (λ l. KeepsShare (share_of shares z) l) (sym (log_at-other z log entry ne)) (is.each z lt)
        ] refl;
        count = omega (arith, is.count, grows (λ l. length l), length-append log (entry ∷ []), length-append own (entry ∷ []));
        out = omega (arith, is.out, grows frames_held, within.held, frames_out-with_entry entry s.counted most right out);
        free = omega (arith, free_now, free_after (stock_of s.counted) entry.ask entry.answer, most, out);
        few = is.few;
        room = is.room;
        made = is.made;
      }

-- ---- what the supply asks for

-- there is room for an entry more
pub room_for_entry : (shares : List Share) (s : ThinSupply) (zone : ℕ) → IsShared shares s → zone < length shares → length (log_at zone s.counted.log) < (share_of shares zone).entries → length s.counted.log < s.counted.room
room_for_entry shares s zone is there less =
    omega (arith, is.count, is.room, sum_below-lt (λ z. length (log_at z s.counted.log)) (λ z. (share_of shares z).entries) (length shares) zone there less (λ z lt. (is.each z lt).entries))

-- so many frames more may go out
sum_more : (f g : ℕ → ℕ) (n at more : ℕ) → at < n → ((k : ℕ) → k < n → f k ≤ g k) → f at + more ≤ g at → sum_below f n + more ≤ sum_below g n
sum_more f g n at more lt le less =
    let h : ℕ → ℕ = λ k. if k == at then f at + more else f k in
    let here : h at ≡ f at + more = let same : (at == at) ≡ true = grind arith in ap (λ t. if t then f at + more else f at) same in
    let other : (k : ℕ) → k < n → k ≢ at → h k ≡ f k = λ k lt ne. let no : (k == at) ≡ false = grind arith in ap (λ t. if t then f at + more else f k) no in
    let most : (k : ℕ) → k < n → h k ≤ g k = λ k below. elim (k == at) as (λ t. (k == at) ≡ t → (if t then f at + more else f k) ≤ g k) [
      | true ↦ λ e. let same : at ≡ k = grind arith in subst (λ k. f at + more ≤ g k) same less
      | false ↦ λ e. le k below
    ] refl in
    omega (arith, sum_below-set f h n at lt other, here, sum_below-le h g n most)

pub made_for_ask : (shares : List Share) (s : ThinSupply) (zone pages : ℕ) → IsShared shares s → zone < length shares → MayAsk (share_of shares zone) (log_at zone s.counted.log) pages → HasMade pages s
made_for_ask shares s zone pages is there may less few =
    omega (arith, is.out, is.made less, sum_more (λ z. frames_held (log_at z s.counted.log)) (λ z. (share_of shares z).frames) (length shares) zone pages there (λ z lt. (is.each z lt).frames) may.frames)

pub out_for_back : (shares : List Share) (s : ThinSupply) (zone pages : ℕ) → IsShared shares s → zone < length shares → MayGiveBack (share_of shares zone) (log_at zone s.counted.log) pages → pages ≤ frames_out s.counted
out_for_back shares s zone pages is there may =
    omega (arith, is.out, may.frames, sum_below-one (λ z. frames_held (log_at z s.counted.log)) (length shares) zone there)

-- ---- the supply after an ask and after a give-back

pub shared_after_ask : (shares : List Share) (s : ThinSupply) (entry : SupplyEntry) (pages : ℕ) → IsShared shares s → entry.zone < length shares → MayAsk (share_of shares entry.zone) (log_at entry.zone s.counted.log) pages → IsAskOf pages entry →
    entry.answer ≡ answer_of s.counted.pages (stock_of s.counted) entry.ask → IsShared shares (thin_with_entry entry s)
shared_after_ask shares s entry pages is there may asks right =
    shared_after shares s entry is there is.free right (omega (arith, asks.back)) (asked_within (share_of shares entry.zone) (log_at entry.zone s.counted.log) entry pages (is.each entry.zone there) may asks)

pub shared_after_back : (shares : List Share) (s : ThinSupply) (zone pages : ℕ) → IsShared shares s → zone < length shares → MayGiveBack (share_of shares zone) (log_at zone s.counted.log) pages →
    IsShared shares (thin_with_entry (record { zone = zone; ask = Back pages; answer = Taken }) s)
shared_after_back shares s zone pages is there may =
    shared_after shares s (record { zone = zone; ask = Back pages; answer = Taken }) is there is.free refl (out_for_back shares s zone pages is there may) (given_back_within (share_of shares zone) (log_at zone s.counted.log) zone pages (is.each zone there) may)
