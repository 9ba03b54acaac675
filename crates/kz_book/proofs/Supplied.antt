-- The effect of the steps that may ask the supply: allocations and Trim.
use Rattle.std.proofs.Common.{◌≡◌, ℕ, zero, suc, ◌*◌, true, List, [], ◌∷◌, ◌++◌, length, map, replicate, Option, None, Some, Result, refl, ap, sym, ◌∙◌, subst, arith}
use Rattle.std.specs.List.{filter_map}
use Rattle.std.proofs.lemmas.List.{append-nil}
use Rattle.kz_model.specs.declared.record.ZoneParams.{ZoneParams}
use Rattle.kz_model.specs.declared.step.Block.{Block}
use Rattle.kz_model.specs.declared.step.Bound.{Bound}
use Rattle.kz_model.specs.declared.step.Reply.TheVariants as reply
use Rattle.kz_model.specs.declared.step.Step.{Step}
use Rattle.kz_model.specs.declared.step.Step.TheVariants.{Alloc, AllocZero, Trim}
use Rattle.kz_model.specs.declared.supply.Answer.{Answer}
use Rattle.kz_model.specs.declared.supply.Answer.TheVariants.{Taken}
use Rattle.kz_model.specs.declared.supply.Ask.{Ask}
use Rattle.kz_model.specs.declared.supply.Ask.TheVariants.{Back}
use Rattle.kz_model.specs.Run.Journal.{page_of}
use Rattle.kz_model.specs.Zone.Rules.{newest, below_newest, all_answered, denied_by, ready, block_of, with_bytes, before_unmapping, count_whole, trimmed, action}
use Rattle.kz_model.specs.Zone.State.{Shared, CpuPart, no_cpu_part, bound_of, bind}
use Rattle.kz_supply.specs.declared.pages.Denied.{Denied}
use Rattle.kz_supply.specs.Exchange.{Exchange, ask_of, answer_of}
use Rattle.kz_supply.specs.Pages.{SupplyView, IsUsed}
use Rattle.kz_supply.proofs.Views.{used_with}
use Rattle.kz_zone.specs.Growth.{HasAsked, chunks_of, denied_of, trim_exchanges}
use Rattle.kz_zone.specs.Zone.{Zone, StandsFor, shared_of}
use Rattle.kz_book.specs.Acts.{Scene, IsIn, HasEffectInEachState, filling_asks}
use Rattle.kz_book.specs.Visits.{bound_there}
use Rattle.kz_book.proofs.Effects.{Leaves, acted, asked, bound_last, does_by, passed_here}
use Rattle.kz_book.proofs.Orderly.{same_state}

-- ---- allocations

-- what filling the stack of a scene asked
abbrev pub HasFilled : {Base : Type 0} → Scene → Zone → Result (Unit {0}) Denied → SupplyView Base → SupplyView Base → Type 0
HasFilled before zone result first last = HasAsked (filling_asks before.zone.params (shared_of before.zone) before.stack) (chunks_of before.zone) (chunks_of zone) result first last

-- the stack that was filled, and what is shared then
pub record Fetches (before : Scene) (zone : Zone) (stack : List Block) : Type 0 where
  pub shows : (s : Shared) → StandsFor before.zone s → StandsFor zone (ready before.zone.params s before.stack).1
  pub blocks : (s : Shared) → StandsFor before.zone s → stack ≡ (ready before.zone.params s before.stack).0

-- what was asked is what the step asks
asks_same : (before : Scene) (step : Step) (s : Shared) (own : CpuPart) → IsIn before step s own → filling_asks before.zone.params (shared_of before.zone) before.stack ≡ filling_asks before.zone.params s own.stack
asks_same before step s own h =
    ap (λ (t : Shared). filling_asks before.zone.params t before.stack) (same_state before.zone s h.shows)
    ∙ ap (λ (stack : List Block). filling_asks before.zone.params s stack) h.stack

-- the stack that was filled is the one of this state
fetched : (before : Scene) (zone : Zone) (stack : List Block) (step : Step) (s : Shared) (own : CpuPart) → Fetches before zone stack → IsIn before step s own →
    (stack ≡ (ready before.zone.params s own.stack).0) × StandsFor zone (ready before.zone.params s own.stack).1
fetched before zone stack step s own f h =
    subst (λ (blocks : List Block). (stack ≡ (ready before.zone.params s blocks).0) × StandsFor zone (ready before.zone.params s blocks).1) h.stack (f.blocks s h.shows, f.shows s h.shows)

abbrev taken_for : List Block → Option Bound
taken_for stack = Some (record { block = newest stack; held = true })

-- what popping a filled stack leaves
pub record Pops (stack : List Block) (block : Block) (after : Scene) : Type 0 where
  pub newest : block ≡ newest stack
  pub rest : after.stack ≡ below_newest stack
  pub bound : after.bound ≡ taken_for stack

-- the stack and the binding are those of an allocation from a stack as filled as this
pop_effect : (p : ZoneParams) (stack filled : List Block) (block : Block) (after : Scene) (s shared : Shared) (own : CpuPart) (name : ℕ) (step : Step) → stack ≡ filled → Pops stack block after → StandsFor after.zone shared → bound_there (record { stack = below_newest filled; names = bind name (record { block = newest filled; held = true }) own.names }) step ≡ bound_of name (bind name (record { block = newest filled; held = true }) own.names) →
    Leaves after step (reply.Block block) (record { reply = reply.Block (newest filled); shared = shared; own = record { stack = below_newest filled; names = bind name (record { block = newest filled; held = true }) own.names } })
pop_effect p stack filled block after s shared own name step same pops shows named = record {
  is_reply = ap (λ (b : Block). reply.Block b) (pops.newest ∙ ap (λ (blocks : List Block). newest blocks) same);
  shows = shows;
  stack = pops.rest ∙ ap (λ (blocks : List Block). below_newest blocks) same;
  bound = pops.bound ∙ ap taken_for same ∙ sym (bound_last name (record { block = newest filled; held = true }) own.names) ∙ sym named;
}

pub acts_alloc : {Base : Type 0} (before after : Scene) (stack : List Block) (block : Block) (cpu name : ℕ) (result : Result (Unit {0}) Denied) (first last : SupplyView Base) → Fetches before after.zone stack → HasFilled before after.zone result first last → denied_of result ≡ None → Pops stack block after →
    HasEffectInEachState before after cpu (Alloc name) (reply.Block block) first last
acts_alloc before after stack block cpu name result first last f a granted pops =
    let p = before.zone.params in
    record {
      exchanges = a.exchanges;
      used = record { used = a.used; bases = a.bases };
      does = λ s own h.
          let here = passed_here before (Alloc name) s own h in
          let now = fetched before after.zone stack (Alloc name) s own f h in
          let filled = ready p s own.stack in
          does_by before after cpu (Alloc name) s own (reply.Block block) a.exchanges (action p s cpu own (Alloc name)) (acted p s cpu own (Alloc name) (map answer_of a.exchanges) here refl (a.denied ∙ granted))
          (a.are ∙ asks_same before (Alloc name) s own h ∙ sym (asked p s cpu own (Alloc name) here refl)) a.fit
          (pop_effect p stack filled.0 block after s filled.1 own name (Alloc name) now.0 pops now.1 refl);
    }

pub acts_alloc_zero : {Base : Type 0} (before after : Scene) (zone : Zone) (stack : List Block) (block : Block) (cpu name : ℕ) (result : Result (Unit {0}) Denied) (first last : SupplyView Base) → Fetches before zone stack → HasFilled before zone result first last → denied_of result ≡ None → Pops stack block after →
    after.zone.bases ≡ zone.bases → length after.zone.chunks ≡ length zone.chunks → ((s : Shared) → StandsFor zone s → StandsFor after.zone (with_bytes before.zone.params block 0 (replicate before.zone.params.element 0) s)) →
    HasEffectInEachState before after cpu (AllocZero name) (reply.Block block) first last
acts_alloc_zero before after zone stack block cpu name result first last f a granted pops bases size zeroes =
    let p = before.zone.params in
    record {
      exchanges = a.exchanges;
      used = record { used = used_with first last a.exchanges (length before.zone.chunks) (length zone.chunks) (length before.zone.chunks) (length after.zone.chunks) a.used (omega (arith, size)); bases = bases ∙ a.bases };
      does = λ s own h.
          let here = passed_here before (AllocZero name) s own h in
          let now = fetched before zone stack (AllocZero name) s own f h in
          let filled = ready p s own.stack in
          let named : bound_of name (bind name (record { block = newest filled.0; held = true }) own.names) ≡ Some (record { block = newest filled.0; held = true }) = bound_last name (record { block = newest filled.0; held = true }) own.names in
          let is : block ≡ block_of (bound_of name (bind name (record { block = newest filled.0; held = true }) own.names)) = pops.newest ∙ ap (λ (blocks : List Block). newest blocks) now.0 ∙ sym (ap (λ (bound : Option Bound). block_of bound) named) in
          does_by before after cpu (AllocZero name) s own (reply.Block block) a.exchanges (action p s cpu own (AllocZero name)) (acted p s cpu own (AllocZero name) (map answer_of a.exchanges) here refl (a.denied ∙ granted))
          (a.are ∙ asks_same before (AllocZero name) s own h ∙ sym (asked p s cpu own (AllocZero name) here refl)) a.fit
          (pop_effect p stack filled.0 block after s (with_bytes p (block_of (bound_of name (bind name (record { block = newest filled.0; held = true }) own.names))) 0 (replicate p.element 0) filled.1) own name (AllocZero name) now.0 pops
          (subst (λ (b : Block). StandsFor after.zone (with_bytes p b 0 (replicate p.element 0) filled.1)) is (zeroes filled.1 now.1)) refl);
    }

-- ---- Trim

map_replicate : {A B : Type 0} (f : A → B) (n : ℕ) (x : A) → map f (replicate n x) ≡ replicate n (f x)
map_replicate f zero x = refl
map_replicate {A} {B} f (suc n) x = ap (λ (xs : List B). f x ∷ xs) (map_replicate f n x)

taken_answers : (n pages : ℕ) → all_answered (replicate n (Back pages)) (replicate n Taken) ≡ true
taken_answers zero pages = refl
taken_answers (suc n) pages = taken_answers n pages

none_denied : (n : ℕ) → denied_by (replicate n Taken) ≡ None
none_denied zero = refl
none_denied (suc n) = refl

no_page : (n : ℕ) → filter_map page_of (replicate n Taken) ≡ []
no_page zero = refl
no_page (suc n) = no_page n

-- what a trim leaves
pub record Trims {Base : Type 0} (before after : Scene) (pages : ℕ) (first last : SupplyView Base) : Type 0 where
  pub count : pages ≡ before.zone.params.pages * count_whole before.zone.params (before_unmapping (shared_of before.zone))
  pub shows : (s : Shared) → StandsFor before.zone s → StandsFor after.zone (trimmed before.zone.params s no_cpu_part).shared
  pub stack : after.stack ≡ before.stack
  pub bound : after.bound ≡ before.bound
  pub bases : after.zone.bases ≡ before.zone.bases
  pub used : IsUsed first last (trim_exchanges before.zone.params (shared_of before.zone)) (length before.zone.chunks) (length after.zone.chunks)

pub acts_trim : {Base : Type 0} (before after : Scene) (cpu pages : ℕ) (first last : SupplyView Base) → Trims before after pages first last → HasEffectInEachState before after cpu Trim (reply.Trimmed pages) first last
acts_trim before after cpu pages first last f =
    let p = before.zone.params in
    let n = count_whole p (before_unmapping (shared_of before.zone)) in
    let exchange : Exchange = (Back p.pages, Taken) in
    let asks : map ask_of (replicate n exchange) ≡ replicate n (Back p.pages) = map_replicate ask_of n exchange in
    let answers : map answer_of (replicate n exchange) ≡ replicate n Taken = map_replicate answer_of n exchange in
    record {
      exchanges = replicate n exchange;
      used = record {
        used = f.used;
        bases = f.bases ∙ sym (ap (λ (pages : List ℕ). before.zone.bases ++ pages) (ap (λ (given : List Answer). filter_map page_of given) answers ∙ no_page n) ∙ append-nil before.zone.bases);
      };
      does = λ s own h.
          let here = passed_here before Trim s own h in
          let same : n ≡ count_whole p (before_unmapping s) = ap (λ (t : Shared). count_whole p (before_unmapping t)) (same_state before.zone s h.shows) in
          does_by before after cpu Trim s own (reply.Trimmed pages) (replicate n exchange) (action p s cpu own Trim) (acted p s cpu own Trim (map answer_of (replicate n exchange)) here refl (ap denied_by answers ∙ none_denied n))
          (asks ∙ ap (λ k. replicate k (Back p.pages)) same ∙ sym (asked p s cpu own Trim here refl))
          (ap (λ (given : List Answer). all_answered (map ask_of (replicate n exchange)) given) answers ∙ ap (λ (given : List Ask). all_answered given (replicate n Taken)) asks ∙ taken_answers n p.pages)
          (record {
            is_reply = ap (λ k. reply.Trimmed k) (f.count ∙ ap (λ k. p.pages * k) same);
            shows = f.shows s h.shows;
            stack = f.stack ∙ h.stack;
            bound = f.bound ∙ h.bound;
          });
    }
