-- The effect of a step that needs a visit, by its kind, from what a call of the zone made.
use Rattle.std.proofs.Common.{◌≡◌, ℕ, ◌*◌, ◌==◌, ◌&&◌, Bool, true, false, not, nat_lt, nat_le, if◌then◌else◌, List, [], ◌∷◌, ◌++◌, length, take, drop, map, Option, None, Some, refl, ap, sym, ◌∙◌, subst, arith}
use Rattle.std.specs.List.{remove}
use Rattle.std.specs.Option.{option_map_or, is_some, is_none, unwrap_or}
use Rattle.std.proofs.lemmas.List.{append-nil}
use Rattle.kz_model.specs.declared.record.ZoneParams.{ZoneParams}
use Rattle.kz_model.specs.declared.step.Block.{Block}
use Rattle.kz_model.specs.declared.step.Bound.{Bound}
use Rattle.kz_model.specs.declared.step.Reply.{Reply}
use Rattle.kz_model.specs.declared.step.Reply.TheVariants as reply
use Rattle.kz_model.specs.declared.step.Step.{Step}
use Rattle.kz_model.specs.declared.step.Step.TheVariants.{Free, Give, Take, Read, Write, Flush}
use Rattle.kz_model.specs.declared.supply.Answer.{Answer}
use Rattle.kz_model.specs.Zone.Rules.{Effect, is_served_by, refused_here, refused_there, refused_if, bound_at, else_refused, asks_of, asks_of_action, all_answered, denied_by, unchanged, after_spill, block_of, gift_place, gift_at, with_bytes, bytes_at, all_idle, names_without, action, effect_of}
use Rattle.kz_model.specs.Zone.State.{Chunk, Gift, Shared, CpuPart, bound_of, bind, chunk_at}
use Rattle.kz_model.proofs.Names.{bound_of-bind}
use Rattle.kz_supply.specs.Exchange.{Exchange, ask_of, answer_of}
use Rattle.kz_supply.specs.Pages.{SupplyView}
use Rattle.kz_supply.proofs.Views.{unused}
use Rattle.kz_zone.specs.Zone.{StandsFor}
use Rattle.kz_book.specs.Acts.{Scene, IsIn, HasEffect, HasEffectInEachState}
use Rattle.kz_book.specs.Visits.{bound_there}

-- ---- names

-- a name is bound to what it was bound to last
pub bound_last : (name : ℕ) (bound : Bound) (names : List (ℕ × Bound)) → bound_of name (bind name bound names) ≡ Some bound
bound_last name bound names =
    let same : (name == name) ≡ true = grind arith in
    bound_of-bind name name bound names ∙ ap (λ b. if b then Some bound else bound_of name names) same

-- ---- what a step that needs a visit is not

-- nothing that its CPU has refuses it, and the stack does not serve it
pub needed : (r : Option Reply) (served : Bool) → (is_none r && not served) ≡ true → (r ≡ None) × (served ≡ false)
needed None true h = absurd (cc)
needed None false h = (refl, refl)
needed (Some r) served h = absurd (cc)

pub passed_here : (before : Scene) (step : Step) (s : Shared) (own : CpuPart) → IsIn before step s own → refused_here before.zone.params (bound_at own step) step ≡ None
passed_here before step s own h = (needed (refused_here before.zone.params (bound_at own step) step) (is_served_by before.zone.params own.stack step) h.needs).0

pub not_served : (before : Scene) (step : Step) (s : Shared) (own : CpuPart) → IsIn before step s own → is_served_by before.zone.params own.stack step ≡ false
not_served before step s own h = (needed (refused_here before.zone.params (bound_at own step) step) (is_served_by before.zone.params own.stack step) h.needs).1

-- ---- the effect

abbrev effect_by : Shared → CpuPart → Effect → Option Reply → Option Reply → Option Reply → Effect
effect_by s own acted here there denied =
    option_map_or (λ reply. unchanged reply s own) (else_refused (else_refused here there) denied) acted

-- nothing refuses
pub acted : (p : ZoneParams) (s : Shared) (cpu : ℕ) (own : CpuPart) (step : Step) (answers : List Answer) → refused_here p (bound_at own step) step ≡ None → refused_there s cpu (bound_at own step) step ≡ None → denied_by answers ≡ None →
    effect_of p s cpu own step answers ≡ action p s cpu own step
acted p s cpu own step answers here there granted =
    ap (λ r. effect_by s own (action p s cpu own step) r (refused_there s cpu (bound_at own step) step) (denied_by answers)) here
    ∙ ap (λ r. effect_by s own (action p s cpu own step) None r (denied_by answers)) there
    ∙ ap (λ r. effect_by s own (action p s cpu own step) None None r) granted

-- what is shared refuses
pub refused : (p : ZoneParams) (s : Shared) (cpu : ℕ) (own : CpuPart) (step : Step) (answers : List Answer) (reply : Reply) → refused_here p (bound_at own step) step ≡ None → refused_there s cpu (bound_at own step) step ≡ Some reply →
    effect_of p s cpu own step answers ≡ unchanged reply s own
refused p s cpu own step answers reply here there =
    ap (λ r. effect_by s own (action p s cpu own step) r (refused_there s cpu (bound_at own step) step) (denied_by answers)) here
    ∙ ap (λ r. effect_by s own (action p s cpu own step) None r (denied_by answers)) there

-- the supply refuses
pub denied : (p : ZoneParams) (s : Shared) (cpu : ℕ) (own : CpuPart) (step : Step) (answers : List Answer) (reply : Reply) → refused_here p (bound_at own step) step ≡ None → refused_there s cpu (bound_at own step) step ≡ None → denied_by answers ≡ Some reply →
    effect_of p s cpu own step answers ≡ unchanged reply s own
denied p s cpu own step answers reply here there refusal =
    ap (λ r. effect_by s own (action p s cpu own step) r (refused_there s cpu (bound_at own step) step) (denied_by answers)) here
    ∙ ap (λ r. effect_by s own (action p s cpu own step) None r (denied_by answers)) there
    ∙ ap (λ r. effect_by s own (action p s cpu own step) None None r) refusal

-- what a step asks that no refusal answers
pub asked : (p : ZoneParams) (s : Shared) (cpu : ℕ) (own : CpuPart) (step : Step) → refused_here p (bound_at own step) step ≡ None → refused_there s cpu (bound_at own step) step ≡ None →
    asks_of p s cpu own step ≡ asks_of_action p s own.stack step
asked p s cpu own step here there =
    ap (λ (r : Option Reply). if is_some (else_refused r (refused_there s cpu (bound_at own step) step)) then [] else asks_of_action p s own.stack step) here
    ∙ ap (λ (r : Option Reply). if is_some r then [] else asks_of_action p s own.stack step) there

pub asked_nothing : (p : ZoneParams) (s : Shared) (cpu : ℕ) (own : CpuPart) (step : Step) (reply : Reply) → refused_here p (bound_at own step) step ≡ None → refused_there s cpu (bound_at own step) step ≡ Some reply →
    asks_of p s cpu own step ≡ []
asked_nothing p s cpu own step reply here there =
    ap (λ (r : Option Reply). if is_some (else_refused r (refused_there s cpu (bound_at own step) step)) then [] else asks_of_action p s own.stack step) here
    ∙ ap (λ (r : Option Reply). if is_some r then [] else asks_of_action p s own.stack step) there

-- ---- a step that makes no exchange

-- what there is after a step with this effect
pub record Leaves (after : Scene) (step : Step) (reply : Reply) (e : Effect) : Type 0 where
  pub is_reply : reply ≡ e.reply
  pub shows : StandsFor after.zone e.shared
  pub stack : after.stack ≡ e.own.stack
  pub bound : after.bound ≡ bound_there e.own step

pub does_by : (before after : Scene) (cpu : ℕ) (step : Step) (s : Shared) (own : CpuPart) (reply : Reply) (exchanges : List Exchange) (e : Effect) →
    effect_of before.zone.params s cpu own step (map answer_of exchanges) ≡ e → map ask_of exchanges ≡ asks_of before.zone.params s cpu own step → all_answered (map ask_of exchanges) (map answer_of exchanges) ≡ true →
    Leaves after step reply e → HasEffect before after cpu step s own reply exchanges
does_by before after cpu step s own reply exchanges e is asks fit left =
    let at : Leaves after step reply (effect_of before.zone.params s cpu own step (map answer_of exchanges)) = subst (λ (f : Effect). Leaves after step reply f) (sym is) left in
    record { asks = asks; fit = fit; is_reply = at.is_reply; shows = at.shows; stack = at.stack; bound = at.bound }

pub acts_alone : {Base : Type 0} (before after : Scene) (cpu : ℕ) (step : Step) (reply : Reply) (view : SupplyView Base) → after.zone.bases ≡ before.zone.bases → length after.zone.chunks ≡ length before.zone.chunks →
    ((s : Shared) (own : CpuPart) → IsIn before step s own → HasEffect before after cpu step s own reply []) → HasEffectInEachState before after cpu step reply view view
acts_alone before after cpu step reply view bases size does = record {
  exchanges = [];
  used = record { used = unused view (length before.zone.chunks) (length after.zone.chunks) size; bases = bases ∙ sym (append-nil before.zone.bases) };
  does = does;
}

-- an action that asks nothing
alone_by : (before after : Scene) (cpu : ℕ) (step : Step) (s : Shared) (own : CpuPart) (reply : Reply) → IsIn before step s own → refused_there s cpu (bound_at own step) step ≡ None → asks_of_action before.zone.params s own.stack step ≡ [] →
    Leaves after step reply (action before.zone.params s cpu own step) → HasEffect before after cpu step s own reply []
alone_by before after cpu step s own reply h there nothing left =
    let here = passed_here before step s own h in
    does_by before after cpu step s own reply [] (action before.zone.params s cpu own step) (acted before.zone.params s cpu own step [] here there refl)
    (sym (asked before.zone.params s cpu own step here there ∙ nothing)) refl left

-- a refusal by what is shared
refused_by : (before after : Scene) (cpu : ℕ) (step : Step) (s : Shared) (own : CpuPart) (reply : Reply) → IsIn before step s own → refused_there s cpu (bound_at own step) step ≡ Some reply → after ≡ before →
    HasEffect before after cpu step s own reply []
refused_by before after cpu step s own reply h there same =
    let here = passed_here before step s own h in
    subst (λ (now : Scene). HasEffect before now cpu step s own reply []) (sym same)
    (does_by before before cpu step s own reply [] (unchanged reply s own) (refused before.zone.params s cpu own step [] reply here there)
    (sym (asked_nothing before.zone.params s cpu own step reply here there)) refl (record { is_reply = refl; shows = h.shows; stack = h.stack; bound = h.bound }))

-- ---- Free

-- what a free of a block on a full stack leaves
pub record Frees (before after : Scene) (magazine : ℕ) : Type 0 where
  pub shows : (s : Shared) → StandsFor before.zone s → StandsFor after.zone (after_spill before.zone.params (take magazine before.stack) s)
  pub stack : after.stack ≡ drop magazine before.stack ++ block_of before.bound ∷ []
  pub bound : after.bound ≡ Some (record { block = block_of before.bound; held = false })

pub does_free : (before after : Scene) (cpu name : ℕ) (zone : Option ℕ) (magazine : ℕ) (s : Shared) (own : CpuPart) → magazine ≡ before.zone.params.magazine → Frees before after magazine → IsIn before (Free name zone) s own → HasEffect before after cpu (Free name zone) s own reply.Done []
does_free before after cpu name zone magazine s own same frees h =
    let p = before.zone.params in
    let f : Frees before after p.magazine = subst (λ m. Frees before after m) same frees in
    let m = p.magazine in
    let block = block_of (bound_of name own.names) in
    let e : Effect = record { reply = reply.Done; shared = after_spill p (take m own.stack) s; own = record { stack = drop m own.stack ++ block ∷ []; names = names_without name own } } in
    let full : nat_le (2 * m) (length own.stack) ≡ true = at_least (length own.stack) (2 * m) (not_served before (Free name zone) s own h) in
    let is : action p s cpu own (Free name zone) ≡ e =
    ap (λ b. let f : Effect = record { reply = reply.Done; shared = if b then after_spill p (take m own.stack) s else s; own = record { stack = (if b then drop m own.stack else own.stack) ++ block ∷ []; names = names_without name own } } in f) full in
    alone_by before after cpu (Free name zone) s own reply.Done h refl refl
    (subst (λ (f : Effect). Leaves after (Free name zone) reply.Done f) (sym is) (record {
      is_reply = refl;
      shows = subst (λ (stack : List Block). StandsFor after.zone (after_spill p (take m stack) s)) h.stack (f.shows s h.shows);
      stack = f.stack ∙ ap (λ (stack : List Block). drop m stack ++ block_of before.bound ∷ []) h.stack ∙ ap (λ (bound : Option Bound). drop m own.stack ++ block_of bound ∷ []) h.bound;
      bound = f.bound ∙ ap (λ (bound : Option Bound). Some (record { block = block_of bound; held = false })) h.bound ∙ sym (bound_last name (record { block = block; held = false }) own.names);
    }))
  where
    at_least : (a b : ℕ) → nat_lt a b ≡ false → nat_le b a ≡ true
    at_least a b e = grind arith

-- ---- Give

pub record Gives (before after : Scene) (to name : ℕ) : Type 0 where
  pub shows : (s : Shared) → StandsFor before.zone s → StandsFor after.zone (record s { transit = s.transit ++ record { to = to; name = name; block = block_of before.bound } ∷ [] })
  pub stack : after.stack ≡ before.stack
  pub bound : after.bound ≡ Some (record { block = block_of before.bound; held = false })

pub does_give : (before after : Scene) (cpu name to : ℕ) (s : Shared) (own : CpuPart) → Gives before after to name → IsIn before (Give name to) s own → HasEffect before after cpu (Give name to) s own reply.Done []
does_give before after cpu name to s own f h =
    alone_by before after cpu (Give name to) s own reply.Done h refl refl (record {
      is_reply = refl;
      shows = subst (λ (bound : Option Bound). StandsFor after.zone (record s { transit = s.transit ++ record { to = to; name = name; block = block_of bound } ∷ [] })) h.bound (f.shows s h.shows);
      stack = f.stack ∙ h.stack;
      bound = f.bound ∙ ap (λ (bound : Option Bound). Some (record { block = block_of bound; held = false })) h.bound ∙ sym (bound_last name (record { block = block_of (bound_of name own.names); held = false }) own.names);
    })

-- ---- Take

-- what is left where this is in transit
pub record Takes (before after : Scene) (cpu name : ℕ) (said : Reply) (transit : List Gift) : Type 0 where
  pub is_reply : said ≡ (if is_none (gift_place cpu name transit) then reply.NotGiven else reply.Done)
  pub shows : is_none (gift_place cpu name transit) ≡ false → (s : Shared) → StandsFor before.zone s → StandsFor after.zone (record s { transit = remove s.transit (unwrap_or (gift_place cpu name s.transit) 0) })
  pub stack : after.stack ≡ before.stack
  pub bound : is_none (gift_place cpu name transit) ≡ false → after.bound ≡ Some (record { block = (gift_at transit (unwrap_or (gift_place cpu name transit) 0)).block; held = true })
  pub unchanged : is_none (gift_place cpu name transit) ≡ true → after ≡ before

pub does_take : (before after : Scene) (cpu name : ℕ) (said : Reply) (s : Shared) (own : CpuPart) → Takes before after cpu name said before.zone.transit → IsIn before (Take name) s own → HasEffect before after cpu (Take name) s own said []
does_take before after cpu name said s own f h =
    let F : List Gift → Type 0 = λ transit. Takes before after cpu name said transit in
    by_place (subst F (sym h.shows.transit) f) (is_none (gift_place cpu name s.transit)) refl
  where
    by_place : Takes before after cpu name said s.transit → (b : Bool) → is_none (gift_place cpu name s.transit) ≡ b → HasEffect before after cpu (Take name) s own said []
    by_place f true e =
        let is : said ≡ reply.NotGiven = f.is_reply ∙ ap (λ b. if b then reply.NotGiven else reply.Done) e in
        subst (λ (r : Reply). HasEffect before after cpu (Take name) s own r []) (sym is)
        (refused_by before after cpu (Take name) s own reply.NotGiven h (ap (λ b. refused_if b reply.NotGiven) e) (f.unchanged e))
    by_place f false e =
        let block = (gift_at s.transit (unwrap_or (gift_place cpu name s.transit) 0)).block in
        alone_by before after cpu (Take name) s own said h (ap (λ b. refused_if b reply.NotGiven) e) refl (record {
          is_reply = f.is_reply ∙ ap (λ b. if b then reply.NotGiven else reply.Done) e;
          shows = f.shows e s h.shows;
          stack = f.stack ∙ h.stack;
          bound = f.bound e ∙ sym (bound_last name (record { block = block; held = true }) own.names);
        })

-- ---- Read and Write

-- what reading a block of these chunks gives
pub record Reads (before after : Scene) (off len : ℕ) (said : Reply) (chunks : List Chunk) (bound : Option Bound) : Type 0 where
  pub is_reply : said ≡ (if (chunk_at chunks (block_of bound).chunk).mapped then reply.Bytes (bytes_at before.zone.params (block_of bound) off len (record { chunks = chunks; depot = []; transit = []; drawn = 0 })) else reply.Unmapped)
  pub same : after ≡ before

pub does_read : (before after : Scene) (cpu name off len : ℕ) (said : Reply) (s : Shared) (own : CpuPart) → Reads before after off len said before.zone.chunks before.bound → IsIn before (Read name off len) s own → HasEffect before after cpu (Read name off len) s own said []
does_read before after cpu name off len said s own f h =
    let F : List Chunk → Type 0 = λ chunks. Reads before after off len said chunks before.bound in
    let G : Option Bound → Type 0 = λ bound. Reads before after off len said s.chunks bound in
    by_map (subst G h.bound (subst F (sym h.shows.chunks) f)) (chunk_at s.chunks (block_of (bound_of name own.names)).chunk).mapped refl
  where
    by_map : Reads before after off len said s.chunks (bound_of name own.names) → (b : Bool) → (chunk_at s.chunks (block_of (bound_of name own.names)).chunk).mapped ≡ b → HasEffect before after cpu (Read name off len) s own said []
    by_map f true e =
        let block = block_of (bound_of name own.names) in
        let is : said ≡ reply.Bytes (bytes_at before.zone.params block off len s) = f.is_reply ∙ ap (λ b. if b then reply.Bytes (bytes_at before.zone.params block off len s) else reply.Unmapped) e in
        subst (λ (now : Scene). HasEffect before now cpu (Read name off len) s own said []) (sym f.same)
        (alone_by before before cpu (Read name off len) s own said h (ap (λ b. refused_if (not b) reply.Unmapped) e) refl (record { is_reply = is; shows = h.shows; stack = h.stack; bound = h.bound }))
    by_map f false e =
        let block = block_of (bound_of name own.names) in
        let is : said ≡ reply.Unmapped = f.is_reply ∙ ap (λ b. if b then reply.Bytes (bytes_at before.zone.params block off len s) else reply.Unmapped) e in
        subst (λ (r : Reply). HasEffect before after cpu (Read name off len) s own r []) (sym is)
        (refused_by before after cpu (Read name off len) s own reply.Unmapped h (ap (λ b. refused_if (not b) reply.Unmapped) e) f.same)

-- what writing a block of these chunks leaves
pub record Writes (before after : Scene) (off : ℕ) (bytes : List ℕ) (said : Reply) (chunks : List Chunk) (bound : Option Bound) : Type 0 where
  pub is_reply : said ≡ (if (chunk_at chunks (block_of bound).chunk).mapped then reply.Done else reply.Unmapped)
  pub shows : (chunk_at chunks (block_of bound).chunk).mapped ≡ true → (s : Shared) → StandsFor before.zone s → StandsFor after.zone (with_bytes before.zone.params (block_of bound) off bytes s)
  pub stack : after.stack ≡ before.stack
  pub binding : after.bound ≡ before.bound
  pub unchanged : (chunk_at chunks (block_of bound).chunk).mapped ≡ false → after ≡ before

pub does_write : (before after : Scene) (cpu name off : ℕ) (bytes : List ℕ) (said : Reply) (s : Shared) (own : CpuPart) → Writes before after off bytes said before.zone.chunks before.bound → IsIn before (Write name off bytes) s own → HasEffect before after cpu (Write name off bytes) s own said []
does_write before after cpu name off bytes said s own f h =
    let F : List Chunk → Type 0 = λ chunks. Writes before after off bytes said chunks before.bound in
    let G : Option Bound → Type 0 = λ bound. Writes before after off bytes said s.chunks bound in
    by_map (subst G h.bound (subst F (sym h.shows.chunks) f)) (chunk_at s.chunks (block_of (bound_of name own.names)).chunk).mapped refl
  where
    by_map : Writes before after off bytes said s.chunks (bound_of name own.names) → (b : Bool) → (chunk_at s.chunks (block_of (bound_of name own.names)).chunk).mapped ≡ b → HasEffect before after cpu (Write name off bytes) s own said []
    by_map f true e =
        alone_by before after cpu (Write name off bytes) s own said h (ap (λ b. refused_if (not b) reply.Unmapped) e) refl (record {
          is_reply = f.is_reply ∙ ap (λ b. if b then reply.Done else reply.Unmapped) e;
          shows = f.shows e s h.shows;
          stack = f.stack ∙ h.stack;
          bound = f.binding ∙ h.bound;
        })
    by_map f false e =
        let is : said ≡ reply.Unmapped = f.is_reply ∙ ap (λ b. if b then reply.Done else reply.Unmapped) e in
        subst (λ (r : Reply). HasEffect before after cpu (Write name off bytes) s own r []) (sym is)
        (refused_by before after cpu (Write name off bytes) s own reply.Unmapped h (ap (λ b. refused_if (not b) reply.Unmapped) e) (f.unchanged e))

-- ---- Flush

pub record Flushes (before after : Scene) : Type 0 where
  pub shows : (s : Shared) → StandsFor before.zone s → StandsFor after.zone (record s { chunks = all_idle before.stack s.chunks })
  pub stack : after.stack ≡ []
  pub bound : after.bound ≡ before.bound

pub does_flush : (before after : Scene) (cpu : ℕ) (s : Shared) (own : CpuPart) → Flushes before after → IsIn before Flush s own → HasEffect before after cpu Flush s own reply.Done []
does_flush before after cpu s own f h =
    alone_by before after cpu Flush s own reply.Done h refl refl (record {
      is_reply = refl;
      shows = subst (λ (stack : List Block). StandsFor after.zone (record s { chunks = all_idle stack s.chunks })) h.stack (f.shows s h.shows);
      stack = f.stack;
      bound = f.bound ∙ h.bound;
    })

-- ---- the same of a step and a reply that are told

pub acts_at : {Base : Type 0} (before after : Scene) (cpu : ℕ) (step told : Step) (said reply : Reply) (first last : SupplyView Base) → step ≡ told → said ≡ reply → HasEffectInEachState before after cpu told reply first last → HasEffectInEachState before after cpu step said first last
acts_at before after cpu step told said reply first last is same acts =
    subst (λ (st : Step). HasEffectInEachState before after cpu st said first last) (sym is) (subst (λ (r : Reply). HasEffectInEachState before after cpu told r first last) (sym same) acts)
