-- The numbers of names decide nothing.
use Rattle.std.proofs.Common.{◌≡◌, ℕ, zero, suc, ◌*◌, ◌==◌, ◌&&◌, true, false, nat_lt, nat_le, if◌then◌else◌, List, [], ◌∷◌, ◌++◌, length, take, drop, map, replicate, slice_set, slice_index_or, Option, None, Some, refl, ap, sym, ◌∙◌}
use Rattle.std.specs.List.{remove, position_or_len}
use Rattle.std.specs.Option.{option_map_or, is_some, is_none, unwrap_or}
use Rattle.std.proofs.lemmas.List.{map-append, take-map, drop-map, map-set, length-map}
use Rattle.kz_model.specs.declared.step.Block.{Block}
use Rattle.kz_model.specs.declared.step.Bound.{Bound}
use Rattle.kz_model.specs.declared.step.Step.{Step}
use Rattle.kz_model.specs.declared.step.Step.TheVariants.{Alloc, AllocZero, Free, Give, Take, Read, Write, Flush, Trim}
use Rattle.kz_model.specs.declared.step.Reply.{Reply}
use Rattle.kz_model.specs.declared.step.Reply.TheVariants as reply
use Rattle.kz_model.specs.declared.record.ZoneParams.{ZoneParams}
use Rattle.kz_model.specs.declared.supply.Ask.{Ask}
use Rattle.kz_model.specs.declared.supply.Answer.{Answer}
use Rattle.kz_model.specs.Zone.State.{Gift, Shared, CpuPart, ZoneState, no_cpu_part, nothing_shared, opening, cpu_part, bound_of, bind}
use Rattle.kz_model.specs.Zone.Pick.{chunk_to_pick, block_picked, after_pick, picks, grown}
use Rattle.kz_model.specs.Zone.Rules.{Effect, Stepped, last_list, before_last_list, stack_refill, must_grow, ready, after_spill, refused_if, else_refused, refused_here, bound_at, block_of, gift_place, gift_at, refused_there, refusal, asks_of_action, asks_of, all_answered, denied_by, unchanged, pop_effect, alloc_effect, names_without, action, effect_of, with_bytes, bytes_at, alone_step, all_idle}
use Rattle.kz_model.specs.Zone.Alone.{Course, course, with_first, all_used, alone}
use Rattle.kz_model.proofs.Commuting.{step_of}
use Rattle.kz_laws.specs.Renaming.{renamed_course, renamed_steps, IsRenaming, renamed_step, renamed_entry, renamed_names, renamed_part, renamed_gift, renamed_shared, renamed, renamed_effect, renamed_after}

-- ---- names

pub bound_of-renamed : (f : ℕ → ℕ) → IsRenaming f → (name : ℕ) (names : List (ℕ × Bound)) → bound_of (f name) (renamed_names f names) ≡ bound_of name names
bound_of-renamed f is name [] = refl
bound_of-renamed f is name (entry ∷ names) =
    ap (λ b. if b then Some entry.1 else bound_of (f name) (renamed_names f names)) (is name entry.0)
    ∙ ap (λ (o : Option Bound). if name == entry.0 then Some entry.1 else o) (bound_of-renamed f is name names)

pub bind-renamed : (f : ℕ → ℕ) → IsRenaming f → (name : ℕ) (bound : Bound) (names : List (ℕ × Bound)) → bind (f name) bound (renamed_names f names) ≡ renamed_names f (bind name bound names)
bind-renamed f is name bound [] = refl
bind-renamed f is name bound (entry ∷ names) =
    ap (λ b. if b then (f name, bound) ∷ renamed_names f names else renamed_entry f entry ∷ bind (f name) bound (renamed_names f names)) (is name entry.0)
    ∙ elim (name == entry.0) as (λ b. (if b then (f name, bound) ∷ renamed_names f names else renamed_entry f entry ∷ bind (f name) bound (renamed_names f names)) ≡ renamed_names f (if b then (name, bound) ∷ names else entry ∷ bind name bound names)) [
      | true ↦ refl
      | false ↦ ap (λ (rest : List (ℕ × Bound)). renamed_entry f entry ∷ rest) (bind-renamed f is name bound names)
    ]

-- ---- gifts

place-renamed : (f : ℕ → ℕ) → IsRenaming f → (cpu name : ℕ) (transit : List Gift) →
    position_or_len (λ (gift : Gift). (gift.to == cpu) && (gift.name == f name)) (map (renamed_gift f) transit) ≡ position_or_len (λ (gift : Gift). (gift.to == cpu) && (gift.name == name)) transit
place-renamed f is cpu name [] = refl
place-renamed f is cpu name (gift ∷ transit) =
    rw (is gift.name name, place-renamed f is cpu name transit) refl

pub gift_place-renamed : (f : ℕ → ℕ) → IsRenaming f → (cpu name : ℕ) (transit : List Gift) → gift_place cpu (f name) (map (renamed_gift f) transit) ≡ gift_place cpu name transit
gift_place-renamed f is cpu name transit = rw (place-renamed f is cpu name transit, length-map transit (renamed_gift f)) refl

remove-renamed : (f : ℕ → ℕ) (transit : List Gift) (place : ℕ) → remove (map (renamed_gift f) transit) place ≡ map (renamed_gift f) (remove transit place)
remove-renamed f transit place = rw (take-map (renamed_gift f) place transit, drop-map (renamed_gift f) (suc place) transit) (sym (map-append (renamed_gift f) (take place transit) (drop (suc place) transit)))

gift_at-renamed : (f : ℕ → ℕ) (transit : List Gift) (place : ℕ) → (gift_at (map (renamed_gift f) transit) place).block ≡ (gift_at transit place).block
gift_at-renamed f [] place = refl
gift_at-renamed f (gift ∷ transit) zero = refl
gift_at-renamed f (gift ∷ transit) (suc place) = gift_at-renamed f transit place

-- ---- what is shared

abbrev renamed_pair : (ℕ → ℕ) → List Block × Shared → List Block × Shared
renamed_pair f r = (r.0, renamed_shared f r.1)

picks-renamed : (f : ℕ → ℕ) (p : ZoneParams) (n : ℕ) (s : Shared) → picks p n (renamed_shared f s) ≡ renamed_pair f (picks p n s)
picks-renamed f p zero s = refl
picks-renamed f p (suc n) s =
    elim (chunk_to_pick p.count s.chunks) as (λ (o : Option ℕ).
    option_map_or {U = List Block × Shared} (λ (picked : Block × Shared). let rest = picks p n picked.1 in (picked.0 ∷ rest.0, rest.1)) (option_map_or (λ ordinal. Some (block_picked p s ordinal, renamed_shared f (after_pick s (block_picked p s ordinal)))) o None) ([], renamed_shared f s)
    ≡ renamed_pair f (option_map_or {U = List Block × Shared} (λ (picked : Block × Shared). let rest = picks p n picked.1 in (picked.0 ∷ rest.0, rest.1)) (option_map_or (λ ordinal. Some (block_picked p s ordinal, after_pick s (block_picked p s ordinal))) o None) ([], s))) [
      | None ↦ refl
      | Some k ↦ ap (λ (r : List Block × Shared). (block_picked p s k ∷ r.0, r.1)) (picks-renamed f p n (after_pick s (block_picked p s k)))
    ]

stack_refill-renamed : (f : ℕ → ℕ) (p : ZoneParams) (s : Shared) → stack_refill p (renamed_shared f s) ≡ renamed_pair f (stack_refill p s)
stack_refill-renamed f p s =
    elim (nat_lt 0 (length s.depot)) as (λ b. (if b then (last_list s.depot, renamed_shared f (record s { depot = before_last_list s.depot })) else picks p p.magazine (renamed_shared f s)) ≡ renamed_pair f (if b then (last_list s.depot, record s { depot = before_last_list s.depot }) else picks p p.magazine s)) [
      | true ↦ refl
      | false ↦ picks-renamed f p p.magazine s
    ]

pub ready-renamed : (f : ℕ → ℕ) (p : ZoneParams) (s : Shared) (stack : List Block) → ready p (renamed_shared f s) stack ≡ renamed_pair f (ready p s stack)
ready-renamed f p s stack =
    elim (nat_lt 0 (length stack)) as (λ b. (if b then (stack, renamed_shared f s) else stack_refill p (if must_grow s then renamed_shared f (grown p s) else renamed_shared f s)) ≡ renamed_pair f (if b then (stack, s) else stack_refill p (if must_grow s then grown p s else s))) [
      | true ↦ refl
      | false ↦ elim (must_grow s) as (λ b. stack_refill p (if b then renamed_shared f (grown p s) else renamed_shared f s) ≡ renamed_pair f (stack_refill p (if b then grown p s else s))) [ true ↦ stack_refill-renamed f p (grown p s) | false ↦ stack_refill-renamed f p s ]
    ]

after_spill-renamed : (f : ℕ → ℕ) (p : ZoneParams) (blocks : List Block) (s : Shared) → after_spill p blocks (renamed_shared f s) ≡ renamed_shared f (after_spill p blocks s)
after_spill-renamed f p blocks s =
    elim (nat_lt (length s.depot) p.depot) as (λ b. (if b then renamed_shared f (record s { depot = s.depot ++ blocks ∷ [] }) else renamed_shared f (record s { chunks = all_idle blocks s.chunks })) ≡ renamed_shared f (if b then record s { depot = s.depot ++ blocks ∷ [] } else record s { chunks = all_idle blocks s.chunks })) [ true ↦ refl | false ↦ refl ]

-- ---- refusals and asks

here-renamed : (f : ℕ → ℕ) → IsRenaming f → (p : ZoneParams) (own : CpuPart) (step : Step) → refused_here p (bound_at (renamed_part f own) (renamed_step f step)) (renamed_step f step) ≡ refused_here p (bound_at own step) step
here-renamed f is p own (Alloc name) = ap (λ (o : Option Bound). refused_here p o (Alloc name)) (bound_of-renamed f is name own.names)
here-renamed f is p own (AllocZero name) = ap (λ (o : Option Bound). refused_here p o (AllocZero name)) (bound_of-renamed f is name own.names)
here-renamed f is p own (Free name asked) = ap (λ (o : Option Bound). refused_here p o (Free name asked)) (bound_of-renamed f is name own.names)
here-renamed f is p own (Give name to) = ap (λ (o : Option Bound). refused_here p o (Give name to)) (bound_of-renamed f is name own.names)
here-renamed f is p own (Take name) = ap (λ (o : Option Bound). refused_here p o (Take name)) (bound_of-renamed f is name own.names)
here-renamed f is p own (Read name off len) = ap (λ (o : Option Bound). refused_here p o (Read name off len)) (bound_of-renamed f is name own.names)
here-renamed f is p own (Write name off bytes) = ap (λ (o : Option Bound). refused_here p o (Write name off bytes)) (bound_of-renamed f is name own.names)
here-renamed f is p own Flush = refl
here-renamed f is p own Trim = refl

there-renamed : (f : ℕ → ℕ) → IsRenaming f → (s : Shared) (cpu : ℕ) (own : CpuPart) (step : Step) → refused_there (renamed_shared f s) cpu (bound_at (renamed_part f own) (renamed_step f step)) (renamed_step f step) ≡ refused_there s cpu (bound_at own step) step
there-renamed f is s cpu own (Alloc name) = refl
there-renamed f is s cpu own (AllocZero name) = refl
there-renamed f is s cpu own (Free name asked) = refl
there-renamed f is s cpu own (Give name to) = refl
there-renamed f is s cpu own (Take name) = ap (λ (o : Option ℕ). refused_if (is_none o) reply.NotGiven) (gift_place-renamed f is cpu name s.transit)
there-renamed f is s cpu own (Read name off len) = ap (λ (o : Option Bound). refused_there s cpu o (Read name off len)) (bound_of-renamed f is name own.names)
there-renamed f is s cpu own (Write name off bytes) = ap (λ (o : Option Bound). refused_there s cpu o (Write name off bytes)) (bound_of-renamed f is name own.names)
there-renamed f is s cpu own Flush = refl
there-renamed f is s cpu own Trim = refl

pub refusal-renamed : (f : ℕ → ℕ) → IsRenaming f → (p : ZoneParams) (s : Shared) (cpu : ℕ) (own : CpuPart) (step : Step) → refusal p (renamed_shared f s) cpu (renamed_part f own) (renamed_step f step) ≡ refusal p s cpu own step
refusal-renamed f is p s cpu own step =
    ap (λ (o : Option Reply). else_refused o (refused_there (renamed_shared f s) cpu (bound_at (renamed_part f own) (renamed_step f step)) (renamed_step f step))) (here-renamed f is p own step)
    ∙ ap (λ (o : Option Reply). else_refused (refused_here p (bound_at own step) step) o) (there-renamed f is s cpu own step)

asks_of_action-renamed : (f : ℕ → ℕ) (p : ZoneParams) (s : Shared) (stack : List Block) (step : Step) → asks_of_action p (renamed_shared f s) stack (renamed_step f step) ≡ asks_of_action p s stack step
asks_of_action-renamed f p s stack (Alloc name) = refl
asks_of_action-renamed f p s stack (AllocZero name) = refl
asks_of_action-renamed f p s stack (Free name asked) = refl
asks_of_action-renamed f p s stack (Give name to) = refl
asks_of_action-renamed f p s stack (Take name) = refl
asks_of_action-renamed f p s stack (Read name off len) = refl
asks_of_action-renamed f p s stack (Write name off bytes) = refl
asks_of_action-renamed f p s stack Flush = refl
asks_of_action-renamed f p s stack Trim = refl

pub asks-renamed : (f : ℕ → ℕ) → IsRenaming f → (p : ZoneParams) (s : Shared) (cpu : ℕ) (own : CpuPart) (step : Step) → asks_of p (renamed_shared f s) cpu (renamed_part f own) (renamed_step f step) ≡ asks_of p s cpu own step
asks-renamed f is p s cpu own step =
    ap (λ (o : Option Reply). if is_some o then [] else asks_of_action p (renamed_shared f s) own.stack (renamed_step f step)) (refusal-renamed f is p s cpu own step)
    ∙ ap (λ (asks : List Ask). if is_some (refusal p s cpu own step) then [] else asks) (asks_of_action-renamed f p s own.stack step)

-- ---- actions

pop_effect-renamed : (f : ℕ → ℕ) → IsRenaming f → (name : ℕ) (r : List Block × Shared) (own : CpuPart) → pop_effect (f name) r.0 (renamed_shared f r.1) (renamed_part f own) ≡ renamed_effect f (pop_effect name r.0 r.1 own)
pop_effect-renamed f is name r own = rw (bind-renamed f is name _ own.names) refl

alloc_effect-renamed : (f : ℕ → ℕ) → IsRenaming f → (p : ZoneParams) (s : Shared) (own : CpuPart) (name : ℕ) → alloc_effect p (renamed_shared f s) (renamed_part f own) (f name) ≡ renamed_effect f (alloc_effect p s own name)
alloc_effect-renamed f is p s own name =
    ap (λ (r : List Block × Shared). pop_effect (f name) r.0 r.1 (renamed_part f own)) (ready-renamed f p s own.stack) ∙ pop_effect-renamed f is name (ready p s own.stack) own

names_without-renamed : (f : ℕ → ℕ) → IsRenaming f → (name : ℕ) (own : CpuPart) → names_without (f name) (renamed_part f own) ≡ renamed_names f (names_without name own)
names_without-renamed f is name own =
    ap (λ (o : Option Bound). bind (f name) (record { block = block_of o; held = false }) (renamed_names f own.names)) (bound_of-renamed f is name own.names)
    ∙ bind-renamed f is name (record { block = block_of (bound_of name own.names); held = false }) own.names

-- an allocation whose block is then zeroed
abbrev zeroed : ZoneParams → ℕ → Effect → Effect
zeroed p name e = record e { shared = with_bytes p (block_of (bound_of name e.own.names)) 0 (replicate p.element 0) e.shared }

-- the gift at this place taken
abbrev taken_at : (ℕ → ℕ) → Shared → CpuPart → ℕ → List Gift → List (ℕ × Bound) → ℕ → Effect
taken_at f s own name transit names place =
    record { reply = reply.Done; shared = record s { transit = remove transit place }; own = record own { names = bind name (record { block = (gift_at transit place).block; held = true }) names } }

pub action-renamed : (f : ℕ → ℕ) → IsRenaming f → (p : ZoneParams) (s : Shared) (cpu : ℕ) (own : CpuPart) (step : Step) → action p (renamed_shared f s) cpu (renamed_part f own) (renamed_step f step) ≡ renamed_effect f (action p s cpu own step)
action-renamed f is p s cpu own (Alloc name) = alloc_effect-renamed f is p s own name
action-renamed f is p s cpu own (AllocZero name) =
    ap (zeroed p (f name)) (alloc_effect-renamed f is p s own name)
    ∙ ap (λ (o : Option Bound). let e = renamed_effect f (alloc_effect p s own name) in record e { shared = with_bytes p (block_of o) 0 (replicate p.element 0) e.shared }) (bound_of-renamed f is name (alloc_effect p s own name).own.names)
action-renamed f is p s cpu own (Free name asked) =
    ap (λ (o : Option Bound). record { reply = reply.Done; shared = if nat_le (2 * p.magazine) (length own.stack) then after_spill p (take p.magazine own.stack) (renamed_shared f s) else renamed_shared f s; own = record { stack = (if nat_le (2 * p.magazine) (length own.stack) then drop p.magazine own.stack else own.stack) ++ block_of o ∷ []; names = names_without (f name) (renamed_part f own) } }) (bound_of-renamed f is name own.names)
    ∙ ap (λ (names : List (ℕ × Bound)). record { reply = reply.Done; shared = if nat_le (2 * p.magazine) (length own.stack) then after_spill p (take p.magazine own.stack) (renamed_shared f s) else renamed_shared f s; own = record { stack = (if nat_le (2 * p.magazine) (length own.stack) then drop p.magazine own.stack else own.stack) ++ block_of (bound_of name own.names) ∷ []; names = names } }) (names_without-renamed f is name own)
    ∙ ap (λ (shared : Shared). record { reply = reply.Done; shared = shared; own = record { stack = (if nat_le (2 * p.magazine) (length own.stack) then drop p.magazine own.stack else own.stack) ++ block_of (bound_of name own.names) ∷ []; names = renamed_names f (names_without name own) } })
    (elim (nat_le (2 * p.magazine) (length own.stack)) as (λ b. (if b then after_spill p (take p.magazine own.stack) (renamed_shared f s) else renamed_shared f s) ≡ renamed_shared f (if b then after_spill p (take p.magazine own.stack) s else s)) [ true ↦ after_spill-renamed f p (take p.magazine own.stack) s | false ↦ refl ])
action-renamed f is p s cpu own (Give name to) =
    ap (λ (o : Option Bound). record { reply = reply.Done; shared = record (renamed_shared f s) { transit = map (renamed_gift f) s.transit ++ record { to = to; name = f name; block = block_of o } ∷ [] }; own = record own { names = names_without (f name) (renamed_part f own) } }) (bound_of-renamed f is name own.names)
    ∙ ap (λ (names : List (ℕ × Bound)). record { reply = reply.Done; shared = record (renamed_shared f s) { transit = map (renamed_gift f) s.transit ++ record { to = to; name = f name; block = block_of (bound_of name own.names) } ∷ [] }; own = record own { names = names } }) (names_without-renamed f is name own)
    ∙ ap (λ (transit : List Gift). record { reply = reply.Done; shared = record s { transit = transit }; own = record own { names = renamed_names f (names_without name own) } }) (sym (map-append (renamed_gift f) s.transit (record { to = to; name = name; block = block_of (bound_of name own.names) } ∷ [])))
action-renamed f is p s cpu own (Take name) =
    let place = unwrap_or (gift_place cpu name s.transit) 0 in
    ap (λ (o : Option ℕ). taken_at f s own (f name) (map (renamed_gift f) s.transit) (renamed_names f own.names) (unwrap_or o 0)) (gift_place-renamed f is cpu name s.transit)
    ∙ ap (λ (transit : List Gift). record { reply = reply.Done; shared = record s { transit = transit }; own = record own { names = bind (f name) (record { block = (gift_at (map (renamed_gift f) s.transit) place).block; held = true }) (renamed_names f own.names) } }) (remove-renamed f s.transit place)
    ∙ ap (λ (block : Block). record { reply = reply.Done; shared = renamed_shared f (record s { transit = remove s.transit place }); own = record own { names = bind (f name) (record { block = block; held = true }) (renamed_names f own.names) } }) (gift_at-renamed f s.transit place)
    ∙ ap (λ (names : List (ℕ × Bound)). record { reply = reply.Done; shared = renamed_shared f (record s { transit = remove s.transit place }); own = record own { names = names } }) (bind-renamed f is name (record { block = (gift_at s.transit place).block; held = true }) own.names)
action-renamed f is p s cpu own (Read name off len) = ap (λ (o : Option Bound). unchanged (reply.Bytes (bytes_at p (block_of o) off len s)) (renamed_shared f s) (renamed_part f own)) (bound_of-renamed f is name own.names)
action-renamed f is p s cpu own (Write name off bytes) = ap (λ (o : Option Bound). unchanged reply.Done (with_bytes p (block_of o) off bytes (renamed_shared f s)) (renamed_part f own)) (bound_of-renamed f is name own.names)
action-renamed f is p s cpu own Flush = refl
action-renamed f is p s cpu own Trim = refl

pub effect-renamed : (f : ℕ → ℕ) → IsRenaming f → (p : ZoneParams) (s : Shared) (cpu : ℕ) (own : CpuPart) (step : Step) (answers : List Answer) →
    effect_of p (renamed_shared f s) cpu (renamed_part f own) (renamed_step f step) answers ≡ renamed_effect f (effect_of p s cpu own step answers)
effect-renamed f is p s cpu own step answers =
    ap (λ (o : Option Reply). option_map_or (λ reply. unchanged reply (renamed_shared f s) (renamed_part f own)) (else_refused o (denied_by answers)) (action p (renamed_shared f s) cpu (renamed_part f own) (renamed_step f step))) (refusal-renamed f is p s cpu own step)
    ∙ ap (λ (e : Effect). option_map_or (λ reply. unchanged reply (renamed_shared f s) (renamed_part f own)) (else_refused (refusal p s cpu own step) (denied_by answers)) e) (action-renamed f is p s cpu own step)
    ∙ elim (else_refused (refusal p s cpu own step) (denied_by answers)) as (λ (o : Option Reply). option_map_or (λ reply. unchanged reply (renamed_shared f s) (renamed_part f own)) o (renamed_effect f (action p s cpu own step)) ≡ renamed_effect f (option_map_or (λ reply. unchanged reply s own) o (action p s cpu own step))) [ None ↦ refl | Some r ↦ refl ]

cpu_part-renamed : (f : ℕ → ℕ) (owns : List CpuPart) (cpu : ℕ) → slice_index_or (map (renamed_part f) owns) cpu no_cpu_part ≡ renamed_part f (slice_index_or owns cpu no_cpu_part)
cpu_part-renamed f [] cpu = refl
cpu_part-renamed f (own ∷ owns) zero = refl
cpu_part-renamed f (own ∷ owns) (suc cpu) = cpu_part-renamed f owns cpu

after_renamed : (f : ℕ → ℕ) (state : ZoneState) (cpu : ℕ) (asks : List Ask) (effect : List Answer → Effect) (answers : List Answer) →
    step_of (renamed f state) cpu asks (λ given. renamed_effect f (effect given)) answers ≡ option_map_or (λ (o : Stepped). Some (renamed_after f o)) (step_of state cpu asks effect answers) None
after_renamed f state cpu asks effect answers =
    let e = effect (take (length asks) answers) in
    elim (all_answered asks answers) as (λ b.
    (if b then Some (record { reply = e.reply; state = record { shared = renamed_shared f e.shared; own = slice_set (map (renamed_part f) state.own) cpu (renamed_part f e.own) }; asks = asks; left = drop (length asks) answers }) else None)
    ≡ option_map_or (λ (o : Stepped). Some (renamed_after f o)) (if b then Some (record { reply = e.reply; state = record { shared = e.shared; own = slice_set state.own cpu e.own }; asks = asks; left = drop (length asks) answers }) else None) None) [
      | true ↦ ap (λ (owns : List CpuPart). Some (record { reply = e.reply; state = record { shared = renamed_shared f e.shared; own = owns }; asks = asks; left = drop (length asks) answers })) (sym (map-set (renamed_part f) state.own cpu e.own))
      | false ↦ refl
    ]

-- A step under other names: the same reply, asks and answers left, and the same state under these names.
pub step-renamed : (f : ℕ → ℕ) → IsRenaming f → (p : ZoneParams) (state : ZoneState) (cpu : ℕ) (step : Step) (answers : List Answer) →
    alone_step p (renamed f state) cpu (renamed_step f step) answers ≡ option_map_or (λ (o : Stepped). Some (renamed_after f o)) (alone_step p state cpu step answers) None
step-renamed f is p state cpu step answers =
    let s = state.shared in
    let own = cpu_part state cpu in
    ap (λ (own : CpuPart). step_of (renamed f state) cpu (asks_of p (renamed_shared f s) cpu own (renamed_step f step)) (effect_of p (renamed_shared f s) cpu own (renamed_step f step)) answers) (cpu_part-renamed f state.own cpu)
    ∙ ap (λ (asks : List Ask). step_of (renamed f state) cpu asks (effect_of p (renamed_shared f s) cpu (renamed_part f own) (renamed_step f step)) answers) (asks-renamed f is p s cpu own step)
    ∙ ap (λ (e : Effect). step_of (renamed f state) cpu (asks_of p s cpu own step) (λ given. e) answers) (effect-renamed f is p s cpu own step (take (length (asks_of p s cpu own step)) answers))
    ∙ after_renamed f state cpu (asks_of p s cpu own step) (effect_of p s cpu own step) answers

-- ---- courses

rest_renamed : (f : ℕ → ℕ) (state : ZoneState) (o : Stepped) (r : Option Course) →
    option_map_or (λ rest. Some (with_first (renamed f state) (renamed_after f o) rest)) (option_map_or (λ (c : Course). Some (renamed_course f c)) r None) None
    ≡ option_map_or (λ (c : Course). Some (renamed_course f c)) (option_map_or (λ rest. Some (with_first state o rest)) r None) None
rest_renamed f state o None = refl
rest_renamed f state o (Some c) = refl

pub course-renamed : (f : ℕ → ℕ) → IsRenaming f → (p : ZoneParams) (state : ZoneState) (steps : List (ℕ × Step)) (answers : List Answer) →
    course p (renamed f state) (renamed_steps f steps) answers ≡ option_map_or (λ (c : Course). Some (renamed_course f c)) (course p state steps answers) None
course-renamed f is p state [] answers = refl
course-renamed f is p state (step ∷ steps) answers =
    ap (λ (o : Option Stepped). option_map_or (λ stepped. option_map_or (λ rest. Some (with_first (renamed f state) stepped rest)) (course p stepped.state (renamed_steps f steps) stepped.left) None) o None) (step-renamed f is p state step.0 step.1 answers)
    ∙ elim (alone_step p state step.0 step.1 answers) as (λ (o : Option Stepped).
    option_map_or (λ stepped. option_map_or (λ rest. Some (with_first (renamed f state) stepped rest)) (course p stepped.state (renamed_steps f steps) stepped.left) None) (option_map_or (λ (o : Stepped). Some (renamed_after f o)) o None) None
    ≡ option_map_or (λ (c : Course). Some (renamed_course f c)) (option_map_or (λ stepped. option_map_or (λ rest. Some (with_first state stepped rest)) (course p stepped.state steps stepped.left) None) o None) None) [
      | None ↦ refl
      | Some o ↦
          ap (λ (r : Option Course). option_map_or (λ rest. Some (with_first (renamed f state) (renamed_after f o) rest)) r None) (course-renamed f is p o.state steps o.left)
          ∙ rest_renamed f state o (course p o.state steps o.left)
    ]

opening-renamed : (f : ℕ → ℕ) (p : ZoneParams) → renamed f (opening p) ≡ opening p
opening-renamed f p = ap (λ (owns : List CpuPart). record { shared = nothing_shared; own = owns }) (same p.cpus)
  where
    same : (n : ℕ) → map (renamed_part f) (replicate n no_cpu_part) ≡ replicate n no_cpu_part
    same zero = refl
    same (suc n) = ap (λ (owns : List CpuPart). no_cpu_part ∷ owns) (same n)

-- The zone alone under other names: the same replies and asks, and the same states under these names.
pub alone-renamed : (f : ℕ → ℕ) → IsRenaming f → (p : ZoneParams) (steps : List (ℕ × Step)) (answers : List Answer) →
    alone p (renamed_steps f steps) answers ≡ option_map_or (λ (c : Course). Some (renamed_course f c)) (alone p steps answers) None
alone-renamed f is p steps answers =
    ap (λ (state : ZoneState). option_map_or all_used (course p state (renamed_steps f steps) answers) None) (sym (opening-renamed f p))
    ∙ ap (λ (o : Option Course). option_map_or all_used o None) (course-renamed f is p (opening p) steps answers)
    ∙ elim (course p (opening p) steps answers) as (λ (o : Option Course). option_map_or all_used (option_map_or (λ (c : Course). Some (renamed_course f c)) o None) None ≡ option_map_or (λ (c : Course). Some (renamed_course f c)) (option_map_or all_used o None) None) [
      | None ↦ refl
      | Some c ↦ elim (length c.left == 0) as (λ b. (if b then Some (renamed_course f c) else None) ≡ option_map_or (λ (c : Course). Some (renamed_course f c)) (if b then Some c else None) None) [ true ↦ refl | false ↦ refl ]
    ]
