-- How many visits there can be.
use Rattle.std.proofs.Common.{◌≡◌, ℕ, ◌+◌, ◌-◌, ◌<◌, ◌≤◌, ◌==◌, Bool, true, false, if◌then◌else◌, List, [], ◌∷◌, ◌++◌, length, slice_index_or, slice_set, refl, ap, sym, subst, arith, length-append}
use Rattle.std.specs.List.{All, sum}
use Rattle.std.proofs.lemmas.List.{get_or-set_same, get_or-set_other, length-set}
use Rattle.std.proofs.lemmas.List.Elements.{All-head, All-push, All-tail}
use Rattle.std.proofs.lemmas.List.Sums.{sum_by-set}
use Rattle.kz_model.specs.declared.record.Room.{Room}
use Rattle.kz_model.specs.declared.record.Visit.{Visit}
use Rattle.kz_model.specs.Run.Journal.{carried_of}
use Rattle.kz_book.specs.Book.{AreWithinRoom, IsWithin, visits_of}

pub carried-push : (cpu : ℕ) (visits : List Visit) (v : Visit) → carried_of cpu (visits ++ v ∷ []) ≡ carried_of cpu visits + (if v.cpu == cpu then v.count else 0)
carried-push cpu [] v = omega arith
carried-push cpu (w ∷ visits) v = omega (arith, carried-push cpu visits v)

-- visits that carry a step each are at most as many as the steps that they may carry
pub few_visits : (visits : List Visit) (steps : List ℕ) → All (λ (v : Visit). v.cpu < length steps) visits → All (λ (v : Visit). 1 ≤ v.count) visits → ((cpu : ℕ) → carried_of cpu visits ≤ slice_index_or steps cpu 0) → length visits ≤ sum steps
few_visits [] steps known some counts = omega arith
few_visits (v ∷ visits) steps known some counts =
    let lt : v.cpu < length steps = All-head (λ (w : Visit). w.cpu < length steps) v visits known in
    let one : 1 ≤ v.count = All-head (λ (w : Visit). 1 ≤ w.count) v visits some in
    let left = slice_index_or steps v.cpu 0 - v.count in
    let rest = slice_set steps v.cpu left in
    let same : (v.cpu == v.cpu) ≡ true = grind arith in
    let mine : v.count + carried_of v.cpu visits ≤ slice_index_or steps v.cpu 0 = subst (λ b. (if b then v.count else 0) + carried_of v.cpu visits ≤ slice_index_or steps v.cpu 0) same (counts v.cpu) in
    let fewer : length visits ≤ sum rest =
    few_visits visits rest (subst (λ n. All (λ (w : Visit). w.cpu < n) visits) (sym (length-set steps v.cpu left)) (All-tail (λ (w : Visit). w.cpu < length steps) v visits known)) (All-tail (λ (w : Visit). 1 ≤ w.count) v visits some)
    (λ cpu. by_cpu cpu lt mine (counts cpu) (v.cpu == cpu) refl) in
    omega (arith, fewer, one, mine, sum_by-set (λ n. n) steps v.cpu left 0 lt)
  where
    by_cpu : (cpu : ℕ) → v.cpu < length steps → v.count + carried_of v.cpu visits ≤ slice_index_or steps v.cpu 0 → (if v.cpu == cpu then v.count else 0) + carried_of cpu visits ≤ slice_index_or steps cpu 0 → (b : Bool) → (v.cpu == cpu) ≡ b →
        carried_of cpu visits ≤ slice_index_or (slice_set steps v.cpu (slice_index_or steps v.cpu 0 - v.count)) cpu 0
    by_cpu cpu lt mine count true e =
        let same : v.cpu ≡ cpu = grind arith in
        subst (λ c. carried_of c visits ≤ slice_index_or (slice_set steps v.cpu (slice_index_or steps v.cpu 0 - v.count)) c 0) same
        (omega (arith, mine, get_or-set_same steps v.cpu (slice_index_or steps v.cpu 0 - v.count) 0 lt))
    by_cpu cpu lt mine count false e =
        let other : cpu ≡ v.cpu → ⊥ = λ same. grind arith in
        omega (arith, ap (λ b. (if b then v.count else 0) + carried_of cpu visits) e, count, get_or-set_other steps v.cpu cpu (slice_index_or steps v.cpu 0 - v.count) 0 other)

-- visits of a CPU that carry a step each are at most as many as their steps
few_of : (cpu : ℕ) (visits : List Visit) → All (λ (v : Visit). 1 ≤ v.count) visits → visits_of cpu visits ≤ carried_of cpu visits
few_of cpu [] some = omega arith
few_of cpu (v ∷ visits) some =
    let one : 1 ≤ v.count = All-head (λ (w : Visit). 1 ≤ w.count) v visits some in
    let fewer = few_of cpu visits (All-tail (λ (w : Visit). 1 ≤ w.count) v visits some) in
    elim (v.cpu == cpu) as (λ b. (if b then 1 else 0) + visits_of cpu visits ≤ (if b then v.count else 0) + carried_of cpu visits) [
      | true ↦ omega (arith, one, fewer)
      | false ↦ omega (arith, fewer)
    ]

pub are_within : (room : Room) (visits : List Visit) → All (λ (v : Visit). v.cpu < length room.steps) visits → All (λ (v : Visit). 1 ≤ v.count) visits → ((cpu : ℕ) → carried_of cpu visits ≤ slice_index_or room.steps cpu 0) →
    AreWithinRoom room visits
are_within room visits cpus some counts = record { cpus = cpus; some = some; counts = counts; few = λ cpu. omega (arith, few_of cpu visits some, counts cpu) }

-- there are no more visits than steps in the room
pub few_within : (room : Room) (visits : List Visit) → AreWithinRoom room visits → length visits ≤ sum room.steps
few_within room visits h = few_visits visits room.steps h.cpus h.some h.counts

-- a visit more that the room has room for
pub within_push : (room : Room) (visits : List Visit) (capacity now : ℕ) (v : Visit) → IsWithin room visits capacity → capacity ≤ now → v.cpu < room.params.cpus → 1 ≤ v.count → carried_of v.cpu visits + v.count ≤ slice_index_or room.steps v.cpu 0 →
    IsWithin room (visits ++ v ∷ []) now
within_push room visits capacity now v h more lt one count = record {
  fit = h.fit;
  within = are_within room (visits ++ v ∷ []) (All-push (λ (w : Visit). w.cpu < length room.steps) visits v h.within.cpus (omega (arith, h.fit.cpus))) (All-push (λ (w : Visit). 1 ≤ w.count) visits v h.within.some one)
      (λ cpu. by_cpu cpu (h.within.counts cpu) (v.cpu == cpu) refl);
  enough = omega (arith, h.enough);
}
  where
    by_cpu : (cpu : ℕ) → carried_of cpu visits ≤ slice_index_or room.steps cpu 0 → (b : Bool) → (v.cpu == cpu) ≡ b → carried_of cpu (visits ++ v ∷ []) ≤ slice_index_or room.steps cpu 0
    by_cpu cpu before true e =
        let same : v.cpu ≡ cpu = grind arith in
        omega (arith, carried-push cpu visits v, ap (λ b. if b then v.count else 0) e, subst (λ c. carried_of c visits + v.count ≤ slice_index_or room.steps c 0) same count)
    by_cpu cpu before false e = omega (arith, carried-push cpu visits v, ap (λ b. if b then v.count else 0) e, before)

-- so the list of visits has room for it
pub room_for_visit : (room : Room) (visits : List Visit) (capacity : ℕ) (v : Visit) → IsWithin room visits capacity → v.cpu < room.params.cpus → 1 ≤ v.count → carried_of v.cpu visits + v.count ≤ slice_index_or room.steps v.cpu 0 →
    length visits < capacity
room_for_visit room visits capacity v h lt one count =
    let next : IsWithin room (visits ++ v ∷ []) capacity = within_push room visits capacity capacity v h (omega arith) lt one count in
    omega (arith, few_within room (visits ++ v ∷ []) next.within, h.enough, length-append visits (v ∷ []))
