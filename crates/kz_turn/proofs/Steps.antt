-- Each kind of step keeps the rule, the table begins with it, and what it says at the end.
use Rattle.std.proofs.Common.{◌≡◌, ◌≢◌, ℕ, ◌+◌, ◌%◌, ◌^◌, ◌<◌, ◌≤◌, List, [], ◌∷◌, ◌++◌, map, length, set, get_or, sym, refl, ap, ◌∙◌, subst, inl, inr, ⊎_elim, arith, Option, Some, length-append}
use Rattle.std.specs.List.{sum_by, All}
use mathlib.Core.Logic.{dite}
use mathlib.Core.Option.{some, some-injective, some-ne-none, none}
use mathlib.Core.Option as maybe
use native.Mathlib.Decide.{ℕ_discrete}
use native.Mathlib.Nat.{mod-eq_of_lt}
use lib.ListN.{get_elem?}
use lib.Seq.{set-get_or}
use Rattle.atomic_table.specs.Table.{State, Me, step, Act, keeps, takes, gives, Valid, carried_after, stepped, Allows, Splits, Joins, Seen, opening}
use Rattle.atomic_table.proofs.Lists.{set_here, set_else, set_again, at_longer}
use Rattle.kz_turn.specs.declared.view.Stage.{Stage}
use Rattle.kz_turn.specs.declared.view.Stage.TheVariants.{Idle, Waits, Serves}
use Rattle.kz_turn.specs.declared.view.Sitting.{Sitting}
use Rattle.kz_turn.specs.declared.view.Ended.{Ended}
use Rattle.kz_turn.specs.declared.view.View.{View}
use Rattle.kz_turn.specs.declared.view.View.TheVariants.{Spent, Sits}
use Rattle.kz_turn.specs.Journal.{entries_of}
use Rattle.kz_turn.specs.Views.{ended_number, ticket_in, ticket_of, number_of, one_if, ticket_count, seat_count, IsServing, IsMarked, Differ, new_view, at_stage, with_entry, ended_of, noted_in, split_left, split_right, join_of}
use Rattle.kz_turn.specs.Rule.{Stands, Knows, IsEnded, AtHome, IsOut, IsInTurn}
use Rattle.kz_turn.specs.Steps.{Draws, Looks, Raises}
use Rattle.kz_turn.proofs.Seats.{all_below, zeroth_set, zeroth_more, inside, sum_at, sum_more, sum_under, each_set, each_more, differ_set, differ_same, differ_none, differ_more, entries_of-own, entries_of-other}

snoc_entry : {E : Type 0} → (n : ℕ) (log : List (ℕ × E)) (e f : E) → log ++ (n, e) ∷ [] ≡ log ++ (n, f) ∷ [] → e ≡ f
snoc_entry {E} n [] e f is = let pairs : ◌≡◌ {A = ℕ × E} (n, e) (n, f) = cc in ap (λ (p : ℕ × E). p.1) pairs
snoc_entry n (x ∷ xs) e f is = snoc_entry n xs e f (cc)

abbrev one_slot : {T : Type 0} → T → List (ℕ × Option T)
one_slot x = (0, Some x) ∷ []

same_slot : {T : Type 0} → (x y : T) → one_slot x ≡ one_slot y → x ≡ y
same_slot {T} x y e = let pairs : ◌≡◌ {A = ℕ × Option T} (0, Some x) (0, Some y) = cc in let options : Some x ≡ Some y = ap (λ (p : ℕ × Option T). p.1) pairs in cc

abbrev pub ticket_at : {E : Type 0} → Stage E → ℕ
ticket_at Idle = 0
ticket_at (Waits t) = t
ticket_at (Serves t log) = t

pub same_sitting : {B E : Type 0} → (a b : Sitting B E) → Sits a ≡ Sits b → a ≡ b
same_sitting a b e = cc

module _ {T B E : Type 0} (base : T → B) (journal : T → List (ℕ × E)) (start : B) (seats : ℕ) where
  abbrev Vw : Type 0
  Vw = View B E

  abbrev Si : Type 0
  Si = Sitting B E

  abbrev Log : Type 0
  Log = List (ℕ × E)

  abbrev Homes : Type 0
  Homes = List (maybe.Option (Option T))

  abbrev St : Type 0
  St = State (Option T) Vw

  abbrev M : Type 0
  M = Me (Option T) Vw

  abbrev Rule : St → Type 0
  Rule = IsInTurn base journal start seats

  number_below : (log : Log) (n : ℕ) (homes : Homes) (made : ℕ) (ended : List (Ended B E)) (v : Vw) (m : ℕ) → Knows log n homes start made ended v → number_of v ≡ some m → m < made
  number_below log n homes made ended Spent m k e = absurd (some-ne-none m (sym e))
  number_below log n homes made ended (Sits a) m k e = let b = k.number in let same : a.number ≡ m = some-injective _ _ e in omega arith

  -- a marked view has a number
  served_elsewhere : (log : Log) (n : ℕ) (homes : Homes) (made : ℕ) (ended : List (Ended B E)) (v : Vw) → IsMarked v → Knows log n homes start made ended v → ((m : ℕ) → number_of v ≡ some m → m < made → ⊥) → ⊥
  served_elsewhere log n homes made ended Spent marked k not = marked
  served_elsewhere log n homes made ended (Sits a) marked k not = not a.number refl k.number

  later_stands : (log : Log) (n n' : ℕ) (homes : Homes) → n ≤ n' → (st : Stage E) → Stands log n homes st → Stands log n' homes st
  later_stands log n n' homes le Idle k = tt
  later_stands log n n' homes le (Waits t) k = let a = k.0 in let b = k.1 in (a, omega arith)
  later_stands log n n' homes le (Serves t noted) k = let b = k.1 in (k.0, omega arith, k.2, k.3)

  later : (log : Log) (n n' : ℕ) (homes : Homes) (made : ℕ) (ended : List (Ended B E)) → n ≤ n' → (v : Vw) → Knows log n homes start made ended v → Knows log n' homes start made ended v
  later log n n' homes made ended le Spent k = tt
  later log n n' homes made ended le (Sits a) k = record { base = k.base; number = k.number; own = k.own; first = k.first; stands = later_stands log n n' homes le a.stage k.stands }

  ticket_below : (log : Log) (n : ℕ) (homes : Homes) (st : Stage E) (t : ℕ) → Stands log n homes st → ticket_in st ≡ some t → t < n
  ticket_below log n homes Idle t k e = absurd (some-ne-none t (sym e))
  ticket_below log n homes (Waits u) t k e = let b = k.1 in let h : u ≡ t = some-injective u t e in omega arith
  ticket_below log n homes (Serves u noted) t k e = let b = k.1 in let h : u ≡ t = some-injective u t e in omega arith

  tickets_below : (log : Log) (n : ℕ) (homes : Homes) (made : ℕ) (ended : List (Ended B E)) (v : Vw) (t : ℕ) → Knows log n homes start made ended v → ticket_of v ≡ some t → t < n
  tickets_below log n homes made ended Spent t k e = absurd (some-ne-none t (sym e))
  tickets_below log n homes made ended (Sits a) t k e = ticket_below log n homes a.stage t k.stands e

  waits_less : (v : Vw) → ticket_count v ≤ seat_count v
  waits_less Spent = omega arith
  waits_less (Sits a) = elim a.stage as (λ (st : Stage E). one_if (ticket_in st) ≤ 1) [ Idle ↦ omega arith | Waits t ↦ omega arith | Serves t log ↦ omega arith ]

  -- the next ticket is far from wrapping
  next_fits : (s : St) (r : Rule s) → length r.log + sum_by ticket_count s.views + 1 < 2 ^ 64
  next_fits s r = let a = r.short in let b = r.few in let c = r.room in let d = r.counted in let e : sum_by ticket_count s.views ≤ sum_by seat_count s.views = sum_under ticket_count seat_count waits_less s.views in omega arith

  draw_words : (ws : List ℕ) (n n' l : ℕ) → ws ≡ n ∷ l ∷ [] → n + 1 < 2 ^ 64 → n + 1 ≡ n' → set ws 0 ((get_or ws 0 0 + 1) % 2 ^ 64) ≡ n' ∷ l ∷ []
  draw_words ws n n' l e fits up = subst (λ (xs : List ℕ). set xs 0 ((get_or xs 0 0 + 1) % 2 ^ 64) ≡ n' ∷ l ∷ []) (sym e) (ap (λ (k : ℕ). k ∷ l ∷ []) (mod-eq_of_lt fits ∙ up))

  same_words : (ws ws' : List ℕ) (n n' l : ℕ) → ws' ≡ ws → ws ≡ n ∷ l ∷ [] → n ≡ n' → ws' ≡ n' ∷ l ∷ []
  same_words ws ws' n n' l same is still = same ∙ (is ∙ ap (λ (k : ℕ). k ∷ l ∷ []) still)

  unmarked : (a : Si) (v : Vw) → a.stage ≡ Idle → v ≡ Sits a → ¬ IsMarked v
  unmarked a v idle is marked = let m : IsServing a.stage = subst IsMarked is marked in subst IsServing idle m

  pub draws : (slots id : ℕ) (me : M) (a : Si) → me.0 ≡ Sits a → a.stage ≡ Idle → Allows Rule slots id me 0 (λ n. (n + 1) % 2 ^ 64) (Draws (step slots 0 1 0 none) me)
  draws slots id me a is idle s r _ at _ =
      let l : ℕ = length r.log in let n : ℕ = l + sum_by ticket_count s.views in
      let found : get_or s.words 0 0 ≡ n = ap (λ (ws : List ℕ). get_or ws 0 0) r.words in
      let w : Vw = Sits (at_stage a (Waits (get_or s.words 0 0))) in
      let here : get_elem? s.views id ≡ some (Sits a) = at ∙ ap some is in
      let none_yet : ticket_in a.stage ≡ none = ap ticket_in idle in
      let wait : sum_by ticket_count (set s.views id w) ≡ sum_by ticket_count s.views + 1 = let before : ticket_count (Sits a) ≡ 0 = ap one_if none_yet in omega (arith, sum_at ticket_count s.views id (Sits a) w here) in
      let sit : sum_by seat_count (set s.views id w) ≡ sum_by seat_count s.views = omega (arith, sum_at seat_count s.views id (Sits a) w here) in
      let up : l + sum_by ticket_count (set s.views id w) ≡ n + 1 = omega arith in
      let mine = r.each_view id (Sits a) here in (
        w,
        keeps,
        tt,
        record {
          log = r.log;
          made = r.made;
          ended = r.ended;
          words = draw_words s.words n (l + sum_by ticket_count (set s.views id w)) l r.words (next_fits s r) (sym up);
          short = r.short;
          counted = let c = r.counted in omega arith;
          few = r.few;
          room = r.room;
          numbers = differ_same number_of s.views id (Sits a) w here refl r.numbers;
          tickets = differ_set ticket_of s.views id w r.tickets (λ j v t other at_j is_v is_w.
              let below : t < n = tickets_below r.log n s.homes r.made r.ended v t (r.each_view j v at_j) is_v in let same : get_or s.words 0 0 ≡ t = some-injective _ _ is_w in omega arith);
          each_view = each_set (λ j v. Knows r.log (l + sum_by ticket_count (set s.views id w)) s.homes start r.made r.ended v) s.views id w
              record { base = mine.base; number = mine.number; own = mine.own; first = mine.first; stands = (omega arith, omega arith) }
              (λ j v _ at_j. later r.log n (l + sum_by ticket_count (set s.views id w)) s.homes r.made r.ended (omega arith) v (r.each_view j v at_j));
          zeroth = zeroth_set s.views id (Sits a) w here refl r.zeroth;
          apart = r.apart;
          each_ended = λ k p at_k. let e = r.each_ended k p at_k in record { base = e.base; below = e.below; own = e.own; gone = each_set (λ j v. number_of v ≢ some p.number) s.views id w (e.gone id (Sits a) here) (λ j v _ at_j. e.gone j v at_j) };
          unmade = r.unmade;
          slot = ⊎_elim (λ (h : AtHome base journal start r.log s.homes). inl h)
              (λ (o : IsOut s.homes s.views). dite (ℕ_discrete o.seat id)
              (λ same. absurd (unmarked a o.view idle (some-injective o.view (Sits a) (sym o.here ∙ (ap (get_elem? s.views) same ∙ here))) o.marked))
              (λ other. inr record { out = o.out; seat = o.seat; view = o.view; here = set_else s.views id o.seat w other ∙ o.here; marked = o.marked }))
              r.slot;
        },
        (λ b eq. ap (λ (x : Si). (Sits (at_stage x (Waits (get_or s.words 0 0))), me.1)) (same_sitting a b (sym is ∙ eq))),
      )

  -- what was known while the slot was at home, once it is out
  taken_stands : (log : Log) (n : ℕ) (homes homes' : Homes) (y : Option T) → homes ≡ some y ∷ [] → (st : Stage E) → Stands log n homes st → Stands log n homes' st
  taken_stands log n homes homes' y home Idle k = tt
  taken_stands log n homes homes' y home (Waits t) k = k
  taken_stands log n homes homes' y home (Serves t noted) k = absurd (let e : some y ∷ [] ≡ none ∷ [] = sym home ∙ k.3 in cc)

  taken_knows : (log : Log) (n : ℕ) (homes homes' : Homes) (made : ℕ) (ended : List (Ended B E)) (y : Option T) → homes ≡ some y ∷ [] → (v : Vw) → Knows log n homes start made ended v → Knows log n homes' start made ended v
  taken_knows log n homes homes' made ended y home Spent k = tt
  taken_knows log n homes homes' made ended y home (Sits a) k = record { base = k.base; number = k.number; own = k.own; first = k.first; stands = taken_stands log n homes homes' y home a.stage k.stands }

  -- a marked view has the ticket that is served
  marked_stage : (log : Log) (n : ℕ) (homes : Homes) (st : Stage E) → IsServing st → Stands log n homes st → ticket_in st ≡ some (length log)
  marked_stage log n homes Idle m k = absurd m
  marked_stage log n homes (Waits t) m k = absurd m
  marked_stage log n homes (Serves t noted) m k = ap some k.0

  marked_ticket : (log : Log) (n : ℕ) (homes : Homes) (made : ℕ) (ended : List (Ended B E)) (v : Vw) → IsMarked v → Knows log n homes start made ended v → ticket_of v ≡ some (length log)
  marked_ticket log n homes made ended Spent m k = absurd m
  marked_ticket log n homes made ended (Sits a) m k = marked_stage log n homes a.stage m k.stands

  abbrev as_serving : Log → Si → Si
  as_serving log c = at_stage c (Serves (ticket_at c.stage) log)

  look_misses : (slots id : ℕ) (me : M) (a : Si) (t : ℕ) (s : St) → Rule s → me.0 ≡ Sits (at_stage a (Waits t)) → get_elem? s.views id ≡ some me.0 → get_or s.words 1 0 ≢ t
      → (w : Vw) × (c : Act (Option T)) × Valid s.homes me.1 c × Rule (stepped s 1 (get_or s.words 1 0) id me.1 w c) × Looks base journal (step slots 1 0 0 none) me (get_or s.words 1 0) (w, carried_after me.1 c)
  look_misses slots id me a t s r is at miss = (
    me.0,
    keeps,
    tt,
    subst Rule (λ i. record { words = sym (set-get_or s.words 1 0) i; homes = s.homes; views = sym (set_again s.views id me.0 at) i }) r,
    (λ b u eq. let same = same_sitting (at_stage a (Waits t)) (at_stage b (Waits u)) (sym is ∙ eq) in let tickets : t ≡ u = ap (λ (c : Si). ticket_at c.stage) same in ((λ hit. absurd (miss (hit ∙ sym tickets))), (λ _. refl))),
  )

  look_hits : (slots id : ℕ) (me : M) (a : Si) (t : ℕ) (s : St) → Rule s → me.0 ≡ Sits (at_stage a (Waits t)) → get_elem? s.views id ≡ some me.0 → get_or s.words 1 0 ≡ t
      → (w : Vw) × (c : Act (Option T)) × Valid s.homes me.1 c × Rule (stepped s 1 (get_or s.words 1 0) id me.1 w c) × Looks base journal (step slots 1 0 0 none) me (get_or s.words 1 0) (w, carried_after me.1 c)
  look_hits slots id me a t s r is at hit =
      let l : ℕ = length r.log in let n : ℕ = l + sum_by ticket_count s.views in
      let found : get_or s.words 1 0 ≡ l = ap (λ (ws : List ℕ). get_or ws 1 0) r.words in
      let here : get_elem? s.views id ≡ some (Sits (at_stage a (Waits t))) = at ∙ ap some is in
      let mine = r.each_view id (Sits (at_stage a (Waits t))) here in
      let home : AtHome base journal start r.log s.homes = ⊎_elim (λ (h : AtHome base journal start r.log s.homes). h) (λ (o : IsOut s.homes s.views).
      let theirs = marked_ticket r.log n s.homes r.made r.ended o.view o.marked (r.each_view o.seat o.view o.here) in
      let same : o.seat ≡ id = r.tickets o.seat id o.view (Sits (at_stage a (Waits t))) l o.here here theirs (ap some (sym hit ∙ found)) in
      absurd (subst IsMarked (some-injective o.view (Sits (at_stage a (Waits t))) (sym o.here ∙ (ap (get_elem? s.views) same ∙ here))) o.marked)) r.slot in
      let x : T = home.value in let w : Vw = Sits (at_stage a (Serves t (journal x))) in
      let wait : sum_by ticket_count (set s.views id w) ≡ sum_by ticket_count s.views = omega (arith, sum_at ticket_count s.views id (Sits (at_stage a (Waits t))) w here) in
      let sit : sum_by seat_count (set s.views id w) ≡ sum_by seat_count s.views = omega (arith, sum_at seat_count s.views id (Sits (at_stage a (Waits t))) w here) in
      let n' : ℕ = l + sum_by ticket_count (set s.views id w) in
      let still : n ≡ n' = omega arith in
      let homes' : Homes = set s.homes 0 none in
      let gone : homes' ≡ none ∷ [] = ap (λ (hs : Homes). set hs 0 none) home.home in
      let base_here : base x ≡ a.base = home.base_is ∙ sym mine.base in
      let own_here : entries_of a.number (journal x) ≡ a.own = ap (entries_of a.number) home.journal_is ∙ mine.own in (
        w,
        takes 0 (Some x),
        ap (λ (hs : Homes). get_elem? hs 0) home.home,
        record {
          log = r.log;
          made = r.made;
          ended = r.ended;
          words = same_words s.words (set s.words 1 (get_or s.words 1 0)) n n' l (set-get_or s.words 1 0) r.words still;
          short = r.short;
          counted = let c = r.counted in omega arith;
          few = r.few;
          room = r.room;
          numbers = differ_same number_of s.views id (Sits (at_stage a (Waits t))) w here refl r.numbers;
          tickets = differ_same ticket_of s.views id (Sits (at_stage a (Waits t))) w here refl r.tickets;
          each_view = subst (λ (k : ℕ). (j : ℕ) (v : Vw) → get_elem? (set s.views id w) j ≡ some v → Knows r.log k homes' start r.made r.ended v) still
              (each_set (λ j v. Knows r.log n homes' start r.made r.ended v) s.views id w
              record { base = mine.base; number = mine.number; own = mine.own; first = mine.first; stands = (sym hit ∙ found, mine.stands.1, home.journal_is, gone) }
              (λ j v _ at_j. taken_knows r.log n s.homes homes' r.made r.ended (Some x) home.home v (r.each_view j v at_j)));
          zeroth = zeroth_set s.views id (Sits (at_stage a (Waits t))) w here refl r.zeroth;
          apart = r.apart;
          each_ended = λ k p at_k. let e = r.each_ended k p at_k in record { base = e.base; below = e.below; own = e.own; gone = each_set (λ j v. number_of v ≢ some p.number) s.views id w (e.gone id (Sits (at_stage a (Waits t))) here) (λ j v _ at_j. e.gone j v at_j) };
          unmade = r.unmade;
          slot = inr record { out = gone; seat = id; view = w; here = set_here s.views id w (inside s.views id (Sits (at_stage a (Waits t))) here); marked = tt };
        },
        (λ b u eq. let same = same_sitting (at_stage a (Waits t)) (at_stage b (Waits u)) (sym is ∙ eq) in let tickets : t ≡ u = ap (λ (c : Si). ticket_at c.stage) same in (
          (λ _. record {
            value = x;
            now = ap (λ (c : Si). (Sits (as_serving (journal x) c), (0, Some x) ∷ me.1)) same;
            base_is = base_here ∙ ap (λ (c : Si). c.base) same;
            own = let P : Si → Type 0 = λ c. entries_of c.number (journal x) ≡ c.own in subst P same own_here;
          }),
          (λ miss. absurd (miss (hit ∙ tickets))),
        )),
      )

  pub looks : (slots id : ℕ) (me : M) (a : Si) (t : ℕ) → me.0 ≡ Sits (at_stage a (Waits t)) → Allows Rule slots id me 1 (λ n. n) (Looks base journal (step slots 1 0 0 none) me)
  looks slots id me a t is s r _ at _ = dite (ℕ_discrete (get_or s.words 1 0) t) (look_hits slots id me a t s r is at) (look_misses slots id me a t s r is at)

  raise_words : (ws : List ℕ) (n n' l l' : ℕ) → ws ≡ n ∷ l ∷ [] → l + 1 < 2 ^ 64 → n ≡ n' → l + 1 ≡ l' → set ws 1 ((get_or ws 1 0 + 1) % 2 ^ 64) ≡ n' ∷ l' ∷ []
  raise_words ws n n' l l' e fits still up = subst (λ (xs : List ℕ). set xs 1 ((get_or xs 1 0 + 1) % 2 ^ 64) ≡ n' ∷ l' ∷ []) (sym e) (λ i. still i ∷ (mod-eq_of_lt fits ∙ up) i ∷ [])

  -- what another seat knows, once the seat that served has added its entry
  raised_stands : (log log' : Log) (n : ℕ) (homes homes' : Homes) → length log' ≡ length log + 1 → (st : Stage E) → ticket_in st ≢ some (length log) → Stands log n homes st → Stands log' n homes' st
  raised_stands log log' n homes homes' more Idle other k = tt
  raised_stands log log' n homes homes' more (Waits t) other k = let a = k.0 in let ne : t ≢ length log = λ e. other (ap some e) in (omega arith, k.1)
  raised_stands log log' n homes homes' more (Serves t noted) other k = absurd (other (ap some k.0))

  raised_knows : (log : Log) (n m : ℕ) (e : E) (homes homes' : Homes) (made : ℕ) (ended : List (Ended B E)) (v : Vw) → number_of v ≢ some m → ticket_of v ≢ some (length log)
      → Knows log n homes start made ended v → Knows (log ++ (m, e) ∷ []) n homes' start made ended v
  raised_knows log n m e homes homes' made ended Spent other apart k = tt
  raised_knows log n m e homes homes' made ended (Sits b) other apart k = record {
    base = k.base;
    number = k.number;
    own = entries_of-other b.number m log e (λ same. other (ap some (sym same))) ∙ k.own;
    first = k.first;
    stands = raised_stands log (log ++ (m, e) ∷ []) n homes homes' (length-append log ((m, e) ∷ [])) b.stage apart k.stands;
  }

  raises_at : (short : (x : T) → length (journal x) < 2 ^ 62) (slots id : ℕ) (a : Si) (x : T) (e : E) (t : ℕ) (noted : Log) → a.stage ≡ Serves t noted → base x ≡ a.base → journal x ≡ noted ++ (a.number, e) ∷ []
      → Allows Rule slots id (Sits a, (0, Some x) ∷ []) 1 (λ n. (n + 1) % 2 ^ 64) (Raises base journal (step slots 1 1 0 none) (Sits a, (0, Some x) ∷ []))
  raises_at short slots id a x e t noted stage_is base_is journal_is s r _ here _ =
      let l : ℕ = length r.log in let n : ℕ = l + sum_by ticket_count s.views in
      let mine = r.each_view id (Sits a) here in
      let st : Stands r.log n s.homes (Serves t noted) = subst (Stands r.log n s.homes) stage_is mine.stands in
      let my_ticket : ticket_in a.stage ≡ some l = ap ticket_in stage_is ∙ ap some st.0 in
      let log' : Log = r.log ++ (a.number, e) ∷ [] in
      let journal_now : journal x ≡ log' = journal_is ∙ ap (λ (z : Log). z ++ (a.number, e) ∷ []) st.2 in
      let longer : length log' ≡ l + 1 = length-append r.log ((a.number, e) ∷ []) in
      let short' : length log' < 2 ^ 62 = subst (λ (z : Log). length z < 2 ^ 62) journal_now (short x) in
      let w : Vw = Sits (with_entry a e) in
      let wait : sum_by ticket_count (set s.views id w) + 1 ≡ sum_by ticket_count s.views = let before : ticket_count (Sits a) ≡ 1 = ap one_if my_ticket in omega (arith, sum_at ticket_count s.views id (Sits a) w here) in
      let sit : sum_by seat_count (set s.views id w) ≡ sum_by seat_count s.views = omega (arith, sum_at seat_count s.views id (Sits a) w here) in
      let still : n ≡ length log' + sum_by ticket_count (set s.views id w) = omega arith in
      let homes' : Homes = set s.homes 0 (some (Some x)) in
      let home : homes' ≡ some (Some x) ∷ [] = ap (λ (hs : Homes). set hs 0 (some (Some x))) st.3 in (
        w,
        gives,
        tt,
        record {
          log = log';
          made = r.made;
          ended = r.ended;
          words = raise_words s.words n (length log' + sum_by ticket_count (set s.views id w)) l (length log') r.words (omega arith) still (sym longer);
          short = short';
          counted = let c = r.counted in omega arith;
          few = r.few;
          room = r.room;
          numbers = differ_same number_of s.views id (Sits a) w here refl r.numbers;
          tickets = differ_none ticket_of s.views id w refl r.tickets;
          each_view = subst (λ (k : ℕ). (j : ℕ) (v : Vw) → get_elem? (set s.views id w) j ≡ some v → Knows log' k homes' start r.made r.ended v) still
              (each_set (λ j v. Knows log' n homes' start r.made r.ended v) s.views id w
              record { base = mine.base; number = mine.number; own = entries_of-own a.number r.log e ∙ ap (λ (z : List E). z ++ e ∷ []) mine.own; first = mine.first; stands = tt }
              (λ j v other at_j. raised_knows r.log n a.number e s.homes homes' r.made r.ended v
              (λ same. other (r.numbers j id v (Sits a) a.number at_j here same refl))
              (λ same. other (r.tickets j id v (Sits a) l at_j here same my_ticket))
              (r.each_view j v at_j)));
          zeroth = zeroth_set s.views id (Sits a) w here refl r.zeroth;
          apart = r.apart;
          each_ended = λ k p at_k. let q = r.each_ended k p at_k in record {
            base = q.base;
            below = q.below;
            own = entries_of-other p.number a.number r.log e (λ same. q.gone id (Sits a) here (ap some same)) ∙ q.own;
            gone = each_set (λ j v. number_of v ≢ some p.number) s.views id w (q.gone id (Sits a) here) (λ j v _ at_j. q.gone j v at_j);
          };
          unmade = λ m above. entries_of-other m a.number r.log e (λ same. let b = mine.number in omega arith) ∙ r.unmade m above;
          slot = inl record { value = x; home = home; base_is = base_is ∙ mine.base; journal_is = journal_now };
        },
        (λ b f eq it. let same = same_sitting a b eq in let y : T = it.0 in
            let value_is : x ≡ y = same_slot x y it.3 in
            let logs : noted_in a.stage ++ (a.number, e) ∷ [] ≡ noted_in a.stage ++ (a.number, f) ∷ [] =
            sym (journal_is ∙ ap (λ (z : Log). z ++ (a.number, e) ∷ []) (sym (ap noted_in stage_is))) ∙ (ap journal value_is ∙ (it.2 ∙ ap (λ (c : Si). noted_in c.stage ++ (c.number, f) ∷ []) (sym same))) in
            let entry : e ≡ f = snoc_entry a.number (noted_in a.stage) e f logs in
            λ i. (Sits (with_entry (same i) (entry i)), [])),
      )

  pub raises : (short : (x : T) → length (journal x) < 2 ^ 62) (slots id : ℕ) (me : M) (a : Si) (x : T) (e : E) (t : ℕ) (noted : Log) → me ≡ (Sits a, (0, Some x) ∷ []) → a.stage ≡ Serves t noted → base x ≡ a.base → journal x ≡ noted ++ (a.number, e) ∷ []
      → Allows Rule slots id me 1 (λ n. (n + 1) % 2 ^ 64) (Raises base journal (step slots 1 1 0 none) me)
  raises short slots id me a x e t noted is stage_is base_is journal_is =
      subst (λ (m : M). Allows Rule slots id m 1 (λ n. (n + 1) % 2 ^ 64) (Raises base journal (step slots 1 1 0 none) m)) (sym is) (raises_at short slots id a x e t noted stage_is base_is journal_is)

  -- a split changes what the others know of the number of seats
  split_knows : (log : Log) (n : ℕ) (homes : Homes) (made : ℕ) (ended : List (Ended B E)) (v : Vw) → number_of v ≢ some 0 → Knows log n homes start made ended v → Knows log n homes start (made + 1) ended v
  split_knows log n homes made ended Spent other k = tt
  split_knows log n homes made ended (Sits b) other k = let under = k.number in record { base = k.base; number = omega arith; own = k.own; first = λ z. absurd (other (ap some z)); stands = k.stands }

  splits_at : (id : ℕ) (a : Si) → a.number ≡ 0 → a.stage ≡ Idle → a.made < seats → Splits Rule id (Sits a) (split_left (Sits a)) (split_right (Sits a))
  splits_at id a zeroth idle room s r here =
      let l : ℕ = length r.log in let n : ℕ = l + sum_by ticket_count s.views in
      let mine = r.each_view id (Sits a) here in
      let first = mine.first zeroth in
      let count : a.made ≡ r.made = first.0 in
      let left : Vw = split_left (Sits a) in let right : Vw = split_right (Sits a) in
      let vs : List Vw = set s.views id left in let views' : List Vw = vs ++ right ∷ [] in
      let wait : sum_by ticket_count views' ≡ sum_by ticket_count s.views = omega (arith, sum_at ticket_count s.views id (Sits a) left here, sum_more ticket_count vs right) in
      let sit : sum_by seat_count views' ≡ sum_by seat_count s.views + 1 = omega (arith, sum_at seat_count s.views id (Sits a) left here, sum_more seat_count vs right) in
      let still : n ≡ l + sum_by ticket_count views' = omega arith in
      let under = mine.number in
      let numbers_left : Differ number_of vs = differ_same number_of s.views id (Sits a) left here refl r.numbers in
      let is_new : (j : ℕ) (v : Vw) → get_elem? vs j ≡ some v → number_of v ≢ some a.made = each_set (λ j v. number_of v ≢ some a.made) s.views id left
      (λ same. let e : a.number ≡ a.made = some-injective _ _ same in omega arith)
      (λ j v _ at_j same. let below = number_below r.log n s.homes r.made r.ended v a.made (r.each_view j v at_j) same in omega arith) in
      record {
        log = r.log;
        made = r.made + 1;
        ended = r.ended;
        words = same_words s.words s.words n (l + sum_by ticket_count views') l refl r.words still;
        short = r.short;
        counted = let c = r.counted in omega arith;
        few = omega arith;
        room = r.room;
        numbers = differ_more number_of vs right numbers_left (λ j v m at_j is_v is_w. is_new j v at_j (is_v ∙ sym is_w));
        tickets = differ_more ticket_of vs right (differ_same ticket_of s.views id (Sits a) left here refl r.tickets) (λ j v m at_j is_v is_w. some-ne-none m (sym is_w));
        each_view = subst (λ (k : ℕ). (j : ℕ) (v : Vw) → get_elem? views' j ≡ some v → Knows r.log k s.homes start (r.made + 1) r.ended v) still
            (each_more (λ j v. Knows r.log n s.homes start (r.made + 1) r.ended v) vs right
            record { base = mine.base; number = omega arith; own = r.unmade a.made (omega arith); first = λ z. absurd (omega arith); stands = tt }
            (each_set (λ j v. Knows r.log n s.homes start (r.made + 1) r.ended v) s.views id left
            record { base = mine.base; number = omega arith; own = mine.own; first = λ _. (ap (λ (k : ℕ). k + 1) count, first.1); stands = mine.stands }
            (λ j v other at_j. split_knows r.log n s.homes r.made r.ended v (λ same. other (r.numbers j id v (Sits a) 0 at_j here same (ap some zeroth))) (r.each_view j v at_j))));
        zeroth = zeroth_more vs right (zeroth_set s.views id (Sits a) left here refl r.zeroth);
        apart = r.apart;
        each_ended = λ k p at_k. let q = r.each_ended k p at_k in let b = q.below in record {
          base = q.base;
          below = omega arith;
          own = q.own;
          gone = each_more (λ j v. number_of v ≢ some p.number) vs right (λ same. let e : a.made ≡ p.number = some-injective _ _ same in omega arith)
              (each_set (λ j v. number_of v ≢ some p.number) s.views id left (q.gone id (Sits a) here) (λ j v _ at_j. q.gone j v at_j));
        };
        unmade = λ m above. r.unmade m (omega arith);
        slot = ⊎_elim (λ (h : AtHome base journal start r.log s.homes). inl h)
            (λ (o : IsOut s.homes s.views). dite (ℕ_discrete o.seat id)
            (λ same. absurd (unmarked a o.view idle (some-injective o.view (Sits a) (sym o.here ∙ (ap (get_elem? s.views) same ∙ here))) o.marked))
            (λ other. inr record { out = o.out; seat = o.seat; view = o.view; here = at_longer vs (right ∷ []) o.seat o.view (set_else s.views id o.seat left other ∙ o.here); marked = o.marked }))
            r.slot;
      }

  pub splits : (id : ℕ) (v : Vw) (a : Si) → v ≡ Sits a → a.number ≡ 0 → a.stage ≡ Idle → a.made < seats → Splits Rule id v (split_left v) (split_right v)
  splits id v a is zeroth idle room = subst (λ (u : Vw). Splits Rule id u (split_left u) (split_right u)) (sym is) (splits_at id a zeroth idle room)

  -- a join adds to what seat 0 keeps as ended
  joined_knows : (log : Log) (n : ℕ) (homes : Homes) (made : ℕ) (ended ended' : List (Ended B E)) (v : Vw) → number_of v ≢ some 0 → Knows log n homes start made ended v → Knows log n homes start made ended' v
  joined_knows log n homes made ended ended' Spent other k = tt
  joined_knows log n homes made ended ended' (Sits b) other k = record { base = k.base; number = k.number; own = k.own; first = λ z. absurd (other (ap some z)); stands = k.stands }

  joins_at : (id other : ℕ) (a b : Si) → a.number ≡ 0 → a.stage ≡ Idle → b.stage ≡ Idle → Joins Rule id (Sits a) other (Sits b) (join_of (Sits a) (Sits b)) Spent
  joins_at id other a b zeroth idle idle_b s r here apart there' =
      let l : ℕ = length r.log in let n : ℕ = l + sum_by ticket_count s.views in
      let both : Vw = join_of (Sits a) (Sits b) in let vs : List Vw = set s.views id both in let views' : List Vw = set vs other Spent in
      let there : get_elem? s.views other ≡ some (Sits b) = sym (set_else s.views id other both apart) ∙ there' in
      let mine = r.each_view id (Sits a) here in let theirs = r.each_view other (Sits b) there in
      let first = mine.first zeroth in
      let ended' : List (Ended B E) = r.ended ++ ended_of b ∷ [] in
      let wait : sum_by ticket_count views' ≡ sum_by ticket_count s.views = let none_b : ticket_count (Sits b) ≡ 0 = ap (λ (st : Stage E). one_if (ticket_in st)) idle_b in omega (arith, sum_at ticket_count s.views id (Sits a) both here, sum_at ticket_count vs other (Sits b) Spent there') in
      let sit : sum_by seat_count views' + 1 ≡ sum_by seat_count s.views = omega (arith, sum_at seat_count s.views id (Sits a) both here, sum_at seat_count vs other (Sits b) Spent there') in
      let still : n ≡ l + sum_by ticket_count views' = omega arith in
      let more : length ended' ≡ length r.ended + 1 = length-append r.ended (ended_of b ∷ []) in
      let each : (K : ℕ → Vw → Type 0) → K id both → K other Spent → ((j : ℕ) (v : Vw) → j ≢ id → j ≢ other → get_elem? s.views j ≡ some v → K j v) → (j : ℕ) (v : Vw) → get_elem? views' j ≡ some v → K j v =
      λ K k_both k_spent rest. each_set K vs other Spent k_spent (λ j v not_other at_j. each_set (λ i u. i ≢ other → K i u) s.views id both (λ _. k_both) (λ i u not_id at_i not_there. rest i u not_id not_there at_i) j v at_j not_other) in
      record {
        log = r.log;
        made = r.made;
        ended = ended';
        words = same_words s.words s.words n (l + sum_by ticket_count views') l refl r.words still;
        short = r.short;
        counted = let c = r.counted in omega arith;
        few = r.few;
        room = r.room;
        numbers = differ_none number_of vs other Spent refl (differ_same number_of s.views id (Sits a) both here refl r.numbers);
        tickets = differ_none ticket_of vs other Spent refl (differ_same ticket_of s.views id (Sits a) both here refl r.tickets);
        each_view = subst (λ (k : ℕ). (j : ℕ) (v : Vw) → get_elem? views' j ≡ some v → Knows r.log k s.homes start r.made ended' v) still
            (each (λ j v. Knows r.log n s.homes start r.made ended' v)
            record { base = mine.base; number = mine.number; own = mine.own; first = λ _. (first.0, ap (λ (z : List (Ended B E)). z ++ ended_of b ∷ []) first.1); stands = mine.stands }
            tt
            (λ j v not_id _ at_j. joined_knows r.log n s.homes r.made r.ended ended' v (λ same. not_id (r.numbers j id v (Sits a) 0 at_j here same (ap some zeroth))) (r.each_view j v at_j)));
        zeroth = (id, both, set_else vs other id Spent (λ e. apart (sym e)) ∙ set_here s.views id both (inside s.views id (Sits a) here), ap some zeroth);
        apart = differ_more ended_number r.ended (ended_of b) r.apart (λ j p n at_j is_p is_b. (r.each_ended j p at_j).gone other (Sits b) there (is_b ∙ sym is_p));
        each_ended = each_more (λ _ p. IsEnded start r.log r.made views' p) r.ended (ended_of b)
            record {
              base = theirs.base;
              below = theirs.number;
              own = theirs.own;
              gone = each (λ j v. number_of v ≢ some b.number)
                  (λ same. apart (r.numbers other id (Sits b) (Sits a) b.number there here refl same))
                  (λ same. some-ne-none b.number (sym same))
                  (λ j v _ not_other at_j same. not_other (r.numbers j other v (Sits b) b.number at_j there same refl));
            }
            (λ k p at_k. let q = r.each_ended k p at_k in record {
              base = q.base;
              below = q.below;
              own = q.own;
              gone = each (λ j v. number_of v ≢ some p.number) (q.gone id (Sits a) here) (λ same. some-ne-none p.number (sym same)) (λ j v _ _ at_j. q.gone j v at_j);
            });
        unmade = r.unmade;
        slot = ⊎_elim (λ (h : AtHome base journal start r.log s.homes). inl h)
            (λ (o : IsOut s.homes s.views).
            let not_id : o.seat ≢ id = λ same. unmarked a o.view idle (some-injective o.view (Sits a) (sym o.here ∙ (ap (get_elem? s.views) same ∙ here))) o.marked in
            let not_other : o.seat ≢ other = λ same. unmarked b o.view idle_b (some-injective o.view (Sits b) (sym o.here ∙ (ap (get_elem? s.views) same ∙ there))) o.marked in
            inr record { out = o.out; seat = o.seat; view = o.view; here = set_else vs other o.seat Spent not_other ∙ (set_else s.views id o.seat both not_id ∙ o.here); marked = o.marked })
            r.slot;
      }

  pub joins : (id other : ℕ) (v w : Vw) (a b : Si) → v ≡ Sits a → w ≡ Sits b → a.number ≡ 0 → a.stage ≡ Idle → b.stage ≡ Idle → Joins Rule id v other w (join_of v w) Spent
  joins id other v w a b is_a is_b zeroth idle idle_b = subst (λ (u : Vw × Vw). Joins Rule id u.0 other u.1 (join_of u.0 u.1) Spent) (λ i. (sym is_a i, sym is_b i)) (joins_at id other a b zeroth idle idle_b)

  -- with all other seats joined into seat 0, the slot is at home
  pub ends : (s : St) (id : ℕ) (a : Si) → Seen Rule id (Sits a) s → a.stage ≡ Idle → a.number ≡ 0 → ((n : ℕ) → 0 < n → n < seats → (k : ℕ) × (p : Ended B E) × (get_elem? a.ended k ≡ some p) × (p.number ≡ n))
      → (log : Log) × AtHome base journal start log s.homes × (entries_of 0 log ≡ a.own) × (a.base ≡ start) × ((k : ℕ) (p : Ended B E) → get_elem? a.ended k ≡ some p → (entries_of p.number log ≡ p.own) × (p.base ≡ start)) × All (λ x. x.0 < seats) log
  ends s id a seen idle zeroth all =
      let r = seen.0 in let here = seen.1 in let l : ℕ = length r.log in let n : ℕ = l + sum_by ticket_count s.views in
      let mine = r.each_view id (Sits a) here in let first = mine.first zeroth in
      let gone_of : (k : ℕ) (p : Ended B E) → get_elem? a.ended k ≡ some p → IsEnded start r.log r.made s.views p = λ k p at_k. r.each_ended k p (ap (λ (z : List (Ended B E)). get_elem? z k) (sym first.1) ∙ at_k) in
      let home : AtHome base journal start r.log s.homes = ⊎_elim (λ (h : AtHome base journal start r.log s.homes). h) (λ (o : IsOut s.homes s.views).
      absurd (served_elsewhere r.log n s.homes r.made r.ended o.view o.marked (r.each_view o.seat o.view o.here)
      (λ m is_m below. dite (ℕ_discrete m 0)
      (λ zero_m. let same : o.seat ≡ id = r.numbers o.seat id o.view (Sits a) m o.here here is_m (ap some (zeroth ∙ sym zero_m)) in
      unmarked a o.view idle (some-injective o.view (Sits a) (sym o.here ∙ (ap (get_elem? s.views) same ∙ here))) o.marked)
      (λ more. let few = r.few in let it = all m (omega arith) (omega arith) in (gone_of it.0 it.1 it.2).gone o.seat o.view o.here (is_m ∙ ap some (sym it.3))))))
      r.slot in
      (r.log, home, ap (λ (m : ℕ). entries_of m r.log) (sym zeroth) ∙ mine.own, mine.base, λ k p at_k. ((gone_of k p at_k).own, (gone_of k p at_k).base), all_below r.made seats r.log r.few r.unmade)

  pub opens : (value : T) (xs : List (Option T)) → xs ≡ Some value ∷ [] → base value ≡ start → journal value ≡ [] → 0 < seats → seats < 2 ^ 32 → Rule (opening (0 ∷ 0 ∷ []) xs (new_view 0 start))
  opens value xs is base_is empty any few =
      let first : Vw = new_view 0 start in
      let alone : (K : ℕ → Vw → Type 0) → K 0 first → (j : ℕ) (v : Vw) → get_elem? (first ∷ []) j ≡ some v → K j v =
      λ K here. each_more K [] first here (λ j v at_j. absurd (some-ne-none v (sym at_j))) in
      let differ : (f : Vw → maybe.Option ℕ) → Differ f (first ∷ []) = λ f. differ_more f [] first (λ i j v w n at_i _ _ _. absurd (some-ne-none v (sym at_i))) (λ j v n at_j _ _. some-ne-none v (sym at_j)) in
      record {
        log = [];
        made = 1;
        ended = [];
        words = refl;
        short = omega arith;
        counted = refl;
        few = omega arith;
        room = few;
        numbers = differ number_of;
        tickets = differ ticket_of;
        each_view = alone (λ j v. Knows [] 0 (map some xs) start 1 [] v) record { base = refl; number = omega arith; own = refl; first = λ _. (refl, refl); stands = tt };
        zeroth = (0, first, refl, refl);
        apart = λ i j p q n at_i _ _ _. absurd (some-ne-none p (sym at_i));
        each_ended = λ k p at_k. absurd (some-ne-none p (sym at_k));
        unmade = λ n _. refl;
        slot = inl record { value = value; home = ap (map some) is; base_is = base_is; journal_is = empty };
      }
