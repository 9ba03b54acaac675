use Rattle.std.proofs.Common.{◌≡◌, ℕ, ◌+◌, ◌-◌, ◌<◌, ◌≤◌, ◌++◌, ◌∷◌, [], List, Option, None, Some, length, true, false, nat_lt, if◌then◌else◌, refl, ap, sym, ◌∙◌, subst, arith, length-append, MatchOption}
use Rattle.std.specs.List.{All, sum}
use Rattle.std.specs.Option.{IfSome, option_to_list}
use Rattle.std.proofs.lemmas.List.Elements.{All-push, All-pop}
use Rattle.kz_model.specs.declared.step.Block.{Block}
use Rattle.kz_zone.specs.Depot.{Depot as Seen, IsDepot, lists_of, drained, with_rest}
use Rattle.kz_zone.proofs.Lists.{sum-push, Drains, drains}
use Rattle.kz_zone.proofs.depot.Depot.drain_one.Goals as goal

if_some : {X : Type 0} (r : Option X) (P : X → Type 0) → ((x : X) → r ≡ Some x → P x) → IfSome r P
if_some None P h = tt
if_some (Some x) P h = h x refl

one_less : {X : Type 0} (r : Option X) (n m : ℕ) → MatchOption r ((n ≡ 0) × (m ≡ 0)) (λ _. m + 1 ≡ n) → 0 < n → m + 1 ≡ n
one_less None n m h some = absurd (omega (arith, h.0))
one_less (Some x) n m h some = h

-- what the depot keeps, with one block less
still_depot : (magazine room n lists_capacity capacity left_lists left_blocks : ℕ) (lengths before after : List ℕ) (blocks rest : List Block) → IsDepot magazine room lengths blocks lists_capacity capacity → lengths ≡ before ++ n ∷ [] →
    length rest + 1 ≡ length blocks → after ≡ with_rest before (n - 1) → lists_capacity ≤ left_lists → capacity ≤ left_blocks → IsDepot magazine room after rest left_lists left_blocks
still_depot magazine room n lists_capacity capacity left_lists left_blocks lengths before after blocks rest h cut less is more_lists more_blocks =
    let each = All-pop (λ n. (0 < n) × (n ≤ magazine)) lengths before (Some n) cut h.each in
    let few : length before + 1 ≤ room = omega (arith, h.within, ap length cut, length-append before (n ∷ [])) in
    let whole : length rest + 1 ≡ sum before + n = omega (arith, less, h.whole, ap sum cut, sum-push before n) in
    elim (nat_lt 0 (n - 1)) as (λ b. nat_lt 0 (n - 1) ≡ b → after ≡ (if b then before ++ (n - 1) ∷ [] else before) → IsDepot magazine room after rest left_lists left_blocks) [
      | true ↦ λ e same.
          record {
            some = h.some;
            fit = h.fit;
            within = omega (arith, few, ap length same, length-append before ((n - 1) ∷ []));
            each = subst (All (λ n. (0 < n) × (n ≤ magazine))) (sym same) (All-push (λ n. (0 < n) × (n ≤ magazine)) before (n - 1) each.0 (grind arith, omega (arith, each.1)));
            whole = omega (arith, whole, ap sum same, sum-push before (n - 1), each.1);
            enough_lists = omega (arith, h.enough_lists, more_lists);
            enough_blocks = omega (arith, h.enough_blocks, more_blocks);
          }
      | false ↦ λ e same.
          let one : n ≡ 1 = let some : 0 < n = each.1.0 in grind arith in
          record {
            some = h.some;
            fit = h.fit;
            within = omega (arith, few, ap length same);
            each = subst (All (λ n. (0 < n) × (n ≤ magazine))) (sym same) each.0;
            whole = omega (arith, whole, ap sum same, one);
            enough_lists = omega (arith, h.enough_lists, more_lists);
            enough_blocks = omega (arith, h.enough_blocks, more_blocks);
          }
    ] refl is

-- what is known of the block that is taken out
drains_here : (z : Seen) (magazine room n lists_capacity capacity : ℕ) (lengths before after : List ℕ) (blocks rest : List Block) (r : Option Block) (block : Block) → let d : Seen = record { magazine = magazine; room = room; lists = lists_of lengths blocks } in d ≡ z →
    IsDepot magazine room lengths blocks lists_capacity capacity → lengths ≡ before ++ n ∷ [] → blocks ≡ rest ++ option_to_list r → r ≡ Some block → after ≡ with_rest before (n - 1) → Drains z block after rest
drains_here z magazine room n lists_capacity capacity lengths before after blocks rest r block is h cut pop_effect some left =
    let each = All-pop (λ n. (0 < n) × (n ≤ magazine)) lengths before (Some n) cut h.each in
    drains z magazine room n (length blocks - n) lengths before after blocks rest block is cut h.whole each.1.0 refl (pop_effect ∙ ap (λ o. rest ++ option_to_list o) some) left

pub invariant_of-self-2 : goal.invariant_of-self-2
invariant_of-self-2 c =
    let s = c.self.inside in
    let h = c.self.invariant in
    let n = c.in_ok-length.length in
    let cut = c.in_ok-length.ensures.items in
    let each = All-pop (λ n. (0 < n) × (n ≤ s.magazine)) s.lengths.items c.pop.new.self.items (Some n) cut h.each in
    let some : 0 < length s.blocks.items = omega (arith, h.whole, ap sum cut, sum-push c.pop.new.self.items n, each.1.0) in
    let less : length c.pop-2.new.self.items + 1 ≡ length s.blocks.items = omega (arith, one_less c.pop-2.result s.blocks.len c.pop-2.new.self.len c.pop-2.ensures.cases (omega (arith, some, s.blocks.ok.0)), s.blocks.ok.0, c.pop-2.new.self.ok.0) in
    still_depot s.magazine s.room n s.lengths.cap s.blocks.cap c.push_rest.new.lengths.cap c.pop-2.new.self.cap s.lengths.items c.pop.new.self.items c.push_rest.new.lengths.items s.blocks.items c.pop-2.new.self.items
    h cut less c.push_rest.ensures.items (omega (arith, c.in_ok-length.ensures.capacity, c.push_rest.ensures.capacity)) (omega (arith, c.pop-2.ensures.capacity))

pub returns-clause-last : goal.returns-clause-last
returns-clause-last c =
    let s = c.self.inside in
    if_some c.pop-2.result _ (λ block e. (drains_here c.args.self.now s.magazine s.room c.in_ok-length.length _ _ s.lengths.items c.pop.new.self.items c.push_rest.new.lengths.items s.blocks.items c.pop-2.new.self.items c.pop-2.result block c.self.view_is c.self.invariant c.in_ok-length.ensures.items c.pop-2.ensures.items e c.push_rest.ensures.items).last)

pub returns-clause-left : goal.returns-clause-left
returns-clause-left c =
    let s = c.self.inside in
    if_some c.pop-2.result _ (λ block e.
    let d = drains_here c.args.self.now s.magazine s.room c.in_ok-length.length _ _ s.lengths.items c.pop.new.self.items c.push_rest.new.lengths.items s.blocks.items c.pop-2.new.self.items c.pop-2.result block c.self.view_is c.self.invariant c.in_ok-length.ensures.items c.pop-2.ensures.items e c.push_rest.ensures.items in
    ap (λ (lists : List (List Block)). let z : Seen = record { magazine = s.magazine; room = s.room; lists = lists } in z) d.left ∙ ap (λ (z : Seen). let y : Seen = record { magazine = z.magazine; room = z.room; lists = drained c.args.self.now.lists } in y) c.self.view_is)

pub returns-clause-row : goal.returns-clause-row
returns-clause-row c =
    let s = c.self.inside in
    if_some c.pop-2.result _ (λ block e. (drains_here c.args.self.now s.magazine s.room c.in_ok-length.length _ _ s.lengths.items c.pop.new.self.items c.push_rest.new.lengths.items s.blocks.items c.pop-2.new.self.items c.pop-2.result block c.self.view_is c.self.invariant c.in_ok-length.ensures.items c.pop-2.ensures.items e c.push_rest.ensures.items).row)
