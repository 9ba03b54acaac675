use Rattle.std.proofs.Common.{◌≡◌, ℕ, ◌*◌, ◌+◌, ◌≤◌, ◌<◌, ◌++◌, ◌∷◌, [], List, length, take, false, true, nat_lt, ap, sym, ◌∙◌, arith, length-take}
use Rattle.std.specs.List.{All, sum}
use Rattle.std.proofs.lemmas.List.Sums.{sum_by-le}
use Rattle.std.proofs.lemmas.List.Elements.{All-weaker}
use Rattle.kz_model.specs.declared.step.Block.{Block}
use Rattle.kz_zone.specs.Depot.{lists_of, Depot as Seen}
use Rattle.kz_zone.proofs.Lists.{length-lists_of, lists_of-push}
use Rattle.kz_zone.proofs.depot.Depot.put.Goals as goal

no_room : (lengths : List ℕ) (blocks : List Block) (room : ℕ) → length lengths ≡ room → false ≡ nat_lt (length (lists_of lengths blocks)) room
no_room lengths blocks room e = rw (length-lists_of lengths blocks) (grind arith)

some_room : (lengths : List ℕ) (blocks : List Block) (room : ℕ) → length lengths < room → true ≡ nat_lt (length (lists_of lengths blocks)) room
some_room lengths blocks room less = rw (length-lists_of lengths blocks) (grind arith)

-- there is room for the blocks of one more list
fits : (magazine room capacity : ℕ) (lengths : List ℕ) → All (λ n. (0 < n) × (n ≤ magazine)) lengths → length lengths < room → room * magazine ≤ capacity → sum lengths + magazine ≤ capacity
fits magazine room capacity lengths each less enough =
    let most : sum lengths ≤ length lengths * magazine = sum_by-le (λ (n : ℕ). n) magazine lengths (All-weaker (λ n. (0 < n) × (n ≤ magazine)) (λ n. n ≤ magazine) (λ n h. h.1) lengths each) in
    let more : (length lengths + 1) * magazine ≤ room * magazine = grind arith in
    omega (arith, most, more, enough)

-- the depot after one more list
put_is : (magazine n room : ℕ) (lengths : List ℕ) (blocks from : List Block) → n ≡ magazine → length blocks ≡ sum lengths → length from ≡ 2 * n →
    let old : Seen = record { magazine = magazine; room = room; lists = lists_of lengths blocks } in
    let new : Seen = record { magazine = magazine; room = room; lists = lists_of (lengths ++ magazine ∷ []) (blocks ++ take n from) } in
    new ≡ record old { lists = lists_of lengths blocks ++ take magazine from ∷ [] }
put_is magazine n room lengths blocks from same whole full =
    let one : length (take magazine from) ≡ magazine = omega (arith, length-take magazine from) in
    ap (λ (lists : List (List Block)). let d : Seen = record { magazine = magazine; room = room; lists = lists } in d) (rw same (lists_of-push lengths magazine blocks (take magazine from) whole one))

pub returns-then-len-self-clause-room : goal.returns-then-len-self-clause-room
returns-then-len-self-clause-room c =
    let s = c.self.inside in
    let full : length s.lengths.items ≡ s.room = omega (arith, s.lengths.ok.0, c.if-len-self.true) in
    rw (← c.self.view_is) (no_room s.lengths.items s.blocks.items s.room full)

pub returns-clause-room : goal.returns-clause-room
returns-clause-room c =
    let s = c.self.inside in
    let less : length s.lengths.items < s.room = omega (arith, s.lengths.ok.0, c.self.invariant.within, c.if-len-self.false) in
    rw (← c.self.view_is) (some_room s.lengths.items s.blocks.items s.room less)

pub give_front-requires-clause-room : goal.give_front-requires-clause-room
give_front-requires-clause-room c =
    let s = c.self.inside in
    let h = c.self.invariant in
    let same : c.args.from.now.magazine ≡ s.magazine = c.requires.same_magazine ∙ sym (ap (λ (d : Seen). d.magazine) c.self.view_is) in
    let less : length s.lengths.items < s.room = omega (arith, s.lengths.ok.0, h.within, c.if-len-self.false) in
    omega (arith, s.blocks.ok.0, h.whole, same, fits s.magazine s.room _ s.lengths.items h.each less h.enough_blocks)

pub returns-clause-put : goal.returns-clause-put
returns-clause-put c = λ _.
    let s = c.self.inside in
    rw (← c.self.view_is, c.give_front.ensures.given, c.push_within.ensures.items)
    (put_is s.magazine c.args.from.now.magazine s.room s.lengths.items s.blocks.items c.args.from.now.blocks (c.requires.same_magazine ∙ sym (ap (λ (d : Seen). d.magazine) c.self.view_is)) c.self.invariant.whole c.requires.full)
