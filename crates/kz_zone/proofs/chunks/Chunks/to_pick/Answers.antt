use Rattle.std.proofs.Common.{◌≡◌, ℕ, ◌<◌, List, length, arith, Option, None, Some, refl, ap, sym, ◌∙◌, subst}
use Rattle.std.specs.List.{position}
use Rattle.std.specs.Option.{option_or, is_some, IfSome}
use Rattle.kz_model.specs.Zone.State.{Chunk, chunk_at}
use Rattle.kz_model.proofs.Standing.{chunk-picked}
use Rattle.kz_queue.specs.Shelf.{lowest_at}
use Rattle.kz_queue.specs.declared.place.Place.TheVariants.{Part}
use Rattle.kz_model.specs.Zone.Pick.{is_part, first_of_two, chunk_to_pick, has_idle}
use Rattle.kz_zone.specs.Chunks.{Chunks as Seen, states_of}
use Rattle.kz_zone.specs.Growing.{with_chunks}
use Rattle.kz_zone.proofs.Places.{part-lowest, idle_to_pick}
use Rattle.kz_zone.proofs.chunks.Chunks.to_pick.Goals as goal

first_is : (a b : Option ℕ) → option_or a b ≡ first_of_two a b
first_is None b = refl
first_is (Some k) b = refl

-- some element of the chunk is idle
some_idle : (count : ℕ) (chunks : List Chunk) (r : Option ℕ) → 0 < count → r ≡ chunk_to_pick count chunks → IfSome r (λ k. 0 < length (chunk_at chunks k).idle)
some_idle count chunks None some e = tt
some_idle count chunks (Some k) some e = (chunk-picked count chunks k some (sym e)).1

pub returns-clause-ordinal : goal.returns-clause-ordinal
returns-clause-ordinal c =
    let i = c.self.inside in
    let part = c.lowest.ensures ∙ ap (lowest_at Part) c.self.invariant.places ∙ part-lowest i.params (states_of i.chunks.items) c.self.invariant.kept ∙ ap (λ (z : Seen). position (is_part z.params.count) z.chunks) c.self.view_is in
    c.or.ensures ∙ first_is c.lowest.result c.whole.result ∙ ap (λ o. first_of_two o c.whole.result) part ∙ ap (first_of_two (position (is_part c.args.self.now.params.count) c.args.self.now.chunks)) c.whole.ensures

pub returns-clause-idle : goal.returns-clause-idle
returns-clause-idle c =
    some_idle c.args.self.now.params.count c.args.self.now.chunks c.or.result (omega (arith, c.self.invariant.fit.shape.some_count, ap (λ (z : Seen). z.params.count) c.self.view_is)) (returns-clause-ordinal c)

pub returns-clause-some : goal.returns-clause-some
returns-clause-some c =
    let i = c.self.inside in
    let chunks = states_of i.chunks.items in
    let same : is_some (chunk_to_pick i.params.count chunks) ≡ has_idle (with_chunks chunks) = sym (idle_to_pick i.params chunks c.self.invariant.fit.shape.some_count c.self.invariant.kept) in
    ap is_some (returns-clause-ordinal c) ∙ subst (λ (z : Seen). is_some (chunk_to_pick z.params.count z.chunks) ≡ has_idle (with_chunks z.chunks)) c.self.view_is same
