use Rattle.std.proofs.Common.{◌≡◌, Some, Bool, true, false, not, ap, sym, ◌∙◌, rules}
use Rattle.kz_queue.specs.contracts.place.Place.{the_type}
use denote.Enum.Bare.{same_true}
use Rattle.kz_zone.proofs.OneChange.{set_there}
use Rattle.kz_zone.proofs.chunks.settle.Goals as goal

flipped : (b : Bool) → false ≡ not b → b ≡ true
flipped true e = cc
flipped false e = absurd (cc)

pub returns-else-ne : goal.returns-else-ne
returns-else-ne c =
    let shelf = c.args.shelf.now in
    let same : c.args.before ≡ c.args.after = same_true the_type (search rules) _ _ (flipped _ c.if-ne.ensures) in
    let there = set_there shelf.places c.args.ordinal c.args.after (c.requires ∙ ap (λ p. Some p) same) in
    λ i. record { room = shelf.room; places = sym there i }
