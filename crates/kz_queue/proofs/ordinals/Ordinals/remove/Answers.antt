use Rattle.std.proofs.Common.{◌≡◌, ℕ, ◌*◌, ◌/◌, ◌<◌, ◌==◌, if◌then◌else◌, false, List, length, slice_index, ap, sym, subst, ◌∙◌, arith}
use Rattle.std.proofs.lemmas.Grind.{get_or_default_zero}
use Rattle.kz_queue.specs.Ordinals.{has}
use Rattle.kz_queue.proofs.Words.{summed_less, summed_still}
use Rattle.kz_queue.proofs.ordinals.Ordinals.remove.Goals as goal

pub invariant_of-self : goal.invariant_of-self
invariant_of-self c =
    let i = c.self.inside in
    let word = c.args.ordinal / 64 in
    let new = c.let_go.new.words.items in
    let within : word < length i.words.items = omega (arith, c.requires, ap length c.self.view_is) in
    let there : word < length new = omega (arith, within, c.let_go.ensures.words) in
    let none : slice_index new word ≡ 0 = sym (c.index.ensures ∙ get_or_default_zero new word c.index.result.now there) ∙ c.if-index-eq0.true in
    summed_less i.words.items new i.summary.items c.let_go-then-index-eq0.new.words.items word c.self.invariant within c.let_go.ensures.words c.let_go.ensures.others
    c.let_go-then-index-eq0.ensures.words c.let_go-then-index-eq0.ensures.has none

pub invariant_of-self-else-index-eq0 : goal.invariant_of-self-else-index-eq0
invariant_of-self-else-index-eq0 c =
    let i = c.self.inside in
    let word = c.args.ordinal / 64 in
    let new = c.let_go.new.words.items in
    let within : word < length i.words.items = omega (arith, c.requires, ap length c.self.view_is) in
    let there : word < length new = omega (arith, within, c.let_go.ensures.words) in
    let is : c.index.result.now ≡ slice_index new word = c.index.ensures ∙ get_or_default_zero new word c.index.result.now there in
    summed_still i.words.items new i.summary.items i.summary.items word c.self.invariant within c.let_go.ensures.words c.let_go.ensures.others
    c.let_go.ensures.less (omega (arith, is, c.if-index-eq0.false))

pub returns-then-index-eq0-clause-has : goal.returns-then-index-eq0-clause-has
returns-then-index-eq0-clause-has c =
    let new = c.let_go.new.words.items in
    let P : List ℕ → Type 0 = λ seen. (other : ℕ) → other < 64 * length seen → has new other ≡ (if other == c.args.ordinal then false else has seen other) in
    subst P c.self.view_is c.let_go.ensures.has
