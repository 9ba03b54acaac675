-- The ranges of a supply's Base answers.
use Rattle.std.proofs.Common.{◌≡◌, ℕ, zero, suc, ◌+◌, ◌-◌, ◌<◌, ◌≤◌, ◌==◌, true, false, nat_lt, if◌then◌else◌, List, [], ◌∷◌, length, slice_index, slice_set, refl, ap, sym, ◌∙◌, subst, arith}
use Rattle.std.proofs.lemmas.List.{length-set, get_or-replicate, length-replicate}
use Rattle.kz_model.specs.declared.supply.Ask.{Ask}
use Rattle.kz_model.specs.declared.supply.Ask.TheVariants.{Chunk, Frames, Back}
use Rattle.kz_model.specs.declared.supply.Answer.{Answer}
use Rattle.kz_model.specs.declared.supply.Answer.TheVariants.{Base, NoSpace, NoFrames, Given}
use Rattle.kz_model.specs.Run.Supply.{Stock, opening_stock, pages_left, stock_after, answers_from, supply_answers}
use Rattle.kz_laws.specs.Ranges.{Range, with_range, ranges, AreOfSubmaps, Beyond, AreApart}

beyond_later : (submap low high : ℕ) (rs : List Range) → low ≤ high → Beyond submap high rs → Beyond submap low rs
beyond_later submap low high [] le h = tt
beyond_later submap low high (r ∷ rs) le h = (λ same. omega (arith, h.0 same), beyond_later submap low high rs le h.1)

-- the cursors of a stock: five, each within the pages
pub record IsStock (pages : ℕ) (stock : Stock) : Type 0 where
  pub five : length stock.cursors ≡ 5
  pub within : (m : ℕ) → m < 5 → slice_index stock.cursors m ≤ pages

-- what comes after: all beyond the cursors, and apart
abbrev Later : ℕ → Stock → List Range → Type 0
Later pages stock rs = ((m : ℕ) → m < 5 → Beyond m (slice_index stock.cursors m) rs) × AreApart pages rs

-- the cursors after a Base answer
cursor-set : (cursors : List ℕ) (k m page : ℕ) → k < length cursors → slice_index (slice_set cursors k page) m ≡ (if m == k then page else slice_index cursors m)
cursor-set [] k m page lt = absurd (omega arith)
cursor-set (x ∷ xs) zero zero page lt = refl
cursor-set (x ∷ xs) zero (suc m) page lt = let other : (suc m == 0) ≡ false = grind arith in rw other refl
cursor-set (x ∷ xs) (suc k) zero page lt = let other : (0 == suc k) ≡ false = grind arith in rw other refl
cursor-set (x ∷ xs) (suc k) (suc m) page lt = let same : (suc m == suc k) ≡ (m == k) = grind arith in cursor-set xs k m page (omega arith) ∙ ap (λ b. if b then page else slice_index xs m) (sym same)

base_is_stock : (pages : ℕ) (stock : Stock) (k p : ℕ) → IsStock pages stock → k < 5 → slice_index stock.cursors k + p ≤ pages →
    IsStock pages (record { free = stock.free - p; cursors = slice_set stock.cursors k (slice_index stock.cursors k + p) })
base_is_stock pages stock k p is lt le =
    record {
      five = length-set stock.cursors k (slice_index stock.cursors k + p) ∙ is.five;
      within = λ m in'. subst (λ n. n ≤ pages) (sym (cursor-set stock.cursors k m (slice_index stock.cursors k + p) (omega (arith, is.five))))
          (elim (m == k) as (λ b. (if b then slice_index stock.cursors k + p else slice_index stock.cursors m) ≤ pages) [ true ↦ le | false ↦ is.within m in' ]);
    }

-- a Base answer in front
base_first : (pages : ℕ) (stock : Stock) (k p : ℕ) (rs : List Range) → IsStock pages stock → k < 5 → slice_index stock.cursors k + p ≤ pages →
    Later pages (record { free = stock.free - p; cursors = slice_set stock.cursors k (slice_index stock.cursors k + p) }) rs →
    Later pages stock (record { submap = k; page = slice_index stock.cursors k; pages = p } ∷ rs)
base_first pages stock k p rs is lt le later =
    let at = slice_index stock.cursors k in (
      λ m in'. (
        λ same. let n : slice_index stock.cursors k ≡ slice_index stock.cursors m = ap (λ m. slice_index stock.cursors m) same in omega (arith, n),
        beyond_later m (slice_index stock.cursors m) (slice_index (slice_set stock.cursors k (at + p)) m) rs
            (subst (λ n. slice_index stock.cursors m ≤ n) (sym (cursor-set stock.cursors k m (at + p) (omega (arith, is.five))))
            (elim (m == k) as (λ b. (m == k) ≡ b → slice_index stock.cursors m ≤ (if b then at + p else slice_index stock.cursors m)) [
              | true ↦ λ e. let same : m ≡ k = grind arith in let n : slice_index stock.cursors m ≡ slice_index stock.cursors k = ap (λ m. slice_index stock.cursors m) same in omega (arith, n)
              | false ↦ λ e. omega arith
            ] refl))
            (later.0 m in'),
      ),
      (
        le,
        subst (λ n. Beyond k n rs) (cursor-set stock.cursors k k (at + p) (omega (arith, is.five)) ∙ itself k (at + p) at) (later.0 k lt),
        later.1,
      ),
    )
  where
    itself : (k a b : ℕ) → (if k == k then a else b) ≡ a
    itself k a b = let same : (k == k) ≡ true = grind arith in rw same refl

-- an ask's answer in front of what comes after
abbrev In_front : ℕ → Stock → Ask → Answer → List Ask → Type 0
In_front pages stock ask answer asks = Later pages stock (with_range ask answer (ranges asks (answers_from pages (stock_after stock ask answer) asks)))

pub apart_from : (pages : ℕ) (stock : Stock) (asks : List Ask) → IsStock pages stock → AreOfSubmaps asks → Later pages stock (ranges asks (answers_from pages stock asks))
apart_from pages stock [] is h = (λ m lt. tt, tt)
apart_from pages stock (Chunk k p ∷ asks) is h =
    elim (nat_lt (pages_left pages stock k) p) as (λ b. nat_lt (pages_left pages stock k) p ≡ b → In_front pages stock (Chunk k p) (if b then NoSpace (pages_left pages stock k) else if nat_lt stock.free p then NoFrames stock.free else Base (slice_index stock.cursors k)) asks) [
      | true ↦ λ e. apart_from pages stock asks is h.1
      | false ↦ λ e.
          elim (nat_lt stock.free p) as (λ b. In_front pages stock (Chunk k p) (if b then NoFrames stock.free else Base (slice_index stock.cursors k)) asks) [
            | true ↦ apart_from pages stock asks is h.1
            | false ↦
                let fit : slice_index stock.cursors k + p ≤ pages = fits (slice_index stock.cursors k) p (is.within k h.0) e in
                base_first pages stock k p (ranges asks (answers_from pages (record { free = stock.free - p; cursors = slice_set stock.cursors k (slice_index stock.cursors k + p) }) asks)) is h.0 fit
                (apart_from pages (record { free = stock.free - p; cursors = slice_set stock.cursors k (slice_index stock.cursors k + p) }) asks (base_is_stock pages stock k p is h.0 fit) h.1)
          ]
    ] refl
  where
    fits : (at p : ℕ) → at ≤ pages → nat_lt (pages - at) p ≡ false → at + p ≤ pages
    fits at p le e = let few : p ≤ pages - at = grind arith in omega arith
apart_from pages stock (Frames p ∷ asks) is h =
    elim (nat_lt stock.free p) as (λ b. In_front pages stock (Frames p) (if b then NoFrames stock.free else Given) asks) [
      | true ↦ apart_from pages stock asks is h.1
      | false ↦ apart_from pages (record stock { free = stock.free - p }) asks (record { five = is.five; within = is.within }) h.1
    ]
apart_from pages stock (Back p ∷ asks) is h = apart_from pages (record stock { free = stock.free + p }) asks (record { five = is.five; within = is.within }) h.1

pub sequestered : (frames pages : ℕ) (asks : List Ask) → AreOfSubmaps asks → AreApart pages (ranges asks (supply_answers frames pages asks))
sequestered frames pages asks h =
    (apart_from pages (opening_stock frames) asks (record { five = length-replicate {A = ℕ} 5 0; within = λ m lt. omega (arith, get_or-replicate {A = ℕ} 5 m 0 0 lt) }) h).1
