-- The one ask whose answer was got before, among backs.
use Rattle.std.proofs.Common.{◌≡◌, ◌+◌, ◌-◌, ◌<◌, ◌≤◌, ◌||◌, ℕ, Bool, true, false, cond, not, List, [], ◌∷◌, ◌++◌, length, Option, None, Some, refl, sym, ◌∙◌, ap, ap₂, arith, add-zero, length-append}
use Rattle.std.specs.List.{filter, find, list_any}
use Rattle.std.specs.Option.{option_or}
use Rattle.std.proofs.lemmas.Bool.{false≢true}
use Rattle.std.proofs.lemmas.List.Elements.{filter-append}
use Rattle.std.proofs.lemmas.List.Filters.{length-filter_both}
use Rattle.std.proofs.lemmas.List.Folds.{find-append}
use Rattle.kz_model.specs.declared.record.ZoneParams.{ZoneParams}
use Rattle.kz_model.specs.declared.supply.Ask.TheVariants.{Back}
use Rattle.kz_model.specs.declared.supply.Answer.{Answer}
use Rattle.kz_supply.specs.Exchange.{Exchange}
use Rattle.kz_supply.specs.Ready.{Ready, ReadyAnswer, NoAnswer, ForChunk, ForFrames, is_back, is_grant, backs_in, has_asked, answers_ready, exchange_ready, base_of}

-- what one more exchange adds to the backs
pub backs_in-push : (exchanges : List Exchange) (e : Exchange) → backs_in (exchanges ++ e ∷ []) ≡ backs_in exchanges + cond (is_back e.0) 1 0
backs_in-push exchanges e =
    let p : Exchange → Bool = λ x. is_back x.0 in
    let one : length (filter p (e ∷ [])) ≡ cond (is_back e.0) 1 0 = elim (is_back e.0) as (λ b. length (cond b (e ∷ []) []) ≡ cond b 1 0) [ true ↦ refl | false ↦ refl ] in
    ap length (filter-append p exchanges (e ∷ [])) ∙ length-append (filter p exchanges) (filter p (e ∷ [])) ∙ ap (λ n. backs_in exchanges + n) one

grants_and_backs : (exchanges : List Exchange) → backs_in exchanges + length (filter is_grant exchanges) ≡ length exchanges
grants_and_backs exchanges = length-filter_both (λ e. is_back e.0) is_grant (λ e. refl) exchanges

module _ {X : Type 0} (p : X → Bool) where
  some_pass : (xs : List X) → list_any p xs ≡ true → 0 < length (filter p xs)
  some_pass [] any = absurd (false≢true any)
  some_pass (x ∷ xs) any =
      elim (p x) as (λ b. p x ≡ b → 0 < length (cond b (x ∷ filter p xs) (filter p xs)))
      [ true ↦ λ is. omega arith | false ↦ λ is. some_pass xs (sym (ap (λ b. b || list_any p xs) is) ∙ any) ] refl

  none_found : (xs : List X) → length (filter p xs) ≡ 0 → find p xs ≡ None
  none_found [] none = refl
  none_found (x ∷ xs) none =
      elim (p x) as (λ b. length (cond b (x ∷ filter p xs) (filter p xs)) ≡ 0 → cond b (Some x) (find p xs) ≡ None)
      [ true ↦ λ some. absurd (omega (arith, some)) | false ↦ λ rest. none_found xs rest ] none

-- where the zone has asked, no answer is ready
pub none_ready : (exchanges : List Exchange) (ready : ReadyAnswer) → length exchanges + answers_ready ready ≤ backs_in exchanges + 1 → has_asked exchanges ≡ true → ready ≡ NoAnswer
none_ready exchanges NoAnswer once asked = refl
none_ready exchanges (ForChunk answer) once asked = absurd (omega (arith, grants_and_backs exchanges, some_pass is_grant exchanges asked))
none_ready exchanges (ForFrames answer) once asked = absurd (omega (arith, grants_and_backs exchanges, some_pass is_grant exchanges asked))

-- where an answer is ready, the zone has not asked
none_asked : (exchanges : List Exchange) → length exchanges ≤ backs_in exchanges → find is_grant exchanges ≡ None
none_asked exchanges once = none_found is_grant exchanges (omega (arith, grants_and_backs exchanges))

or_none : (o : Option Exchange) → option_or o None ≡ o
or_none None = refl
or_none (Some e) = refl

-- what is seen of these fields
abbrev seen : ZoneParams → ℕ → ReadyAnswer → List Exchange → List (List (List ℕ)) → Ready
seen params chunks ready exchanges waiting =
    record { params = params; chunks = chunks; ready = ready; exchanges = exchanges; handed = backs_in exchanges - length waiting; waiting = waiting }

module _ (params : ZoneParams) (chunks : ℕ) (ready : ReadyAnswer) (exchanges : List Exchange) (waiting : List (List (List ℕ))) where
  -- the answer that was ready is the one that was got
  pub base_after_ask : (e : Exchange) → exchange_ready params ready ≡ Some e → answers_ready ready ≡ 1 → is_back e.0 ≡ false → length exchanges + answers_ready ready ≤ backs_in exchanges + 1 →
      base_of (seen params chunks NoAnswer (exchanges ++ e ∷ []) waiting) ≡ base_of (seen params chunks ready exchanges waiting)
  base_after_ask e is one asks once =
      let same : backs_in (exchanges ++ e ∷ []) ≡ backs_in exchanges = backs_in-push exchanges e ∙ ap (λ b. backs_in exchanges + cond b 1 0) asks ∙ add-zero (backs_in exchanges) in
      let found : find is_grant (exchanges ++ e ∷ []) ≡ Some e =
      find-append is_grant exchanges (e ∷ []) ∙ ap₂ (λ o b. option_or o (cond (not b) (Some e) None)) (none_asked exchanges (omega (arith, one))) asks in
      ap₂ (λ n o. record { chunks = chunks; handed = n - length waiting; got = o }) same (found ∙ ap (λ o. option_or o (find is_grant exchanges)) (sym is))

  -- a pack that waits was not handed out
  pub base_after_back : (pages : ℕ) (answer : Answer) (pack : List (List ℕ)) →
      base_of (seen params chunks ready (exchanges ++ (Back pages, answer) ∷ []) (waiting ++ pack ∷ [])) ≡ base_of (seen params chunks ready exchanges waiting)
  base_after_back pages answer pack =
      let handed : backs_in (exchanges ++ (Back pages, answer) ∷ []) - length (waiting ++ pack ∷ []) ≡ backs_in exchanges - length waiting =
      omega (arith, backs_in-push exchanges (Back pages, answer), length-append waiting (pack ∷ [])) in
      let found = find-append is_grant exchanges ((Back pages, answer) ∷ []) ∙ or_none (find is_grant exchanges) in
      ap₂ (λ n o. record { chunks = chunks; handed = n; got = option_or (exchange_ready params ready) o }) handed found
