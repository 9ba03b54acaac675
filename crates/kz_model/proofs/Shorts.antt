-- Steps that are kept short, with more bytes of writes behind theirs.
use Rattle.std.proofs.Common.{◌≡◌, ℕ, zero, suc, ◌≤◌, List, [], ◌∷◌, ◌++◌, length, map, refl, ap, ◌∙◌, arith, Some, None, slice_index_or}
use Rattle.std.specs.List.{All}
use Rattle.std.specs.Prelude.{Result, Ok, Err, OnErr}
use Rattle.std.proofs.lemmas.List.{get_or_append_left}
use Rattle.std.proofs.lemmas.List.Elements.{All-map}
use Rattle.kz_model.specs.declared.bundle.Act.TheVariants as act
use Rattle.kz_model.specs.declared.bundle.TraceStep.{TraceStep}
use Rattle.kz_model.specs.declared.store.short.ShortAct.{ShortAct}
use Rattle.kz_model.specs.declared.store.short.ShortAct.TheVariants as short
use Rattle.kz_model.specs.declared.store.short.ShortStep.{ShortStep}
use Rattle.kz_model.specs.Store.Traces.{act_meant, step_meant, HasItsBytes, renumbered, renumbered_short, renumbered_kept, renumbered_step}
use Rattle.kz_model.specs.declared.bundle.Act.{Act}
use Rattle.kz_model.proofs.Beside.{Meaning}

pub meant_more : (pieces more : List (List ℕ)) (a : ShortAct) → HasItsBytes (length pieces) a → act_meant (pieces ++ more) a ≡ act_meant pieces a
meant_more pieces more (short.Alloc name of) within = refl
meant_more pieces more (short.AllocZero name of) within = refl
meant_more pieces more (short.Free name of) within = refl
meant_more pieces more (short.Give name to) within = refl
meant_more pieces more (short.Take name) within = refl
meant_more pieces more (short.Read name off len) within = refl
meant_more pieces more (short.Write name off piece) within = ap (λ bytes. act.Write name off bytes) (get_or_append_left pieces more [] piece within)
meant_more pieces more (short.Flush of) within = refl
meant_more pieces more (short.Trim of) within = refl

pub within_more : (few many : ℕ) (a : ShortAct) → few ≤ many → HasItsBytes few a → HasItsBytes many a
within_more few many (short.Alloc name of) le within = tt
within_more few many (short.AllocZero name of) le within = tt
within_more few many (short.Free name of) le within = tt
within_more few many (short.Give name to) le within = tt
within_more few many (short.Take name) le within = tt
within_more few many (short.Read name off len) le within = tt
within_more few many (short.Write name off piece) le within = omega (arith, le, within)
within_more few many (short.Flush of) le within = tt
within_more few many (short.Trim of) le within = tt

-- steps beside the bytes of writes
abbrev pub steps_beside : Meaning (List ℕ) ShortStep TraceStep
steps_beside = record {
  meant = step_meant;
  HasItsBytes = λ pieces step. HasItsBytes pieces step.act;
  meant_more = λ pieces more step within. ap (λ (act : Act). record { line = step.line; round = step.round; act = act }) (meant_more pieces more step.act within);
  within_more = λ few many step. within_more few many step.act;
}

abbrev pub AreWithin : List (List ℕ) → List ShortStep → Type 0
AreWithin pieces steps = All (λ step. HasItsBytes (length pieces) step.act) steps

pub on_err : {A E : Type 0} (r : Result A E) (P : Type 0) → P → OnErr r P
on_err (Ok a) P p = tt
on_err (Err e) P p = p

-- ---- other numbers

pub all_unmap : {A B : Type 0} (f : A → B) (P : B → Type 0) (xs : List A) → All P (map f xs) → All (λ x. P (f x)) xs
all_unmap f P [] h = λ k d lt. absurd (omega (arith, lt))
all_unmap f P (x ∷ xs) h = there (h 0 (f x) (omega arith)) (all_unmap f P xs (λ k d lt. h (suc k) d (omega (arith, lt))))
  where
    there : P (f x) → All (λ x. P (f x)) xs → All (λ x. P (f x)) (x ∷ xs)
    there here rest zero d lt = here
    there here rest (suc k) d lt = rest k d (omega (arith, lt))

act_renumbered : (pieces : List (List ℕ)) (names types : List ℕ) (a : ShortAct) → act_meant pieces (renumbered_short names types a) ≡ renumbered names types (act_meant pieces a)
act_renumbered pieces names types (short.Alloc name of) = refl
act_renumbered pieces names types (short.AllocZero name of) = refl
act_renumbered pieces names types (short.Free name None) = refl
act_renumbered pieces names types (short.Free name (Some of)) = refl
act_renumbered pieces names types (short.Give name to) = refl
act_renumbered pieces names types (short.Take name) = refl
act_renumbered pieces names types (short.Read name off len) = refl
act_renumbered pieces names types (short.Write name off piece) = refl
act_renumbered pieces names types (short.Flush of) = refl
act_renumbered pieces names types (short.Trim of) = refl

pub renumbered-meant : (pieces : List (List ℕ)) (names types : List ℕ) (steps : List ShortStep) →
    map (step_meant pieces) (map (renumbered_kept names types) steps) ≡ map (renumbered_step names types) (map (step_meant pieces) steps)
renumbered-meant pieces names types [] = refl
renumbered-meant pieces names types (step ∷ steps) =
    let rest = map (step_meant pieces) (map (renumbered_kept names types) steps) in
    ap (λ (a : Act). record { line = step.line; round = step.round; act = a } ∷ rest) (act_renumbered pieces names types step.act)
    ∙ ap (λ (others : List TraceStep). renumbered_step names types (step_meant pieces step) ∷ others) (renumbered-meant pieces names types steps)

within_renumbered : (few : ℕ) (names types : List ℕ) (a : ShortAct) → HasItsBytes few a → HasItsBytes few (renumbered_short names types a)
within_renumbered few names types (short.Alloc name of) h = tt
within_renumbered few names types (short.AllocZero name of) h = tt
within_renumbered few names types (short.Free name None) h = tt
within_renumbered few names types (short.Free name (Some of)) h = tt
within_renumbered few names types (short.Give name to) h = tt
within_renumbered few names types (short.Take name) h = tt
within_renumbered few names types (short.Read name off len) h = tt
within_renumbered few names types (short.Write name off piece) h = h
within_renumbered few names types (short.Flush of) h = tt
within_renumbered few names types (short.Trim of) h = tt

pub all_renumbered : (pieces : List (List ℕ)) (names types : List ℕ) (steps : List ShortStep) → AreWithin pieces steps → AreWithin pieces (map (renumbered_kept names types) steps)
all_renumbered pieces names types steps h =
    All-map (λ (step : ShortStep). HasItsBytes (length pieces) step.act) (renumbered_kept names types) steps
    (λ k d lt. within_renumbered (length pieces) names types (slice_index_or steps k d).act (h k d lt))
