-- The sitting that a pass or a hold is seen by.
use Rattle.std.proofs.Common.{◌≡◌, sym, refl, ap, ◌∙◌, true, Some}
use Rattle.std.proofs.lemmas.Bool.{false≢true}
use Rattle.kz_turn.specs.declared.view.Stage.{Stage}
use Rattle.kz_turn.specs.declared.view.Stage.TheVariants.{Idle, Waits, Serves}
use Rattle.kz_turn.specs.declared.view.Sitting.{Sitting}
use Rattle.kz_turn.specs.declared.view.View.{View}
use Rattle.kz_turn.specs.declared.view.View.TheVariants.{Spent, Sits}
use Rattle.kz_turn.specs.Views.{noted_in}
use Rattle.kz_turn.specs.Passes.{is_live, sitting_of, is_idle, is_serving}
use Rattle.kz_turn.proofs.Steps.{ticket_at, same_sitting}

module _ {E : Type 0} where
  pub idle_is : (st : Stage E) → is_idle st ≡ true → st ≡ Idle
  idle_is Idle e = refl
  idle_is (Waits t) e = absurd (false≢true e)
  idle_is (Serves t log) e = absurd (false≢true e)

  pub serving_is : (st : Stage E) → is_serving st ≡ true → st ≡ Serves (ticket_at st) (noted_in st)
  serving_is Idle e = absurd (false≢true e)
  serving_is (Waits t) e = absurd (false≢true e)
  serving_is (Serves t log) e = refl

module _ {B E : Type 0} where
  pub sits_is : (v : View B E) (live : is_live v ≡ true) → v ≡ Sits (sitting_of v live)
  sits_is Spent live = absurd (false≢true live)
  sits_is (Sits a) live = refl

  pub sitting_at : (v : View B E) (live : is_live v ≡ true) (b : Sitting B E) → v ≡ Sits b → sitting_of v live ≡ b
  sitting_at v live b is = same_sitting (sitting_of v live) b (sym (sits_is v live) ∙ is)

  pub live_at : (v : View B E) (b : Sitting B E) → v ≡ Sits b → is_live v ≡ true
  live_at v b is = ap is_live is

pub same_value : {X : Type 0} → (x y : X) → Some x ≡ Some y → x ≡ y
same_value x y e = cc
