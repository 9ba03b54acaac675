-- The CPU's own answers, by what its stack serves.
use Rattle.std.proofs.Common.{◌≡◌, ℕ, ◌&&◌, Bool, true, false, not, nat_lt, List, [], ◌∷◌, ◌++◌, length, Option, None, Some, refl, ap, sym, ◌∙◌, subst}
use Rattle.std.specs.Option.{IfSome, option_map, option_map_or, is_some, is_none}
use Rattle.kz_model.specs.declared.record.ZoneParams.{ZoneParams}
use Rattle.kz_model.specs.declared.step.Block.{Block}
use Rattle.kz_model.specs.declared.step.Bound.{Bound}
use Rattle.kz_model.specs.declared.step.Reply.{Reply}
use Rattle.kz_model.specs.declared.step.Reply.TheVariants as reply
use Rattle.kz_model.specs.declared.step.Step.{Step}
use Rattle.kz_model.specs.declared.step.Step.TheVariants.{Alloc, AllocZero, Free, Give, Take, Read, Write, Flush, Trim}
use Rattle.kz_model.specs.Zone.Local.{Local, kept, local_action, local_answer}
use Rattle.kz_model.specs.Zone.Rules.{newest, below_newest, needs_visit, is_served_by, refused_here, bound_at, block_of}
use Rattle.kz_model.specs.Zone.State.{CpuPart, bound_of, bind}
use Rattle.kz_book.proofs.Effects.{bound_last}
use Rattle.kz_book.specs.Visits.{bound_there}
use Rattle.kz_cpu.specs.declared.own_reply.OwnReply.{OwnReply}
use Rattle.kz_cpu.specs.Local.{Brings, IsAnswer}
use Rattle.kz_cpu.specs.OwnReply.{reply_meant}

-- a step without a name is refused by nothing that its CPU has
pub here_same : (p : ZoneParams) (own : CpuPart) (step : Step) → refused_here p (bound_at own step) step ≡ refused_here p (bound_there own step) step
here_same p own (Alloc name) = refl
here_same p own (AllocZero name) = refl
here_same p own (Free name asked) = refl
here_same p own (Give name to) = refl
here_same p own (Take name) = refl
here_same p own (Read name off len) = refl
here_same p own (Write name off bytes) = refl
here_same p own Flush = refl
here_same p own Trim = refl

pub here_of : (p : ZoneParams) (own : CpuPart) (step : Step) (stack : List Block) (bound : Option Bound) → Brings own step stack bound → refused_here p (bound_at own step) step ≡ refused_here p bound step
here_of p own step stack bound b = here_same p own step ∙ ap (λ o. refused_here p o step) (sym b.is_bound)

-- whether a step needs a visit, by its stack and binding
pub needs_by : (p : ZoneParams) (own : CpuPart) (step : Step) (stack : List Block) (bound : Option Bound) → Brings own step stack bound → needs_visit p own step ≡ is_none (refused_here p bound step) && not (is_served_by p stack step)
needs_by p own step stack bound b =
    ap (λ (r : Option Reply). is_none r && not (is_served_by p own.stack step)) (here_of p own step stack bound b)
    ∙ ap (λ (blocks : List Block). is_none (refused_here p bound step) && not (is_served_by p blocks step)) (sym b.is_stack)

-- the answer that the stack gives
pub record Serves (own : CpuPart) (step : Step) (served : Bool) (result : Option Reply) (left : List Block) (now : Option Bound) : Type 0 where
  pub some : is_some result ≡ served
  pub reply : IfSome result (λ reply. reply ≡ (local_action own step).reply)
  pub stack : IfSome result (λ reply. left ≡ (local_action own step).own.stack)
  pub bound : IfSome result (λ reply. now ≡ bound_there (local_action own step).own step)

none_not : (result : Option Reply) → is_none result ≡ not (is_some result)
none_not None = refl
none_not (Some r) = refl

pub answer_served : (p : ZoneParams) (own : CpuPart) (step : Step) (stack left : List Block) (bound now : Option Bound) (result : Option Reply) → refused_here p bound step ≡ None → Brings own step stack bound → Serves own step (is_served_by p stack step) result left now → IsAnswer p own step result left now
answer_served p own step stack left bound now result here b s =
    let at : local_action own step ≡ local_answer p own step = sym (ap (λ (o : Option Reply). option_map_or (λ reply. kept reply own) o (local_action own step)) (here_of p own step stack bound b ∙ here)) in
    record {
      needs = none_not result ∙ ap not s.some ∙ sym (needs_by p own step stack bound b ∙ ap (λ (o : Option Reply). is_none o && not (is_served_by p stack step)) here);
      reply = subst (λ (l : Local). IfSome result (λ reply. reply ≡ l.reply)) at s.reply;
      stack = subst (λ (l : Local). IfSome result (λ reply. left ≡ l.own.stack)) at s.stack;
      bound = subst (λ (l : Local). IfSome result (λ reply. now ≡ bound_there l.own step)) at s.bound;
    }

pub if_some : (result : Option Reply) (P Q : Reply → Type 0) → ((r : Reply) → P r → Q r) → IfSome result P → IfSome result Q
if_some None P Q f h = h
if_some (Some r) P Q f h = f r h

-- what holds of the CPU's own reply, of the reply that it stands for
pub if_meant : (result : Option OwnReply) (P : OwnReply → Type 0) (Q : Reply → Type 0) → ((r : OwnReply) → P r → Q (reply_meant r)) → IfSome result P → IfSome (option_map reply_meant result) Q
if_meant None P Q f h = h
if_meant (Some r) P Q f h = f r h

pub meant_is_some : (result : Option OwnReply) → is_some (option_map reply_meant result) ≡ is_some result
meant_is_some None = refl
meant_is_some (Some r) = refl

-- an allocation from a stack
pub record Allocates (stack left : List Block) (now : Option Bound) (result : Option Reply) : Type 0 where
  pub some : is_some result ≡ nat_lt 0 (length stack)
  pub reply : IfSome result (λ r. r ≡ reply.Block (newest stack))
  pub rest : IfSome result (λ reply. left ≡ below_newest stack)
  pub bound : IfSome result (λ reply. now ≡ Some (record { block = newest stack; held = true }))

pub serves_alloc : (own : CpuPart) (name : ℕ) (stack left : List Block) (bound now : Option Bound) (result : Option Reply) → Brings own (Alloc name) stack bound → Allocates stack left now result → Serves own (Alloc name) (nat_lt 0 (length stack)) result left now
serves_alloc own name stack left bound now result b a = record {
  some = a.some;
  reply = if_some result _ (λ r. r ≡ reply.Block (newest own.stack)) (λ r e. e ∙ ap (λ (blocks : List Block). reply.Block (newest blocks)) b.is_stack) a.reply;
  stack = if_some result _ (λ r. left ≡ below_newest own.stack) (λ r e. e ∙ ap (λ (blocks : List Block). below_newest blocks) b.is_stack) a.rest;
  bound = if_some result _ (λ r. now ≡ bound_of name (bind name (record { block = newest own.stack; held = true }) own.names))
      (λ r e. e ∙ ap (λ (blocks : List Block). Some (record { block = newest blocks; held = true })) b.is_stack ∙ sym (bound_last name (record { block = newest own.stack; held = true }) own.names)) a.bound;
}

-- a free onto a stack
pub record Frees (served : Bool) (stack left : List Block) (bound now : Option Bound) (result : Option Reply) : Type 0 where
  pub some : is_some result ≡ served
  pub reply : IfSome result (λ r. r ≡ reply.Done)
  pub more : IfSome result (λ reply. left ≡ stack ++ block_of bound ∷ [])
  pub binding : IfSome result (λ reply. now ≡ Some (record { block = block_of bound; held = false }))

pub serves_free : (own : CpuPart) (name : ℕ) (asked : Option ℕ) (served : Bool) (stack left : List Block) (bound now : Option Bound) (result : Option Reply) → Brings own (Free name asked) stack bound → Frees served stack left bound now result → Serves own (Free name asked) served result left now
serves_free own name asked served stack left bound now result b f =
    let block = block_of (bound_of name own.names) in
    record {
      some = f.some;
      reply = f.reply;
      stack = if_some result _ (λ r. left ≡ own.stack ++ block ∷ []) (λ r e. e ∙ ap (λ (blocks : List Block). blocks ++ block_of bound ∷ []) b.is_stack ∙ ap (λ (o : Option Bound). own.stack ++ block_of o ∷ []) b.is_bound) f.more;
      bound = if_some result _ (λ r. now ≡ bound_of name (bind name (record { block = block; held = false }) own.names))
          (λ r e. e ∙ ap (λ (o : Option Bound). Some (record { block = block_of o; held = false })) b.is_bound ∙ sym (bound_last name (record { block = block; held = false }) own.names)) f.binding;
    }
