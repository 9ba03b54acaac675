-- What a CPU's own step, and a visit, make of a history.
use Rattle.std.proofs.Common.{◌≡◌, ℕ, Bool, true, false, if◌then◌else◌, List, [], ◌∷◌, ◌++◌, map, refl, ap, sym, ◌∙◌, subst}
use Rattle.std.proofs.lemmas.List.{append-nil}
use Rattle.kz_model.specs.declared.bundle.Bundle.{Bundle}
use Rattle.kz_model.specs.declared.record.ZoneParams.{ZoneParams}
use Rattle.kz_model.specs.declared.step.Step.{Step}
use Rattle.kz_model.specs.declared.step.Reply.{Reply}
use Rattle.kz_model.specs.declared.supply.SupplyEntry.{SupplyEntry}
use Rattle.kz_model.specs.Zone.Late.{NeedNone, part_after}
use Rattle.kz_model.specs.Zone.Local.{local_answer}
use Rattle.kz_model.specs.Run.Order.{answered}
use Rattle.kz_model.specs.Zone.Rules.{Effect, needs_visit}
use Rattle.kz_model.specs.Zone.State.{CpuPart, cpu_part}
use Rattle.kz_model.proofs.Delays.{no_asks, effect_is_local}
use Rattle.kz_model.proofs.LateSteps.{need_none-push, part_after-push}
use Rattle.kz_supply.specs.Exchange.{Exchange, ask_of, entries_of}
use Rattle.kz_supply.specs.Thin.{thin_with_exchanges}
use Rattle.kz_book.specs.Book.{History, KeepsHistory, params_of}
use Rattle.kz_book.specs.Visits.{Extends, own_in, visit_of}
use Rattle.kz_cpu.specs.Cpu.{Cpu, Has, IsElsewhere, cache_at, recent_at}
use Rattle.kz_cpu.specs.Caught.{IsCaughtUpWith}
use Rattle.kz_machine.specs.Steps.{Parties, parties, IsReady, IsStepDone, needs_here, own_here, effect_here}

-- a test that is known
when_true : {A : Type 0} (b : Bool) (x y : A) → b ≡ true → (if b then x else y) ≡ x
when_true true x y e = refl
when_true false x y e = absurd (cc)

when_false : {A : Type 0} (b : Bool) (x y : A) → b ≡ false → (if b then x else y) ≡ y
when_false false x y e = refl
when_false true x y e = absurd (cc)

-- ---- a step that the CPU does by itself

module _ (p : ZoneParams) (round : ℕ) (old : Parties) (cpu : Cpu) (step : Step) (reply : Reply) (ready : IsReady p old step)
    (needs : (own : CpuPart) → Has old.cpu p.zone own → false ≡ needs_visit (cache_at old.cpu p.zone).params own step)
    (replies : (own : CpuPart) → Has old.cpu p.zone own → reply ≡ (local_answer (cache_at old.cpu p.zone).params own step).reply)
    (has : (own : CpuPart) → Has old.cpu p.zone own → Has cpu p.zone (local_answer (cache_at old.cpu p.zone).params own step).own)
    (recent : recent_at cpu p.zone ≡ recent_at old.cpu p.zone ++ step ∷ []) (elsewhere : IsElsewhere old.cpu cpu p.zone step) (j : History) (keeps : KeepsHistory old.book j) (caught : IsCaughtUpWith old.cpu p.zone j) where
  abbrev q : ZoneParams
  q = (cache_at old.cpu p.zone).params

  abbrev own : CpuPart
  own = own_in q j old.cpu.cpu (recent_at old.cpu p.zone)

  own_is : own ≡ own_here p old j
  own_is = ap (λ (q : ZoneParams). own_in q j old.cpu.cpu (recent_at old.cpu p.zone)) ready.cache

  none : needs_visit q own step ≡ false
  none = sym (needs own caught.has)

  none_here : needs_here p old j step ≡ false
  none_here = ap (λ (own : CpuPart). needs_visit p own step) (sym own_is) ∙ ap (λ (q : ZoneParams). needs_visit q own step) (sym ready.cache) ∙ none

  caught_now : IsCaughtUpWith cpu p.zone j
  caught_now =
      let first = cpu_part j.made.end old.cpu.cpu in
      let late = recent_at old.cpu p.zone in
      let none_late : NeedNone q first (late ++ step ∷ []) = need_none-push q first late step caught.none none in
      let has_late : Has cpu p.zone (part_after q first (late ++ step ∷ [])) = subst (λ (own : CpuPart). Has cpu p.zone own) (sym (part_after-push q first late step)) (has own caught.has) in
      record {
        none = subst (λ (q : ZoneParams). NeedNone q (cpu_part j.made.end cpu.cpu) (recent_at cpu p.zone)) (sym elsewhere.params)
            (subst (λ n. NeedNone q (cpu_part j.made.end n) (recent_at cpu p.zone)) (sym elsewhere.cpu) (subst (λ (steps : List Step). NeedNone q first steps) (sym recent) none_late));
        has = subst (λ (q : ZoneParams). Has cpu p.zone (own_in q j cpu.cpu (recent_at cpu p.zone))) (sym elsewhere.params)
            (subst (λ n. Has cpu p.zone (own_in q j n (recent_at cpu p.zone))) (sym elsewhere.cpu) (subst (λ (steps : List Step). Has cpu p.zone (part_after q first steps)) (sym recent) has_late));
      }

  reply_is : reply ≡ (effect_here p old j step []).reply
  reply_is =
      replies own caught.has
      ∙ ap (λ (q : ZoneParams). (local_answer q own step).reply) ready.cache
      ∙ ap (λ (own : CpuPart). (local_answer p own step).reply) own_is
      ∙ sym (ap (λ (e : Effect). e.reply) (effect_is_local p j.made.end.shared old.cpu.cpu (own_here p old j) step none_here))

  pub late_does : (after : History) × (exchanges : List Exchange) × IsStepDone p round old (parties cpu old.book old.supply) step reply j after exchanges
  late_does = (
    j,
    [],
    record {
      keeps = keeps;
      caught = caught_now;
      asks = sym (no_asks p j.made.end.shared old.cpu.cpu (own_here p old j) step none_here);
      answered_by = λ b frames pages. refl;
      supply = ap (λ (log : List SupplyEntry). record old.supply { counted = record old.supply.counted { log = log } }) (sym (append-nil old.supply.counted.log));
      answers = sym (append-nil j.answers);
      is_reply = reply_is;
      room = refl;
      most_chunks = refl;
      most_gifts = refl;
      visits = sym (when_false (needs_here p old j step) _ _ none_here);
      recent = recent ∙ sym (when_false (needs_here p old j step) _ _ none_here);
      end = sym (when_false (needs_here p old j step) _ _ none_here);
      elsewhere = elsewhere;
    },
  )

-- ---- a visit

pub visit_does : (p : ZoneParams) (round : ℕ) (old new : Parties) (step : Step) (reply : Reply) (exchanges : List Exchange) → IsReady p old step →
    ((j : History) → KeepsHistory old.book j → IsCaughtUpWith old.cpu p.zone j → needs_here p old j step ≡ true) →
    new.supply ≡ thin_with_exchanges p.zone exchanges old.supply →
    ((b : Bundle) → old.supply.counted.frames ≡ b.frames → old.supply.counted.pages ≡ b.pages → entries_of p.zone exchanges ≡ answered b p.zone old.supply.counted.log (map ask_of exchanges)) →
    new.book.visits ≡ old.book.visits ++ visit_of round old.cpu.cpu (recent_at old.cpu p.zone) ∷ [] → new.book.room ≡ old.book.room → new.book.zone.most_chunks ≡ old.book.zone.most_chunks → new.book.zone.most_gifts ≡ old.book.zone.most_gifts →
    ((j : History) → KeepsHistory old.book j → IsCaughtUpWith old.cpu p.zone j →
    (after : History) × KeepsHistory new.book after × Extends (params_of old.book) old.cpu.cpu j after (recent_at old.cpu p.zone) step reply exchanges × IsCaughtUpWith new.cpu p.zone after) →
    recent_at new.cpu p.zone ≡ [] → IsElsewhere old.cpu new.cpu p.zone step →
    (j : History) → KeepsHistory old.book j → IsCaughtUpWith old.cpu p.zone j → (after : History) × (exchanges : List Exchange) × IsStepDone p round old new step reply j after exchanges
visit_does p round old new step reply exchanges ready needs supply answers visits room most_chunks most_gifts extends recent elsewhere j keeps caught =
    let made = extends j keeps caught in
    let is : needs_here p old j step ≡ true = needs j keeps caught in
    let ext = subst (λ (q : ZoneParams). Extends q old.cpu.cpu j made.0 (recent_at old.cpu p.zone) step reply exchanges) ready.params made.2 in (
      made.0,
      exchanges,
      record {
        keeps = made.1;
        caught = made.3;
        asks = ext.asks;
        answered_by = answers;
        supply = supply;
        answers = ext.answers;
        is_reply = ext.is_reply;
        room = room;
        most_chunks = most_chunks;
        most_gifts = most_gifts;
        visits = visits ∙ sym (when_true (needs_here p old j step) _ _ is);
        recent = recent ∙ sym (when_true (needs_here p old j step) _ _ is);
        end = ext.end ∙ sym (when_true (needs_here p old j step) _ _ is);
        elsewhere = elsewhere;
      },
    )
