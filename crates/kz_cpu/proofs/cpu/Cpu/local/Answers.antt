use Rattle.std.proofs.Common.{◌≡◌, ◌<◌, length, rules, if◌then◌else◌, slice_index_or, slice_set, None, refl, ap, sym, ◌∙◌, subst}
use Rattle.std.proofs.lemmas.List.{get_or_default}
use Rattle.kz_model.specs.Zone.Rules.{name_of}
use Rattle.kz_model.specs.Zone.State.{CpuPart}
use Rattle.kz_cpu.specs.Cpu.{Cpu, Cache, Has, IsElsewhere, IsOnZone, IsTagged, binding_at}
use Rattle.kz_cpu.specs.Local.{bound_by}
use Rattle.kz_cpu.specs.OwnReply.{reply_meant}
use Rattle.kz_cpu.proofs.Bindings.{Changes, bindings_written, elsewhere, named}
use Rattle.kz_cpu.proofs.Steps.{Took, IsLocal, cache_of, is_local}
use Rattle.kz_cpu.proofs.cpu.Cpu.local.Goals as goal

pub returns : goal.returns
returns c =
    let zone = c.args.zone in
    let step = c.args.step.now in
    let name = c.in_ok-name.name in
    let old : Cpu = record { cpu = c.self.inside.cpu; caches = c.self.inside.caches.items; bindings = c.self.inside.bindings.items } in
    let k = c.index_mut.result.now in
    let after = c.local.new.self in
    let before = c.index_mut-binding.result.now in
    let now = c.local.new.binding in
    let new : Cpu = record old { caches = slice_set old.caches zone after; bindings = slice_set old.bindings name now } in
    let on : IsOnZone old zone step = subst (λ (o : Cpu). IsOnZone o zone step) (sym c.self.view_is) c.requires.here in
    let is_name = named step name (sym c.name_of.ensures ∙ c.in_ok-name.was) in
    let lt : name < length old.bindings = subst (λ n. n < length old.bindings) (sym is_name.1) (on.name is_name.0) in
    let is : before ≡ binding_at old (name_of step) = c.index_mut-binding.ensures.value ∙ get_or_default old.bindings name before None lt ∙ ap (λ n. slice_index_or old.bindings n None) is_name.1 in
    let t : Took old zone step k (bound_by before) = record {
      on = on;
      is = cache_of old.caches zone k on.zone_there c.index_mut.ensures.value;
      told = ap bound_by is ∙ sym (ap (λ b. if b then bound_by (binding_at old (name_of step)) else None) is_name.0);
    } in
    let tag : IsTagged zone now = c.in_ok-own.ensures.tagged (subst (λ b. IsTagged zone b) (sym is) (on.tagged is_name.0)) in
    let kept = c.in_ok-own.ensures.kept in
    let ch : Changes old new zone step (bound_by now) after = record {
      cpu = refl;
      caches = refl;
      bindings = ap (λ n. slice_set old.bindings n now) is_name.1 ∙ bindings_written zone step now old.bindings is_name.0 tag;
      params = ap (λ (n : Cache). n.params) kept ∙ ap (λ (n : Cache). n.params) t.is;
      most_steps = ap (λ (n : Cache). n.most_steps) kept ∙ ap (λ (n : Cache). n.most_steps) t.is;
      magazine = c.in_ok-own.ensures.magazine ∙ ap (λ (n : Cache). n.pair.magazine) t.is;
    } in
    let F : Cpu → Type 0 = λ o. ((own : CpuPart) → Has o zone own → IsLocal o new zone step (reply_meant c.in_ok-own.own) own) × IsElsewhere o new zone step in
    let all : F old = (λ own h. is_local old new zone step k after (bound_by before) (bound_by now) (reply_meant c.in_ok-own.own) own t c.in_ok-own.ensures.answers ch h, elsewhere old new zone step (bound_by now) after on ch) in
    let made = subst F c.self.view_is all in
    record {
      needs = λ own h. (made.0 own h).needs;
      none = search rules;
      reply = λ own h. c.reply.ensures ∙ (made.0 own h).is_reply;
      has = λ own h. (made.0 own h).has;
      recent = search rules;
      elsewhere = made.1;
      knows = search rules;
    }
