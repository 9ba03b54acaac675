-- What a CPU has of its zones after a step on one of them.
use Rattle.std.proofs.Common.{◌≡◌, ◌≢◌, ℕ, ◌<◌, ◌==◌, Bool, true, false, if◌then◌else◌, List, ◌++◌, length, take, drop, slice_index_or, slice_set, Option, None, Some, refl, ap, sym, ◌∙◌, subst, arith}
use Rattle.std.specs.Option.{unwrap_or}
use Rattle.std.proofs.Math.Seq.{take-append_seam}
use Rattle.std.proofs.lemmas.List.{get_or-set_same, get_or-set_other, length-set}
use Rattle.kz_model.specs.declared.step.Bound.{Bound}
use Rattle.kz_model.specs.declared.step.Step.{Step}
use Rattle.kz_model.specs.Zone.Rules.{name_of, bound_at}
use Rattle.kz_model.specs.Zone.State.{CpuPart, bound_of}
use Rattle.kz_book.specs.Visits.{bound_there, has_name}
use Rattle.kz_cpu.specs.declared.binding.Binding.{Binding}
use Rattle.kz_cpu.specs.Cpu.{Cpu, Cache, Has, IsTagged, IsOnZone, IsElsewhere, no_cache, cache_at, binding_at, bound_in}
use Rattle.kz_cpu.specs.Local.{Brings, bound_by, named_by, tagged, rebound}
use Rattle.kz_cpu.proofs.OnlyItsName.{OnlyNames}

-- ---- one binding

bound_by_tag : (zone : ℕ) (b : Option Binding) → IsTagged zone b → bound_by b ≡ bound_in zone b
bound_by_tag zone None h = refl
bound_by_tag zone (Some binding) h = let same : (binding.zone == zone) ≡ true = grind arith in sym (ap (λ b. if b then Some binding.bound else None) same)

in_tagged : (zone : ℕ) (bound : Option Bound) → bound_in zone (tagged zone bound) ≡ bound
in_tagged zone None = refl
in_tagged zone (Some bound) = let same : (zone == zone) ≡ true = grind arith in ap (λ b. if b then Some bound else None) same

-- a binding of this zone is none of another
none_there : (zone other : ℕ) (b : Option Binding) → other ≢ zone → IsTagged zone b → bound_in other b ≡ None
none_there zone other None ne h = refl
none_there zone other (Some binding) ne h = let differs : (binding.zone == other) ≡ false = grind arith in ap (λ b. if b then Some binding.bound else None) differs

is_tagged : (zone : ℕ) (bound : Option Bound) → IsTagged zone (tagged zone bound)
is_tagged zone None = tt
is_tagged zone (Some bound) = refl

-- a binding of this zone is the one that a step on it makes
pub tagged_again : (zone : ℕ) (b : Option Binding) → IsTagged zone b → tagged zone (bound_by b) ≡ b
tagged_again zone None h = refl
tagged_again zone (Some binding) h = ap (λ (z : ℕ). Some (record { bound = binding.bound; zone = z })) (sym h)

-- ---- all bindings

-- what holds of the new binding of the step's name, and of each other as it was, holds of each
by_binding : (P : Option Binding → Type 0) (zone : ℕ) (step : Step) (bound : Option Bound) (bindings : List (Option Binding)) (name : ℕ) → (has_name step ≡ true → name_of step < length bindings) →
    (has_name step ≡ true → name ≡ name_of step → P (tagged zone bound)) → ((has_name step ≡ true → name ≢ name_of step) → P (slice_index_or bindings name None)) →
    P (slice_index_or (rebound zone step bound bindings) name None)
by_binding P zone step bound bindings name there here others =
    elim (has_name step) as (λ b. has_name step ≡ b → P (slice_index_or (if b then slice_set bindings (name_of step) (tagged zone bound) else bindings) name None)) [
      | false ↦ λ e. others (λ named. absurd (cc))
      | true ↦ λ e.
          elim (name == name_of step) as (λ b. (name == name_of step) ≡ b → P (slice_index_or (slice_set bindings (name_of step) (tagged zone bound)) name None)) [
            | true ↦ λ f.
                let same : name ≡ name_of step = grind arith in
                subst P (sym (ap (λ n. slice_index_or (slice_set bindings (name_of step) (tagged zone bound)) n None) same ∙ get_or-set_same bindings (name_of step) (tagged zone bound) None (there e))) (here e same)
            | false ↦ λ f.
                let ne : name ≢ name_of step = λ same. grind arith in
                subst P (sym (get_or-set_other bindings (name_of step) name (tagged zone bound) None ne)) (others (λ named. ne))
          ] refl
    ] refl

length-rebound : (zone : ℕ) (step : Step) (bound : Option Bound) (bindings : List (Option Binding)) → length (rebound zone step bound bindings) ≡ length bindings
length-rebound zone step bound bindings =
    elim (has_name step) as (λ b. length (if b then slice_set bindings (name_of step) (tagged zone bound) else bindings) ≡ length bindings) [
      | true ↦ length-set bindings (name_of step) (tagged zone bound)
      | false ↦ refl
    ]

-- a step whose name is found has one
pub named : (step : Step) (name : ℕ) → named_by step ≡ Some name → (has_name step ≡ true) × (name ≡ name_of step)
named step name e =
    elim (has_name step) as (λ b. has_name step ≡ b → (if b then Some (name_of step) else None) ≡ Some name → (has_name step ≡ true) × (name ≡ name_of step)) [
      | true ↦ λ has same. (has, ap (λ (o : Option ℕ). unwrap_or o 0) (sym same))
      | false ↦ λ has same. absurd (cc)
    ] refl e

-- the bindings with the one of the step's name written over
pub bindings_written : (zone : ℕ) (step : Step) (b : Option Binding) (bindings : List (Option Binding)) → has_name step ≡ true → IsTagged zone b → slice_set bindings (name_of step) b ≡ rebound zone step (bound_by b) bindings
bindings_written zone step b bindings e t =
    sym (ap (λ (named : Bool). if named then slice_set bindings (name_of step) (tagged zone (bound_by b)) else bindings) e ∙ ap (λ (b : Option Binding). slice_set bindings (name_of step) b) (tagged_again zone b t))

-- the bindings that were written over all of those that there were
pub bindings_now : (zone : ℕ) (step : Step) (bound : Option Bound) (n : ℕ) (old seen new : List (Option Binding)) → n ≡ length old → seen ≡ old → new ≡ rebound zone step bound seen → take n (new ++ drop (length new) old) ≡ rebound zone step bound old
bindings_now zone step bound n old seen new size same is =
    let all : new ≡ rebound zone step bound old = is ∙ ap (λ (bs : List (Option Binding)). rebound zone step bound bs) same in
    let count : n ≡ length new = size ∙ sym (ap length all ∙ length-rebound zone step bound old) in
    ap (λ k. take k (new ++ drop (length new) old)) count ∙ take-append_seam new (drop (length new) old) ∙ all

-- ---- before the step

-- what the CPU brings to it
pub brings : (c : Cpu) (zone : ℕ) (step : Step) (own : CpuPart) (k : Cache) (bound : Option Bound) → IsOnZone c zone step → k ≡ cache_at c zone → bound ≡ (if has_name step then bound_by (binding_at c (name_of step)) else None) → Has c zone own →
    Brings own step k.pair.blocks bound
brings c zone step own k bound on is told h = record {
  is_stack = ap (λ (k : Cache). k.pair.blocks) is ∙ h.stack;
  is_bound = told ∙ by_name (has_name step) refl;
}
  where
    by_name : (b : Bool) → has_name step ≡ b → (if b then bound_by (binding_at c (name_of step)) else None) ≡ (if b then bound_at own step else None)
    by_name false e = refl
    by_name true e = bound_by_tag zone (binding_at c (name_of step)) (on.tagged e) ∙ h.names (name_of step) (on.name e)

-- ---- after the step

pub has_now : (old new : Cpu) (zone : ℕ) (step : Step) (bound : Option Bound) (own now : CpuPart) → IsOnZone old zone step → new.bindings ≡ rebound zone step bound old.bindings → (cache_at new zone).pair.blocks ≡ now.stack → bound ≡ bound_there now step → OnlyNames step own now →
    Has old zone own → Has new zone now
has_now old new zone step bound own now on bindings stack is only h = record {
  stack = stack;
  names = λ name lt.
      let lt' : name < length old.bindings = subst (λ n. name < n) (ap length bindings ∙ length-rebound zone step bound old.bindings) lt in
      subst (λ (bs : List (Option Binding)). bound_in zone (slice_index_or bs name None) ≡ bound_of name now.names) (sym bindings)
      (by_binding (λ b. bound_in zone b ≡ bound_of name now.names) zone step bound old.bindings name on.name
      (λ e same. in_tagged zone bound ∙ is ∙ ap (λ b. if b then bound_at now step else None) e ∙ ap (λ n. bound_of n now.names) (sym same))
      (λ ne. h.names name lt' ∙ sym (only.others name ne)));
}

-- what a step on a zone changes
pub record Changes (old new : Cpu) (zone : ℕ) (step : Step) (bound : Option Bound) (k : Cache) : Type 0 where
  pub cpu : new.cpu ≡ old.cpu
  pub caches : new.caches ≡ slice_set old.caches zone k
  pub bindings : new.bindings ≡ rebound zone step bound old.bindings
  pub params : k.params ≡ (cache_at old zone).params
  pub most_steps : k.most_steps ≡ (cache_at old zone).most_steps
  pub magazine : k.pair.magazine ≡ (cache_at old zone).pair.magazine

pub cache_now : (old new : Cpu) (zone : ℕ) (step : Step) (bound : Option Bound) (k : Cache) → zone < length old.caches → Changes old new zone step bound k → cache_at new zone ≡ k
cache_now old new zone step bound k lt h = ap (λ (caches : List Cache). slice_index_or caches zone no_cache) h.caches ∙ get_or-set_same old.caches zone k no_cache lt

pub elsewhere : (old new : Cpu) (zone : ℕ) (step : Step) (bound : Option Bound) (k : Cache) → IsOnZone old zone step → Changes old new zone step bound k → IsElsewhere old new zone step
elsewhere old new zone step bound k on h =
    let here = cache_now old new zone step bound k on.zone_there h in
    let others : (other : ℕ) → other ≢ zone → cache_at new other ≡ cache_at old other = λ other ne. ap (λ (caches : List Cache). slice_index_or caches other no_cache) h.caches ∙ get_or-set_other old.caches zone other k no_cache ne in
    let names : length new.bindings ≡ length old.bindings = ap length h.bindings ∙ length-rebound zone step bound old.bindings in
    record {
      cpu = h.cpu;
      names = names;
      caches = ap length h.caches ∙ length-set old.caches zone k;
      params = ap (λ (c : Cache). c.params) here ∙ h.params;
      most_steps = ap (λ (c : Cache). c.most_steps) here ∙ h.most_steps;
      magazine = ap (λ (c : Cache). c.pair.magazine) here ∙ h.magazine;
      others = others;
      has = λ other own ne has. record {
        stack = ap (λ (c : Cache). c.pair.blocks) (others other ne) ∙ has.stack;
        names = λ name lt.
            let lt' : name < length old.bindings = subst (λ n. name < n) names lt in
            subst (λ (bs : List (Option Binding)). bound_in other (slice_index_or bs name None) ≡ bound_of name own.names) (sym h.bindings)
            (by_binding (λ b. bound_in other b ≡ bound_of name own.names) zone step bound old.bindings name on.name
            (λ e same. none_there zone other (tagged zone bound) ne (is_tagged zone bound) ∙ sym (none_there zone other (binding_at old (name_of step)) ne (on.tagged e)) ∙ ap (λ n. bound_in other (binding_at old n)) (sym same) ∙ has.names name lt')
            (λ differs. has.names name lt'));
      };
      tags = λ name other only tag.
          subst (λ (bs : List (Option Binding)). IsTagged other (slice_index_or bs name None)) (sym h.bindings)
          (by_binding (λ b. IsTagged other b) zone step bound old.bindings name on.name
          (λ e same. subst (λ z. IsTagged z (tagged zone bound)) (sym (only e same)) (is_tagged zone bound))
          (λ differs. tag));
    }
