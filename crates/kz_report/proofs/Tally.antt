-- The numbers by type are those of the lines.
use Rattle.std.proofs.Common.{◌≡◌, ◌≢◌, ℕ, zero, suc, ◌+◌, ◌-◌, ◌<◌, ◌≤◌, ◌==◌, nat_lt, Bool, true, false, if◌then◌else◌, List, [], ◌∷◌, ◌++◌, length, drop, replicate, min, slice_index_or, slice_set, Option, None, Some, All, refl, ap, sym, ◌∙◌, subst, arith}
use Rattle.std.specs.List.{count_by, flat_map, range_with_len}
use Rattle.std.specs.Option.{option_map_or}
use Rattle.std.proofs.Math.Seq.{drop-cons}
use Rattle.std.proofs.lemmas.List.{get_or-set_same, get_or-set_other, length-set, get_or_past, get_or-replicate, length-replicate}
use Rattle.std.proofs.lemmas.List.Elements.{All-set, All-get_or, All-weaker}
use Rattle.std.proofs.lemmas.List.Sums.{sum_by-cons, sum_by-append}
use Rattle.kz_model.specs.Store.Replies.{no_reply}
use Rattle.kz_model.specs.declared.bundle.Bundle.{Bundle}
use Rattle.kz_model.specs.declared.bundle.Act.{Act}
use Rattle.kz_model.specs.declared.bundle.TraceStep.{TraceStep}
use Rattle.kz_model.specs.declared.record.Plan.{Plan}
use Rattle.kz_model.specs.declared.step.Reply.{Reply}
use Rattle.kz_model.specs.Run.Journal.{addressed, trace_of}
use Rattle.kz_model.specs.Text.Report.{Answered, type_given, type_freed, is_alloc_of, is_free_of, use_line, no_type}
use Rattle.kz_model.specs.Run.Journal.{no_step}
use Rattle.kz_report.specs.declared.uses.Uses.{Uses}
use Rattle.kz_report.specs.Lines.{said}
use Rattle.kz_report.specs.Uses.{no_uses, one_given, one_freed, changed_at, counted, counted_all, counted_cpus, AreFew, use_text}

-- ---- one line

length-changed : (change : Uses → Uses) (o : Option ℕ) (uses : List Uses) → length (changed_at change o uses) ≡ length uses
length-changed change None uses = refl
length-changed change (Some t) uses = length-set uses t (change (slice_index_or uses t no_uses))

changed-get : (change : Uses → Uses) (o : Option ℕ) (uses : List Uses) (of : ℕ) → of < length uses →
    slice_index_or (changed_at change o uses) of no_uses ≡ (if option_map_or (λ t. t == of) o false then change (slice_index_or uses of no_uses) else slice_index_or uses of no_uses)
changed-get change None uses of lt = refl
changed-get change (Some t) uses of lt =
    let here = slice_index_or uses of no_uses in
    elim (t == of) as (λ b. (t == of) ≡ b → slice_index_or (slice_set uses t (change (slice_index_or uses t no_uses))) of no_uses ≡ (if b then change here else here)) [
      | true ↦ λ e.
          let same : t ≡ of = grind arith in
          ap (λ t. slice_index_or (slice_set uses t (change (slice_index_or uses t no_uses))) of no_uses) same ∙ get_or-set_same uses of (change here) no_uses lt
      | false ↦ λ e.
          let ne : of ≢ t = grind arith in
          get_or-set_other uses t of (change (slice_index_or uses t no_uses)) no_uses ne
    ] refl

-- so many more of each
abbrev plus : Uses → ℕ → ℕ → Uses
plus u allocs frees = record { allocs = u.allocs + allocs; frees = u.frees + frees }

plus_is : (u : Uses) (a f m n : ℕ) → a ≡ u.allocs + m → f ≡ u.frees + n → record { allocs = a; frees = f } ≡ plus u m n
plus_is u a f m n e g = ap (λ a. record { allocs = a; frees = f }) e ∙ ap (λ f. record { allocs = u.allocs + m; frees = f }) g

by_tests : (u : Uses) (g f : Bool) → (if f then one_freed (if g then one_given u else u) else (if g then one_given u else u)) ≡ plus u (if g then 1 else 0) (if f then 1 else 0)
by_tests u true true = refl
by_tests u true false = plus_is u (u.allocs + 1) u.frees 1 0 refl (omega arith)
by_tests u false true = plus_is u u.allocs (u.frees + 1) 0 1 (omega arith) refl
by_tests u false false = plus_is u u.allocs u.frees 0 0 (omega arith) (omega arith)

length-counted : (b : Bundle) (a : Act) (r : Reply) (uses : List Uses) → length (counted b a r uses) ≡ length uses
length-counted b a r uses = length-changed one_freed (type_freed b a r) (changed_at one_given (type_given b a r) uses) ∙ length-changed one_given (type_given b a r) uses

counted-get : (b : Bundle) (a : Act) (r : Reply) (zone : ℕ) (uses : List Uses) (of : ℕ) → of < length uses →
    let line : Answered = record { act = a; zone = zone; reply = r } in
    slice_index_or (counted b a r uses) of no_uses ≡ plus (slice_index_or uses of no_uses) (if is_alloc_of b of line then 1 else 0) (if is_free_of b of line then 1 else 0)
counted-get b a r zone uses of lt =
    let here = slice_index_or uses of no_uses in
    let g = option_map_or (λ t. t == of) (type_given b a r) false in
    let f = option_map_or (λ t. t == of) (type_freed b a r) false in
    changed-get one_freed (type_freed b a r) (changed_at one_given (type_given b a r) uses) of (omega (arith, length-changed one_given (type_given b a r) uses))
    ∙ ap (λ (u : Uses). if f then one_freed u else u) (changed-get one_given (type_given b a r) uses of lt)
    ∙ by_tests here g f

-- ---- all lines

pub length-counted_all : (b : Bundle) (lines : List TraceStep) (replies : List Reply) (uses : List Uses) → length (counted_all b lines replies uses) ≡ length uses
length-counted_all b [] replies uses = refl
length-counted_all b (line ∷ lines) [] uses = refl
length-counted_all b (line ∷ lines) (r ∷ replies) uses = length-counted_all b lines replies (counted b line.act r uses) ∙ length-counted b line.act r uses

counted_all-get : (b : Bundle) (plan : Plan) (lines : List TraceStep) (replies : List Reply) (uses : List Uses) (of : ℕ) → of < length uses →
    slice_index_or (counted_all b lines replies uses) of no_uses ≡ plus (slice_index_or uses of no_uses) (count_by (is_alloc_of b of) (said b plan lines replies)) (count_by (is_free_of b of) (said b plan lines replies))
counted_all-get b plan [] replies uses of lt = let u = slice_index_or uses of no_uses in plus_is u u.allocs u.frees 0 0 (omega arith) (omega arith)
counted_all-get b plan (line ∷ lines) [] uses of lt = let u = slice_index_or uses of no_uses in plus_is u u.allocs u.frees 0 0 (omega arith) (omega arith)
counted_all-get b plan (line ∷ lines) (r ∷ replies) uses of lt =
    let zone = (addressed b plan line.act).0 in
    let first : Answered = record { act = line.act; zone = zone; reply = r } in
    let others = said b plan lines replies in
    let u = slice_index_or uses of no_uses in
    let allocs : Answered → ℕ = λ line. if is_alloc_of b of line then 1 else 0 in
    let frees : Answered → ℕ = λ line. if is_free_of b of line then 1 else 0 in
    counted_all-get b plan lines replies (counted b line.act r uses) of (omega (arith, length-counted b line.act r uses))
    ∙ ap (λ (u : Uses). plus u (count_by (is_alloc_of b of) others) (count_by (is_free_of b of) others)) (counted-get b line.act r zone uses of lt)
    ∙ plus_is u (u.allocs + allocs first + count_by (is_alloc_of b of) others) (u.frees + frees first + count_by (is_free_of b of) others) (count_by (is_alloc_of b of) (first ∷ others)) (count_by (is_free_of b of) (first ∷ others))
    (omega (arith, sum_by-cons allocs first others)) (omega (arith, sum_by-cons frees first others))

pub length-counted_cpus : (b : Bundle) (replies : List (List Reply)) (n cpu : ℕ) (uses : List Uses) → length (counted_cpus b replies cpu n uses) ≡ length uses
length-counted_cpus b replies zero cpu uses = refl
length-counted_cpus b replies (suc n) cpu uses =
    length-counted_cpus b replies n (cpu + 1) (counted_all b (trace_of b cpu) (slice_index_or replies cpu []) uses)
    ∙ length-counted_all b (trace_of b cpu) (slice_index_or replies cpu []) uses

-- the numbers after the lines of these CPUs
pub counted_cpus-get : (b : Bundle) (plan : Plan) (replies : List (List Reply)) (lines : ℕ → List Answered) (n cpu : ℕ) (uses : List Uses) (of : ℕ) → of < length uses →
    ((k : ℕ) → k < cpu + n → said b plan (trace_of b k) (slice_index_or replies k []) ≡ lines k) →
    slice_index_or (counted_cpus b replies cpu n uses) of no_uses
    ≡ plus (slice_index_or uses of no_uses) (count_by (is_alloc_of b of) (flat_map lines (range_with_len cpu n))) (count_by (is_free_of b of) (flat_map lines (range_with_len cpu n)))
counted_cpus-get b plan replies lines zero cpu uses of lt are = let u = slice_index_or uses of no_uses in plus_is u u.allocs u.frees 0 0 (omega arith) (omega arith)
counted_cpus-get b plan replies lines (suc n) cpu uses of lt are =
    let here = said b plan (trace_of b cpu) (slice_index_or replies cpu []) in
    let next = counted_all b (trace_of b cpu) (slice_index_or replies cpu []) uses in
    let others = flat_map lines (range_with_len (cpu + 1) n) in
    let u = slice_index_or uses of no_uses in
    let allocs : Answered → ℕ = λ line. if is_alloc_of b of line then 1 else 0 in
    let frees : Answered → ℕ = λ line. if is_free_of b of line then 1 else 0 in
    counted_cpus-get b plan replies lines n (cpu + 1) next of (omega (arith, length-counted_all b (trace_of b cpu) (slice_index_or replies cpu []) uses)) (λ k below. are k (omega arith))
    ∙ ap (λ (u : Uses). plus u (count_by (is_alloc_of b of) others) (count_by (is_free_of b of) others)) (counted_all-get b plan (trace_of b cpu) (slice_index_or replies cpu []) uses of lt)
    ∙ plus_is u (u.allocs + count_by (is_alloc_of b of) here + count_by (is_alloc_of b of) others) (u.frees + count_by (is_free_of b of) here + count_by (is_free_of b of) others) (count_by (is_alloc_of b of) (here ++ others)) (count_by (is_free_of b of) (here ++ others))
    (omega (arith, sum_by-append allocs here others)) (omega (arith, sum_by-append frees here others))
    ∙ ap (λ (here : List Answered). plus u (count_by (is_alloc_of b of) (here ++ others)) (count_by (is_free_of b of) (here ++ others))) (are cpu (omega arith))

-- a type's line
pub use_is : (b : Bundle) (plan : Plan) (replies : List (List Reply)) (lines : ℕ → List Answered) (cpus types of : ℕ) (name : List ℕ) (uses : List Uses) (u : Uses) → of < types →
    uses ≡ counted_cpus b replies 0 cpus (replicate types no_uses) → u ≡ slice_index_or uses of u → name ≡ (slice_index_or b.types of no_type).name →
    ((k : ℕ) → k < cpus → said b plan (trace_of b k) (slice_index_or replies k []) ≡ lines k) →
    use_text name u ≡ use_line b (flat_map lines (range_with_len 0 cpus)) of
use_is b plan replies lines cpus types of name uses u lt made here is_name are =
    let all = flat_map lines (range_with_len 0 cpus) in
    let nothing : List Uses = replicate types no_uses in
    let long : length nothing ≡ types = length-replicate types no_uses in
    let within : of < length uses = omega (arith, ap (λ (uses : List Uses). length uses) made, length-counted_cpus b replies cpus 0 nothing, long) in
    let zero_there : slice_index_or nothing of no_uses ≡ no_uses = get_or-replicate types of no_uses no_uses lt in
    let there : u ≡ plus no_uses (count_by (is_alloc_of b of) all) (count_by (is_free_of b of) all) =
    here ∙ other_default uses of u within ∙ ap (λ (uses : List Uses). slice_index_or uses of no_uses) made
    ∙ counted_cpus-get b plan replies lines cpus 0 nothing of (omega (arith, long)) (λ k below. are k (omega arith))
    ∙ ap (λ (z : Uses). plus z (count_by (is_alloc_of b of) all) (count_by (is_free_of b of) all)) zero_there in
    ap (λ name. use_text name u) is_name
    ∙ ap (use_text (slice_index_or b.types of no_type).name) (there ∙ bare (count_by (is_alloc_of b of) all) (count_by (is_free_of b of) all))
  where
    bare : (m n : ℕ) → plus no_uses m n ≡ record { allocs = m; frees = n }
    bare m n = let a : 0 + m ≡ m = omega arith in let f : 0 + n ≡ n = omega arith in ap (λ x. record { allocs = x; frees = 0 + n }) a ∙ ap (λ x. record { allocs = m; frees = x }) f

    other_default : (uses : List Uses) (i : ℕ) (d : Uses) → i < length uses → slice_index_or uses i d ≡ slice_index_or uses i no_uses
    other_default [] i d lt = absurd (omega arith)
    other_default (x ∷ uses) zero d lt = refl
    other_default (x ∷ uses) (suc i) d lt = other_default uses i d (omega arith)

-- ---- bounds

-- no number of blocks given is above the first, and no number freed above the second
abbrev AreWithin : ℕ → ℕ → List Uses → Type 0
AreWithin a f uses = All (λ u. (u.allocs ≤ a) × (u.frees ≤ f)) uses

more_given : (a f : ℕ) (uses : List Uses) → AreWithin a f uses → AreWithin (a + 1) f uses
more_given a f uses few = All-weaker (λ (u : Uses). (u.allocs ≤ a) × (u.frees ≤ f)) (λ (u : Uses). (u.allocs ≤ a + 1) × (u.frees ≤ f)) (λ u h. (omega (arith, h.0), h.1)) uses few

given_within : (a f : ℕ) (o : Option ℕ) (uses : List Uses) → AreWithin a f uses → AreWithin (a + 1) f (changed_at one_given o uses)
given_within a f None uses few = more_given a f uses few
given_within a f (Some t) uses few =
    elim (nat_lt t (length uses)) as (λ b. nat_lt t (length uses) ≡ b → AreWithin (a + 1) f (changed_at one_given (Some t) uses)) [
      | true ↦ λ e.
          let lt : t < length uses = grind arith in
          let here = All-get_or (λ (u : Uses). (u.allocs ≤ a) × (u.frees ≤ f)) uses t no_uses lt few in
          All-set (λ (u : Uses). (u.allocs ≤ a + 1) × (u.frees ≤ f)) uses t (one_given (slice_index_or uses t no_uses)) (omega (arith, here.0), here.1) (more_given a f uses few)
      | false ↦ λ e.
          let past : length uses ≤ t = grind arith in
          let none : slice_index_or uses t no_uses ≡ no_uses = get_or_past uses t no_uses past in
          All-set (λ (u : Uses). (u.allocs ≤ a + 1) × (u.frees ≤ f)) uses t (one_given (slice_index_or uses t no_uses)) (omega (arith, ap (λ (u : Uses). u.allocs) none), omega (arith, ap (λ (u : Uses). u.frees) none)) (more_given a f uses few)
    ] refl

more_freed : (a f : ℕ) (uses : List Uses) → AreWithin a f uses → AreWithin a (f + 1) uses
more_freed a f uses few = All-weaker (λ (u : Uses). (u.allocs ≤ a) × (u.frees ≤ f)) (λ (u : Uses). (u.allocs ≤ a) × (u.frees ≤ f + 1)) (λ u h. (h.0, omega (arith, h.1))) uses few

freed_within : (a f : ℕ) (o : Option ℕ) (uses : List Uses) → AreWithin a f uses → AreWithin a (f + 1) (changed_at one_freed o uses)
freed_within a f None uses few = more_freed a f uses few
freed_within a f (Some t) uses few =
    elim (nat_lt t (length uses)) as (λ b. nat_lt t (length uses) ≡ b → AreWithin a (f + 1) (changed_at one_freed (Some t) uses)) [
      | true ↦ λ e.
          let lt : t < length uses = grind arith in
          let here = All-get_or (λ (u : Uses). (u.allocs ≤ a) × (u.frees ≤ f)) uses t no_uses lt few in
          All-set (λ (u : Uses). (u.allocs ≤ a) × (u.frees ≤ f + 1)) uses t (one_freed (slice_index_or uses t no_uses)) (here.0, omega (arith, here.1)) (more_freed a f uses few)
      | false ↦ λ e.
          let past : length uses ≤ t = grind arith in
          let none : slice_index_or uses t no_uses ≡ no_uses = get_or_past uses t no_uses past in
          All-set (λ (u : Uses). (u.allocs ≤ a) × (u.frees ≤ f + 1)) uses t (one_freed (slice_index_or uses t no_uses)) (omega (arith, ap (λ (u : Uses). u.allocs) none), omega (arith, ap (λ (u : Uses). u.frees) none)) (more_freed a f uses few)
    ] refl

pub counted_few : (b : Bundle) (a : Act) (r : Reply) (most : ℕ) (uses : List Uses) → AreFew most uses → AreFew (most + 1) (counted b a r uses)
counted_few b a r most uses few = freed_within (most + 1) most (type_freed b a r) (changed_at one_given (type_given b a r) uses) (given_within most most (type_given b a r) uses few)

pub fewer : (most more : ℕ) (uses : List Uses) → most ≤ more → AreFew most uses → AreFew more uses
fewer most more uses le few = All-weaker (λ (u : Uses). (u.allocs ≤ most) × (u.frees ≤ most)) (λ (u : Uses). (u.allocs ≤ more) × (u.frees ≤ more)) (λ u h. (omega (arith, h.0), omega (arith, h.1))) uses few

pub counted_all_few : (b : Bundle) (lines : List TraceStep) (replies : List Reply) (most : ℕ) (uses : List Uses) → AreFew most uses → AreFew (most + length lines) (counted_all b lines replies uses)
counted_all_few b [] replies most uses few = fewer most (most + 0) uses (omega arith) few
counted_all_few b (line ∷ lines) [] most uses few = fewer most (most + length (line ∷ lines)) uses (omega arith) few
counted_all_few b (line ∷ lines) (r ∷ replies) most uses few =
    fewer (most + 1 + length lines) (most + length (line ∷ lines)) (counted_all b (line ∷ lines) (r ∷ replies) uses) (omega arith)
    (counted_all_few b lines replies (most + 1) (counted b line.act r uses) (counted_few b line.act r most uses few))

-- ---- what is left to count

pub count_on : (b : Bundle) (trace : List TraceStep) (replies : List Reply) (at : ℕ) (d : Reply) (uses : List Uses) → at < length trace → at < length replies →
    counted_all b (drop at trace) (drop at replies) uses ≡ counted_all b (drop (at + 1) trace) (drop (at + 1) replies) (counted b (slice_index_or trace at no_step).act (slice_index_or replies at d) uses)
count_on b trace replies at d uses lt below =
    let next : suc at ≡ at + 1 = omega arith in
    ap (λ (lines : List TraceStep). counted_all b lines (drop at replies) uses) (drop-cons trace at no_step lt)
    ∙ ap (λ (rs : List Reply). counted_all b (slice_index_or trace at no_step ∷ drop (suc at) trace) rs uses) (drop-cons replies at d below)
    ∙ ap (λ k. counted_all b (drop k trace) (drop k replies) (counted b (slice_index_or trace at no_step).act (slice_index_or replies at d) uses)) next

pub count_past : (b : Bundle) (trace : List TraceStep) (replies : List Reply) (at : ℕ) (uses : List Uses) → min (length trace) (length replies) ≤ at → counted_all b (drop at trace) (drop at replies) uses ≡ uses
count_past b [] replies at uses past = elim at as (λ at. counted_all b (drop at []) (drop at replies) uses ≡ uses) [ zero ↦ refl | suc at ↦ refl ]
count_past b (line ∷ trace) [] zero uses past = refl
count_past b (line ∷ trace) [] (suc at) uses past = by_lines (drop at trace)
  where
    by_lines : (lines : List TraceStep) → counted_all b lines [] uses ≡ uses
    by_lines [] = refl
    by_lines (line ∷ lines) = refl
count_past b (line ∷ trace) (r ∷ replies) zero uses past = absurd (omega arith)
count_past b (line ∷ trace) (r ∷ replies) (suc at) uses past = count_past b trace replies at uses (omega arith)

-- one line on
pub counted_on : (b : Bundle) (trace : List TraceStep) (replies : List Reply) (at : ℕ) (step : TraceStep) (r : Reply) (uses new whole : List Uses) → at < length trace → at < length replies →
    step ≡ slice_index_or trace at no_step → r ≡ slice_index_or replies at no_reply → counted_all b (drop at trace) (drop at replies) uses ≡ whole → new ≡ counted b step.act r uses →
    counted_all b (drop (at + 1) trace) (drop (at + 1) replies) new ≡ whole
counted_on b trace replies at step r uses new whole lt below is_step is_reply before made =
    ap (counted_all b (drop (at + 1) trace) (drop (at + 1) replies)) (made ∙ ap (λ (step : TraceStep). counted b step.act r uses) is_step ∙ ap (λ (r : Reply). counted b (slice_index_or trace at no_step).act r uses) is_reply)
    ∙ sym (count_on b trace replies at no_reply uses lt below)
    ∙ before

pub few_on : (b : Bundle) (a : Act) (r : Reply) (most more : ℕ) (uses new : List Uses) → most + 1 ≤ more → AreFew most uses → new ≡ counted b a r uses → AreFew more new
few_on b a r most more uses new le few made = subst (AreFew more) (sym made) (fewer (most + 1) more (counted b a r uses) le (counted_few b a r most uses few))

-- one CPU on
pub cpu_on : (b : Bundle) (replies : List (List Reply)) (cpu cpus : ℕ) (trace : List TraceStep) (said : List Reply) (uses new whole : List Uses) → cpu < cpus → trace ≡ trace_of b cpu → said ≡ slice_index_or replies cpu [] →
    counted_cpus b replies cpu (cpus - cpu) uses ≡ whole → new ≡ counted_all b trace said uses → counted_cpus b replies (cpu + 1) (cpus - (cpu + 1)) new ≡ whole
cpu_on b replies cpu cpus trace said uses new whole lt is_trace is_said before made =
    let left : cpus - cpu ≡ suc (cpus - (cpu + 1)) = omega arith in
    ap (counted_cpus b replies (cpu + 1) (cpus - (cpu + 1))) (made ∙ ap (λ (trace : List TraceStep). counted_all b trace said uses) is_trace ∙ ap (λ (said : List Reply). counted_all b (trace_of b cpu) said uses) is_said)
    ∙ ap (λ n. counted_cpus b replies cpu n uses) (sym left)
    ∙ before

pub cpu_few : (b : Bundle) (trace : List TraceStep) (said : List Reply) (most more : ℕ) (uses new : List Uses) → most + length trace ≤ more → AreFew most uses → new ≡ counted_all b trace said uses → AreFew more new
cpu_few b trace said most more uses new le few made = subst (AreFew more) (sym made) (fewer (most + length trace) more (counted_all b trace said uses) le (counted_all_few b trace said most uses few))

pub uses_long : (b : Bundle) (replies : List (List Reply)) (cpus types : ℕ) (uses : List Uses) → uses ≡ counted_cpus b replies 0 cpus (replicate types no_uses) → length uses ≡ types
uses_long b replies cpus types uses made = ap (λ (uses : List Uses). length uses) made ∙ length-counted_cpus b replies cpus 0 (replicate types no_uses) ∙ length-replicate types no_uses
