-- Blocks in a row as lists, with one more list at the end and with the last one cut.
use Rattle.std.proofs.Common.{◌≡◌, ℕ, ◌+◌, ◌-◌, ◌≤◌, ◌<◌, List, [], ◌∷◌, ◌++◌, length, take, drop, refl, ap, sym, ◌∙◌, arith, length-drop, length-take, length-append, true, false, nat_lt, if◌then◌else◌}
use Rattle.std.specs.List.{sum}
use Rattle.std.proofs.lemmas.List.{take_at, take-append-le, drop-append-le, take_all, take-append-drop, append-nil, get_or_push}
use Rattle.std.proofs.lemmas.List.Sums.{sum_by-cons, sum_by_push}
use Rattle.kz_model.specs.declared.step.Block.{Block}
use Rattle.kz_model.specs.Zone.Rules.{newest, below_newest, last_list, before_last_list}
use Rattle.kz_zone.specs.Depot.{Depot as Seen, lists_of, row_of, drained, with_rest}

sum-cons : (n : ℕ) (ns : List ℕ) → sum (n ∷ ns) ≡ n + sum ns
sum-cons n ns = sum_by-cons (λ (x : ℕ). x) n ns

pub sum-push : (ns : List ℕ) (n : ℕ) → sum (ns ++ n ∷ []) ≡ sum ns + n
sum-push ns n = sum_by_push (λ (x : ℕ). x) ns n

pub length-lists_of : (lengths : List ℕ) (blocks : List Block) → length (lists_of lengths blocks) ≡ length lengths
length-lists_of [] blocks = refl
length-lists_of (n ∷ lengths) blocks = omega (arith, length-lists_of lengths (drop n blocks))

-- one more list
pub lists_of-push : (lengths : List ℕ) (n : ℕ) (blocks more : List Block) → length blocks ≡ sum lengths → length more ≡ n → lists_of (lengths ++ n ∷ []) (blocks ++ more) ≡ lists_of lengths blocks ++ more ∷ []
lists_of-push [] n [] more e l = ap (λ (xs : List Block). xs ∷ []) (take_all n more (omega arith))
lists_of-push [] n (b ∷ blocks) more e l = absurd (omega arith)
lists_of-push (m ∷ lengths) n blocks more e l =
    let within : m ≤ length blocks = omega (arith, sum-cons m lengths) in
    let rest : length (drop m blocks) ≡ sum lengths = omega (arith, sum-cons m lengths, length-drop m blocks) in
    rw (take-append-le m blocks more within, drop-append-le m blocks more within) (ap (λ (xs : List (List Block)). take m blocks ∷ xs) (lists_of-push lengths n (drop m blocks) more rest l))

-- the last list is what stands behind the others
pub lists_of_last : (lengths : List ℕ) (n at : ℕ) (blocks : List Block) → length blocks ≡ sum lengths + n → at ≡ sum lengths → lists_of (lengths ++ n ∷ []) blocks ≡ lists_of lengths (take at blocks) ++ drop at blocks ∷ []
lists_of_last lengths n at blocks e is =
    let front : length (take at blocks) ≡ sum lengths = omega (arith, length-take at blocks) in
    let rest : length (drop at blocks) ≡ n = omega (arith, length-drop at blocks) in
    ap (lists_of (lengths ++ n ∷ [])) (sym (take-append-drop at blocks)) ∙ lists_of-push lengths n (take at blocks) (drop at blocks) front rest

-- the row of the lists
pub row-lists_of : (lengths : List ℕ) (blocks : List Block) → length blocks ≡ sum lengths → row_of (lists_of lengths blocks) ≡ blocks
row-lists_of [] [] e = refl
row-lists_of [] (b ∷ blocks) e = absurd (omega arith)
row-lists_of (n ∷ lengths) blocks e =
    let rest : length (drop n blocks) ≡ sum lengths = omega (arith, sum-cons n lengths, length-drop n blocks) in
    ap (λ (xs : List Block). take n blocks ++ xs) (row-lists_of lengths (drop n blocks) rest) ∙ take-append-drop n blocks

-- ---- the last of lists

pub last_list-push : (lists : List (List Block)) (blocks : List Block) → last_list (lists ++ blocks ∷ []) ≡ blocks
last_list-push lists blocks =
    let place : length lists ≡ length (lists ++ blocks ∷ []) - 1 = omega (arith, length-append lists (blocks ∷ [])) in
    get_or_push lists blocks [] (length (lists ++ blocks ∷ []) - 1) place

pub before_last_list-push : (lists : List (List Block)) (blocks : List Block) → before_last_list (lists ++ blocks ∷ []) ≡ lists
before_last_list-push lists blocks =
    let place : length lists ≡ length (lists ++ blocks ∷ []) - 1 = omega (arith, length-append lists (blocks ∷ [])) in
    take_at lists (blocks ∷ []) (length (lists ++ blocks ∷ []) - 1) place

-- the lists with the last one cut
pub drained-push : (lists : List (List Block)) (blocks : List Block) → drained (lists ++ blocks ∷ []) ≡ lists ++ (if nat_lt 1 (length blocks) then below_newest blocks ∷ [] else [])
drained-push lists blocks =
    ap (λ xs. xs ++ (if nat_lt 1 (length (last_list (lists ++ blocks ∷ []))) then below_newest (last_list (lists ++ blocks ∷ [])) ∷ [] else [])) (before_last_list-push lists blocks)
    ∙ ap (λ bs. lists ++ (if nat_lt 1 (length bs) then below_newest bs ∷ [] else [])) (last_list-push lists blocks)

-- a depot's lists, where the length of the last is cut off
pub ends_in : (z : Seen) (magazine room at n : ℕ) (lengths before : List ℕ) (blocks : List Block) → let d : Seen = record { magazine = magazine; room = room; lists = lists_of lengths blocks } in d ≡ z → lengths ≡ before ++ n ∷ [] → length blocks ≡ sum lengths → at ≡ length blocks - n →
    z.lists ≡ lists_of before (take at blocks) ++ drop at blocks ∷ []
ends_in z magazine room at n lengths before blocks is cut whole begins =
    let size : sum lengths ≡ sum before + n = ap sum cut ∙ sum-push before n in
    ap (λ (z : Seen). z.lists) (sym is) ∙ ap (λ ns. lists_of ns blocks) cut ∙ lists_of_last before n at blocks (whole ∙ size) (omega (arith, whole, size, begins))

pub front_length : (at n : ℕ) (lengths before : List ℕ) (blocks : List Block) → lengths ≡ before ++ n ∷ [] → length blocks ≡ sum lengths → at ≡ length blocks - n → at ≡ sum before
front_length at n lengths before blocks cut whole begins = omega (arith, whole, ap sum cut, sum-push before n, begins)

-- ---- the last block goes

newest-push : (blocks : List Block) (block : Block) → newest (blocks ++ block ∷ []) ≡ block
newest-push blocks block =
    let place : length blocks ≡ length (blocks ++ block ∷ []) - 1 = omega (arith, length-append blocks (block ∷ [])) in
    get_or_push blocks block (record { chunk = 0; index = 0 }) (length (blocks ++ block ∷ []) - 1) place

below_newest-push : (blocks : List Block) (block : Block) → below_newest (blocks ++ block ∷ []) ≡ blocks
below_newest-push blocks block =
    let place : length blocks ≡ length (blocks ++ block ∷ []) - 1 = omega (arith, length-append blocks (block ∷ [])) in
    take_at blocks (block ∷ []) (length (blocks ++ block ∷ []) - 1) place

-- a depot whose last block was taken out
pub record Drains (z : Seen) (block : Block) (after : List ℕ) (rest : List Block) : Type 0 where
  pub last : block ≡ newest (last_list z.lists)
  pub left : lists_of after rest ≡ drained z.lists
  pub row : row_of z.lists ≡ row_of (lists_of after rest) ++ block ∷ []
  pub whole : length rest ≡ sum after

pub drains : (z : Seen) (magazine room n at : ℕ) (lengths before after : List ℕ) (blocks rest : List Block) (block : Block) → let d : Seen = record { magazine = magazine; room = room; lists = lists_of lengths blocks } in d ≡ z → lengths ≡ before ++ n ∷ [] → length blocks ≡ sum lengths → 0 < n → at ≡ length blocks - n →
    blocks ≡ rest ++ block ∷ [] → after ≡ with_rest before (n - 1) → Drains z block after rest
drains z magazine room n at lengths before after blocks rest block is cut whole some begins pop_effect left =
    let size : length blocks ≡ length rest + 1 = ap length pop_effect ∙ length-append rest (block ∷ []) in
    let front : at ≡ sum before = front_length at n lengths before blocks cut whole begins in
    let within : at ≤ length rest = omega (arith, size, some, begins) in
    let last : drop at blocks ≡ drop at rest ++ block ∷ [] = ap (drop at) pop_effect ∙ drop-append-le at rest (block ∷ []) within in
    let others : take at blocks ≡ take at rest = ap (take at) pop_effect ∙ take-append-le at rest (block ∷ []) within in
    let ends : z.lists ≡ lists_of before (take at rest) ++ (drop at rest ++ block ∷ []) ∷ [] = ends_in z magazine room at n lengths before blocks is cut whole begins ∙ (λ i. lists_of before (others i) ++ last i ∷ []) in
    let long : length (drop at rest ++ block ∷ []) ≡ n = omega (arith, length-append (drop at rest) (block ∷ []), length-drop at rest, size, whole, ap sum cut, sum-push before n, begins) in
    let kept = by_rest front within (omega (arith, size, whole, ap sum cut, sum-push before n, front)) in
    record {
      last = sym (ap (λ xs. newest (last_list xs)) ends ∙ ap newest (last_list-push (lists_of before (take at rest)) (drop at rest ++ block ∷ [])) ∙ newest-push (drop at rest) block);
      left = kept.0 ∙ sym (ap drained ends ∙ drained-push (lists_of before (take at rest)) (drop at rest ++ block ∷ []) ∙ (λ i. lists_of before (take at rest) ++ (if nat_lt 1 (long i) then below_newest-push (drop at rest) block i ∷ [] else [])));
      row = ap (λ (z : Seen). row_of z.lists) (sym is) ∙ row-lists_of lengths blocks whole ∙ pop_effect ∙ ap (λ xs. xs ++ block ∷ []) (sym (row-lists_of after rest kept.1));
      whole = kept.1;
    }
  where
    by_rest : at ≡ sum before → at ≤ length rest → length rest + 1 ≡ at + n →
        (lists_of after rest ≡ lists_of before (take at rest) ++ (if nat_lt 1 n then drop at rest ∷ [] else [])) × (length rest ≡ sum after)
    by_rest front within long =
        elim (nat_lt 0 (n - 1)) as (λ b. nat_lt 0 (n - 1) ≡ b → after ≡ (if b then before ++ (n - 1) ∷ [] else before) → (lists_of after rest ≡ lists_of before (take at rest) ++ (if nat_lt 1 n then drop at rest ∷ [] else [])) × (length rest ≡ sum after)) [
          | true ↦ λ e is.
              let more : nat_lt 1 n ≡ true = grind arith in
              (ap (λ ns. lists_of ns rest) is ∙ lists_of_last before (n - 1) at rest (omega (arith, front, long)) front ∙ ap (λ b. lists_of before (take at rest) ++ (if b then drop at rest ∷ [] else [])) (sym more), omega (arith, ap sum is, sum-push before (n - 1), front, long))
          | false ↦ λ e is.
              let one : n ≡ 1 = grind arith in
              let none : nat_lt 1 n ≡ false = grind arith in
              (ap (λ ns. lists_of ns rest) is ∙ ap (lists_of before) (sym (take_all at rest (omega (arith, long, one)))) ∙ sym (append-nil (lists_of before (take at rest))) ∙ ap (λ b. lists_of before (take at rest) ++ (if b then drop at rest ∷ [] else [])) (sym none), omega (arith, ap sum is, front, long, one))
        ] refl left
