-- What replies come to, with one more.
use Rattle.std.proofs.Common.{◌≡◌, ℕ, ◌+◌, ◌<◌, ◌≤◌, Bool, List, [], ◌∷◌, ◌++◌, length, take, get_or, map, refl, ap, sym, ◌∙◌, arith, append_assoc, append-nil, length-append, if◌then◌else◌, codes, subst}
use Rattle.std.specs.List.{count_by, flat_map}
use Rattle.std.specs.Fmt.{decimal}
use Rattle.std.proofs.lemmas.List.{take_more}
use Rattle.std.proofs.lemmas.List.Sums.{sum_by_push}
use Rattle.std.proofs.lemmas.List.Folds.{length-flat_map-take}
use Rattle.std.proofs.lemmas.Grind.{flat_map-append}
use Rattle.kz_model.specs.declared.step.Reply.{Reply}
use Rattle.kz_model.specs.declared.step.Reply.TheVariants as reply
use Rattle.kz_model.specs.Text.Summary.{is_block, is_refusal, pages_trimmed, summary_lines, summary_text}
use Rattle.kz_model.specs.Text.Lines.{text_of_lines}
use Rattle.kz_make.specs.declared.totals.Totals.{Totals}
use Rattle.kz_make.specs.Totals.{replies_in, AreTotals}

pages_trimmed-push : (replies : List Reply) (r : Reply) → pages_trimmed (replies ++ r ∷ []) ≡ pages_trimmed replies + pages_trimmed (r ∷ [])
pages_trimmed-push [] r = omega arith
pages_trimmed-push (reply.Trimmed pages ∷ replies) r = let rest = pages_trimmed-push replies r in omega arith
pages_trimmed-push (other ∷ replies) r = pages_trimmed-push replies r

pub totals_more : (replies : List Reply) (r : Reply) (t : Totals) (blocks refused trimmed : ℕ) → AreTotals t replies → blocks ≡ (if is_block r then 1 else 0) → refused ≡ (if is_refusal r then 1 else 0) → trimmed ≡ pages_trimmed (r ∷ []) →
    AreTotals (record { steps = t.steps + 1; blocks = t.blocks + blocks; refused = t.refused + refused; trimmed = t.trimmed + trimmed }) (replies ++ r ∷ [])
totals_more replies r t blocks refused trimmed are e f g = record {
  steps = omega (arith, are.steps, length-append replies (r ∷ []));
  blocks = omega (arith, are.blocks, e, sum_by_push (λ x. if is_block x then 1 else 0) replies r);
  refused = omega (arith, are.refused, f, sum_by_push (λ x. if is_refusal x then 1 else 0) replies r);
  trimmed = omega (arith, are.trimmed, g, pages_trimmed-push replies r);
}

-- one more of a list behind some
pub push_taken : (before replies : List Reply) (i : ℕ) (d : Reply) → i < length replies → (before ++ take i replies) ++ get_or replies i d ∷ [] ≡ before ++ take (i + 1) replies
push_taken before replies i d h = append_assoc before (take i replies) (get_or replies i d ∷ []) ∙ ap (λ (rest : List Reply). before ++ rest) (sym (take_more replies i d h))

-- one more CPU's replies
pub replies_taken : (all : List (List Reply)) (i : ℕ) (d : List Reply) → i < length all → replies_in (take i all) ++ get_or all i d ≡ replies_in (take (i + 1) all)
replies_taken all i d h =
    ap (λ (rest : List Reply). replies_in (take i all) ++ rest) (sym (append-nil (get_or all i d)))
    ∙ sym (flat_map-append (λ (replies : List Reply). replies) (take i all) (get_or all i d ∷ []))
    ∙ ap replies_in (sym (take_more all i d h))

-- so many replies fit
pub few_replies : (all : List (List Reply)) (i steps bound : ℕ) (d : List Reply) → i < length all → steps ≡ length (replies_in (take i all)) → length (replies_in all) < bound → steps + length (get_or all i d) < bound
few_replies all i steps bound d h e few = omega (arith, length-flat_map-take (λ (replies : List Reply). replies) all i d h)

-- ---- the text

-- one line behind a text of lines
one_line : (s t line : List ℕ) (lines : List (List ℕ)) → s ≡ text_of_lines lines → t ≡ s ++ (line ++ codes "\n") → t ≡ text_of_lines (lines ++ line ∷ [])
one_line s t line lines e f =
    f ∙ ap (λ (s : List ℕ). s ++ (line ++ codes "\n")) e
    ∙ ap (λ (rest : List ℕ). text_of_lines lines ++ rest) (sym (append-nil (line ++ codes "\n")))
    ∙ sym (flat_map-append (λ (line : List ℕ). line ++ codes "\n") lines (line ∷ []))

pub summary_written : (number bytes : ℕ) (replies : List Reply) (t : Totals) (s0 s1 s2 s3 s4 s5 s6 s7 : List ℕ) → AreTotals t replies → s0 ≡ [] → s1 ≡ s0 ++ ((codes "make " ++ decimal number) ++ codes "\n") →
    s2 ≡ s1 ++ ((codes "bytes " ++ decimal bytes) ++ codes "\n") → s3 ≡ s2 ++ ((codes "steps " ++ decimal t.steps) ++ codes "\n") → s4 ≡ s3 ++ ((codes "blocks " ++ decimal t.blocks) ++ codes "\n") →
    s5 ≡ s4 ++ ((codes "refused " ++ decimal t.refused) ++ codes "\n") → s6 ≡ s5 ++ ((codes "trimmed " ++ decimal t.trimmed) ++ codes "\n") → s7 ≡ s6 ++ codes "end\n" → s7 ≡ summary_text number bytes replies
summary_written number bytes replies t s0 s1 s2 s3 s4 s5 s6 s7 are e0 e1 e2 e3 e4 e5 e6 e7 =
    let one : List (List ℕ) = (codes "make " ++ decimal number) ∷ [] in
    let two = one ++ (codes "bytes " ++ decimal bytes) ∷ [] in
    let three = two ++ (codes "steps " ++ decimal t.steps) ∷ [] in
    let four = three ++ (codes "blocks " ++ decimal t.blocks) ∷ [] in
    let five = four ++ (codes "refused " ++ decimal t.refused) ∷ [] in
    let six = five ++ (codes "trimmed " ++ decimal t.trimmed) ∷ [] in
    one_line s6 s7 (codes "end") six
    (one_line s5 s6 (codes "trimmed " ++ decimal t.trimmed) five
    (one_line s4 s5 (codes "refused " ++ decimal t.refused) four
    (one_line s3 s4 (codes "blocks " ++ decimal t.blocks) three
    (one_line s2 s3 (codes "steps " ++ decimal t.steps) two
    (one_line s1 s2 (codes "bytes " ++ decimal bytes) one
    (one_line s0 s1 (codes "make " ++ decimal number) [] e0 e1) e2) e3) e4) e5) e6) e7
    ∙ ap (λ n. lines n t.blocks t.refused t.trimmed) are.steps ∙ ap (λ n. lines (length replies) n t.refused t.trimmed) are.blocks
    ∙ ap (λ n. lines (length replies) (count_by is_block replies) n t.trimmed) are.refused
    ∙ ap (λ n. lines (length replies) (count_by is_block replies) (count_by is_refusal replies) n) are.trimmed
  where
    lines : ℕ → ℕ → ℕ → ℕ → List ℕ
    lines steps blocks refused trimmed =
        text_of_lines ((codes "make " ++ decimal number) ∷ (codes "bytes " ++ decimal bytes) ∷ (codes "steps " ++ decimal steps) ∷ (codes "blocks " ++ decimal blocks) ∷ (codes "refused " ++ decimal refused)
        ∷ (codes "trimmed " ++ decimal trimmed) ∷ codes "end" ∷ [])
