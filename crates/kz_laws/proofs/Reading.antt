-- Texts that are read in one way.
use Rattle.std.proofs.Common.{◌≡◌, ◌≢◌, ℕ, ◌+◌, ◌%◌, ◌^◌, ◌<◌, ◌≤◌, Bool, true, false, if◌then◌else◌, List, [], ◌∷◌, ◌++◌, map, codes, refl, ap, sym, ◌∙◌, arith, append_assoc}
use Rattle.std.specs.Fmt.{decimal}
use Rattle.std.specs.List.{flat_map}
use Rattle.std.proofs.lemmas.Fmt.{decimal_by_steps, decimal_injective}
use Rattle.std.proofs.lemmas.List.{append_cancel_left}
use Rattle.kz_model.specs.declared.record.Visit.{Visit}
use Rattle.kz_model.specs.Text.Lines.{visit_text, visits_line, text_of_lines}

-- ---- digits

abbrev pub AreDigits : List ℕ → Type 0
AreDigits [] = Unit {0}
AreDigits (d ∷ ds) = (48 ≤ d) × (d ≤ 57) × AreDigits ds

-- a text that does not go on with a digit
abbrev pub NoDigitFirst : List ℕ → Type 0
NoDigitFirst [] = Unit {0}
NoDigitFirst (c ∷ cs) = 48 ≤ c → c ≤ 57 → ⊥

digits-push : (ds : List ℕ) (d : ℕ) → d < 10 → AreDigits ds → AreDigits (ds ++ (48 + d) ∷ [])
digits-push [] d lt h = (omega arith, omega arith, tt)
digits-push (x ∷ ds) d lt h = (h.0, h.1, digits-push ds d lt h.2)

pub decimal_digits : (n : ℕ) → n < 2 ^ 64 → AreDigits (decimal n)
decimal_digits n lt =
    decimal_by_steps (λ n ds. AreDigits ds) (λ n few. (omega arith, omega arith, tt)) (λ n ds ten h. digits-push ds (n % 10) (omega arith) h) n lt

-- digits, and what follows, are read in one way
pub cut_digits : (xs ys r q : List ℕ) → AreDigits xs → AreDigits ys → NoDigitFirst r → NoDigitFirst q → xs ++ r ≡ ys ++ q → (xs ≡ ys) × (r ≡ q)
cut_digits [] [] r q hx hy nr nq e = (refl, e)
cut_digits [] (y ∷ ys) [] q hx hy nr nq e = absurd (cc)
cut_digits [] (y ∷ ys) (c ∷ r) q hx hy nr nq e = let same : c ≡ y = cc in absurd (nr (omega (arith, same, hy.0)) (omega (arith, same, hy.1)))
cut_digits (x ∷ xs) [] r [] hx hy nr nq e = absurd (cc)
cut_digits (x ∷ xs) [] r (c ∷ q) hx hy nr nq e = let same : x ≡ c = cc in absurd (nq (omega (arith, same, hx.0)) (omega (arith, same, hx.1)))
cut_digits (x ∷ xs) (y ∷ ys) r q hx hy nr nq e =
    let same : x ≡ y = cc in
    let more : xs ++ r ≡ ys ++ q = cc in
    let rest = cut_digits xs ys r q hx.2 hy.2 nr nq more in
    (cc rest.0, rest.1)

-- a decimal number, and what follows it
pub cut_decimal : (m n : ℕ) (r q : List ℕ) → m < 2 ^ 64 → n < 2 ^ 64 → NoDigitFirst r → NoDigitFirst q → decimal m ++ r ≡ decimal n ++ q → (m ≡ n) × (r ≡ q)
cut_decimal m n r q lm ln nr nq e =
    let cut = cut_digits (decimal m) (decimal n) r q (decimal_digits m lm) (decimal_digits n ln) nr nq e in
    (decimal_injective m n lm ln cut.0, cut.1)

-- ---- lines

-- a text without this byte
abbrev pub IsFree : ℕ → List ℕ → Type 0
IsFree c [] = Unit {0}
IsFree c (x ∷ xs) = (x ≢ c) × IsFree c xs

-- a line is cut from a text in one way
pub cut_line : (c : ℕ) (xs ys r q : List ℕ) → IsFree c xs → IsFree c ys → xs ++ c ∷ r ≡ ys ++ c ∷ q → (xs ≡ ys) × (r ≡ q)
cut_line c [] [] r q hx hy e = (refl, cc)
cut_line c [] (y ∷ ys) r q hx hy e = let same : y ≡ c = cc in absurd (hy.0 same)
cut_line c (x ∷ xs) [] r q hx hy e = let same : x ≡ c = cc in absurd (hx.0 same)
cut_line c (x ∷ xs) (y ∷ ys) r q hx hy e =
    let same : x ≡ y = cc in
    let more : xs ++ c ∷ r ≡ ys ++ c ∷ q = cc in
    let rest = cut_line c xs ys r q hx.1 hy.1 more in
    (cc rest.0, rest.1)

abbrev pub AreLines : List (List ℕ) → Type 0
AreLines [] = Unit {0}
AreLines (line ∷ lines) = IsFree 10 line × AreLines lines

-- lines are cut from a text in one way
pub same_lines_of_text : (xs ys : List (List ℕ)) → AreLines xs → AreLines ys → text_of_lines xs ≡ text_of_lines ys → xs ≡ ys
same_lines_of_text [] [] hx hy e = refl
same_lines_of_text [] ([] ∷ ys) hx hy e = absurd (cc)
same_lines_of_text [] ((c ∷ y) ∷ ys) hx hy e = absurd (cc)
same_lines_of_text ([] ∷ xs) [] hx hy e = absurd (cc)
same_lines_of_text ((c ∷ x) ∷ xs) [] hx hy e = absurd (cc)
same_lines_of_text (x ∷ xs) (y ∷ ys) hx hy e =
    let cut = cut_line 10 x y (text_of_lines xs) (text_of_lines ys) hx.0 hy.0 (sym (append_assoc x (10 ∷ []) (text_of_lines xs)) ∙ e ∙ append_assoc y (10 ∷ []) (text_of_lines ys)) in
    let rest = same_lines_of_text xs ys hx.1 hy.1 cut.1 in
    cc (cut.0, rest)

-- ---- visits

-- what a visit's text says of it
abbrev pub VisitSays : Type 0
VisitSays = ℕ × ℕ × Bool

abbrev pub says : Visit → VisitSays
says v = (v.cpu, v.count, v.settled)

abbrev pub FitVisits : List Visit → Type 0
FitVisits [] = Unit {0}
FitVisits (v ∷ visits) = (v.cpu < 2 ^ 64) × (v.count < 2 ^ 64) × FitVisits visits

abbrev pub star : Bool → List ℕ
star settled = if settled then codes "*" else []

abbrev pub visit_texts : List Visit → List ℕ
visit_texts visits = flat_map visit_text visits

unfolded : (v : Visit) (rest : List ℕ) → visit_text v ++ rest ≡ 32 ∷ (decimal v.cpu ++ (58 ∷ (decimal v.count ++ (star v.settled ++ rest))))
unfolded v rest =
    append_assoc (codes " " ++ decimal v.cpu ++ codes ":" ++ decimal v.count) (star v.settled) rest
    ∙ append_assoc (codes " " ++ decimal v.cpu ++ codes ":") (decimal v.count) (star v.settled ++ rest)
    ∙ append_assoc (codes " " ++ decimal v.cpu) (codes ":") (decimal v.count ++ (star v.settled ++ rest))

-- what follows a visit is no digit, and no star
no_digit : (settled : Bool) (visits : List Visit) → NoDigitFirst (star settled ++ visit_texts visits)
no_digit true visits = λ low high. omega arith
no_digit false [] = tt
no_digit false (v ∷ visits) = λ low high. omega arith

abbrev pub NoStarFirst : List ℕ → Type 0
NoStarFirst [] = Unit {0}
NoStarFirst (c ∷ cs) = c ≡ 42 → ⊥

no_star : (visits : List Visit) → NoStarFirst (visit_texts visits)
no_star [] = tt
no_star (v ∷ visits) = λ e. omega arith

same_star : (a b : Bool) (r q : List ℕ) → NoStarFirst r → NoStarFirst q → star a ++ r ≡ star b ++ q → (a ≡ b) × (r ≡ q)
same_star true true r q nr nq e = (refl, cc)
same_star false false r q nr nq e = (refl, e)
same_star true false r [] nr nq e = absurd (cc)
same_star true false r (c ∷ q) nr nq e = let same : c ≡ 42 = cc in absurd (nq same)
same_star false true [] q nr nq e = absurd (cc)
same_star false true (c ∷ r) q nr nq e = let same : c ≡ 42 = cc in absurd (nr same)

tail_of : (x y : ℕ) (xs ys : List ℕ) → x ∷ xs ≡ y ∷ ys → xs ≡ ys
tail_of x y xs ys e = cc

-- visits are read from their line in one way
pub same_visits : (vs ws : List Visit) → FitVisits vs → FitVisits ws → visit_texts vs ≡ visit_texts ws → map says vs ≡ map says ws
same_visits [] [] hv hw e = refl
same_visits [] (w ∷ ws) hv hw e = absurd (cc)
same_visits (v ∷ vs) [] hv hw e = absurd (cc)
same_visits (v ∷ vs) (w ∷ ws) hv hw e =
    let text = tail_of 32 32 (decimal v.cpu ++ (58 ∷ (decimal v.count ++ (star v.settled ++ visit_texts vs)))) (decimal w.cpu ++ (58 ∷ (decimal w.count ++ (star w.settled ++ visit_texts ws)))) (sym (unfolded v (visit_texts vs)) ∙ e ∙ unfolded w (visit_texts ws)) in
    let cpu = cut_decimal v.cpu w.cpu (58 ∷ (decimal v.count ++ (star v.settled ++ visit_texts vs))) (58 ∷ (decimal w.count ++ (star w.settled ++ visit_texts ws))) hv.0 hw.0 (λ low high. omega arith) (λ low high. omega arith) text in
    let count = cut_decimal v.count w.count (star v.settled ++ visit_texts vs) (star w.settled ++ visit_texts ws) hv.1 hw.1 (no_digit v.settled vs) (no_digit w.settled ws) (tail_of 58 58 (decimal v.count ++ (star v.settled ++ visit_texts vs)) (decimal w.count ++ (star w.settled ++ visit_texts ws)) cpu.1) in
    let settled = same_star v.settled w.settled (visit_texts vs) (visit_texts ws) (no_star vs) (no_star ws) count.1 in
    let rest = same_visits vs ws hv.2 hw.2 settled.1 in
    ap (λ (cpu : ℕ). (cpu, v.count, v.settled) ∷ map says vs) cpu.0
    ∙ ap (λ (count : ℕ). (w.cpu, count, v.settled) ∷ map says vs) count.0
    ∙ ap (λ (settled : Bool). (w.cpu, w.count, settled) ∷ map says vs) settled.0
    ∙ ap (λ (rest : List VisitSays). (w.cpu, w.count, w.settled) ∷ rest) rest

-- ---- a line of visits

line_unfolded : (zone round : ℕ) (visits : List Visit) → visits_line zone round visits ≡ codes "visits " ++ (decimal zone ++ (32 ∷ (decimal round ++ visit_texts visits)))
line_unfolded zone round visits =
    append_assoc (codes "visits " ++ decimal zone ++ codes " ") (decimal round) (visit_texts visits)
    ∙ append_assoc (codes "visits " ++ decimal zone) (codes " ") (decimal round ++ visit_texts visits)
    ∙ append_assoc (codes "visits ") (decimal zone) (32 ∷ (decimal round ++ visit_texts visits))

no_digit_in_texts : (visits : List Visit) → NoDigitFirst (visit_texts visits)
no_digit_in_texts [] = tt
no_digit_in_texts (v ∷ visits) = λ low high. omega arith

-- its zone, its round and its visits are read in one way
pub same_visits_line : (z y r q : ℕ) (vs ws : List Visit) → z < 2 ^ 64 → y < 2 ^ 64 → r < 2 ^ 64 → q < 2 ^ 64 → FitVisits vs → FitVisits ws → visits_line z r vs ≡ visits_line y q ws →
    (z ≡ y) × (r ≡ q) × (map says vs ≡ map says ws)
same_visits_line z y r q vs ws lz ly lr lq hv hw e =
    let text = append_cancel_left (codes "visits ") (decimal z ++ (32 ∷ (decimal r ++ visit_texts vs))) (decimal y ++ (32 ∷ (decimal q ++ visit_texts ws))) (sym (line_unfolded z r vs) ∙ e ∙ line_unfolded y q ws) in
    let zone = cut_decimal z y (32 ∷ (decimal r ++ visit_texts vs)) (32 ∷ (decimal q ++ visit_texts ws)) lz ly (λ low high. omega arith) (λ low high. omega arith) text in
    let round = cut_decimal r q (visit_texts vs) (visit_texts ws) lr lq (no_digit_in_texts vs) (no_digit_in_texts ws) (tail_of 32 32 (decimal r ++ visit_texts vs) (decimal q ++ visit_texts ws) zone.1) in
    (zone.0, round.0, same_visits vs ws hv hw round.1)
