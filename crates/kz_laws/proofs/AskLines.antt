-- An ask line tells its entry, where the zone tells the submap and the numbers are in range.
use Rattle.std.proofs.Common.{◌≡◌, ℕ, ◌+◌, ◌^◌, ◌<◌, true, List, ◌∷◌, ◌++◌, codes, slice_index, refl, ap, sym, ◌∙◌, subst, arith, append_assoc}
use Rattle.std.specs.Fmt.{decimal}
use Rattle.std.proofs.lemmas.Fmt.{decimal_injective}
use Rattle.std.proofs.lemmas.List.{append_cancel_left}
use Rattle.kz_model.specs.declared.record.ZoneParams.{ZoneParams}
use Rattle.kz_model.specs.declared.supply.Ask.{Ask}
use Rattle.kz_model.specs.declared.supply.Ask.TheVariants.{Chunk, Frames, Back}
use Rattle.kz_model.specs.declared.supply.Answer.{Answer}
use Rattle.kz_model.specs.declared.supply.Answer.TheVariants.{Base, Given, NoSpace, NoFrames, Taken}
use Rattle.kz_model.specs.declared.supply.SupplyEntry.{SupplyEntry}
use Rattle.kz_model.specs.Zone.Rules.{fits}
use Rattle.kz_model.specs.Text.Lines.{ask_text, ask_line}
use Rattle.kz_laws.specs.Addresses.{IsForZone}
use Rattle.kz_laws.proofs.Reading.{NoDigitFirst, cut_decimal}

-- ---- an ask and its answer in words

-- an ask's first word, and its pages
abbrev word_of : Ask → List ℕ
word_of (Chunk submap pages) = codes "chunk "
word_of (Frames pages) = codes "frames "
word_of (Back pages) = codes "back "

abbrev pub pages_of : Ask → ℕ
pages_of (Chunk submap pages) = pages
pages_of (Frames pages) = pages
pages_of (Back pages) = pages

-- an answer's words, and its number
abbrev answer_text : Answer → List ℕ
answer_text (Base page) = codes " base " ++ decimal page
answer_text Given = codes " given"
answer_text (NoSpace left) = codes " no space " ++ decimal left
answer_text (NoFrames free) = codes " no frames " ++ decimal free
answer_text Taken = codes " taken"

abbrev pub number_of : Answer → ℕ
number_of (Base page) = page
number_of Given = 0
number_of (NoSpace left) = left
number_of (NoFrames free) = free
number_of Taken = 0

text_in_words : (ask : Ask) (answer : Answer) → fits ask answer ≡ true → ask_text ask answer ≡ word_of ask ++ (decimal (pages_of ask) ++ answer_text answer)
text_in_words (Chunk submap pages) (Base page) h = append_assoc (codes "chunk " ++ decimal pages) (codes " base ") (decimal page)
text_in_words (Chunk submap pages) (NoSpace left) h = append_assoc (codes "chunk " ++ decimal pages) (codes " no space ") (decimal left)
text_in_words (Chunk submap pages) (NoFrames free) h = append_assoc (codes "chunk " ++ decimal pages) (codes " no frames ") (decimal free)
text_in_words (Chunk submap pages) Given h = absurd (cc)
text_in_words (Chunk submap pages) Taken h = absurd (cc)
text_in_words (Frames pages) Given h = refl
text_in_words (Frames pages) (NoFrames free) h = append_assoc (codes "frames " ++ decimal pages) (codes " no frames ") (decimal free)
text_in_words (Frames pages) (Base page) h = absurd (cc)
text_in_words (Frames pages) (NoSpace left) h = absurd (cc)
text_in_words (Frames pages) Taken h = absurd (cc)
text_in_words (Back pages) Taken h = refl
text_in_words (Back pages) (Base page) h = absurd (cc)
text_in_words (Back pages) Given h = absurd (cc)
text_in_words (Back pages) (NoSpace left) h = absurd (cc)
text_in_words (Back pages) (NoFrames free) h = absurd (cc)

-- ---- told

-- the second byte of an answer's words and the fifth tell its kind
same_answer : (x y : Answer) → number_of x < 2 ^ 64 → number_of y < 2 ^ 64 → answer_text x ≡ answer_text y → x ≡ y
same_answer (Base m) (Base n) lm ln e = ap (λ (n : ℕ). Base n) (decimal_injective m n lm ln (append_cancel_left (codes " base ") (decimal m) (decimal n) e))
same_answer (NoSpace m) (NoSpace n) lm ln e = ap (λ (n : ℕ). NoSpace n) (decimal_injective m n lm ln (append_cancel_left (codes " no space ") (decimal m) (decimal n) e))
same_answer (NoFrames m) (NoFrames n) lm ln e = ap (λ (n : ℕ). NoFrames n) (decimal_injective m n lm ln (append_cancel_left (codes " no frames ") (decimal m) (decimal n) e))
same_answer Given Given lm ln e = refl
same_answer Taken Taken lm ln e = refl
same_answer x y lm ln e = absurd (omega (arith, ap (λ (text : List ℕ). slice_index text 1 + slice_index text 4) e))

no_digit : (x : Answer) → NoDigitFirst (answer_text x)
no_digit (Base page) = λ low high. omega arith
no_digit Given = λ low high. omega arith
no_digit (NoSpace left) = λ low high. omega arith
no_digit (NoFrames free) = λ low high. omega arith
no_digit Taken = λ low high. omega arith

-- asks of one zone
same_ask : (p : ZoneParams) (a b : Ask) (r q : List ℕ) → IsForZone p a → IsForZone p b → pages_of a < 2 ^ 64 → pages_of b < 2 ^ 64 → NoDigitFirst r → NoDigitFirst q →
    word_of a ++ (decimal (pages_of a) ++ r) ≡ word_of b ++ (decimal (pages_of b) ++ q) → (a ≡ b) × (r ≡ q)
same_ask p (Chunk s m) (Chunk t n) r q ha hb lm ln nr nq e =
    let cut = cut_decimal m n r q lm ln nr nq (append_cancel_left (codes "chunk ") (decimal m ++ r) (decimal n ++ q) e) in
    let submap : s ≡ t = ha.0 ∙ sym hb.0 in
    (ap (λ (s : ℕ). Chunk s m) submap ∙ ap (λ (m : ℕ). Chunk t m) cut.0, cut.1)
same_ask p (Frames m) (Frames n) r q ha hb lm ln nr nq e =
    let cut = cut_decimal m n r q lm ln nr nq (append_cancel_left (codes "frames ") (decimal m ++ r) (decimal n ++ q) e) in
    (ap (λ (m : ℕ). Frames m) cut.0, cut.1)
same_ask p (Back m) (Back n) r q ha hb lm ln nr nq e =
    let cut = cut_decimal m n r q lm ln nr nq (append_cancel_left (codes "back ") (decimal m ++ r) (decimal n ++ q) e) in
    (ap (λ (m : ℕ). Back m) cut.0, cut.1)
same_ask p a b r q ha hb lm ln nr nq e = absurd (omega (arith, ap (λ (text : List ℕ). slice_index text 0) e))

-- what an entry of a run's log has
pub record IsEntry (params : ℕ → ZoneParams) (entry : SupplyEntry) : Type 0 where
  pub zone : entry.zone < 2 ^ 64
  pub own : IsForZone (params entry.zone) entry.ask
  pub pages : pages_of entry.ask < 2 ^ 64
  pub fit : fits entry.ask entry.answer ≡ true
  pub number : number_of entry.answer < 2 ^ 64

line_in_words : (entry : SupplyEntry) → ask_line entry ≡ codes "ask " ++ (decimal entry.zone ++ (32 ∷ ask_text entry.ask entry.answer))
line_in_words entry = append_assoc (codes "ask " ++ decimal entry.zone) (codes " ") (ask_text entry.ask entry.answer)

same_tail : (xs ys : List ℕ) → 32 ∷ xs ≡ 32 ∷ ys → xs ≡ ys
same_tail xs ys e = cc

same_fields : (x y : SupplyEntry) → x.zone ≡ y.zone → x.ask ≡ y.ask → x.answer ≡ y.answer → x ≡ y
same_fields x y zone ask answer =
    ap (λ (zone : ℕ). record { zone = zone; ask = x.ask; answer = x.answer }) zone
    ∙ ap (λ (ask : Ask). record { zone = y.zone; ask = ask; answer = x.answer }) ask
    ∙ ap (λ (answer : Answer). record { zone = y.zone; ask = y.ask; answer = answer }) answer

pub same_entry : (params : ℕ → ZoneParams) (x y : SupplyEntry) → IsEntry params x → IsEntry params y → ask_line x ≡ ask_line y → x ≡ y
same_entry params x y hx hy e =
    let text = append_cancel_left (codes "ask ") (decimal x.zone ++ (32 ∷ ask_text x.ask x.answer)) (decimal y.zone ++ (32 ∷ ask_text y.ask y.answer)) (sym (line_in_words x) ∙ e ∙ line_in_words y) in
    let zone = cut_decimal x.zone y.zone (32 ∷ ask_text x.ask x.answer) (32 ∷ ask_text y.ask y.answer) hx.zone hy.zone (λ low high. omega arith) (λ low high. omega arith) text in
    let words = sym (text_in_words x.ask x.answer hx.fit) ∙ same_tail (ask_text x.ask x.answer) (ask_text y.ask y.answer) zone.1 ∙ text_in_words y.ask y.answer hy.fit in
    let own : IsForZone (params x.zone) y.ask = subst (λ (zone : ℕ). IsForZone (params zone) y.ask) (sym zone.0) hy.own in
    let ask = same_ask (params x.zone) x.ask y.ask (answer_text x.answer) (answer_text y.answer) hx.own own hx.pages hy.pages (no_digit x.answer) (no_digit y.answer) words in
    let answer = same_answer x.answer y.answer hx.number hy.number ask.1 in
    same_fields x y zone.0 ask.0 answer
