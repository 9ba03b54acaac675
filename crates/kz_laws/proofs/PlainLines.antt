-- The lines of a report: none has byte 10, and the first byte tells those of visits and those of asks.
use Rattle.std.proofs.Common.{◌≡◌, ℕ, zero, suc, ◌+◌, ◌/◌, ◌%◌, ◌==◌, ◌&&◌, nat_lt, not, Bool, true, false, if◌then◌else◌, List, [], ◌∷◌, ◌++◌, codes, refl, ap, ◌∙◌, arith}
use Rattle.std.specs.Fmt.{decimal, digits, digits_onto, digit_glyph}
use Rattle.std.specs.List.{list_all, flat_map}
use Rattle.std.proofs.lemmas.List.Folds.{list_all-append}
use Rattle.kz_model.specs.declared.step.Reply.{Reply}
use Rattle.kz_model.specs.declared.step.Reply.TheVariants as reply
use Rattle.kz_model.specs.declared.supply.Ask.{Ask}
use Rattle.kz_model.specs.declared.supply.Ask.TheVariants.{Chunk, Frames, Back}
use Rattle.kz_model.specs.declared.supply.Answer.{Answer}
use Rattle.kz_model.specs.declared.supply.Answer.TheVariants.{Base, Given, NoSpace, NoFrames}
use Rattle.kz_model.specs.declared.supply.SupplyEntry.{SupplyEntry}
use Rattle.kz_model.specs.declared.record.ZoneParams.{ZoneParams}
use Rattle.kz_model.specs.declared.record.Visit.{Visit}
use Rattle.kz_model.specs.Run.Supply.{address}
use Rattle.kz_model.specs.Text.Lines.{hex_bytes, reply_line, ask_line, ask_text, visit_text, visits_line}

-- a text without byte 10
abbrev pub is_clear : List ℕ → Bool
is_clear text = list_all (λ byte. not (byte == 10)) text

pub record IsClear (text : List ℕ) : Type 0 where
  pub none : is_clear text ≡ true

pub clear-append : (xs ys : List ℕ) → IsClear xs → IsClear ys → IsClear (xs ++ ys)
clear-append xs ys hx hy = record { none = list_all-append (λ byte. not (byte == 10)) xs ys ∙ ap (λ t. t && is_clear ys) hx.none ∙ hy.none }

glyph_clear : (d : ℕ) → (digit_glyph false d == 10) ≡ false
glyph_clear d = elim (nat_lt d 10) as (λ t. ((if t then 48 + d else 87 + d) == 10) ≡ false) [ true ↦ grind arith | false ↦ grind arith ]

onto_clear : (k base n : ℕ) (acc : List ℕ) → is_clear acc ≡ true → is_clear (digits_onto k base false n acc) ≡ true
onto_clear zero base n acc h = h
onto_clear (suc k) base n acc h =
    let more : is_clear (digit_glyph false (n % base) ∷ acc) ≡ true = ap (λ t. not t && is_clear acc) (glyph_clear (n % base)) ∙ h in
    elim (n / base == 0) as (λ t. is_clear (if t then digit_glyph false (n % base) ∷ acc else digits_onto k base false (n / base) (digit_glyph false (n % base) ∷ acc)) ≡ true) [
      | true ↦ more
      | false ↦ onto_clear k base (n / base) (digit_glyph false (n % base) ∷ acc) more
    ]

pub digits_clear : (base n : ℕ) → IsClear (digits base false n)
unfolding digits
digits_clear base n = record { none = onto_clear 64 base n [] refl }

pub decimal_clear : (n : ℕ) → IsClear (decimal n)
decimal_clear n = digits_clear 10 n

hex_bytes_clear : (bytes : List ℕ) → IsClear (hex_bytes bytes)
hex_bytes_clear [] = record { none = refl }
hex_bytes_clear (byte ∷ bytes) =
    record {
      none =
          ap (λ t. not t && (not (digit_glyph false (byte % 16) == 10) && is_clear (hex_bytes bytes))) (glyph_clear (byte / 16))
          ∙ ap (λ t. not t && is_clear (hex_bytes bytes)) (glyph_clear (byte % 16))
          ∙ (hex_bytes_clear bytes).none;
    }

-- ---- the lines, each by its first byte

-- the text begins with this byte
abbrev pub begins : ℕ → List ℕ → Bool
begins byte [] = false
begins byte (first ∷ text) = first == byte

-- A line begins with the byte of `visits`, or with that of `ask`, or with neither.
pub record IsLine (is_visits is_ask : Bool) (line : List ℕ) : Type 0 where
  pub clear : IsClear line
  pub visits : begins 118 line ≡ is_visits
  pub asks : begins 97 line ≡ is_ask

pub reply_line_plain : (p : ZoneParams) (base : ℕ) (reply : Reply) → IsLine false false (reply_line p base reply)
reply_line_plain p base (reply.Block block) =
    record {
      clear = record { none = simp (list_all-append, (decimal_clear block.chunk).none, (decimal_clear block.index).none, (digits_clear 16 (address p.submap base p.element block)).none) };
      visits = refl;
      asks = refl;
    }
reply_line_plain p base reply.Done = record { clear = record { none = refl }; visits = refl; asks = refl }
reply_line_plain p base reply.NoName = record { clear = record { none = refl }; visits = refl; asks = refl }
reply_line_plain p base reply.NameBusy = record { clear = record { none = refl }; visits = refl; asks = refl }
reply_line_plain p base (reply.WrongZone asked owner) =
    record { clear = record { none = simp (list_all-append, (decimal_clear asked).none, (decimal_clear owner).none) }; visits = refl; asks = refl }
reply_line_plain p base reply.NotHeld = record { clear = record { none = refl }; visits = refl; asks = refl }
reply_line_plain p base reply.NotGiven = record { clear = record { none = refl }; visits = refl; asks = refl }
reply_line_plain p base reply.OutOfBlock = record { clear = record { none = refl }; visits = refl; asks = refl }
reply_line_plain p base reply.Unmapped = record { clear = record { none = refl }; visits = refl; asks = refl }
reply_line_plain p base (reply.Bytes bytes) = record { clear = record { none = (hex_bytes_clear bytes).none }; visits = refl; asks = refl }
reply_line_plain p base (reply.Trimmed pages) = record { clear = record { none = (decimal_clear pages).none }; visits = refl; asks = refl }
reply_line_plain p base (reply.NoSpace left) = record { clear = record { none = (decimal_clear left).none }; visits = refl; asks = refl }
reply_line_plain p base (reply.NoFrames free) = record { clear = record { none = (decimal_clear free).none }; visits = refl; asks = refl }

visit_text_clear : (v : Visit) → IsClear (visit_text v)
visit_text_clear v = record { none = simp (list_all-append, (decimal_clear v.cpu).none, (decimal_clear v.count).none) (star_clear v.settled) }
  where
    star_clear : (settled : Bool) → is_clear (if settled then codes "*" else []) ≡ true
    star_clear true = refl
    star_clear false = refl

visit_texts_clear : (visits : List Visit) → IsClear (flat_map visit_text visits)
visit_texts_clear [] = record { none = refl }
visit_texts_clear (v ∷ visits) = clear-append (visit_text v) (flat_map visit_text visits) (visit_text_clear v) (visit_texts_clear visits)

pub visits_line_plain : (zone round : ℕ) (visits : List Visit) → IsLine true false (visits_line zone round visits)
visits_line_plain zone round visits =
    record { clear = record { none = simp (list_all-append, (decimal_clear zone).none, (decimal_clear round).none, (visit_texts_clear visits).none) }; visits = refl; asks = refl }

ask_text_clear : (ask : Ask) (answer : Answer) → IsClear (ask_text ask answer)
ask_text_clear (Chunk submap pages) (Base page) = record { none = simp (list_all-append, (decimal_clear pages).none, (decimal_clear page).none) }
ask_text_clear (Chunk submap pages) (NoSpace left) = record { none = simp (list_all-append, (decimal_clear pages).none, (decimal_clear left).none) }
ask_text_clear (Chunk submap pages) (NoFrames free) = record { none = simp (list_all-append, (decimal_clear pages).none, (decimal_clear free).none) }
ask_text_clear (Frames pages) Given = record { none = simp (list_all-append, (decimal_clear pages).none) }
ask_text_clear (Frames pages) (NoFrames free) = record { none = simp (list_all-append, (decimal_clear pages).none, (decimal_clear free).none) }
ask_text_clear (Back pages) answer = record { none = simp (list_all-append, (decimal_clear pages).none) }
ask_text_clear ask answer = record { none = refl }

pub ask_line_plain : (entry : SupplyEntry) → IsLine false true (ask_line entry)
ask_line_plain entry =
    record { clear = record { none = simp (list_all-append, (decimal_clear entry.zone).none, (ask_text_clear entry.ask entry.answer).none) }; visits = refl; asks = refl }
