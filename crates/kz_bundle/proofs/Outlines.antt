-- A body's outline and its fields go with the body.
use Rattle.std.proofs.Common.{◌≡◌, ℕ, ◌+◌, ◌-◌, ◌==◌, Bool, true, false, ◌&&◌, nat_lt, if◌then◌else◌, List, [], ◌∷◌, ◌++◌, length, take, Option, Some, None, refl, ap, sym, ◌∙◌, subst, arith, codes}
use Rattle.std.specs.Option.{option_map, option_map_or}
use Rattle.std.specs.List.{slice_index_or}
use Rattle.std.proofs.lemmas.List.{length_push, length-take-le}
use Rattle.kz_model.specs.declared.bundle.Kind.{Kind}
use Rattle.kz_model.specs.declared.bundle.Kind.TheVariants.{Union}
use Rattle.kz_model.specs.declared.bundle.Field.{Field}
use Rattle.kz_model.specs.declared.bundle.TypeDecl.{TypeDecl}
use Rattle.kz_model.specs.declared.grammar.Mark.{Mark}
use Rattle.kz_model.specs.Grammar.Tokens.{is, is_name, is_run}
use Rattle.kz_model.specs.Grammar.TypeLine.{ends_with, without_last, label, type_line}
use Rattle.kz_bundle.specs.BodyStates as body
use Rattle.kz_bundle.specs.BodyStates.{Body, line_by_words}
use Rattle.kz_bundle.specs.declared.form.outline.Allowed.{Allowed}
use Rattle.kz_bundle.specs.declared.form.outline.Allowed.TheVariants.{Open, First, More, Size, Of, Label, Close, Done}
use Rattle.kz_bundle.specs.declared.form.outline.Outline.{Outline}
use Rattle.kz_bundle.specs.declared.form.body.Fields.{Fields}
use Rattle.kz_bundle.specs.Outlines.{Event, UnionOpens, UnionCloses, no_outline, with_label, labelled, kinded, closed, silent, next_word}
use Rattle.kz_bundle.specs.Walks.{no_fields, with_event, mark_after, fields_after, name_and_mark, decl_alone, checked_line, declared_line}
use Rattle.kz_bundle.proofs.Grammar.{type_line-by_words}

-- ---- a body, by its outline and its fields

abbrev next_as : Allowed → Kind → body.Next
next_as Open kind = body.Open
next_as First kind = body.First
next_as More kind = body.More
next_as Size kind = body.Size
next_as Of kind = body.Of
next_as Label kind = body.Label kind
next_as Close kind = body.Close
next_as Done kind = body.Done

abbrev outline : Fields → Mark → Allowed → Outline
outline f mark next = record { depth = length f.outer; mark = mark; next = next }

abbrev whole_body : Fields → Mark → Allowed → Body
whole_body f mark next = record { outer = f.outer; fields = f.inner; mark = mark; next = next_as next f.kind }

record IsBody (f : Fields) (o : Outline) (b : Body) : Type 0 where
  pub outline : o ≡ outline f o.mark o.next
  pub body : b ≡ whole_body f o.mark o.next

-- a word makes the same of both
abbrev AreSame : Fields → Option (Outline × Event) → Option Body → Type 0
AreSame f None None = Unit {0}
AreSame f None (Some b) = ⊥
AreSame f (Some found) None = ⊥
AreSame f (Some found) (Some b) = IsBody (with_event f found.1) found.0 b

-- ---- one more word

either : (f : Fields) (test : Bool) (x y : Option (Outline × Event)) (u v : Option Body) → AreSame f x u → AreSame f y v → AreSame f (if test then x else y) (if test then u else v)
either f true x y u v same other = same
either f false x y u v same other = other

here : (f : Fields) (mark : Mark) (next : Allowed) → IsBody f (outline f mark next) (whole_body f mark next)
here f mark next = record { outline = refl; body = refl }

module _ (f : Fields) (mark : Mark) where
  in_more : (found : Option (List ℕ × (ℕ × Mark))) →
      AreSame f (option_map_or (λ found. Some (with_label (outline f mark Label) More found)) found None)
      (option_map_or (λ found. Some (body.with_field (whole_body f mark Label) f.kind true found)) found None)
  in_more None = tt
  in_more (Some found) = record { outline = refl; body = refl }

  in_last : (found : Option (List ℕ × (ℕ × Mark))) →
      AreSame f (option_map_or (λ found. Some (with_label (outline f mark Label) Close found)) found None)
      (option_map_or (λ found. Some (body.with_field (whole_body f mark Label) f.kind false found)) found None)
  in_last None = tt
  in_last (Some found) = record { outline = refl; body = refl }

  in_label : (word : List ℕ) → AreSame f (labelled (outline f mark Label) word) (body.labelled (whole_body f mark Label) f.kind word)
  in_label word = either f (ends_with 59 word) _ _ _ _ (in_more (label (without_last word))) (in_last (label word))

  -- a union's fields begin
  opened : (next : Allowed) → IsBody (with_event f UnionOpens) (record (outline f mark next) { depth = length f.outer + 1; next = Open }) (record (whole_body f mark next) { outer = f.outer ++ f.inner ∷ []; fields = []; next = body.Open })
  opened next = record { outline = ap (λ n. record { depth = n; mark = mark; next = Open }) (sym (length_push f.outer f.inner)); body = refl }

  in_kind : (next : Allowed) (word : List ℕ) → AreSame f (kinded (outline f mark next) word) (body.kinded (whole_body f mark next) word)
  in_kind next word =
      either f (is (codes "ptr") word) _ _ _ _ (record { outline = refl; body = refl })
      (either f (is (codes "auth") word) _ _ _ _ (record { outline = refl; body = refl })
      (either f (is (codes "u8") word) _ _ _ _ (record { outline = refl; body = refl })
      (either f (is (codes "u16") word) _ _ _ _ (record { outline = refl; body = refl })
      (either f (is (codes "u32") word) _ _ _ _ (record { outline = refl; body = refl })
      (either f (is (codes "u64") word) _ _ _ _ (record { outline = refl; body = refl })
      (either f (is (codes "bytes") word) _ _ _ _ (record { outline = refl; body = refl })
      (either f (is (codes "struct") word) _ _ _ _ (record { outline = refl; body = refl })
      (either f (is (codes "union") word && nat_lt (length f.outer) 8) _ _ _ _ (opened next) tt))))))))

  -- the fields around a union whose fields end
  abbrev around : Fields
  around = record {
    outer = take (length f.outer - 1) f.outer;
    inner = slice_index_or f.outer (length f.outer - 1) [];
    kind = Union f.inner;
  }

  in_close : (next : Allowed) → AreSame f (Some (closed (outline f mark next))) (Some (body.closed (whole_body f mark next)))
  in_close next = by_test (length f.outer == 0) refl
    where
      by_test : (none : Bool) → (length f.outer == 0) ≡ none →
          AreSame f (Some (if none then silent (outline f mark next) Done else (record { depth = length f.outer - 1; mark = mark; next = Label }, UnionCloses)))
          (Some (if none then record (whole_body f mark next) { next = body.Done } else whole_body around mark Label))
      by_test true none = record { outline = refl; body = refl }
      by_test false some =
          subst (λ g. IsBody g (record { depth = length f.outer - 1; mark = mark; next = Label }) (whole_body around mark Label)) (sym (ap (λ t. if t then f else around) some))
          (record { outline = ap (λ n. record { depth = n; mark = mark; next = Label }) (sym (length-take-le (length f.outer - 1) f.outer (omega arith))); body = refl })

  in_word : (next : Allowed) (word : List ℕ) → AreSame f (next_word next (outline f mark next) word) (body.next_word (next_as next f.kind) (whole_body f mark next) word)
  in_word Open word = either f (is (codes "{") word) _ _ _ _ (record { outline = refl; body = refl }) tt
  in_word First word = either f (is (codes "}") word) _ _ _ _ (in_close First) (in_kind First word)
  in_word More word = in_kind More word
  in_word Size word = either f (is_run word) _ _ _ _ (record { outline = refl; body = refl }) tt
  in_word Of word = either f (is_name word) _ _ _ _ (record { outline = refl; body = refl }) tt
  in_word Label word = in_label word
  in_word Close word = either f (is (codes "}") word) _ _ _ _ (in_close Close) tt
  in_word Done word = tt

-- ---- all words

module _ (name : List ℕ) where
  abbrev marked : Option Mark → Option (List ℕ × Mark)
  marked found = option_map_or (λ mark. Some (name, mark)) found None

  abbrev declared : Option (List Field) → Option TypeDecl
  declared found = option_map_or (λ fields. Some (record { name = name; fields = fields })) found None

  abbrev end : Option Body → Option (TypeDecl × Mark)
  end found = option_map_or (λ b. body.whole name b.next b) found None

  -- the mark and the fields of the body
  record AreOf (given : Option Mark) (kept : Option (List Field)) (found : Option Body) : Type 0 where
    pub mark : marked given ≡ option_map name_and_mark (end found)
    pub fields : declared kept ≡ option_map decl_alone (end found)

  abbrev AreAfter : List (List ℕ) → Type 0
  AreAfter words = (f : Fields) (mark : Mark) (next : Allowed) → AreOf (mark_after (outline f mark next) words) (fields_after (outline f mark next) f words) (body.body_of (whole_body f mark next) words)

  at_end : AreAfter []
  at_end f mark Open = record { mark = refl; fields = refl }
  at_end f mark First = record { mark = refl; fields = refl }
  at_end f mark More = record { mark = refl; fields = refl }
  at_end f mark Size = record { mark = refl; fields = refl }
  at_end f mark Of = record { mark = refl; fields = refl }
  at_end f mark Label = record { mark = refl; fields = refl }
  at_end f mark Close = record { mark = refl; fields = refl }
  at_end f mark Done = record { mark = refl; fields = refl }

  after_word : (words : List (List ℕ)) (f : Fields) (found : Option (Outline × Event)) (b : Option Body) → AreSame f found b → AreAfter words →
      AreOf (option_map_or (λ found. mark_after found.0 words) found None) (option_map_or (λ found. fields_after found.0 (with_event f found.1) words) found None) (option_map_or (λ b. body.body_of b words) b None)
  after_word words f None None same rest = record { mark = refl; fields = refl }
  after_word words f None (Some b) same rest = absurd same
  after_word words f (Some found) None same rest = absurd same
  after_word words f (Some found) (Some b) same rest =
      let g = with_event f found.1 in
      subst (λ o. AreOf (mark_after o words) (fields_after o g words) (body.body_of b words)) (sym same.outline)
      (subst (λ b. AreOf (mark_after (outline g found.0.mark found.0.next) words) (fields_after (outline g found.0.mark found.0.next) g words) (body.body_of b words)) (sym same.body) (rest g found.0.mark found.0.next))

  after_words : (words : List (List ℕ)) → AreAfter words
  after_words [] f mark next = at_end f mark next
  after_words (word ∷ words) f mark next =
      after_word words f (next_word next (outline f mark next) word) (body.next_word (next_as next f.kind) (whole_body f mark next) word) (in_word f mark next word) (after_words words)

-- ---- a type line

-- by whether it begins with `type NAME`
if_named : {A : Type 0} (test : Bool) (f : TypeDecl × Mark → A) (x : Option A) (y : Option (TypeDecl × Mark)) → x ≡ option_map f y → (if test then x else None) ≡ option_map f (if test then y else None)
if_named true f x y e = e
if_named false f x y e = refl

-- the name and the mark of a type line, word by word
checked_by_words : (words : List (List ℕ)) → checked_line words ≡ option_map name_and_mark (line_by_words words)
checked_by_words [] = refl
checked_by_words (w ∷ []) = refl
checked_by_words (w ∷ name ∷ words) =
    if_named (is (codes "type") w && is_name name) name_and_mark _ _ (after_words name words no_fields no_outline.mark Open).mark

-- its declaration, word by word
declared_by_words : (words : List (List ℕ)) → declared_line words ≡ option_map decl_alone (line_by_words words)
declared_by_words [] = refl
declared_by_words (w ∷ []) = refl
declared_by_words (w ∷ name ∷ words) =
    if_named (is (codes "type") w && is_name name) decl_alone _ _ (after_words name words no_fields no_outline.mark Open).fields

-- the name and the mark of a type line
pub checked_is : (words : List (List ℕ)) → checked_line words ≡ option_map name_and_mark (type_line words)
checked_is words = checked_by_words words ∙ ap (option_map name_and_mark) (sym (type_line-by_words words))

-- its declaration
pub declared_is : (words : List (List ℕ)) → declared_line words ≡ option_map decl_alone (type_line words)
declared_is words = declared_by_words words ∙ ap (option_map decl_alone) (sym (type_line-by_words words))
