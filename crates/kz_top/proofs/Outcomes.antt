-- From what the parts of the work promise to what the top call does.
use Rattle.std.proofs.Common.{◌≡◌, ◌≢◌, ◌⊎◌, ◌≤◌, ◌<◌, ◌^◌, Bool, IsTrue, ℕ, List, [], ◌∷◌, length, Option, None, Some, Result, Ok, Err, IfSome, codes, refl, ap, sym, ◌∙◌, subst, inl, inr, arith}
use Rattle.std.specs.Io.KnownBytes.{Appends}
use Rattle.kz_model.specs.Grammar.Tokens.{number_of}
use Rattle.kz_text.specs.Streams.{Rose, AppendsFront}
use Rattle.kz_model.specs.declared.bundle.Bundle.{Bundle}
use Rattle.kz_model.specs.declared.grammar.Refusal.{Refusal}
use Rattle.kz_model.specs.Text.Made.{made_text}
use Rattle.kz_model.specs.Grammar.Spelling.{Spells, IsFirstFault}
use Rattle.kz_model.specs.Grammar.Stages.{read}
use Rattle.kz_bundle.proofs.Walking.{spelling_is_reading}
use Rattle.kz_top.specs.declared.command.Command.{Command}
use Rattle.kz_top.specs.declared.command.Command.TheVariants as command
use Rattle.kz_top.specs.declared.status.Status.{Status}
use Rattle.kz_top.specs.declared.status.Status.TheVariants as status
use Rattle.kz_top.specs.Call.{Asks, AskNothing, ReadsInput, MakesOf, Gives, Refuses, IsTaken, IsMadeFor, IsFinished, IsWork, most_bytes, taken_text, text_for}
use Rattle.kz_top.proofs.Runs.{kept_apart}

-- ---- one outcome for bytes

spells_read : (bytes : List ℕ) (b : Bundle) → Spells bytes b → read bytes ≡ Ok b
spells_read bytes b s = (spelling_is_reading bytes b).1 s

ok_same : {A B : Type 0} (r : Result A B) (a b : A) → r ≡ Ok a → r ≡ Ok b → a ≡ b
ok_same r a b e f = let h : Ok a ≡ Ok b = sym e ∙ f in cc

err_same : {A B : Type 0} (r : Result A B) (a b : B) → r ≡ Err a → r ≡ Err b → a ≡ b
err_same r a b e f = let h : Err a ≡ Err b = sym e ∙ f in cc

ok_or_err : {A B : Type 0} (r : Result A B) (a : A) (b : B) → r ≡ Ok a → r ≡ Err b → ⊥
ok_or_err r a b e f = let h : Ok a ≡ Err b = sym e ∙ f in cc

one_bundle : (bytes : List ℕ) (b c : Bundle) → Spells bytes b → Spells bytes c → b ≡ c
one_bundle bytes b c s t = ok_same (read bytes) b c (spells_read bytes b s) (spells_read bytes c t)

makes_one : (command : Command) (bytes text other : List ℕ) → MakesOf command bytes text → MakesOf command bytes other → text ≡ other
makes_one command bytes text other g h =
    g.is_text ∙ ap (text_for command) (one_bundle bytes g.bundle h.bundle g.spells h.spells) ∙ sym h.is_text

-- what spells a bundle has no first fault
pub spelled_or_not : (bytes : List ℕ) (b : Bundle) (refusal : Refusal) → Spells bytes b → IsFirstFault bytes refusal → ⊥
spelled_or_not bytes b refusal spells fault = ok_or_err (read bytes) b refusal (spells_read bytes b spells) fault

not_both : (command : Command) (bytes text : List ℕ) (refusal : Refusal) → MakesOf command bytes text → Refuses command bytes refusal → ⊥
not_both command bytes text refusal makes refuses = spelled_or_not bytes makes.bundle refusal makes.spells refuses.1

one_refusal : (command : Command) (bytes : List ℕ) (refusal other : Refusal) → Refuses command bytes refusal → Refuses command bytes other → refusal ≡ other
one_refusal command bytes refusal other r s = err_same (read bytes) refusal other r.1 s.1

-- ---- the words ask for one command

some_same : {A : Type 0} (o : Option A) (a b : A) → o ≡ Some a → o ≡ Some b → a ≡ b
some_same o a b e f = let h : Some a ≡ Some b = sym e ∙ f in cc

make_one : (words : List (List ℕ)) (m n : ℕ) → Asks words (command.Make m) → Asks words (command.Make n) → m ≡ n
make_one words m n (digits, is, read) (others, also, again) =
    let same : codes "make" ∷ digits ∷ [] ≡ codes "make" ∷ others ∷ [] = sym is ∙ also in
    let digits_same : digits ≡ others = cc in
    some_same (number_of others) m n (ap number_of (sym digits_same) ∙ read) again

-- words that are one and that are two
one_or_two : (words : List (List ℕ)) (a b c : List ℕ) → words ≡ a ∷ [] → words ≡ b ∷ c ∷ [] → ⊥
one_or_two words a b c e f = let h : a ∷ [] ≡ b ∷ c ∷ [] = sym e ∙ f in cc

asks_one : (words : List (List ℕ)) (a b : Command) → Asks words a → Asks words b → a ≡ b
asks_one words command.Plan command.Plan h k = refl
asks_one words command.Replay command.Replay h k = refl
asks_one words command.Plan command.Replay h k = absurd (let e : codes "plan" ∷ [] ≡ codes "replay" ∷ [] = sym h ∙ k in cc)
asks_one words command.Replay command.Plan h k = absurd (let e : codes "replay" ∷ [] ≡ codes "plan" ∷ [] = sym h ∙ k in cc)
asks_one words command.Plan (command.Make n) h (digits, is, read) = absurd (one_or_two words (codes "plan") (codes "make") digits h is)
asks_one words command.Replay (command.Make n) h (digits, is, read) = absurd (one_or_two words (codes "replay") (codes "make") digits h is)
asks_one words (command.Make n) command.Plan (digits, is, read) h = absurd (one_or_two words (codes "plan") (codes "make") digits h is)
asks_one words (command.Make n) command.Replay (digits, is, read) h = absurd (one_or_two words (codes "replay") (codes "make") digits h is)
asks_one words (command.Make m) (command.Make n) h k = ap command.Make (make_one words m n h k)

-- a command that reads the input isn't that of a number
pub reads_or_makes : (words : List (List ℕ)) (mine : Command) (number : ℕ) → Asks words mine → ReadsInput mine → Asks words (command.Make number) → ⊥
reads_or_makes words command.Plan number asks reads make = absurd (let e : command.Plan ≡ command.Make number = asks_one words command.Plan (command.Make number) asks make in cc)
reads_or_makes words command.Replay number asks reads make = absurd (let e : command.Replay ≡ command.Make number = asks_one words command.Replay (command.Make number) asks make in cc)
reads_or_makes words (command.Make other) number asks reads make = absurd reads

-- ---- what was taken is what was told

told_same : (rest : Option (List ℕ)) (items bytes : List ℕ) → IfSome rest (λ r. items ≡ r) → rest ≡ Some bytes → items ≡ bytes
told_same None items bytes h e = absurd (cc)
told_same (Some r) items bytes h e = h ∙ same r bytes e
  where
    same : (r bytes : List ℕ) → Some r ≡ Some bytes → r ≡ bytes
    same r bytes e = cc

taken_same : (command : Command) (rest : Option (List ℕ)) (items bytes : List ℕ) → IsTaken command rest items → rest ≡ Some bytes → items ≡ taken_text command bytes
taken_same command.Plan rest items bytes taken told = told_same rest items bytes taken told
taken_same command.Replay rest items bytes taken told = told_same rest items bytes taken told
taken_same (command.Make number) rest items bytes taken told = taken

made_same : (words : List (List ℕ)) (mine : Command) (number : ℕ) (rest : Option (List ℕ)) (items bytes : List ℕ) → Asks words mine → IsTaken mine rest items → Asks words (command.Make number) →
    items ≡ taken_text mine bytes
made_same words command.Plan number rest items bytes asks taken make = absurd (reads_or_makes words command.Plan number asks tt make)
made_same words command.Replay number rest items bytes asks taken make = absurd (reads_or_makes words command.Replay number asks tt make)
made_same words (command.Make m) number rest items bytes asks taken make = taken

-- such a command takes the input
reads_all : (command : Command) (bytes : List ℕ) → ReadsInput command → taken_text command bytes ≡ bytes
reads_all command.Plan bytes reads = refl
reads_all command.Replay bytes reads = refl
reads_all (command.Make number) bytes reads = absurd reads

-- a made text spells a bundle, so that only an input is refused
pub reads_if_refused : ((number : ℕ) → number < 2 ^ 64 → (b : Bundle) × Spells (made_text number) b) → (command : Command) (bytes : List ℕ) (refusal : Refusal) → IsMadeFor command bytes → IsFirstFault bytes refusal → ReadsInput command
reads_if_refused spells command.Plan bytes refusal made fault = tt
reads_if_refused spells command.Replay bytes refusal made fault = tt
reads_if_refused spells (command.Make number) bytes refusal made fault =
    let spelled = spells number made.0 in
    spelled_or_not (made_text number) spelled.0 refusal spelled.1 (subst (λ bytes. IsFirstFault bytes refusal) made.1 fault)

-- ---- the statuses

ok_or_memory : (result : Status) → result ≢ status.Usage → result ≢ status.ReadFault → ((refusal : Refusal) → result ≢ status.Refused refusal) → result ≢ status.WriteFault →
    (result ≡ status.Ok) ⊎ (result ≡ status.Memory)
ok_or_memory status.Ok usage read refused write = inl refl
ok_or_memory status.Usage usage read refused write = absurd (usage refl)
ok_or_memory (status.Refused refusal) usage read refused write = absurd (refused refusal refl)
ok_or_memory status.ReadFault usage read refused write = absurd (read refl)
ok_or_memory status.WriteFault usage read refused write = absurd (write refl)
ok_or_memory status.Memory usage read refused write = inr refl

refused_or_memory : (result : Status) (refusal : Refusal) → result ≢ status.Usage → result ≢ status.ReadFault → result ≢ status.Ok → result ≢ status.WriteFault →
    ((other : Refusal) → result ≡ status.Refused other → other ≡ refusal) → (result ≡ status.Refused refusal) ⊎ (result ≡ status.Memory)
refused_or_memory status.Ok refusal usage read ok write refused = absurd (ok refl)
refused_or_memory status.Usage refusal usage read ok write refused = absurd (usage refl)
refused_or_memory (status.Refused other) refusal usage read ok write refused = inl (ap (λ (x : Refusal). status.Refused x) (refused other refl))
refused_or_memory status.ReadFault refusal usage read ok write refused = absurd (read refl)
refused_or_memory status.WriteFault refusal usage read ok write refused = absurd (write refl)
refused_or_memory status.Memory refusal usage read ok write refused = inr refl

-- ---- the work on bytes, by how it ended

pub finished_written : (command : Command) (items : List ℕ) (old new : Option (List ℕ)) (before after room : ℕ) (text : List ℕ) → MakesOf command items text → Appends old new text →
    (length text ≤ room → after ≡ before) → IsFinished command items old new before after room status.Ok
finished_written command items old new before after room text makes appends calm = record {
  not_usage = λ e. cc;
  not_read_fault = λ e. cc;
  wrote = λ e. (text, makes, appends);
  refused = λ refusal e. absurd (cc);
  write_fault = λ e. absurd (cc);
  front = λ e. absurd (cc);
  sure_out = λ other also fits. (λ e. cc, calm (omega (arith, fits, ap (λ (text : List ℕ). length text) (makes_one command items text other makes also))));
}

pub finished_cut_off : (command : Command) (items : List ℕ) (old new : Option (List ℕ)) (before after room : ℕ) (text : List ℕ) → MakesOf command items text → AppendsFront old new text →
    Rose before after → (length text ≤ room → ⊥) → IsFinished command items old new before after room status.WriteFault
finished_cut_off command items old new before after room text makes appends rose no_room = record {
  not_usage = λ e. cc;
  not_read_fault = λ e. cc;
  wrote = λ e. absurd (cc);
  refused = λ refusal e. absurd (cc);
  write_fault = λ e. rose;
  front = λ e. (text, makes, appends);
  sure_out = λ other also fits. absurd (no_room (omega (arith, fits, ap (λ (text : List ℕ). length text) (makes_one command items text other makes also))));
}

-- ---- the work, where its command's bytes are there

-- what a command takes, and the input's count of faults with it
pub record IsRead (words : List (List ℕ)) (rest : Option (List ℕ)) (before after : ℕ) (is_sure : Bool) (command : Command) (items : List ℕ) : Type 0 where
  pub asks : Asks words command
  pub taken : IsTaken command rest items
  pub few : length items ≤ most_bytes
  pub later : before ≤ after
  pub sure : IsTrue is_sure → after ≡ before

module _ (words : List (List ℕ)) (rest : Option (List ℕ)) (before after : ℕ) (is_sure : Bool) (old new : Option (List ℕ)) (wrote wrote_after room : ℕ) (result : Status) (mine : Command) (items : List ℕ)
    (r : IsRead words rest before after is_sure mine items) (f : IsFinished mine items old new wrote wrote_after room result) where
  -- what another command takes, where the words ask for it, is what this one takes
  taken_other : (other : Command) (bytes : List ℕ) → Asks words other → rest ≡ Some bytes → taken_text other bytes ≡ items
  taken_other other bytes asks told =
      ap (λ command. taken_text command bytes) (asks_one words other mine asks r.asks) ∙ sym (taken_same mine rest items bytes r.taken told)

  makes_mine : (other : Command) (bytes text : List ℕ) → Asks words other → taken_text other bytes ≡ items → Gives other bytes text → MakesOf mine items text
  makes_mine other bytes text asks same gives =
      subst (λ command. MakesOf command items text) (asks_one words other mine asks r.asks) (subst (λ taken. MakesOf other taken text) same gives)

  refuses_mine : (other : Command) (bytes : List ℕ) (refusal : Refusal) → Asks words other → rest ≡ Some bytes → Refuses other bytes refusal → Refuses mine items refusal
  refuses_mine other bytes refusal asks told refuses = (
    subst (λ command. ReadsInput command) (asks_one words other mine asks r.asks) refuses.0,
    subst (λ taken. IsFirstFault taken refusal) (sym (reads_all other bytes refuses.0) ∙ taken_other other bytes asks told) refuses.1,
  )

  -- where the words are those of a number
  made_other : (number : ℕ) (bytes : List ℕ) → Asks words (command.Make number) → taken_text (command.Make number) bytes ≡ items
  made_other number bytes asks =
      ap (λ command. taken_text command bytes) (asks_one words (command.Make number) mine asks r.asks) ∙ sym (made_same words mine number rest items bytes r.asks r.taken asks)

  gives_here : (bytes text : List ℕ) → items ≡ taken_text mine bytes → MakesOf mine items text → Gives mine bytes text
  gives_here bytes text same makes = subst (λ taken. MakesOf mine taken text) same makes

  not_refused : (number : ℕ) (refusal : Refusal) → Asks words (command.Make number) → result ≢ status.Refused refusal
  not_refused number refusal make e = reads_or_makes words mine number r.asks (f.refused refusal e).0 make

  pub work_finished : IsWork words rest before after is_sure old new wrote wrote_after room result
  work_finished = record {
    wrote = λ e bytes told.
        let w = f.wrote e in
        (mine, w.0, r.asks, gives_here bytes w.0 (taken_same mine rest items bytes r.taken told) w.1, w.2);
    made = λ e number make.
        let w = f.wrote e in
        (mine, w.0, r.asks, gives_here [] w.0 (made_same words mine number rest items [] r.asks r.taken make) w.1, w.2);
    isolated = λ e asks bytes told.
        let makes = (f.wrote e).1 in
        kept_apart bytes makes.bundle (subst (λ taken. Spells taken makes.bundle) (sym (taken_other command.Replay bytes asks told)) makes.spells);
    refused = λ refusal e bytes told.
        let refuses = f.refused refusal e in
        let same : items ≡ bytes = taken_same mine rest items bytes r.taken told ∙ reads_all mine bytes refuses.0 in
        inr (mine, r.asks, subst (λ bytes. length bytes ≤ most_bytes) same r.few, (refuses.0, subst (λ bytes. IsFirstFault bytes refusal) same refuses.1));
    made_not_refused = not_refused;
    read_fault = λ e. absurd (f.not_read_fault e);
    made_not_read = λ number make. f.not_read_fault;
    write_fault = f.write_fault;
    front = λ e bytes told.
        let w = f.front e in
        (mine, w.0, r.asks, gives_here bytes w.0 (taken_same mine rest items bytes r.taken told) w.1, w.2);
    made_front = λ e number make.
        let w = f.front e in
        (mine, w.0, r.asks, gives_here [] w.0 (made_same words mine number rest items [] r.asks r.taken make) w.1, w.2);
    later = r.later;
    completes = λ other bytes text asks told few gives quiet calm.
        ok_or_memory result f.not_usage f.not_read_fault
        (λ refusal e. not_both mine items text refusal (makes_mine other bytes text asks (taken_other other bytes asks told) gives) (f.refused refusal e))
        (λ e. calm (f.write_fault e));
    made_completes = λ number make calm.
        ok_or_memory result f.not_usage f.not_read_fault (λ refusal. not_refused number refusal make) (λ e. calm (f.write_fault e));
    refuses = λ other bytes refusal asks told few refuses quiet.
        let mine_refuses = refuses_mine other bytes refusal asks told refuses in
        refused_or_memory result refusal f.not_usage f.not_read_fault
        (λ e. not_both mine items (f.wrote e).0 refusal (f.wrote e).1 mine_refuses)
        (λ e. not_both mine items (f.front e).0 refusal (f.front e).1 mine_refuses)
        (λ also e. one_refusal mine items also refusal (f.refused also e) mine_refuses);
    limits = λ other bytes asks reads told many quiet.
        absurd (omega (arith, r.few, many, ap (λ (bytes : List ℕ). length bytes) (sym (reads_all other bytes reads) ∙ taken_other other bytes asks told)));
    sure_input = λ sure. (f.not_read_fault, r.sure sure);
    sure_out = λ other bytes text asks told gives fits.
        f.sure_out text (makes_mine other bytes text asks (taken_other other bytes asks told) gives) fits;
    made_sure_out = λ number text make gives fits.
        f.sure_out text (makes_mine (command.Make number) [] text make (made_other number [] make) gives) fits;
  }

-- where the input was read
pub taken_input : (mine : Command) (rest : Option (List ℕ)) (items : List ℕ) → ReadsInput mine → IfSome rest (λ bytes. items ≡ bytes) → IsTaken mine rest items
taken_input command.Plan rest items reads told = told
taken_input command.Replay rest items reads told = told
taken_input (command.Make number) rest items reads told = absurd reads

-- ---- the work, where nothing is asked

pub work_unasked : (words : List (List ℕ)) (rest : Option (List ℕ)) (faults : ℕ) (is_sure : Bool) (taken : Option (List ℕ)) (wrote room : ℕ) → AskNothing words →
    IsWork words rest faults faults is_sure taken taken wrote wrote room status.Usage
work_unasked words rest faults is_sure taken wrote room nothing = record {
  wrote = λ e. absurd (cc);
  made = λ e. absurd (cc);
  isolated = λ e. absurd (cc);
  refused = λ refusal e. absurd (cc);
  made_not_refused = λ number refusal asks. absurd (nothing (command.Make number) asks);
  read_fault = λ e. absurd (cc);
  made_not_read = λ number asks. absurd (nothing (command.Make number) asks);
  write_fault = λ e. absurd (cc);
  front = λ e. absurd (cc);
  made_front = λ e. absurd (cc);
  later = omega arith;
  completes = λ command bytes text asks told few gives quiet calm. absurd (nothing command asks);
  made_completes = λ number asks calm. absurd (nothing (command.Make number) asks);
  refuses = λ command bytes refusal asks told few refuses quiet. absurd (nothing command asks);
  limits = λ command bytes asks reads told many quiet. absurd (nothing command asks);
  sure_input = λ sure. (λ e. cc, refl);
  sure_out = λ command bytes text asks told gives fits. absurd (nothing command asks);
  made_sure_out = λ number text asks gives fits. absurd (nothing (command.Make number) asks);
}
