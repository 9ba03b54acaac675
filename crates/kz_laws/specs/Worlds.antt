-- Two runs that agree at a zone, and what is seen of its blocks.
use Rattle.std.specs.Prelude.{◌≡◌, ℕ, [], ◌<◌, if◌then◌else◌, List, length, map, slice_index_or, All, Ok}
use Rattle.std.specs.List.{AllByRecursion}
use Rattle.kz_model.specs.declared.bundle.Bundle.{Bundle}
use Rattle.kz_model.specs.declared.record.Plan.{Plan}
use Rattle.kz_model.specs.declared.record.Visit.{Visit}
use Rattle.kz_model.specs.declared.record.ZoneParams.{ZoneParams}
use Rattle.kz_model.specs.declared.step.Block.{Block}
use Rattle.kz_model.specs.declared.step.Reply.{Reply}
use Rattle.kz_model.specs.declared.step.Reply.TheVariants.{Bytes, Unmapped}
use Rattle.kz_model.specs.declared.step.Step.{Step}
use Rattle.kz_model.specs.declared.supply.SupplyEntry.{SupplyEntry}
use Rattle.kz_model.specs.Zone.State.{ZoneState, chunk_at}
use Rattle.kz_model.specs.Zone.Rules.{bytes_at}
use Rattle.kz_model.specs.Zone.Alone.{Course}
use Rattle.kz_model.specs.Run.Journal.{params_of, answers_at}
use Rattle.kz_model.specs.Types.Planned.{IsFitRow}
use Rattle.kz_model.specs.Run.Runs.{IsRun}
use Rattle.kz_model.specs.Grammar.Stages.{read}
use Rattle.kz_model.specs.Grammar.Valid.{IsValid}
use Rattle.kz_laws.specs.Agreement.{without_page, names_in_step, numbered, AreGranted}
use Rattle.kz_laws.specs.Renaming.{renamed_steps}

-- ---- what is seen

-- what a read of a block sees: that its chunk is unmapped, else its bytes from this offset on, so many
abbrev pub seen : ZoneParams → Block → ℕ → ℕ → ZoneState → Reply
seen p block off len state =
    if (chunk_at state.shared.chunks block.chunk).mapped
    then Bytes (bytes_at p block off len state.shared)
    else Unmapped

-- Two courses give the same replies, ask the same, and show the same bytes of each block at each place and at the end.
pub record AreSeenAlike (p : ZoneParams) (c d : Course) : Type 0 where
  pub replies : c.replies ≡ d.replies
  pub asks : c.asks ≡ d.asks
  pub before : (block : Block) (off len : ℕ) → map (seen p block off len) c.before ≡ map (seen p block off len) d.before
  pub end : (block : Block) (off len : ℕ) → seen p block off len c.end ≡ seen p block off len d.end

-- ---- two runs

-- a run of a valid bundle, with a plan whose zones are fit
pub record FitRun : Type 0 where
  pub bundle : Bundle
  pub plan : Plan
  pub journals : List (List Visit)
  pub log : List SupplyEntry
  pub valid : IsValid bundle
  pub rows : All IsFitRow plan.zones
  pub is : IsRun bundle plan journals log

-- the parameters of a zone of a run, and its steps
abbrev pub run_params : FitRun → ℕ → ZoneParams
run_params run zone = params_of run.bundle run.plan zone

abbrev pub run_steps : FitRun → ℕ → List (ℕ × Step)
run_steps run zone = run.is.steps zone

-- Two runs have the zone with the same parameters, and there the same steps, with names numbered as they first appear.
pub record HaveSameSteps (one other : FitRun) (zone : ℕ) : Type 0 where
  pub in_one : zone < length one.plan.zones
  pub in_other : zone < length other.plan.zones
  pub params : run_params one zone ≡ run_params other zone
  pub steps : numbered (run_steps one zone) ≡ numbered (run_steps other zone)

-- Two runs agree at a zone: they have the same steps there, and the same answers of the supply but for pages.
pub record AgreeAt (one other : FitRun) (zone : ℕ) : Type 0 where
  pub same : HaveSameSteps one other zone
  pub answers : map without_page (answers_at zone one.log) ≡ map without_page (answers_at zone other.log)

-- ---- names as texts

-- the text of a name's number
abbrev pub text_of_name : Bundle → ℕ → List ℕ
text_of_name b name = (slice_index_or b.names name (record { name = []; of = 0 })).name

-- different names have different texts
abbrev pub HasOwnTexts : Bundle → Type 0
HasOwnTexts b =
    (one other : ℕ) → one < length b.names → other < length b.names →
    text_of_name b one ≡ text_of_name b other → one ≡ other

-- a name of one bundle has the same text under its other number, in the other bundle
abbrev pub HasSameText : Bundle → Bundle → (ℕ → ℕ) → ℕ → Type 0
HasSameText b c f name = (name < length b.names) × (text_of_name c (f name) ≡ text_of_name b name)

-- each name of these steps has
abbrev pub HaveSameTexts : Bundle → Bundle → (ℕ → ℕ) → List (ℕ × Step) → Type 0
HaveSameTexts b c f steps =
    AllByRecursion (λ step. AllByRecursion (HasSameText b c f) (names_in_step step.1)) steps

-- ---- laws

-- Steps of two bundles that are the same with names read as texts are numbered alike.
abbrev pub SameTextsAreAlike : Type 0
SameTextsAreAlike =
    (b c : Bundle) (f : ℕ → ℕ) (steps : List (ℕ × Step)) → HasOwnTexts b → HaveSameTexts b c f steps →
    numbered (renamed_steps f steps) ≡ numbered steps

-- two runs that agree at a zone answer equally there, and show equal bytes of every block
abbrev pub AgreeingRunsAreAlike : Type 0
AgreeingRunsAreAlike =
    (one other : FitRun) (zone : ℕ) → AgreeAt one other zone →
    AreSeenAlike (run_params one zone) (one.is.made zone) (other.is.made zone)

-- where two runs have the same steps at a zone and the supply refuses neither there, they agree
abbrev pub GrantedRunsAgree : Type 0
GrantedRunsAgree =
    (one other : FitRun) (zone : ℕ) → HaveSameSteps one other zone →
    AreGranted (answers_at zone one.log) → AreGranted (answers_at zone other.log) →
    AgreeAt one other zone

-- in each bundle that a text spells, different names have different texts
abbrev pub ReadNamesAreApart : Type 0
ReadNamesAreApart = (bytes : List ℕ) (b : Bundle) → read bytes ≡ Ok b → HasOwnTexts b
