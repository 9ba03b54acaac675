-- What type lines say of names and braces: sentences over the declarations, each with those before it.
use Rattle.std.specs.Prelude.{◌≡◌, ◌≢◌, ◌<◌, ◌≤◌, ◌+◌, ◌⊎◌, ℕ, List, [], ◌∷◌, ◌++◌, length, map, slice_index_or, Ok, All, Contains}
use Rattle.kz_model.specs.declared.bundle.Kind.{Kind, Union', Row_of-Field, end_of-Field, more_of-Field, items-the_row-Field}
use Rattle.kz_model.specs.declared.bundle.Kind.TheVariants.{Struct}
use Rattle.kz_model.specs.declared.bundle.Field.{Field}
use Rattle.kz_model.specs.declared.bundle.TypeDecl.{TypeDecl}
use Rattle.kz_model.specs.declared.record.Layout.{Layout}
use Rattle.kz_model.specs.declared.grammar.Cause.{Cause}
use Rattle.kz_model.specs.declared.grammar.Cause.TheVariants as cause
use Rattle.kz_model.specs.Grammar.Form.{Draft}
use Rattle.kz_model.specs.Types.Layouts.{names_of, layouts_of}
use Rattle.kz_model.specs.Types.Plan.{classes_in_use}
use Rattle.kz_grammar.specs.Names.{AreDifferent}

-- ---- braces

abbrev mutual
  -- the braces of a union and of those in it, each by its fields
  pub braces_in : Kind → List (List Field)
  braces_in (Union' shape row) = items-the_row-Field _ row ∷ braces_in_row row
  braces_in other = []

  pub braces_in_row : {m : _} → Row_of-Field m → List (List Field)
  braces_in_row end_of-Field = []
  braces_in_row (more_of-Field kind name count rest) = braces_in kind ++ braces_in_row rest

abbrev pub braces_in_fields : List Field → List (List Field)
braces_in_fields [] = []
braces_in_fields (f ∷ fields) = braces_in f.kind ++ braces_in_fields fields

-- a type's own braces, and those of all unions in them
abbrev pub braces_of : TypeDecl → List (List Field)
braces_of decl = decl.fields ∷ braces_in_fields decl.fields

abbrev pub field_names : List Field → List (List ℕ)
field_names fields = map (λ f. f.name) fields

-- ---- sentences

-- a field of a struct names one of these types
abbrev pub IsOfKnown : List (List ℕ) → Kind → Type 0
IsOfKnown earlier (Struct name) = Contains earlier name
IsOfKnown earlier other = Unit {0}

-- Braces hold a field, their fields have different names, and structs are of types that are declared before.
pub record AreSoundBraces (earlier : List (List ℕ)) (fields : List Field) : Type 0 where
  pub some : fields ≢ []
  pub different : AreDifferent (field_names fields)
  pub known : All (λ f. IsOfKnown earlier f.kind) fields

-- a type has another name than those before it, and all its braces are sound
pub record IsSoundDeclaration (earlier : List (List ℕ)) (decl : TypeDecl) : Type 0 where
  pub new : ¬ Contains earlier decl.name
  pub braces : (fields : List Field) → Contains (braces_of decl) fields → AreSoundBraces earlier fields

-- each of these declarations, after types of these names
abbrev pub AreSoundDeclarations : List (List ℕ) → List TypeDecl → Type 0
AreSoundDeclarations earlier [] = Unit {0}
AreSoundDeclarations earlier (decl ∷ decls) =
    IsSoundDeclaration earlier decl × AreSoundDeclarations (earlier ++ decl.name ∷ []) decls

-- all types are sound, and have layouts whose classes the budget covers
pub record HasSoundTypes (d : Draft) : Type 0 where
  pub declared : AreSoundDeclarations [] d.types
  pub layouts : List Layout
  pub laid_out : layouts_of d.types ≡ Ok layouts
  pub enough : length (classes_in_use layouts) ≤ d.header.budget

-- ---- how a declaration breaks one

-- two fields have one name
pub record HasNameTwice (fields : List Field) : Type 0 where
  pub one : ℕ
  pub other : ℕ
  pub before : one < other
  pub within : other < length (field_names fields)
  pub same : slice_index_or (field_names fields) one [] ≡ slice_index_or (field_names fields) other []

-- a field is of a struct whose name is so
pub record HasStruct (fields : List Field) (Says : List ℕ → Type 0) : Type 0 where
  pub field : Field
  pub name : List ℕ
  pub there : Contains fields field
  pub struct : field.kind ≡ Struct name
  pub says : Says name

-- by the cause, what braces break, among all types that are declared and those before
abbrev pub BreaksBraces : List (List ℕ) → List (List ℕ) → Cause → List Field → Type 0
BreaksBraces declared earlier cause.SameName fields = HasNameTwice fields
BreaksBraces declared earlier cause.UnknownType fields = HasStruct fields (λ name. ¬ Contains declared name)
BreaksBraces declared earlier cause.ForwardUse fields =
    HasStruct fields (λ name. Contains declared name × ¬ Contains earlier name)
BreaksBraces declared earlier cause.Empty fields = fields ≡ []
BreaksBraces declared earlier (cause.TooLarge size) fields = 8192 < size
BreaksBraces declared earlier other fields = ⊥

-- some of these braces do
pub record HasBroken (declared earlier : List (List ℕ)) (why : Cause) (Are : List Field → Type 0) : Type 0 where
  pub fields : List Field
  pub there : Are fields
  pub broken : BreaksBraces declared earlier why fields

-- a declaration has the name of one before it, or braces that break a sentence
abbrev pub BreaksDeclaration : List (List ℕ) → List (List ℕ) → Cause → TypeDecl → Type 0
BreaksDeclaration declared earlier why decl =
    ((why ≡ cause.SameName) × Contains earlier decl.name)
    ⊎ HasBroken declared earlier why (Contains (braces_of decl))

-- The type line of this number breaks a sentence, and those before it break none; the first has number 9.
pub record IsDeclarationFault (types : List TypeDecl) (number : ℕ) (why : Cause) : Type 0 where
  pub before : List TypeDecl
  pub decl : TypeDecl
  pub after : List TypeDecl
  pub parts : types ≡ before ++ decl ∷ after
  pub numbered : number ≡ 9 + length before
  pub broken : BreaksDeclaration (names_of types) (names_of before) why decl
  pub first : AreSoundDeclarations [] before

-- the budget, in line 6, is below the number of classes in use, though no declaration has a fault
pub record IsBudgetFault (d : Draft) (number classes : ℕ) : Type 0 where
  pub numbered : number ≡ 6
  pub declared : AreSoundDeclarations [] d.types
  pub layouts : List Layout
  pub laid_out : layouts_of d.types ≡ Ok layouts
  pub counted : classes ≡ length (classes_in_use layouts)
  pub short : d.header.budget < classes

abbrev pub BreaksTypesAt : Draft → ℕ → Cause → Type 0
BreaksTypesAt d line (cause.BudgetShort classes) = IsBudgetFault d line classes
BreaksTypesAt d line why = IsDeclarationFault d.types line why
