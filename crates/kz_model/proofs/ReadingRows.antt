-- Texts and their first faults, computed from the definitions.
use Rattle.std.proofs.Common.{◌≡◌, ℕ, List, [], ◌∷◌, ◌++◌, map, codes, refl, Result, Ok, Err, Option, Some, None}
use Rattle.kz_model.specs.declared.grammar.Cause.{Cause}
use Rattle.kz_model.specs.declared.grammar.Cause.TheVariants.{BadLine, BadNumber, OutOfRange, SameName, UnknownType, ForwardUse, Empty, TooLarge, BudgetShort, UnknownName, NameOfTwoCpus, NameOfTwoTypes, GiveToSelf, RoundsDiffer, BadOrder, Truncated, Trailing}
use Rattle.kz_model.specs.declared.grammar.Refusal.{Refusal}
use Rattle.kz_model.specs.Grammar.Form.{form_of}
use Rattle.kz_model.specs.Grammar.Stages.{read}
use Rattle.kz_model.specs.Types.Plan.{all_classes, class_at}
use Rattle.kz_model.specs.declared.bundle.Bundle.{Bundle}
use Rattle.kz_model.specs.declared.bundle.Seed.TheVariants.{Number}
use Rattle.kz_model.specs.declared.bundle.Kind.TheVariants.{Ptr, Bytes}
use Rattle.kz_model.specs.Grammar.Steps.{Alloc, Write, Give, Read, Flush}
use Rattle.kz_model.specs.Grammar.Form.{Line, Machine, SeedOf, Cpus, Frames, Pages, Budget, Magazine, Depot, Declares, Opens, Does, Break, Orders, Turns, Ends}
use Rattle.kz_model.specs.Grammar.Spelling.{bundle_lines}

abbrev header : List ℕ
header = codes "machine 1\nseed plain\ncpus 1\nframes 8\npages 16\nbudget 2\nmagazine 2\ndepot 1\n"

abbrev base : List ℕ
base = header ++ codes "type proc { ptr next; u32 pid }\ncpu 0\n"

abbrev two_cpus : List ℕ
two_cpus = codes "machine 1\nseed plain\ncpus 2\nframes 8\npages 16\nbudget 2\nmagazine 2\ndepot 1\n" ++ codes "type proc { ptr next; u32 pid }\ncpu 0\n"

abbrev fault : {A : Type 0} → Result A Refusal → Option (ℕ × Cause)
fault (Ok t) = None
fault (Err r) = Some (r.line, r.cause)

-- texts, each with its first fault, if it has one
abbrev Row : Type 0
Row = List ℕ × Option (ℕ × Cause)

abbrev AreFaults : List Row → Type 0
AreFaults rows = map (λ (row : Row). fault (read row.0)) rows ≡ map (λ (row : Row). row.1) rows

-- the form of lines
pub form_faults : AreFaults (
    (base ++ codes "a x proc\nf x\nend\n", None) ∷
    (base ++ codes "a x proc\nf x\nf x\n", Some (14, Truncated)) ∷
    ([], Some (1, Truncated)) ∷
    (base ++ codes "end\n\n", Some (12, Trailing)) ∷
    (codes "machine 01\nseed plain\ncpus 1\nframes 8\npages 16\nbudget 2\nmagazine 2\ndepot 1\n", Some (1, BadNumber)) ∷
    (codes "machine 0\nseed plain\ncpus 1\nframes 8\npages 16\nbudget 2\nmagazine 2\ndepot 1\n", Some (1, OutOfRange)) ∷
    (codes "machine 1\nseed plain\ncpus 17\nframes 8\npages 16\nbudget 2\nmagazine 2\ndepot 1\n", Some (3, OutOfRange)) ∷
    (codes "machine 1\nseed plain\ncpus 1\nframes 18446744073709551616\npages 16\nbudget 2\nmagazine 2\ndepot 1\n", Some (4, BadNumber)) ∷
    (codes "machine 1\nseed plain\ncpus 1\nframes 8\npages  16\nbudget 2\nmagazine 2\ndepot 1\n", Some (5, BadLine)) ∷
    (codes "machine 1" ++ 13 ∷ 10 ∷ [], Some (1, BadNumber)) ∷
    (header ++ codes "type Proc { ptr a }\ncpu 0\nend\n", Some (9, BadLine)) ∷
    (header ++ codes "type p { bytes 0 a }\ncpu 0\nend\n", Some (9, OutOfRange)) ∷
    (base ++ codes "a x proc\nr x 0 33\nend\n", Some (12, OutOfRange)) ∷
    (base ++ codes "a x proc\nr x 9000 zz\nend\n", Some (12, BadNumber)) ∷
    (base ++ codes "a x proc\nw x 0 f\nend\n", Some (12, BadLine)) ∷
    (base ++ codes "cpu 0\nend\n", Some (11, BadLine)) ∷
    (base ++ codes "a x Proc\nend\n", Some (11, BadLine)) ∷
    (base ++ codes "order\norder\nend\n", Some (12, BadNumber)) ∷
    [])
unfolding all_classes class_at
form_faults = refl

-- types
pub types_faults : AreFaults (
    (header ++ codes "type p { }\ncpu 0\nend\n", Some (9, Empty)) ∷
    (header ++ codes "type p { ptr a; ptr a }\ncpu 0\nend\n", Some (9, SameName)) ∷
    (header ++ codes "type p { struct q a }\ncpu 0\nend\n", Some (9, UnknownType)) ∷
    (header ++ codes "type p { struct p a }\ncpu 0\nend\n", Some (9, ForwardUse)) ∷
    (header ++ codes "type p { bytes 8192 a[2] }\ncpu 0\nend\n", Some (9, TooLarge 16384)) ∷
    (codes "machine 1\nseed plain\ncpus 1\nframes 8\npages 16\nbudget 1\nmagazine 2\ndepot 1\n" ++ codes "type proc { ptr next; u32 pid }\ntype task { ptr a; ptr b; ptr c }\ncpu 0\nend\n", Some (6, BudgetShort 2)) ∷
    [])
unfolding all_classes class_at
types_faults = refl

-- names
pub names_faults : AreFaults (
    (base ++ codes "a x q\nend\n", Some (11, UnknownType)) ∷
    (base ++ codes "f x\nend\n", Some (11, UnknownName)) ∷
    (two_cpus ++ codes "a x proc\ncpu 1\na x proc\nend\n", Some (13, NameOfTwoCpus)) ∷
    (two_cpus ++ codes "a x proc\ng x 0\ncpu 1\nend\n", Some (12, GiveToSelf)) ∷
    (header ++ codes "type p { ptr a }\ntype q { u8 a }\ncpu 0\na x p\nz x q\nend\n", Some (13, NameOfTwoTypes)) ∷
    (two_cpus ++ codes "f x\ncpu 1\na x proc\nend\n", None) ∷
    [])
unfolding all_classes class_at
names_faults = refl

-- rounds and the order
pub order_faults : AreFaults (
    (base ++ codes "a x proc\norder\n0\n0\nend\n", Some (14, BadOrder)) ∷
    (base ++ codes "a x proc\norder\n0\nend\n", None) ∷
    (two_cpus ++ codes "--\ncpu 1\nend\n", Some (12, RoundsDiffer)) ∷
    [])
unfolding all_classes class_at
order_faults = refl

-- unions: eight may be open at one place, and the form of a type with one is computed
pub nine_unions : fault (form_of (header ++ codes "type p { union { union { union { union { union { union { union { union { union { u8 a } a } a } a } a } a } a } a } a } a }\ncpu 0\nend\n")) ≡ Some (9, BadLine)
nine_unions = refl

pub eight_unions : fault (form_of (header ++ codes "type p { union { union { union { union { union { union { union { union { u8 a } a } a } a } a } a } a } a } a }\ncpu 0\nend\n")) ≡ None
eight_unions = refl

-- the lines of what is read are the lines that were read
abbrev whole_text : List ℕ
whole_text = codes "machine 1\nseed 7\ncpus 2\nframes 8\npages 16\nbudget 2\nmagazine 2\ndepot 0\ntype p { ptr a; bytes 9 b[3] }\ncpu 0\na x p\n--\nw x 8 00ff\ng x 1\ncpu 1\nr x 0 32\n--\nflush p\norder\n0\n1\n--\n1\n0\n0\nend\n"

abbrev lines_again : Result Bundle Refusal → List Line
lines_again (Ok b) = bundle_lines b
lines_again (Err r) = []

pub read_again : lines_again (read whole_text) ≡
    Machine 1 ∷ SeedOf (Number 7) ∷ Cpus 2 ∷ Frames 8 ∷ Pages 16 ∷ Budget 2 ∷ Magazine 2 ∷ Depot 0
    ∷ Declares (record { name = codes "p"; fields = record { kind = Ptr; name = codes "a"; count = 1 } ∷ record { kind = Bytes 9; name = codes "b"; count = 3 } ∷ [] })
    ∷ Opens 0 ∷ Does (Alloc (codes "x") (codes "p")) ∷ Break ∷ Does (Write (codes "x") 8 (0 ∷ 255 ∷ [])) ∷ Does (Give (codes "x") 1)
    ∷ Opens 1 ∷ Does (Read (codes "x") 0 32) ∷ Break ∷ Does (Flush (codes "p"))
    ∷ Orders ∷ Turns 0 ∷ Turns 1 ∷ Break ∷ Turns 1 ∷ Turns 0 ∷ Turns 0 ∷ Ends ∷ []
unfolding all_classes class_at
read_again = refl
