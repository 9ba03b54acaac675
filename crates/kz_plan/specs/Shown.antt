-- What references and maps show.
use Rattle.std.specs.Prelude.{◌≡◌, ℕ, ◌%◌, List}
use Rattle.std.specs.Borrow.{Bor}
use Rattle.std.specs.BTreeMap as tree
use Rattle.std.specs.BTreeMap.{BTreeMap}
use Rattle.std.specs.Cmp.Lexicographic.{slice_cmp}
use Rattle.std.specs.List.{IsDistinct}
use Rattle.std.specs.Option.{option_map}
use Rattle.std.specs.Ordering.{nat_cmp}
use Rattle.std.specs.Str.{bytes_eq}
use Rattle.kz_model.specs.Types.Layouts.{place_of}
use Rattle.kz_model.specs.Types.Plan.{Signature}

-- no signature is there twice
abbrev pub AreDistinct : List Signature → Type 0
AreDistinct signatures = IsDistinct bytes_eq signatures

-- the map has the bucket of each signature: that at place i goes to bucket `i mod zones`
abbrev pub AreBuckets : BTreeMap (Bor (List ℕ)) ℕ → ℕ → List Signature → Type 0
AreBuckets buckets zones order =
    (signature : Signature) →
    tree.get_by (λ key. slice_cmp nat_cmp signature key.now) buckets
    ≡ option_map (λ place. place % zones) (place_of signature order)
