-- The pages that a log grants and gives back.
use Rattle.std.proofs.Common.{◌≡◌, ◌+◌, List, [], ◌∷◌, ◌++◌, arith}
use Rattle.kz_model.specs.declared.supply.SupplyEntry.{SupplyEntry}
use Rattle.kz_model.specs.Run.Supply.{granted_in, returned_in}

pub granted_in-append : (xs ys : List SupplyEntry) → granted_in (xs ++ ys) ≡ granted_in xs + granted_in ys
granted_in-append [] ys = omega arith
granted_in-append (x ∷ xs) ys = omega (arith, granted_in-append xs ys)

pub returned_in-append : (xs ys : List SupplyEntry) → returned_in (xs ++ ys) ≡ returned_in xs + returned_in ys
returned_in-append [] ys = omega arith
returned_in-append (x ∷ xs) ys = omega (arith, returned_in-append xs ys)
