-- Uses of a supply one after the other.
use Rattle.std.proofs.Common.{◌≡◌, ℕ, ◌+◌, ◌++◌, List, [], refl, ap, sym, ◌∙◌, arith, append_assoc}
use Rattle.std.proofs.lemmas.List.{append-nil}
use Rattle.kz_supply.specs.Exchange.{Exchange}
use Rattle.kz_supply.specs.Pages.{SupplyView, IsUsed}

-- what nothing was asked of is used with no exchange
pub unused : {Base : Type 0} (view : SupplyView Base) (before after : ℕ) → after ≡ before → IsUsed view view [] before after
unused view before after same = record {
  asked = sym (append-nil view.exchanges);
  params = refl;
  base = refl;
  grants = ap (λ n. view.grants + n) same;
  chunks = λ can. can;
  frames = λ can. can;
}

-- one use after another is a use
pub used_on : {Base : Type 0} (first mid last : SupplyView Base) (xs ys : List Exchange) (a b c : ℕ) → IsUsed first mid xs a b → IsUsed mid last ys b c → IsUsed first last (xs ++ ys) a c
used_on first mid last xs ys a b c h k = record {
  asked = k.asked ∙ ap (λ l. l ++ ys) h.asked ∙ append_assoc first.exchanges xs ys;
  params = k.params ∙ h.params;
  base = k.base ∙ h.base;
  grants = omega (arith, h.grants, k.grants);
  chunks = λ can. h.chunks (k.chunks can);
  frames = λ can. h.frames (k.frames can);
}

-- the numbers of chunks may be told otherwise
pub used_with : {Base : Type 0} (old new : SupplyView Base) (exchanges : List Exchange) (a b before after : ℕ) → IsUsed old new exchanges a b → b + before ≡ after + a → IsUsed old new exchanges before after
used_with old new exchanges a b before after h same = record {
  asked = h.asked;
  params = h.params;
  base = h.base;
  grants = omega (arith, h.grants, same);
  chunks = h.chunks;
  frames = h.frames;
}
