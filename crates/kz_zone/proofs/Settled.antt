-- Calls that change chunks and no number of them.
use Rattle.std.proofs.Common.{◌≡◌, if◌then◌else◌, List, length, Option, refl, ap, ◌∙◌, subst}
use Rattle.std.proofs.lemmas.List.{length-map}
use Rattle.rand_pcg.specs.Lcg.{Lcg}
use Rattle.kz_model.specs.declared.step.Block.{Block}
use Rattle.kz_model.specs.Zone.State.{Chunk, no_chunk}
use Rattle.kz_model.specs.Zone.Pick.{is_whole}
use Rattle.kz_model.specs.Zone.Rules.{all_idle}
use Rattle.kz_model.proofs.Standing.{length-all_idle}
use Rattle.kz_zone.specs.Chunks.{Chunks}
use Rattle.kz_zone.specs.Transit.{Transit}
use Rattle.kz_zone.specs.Unmapping.{unmapped_chunks}
use Rattle.kz_zone.specs.Zone.{Zone, IsSettled}
use Rattle.kz_zone.proofs.Refilling.{seen}

-- the zone after its chunks changed to these
pub settled : (z : Zone) (before after : Chunks) (chunks : List Chunk) (t : Transit) (lists left : List (List Block)) (words : Option Lcg) → seen before lists t words ≡ z → after ≡ record before { chunks = chunks } → length chunks ≡ length before.chunks → IsSettled z (seen after left t words)
settled z before after chunks t lists left words is made size =
    let F : Zone → Type 0 = λ y. IsSettled y (seen after left t words) in
    subst F is (record {
      same = record { params = ap (λ (c : Chunks). c.params) made; most_chunks = ap (λ (c : Chunks). c.most) made; most_gifts = refl };
      count = ap (λ (c : Chunks). length c.chunks) made ∙ size;
      bases = ap (λ (c : Chunks). c.bases) made;
    })

pub settled_idle : (z : Zone) (before after : Chunks) (blocks : List Block) (t : Transit) (lists left : List (List Block)) (words : Option Lcg) → seen before lists t words ≡ z → after ≡ record before { chunks = all_idle blocks before.chunks } → IsSettled z (seen after left t words)
settled_idle z before after blocks t lists left words is made = settled z before after (all_idle blocks before.chunks) t lists left words is made (length-all_idle blocks before.chunks)

pub settled_trimmed : (z : Zone) (before now after : Chunks) (blocks : List Block) (t : Transit) (lists left : List (List Block)) (words : Option Lcg) → seen before lists t words ≡ z →
    now ≡ record before { chunks = all_idle blocks before.chunks } → after ≡ record now { chunks = unmapped_chunks now.params.count now.chunks } → IsSettled z (seen after left t words)
settled_trimmed z before now after blocks t lists left words is made trimmed =
    let chunks = unmapped_chunks before.params.count (all_idle blocks before.chunks) in
    let size : length chunks ≡ length before.chunks = length-map (all_idle blocks before.chunks) (λ chunk. if is_whole before.params.count chunk then no_chunk else chunk) ∙ length-all_idle blocks before.chunks in
    settled z before after chunks t lists left words is (trimmed ∙ ap (λ (c : Chunks). record c { chunks = unmapped_chunks c.params.count c.chunks }) made) size
