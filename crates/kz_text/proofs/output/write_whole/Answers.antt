use Rattle.std.proofs.Common.{◌≤◌, ◌+◌, ℕ, List, length, take, drop, Option, arith, length-drop, ◌∙◌}
use Rattle.std.proofs.Math.Seq.{take-add}
use Rattle.std.proofs.lemmas.List.{take_rest}
use Rattle.std.proofs.KnownBytes.{Appends-trans}
use Rattle.std.specs.Io.KnownBytes.{Appends}
use Rattle.kz_text.specs.Streams.{AppendsFront}
use Rattle.kz_text.proofs.output.write_whole.Goals as goal

-- after the first i bytes, n more
appends_more : (old mid new : Option (List ℕ)) (bytes : List ℕ) (i n : ℕ) → Appends old mid (take i bytes) → Appends mid new (take n (drop i bytes)) → Appends old new (take (i + n) bytes)
appends_more old mid new bytes i n before now = rw (take-add i n bytes) (Appends-trans old mid new _ _ before now)

-- after the first i bytes, a part of the rest from its front
front_more : (old mid new : Option (List ℕ)) (bytes : List ℕ) (i : ℕ) → i ≤ length bytes → Appends old mid (take i bytes) → AppendsFront mid new (drop i bytes) → AppendsFront old new bytes
front_more old mid new bytes i within before now =
    record {
      count = i + now.count;
      within = omega (arith, length-drop i bytes, now.within);
      front = appends_more old mid new bytes i now.count before now.front;
    }

pub loop-at-preserved : goal.loop-at-preserved
loop-at-preserved g c =
    let h = c.loop-at.invariant in
    let e = simp take_rest at c.in-Ok.ensures in
    let n = length-drop c.loop-at.at c.args.bytes.now in
    record {
      within = omega (arith, n, e.bound);
      so_far = appends_more _ _ _ c.args.bytes.now c.loop-at.at c.in-Ok.count h.so_far e.ok;
      later = omega (arith, h.later, e.later);
      same = λ fits. (e.sure (omega (arith, n, h.room fits))).1 ∙ h.same fits;
      room = λ fits. omega (arith, n, h.room fits, e.room (omega (arith, n, h.room fits)));
    }

pub returns-in-Err-clause-err : goal.returns-in-Err-clause-err
returns-in-Err-clause-err g c =
    front_more _ _ _ c.args.bytes.now c.loop-at.at (omega arith) c.loop-at.invariant.so_far (simp take_rest at c.in-Err.ensures.err)
