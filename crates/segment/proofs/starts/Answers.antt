use native.Mathlib.Omega.{arith}
use mathlib.Core.Path.{◌≡◌, sym, ap, ◌∙◌}
use mathlib.Core.Bool.{true}
use Prim.Native.Nat.{ℕ, ◌+◌, ◌*◌, ◌≤◌, ◌<◌}
use lib.ListN.{set}
use Rattle.format.specs.Fields.{length_of}
use Rattle.format.specs.Head.{lengths_ok}
use Rattle.format.specs.declared.Manifest.{Manifest}
use Rattle.segment.specs.Record.{start_of}
use Rattle.segment.proofs.Places.{start_none, starts_none, starts_more, next_start}
use Rattle.segment.proofs.starts.Goals as goal

more : (m : Manifest) → lengths_ok m.bytes.now ≡ true → {n sum x : ℕ} → n < m.layout.segments → sum ≡ start_of m.bytes.now n → x ≡ length_of m.bytes.now n
    → (sum + x ≡ start_of m.bytes.now (n + 1)) × (sum + x ≤ 1024 * 67108864)
more m ok h e f = next_start m.bytes.now m.layout m.laid_out ok h e f

pub loop-n-init : goal.loop-n-init
loop-n-init c = let m = c.args.m.bytes.now in record { sum = sym (start_none m); starts = starts_none m }

pub overflow_add-sum : goal.overflow_add-sum
overflow_add-sum c =
    let h = (more c.args.m c.requires c.loop-n-test.true c.loop-n.invariant.sum c.segment_length-sum.ensures).1 in omega (arith, h)

pub loop-n-preserved : goal.loop-n-preserved
loop-n-preserved c =
    let L = c.loop-n in
    let m = c.args.m in
    let s = (more m c.requires c.loop-n-test.true L.invariant.sum c.segment_length-sum.ensures).0 in
    let few : L.n < 1024 = omega (arith, c.loop-n-test.true, m.laid_out.segments, m.laid_out.few) in
    record {
      sum = s;
      starts = ap (λ t. set t (L.n + 1) (L.sum + c.segment_length-sum.result)) L.invariant.starts ∙ starts_more m.bytes.now L.n few s;
    }
