-- What a head that passes its tests says of the manifest.
use mathlib.Core.Path.{◌≡◌}
use mathlib.Core.Bool.{Bool, true, ◌&&◌, and-eq-true_iff}
use mathlib.Core.List.{List}
use Prim.Native.Nat.{ℕ, ◌+◌, ◌*◌, ◌≤◌, ◌<◌}
use native.Mathlib.Omega.{arith}
use lib.Dec.{leb}
use borrow.Author.Tests.{leb-true, eqb-true}
use lib.ListN.{length}
use Rattle.le.proofs.Chain.{held}
use Rattle.config.proofs.Refusals.{not_zero}
use Rattle.config.specs.Limits.{max_manifest_bytes, max_segments, max_records}
use Rattle.config.specs.Metric.{metric_of, is_metric}
use Rattle.config.specs.Space.{valid_config}
use Rattle.utf8.specs.Grammar.{span}
use Rattle.format.specs.Fields.{metric_byte, length_of_model, dimensions_of, m_of, ef_of, segments_of, rows_of, entries_at}
use Rattle.format.specs.Head.{opens_ok, kind_ok, identity_ok, counts_ok, head_number}
use Rattle.format.specs.Layout.{LaidOut}
use Rattle.format.specs.declared.Layout.{Layout}

pub both : {a b : Bool} → (a && b) ≡ true → (a ≡ true) × (b ≡ true)
both {a} {b} h = (and-eq-true_iff a b).0 h

-- the tests of a head, all passed
pub record Headed (m : List ℕ) : Type 0 where
  pub opened : opens_ok m ≡ true
  pub kind : kind_ok m ≡ true
  pub model_ends : leb (53 + length_of_model m) (length m) ≡ true
  pub identity : identity_ok m ≡ true
  pub counts : counts_ok m ≡ true

pub headed : (m : List ℕ) → head_number m ≡ 0 → Headed m
unfolding head_number
headed m e =
    let a = held (opens_ok m) not_zero e in
    let b = held (kind_ok m) not_zero a.1 in
    let c = held (leb (53 + length_of_model m) (length m)) not_zero b.1 in
    let d = held (identity_ok m) not_zero c.1 in
    let f = held (counts_ok m) not_zero d.1 in
    record { opened = a.0; kind = b.0; model_ends = c.0; identity = d.0; counts = f.0 }

pub in_range : (a b x : ℕ) → span a b x ≡ true → (a ≤ x) × (x ≤ b)
unfolding span
in_range a b x h = let p = both h in (leb-true a x p.0, leb-true x b p.1)

pub length_in : (m : List ℕ) → opens_ok m ≡ true → (66 ≤ length m) × (length m ≤ 67108864)
unfolding opens_ok
length_in m h = in_range 66 max_manifest_bytes (length m) (both h).0

pub model_in : (m : List ℕ) → kind_ok m ≡ true → (1 ≤ length_of_model m) × (length_of_model m ≤ 512)
unfolding kind_ok
model_in m h = in_range 1 512 (length_of_model m) (both {a = is_metric (metric_of (metric_byte m))} h).1

-- the numbers of a head that passes
pub record Bounds (m : List ℕ) : Type 0 where
  pub long : 66 ≤ length m
  pub short : length m ≤ 67108864
  pub model_low : 1 ≤ length_of_model m
  pub model_high : length_of_model m ≤ 512
  pub low : 1 ≤ dimensions_of m
  pub high : dimensions_of m ≤ 4096
  pub few : segments_of m ≤ 1024
  pub most : rows_of m ≤ 1000000
  pub end : length m ≡ 65 + length_of_model m + 12 * segments_of m + 20 * rows_of m

dimensions_in : (d m ef : ℕ) → valid_config d m ef ≡ true → (1 ≤ d) × (d ≤ 4096)
unfolding valid_config
dimensions_in d m ef h = let p = both (both (both (both (both h).0).0).0).0 in (leb-true 1 d p.0, leb-true d 4096 p.1)

pub bounds : (m : List ℕ) → head_number m ≡ 0 → Bounds m
unfolding identity_ok counts_ok
bounds m e =
    let h = headed m e in
    let l = length_in m h.opened in
    let n = model_in m h.kind in
    let d = dimensions_in (dimensions_of m) (m_of m) (ef_of m) (both h.identity).0 in
    let c = both h.counts in
    let r = both (both (both c.0).0).0 in
    let b = both {a = leb (65 + length_of_model m) (length m)} {b = leb (segments_of m) max_segments} r.0 in
    record {
      long = l.0;
      short = l.1;
      model_low = n.0;
      model_high = n.1;
      low = d.0;
      high = d.1;
      few = leb-true (segments_of m) max_segments b.1;
      most = leb-true (rows_of m) max_records r.1;
      end = eqb-true (length m) (65 + length_of_model m + 12 * segments_of m + 20 * rows_of m) c.1;
    }

-- what lies where a layout says
module _ {m : List ℕ} {l : Layout} (p : LaidOut m l) where
  pub table_in : {n : ℕ} → n < l.segments → l.table + 12 * n + 12 ≤ length m
  unfolding entries_at
  table_in h = let s = p.segments in let t = p.table in let e = p.end in omega (arith, s, t, e)

  pub entry_in : {r : ℕ} → r < l.rows → l.entries + 20 * r + 20 ≤ length m
  entry_in h = let s = p.rows in let t = p.entries in let e = p.end in omega (arith, s, t, e)
