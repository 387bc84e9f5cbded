-- Opening passes 12 and 13 exactly where the cache has the size and begins with the head.
use mathlib.Core.Path.{◌≡◌, refl, sym, ap, ◌∙◌}
use mathlib.Core.Bool.{true}
use mathlib.Core.List.{List, ◌++◌, append_assoc}
use Prim.Native.Nat.{ℕ, ◌+◌, ◌≤◌, ◌<◌}
use native.Mathlib.Omega.{arith}
use lib.Dec.{eqb}
use borrow.Author.Tests.{eq-eqb, eqb-true}
use lib.ListN.{length, take, drop}
use lib.Seq.{take-add, take_at}
use Rattle.le.specs.Le.{le, le_at, bytes}
use Rattle.le.proofs.Chain.{held}
use Rattle.le.proofs.LeLaws.{AllBytes, le-bytes-all}
use Rattle.format.proofs.Heads.{both}
use Rattle.config.proofs.Refusals.{not_zero}
use Rattle.format.proofs.Same.{bytes_eq, bytes_refl, bytes_in, inside}
use Rattle.cache_format.specs.Cache.{cache_magic, counted, head_rest, cache_head}
use Rattle.cache_format.specs.Open.{cache_head_ok, same_identity, cache_head_number}

pub head-long : (version size : ℕ) (cache : List ℕ) → cache_head_ok version size cache ≡ true → length cache ≡ size
unfolding cache_head_ok
head-long version size cache h = eqb-true (length cache) size (both {a = eqb (length cache) size} h).0

-- the fields of a head
module _ (version : ℕ) (i between : List ℕ) where
  magic-at : take 8 (drop 0 (cache_head version i between)) ≡ cache_magic
  unfolding cache_head
  magic-at = refl

  version_at : take 4 (drop 8 (cache_head version i between)) ≡ bytes 4 version
  unfolding cache_head head_rest bytes
  version_at = refl

  length_at : take 4 (drop 12 (cache_head version i between)) ≡ bytes 4 (length i)
  unfolding cache_head head_rest counted bytes
  length_at = refl

  identity-at : drop 16 (cache_head version i between) ≡ i ++ between
  unfolding cache_head head_rest counted bytes
  identity-at = refl

-- a cache of the size that begins with the head passes, whatever stands between identity and rows
pub head-opens : (version size : ℕ) (i between cache : List ℕ) → version < 4294967296 → length i < 4294967296 → 16 + length i + length between ≤ size
    → length cache ≡ size → take (16 + length i + length between) cache ≡ cache_head version i between → cache_head_number version size i cache ≡ 0
unfolding cache_head_number cache_head_ok same_identity
head-opens version size i between cache low few fits l h =
    let t = 16 + length i + length between in
    let part : (p n : ℕ) → p + n ≤ 16 + length i → take n (drop p cache) ≡ take n (drop p (cache_head version i between)) =
    λ p n k. sym (inside t p n cache (rw l fits) (omega arith)) ∙ ap (λ (x : List ℕ). take n (drop p x)) h in
    let m : le_at 8 cache 0 ≡ le cache_magic = ap le (part 0 8 (omega arith) ∙ magic-at version i between) in
    let v : le_at 4 cache 8 ≡ version = ap le (part 8 4 (omega arith) ∙ version_at version i between) ∙ le-bytes-all 4 version low in
    let n : le_at 4 cache 12 ≡ length i = ap le (part 12 4 (omega arith) ∙ length_at version i between) ∙ le-bytes-all 4 (length i) few in
    let s : take (length i) (drop 16 cache) ≡ i = part 16 (length i) (omega arith) ∙ ap (take (length i)) (identity-at version i between) ∙ take_at i between (length i) refl in
    rw (eq-eqb _ _ l, eq-eqb _ _ m, eq-eqb _ _ v, eq-eqb _ _ n, s, bytes_refl i)

magic-back : bytes 8 (le cache_magic) ≡ cache_magic
unfolding bytes le
magic-back = refl

-- and a cache that passes is one, by the bytes that stand behind the identity
pub opens-head : (version size : ℕ) (i between cache : List ℕ) → 16 + length i + length between ≤ size → AllBytes cache → cache_head_number version size i cache ≡ 0
    → take (length between) (drop (16 + length i) cache) ≡ between
    → (length cache ≡ size) × (take (16 + length i + length between) cache ≡ cache_head version i between)
unfolding cache_head_number cache_head_ok same_identity cache_head head_rest counted
opens-head version size i between cache fits b h w =
    let k = held (cache_head_ok version size cache) not_zero h in
    let j = held (same_identity i cache) not_zero k.1 in
    let l = head-long version size cache k.0 in
    let q = both {a = eqb (le_at 8 cache 0) (le cache_magic)} (both {a = eqb (length cache) size} k.0).1 in
    let s = both {a = eqb (le_at 4 cache 12) (length i)} j.0 in
    let field : (n p v : ℕ) → p + n ≤ 16 → eqb (le_at n cache p) v ≡ true → take n (drop p cache) ≡ bytes n v =
    λ n p v e t. sym (bytes_in n p cache b (omega arith)) ∙ ap (bytes n) (eqb-true (le_at n cache p) v t) in
    (l, rw (take-add (16 + length i) (length between) cache, w, take-add 16 (length i) cache, take-add 12 4 cache, take-add 8 4 cache, field 8 0 (le cache_magic) (omega arith) q.0, magic-back, field 4 8 version (omega arith) q.1, field 4 12 (length i) (omega arith) s.0, bytes_eq _ i s.1) (ap (λ (x : List ℕ). cache_magic ++ (x ++ between)) (append_assoc (bytes 4 version) (bytes 4 (length i)) i)))
