-- The parts of a cache's head: their lengths, one stored behind the other, and one compared after the other.
use mathlib.Core.Path.{◌≡◌, refl, sym, ap, ◌∙◌}
use mathlib.Core.Bool.{◌&&◌, and_assoc}
use mathlib.Core.List.{List, [], ◌∷◌, ◌++◌, append_assoc}
use Prim.Native.Nat.{ℕ, ◌+◌, ◌-◌, ◌≤◌, ◌<◌}
use native.Mathlib.Nat.{suc-add, zero-add}
use native.Mathlib.Omega.{arith}
use lib.Dec.{eqb}
use borrow.Author.Tests.{eqb-true, eqb-false}
use lib.ListN.{length, take, drop, length-append, length-drop}
use lib.Seq.{length-take-le, drop-drop}
use Rattle.le.specs.Le.{le, bytes, paste}
use Rattle.le.proofs.Chain.{by}
use Rattle.le.proofs.LeLaws.{AllBytes, le-bytes-all, length_bytes}
use Rattle.le.proofs.Pastes.{paste-next}
use Rattle.format.specs.Same.{same_bytes}
use Rattle.format.proofs.Same.{bytes_eq, bytes_refl, bytes_in}
use Rattle.cache_format.specs.Cache.{counted, inner, identity, identity_length, head_rest, cache_head, bytes_of_cache, cache_magic}

-- ---- lengths

pub length_counted : (s : List ℕ) → length (counted s) ≡ 4 + length s
unfolding counted
length_counted s = simp (length-append, length_bytes)

pub length_inner : (m : List ℕ) → 12 ≤ length m → length (inner m) ≡ length m - 12
length_inner m h = length-take-le (length m - 12) (drop 8 m) (rw (length-drop 8 m) (omega arith))

pub length_identity : (platform root m : List ℕ) → 12 ≤ length m
    → length (identity platform root m) ≡ identity_length (length platform) (length root) (length m)
unfolding identity
length_identity platform root m h = rw (length-append, length-append, length_counted platform, length_counted root, length_inner m h)

pub length_head : (version : ℕ) (i between : List ℕ) → length (cache_head version i between) ≡ 16 + length i + length between
unfolding cache_head head_rest
length_head version i between = simp (length-append, length_bytes, length_counted) (omega arith)

pub length_cache : (version : ℕ) (i between rows : List ℕ) → length (bytes_of_cache version i between rows) ≡ length i + 20 + length between + length rows
unfolding bytes_of_cache
length_cache version i between rows = simp (length-append, length_bytes, length_head) (omega arith)

-- ---- storing, as the code does it

pub counted_stored : (d : List ℕ) (at : ℕ) (s : List ℕ) → at + 4 + length s ≤ length d → paste (paste d at (bytes 4 (length s))) (at + 4) s ≡ paste d at (counted s)
unfolding counted
counted_stored d at s h = let l = length_bytes 4 (length s) in paste-next d at (bytes 4 (length s)) s (at + 4) (omega arith) (omega arith)

pub identity_stored : (d platform root m : List ℕ) → 12 ≤ length m → 16 + identity_length (length platform) (length root) (length m) ≤ length d
    → paste (paste (paste d 16 (counted platform)) (20 + length platform) (counted root)) (20 + length platform + 4 + length root) (inner m)
    ≡ paste d 16 (identity platform root m)
unfolding identity
identity_stored d platform root m l h =
    let p = length_counted platform in
    let r = length-append (counted platform) (counted root) in
    let q = length_counted root in
    rw (paste-next d 16 (counted platform) (counted root) (20 + length platform) (omega arith) (omega arith)) (paste-next d 16 (counted platform ++ counted root) (inner m) (20 + length platform + 4 + length root) (omega arith) (omega arith))

pub magic-bytes : bytes 8 0x3130_3851_5343_4556 ≡ cache_magic
unfolding bytes
magic-bytes = refl

pub rest_stored : (d : List ℕ) (version : ℕ) (i between : List ℕ) → 16 + length i + length between ≤ length d
    → paste (paste (paste (paste d 8 (bytes 4 version)) 12 (bytes 4 (length i))) 16 i) (16 + length i) between ≡ paste d 8 (head_rest version i between)
unfolding head_rest counted
rest_stored d version i between h =
    let v = length_bytes 4 version in
    let n = length_bytes 4 (length i) in
    let a = length-append (bytes 4 version) (bytes 4 (length i)) in
    let b = length-append (bytes 4 version ++ bytes 4 (length i)) i in
    rw (
      paste-next d 8 (bytes 4 version) (bytes 4 (length i)) 12 (omega arith) (omega arith),
      paste-next d 8 (bytes 4 version ++ bytes 4 (length i)) i 16 (omega arith) (omega arith),
      paste-next d 8 (bytes 4 version ++ bytes 4 (length i) ++ i) between (16 + length i) (omega arith) (omega arith),
      append_assoc (bytes 4 version) (bytes 4 (length i)) i,
    )

pub head_stored : (d : List ℕ) (version : ℕ) (i between : List ℕ) → 16 + length i + length between ≤ length d
    → paste (paste d 0 cache_magic) 8 (head_rest version i between) ≡ paste d 0 (cache_head version i between)
unfolding cache_head
head_stored d version i between h = paste-next d 0 cache_magic (head_rest version i between) 8 refl (omega arith)

-- ---- comparing

-- one part after the other
same-append : (a b x : List ℕ) (k : ℕ) → length a ≤ length x
    → same_bytes (take (length a + k) x) (a ++ b) ≡ (same_bytes (take (length a) x) a && same_bytes (take k (drop (length a) x)) b)
same-append [] b x k h = rw (zero-add k)
same-append (y ∷ a) b [] k h = absurd (omega arith)
same-append (y ∷ a) b (z ∷ x) k h =
    rw (suc-add (length a) k, same-append a b x k (omega arith)) (sym (and_assoc (eqb z y) (same_bytes (take (length a) x) a) _))

same_split : (a b x : List ℕ) (n k : ℕ) → length a ≡ n → n ≤ length x
    → same_bytes (take (n + k) x) (a ++ b) ≡ (same_bytes (take n x) a && same_bytes (take k (drop n x)) b)
same_split a b x n k e h = rw (← e) (same-append a b x k (rw e h))

-- four bytes are those of a number where they stand for it
same_number : (x : List ℕ) (n : ℕ) → AllBytes x → 4 ≤ length x → n < 4294967296 → same_bytes (take 4 x) (bytes 4 n) ≡ eqb (le (take 4 x)) n
same_number x n b h l =
    let t = take 4 x in
    by (eqb (le t) n)
    (λ q. rw (q, ← eqb-true (le t) n q, bytes_in 4 0 x b h) (bytes_refl t))
    (λ q. by (same_bytes t (bytes 4 n)) (λ p. absurd (eqb-false (le t) n q (ap le (bytes_eq t (bytes 4 n) p) ∙ le-bytes-all 4 n l))) (λ p. p ∙ sym q))

pub same-counted : (x s : List ℕ) → AllBytes x → 4 ≤ length x → length s < 4294967296
    → same_bytes (take (4 + length s) x) (counted s) ≡ (eqb (le (take 4 x)) (length s) && same_bytes (take (length s) (drop 4 x)) s)
unfolding counted
same-counted x s b h l =
    rw (← same_number x (length s) b h l) (same_split (bytes 4 (length s)) s x 4 (length s) (length_bytes 4 (length s)) h)

pub same_parts : (platform root m cache : List ℕ) → 12 ≤ length m → 16 + identity_length (length platform) (length root) (length m) ≤ length cache
    → same_bytes (take (identity_length (length platform) (length root) (length m)) (drop 16 cache)) (identity platform root m)
    ≡ ((same_bytes (take (4 + length platform) (drop 16 cache)) (counted platform) && same_bytes (take (4 + length root) (drop (20 + length platform) cache)) (counted root))
    && same_bytes (take (length m - 12) (drop (20 + length platform + 4 + length root) cache)) (inner m))
unfolding identity
same_parts platform root m cache l h =
    let x = drop 16 cache in
    let p = 4 + length platform in
    let r = 4 + length root in
    let long = length-drop 16 cache in
    let both = length-append (counted platform) (counted root) in
    let cp = length_counted platform in
    let cr = length_counted root in
    let e1 : 16 + p ≡ 20 + length platform = omega arith in
    let e2 : 16 + (p + r) ≡ 20 + length platform + 4 + length root = omega arith in
    same_split (counted platform ++ counted root) (inner m) x (p + r) (length m - 12) (omega arith) (omega arith)
    ∙ rw (same_split (counted platform) (counted root) x p r cp (omega arith), drop-drop p 16 cache, drop-drop (p + r) 16 cache, e1, e2)
