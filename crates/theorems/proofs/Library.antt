-- A library, its cache and its resident rows, from the laws of their crates.
use mathlib.Core.Path.{◌≡◌, refl, sym, ap, ◌∙◌}
use mathlib.Core.Bool.{true}
use mathlib.Core.Logic.{◌↔◌, inl, inr}
use mathlib.Core.List.{List, [], ◌∷◌}
use Prim.Native.Nat.{ℕ, ◌≤◌, ◌<◌}
use lib.IntN.{ℤ}
use lib.ListN.{length}
use lib.Ieee.{Float}
use Rattle.le.proofs.LeLaws.{AllBytes}
use Rattle.config.specs.Refusal.{none}
use Rattle.format.specs.Fields.{rows_of}
use Rattle.format.specs.Head.{head_at}
use Rattle.format.specs.Same.{is_same_head}
use Rattle.format.proofs.Same.{Unchanged as Same, same-head_law, same_none}
use Rattle.entries.proofs.Entries.{entered, entry_keeps, lengths_of, ids_rise}
use Rattle.manifest.proofs.Heads.{checked-head}
use Rattle.segment.proofs.Places.{record_within}
use Rattle.segment.proofs.LibraryLaws.{Accepted as Passed, library_accepted, accepted_library, library_head}
use Rattle.quantized_cache.specs.Open.{state_of, opened_by, opened}
use Rattle.quantized_cache.specs.declared.CacheState.{CacheState}
use Rattle.quantized_cache.specs.Open.{Opened}
use Rattle.quantized_cache.proofs.Succeeds.{opened-head}
use Rattle.prepare.proofs.Opened.{prepared-opened}
use Rattle.prepare.proofs.Accepted.{accepted-prepared, never_5 as never_5_prepared}
use Rattle.resident.proofs.Theorems.{built-rows, built-head, accepted-built, never_5 as never_5_built}
use Rattle.resident.specs.declared.ResidentState.{ResidentState}
use Rattle.theorems.specs.Words.{Bytes, Accepted, LeftByPreparing, Opens, LeftByBuilding}
use Rattle.theorems.specs.Library.{Sound, Placed, Unchanged, Library}
use Rattle.theorems.proofs.Own.{prepared-passes, prepared-is, cached-rows, built-passes, resident-rows}

all-bytes : (l : List ℕ) → Bytes l → AllBytes l
all-bytes [] h = tt
all-bytes (b ∷ l) h = (h b (inl refl), all-bytes l (λ c i. h c (inr i)))

-- ---- demand 2

pub prepared-opens : (m s cache : List ℕ) (p : LeftByPreparing m s cache) → Bytes m → Bytes p.platform → Bytes p.root → (scratch : ℕ) → rows_of m ≤ scratch
    → opened m p.expected scratch cache p.platform p.root p.options ≡ record { refusal = none; state = state_of m cache }
prepared-opens m s cache p a b c scratch h =
    let e = prepared-is m s cache p in
    ap (λ (x : List ℕ). opened m p.expected scratch x p.platform p.root p.options) e
    ∙ (prepared-opened m p.expected p.scratch s p.platform p.root p.options (length p.lent) (prepared-passes m s cache p)
    (all-bytes m a) (all-bytes p.platform b) (all-bytes p.root c) scratch h p.lent).0
    ∙ ap (λ (x : List ℕ). let y : Opened = record { refusal = none; state = state_of m x } in y) (sym e)

-- ---- an accepted library

passed : (m s : List ℕ) (a : Accepted m s) → Passed m a.expected a.scratch s
passed m s a = library_accepted m a.expected a.scratch s a.passes

sound : (m s : List ℕ) (a : Accepted m s) → Sound m a.expected a.scratch s
sound m s a =
    let p = passed m s a in
    record {
      head = p.passed.head;
      rows = p.passed.rows;
      crc = p.passed.crc;
      room = p.passed.roomy;
      tiling = p.tiling;
      whole = p.whole;
      records = p.records;
      sums = p.sums;
    }

accepts : (m : List ℕ) (expected scratch : ℕ) (s : List ℕ) (t : Sound m expected scratch s) → Passed m expected scratch s
accepts m expected scratch s t = record {
  passed = record { head = t.head; rows = t.rows; crc = t.crc; roomy = t.room };
  tiling = t.tiling;
  whole = t.whole;
  entries = λ r k. entered m r t.rows k;
  inside = λ r k. rw t.whole (record_within m (lengths_of m t.rows) r (entry_keeps m r t.rows k));
  ids = λ r q l k. ids_rise m r q t.rows l k;
  records = t.records;
  sums = t.sums;
}

placed : (m s : List ℕ) → Accepted m s → (r : ℕ) → r < rows_of m → Placed m s r
placed m s a r k =
    let p = passed m s a in
    let e = p.entries r k in
    record {
      segment = e.segment;
      length_in = e.bound;
      metadata = e.metadata;
      end = e.end;
      inside = p.inside r k;
      ids = λ q l. p.ids q r l k;
    }

-- ---- the head test

-- document 01's sentence, in format's words and in these
told : {A : Type 0} (m was : List ℕ) → A ↔ Same m was → A ↔ Unchanged m was
told m was e = (
  λ a. let u = e.0 a in record { long = u.long; before = u.before; lengths = u.lengths },
  λ u. e.1 (record { long = u.long; before = u.before; lengths = u.lengths }),
)

opened_tests : (m was : List ℕ) → Bytes m → Bytes was → (cache : List ℕ) (state : CacheState) → Opens was cache state
    → (is_same_head m state.head ≡ true) ↔ Unchanged m was
unfolding opened_by
opened_tests m was b c cache state o =
    rw o.returned (told m was (opened-head was o.expected o.scratch cache o.platform o.root o.options o.passes m (all-bytes m b) (all-bytes was c)))

built_tests : (m was : List ℕ) → Bytes m → Bytes was
    → (s : List ℕ) (state : ResidentState) (codes : List ℤ) (scales : List Float) (norms : List ℤ) → LeftByBuilding was s state codes scales norms
    → (is_same_head m state.head ≡ true) ↔ Unchanged m was
built_tests m was b c s state codes scales norms l =
    rw (l.state-returned, l.returned)
    (told m was (built-head was l.expected l.scratch s l.lent_codes l.lent_scales l.lent_norms (built-passes was s state codes scales norms l) m (all-bytes m b) (all-bytes was c)))

pub library : Library
library = record {
  prepared-opened = prepared-opens;
  prepared-rows = cached-rows;
  built-rows = built-rows;
  views_agree = λ m s cache state codes scales norms p b r l. cached-rows m s cache p r l ∙ sym (resident-rows m s state codes scales norms b r l);
  accepted = sound;
  sound = λ m expected scratch s t. accepted_library m expected scratch s (accepts m expected scratch s t);
  placed = placed;
  accepted-prepared = λ m s a. accepted-prepared m a.expected a.scratch s a.passes;
  accepted-built = λ m s a. accepted-built m a.expected a.scratch s a.passes;
  never_5_prepared = λ m s a. never_5_prepared m a.expected a.scratch s a.passes;
  never_5_built = λ m s a. never_5_built m a.expected a.scratch s a.passes;
  checked-head = λ m was b c expected scratch h. told m was (checked-head m was (all-bytes m b) (all-bytes was c) expected scratch h);
  library_head = λ m was b c expected scratch s h. told m was (library_head m was (all-bytes m b) (all-bytes was c) expected scratch s h);
  opened-head = opened_tests;
  built-head = built_tests;
  same_head = λ m was b c h. told m was (same-head_law m was (head_at was) (all-bytes m b) (all-bytes was c) h refl);
  refused-head = same_none;
}
