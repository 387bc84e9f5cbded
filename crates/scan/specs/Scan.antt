-- Between functions: what they promise one another. No contract of an entry and no theorem rests on this file.
-- What a scan returns and leaves in the slices for the candidates (document 01, What each place turns away, Search: "row by row 21 (every
-- row) then 22 (eligible rows only)"; The report: "Candidates are the min(limit, eligible) least by approximate order"). One record, over
-- rows that are seen as views; refusals, distances and their order are search_spec's.
use Rattle.std.specs.Prelude.{◌≡◌, Bool, List, map, ℕ, ◌+◌, min, leb, length, take, Result}
use Rattle.std.specs.Float.{binary64}
use Rattle.std.specs.Float.Ieee.{to_bits}
use Rattle.float.specs.Order.{key_of}
use Rattle.rank.specs.Sort.{sort, least}
use Rattle.rank.specs.Rows.{passing}
use Rattle.rank.specs.Pairs.{pairs}
use Rattle.config.specs.Refusal.{Refusal, unless_refused}
use Rattle.config.specs.Told.{told, granted}
use Rattle.config.specs.declared.Refused.{Refused}
use Rattle.quantization.specs.View.{View}
use Rattle.format.specs.Fields.{rows_of}
use Rattle.search_spec.specs.Lent.{Wanted, every, only}
use Rattle.search_spec.specs.Lists.{approximate_at, by_approximate}
use Rattle.search_spec.specs.Scan.{rows_refusal}
use Rattle.scan.specs.declared.Scanned.{Scanned}

module _ (m : List ℕ) (view : ℕ → View) (query : View) where
  -- the order key of a row's approximate distance
  unfoldable pub near_key : ℕ → ℕ
  near_key r = key_of (to_bits binary64 (approximate_at m view query r))

  -- the candidates, in their order
  abbrev pub nearest : (ℕ → Bool) → ℕ → List ℕ
  nearest eligible limit = least (by_approximate m view query) limit (passing eligible (rows_of m))

-- up to where the rows from this one on are eligible, if it is
abbrev pub reach : Wanted → ℕ → ℕ → ℕ
reach every row rows = rows
reach (only ids) row rows = row + 1

-- a refusal, or how many candidates are kept, of how many eligible rows
pub record ScanOutcome : Type 0 where
  pub refusal : Refusal
  pub count : ℕ
  pub eligible : ℕ

-- what the code answers
abbrev pub scanned : Result Scanned Refused → ScanOutcome
scanned r = let s = granted (record { count = 0; eligible = 0 }) r in record { refusal = told r; count = s.count; eligible = s.eligible }

-- s is returned, and ks and rs hold the candidates, in some order, each with its key
pub record ScanIs (levels : ℕ) (m : List ℕ) (eligible : ℕ → Bool) (view : ℕ → View) (query : View) (limit : ℕ) (s : ScanOutcome) (ks rs : List ℕ) : Type 0 where
  pub refusal : s.refusal ≡ rows_refusal levels m eligible view query
  pub count : s.count ≡ unless_refused (rows_refusal levels m eligible view query) (min limit (length (passing eligible (rows_of m)))) 0
  pub total : s.eligible ≡ unless_refused (rows_refusal levels m eligible view query) (length (passing eligible (rows_of m))) 0
  pub kept : s.refusal.number ≡ 0
      → let l = nearest m view query eligible limit in
      sort leb (pairs (take s.count ks) (take s.count rs)) ≡ pairs (map (near_key m view query) l) l
