-- Between functions: what they promise one another. No contract of an entry and no theorem rests on this file.
-- What scan, rerank and agreement count return together (document 01, What each place turns away, Search: "row by row 21 (every row) then 22
-- (eligible rows only), and last, by rising row of the candidates, 23 then 24"; The report: "the list is the min(k, eligible) least of those by
-- original order"; "an agreement count: .. refusing as a search does, 23 and 24 over all eligible rows").
use Rattle.std.specs.Prelude.{◌≡◌, Bool, cond, List, map, ℕ, leb, Float, length, take, Result}
use Rattle.rank.specs.Sort.{◌∈◌, Distinct, sort}
use Rattle.rank.specs.Rows.{passing}
use Rattle.config.specs.Refusal.{Refusal, then_refusal, unless_refused}
use Rattle.config.specs.Told.{told, granted}
use Rattle.config.specs.declared.Refused.{Refused}
use Rattle.quantization.specs.View.{View}
use Rattle.format.specs.Fields.{rows_of}
use Rattle.search_spec.specs.Lists.{by_original}
use Rattle.search_spec.specs.Scan.{rows_refusal, records_refusal}
use Rattle.search_spec.specs.Outcome.{same_places}
use Rattle.scan.specs.Scan.{nearest}
use Rattle.rerank.specs.Rerank.{key_at}
use Rattle.agreement.specs.Count.{all_ranked}
use Rattle.shortlist.specs.declared.Shortlisted.{Shortlisted}

-- what a scan hands on: how many rows are eligible, and some of these, in any order, each once
pub record KeptRows (m : List ℕ) (eligible : ℕ → Bool) (n : ℕ) (rs : List ℕ) : Type 0 where
  pub total : n ≡ length (passing eligible (rows_of m))
  pub once : Distinct (sort leb rs)
  pub within : (r : ℕ) → r ∈ rs → r ∈ passing eligible (rows_of m)

-- a refusal, or how many records were measured, of how many eligible rows, and at how many places the lists agree
pub record ShortlistOutcome : Type 0 where
  pub refusal : Refusal
  pub measured : ℕ
  pub eligible : ℕ
  pub agreement : ℕ

-- what the code answers ("All counts are then 0")
abbrev pub shortlisted : Result Shortlisted Refused → ShortlistOutcome
shortlisted r =
    let s = granted (record { measured = 0; eligible = 0; agreement = 0 }) r in
    record { refusal = told r; measured = s.measured; eligible = s.eligible; agreement = s.agreement }

-- r is returned for the candidates C, where `first` is what was refused before their records were looked at, and ks and rs hold C by original
-- order at their front; the agreement is that of the first k with all eligible rows
pub record RankedIs (first : Refusal) (agree : Bool) (k : ℕ) (m s : List ℕ) (q : List Float) (eligible : ℕ → Bool) (C : List ℕ) (r : ShortlistOutcome) (ks rs : List ℕ) : Type 0 where
  pub refusal : r.refusal ≡ then_refusal first (records_refusal m s q (cond agree (passing eligible (rows_of m)) C))
  pub measured : r.measured ≡ unless_refused r.refusal (length C) 0
  pub total : r.eligible ≡ unless_refused r.refusal (length (passing eligible (rows_of m))) 0
  pub rows : r.refusal.number ≡ 0 → take r.measured rs ≡ sort (by_original m s q) C
  pub keys : r.refusal.number ≡ 0 → take r.measured ks ≡ map (key_at m s q) (sort (by_original m s q) C)
  pub agreement : r.agreement ≡ cond agree (unless_refused r.refusal (same_places (take k (sort (by_original m s q) C)) (all_ranked m s q eligible)) 0) 0

-- over rows that are seen as views: the candidates are the nearest
abbrev pub ShortlistIs : Bool → ℕ → ℕ → List ℕ → List ℕ → List Float → (ℕ → Bool) → (ℕ → View) → View → ℕ → ShortlistOutcome → List ℕ → List ℕ → Type 0
ShortlistIs agree k levels m s q eligible view query limit r ks rs =
    RankedIs (rows_refusal levels m eligible view query) agree k m s q eligible (nearest m view query eligible limit) r ks rs
