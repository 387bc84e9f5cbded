-- Between functions: what they promise one another. No contract of an entry and no theorem rests on this file.
-- The query as it is kept for a search (document 01, The arithmetic): its own row, for the scan, and its coordinates as f64, for the records.
use Rattle.std.specs.Prelude.{◌≡◌, List, ℕ, ℤ, length, take, Float}
use Rattle.codes.specs.Codes.{Small}
use Rattle.quantization.specs.Encoder.{midpoints_of}
use Rattle.math.specs.Distance.{inverse_norm}
use Rattle.row.specs.Answer.{view_of}
use Rattle.search_spec.specs.Lent.{Encoding}
use Rattle.search_spec.specs.Lists.{encoded}
use Rattle.front.specs.declared.ReadQuery.{ReadQuery}

-- at a level count, by the formula's midpoints; `base` is that of 127
abbrev pub at_levels : ℕ → Encoding
at_levels levels = record { levels = levels; mids = midpoints_of levels }

-- q and the fronts of two slices are what a query makes
pub record Read (levels : ℕ) (query : List Float) (codes : List ℤ) (wide : List Float) (q : ReadQuery) : Type 0 where
  pub view : view_of q.query.row.scale q.query.row.norm (take (length query) codes) ≡ encoded (at_levels levels) query
  pub small : Small (take (length query) codes)
  pub same : take (length query) wide ≡ query
  pub inverse : q.inverse ≡ inverse_norm query
